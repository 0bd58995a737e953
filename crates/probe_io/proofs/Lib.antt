pub mod CauseLemmas
pub mod WrittenLemmas
pub mod Texts
mod FolderLemmas
mod Worked
pub mod Putting
