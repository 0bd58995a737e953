pub mod LineTexts
mod Checked
mod Printed
mod Steps
mod Derivations
mod Worked
