mod Worked
mod Sorted
mod Literals
mod Reported
