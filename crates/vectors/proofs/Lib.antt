mod Names
mod Objects
mod Cuts
mod Counting
mod Worked
