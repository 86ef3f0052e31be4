pub mod Components
pub mod Places
pub mod Walks
pub mod EntryLemmas
pub mod NodeLemmas
pub mod Present
mod DiskLemmas
mod Heard
mod Ranks
mod JoinedName
mod Leads
mod Numbered
mod Absent
mod ShownLemmas
mod Unstated
mod GrownLemmas
mod RemovedLemmas
mod Honest
mod Truthful
mod WorkedTable
mod ChangesOnly
mod AnswersOnly
