pub mod ReadLemmas
pub mod JudgeLemmas
pub mod LineLemmas
pub mod NoteLemmas
pub mod TextLemmas
pub mod WorkedLints
pub mod WorkedReads
