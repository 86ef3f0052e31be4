pub mod AnswerLemmas
pub mod AskLemmas
pub mod EnterLemmas
pub mod ForestLemmas
pub mod FreeLemmas
pub mod HostLemmas
pub mod LawLemmas
pub mod NameLemmas
pub mod PlaceLemmas
pub mod SettleLemmas
pub mod SpotLemmas
pub mod StandLemmas
pub mod ToldLemmas
pub mod WhyLemmas
mod WorkedCalls
pub mod WorkedGuide
pub mod GivenLemmas
