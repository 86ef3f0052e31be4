pub mod LineLemmas
pub mod ItemLemmas
pub mod TrimLemmas
pub mod WalkLemmas
pub mod StopLemmas
pub mod CheckLemmas
mod WorkedStops
mod PrintsOnly
mod TrimsOnly
mod EndsOnly
mod ListsOnly
mod PromisesOnly
pub mod WriteLemmas
pub mod BufferLemmas
pub mod GoneLemmas
