pub mod FdLemmas
pub mod LoopLemmas
pub mod QuoteLemmas
pub mod SizeLemmas
pub mod WorkedOptions
