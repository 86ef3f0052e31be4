pub mod IndexLemmas
pub mod SlotLemmas
pub mod MaskLemmas
pub mod OtherLemmas
pub mod ScanLemmas
pub mod ParentLemmas
pub mod AddLemmas
mod BucketLemmas
mod WorkedForms
mod SetsOnly
