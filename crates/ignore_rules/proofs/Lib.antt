pub mod AnswerLemmas
pub mod BuilderLemmas
pub mod CutLemmas
pub mod FileLemmas
pub mod MarkLemmas
pub mod IndexLemmas
pub mod OffsetLemmas
pub mod ParentLemmas
pub mod TextLemmas
pub mod TrailingLemmas
mod WorkedLines
pub mod LinesOnly
pub mod FilesOnly
mod AnswersOnly
pub mod FileResult
