-- When a walk was finished.
pub use Rattle.ignore_walk.specs.Finished.{IsEnd, IsFinished}
