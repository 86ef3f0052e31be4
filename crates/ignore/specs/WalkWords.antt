-- The words of clauses on builders, on matchers of single paths and on walks, in one place.
pub use Rattle.ignore_base.specs.Normalize.{normalize_of}
pub use Rattle.ignore_base.specs.Paths.{IsName, joined}
pub use Rattle.ignore_dir.specs.Above.{dirs_above, path_along, paths_above}
pub use Rattle.ignore_dir.specs.Load.{AreLoads, Loaded, Loads}
pub use Rattle.ignore_dir.specs.Query.{is_asked, is_dir_there, names_of, query}
pub use Rattle.ignore_dir.specs.Scene.{QueryScene, scene}
pub use Rattle.ignore_dir.specs.Standard.{standard}
pub use Rattle.ignore_dir.specs.Verdict.{is_ignore as does_ignore}
pub use Rattle.ignore_dir.specs.declared.dir.Dir.{Dir}
pub use Rattle.ignore_dir.specs.declared.incremental.IncrementalMatch.{IncrementalMatch}
pub use Rattle.ignore_dir.specs.declared.outside.Outside.{Outside}
pub use Rattle.ignore_dir.specs.declared.settings.Settings.{Settings}
pub use Rattle.ignore_query.specs.Agrees.{Agrees, kept_at}
pub use Rattle.ignore_query.specs.Forget.{IsSameKept, ListsKept, is_at_or_below, kept_dirs, kept_from}
pub use Rattle.ignore_query.specs.Fresh.{KeepsNothing}
pub use Rattle.ignore_query.specs.InTurn.{IsFromKept, Leaves, Question, ReportInTurn}
pub use Rattle.ignore_query.specs.Left.{LeavesMatcher}
pub use Rattle.ignore_query.specs.KeptRules.{kept_rules, rules_in, rules_of}
pub use Rattle.ignore_query.specs.Needs.{KeepsNeeded, Stays, needed}
pub use Rattle.ignore_query.specs.Reached.{dir_of, scene_of}
pub use Rattle.ignore_query.specs.Reports.{reported}
pub use Rattle.ignore_query.specs.Where.{WhereAgrees}
pub use Rattle.ignore_query.specs.declared.asked.Asked.{Asked}
pub use Rattle.ignore_query.specs.declared.incremental.IncrementalIgnore.{IncrementalIgnore}
pub use Rattle.ignore_query.specs.declared.kept.Cache.{Cache}
pub use Rattle.ignore_query.specs.declared.kept.Kept.{Kept}
pub use Rattle.ignore_why.specs.Cited.{Named, named_of}
pub use Rattle.ignore_why.specs.Texts.{query_why_text}
pub use Rattle.ignore_why.specs.QueryWhy.{query_why, query_why_of}
pub use Rattle.ignore_walk.specs.Agreement.{IsKeptBelow, IsOpen, Reachable, is_kept, is_within, keeps}
pub use Rattle.ignore_walk.specs.Answered.{IsInode, IsMetadata}
pub use Rattle.ignore_walk.specs.Below.{AnswersBelow, IsAtOrBelow, KeepsBelow, StaysBelow}
pub use Rattle.ignore_walk.specs.Branch.{Branch, entered}
pub use Rattle.ignore_walk.specs.Child.{is_dir_kind}
pub use Rattle.ignore_walk.specs.Entry.{Entry, Item, entry_of, inode_of, item_of, leads_by_link, metadata_of, named_or, problem_in, stdin_entry}
pub use Rattle.ignore_walk.specs.Finished.{IsEnd, IsFinished}
pub use Rattle.ignore_walk.specs.GoesOn.{AllGoOn, GoesOn, HasNoEnd}
pub use Rattle.ignore_walk.specs.Nexts.{EndsBy, EndsOrGoesOn, NextGives, Nexts, Remaining, Shows, Starts}
pub use Rattle.ignore_walk.specs.Paces.{IsStep, TookSteps, Work, work_at, work_of}
pub use Rattle.ignore_walk.specs.Runs.{EndsEarly, EndsLast, IsBegun, IsRun}
pub use Rattle.ignore_walk.specs.Scene.{Scene, queries}
pub use Rattle.ignore_walk.specs.Suits.{Suits, order_by}
pub use Rattle.ignore_walk.specs.Visits.{IsAfterParent, IsShown, IsShownBelow, IsYielded}
pub use Rattle.ignore_walk.specs.Walked.{IsOrdered, WalkedOne, leads_in}
pub use Rattle.ignore_walk.specs.Whole.{Whole, WalkedRoots, root_entry}
pub use Rattle.ignore_walk.specs.declared.callbacks.Callbacks.{Ghosts as Callbacks}
pub use Rattle.ignore_walk.specs.declared.callbacks.Order.{Order}
pub use Rattle.ignore_walk.specs.declared.entry.DirEntry.{DirEntry}
pub use Rattle.ignore.specs.Agreement.{IsKeptByOne, IsMatcherIn, IsReached, answer_at, matcher_root}
pub use Rattle.ignore.specs.Asked.{IsOutside}
pub use Rattle.ignore.specs.Builder.{unset, with_root}
pub use Rattle.ignore.specs.Matchers.{AreMatchers, asked_by}
pub use Rattle.ignore_walk.specs.declared.callbacks.Order.TheVariants.{ByName, ByPath, Listed}
