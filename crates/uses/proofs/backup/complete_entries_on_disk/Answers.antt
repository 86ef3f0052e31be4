use Rattle.std.proofs.Common.{sym, subst}
use Rattle.std.proofs.lemmas.Result.{IfOk-weaker}
use Rattle.ignore.specs.FileWords.{IsTruthful, tree_on}
use Rattle.uses.proofs.backup.complete_entries_on_disk.Goals as goal

pub returns : goal.returns
returns g c = record {
  complete = λ disk truthful. IfOk-weaker c.complete_entries.result _ _
      (λ entries h. h (tree_on disk) (c.is_honest.ensures disk (subst (λ m. IsTruthful g.R.Machine g.R.Dir.Iterator.next_gives m disk) (sym c.new-files.ensures) truthful)))
      c.complete_entries.ensures.complete;
}
