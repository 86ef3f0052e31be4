use Rattle.std.proofs.Common.{◌≡◌, ◌∙◌, Bool, List, ℕ, ap}
use Rattle.ignore_dir.specs.Verdict.{is_ignore, placed_verdict}
use Rattle.ignore_levels.specs.Levels.{counting}
use Rattle.ignore_walk.specs.Branch.{placed_to}
use Rattle.ignore_walk.specs.Child.{is_dir_kind}
use Rattle.ignore_walk.specs.Entry.{entry_of}
use Rattle.ignore_walk.specs.Scene.{queries}
use Rattle.ignore_walk.proofs.PlaceLemmas.{ignores-is}
use Rattle.ignore_walk.proofs.TextLemmas.{after-to}
use Rattle.ignore_walk.proofs.skip.is_ignored.Goals as goal

pub returns : goal.returns
returns g c = record {
  value = λ s root b name settings outside chain text path.
      let given = c.args.ground.now in
      let st = given.settings.now in
      let o = given.outside.now in
      let t = c.args.text.now in
      let e = entry_of c.args.entry.now in
      let whole = placed_to s root b in
      let same = ignores-is s root (c.steps_are_whole.ensures.entered (queries s root)) (c.steps_are_whole.ensures.verdict (queries s root))
      b name e.path t (is_dir_kind e.kind) st o settings outside text path in
      let found : c.in_ok-found.found ≡ placed_verdict st o (counting whole) t c.path.result.now c.is_dir_kind.result =
      c.in_ok-found.ensures.value (counting whole) chain (after-to s root b name t text) in
      c.is_ignore.ensures
      ∙ (ap is_ignore
      (found
      ∙ (c.what_counts_decides.ensures.same st o whole t c.path.result.now c.is_dir_kind.result
      ∙ (ap (λ (p : List ℕ). placed_verdict st o whole t p c.is_dir_kind.result) c.path.ensures
      ∙ ap (λ (d : Bool). placed_verdict st o whole t e.path d) (c.is_dir_kind.ensures ∙ ap is_dir_kind c.file_type.ensures))))
      ∙ same);
}
