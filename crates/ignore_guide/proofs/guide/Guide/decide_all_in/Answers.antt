use Rattle.std.proofs.Common.{◌++◌, ◌∷◌, [], List, None, false, map, take, sym, ap, ◌∙◌}
use Rattle.std.proofs.lemmas.List.{map_more, take_all}
use Rattle.ignore_base.specs.Paths.{join_of}
use Rattle.ignore_dir.specs.declared.incremental.IncrementalMatch.{IncrementalMatch}
use Rattle.ignore_guide.specs.Guide.{decided_listed}
use Rattle.ignore_guide.specs.declared.judge.Entry.{Entry}
use Rattle.ignore_guide.proofs.guide.Guide.decide_all_in.Goals as goal

pub loop-asked-preserved : goal.loop-asked-preserved
loop-asked-preserved c = λ at s.
    let f = decided_listed c.args.self.now.settings c.args.self.now.outside c.args.dir.now.depth at in
    let xs = c.args.listed.now in
    let i = c.loop-asked.asked-index in
    let below = c.as_str-in-loop-asked.ensures.value ∙ c.in_ok-below.ensures ∙ ap (λ p. join_of p []) c.as_str.ensures in
    let nothing : Entry = record { name = record { ref_ptr = (0, 0); now = [] }; is_dir = false; size = None } in
    c.in_ok-push.ensures.items
    ∙ (ap (λ (l : List IncrementalMatch). l ++ c.in_ok-found.found ∷ []) (c.loop-asked.invariant at s)
    ∙ (ap (λ (m : IncrementalMatch). map f (take i xs) ++ m ∷ []) (c.in_ok-found.ensures.value below at s)
    ∙ sym (map_more f xs i nothing c.loop-asked-test.true)))

pub returns : goal.returns
returns c = record {
  value = λ at s.
      let f = decided_listed c.args.self.now.settings c.args.self.now.outside c.args.dir.now.depth at in
      c.loop-asked.invariant at s ∙ ap (map f) (take_all _ _ c.loop-asked-test.false);
}
