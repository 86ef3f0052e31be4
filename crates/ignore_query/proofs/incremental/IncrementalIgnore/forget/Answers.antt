use Rattle.std.proofs.Common.{◌∷◌, [], not, None, cond, ap, ◌∙◌, string_bytes}
use Rattle.std.proofs.lemmas.Bool.{and_parts}
use Rattle.std.specs.Str.{bytes_eq}
use Rattle.ignore_dir.specs.Chains.{slashed}
use Rattle.ignore_dir.specs.Query.{is_clean}
use Rattle.ignore_query.specs.Listed.{kept_at}
use Rattle.ignore_query.specs.Reached.{scene_of}
use Rattle.ignore_query.proofs.ForgetLemmas.{Forgets, key_by_names, later_agrees, left_agrees}
use Rattle.ignore_query.proofs.incremental.IncrementalIgnore.forget.Goals as goal

pub returns-then-not-is_asked-clause-agrees : goal.returns-then-not-is_asked-clause-agrees
returns-then-not-is_asked-clause-agrees c = λ before after loads later old same.
    later_agrees c.args.self.now.asked before after loads later c.args.self.now.cache old same

pub returns-clause-forgotten : goal.returns-clause-forgotten
returns-clause-forgotten c = λ names clean asked.
    let clean' = (and_parts (not (bytes_eq (string_bytes c.args.self.now.asked.root) (45 ∷ []))) (is_clean c.args.dir.now) asked).1 in
    c.forget.ensures.looked (slashed names)
    ∙ ap (λ b. cond b None (kept_at c.args.self.now.cache names)) (key_by_names c.args.dir.now names clean' clean)

pub returns-clause-agrees : goal.returns-clause-agrees
returns-clause-agrees c = λ before after loads later old same.
    let a = c.args.self.now.asked in
    let forgets : Forgets c.args.self.now.cache c.forget.new.self c.args.dir.now = record {
      same = c.forget.ensures.above;
      look = c.forget.ensures.looked;
      keeps = c.forget.ensures.levels;
      chains = c.forget.ensures.chains;
    } in
    let kept = left_agrees (scene_of a before loads) c.args.self.now.cache c.forget.new.self c.args.dir.now old forgets in
    later_agrees a before after loads later c.forget.new.self kept same
