use Rattle.std.proofs.Common.{◌++◌, ◌∷◌, [], ℕ, List, append_assoc, ap, refl, string_bytes, ◌∙◌}
use Rattle.ignore_base.specs.Paths.{join_of}
use Rattle.ignore_walk.specs.declared.above.Way.{Way}
use Rattle.ignore_walk.proofs.SharedLemmas.{come-next}
use Rattle.ignore_walk.proofs.above.Way.go.Goals as goal

pub returns-clause-gone : goal.returns-clause-gone
unfolding lib.Utf8.encode
returns-clause-gone c = λ g slots kept seen names path text passed.
    let w = c.args.self.now in
    let name = c.args.name.now in
    let next : Way = record { path = c.in_ok-self.field-0; text = c.push.new.self; place = w.place; added = w.added; errors = w.errors } in
    come-next g slots kept seen names name w next path text
    (c.in_ok-self.ensures ∙ ap (λ (p : List ℕ). join_of p name) c.as_str.ensures.value)
    (c.in_ok-push.ensures.bytes ∙ (ap (λ (t : List ℕ). t ++ 47 ∷ []) c.in_ok-push_str.ensures.bytes
    ∙ append_assoc (string_bytes w.text) name (47 ∷ []))) refl refl refl passed
