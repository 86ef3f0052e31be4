-- A field that doesn't stand in the answer is one of those that are left, and so one of all.
use Rattle.std.proofs.Common.{true≢false, map, sym, ◌∙◌, subst}
use Rattle.serde_json.specs.View.{view, members_view}
use Rattle.vectors.specs.Agrees.{EachMember, Stands}
use Rattle.vectors.proofs.agree.has_wanted.Goals as goal

pub returns-then-not-has_field : goal.returns-then-not-has_field
returns-then-not-has_field c =
    let P = Stands (members_view c.args.fields.now.entries) (map (λ w. w.now) c.args.waiting.now) in (
      λ no. absurd (true≢false (sym no)),
      λ all.
          let left = subst (λ es. EachMember P (members_view es)) c.in-Some.ensures.steps (c.loop-name.invariant.0 all) in
          let stands = c.has_field.ensures.1 (subst (λ name. P name (view c.in-Some.value.now)) (sym c.as_str.ensures.value) left.0) in
          absurd (true≢false (sym stands ∙ c.if-not-has_field.true)),
    )
