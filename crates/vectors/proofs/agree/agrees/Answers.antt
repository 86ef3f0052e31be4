-- An answer that has fields is the object of these fields alone.
use Rattle.std.proofs.Common.{IsSome, sym, ◌∙◌, subst}
use Rattle.serde_json.specs.Data.{Members}
use Rattle.serde_json.specs.Find.{get_member}
use Rattle.serde_json.specs.View.{view, members_view}
use Rattle.vectors.specs.Agrees.{EachMember}
use Rattle.vectors.proofs.Objects.{is_object, same_members}
use Rattle.vectors.proofs.agree.agrees.Goals as goal

pub returns-then-has_wanted : goal.returns-then-has_wanted
returns-then-has_wanted c =
    let fields = members_view c.in-Some.fields.now.entries in
    let is = is_object (view c.args.answer.now) fields c.in-Some.ensures in
    let no_other = λ (ms : Members). EachMember (λ name _. IsSome (get_member name (members_view c.args.wanted.now.entries))) ms in (
      λ yes. (fields, is, c.has_wanted.ensures.0 c.if-has_wanted.true, c.has_no_other.ensures.0 yes),
      λ agrees. c.has_no_other.ensures.1 (subst no_other (same_members agrees.0 fields (sym agrees.1 ∙ is)) agrees.3),
    )
