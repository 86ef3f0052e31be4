use Rattle.std.proofs.Common.{◌∙◌, inl, inr, sym, subst}
use Rattle.std.specs.Str.{IsUtf8}
use Rattle.std.proofs.lemmas.Slice.Eq.{bytes_eq-Decides}
use Rattle.std.proofs.lemmas.Str.{IsUtf8-string_bytes}
use Rattle.ignore_glob.specs.declared.glob.kind.Kind.TheVariants.{Whole, Name, End}
use Rattle.ignore_glob.proofs.ExactLemmas.{form_here}
use Rattle.ignore_glob.proofs.FormLemmas.{whole_matches, matches_whole, name_matches, matches_name, end_matches, matches_end}
use Rattle.ignore_glob.proofs.glob.exact.Exact.matches.Goals as goal

pub returns-in-Whole : goal.returns-in-Whole
returns-in-Whole c =
    let now = c.args.self.now in
    let text = c.args.text.now in
    let key = c.as_str.result.now in
    let form = sym (form_here _ Whole _ key now c.as_str.ensures.value c.in-Whole.is c.self.view_is (IsUtf8-string_bytes c.self.inside.text) c.self.invariant) in
    let same = bytes_eq-Decides text key in (
      λ t. whole_matches now key text form c.utf8.text (same.0 (sym c.eq.ensures ∙ t)),
      λ m. c.eq.ensures ∙ same.1 (matches_whole now key text form c.utf8.text m),
    )

pub returns-in-Name : goal.returns-in-Name
returns-in-Name c =
    let now = c.args.self.now in
    let text = c.args.text.now in
    let key = c.as_str-in-Name.result.now in
    let spelt = IsUtf8-string_bytes c.self.inside.text in
    let form = sym (form_here _ Name _ key now c.as_str-in-Name.ensures.value c.in-Name.is c.self.view_is spelt c.self.invariant) in
    let fits = subst IsUtf8 (sym c.as_str-in-Name.ensures.value) spelt in (
      λ t. name_matches now key text form fits (c.has_name.ensures.yes t) c.utf8.text,
      λ m. elim (matches_name now key text form c.utf8.text m) [
        | inl e ↦ c.has_name.ensures.same e
        | inr cut ↦ c.has_name.ensures.after cut.0 cut.1
      ],
    )

pub returns-in-End : goal.returns-in-End
returns-in-End c =
    let now = c.args.self.now in
    let text = c.args.text.now in
    let key = c.as_str-in-End.result.now in
    let spelt = IsUtf8-string_bytes c.self.inside.text in
    let form = sym (form_here _ End _ key now c.as_str-in-End.ensures.value c.in-End.is c.self.view_is spelt c.self.invariant) in
    let fits = subst IsUtf8 (sym c.as_str-in-End.ensures.value) spelt in (
      λ t. end_matches now key text form fits (c.has_end.ensures.yes t),
      λ m. let cut = matches_end now key text form c.utf8.text m in c.has_end.ensures.no cut.0 cut.1,
    )
