use Rattle.std.proofs.Common.{◌≡◌, ℕ, List, Option, Some, None, Bor, option_map, string_bytes, refl, sym, ap, ◌∙◌}
use Rattle.std.specs.Option.{option_copied}
use Rattle.ignore_types.specs.TypeMatch.{TypeGlob}
use Rattle.ignore_types.specs.Types.{Definition}
use Rattle.ignore_why.specs.Cited.{Typed, typed}
use Rattle.ignore_why.proofs.cause.named_type.Goals as goal

no_type : (found : Option TypeGlob) → option_map (λ (t : TypeGlob). t.definition) found ≡ None → None ≡ option_map typed found
no_type None h = refl
no_type (Some t) h = absurd (cc (h))

no_glob : (found : Option TypeGlob) → option_map (λ (t : TypeGlob). t.glob) found ≡ None → None ≡ option_map typed found
no_glob None h = refl
no_glob (Some t) h = absurd (cc (h))

abbrev of : List ℕ → List ℕ → Option Typed
of name glob = Some (record { name = name; glob = glob })

both : (found : Option TypeGlob) (d : Definition) (name glob : List ℕ) → option_map (λ (t : TypeGlob). t.definition) found ≡ Some d
    → option_map (λ (t : TypeGlob). t.glob) found ≡ Some glob → name ≡ d.name → of name glob ≡ option_map typed found
both None d name glob h k n = absurd (cc (h))
both (Some t) d name glob h k n =
    let type : t.definition ≡ d = cc (h) in
    let text : t.glob ≡ glob = cc (k) in
    ap (λ (x : List ℕ). of x glob) (n ∙ ap (λ (d : Definition). d.name) (sym type)) ∙ ap (of t.definition.name) (sym text)

pub returns-in_default : goal.returns-in_default
returns-in_default c =
    no_type c.args.found.now (sym c.file_type_def.ensures ∙ ap (λ (o : Option (Bor Definition)). option_copied o) c.in_default.is)

pub returns-in_default-glob : goal.returns-in_default-glob
returns-in_default-glob c = no_glob c.args.found.now (sym c.glob.ensures ∙ ap (λ (o : Option (Bor (List ℕ))). option_copied o) c.in_default-glob.is)

pub returns : goal.returns
returns c =
    let text = c.in_ok-glob.ensures.ok in
    both c.args.found.now c.in-Some.definition.now (string_bytes c.in_ok-name.name) (string_bytes c.in_ok-glob.glob)
    (sym c.file_type_def.ensures ∙ ap (λ (o : Option (Bor Definition)). option_copied o) c.in-Some.is)
    (sym c.glob.ensures ∙ (ap (λ (o : Option (Bor (List ℕ))). option_copied o) c.in-Some-glob.is ∙ ap Some (sym text)))
    (c.in_ok-name.ensures.ok ∙ c.name.ensures)
