use Rattle.std.proofs.Common.{◌≡◌, ◌++◌, ◌∷◌, [], map, ap, refl, ◌∙◌, string_bytes}
use Rattle.std.specs.Str.{chars}
use Rattle.ignore_base.specs.Text.{Chars}
use Rattle.ignore_glob.specs.Exact.{literals_of, kind_tokens, front_tokens}
use Rattle.ignore_glob.specs.Glob.{literal, star, start, then}
use Rattle.ignore_glob.specs.Reading.{Reading}
use Rattle.ignore_glob.specs.View.{tokens_of}
use Rattle.ignore_glob.specs.declared.glob.kind.Kind.{Kind}
use Rattle.ignore_glob.specs.declared.glob.kind.Kind.TheVariants.{Whole, Name, End}
use Rattle.ignore_glob.proofs.glob.exact.Exact.tokens.Goals as goal

literals_of-map : (cs : Chars) → tokens_of (map literal cs) ≡ literals_of cs
literals_of-map [] = refl
literals_of-map (c ∷ cs) = ap (λ ts. then (literal c) ts) (literals_of-map cs)

all_tokens : (kind : Kind) (cs : Chars) → tokens_of (front_tokens kind ++ map literal cs) ≡ kind_tokens kind cs
all_tokens Whole cs = literals_of-map cs
all_tokens Name cs = ap (λ ts. then start ts) (literals_of-map cs)
all_tokens End cs = ap (λ ts. then start (then star ts)) (literals_of-map cs)

pub returns-clause-tokens : goal.returns-clause-tokens
returns-clause-tokens c =
    let kind = c.self.inside.kind in
    let cs = chars (string_bytes c.self.inside.text) in
    let front = c.in_ok-tokens.ensures in
    ap tokens_of (c.in_ok-push_literals.ensures ∙ (ap (λ ts. ts ++ map literal (chars c.as_str.result.now)) front
    ∙ ap (λ bytes. front_tokens kind ++ map literal (chars bytes)) c.as_str.ensures.value))
    ∙ (all_tokens kind cs ∙ ap (λ (r : Reading). r.tokens) c.self.view_is)
