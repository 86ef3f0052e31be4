use Rattle.std.proofs.Common.{◌≡◌, ◌≢◌, ◌+◌, ◌-◌, ◌<◌, ◌≤◌, ℕ, ◌++◌, ◌∷◌, [], All, Bor, List, Option, None, Some, MatchOption, IfSome, IsCharBoundary, length, take}
use Rattle.std.proofs.Common.{refl, sym, ap, ◌∙◌, subst, append_assoc, arith, lit<}
use Rattle.std.proofs.lemmas.List.{length-append}
use Rattle.std.proofs.lemmas.List.Splits.{join_with_byte-slice_split}
use Rattle.std.proofs.lemmas.Str.Pattern.{split_parts}
use Rattle.std.specs.Option.{option_copied}
use Rattle.ignore_base.proofs.CleanLemmas.{components-joined, other_names}
use Rattle.ignore_base.specs.Paths.{IsName, components, joined}
use Rattle.ignore_dir.proofs.ChainLemmas.{slashed-more}
use Rattle.ignore_dir.specs.Chains.{slashed}
use Rattle.ignore_files.proofs.Components.{components_some, components_split, components_whole}
use Rattle.ignore_query.specs.Stands.{next_on}
use Rattle.ignore_query.proofs.KnownLemmas.{without_end}
use Rattle.ignore_query.proofs.keys.next_key.Goals as goal

joined-front : (front rest : List (List ℕ)) (name : List ℕ) → joined (front ++ name ∷ rest) ≡ slashed front ++ joined (name ∷ rest)
joined-front [] rest name = refl
joined-front (a ∷ []) rest name = sym (append_assoc a (47 ∷ []) (joined (name ∷ rest)))
joined-front (a ∷ (b ∷ front)) rest name =
    ap (λ t. a ++ 47 ∷ t) (joined-front (b ∷ front) rest name) ∙ sym (append_assoc a (47 ∷ slashed (b ∷ front)) (joined (name ∷ rest)))

cancel : (x a b : List ℕ) → x ++ a ≡ x ++ b → a ≡ b
cancel [] a b e = e
cancel (c ∷ cs) a b e = let t : cs ++ a ≡ cs ++ b = cc in cancel cs a b t

last_names : (front rest : List (List ℕ)) → All IsName (front ++ rest) → All IsName rest
last_names [] rest h = h
last_names (x ∷ front) rest h = last_names front rest (other_names x (front ++ rest) h)

-- what follows the key has the names that are left
left_names : (path text after : List ℕ) (front rest : List (List ℕ)) (name : List ℕ) → path ≡ text ++ after → All IsName (components path)
    → components path ≡ front ++ name ∷ rest → text ≡ slashed front → components after ≡ name ∷ rest
left_names path text after front rest name at clean e k =
    let whole : path ≡ slashed front ++ joined (name ∷ rest) = sym (join_with_byte-slice_split 47 path) ∙ (ap joined e ∙ joined-front front rest name) in
    let same = cancel (slashed front) after (joined (name ∷ rest)) (sym (at ∙ ap (λ t. t ++ after) k) ∙ whole) in
    ap components same ∙ components-joined name rest (last_names front (name ∷ rest) (subst (All IsName) e clean))

-- what is left before an end
before_end : (path front after : List ℕ) (r : Option (Bor (List ℕ)))
    → MatchOption r ((begin : List ℕ) → path ≢ begin ++ after)
    (λ x. (n : ℕ) × ((n ≡ length after) × (path ≡ take (length path - n) path ++ after) × IsCharBoundary path (length path - length after))
    × (x.now ≡ take (length path - n) path) × (length x.now + n ≡ length path))
    → path ≡ front ++ after → option_copied r ≡ Some front
before_end path front after None h e = absurd (h front e)
before_end path front after (Some x) h e = ap (λ (t : List ℕ). Some t) (h.2 ∙ without_end path front after h.0 e h.1.0)

between : (path text rest name after : List ℕ) → path ≡ text ++ rest → rest ≡ name ++ 47 ∷ after → path ≡ (text ++ (name ++ 47 ∷ [])) ++ after
between path text rest name after at cut =
    at ∙ (ap (λ t. text ++ t) (cut ∙ sym (append_assoc name (47 ∷ []) after)) ∙ sym (append_assoc text (name ++ 47 ∷ []) after))

longer : (path text front after : List ℕ) (r : Option (Bor (List ℕ))) → option_copied r ≡ Some front → length text < length front
    → path ≡ front ++ after → IfSome r (λ next. (length text < length next.now) × (length next.now ≤ length path))
longer path text front after None e lt is = tt
longer path text front after (Some next) e lt is =
    let same : front ≡ next.now = cc (e) in (
      subst (λ (t : List ℕ). length text < length t) same lt,
      subst (λ (t : List ℕ). length t ≤ length path) same (omega (arith, ap (λ (t : List ℕ). length t) is, length-append front after)),
    )

pub returns-in_err-rest-clause-value : goal.returns-in_err-rest-clause-value
returns-in_err-rest-clause-value c = λ front name rest clean e k.
    let whole = sym (join_with_byte-slice_split 47 c.args.path.now) ∙ (ap joined e ∙ joined-front front rest name) in
    absurd (c.in_err-rest.ensures.cases (joined (name ∷ rest)) (whole ∙ ap (λ t. t ++ joined (name ∷ rest)) (sym k)))

pub returns-in_err-after-clause-value : goal.returns-in_err-after-clause-value
returns-in_err-after-clause-value c = λ front name rest clean e k.
    let found = c.in_ok-rest.ensures.cases in
    let at = found.1.1 ∙ ap (λ r. c.args.key.now ++ r) (sym found.2) in
    let left = left_names c.args.path.now c.args.key.now c.in_ok-rest.rest.now front rest name at clean e k in
    let one = components_whole c.in_ok-rest.rest.now c.in_err-after.ensures.cases in
    let none' : rest ≡ [] = cc (left, one) in
    ap option_copied c.from_residual-in_err-after.ensures ∙ ap (next_on front name) (sym none')

pub returns-clause-value : goal.returns-clause-value
returns-clause-value c = λ front name rest clean e k.
    let found = c.in_ok-rest.ensures.cases in
    let left' = c.in_ok-rest.rest.now in
    let after = c.in_ok-after.after.now in
    let first = c.in_ok-after.field-0-0.now in
    let at = found.1.1 ∙ ap (λ r. c.args.key.now ++ r) (sym found.2) in
    let cut = split_parts 47 left' (Some (c.in_ok-after.field-0-0, c.in_ok-after.after)) c.in_ok-after.ensures.cases (lit< tt) in
    let names = left_names c.args.path.now c.args.key.now left' front rest name at clean e k in
    let split = components_split left' (c.in_ok-after.field-0-0, c.in_ok-after.after) c.in_ok-after.ensures.cases in
    let some = components_some after in
    let both : name ∷ rest ≡ first ∷ (some.0 ∷ some.1) = sym names ∙ (split.0 ∙ ap (λ l. first ∷ l) some.2) in
    let same : name ≡ first = cc (both) in
    let more : rest ≡ some.0 ∷ some.1 = cc (both) in
    let begin = ap (λ t. t ++ (first ++ 47 ∷ [])) k ∙ (ap (λ (t : List ℕ). slashed front ++ (t ++ 47 ∷ [])) (sym same) ∙ sym (slashed-more front name)) in
    let end = between c.args.path.now c.args.key.now left' first after at cut.0 ∙ ap (λ t. t ++ after) begin in
    before_end c.args.path.now (slashed (front ++ name ∷ [])) after _ c.strip_suffix.ensures.cases end ∙ sym (ap (next_on front name) more)

pub returns-clause-longer : goal.returns-clause-longer
returns-clause-longer c =
    let found = c.in_ok-rest.ensures.cases in
    let left' = c.in_ok-rest.rest.now in
    let key = c.args.key.now in
    let after = c.in_ok-after.after.now in
    let first = c.in_ok-after.field-0-0.now in
    let at = found.1.1 ∙ ap (λ r. key ++ r) (sym found.2) in
    let cut = split_parts 47 left' (Some (c.in_ok-after.field-0-0, c.in_ok-after.after)) c.in_ok-after.ensures.cases (lit< tt) in
    let end = between c.args.path.now key left' first after at cut.0 in
    longer c.args.path.now key (key ++ (first ++ 47 ∷ [])) after _ (before_end c.args.path.now (key ++ (first ++ 47 ∷ [])) after _ c.strip_suffix.ensures.cases end)
    (omega (arith, length-append key (first ++ 47 ∷ []), length-append first (47 ∷ []))) end
