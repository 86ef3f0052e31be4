-- A name after the path of a directory, which may end with a slash, or be empty; and paths that
-- aren't below another.
use Rattle.std.proofs.Common.{◌≡◌, ◌≢◌, ◌++◌, ◌∷◌, [], ℕ, List, None, Some, true, false, ◌&&◌, not, nat_eq, is_some, drop, length, refl, sym, ap, ◌∙◌, append_assoc, arith, ⊎_elim}
use Rattle.std.proofs.lemmas.Bool.{and_parts, both_ways, cond-false, false_from_ne_true, not-true}
use Rattle.std.proofs.Math.Bool.{and-false}
use Rattle.std.proofs.lemmas.List.{append-nil}
use Rattle.std.specs.List.{starts_with}
use Rattle.ignore_base.specs.Paths.{at_bound, has_slash, is_absolute, is_proper, join_of, strip_prefix_of}
use Rattle.ignore_base.proofs.ComponentLemmas.{ending}
use Rattle.ignore_base.proofs.JoinLemmas.{join_of-closed, join_of-nil, join_of-open}
use Rattle.ignore_base.proofs.PathLemmas.{has_slash-at}
use Rattle.ignore_guide.specs.Names.{is_name}
use Rattle.ignore_guide.specs.Told.{is_absent}

name-relative : (name : List ℕ) → is_name name ≡ true → is_absolute name ≡ false
name-relative [] h = refl
name-relative (c ∷ cs) h =
    let name = c ∷ cs in
    let whole : has_slash name ≡ false = not-true _ (and_parts (is_proper name) (not (has_slash name)) h).1 in
    false_from_ne_true (is_absolute name) (λ e. both_ways _ whole (has_slash-at name 0 (omega arith) e))

-- it is joined by writing it after the path with a final slash
pub name_joined : (dir name below : List ℕ) → is_name name ≡ true → below ≡ join_of dir [] → below ++ name ≡ join_of dir name
name_joined dir name below named is =
    let e = name-relative name named in
    ap (λ b. b ++ name) is
    ∙ ⊎_elim
    (λ (none : dir ≡ []).
    ap (λ d. join_of d [] ++ name) none ∙ ap (λ b. b ++ name) (join_of-nil []) ∙ sym (join_of-nil name) ∙ sym (ap (λ d. join_of d name) none))
    (⊎_elim
    (λ (w : (t : List ℕ) × (dir ≡ t ++ 47 ∷ [])).
    ap (λ d. join_of d [] ++ name) w.1
    ∙ ap (λ b. b ++ name) (join_of-closed w.0 [] refl ∙ append-nil (w.0 ++ 47 ∷ []))
    ∙ sym (join_of-closed w.0 name e)
    ∙ sym (ap (λ d. join_of d name) w.1))
    (λ (w : (dir ≢ []) × ((t : List ℕ) → dir ≢ t ++ 47 ∷ [])).
    ap (λ b. b ++ name) (join_of-open dir [] refl w.0 w.1)
    ∙ append_assoc dir (47 ∷ []) name
    ∙ sym (join_of-open dir name e w.0 w.1)))
    (ending dir)

-- where another path doesn't end at a component of a path, this isn't it, nor below it
pub not_reached : (lacked path : List ℕ) → at_bound lacked (drop (length lacked) path) ≡ false → false ≡ is_absent lacked path
unfolding strip_prefix_of
not_reached lacked path e =
    let rest = drop (length lacked) path in
    let starts = starts_with nat_eq path lacked in
    sym (ap is_some (cond-false (starts && at_bound lacked rest) (Some rest) None (ap (λ b. starts && b) e ∙ and-false starts)))
