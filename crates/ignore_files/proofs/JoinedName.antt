-- The components of a path with one name more.
use Rattle.std.proofs.Common.{◌≡◌, ℕ, Bool, true, false, cond, eqb, ◌||◌, List, [], ◌∷◌, ◌++◌, refl, ap, sym, subst, ◌∙◌}
use Rattle.std.specs.List.{onto_first, list_any}
use Rattle.ignore_base.specs.Text.{is_slash}
use Rattle.ignore_base.specs.Paths.{components, joined, whole_components, filled, has_slash, is_absolute, join_of}
use Rattle.ignore_files.proofs.Components.{components_cut, components_some}

-- a text has no slash
abbrev pub Plain : List ℕ → Type 0
Plain [] = Unit {0}
Plain (b ∷ bs) = (eqb b 47 ≡ false) × Plain bs

-- none of the texts has one
abbrev pub AllPlain : List (List ℕ) → Type 0
AllPlain [] = Unit {0}
AllPlain (p ∷ ps) = Plain p × AllPlain ps

onto_plain : (b : ℕ) (ps : List (List ℕ)) → eqb b 47 ≡ false → AllPlain ps → AllPlain (onto_first b ps)
onto_plain b [] e h = ((e, tt), tt)
onto_plain b (p ∷ ps) e h = ((e, h.0), h.1)

all_plain : (bs : List ℕ) → AllPlain (components bs)
all_plain [] = (tt, tt)
all_plain (b ∷ bs) = put (eqb b 47) refl (all_plain bs)
  where
    put : (slash : Bool) → eqb b 47 ≡ slash → AllPlain (components bs)
        → AllPlain (cond slash ([] ∷ components bs) (onto_first b (components bs)))
    put true e h = (tt, h)
    put false e h = onto_plain b (components bs) e h

plain_filled : (p : List ℕ) → Plain p → AllPlain (filled p)
plain_filled [] h = tt
plain_filled (b ∷ bs) h = (h, tt)

plain_whole : (ps : List (List ℕ)) → AllPlain ps → AllPlain (whole_components ps)
plain_whole [] h = tt
plain_whole (p ∷ []) h = plain_filled p h.0
plain_whole (p ∷ (q ∷ ps)) h = (h.0, plain_whole (q ∷ ps) h.1)

one_plain : (bs : List ℕ) → Plain bs → components bs ≡ bs ∷ []
one_plain [] h = refl
one_plain (b ∷ bs) h =
    ap (λ s. cond s ([] ∷ components bs) (onto_first b (components bs))) h.0 ∙ ap (onto_first b) (one_plain bs h.1)

-- texts without slashes are the components of what they are joined to
components_joined : (p : List ℕ) (ps : List (List ℕ)) → AllPlain (p ∷ ps) → components (joined (p ∷ ps)) ≡ p ∷ ps
components_joined p [] h = one_plain p h.0
components_joined p (q ∷ ps) h =
    components_cut p (joined (q ∷ ps)) ∙ ap (λ qs. qs ++ components (joined (q ∷ ps))) (one_plain p h.0)
    ∙ ap (λ qs. p ∷ qs) (components_joined q ps h.1)

plain_append : (ps qs : List (List ℕ)) → AllPlain ps → AllPlain qs → AllPlain (ps ++ qs)
plain_append [] qs h k = k
plain_append (p ∷ ps) qs h k = (h.0, plain_append ps qs h.1 k)

components_front : (ps : List (List ℕ)) (q : List ℕ) (qs : List (List ℕ)) → AllPlain ps → AllPlain (q ∷ qs)
    → components (joined (ps ++ q ∷ qs)) ≡ ps ++ q ∷ qs
components_front [] q qs h k = components_joined q qs k
components_front (p ∷ ps) q qs h k = components_joined p (ps ++ q ∷ qs) (h.0, plain_append ps (q ∷ qs) h.1 k)

pub no_slash : (name : List ℕ) → has_slash name ≡ false → Plain name
no_slash [] h = tt
no_slash (b ∷ bs) h = put (eqb b 47) refl h (no_slash bs)
  where
    put : (slash : Bool) → eqb b 47 ≡ slash → slash || list_any is_slash bs ≡ false
        → (list_any is_slash bs ≡ false → Plain bs) → Plain (b ∷ bs)
    put true e k later = absurd (cc (k))
    put false e k later = (e, later k)

not_absolute : (name : List ℕ) → Plain name → is_absolute name ≡ false
not_absolute [] h = refl
not_absolute (b ∷ bs) h = h.0

join_plain : (base name : List ℕ) → is_absolute name ≡ false → join_of base name ≡ joined (whole_components (components base) ++ components name)
unfolding join_of
join_plain base name h = ap (λ b. cond b name (joined (whole_components (components base) ++ components name))) h

-- the components of a path and then those of a relative one
pub components_path : (base rest : List ℕ) → is_absolute rest ≡ false
    → components (join_of base rest) ≡ whole_components (components base) ++ components rest
components_path base rest h =
    let some = components_some rest in
    ap components (join_plain base rest h)
    ∙ ap (λ qs. components (joined (whole_components (components base) ++ qs))) some.2
    ∙ components_front (whole_components (components base)) some.0 some.1 (plain_whole (components base) (all_plain base))
    (subst AllPlain some.2 (all_plain rest))
    ∙ ap (λ qs. whole_components (components base) ++ qs) (sym some.2)

-- and those of a name
pub components_join : (base name : List ℕ) → has_slash name ≡ false
    → components (join_of base name) ≡ whole_components (components base) ++ name ∷ []
components_join base name h =
    let plain = no_slash name h in
    components_path base name (not_absolute name plain) ∙ ap (λ qs. whole_components (components base) ++ qs) (one_plain name plain)
