-- The hits among one line more.
use Rattle.std.proofs.Common.{◌≡◌, ◌+◌, ℕ, Bool, true, false, cond, List, [], ◌∷◌, ◌++◌, map, Bor, refl, sym, ap, ◌∙◌, append_assoc}
use Rattle.std.proofs.lemmas.List.{append-nil, map-append}
use Rattle.std.proofs.lemmas.List.Elements.{filter-append}
use Rattle.std.specs.Prelude.{filter}
use Rattle.uses.specs.Searched.{has_word, hits_among}
use Rattle.uses.specs.declared.search.Hit.{Hit}

-- a numbered line that was yielded
abbrev pub numbered : ℕ × Bor (List ℕ) → ℕ × List ℕ
numbered l = (l.0, l.1.now)

abbrev pub hit : List ℕ → ℕ × List ℕ → Hit
hit path l = record { path = path; line = l.0 + 1 }

hit_if : (path : List ℕ) (i : ℕ) (line : List ℕ) (b : Bool)
    → map (hit path) (cond b ((i, line) ∷ []) []) ≡ cond b (hit path (i, line) ∷ []) []
hit_if path i line true = refl
hit_if path i line false = refl

among_more : (word path : List ℕ) (ls : List (ℕ × List ℕ)) (i : ℕ) (line : List ℕ)
    → hits_among word path (ls ++ (i, line) ∷ []) ≡ hits_among word path ls ++ cond (has_word word line) (hit path (i, line) ∷ []) []
among_more word path ls i line =
    ap (map (hit path)) (filter-append (λ (l : ℕ × List ℕ). has_word word l.1) ls ((i, line) ∷ []))
    ∙ (map-append (hit path) (filter (λ (l : ℕ × List ℕ). has_word word l.1) ls) (cond (has_word word line) ((i, line) ∷ []) [])
    ∙ ap (λ hs. hits_among word path ls ++ hs) (hit_if path i line (has_word word line)))

-- what was found, and then in a line more
pub more : (word path : List ℕ) (old : List Hit) (ls : List (ℕ × Bor (List ℕ))) (l : ℕ × Bor (List ℕ)) (b : Bool)
    → b ≡ has_word word l.1.now
    → old ++ hits_among word path (map numbered (ls ++ l ∷ []))
    ≡ (old ++ hits_among word path (map numbered ls)) ++ cond b (hit path (numbered l) ∷ []) []
more word path old ls l b h =
    ap (λ ks. old ++ hits_among word path ks) (map-append numbered ls (l ∷ []))
    ∙ (ap (λ hs. old ++ hs) (among_more word path (map numbered ls) l.0 l.1.now)
    ∙ (ap (λ c. old ++ (hits_among word path (map numbered ls) ++ cond c (hit path (numbered l) ∷ []) [])) (sym h)
    ∙ sym (append_assoc old (hits_among word path (map numbered ls)) (cond b (hit path (numbered l) ∷ []) []))))
