-- What a table keeps when a pattern is added after the others.
use Rattle.std.proofs.Common.{◌≡◌, ◌≢◌, ◌⊎◌, ℕ, zero, suc, ◌+◌, Bool, true, false, cond, List, [], ◌∷◌, ◌++◌, length}
use Rattle.std.proofs.Common.{slice_get, Some, refl, sym, ap, subst, ◌∙◌, inl, inr, arith}
use Rattle.std.specs.Bool.{Decides}
use Rattle.std.specs.List.{IsAmong}
use Rattle.std.specs.Str.{IsUtf8, bytes_eq}
use Rattle.std.proofs.lemmas.Bool.{false≢true}
use Rattle.std.proofs.lemmas.List.{length-append, get_or_append_left}
use Rattle.std.proofs.Math.Seq.{get_or-append_seam}
use Rattle.std.proofs.lemmas.Option.{slice_get_within}
use Rattle.std.proofs.lemmas.Slice.Eq.{bytes_eq-Decides}
use Rattle.ignore_glob.specs.Forms.{Form, form_of}
use Rattle.ignore_set.specs.declared.table.Table.{Table}
use Rattle.ignore_set.specs.Index.{IsAfterLast, IsNoted, IsTableOf, slot_at, slot_with, after}
use Rattle.ignore_set.specs.Sets.{Member, Allows}

-- Lists with one more at the end.

pub got_append : {X : Type 0} (xs : List X) (y : X) (i : ℕ) (x : X) → slice_get (xs ++ y ∷ []) i ≡ Some x
    → (slice_get xs i ≡ Some x) ⊎ ((i ≡ length xs) × (x ≡ y))
got_append [] y zero x e = inr (refl, cc)
got_append [] y (suc i) x e = cc
got_append (z ∷ xs) y zero x e = inl e
got_append (z ∷ xs) y (suc i) x e = elim (got_append xs y i x e) [ inl g ↦ inl g | inr p ↦ inr (ap suc p.0, p.1) ]

pub kept_append : {X : Type 0} (xs ys : List X) (i : ℕ) (x : X) → slice_get xs i ≡ Some x → slice_get (xs ++ ys) i ≡ Some x
kept_append [] ys i x e = cc
kept_append (z ∷ xs) ys zero x e = e
kept_append (z ∷ xs) ys (suc i) x e = kept_append xs ys i x e

pub end_append : {X : Type 0} (xs : List X) (y : X) → slice_get (xs ++ y ∷ []) (length xs) ≡ Some y
end_append [] y = refl
end_append (z ∷ xs) y = end_append xs y

pub among_more : (vs ws : List ℕ) (v : ℕ) → IsAmong vs v → IsAmong (vs ++ ws) v
among_more vs ws v p = (p.0, (omega (arith, length-append vs ws, p.1.0), p.1.1 ∙ sym (get_or_append_left vs ws v p.0 p.1.0)))

pub among_end : (vs : List ℕ) (v : ℕ) → IsAmong (vs ++ v ∷ []) v
among_end vs v = (length vs, (omega (arith, length-append vs (v ∷ [])), sym (get_or-append_seam vs v [] v)))

-- The greatest index.

last_hit : (P : Member → Type 0) (ms : List Member) (m : Member) → P m → IsAfterLast P (ms ++ m ∷ []) (length ms + 1)
last_hit P ms m p = record {
  above = λ i x g h. omega (arith, slice_get_within (ms ++ m ∷ []) i x g, length-append ms (m ∷ []));
  last = inr (length ms, m, refl, end_append ms m, p);
}

last_miss : (P : Member → Type 0) (ms : List Member) (m : Member) (n : ℕ) → (P m → ⊥) → IsAfterLast P ms n → IsAfterLast P (ms ++ m ∷ []) n
last_miss P ms m n lacks was = record {
  above = λ i x g h. elim (got_append ms m i x g) [ inl before ↦ was.above i x before h | inr p ↦ absurd (lacks (subst P p.1 h)) ];
  last = elim was.last [ inl none ↦ inl none | inr f ↦ inr (f.0, f.1, f.2, kept_append ms (m ∷ []) f.0 f.1 f.3, f.4) ];
}

-- Tables.

pub table_same : (form : List ℕ → Form) (table : Table) (ms : List Member) (m : Member)
    → ((text : List ℕ) → form_of m.reading ≢ form text) → IsTableOf form table ms → IsTableOf form table (ms ++ m ∷ [])
table_same form table ms m differs was = record {
  slots = λ is_dir text. last_miss (λ x. (form_of x.reading ≡ form text) × Allows is_dir x) ms m
      (after is_dir (slot_at table text)) (λ h. differs text h.0) (was.slots is_dir text);
  noted = λ i x text g is. elim (got_append ms m i x g) [
    | inl before ↦ was.noted i x text before is
    | inr p ↦ absurd (differs text (sym (ap (λ (y : Member). form_of y.reading) p.1) ∙ is))
  ];
}

-- the slot under the new pattern's own text
put_slot : (form : List ℕ → Form) (table : Table) (ms : List Member) (m : Member) (text : List ℕ)
    → form_of m.reading ≡ form text → IsTableOf form table ms → (is_dir only_dir : Bool) → m.only_dir ≡ only_dir
    → IsAfterLast (λ x. (form_of x.reading ≡ form text) × Allows is_dir x) (ms ++ m ∷ [])
    (after is_dir (slot_with (length ms) only_dir (slot_at table text)))
put_slot form table ms m text is was true only_dir e = last_hit (λ x. (form_of x.reading ≡ form text) × Allows true x) ms m (is, inr refl)
put_slot form table ms m text is was false false e = last_hit (λ x. (form_of x.reading ≡ form text) × Allows false x) ms m (is, inl e)
put_slot form table ms m text is was false true e =
    last_miss (λ x. (form_of x.reading ≡ form text) × Allows false x) ms m (after false (slot_at table text))
    (λ h. elim h.1 [ inl f ↦ false≢true (sym f ∙ e) | inr f ↦ false≢true f ]) (was.slots false text)

pub table_put : (form : List ℕ → Form) (old new : Table) (ms : List Member) (m : Member) (index : ℕ) (text : List ℕ)
    (only_dir : Bool) → ((a b : List ℕ) → form a ≡ form b → a ≡ b) → IsTableOf form old ms → length ms ≡ index
    → form_of m.reading ≡ form text → m.only_dir ≡ only_dir
    → ((q : List ℕ) → slot_at new q ≡ cond (bytes_eq text q) (slot_with index only_dir (slot_at old q)) (slot_at old q))
    → IsUtf8 text × IsNoted new text → ((t : List ℕ) → IsNoted old t → IsNoted new t)
    → IsTableOf form new (ms ++ m ∷ [])
table_put form old new ms m index text only_dir one was size is only slots long kept = record {
  slots = λ is_dir q. at is_dir q (bytes_eq text q) (bytes_eq-Decides text q) (slots q);
  noted = λ i x q g h. elim (got_append ms m i x g) [
    | inl before ↦ ((was.noted i x q before h).0, kept q (was.noted i x q before h).1)
    | inr p ↦ subst (λ t. IsUtf8 t × IsNoted new t)
        (one text q (sym is ∙ (sym (ap (λ (y : Member). form_of y.reading) p.1) ∙ h))) long
  ];
}
  where
    at : (is_dir : Bool) (q : List ℕ) (same : Bool) → Decides same (text ≡ q)
        → slot_at new q ≡ cond same (slot_with index only_dir (slot_at old q)) (slot_at old q)
        → IsAfterLast (λ x. (form_of x.reading ≡ form q) × Allows is_dir x) (ms ++ m ∷ []) (after is_dir (slot_at new q))
    at is_dir q true d e =
        subst (λ s. IsAfterLast (λ x. (form_of x.reading ≡ form q) × Allows is_dir x) (ms ++ m ∷ []) (after is_dir s))
        (ap (λ n. slot_with n only_dir (slot_at old q)) size ∙ sym e)
        (put_slot form old ms m q (is ∙ ap form (d.0 refl)) was is_dir only_dir only)
    at is_dir q false d e =
        subst (λ s. IsAfterLast (λ x. (form_of x.reading ≡ form q) × Allows is_dir x) (ms ++ m ∷ []) (after is_dir s)) (sym e)
        (last_miss (λ x. (form_of x.reading ≡ form q) × Allows is_dir x) ms m (after is_dir (slot_at old q))
        (λ h. false≢true (d.1 (one text q (sym is ∙ h.0)))) (was.slots is_dir q))
