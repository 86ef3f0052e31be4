-- The records of some bytes, one by one.
use Rattle.std.proofs.Common.{◌≡◌, ◌≢◌, ◌∙◌, ◌⊎◌, ◌<◌, ◌-◌, ◌+◌, ℕ, suc, zero, Bool, true, false, cond, eqb, eqb-true, eq-eqb, ltb, List, [], ◌∷◌, ◌++◌, length, take, get_or, append_assoc, Contains, IfSome, Option, None, Some, refl, sym, ap, subst, inl, inr, arith}
use Rattle.std.proofs.lemmas.Bool.{and_from, and_parts, both_ways, lt-ltb, ltb-true}
use Rattle.std.proofs.lemmas.List.{append-nil, get_or-append_right, get_or_default, length-append, length_push, take_at}
use Rattle.std.specs.Io.BufRead.{DropsThrough, drop_through, ends_with_byte, first_piece, strip_last, take_through}
use Rattle.std.specs.Io.KnownBytes.{IsAtEnd}
use Rattle.ig_options.specs.Given.{Gives, is_opened}
use Rattle.ig_options.specs.declared.given.Given.{Given}
use Rattle.ig_options.specs.declared.options.Options.{Options}
use Rattle.ig_commands.specs.Counts.{capped}
use Rattle.ig_commands.specs.Input.{AreGiven, AreRecords, BeginsGiving, GivesOn, end_byte}
use Rattle.ig_commands.specs.Input.AreRecords.{none, last, more}

-- the last byte of some bytes and one more is that one
last_of : (xs : List ℕ) (end : ℕ) → get_or (xs ++ end ∷ []) (length (xs ++ end ∷ []) - 1) 0 ≡ end
last_of xs end =
    let at : length (xs ++ end ∷ []) - 1 ≡ length xs = omega (arith, length_push xs end) in
    let none : length xs - length xs ≡ 0 = omega arith in
    ap (λ n. get_or (xs ++ end ∷ []) n 0) at
    ∙ (get_or-append_right xs (end ∷ []) (length xs) (length xs) 0 refl (omega arith) ∙ ap (λ n. get_or (end ∷ []) n 0) none)

ends_so : (text : List ℕ) (end : ℕ) → ends_with_byte end (text ++ end ∷ []) ≡ true
ends_so text end =
    and_from (ltb 0 (length (text ++ end ∷ []))) (eqb (get_or (text ++ end ∷ []) (length (text ++ end ∷ []) - 1) 0) end)
    (lt-ltb 0 (length (text ++ end ∷ [])) (omega (arith, length_push text end)))
    (eq-eqb (get_or (text ++ end ∷ []) (length (text ++ end ∷ []) - 1) 0) end (last_of text end))

-- without the byte at its end a text is left
strip_end : (text : List ℕ) (end : ℕ) → strip_last end (text ++ end ∷ []) ≡ text
strip_end text end =
    ap (λ (b : Bool). cond b (take (length (text ++ end ∷ []) - 1) (text ++ end ∷ [])) (text ++ end ∷ [])) (ends_so text end)
    ∙ take_at text (end ∷ []) (length (text ++ end ∷ []) - 1) (omega (arith, length_push text end))

-- a text without the byte stays
strip_none : (text : List ℕ) (end : ℕ) → (Contains text end → ⊥) → (b : Bool) → ends_with_byte end text ≡ b
    → cond b (take (length text - 1) text) text ≡ text
strip_none text end other true e =
    let parts = and_parts (ltb 0 (length text)) (eqb (get_or text (length text - 1) 0) end) e in
    let some : 0 < length text = ltb-true 0 (length text) parts.0 in
    absurd (other (
      length text - 1,
      omega (arith, some),
      get_or_default text (length text - 1) end 0 (omega (arith, some)) ∙ eqb-true (get_or text (length text - 1) 0) end parts.1,
    ))
strip_none text end other false e = refl

-- a byte that some bytes and those before them have
pub contains_front : (x end : ℕ) (xs : List ℕ) → Contains (x ∷ xs) end → (x ≡ end) ⊎ Contains xs end
contains_front x end xs (zero, within, is) = inl is
contains_front x end xs (suc k, within, is) = inr (k, omega (arith, within), is)

-- the first end of a record in some bytes: what is taken up to it, and what is left; or there is none
abbrev Cut : ℕ → List ℕ → List ℕ → List ℕ → Type 0
Cut end xs front rest =
    ((text : List ℕ) × (xs ≡ text ++ end ∷ rest) × (Contains text end → ⊥) × (front ≡ text ++ end ∷ []))
    ⊎ ((Contains xs end → ⊥) × (front ≡ xs) × (rest ≡ []))

cut_first : (end x : ℕ) (xs : List ℕ) (b : Bool) → eqb x end ≡ b → Cut end xs (take_through end xs) (drop_through end xs)
    → Cut end (x ∷ xs) (cond b (x ∷ []) (x ∷ take_through end xs)) (cond b xs (drop_through end xs))
cut_first end x xs true e h =
    let is = eqb-true x end e in
    inl ([], ap (λ (y : ℕ). y ∷ xs) is, (λ c. omega (arith, c.1)), ap (λ (y : ℕ). y ∷ []) is)
cut_first end x xs false e (inl (text, is, other, front)) = inl (
  x ∷ text,
  ap (λ ys. x ∷ ys) is,
  (λ c. elim (contains_front x end text c) [ inl same ↦ both_ways (eqb x end) e (eq-eqb x end same) | inr here ↦ other here ]),
  ap (λ ys. x ∷ ys) front,
)
cut_first end x xs false e (inr (other, front, rest)) = inr (
  (λ c. elim (contains_front x end xs c) [ inl same ↦ both_ways (eqb x end) e (eq-eqb x end same) | inr here ↦ other here ]),
  ap (λ ys. x ∷ ys) front,
  rest,
)

cut : (end : ℕ) (xs : List ℕ) → Cut end xs (take_through end xs) (drop_through end xs)
cut end [] = inr ((λ c. omega (arith, c.1)), refl, refl)
cut end (x ∷ xs) = cut_first end x xs (eqb x end) refl (cut end xs)

-- no bytes have no records
pub nothing_more : (end : ℕ) (bytes : List ℕ) (records : List (List ℕ)) → AreRecords end bytes records → bytes ≡ [] → records ≡ []
nothing_more end bytes records none e = refl
nothing_more end bytes records (last some other) e = absurd (some e)
nothing_more end bytes records (more other rest) e = absurd (omega (arith, length-append {A = ℕ}, ap length e))

by_cut : (end : ℕ) (bytes front rest : List ℕ) (records : List (List ℕ)) → bytes ≢ [] → Cut end bytes front rest
    → AreRecords end rest records → AreRecords end bytes (strip_last end front ∷ records)
by_cut end bytes front rest records some (inl (text, is, other, taken)) are =
    subst (λ (bs : List ℕ). AreRecords end bs (strip_last end front ∷ records)) (sym is)
    (subst (λ (t : List ℕ). AreRecords end (text ++ end ∷ rest) (t ∷ records)) (sym (ap (strip_last end) taken ∙ strip_end text end))
    (more other are))
by_cut end bytes front rest records some (inr (other, taken, left)) are =
    let no_more = nothing_more end rest records are left in
    subst (λ (t : List ℕ). AreRecords end bytes (t ∷ records))
    (sym (ap (strip_last end) taken ∙ strip_none bytes end other (ends_with_byte end bytes) refl))
    (subst (λ (rs : List (List ℕ)). AreRecords end bytes (bytes ∷ rs)) (sym no_more) (last some other))

-- the first piece of some bytes is their first record
pub first_record : (end : ℕ) (bytes : List ℕ) (records : List (List ℕ)) → bytes ≢ [] → AreRecords end (drop_through end bytes) records
    → AreRecords end bytes (first_piece end bytes ∷ records)
first_record end bytes records some are =
    by_cut end bytes (take_through end bytes) (drop_through end bytes) records some (cut end bytes) are

-- one record more
pub gives_more : (o : Options) (number : ℕ) (bytes rest text : List ℕ) (all : List Given) (given : Given) → GivesOn o number bytes rest all
    → rest ≢ [] → text ≡ first_piece (end_byte o) rest → Gives (is_opened o.null text) text (capped (number + 1)) given
    → GivesOn o (capped (number + 1)) bytes (drop_through (end_byte o) rest) (all ++ given ∷ [])
gives_more o number bytes rest text all given h some is gives = λ records others are more_gives.
    subst (λ (gs : List Given). AreGiven o bytes gs) (sym (append_assoc all (given ∷ []) others))
    (h (text ∷ records) (given ∷ others)
    (subst (λ (t : List ℕ). AreRecords (end_byte o) rest (t ∷ records)) (sym is) (first_record (end_byte o) rest records some are))
    (gives, more_gives))

-- and none
pub gives_all : (o : Options) (number : ℕ) (bytes rest : List ℕ) (all : List Given) → GivesOn o number bytes rest all → rest ≡ []
    → AreGiven o bytes all
gives_all o number bytes rest all h ended =
    subst (λ (gs : List Given). AreGiven o bytes gs) (append-nil all)
    (h [] [] (subst (λ (bs : List ℕ). AreRecords (end_byte o) bs []) (sym ended) none) tt)

-- ---- a loop over the pieces of a reader, of which the known bytes are left

-- where the bytes are known, these are left, and the paths so far are those of the others
abbrev pub Known : Options → List Given → Option (List ℕ) → Option (List ℕ) → ℕ → List Given → Type 0
Known o start remaining known number paths =
    IfSome remaining (λ bytes. (rest : List ℕ) × (all : List Given) × (known ≡ Some rest) × (paths ≡ start ++ all) × GivesOn o number bytes rest all)

pub known_none : (o : Options) (start : List Given) (remaining known : Option (List ℕ)) → known ≡ remaining
    → Known o start remaining known 0 start
known_none o start None known is = tt
known_none o start (Some bytes) known is =
    (bytes, [], is, sym (append-nil start), (λ records others are gives. (records, are, gives)))

pub known_more : (o : Options) (start : List Given) (remaining known next : Option (List ℕ)) (byte number more_number : ℕ) (text : List ℕ)
    (paths more_paths : List Given) (given : Given) → byte ≡ end_byte o → Known o start remaining known number paths
    → IfSome known (λ xs. (0 < length xs) × (text ≡ first_piece byte xs)) × DropsThrough known next byte
    → more_number ≡ capped (number + 1) → Gives (is_opened o.null text) text more_number given → more_paths ≡ paths ++ given ∷ []
    → Known o start remaining next more_number more_paths
known_more o start None known next byte number more_number text paths more_paths given is h step n gives push = tt
known_more o start (Some bytes) known next byte number more_number text paths more_paths given is (rest, all, left, so, on) step n gives push =
    let at_end = subst (λ (b : ℕ). IfSome known (λ xs. (0 < length xs) × (text ≡ first_piece b xs)) × DropsThrough known next b) is step in
    let piece = subst (λ (k : Option (List ℕ)). IfSome k (λ xs. (0 < length xs) × (text ≡ first_piece (end_byte o) xs)) × DropsThrough k next (end_byte o)) left at_end in
    let some : rest ≢ [] = λ none. omega (arith, piece.0.0, ap length none) in
    let more_on = gives_more o number bytes rest text all given on some piece.0.1
    (subst (λ (m : ℕ). Gives (is_opened o.null text) text m given) n gives) in (
      drop_through (end_byte o) rest,
      all ++ given ∷ [],
      piece.1,
      push ∙ (ap (λ (ps : List Given). ps ++ given ∷ []) so ∙ append_assoc start all (given ∷ [])),
      subst (λ (m : ℕ). GivesOn o m bytes (drop_through (end_byte o) rest) (all ++ given ∷ [])) (sym n) more_on,
    )

-- where nothing is left, all bytes give these
pub known_all : (o : Options) (remaining known : Option (List ℕ)) (number : ℕ) (given : List Given) → Known o [] remaining known number given
    → IsAtEnd known → IfSome remaining (λ bytes. AreGiven o bytes given)
known_all o None known number given h ended = tt
known_all o (Some bytes) known number given (rest, all, left, so, on) ended =
    subst (AreGiven o bytes) (sym so) (gives_all o number bytes rest all on (subst IsAtEnd left ended))

-- where some bytes are left, they give these first
pub known_first : (o : Options) (remaining known : Option (List ℕ)) (number : ℕ) (given : List Given) → Known o [] remaining known number given
    → IfSome remaining (λ bytes. BeginsGiving o bytes given)
known_first o None known number given h = tt
known_first o (Some bytes) known number given (rest, all, left, so, on) = (rest, number, subst (GivesOn o number bytes rest) (sym so) on)

-- before the first record nothing is given
pub none_first : (o : Options) (remaining : Option (List ℕ)) → IfSome remaining (λ bytes. BeginsGiving o bytes [])
none_first o None = tt
none_first o (Some bytes) = (bytes, 0, λ records others are gives. (records, are, gives))
