-- Worked quotes, records and sizes, and what some options make of settings and types, whatever else
-- is asked.
use Rattle.std.proofs.Common.{◌≡◌, ◌≢◌, ◌∙◌, ◌+◌, ◌*◌, ◌==◌, ◌&&◌, ◌||◌, ℕ, Bool, true, false, not, cond, nat_lt, List, [], ◌∷◌, ◌++◌, codes, Option, None, Some, refl, sym, ap, subst, inl, inr, arith}
use Rattle.std.proofs.lemmas.Bool.{true≢false}
use Rattle.std.specs.Str.Parse.{AllDigits}
use Rattle.ignore_base.specs.Text.{Path}
use Rattle.ignore_rules.specs.Rules.{AddsLine, Building, Ruleset, built, with_case_insensitive}
use Rattle.ignore_types.specs.Types.{Draft, with_chosen}
use Rattle.ignore.specs.Depths.{lowered, raised}
use Rattle.ig_options.specs.Choices.{with_all_chosen, with_choices}
use Rattle.ig_options.specs.Fd.{definition_of}
use Rattle.ig_options.specs.Files.{named_files}
use Rattle.ig_options.specs.Given.{Gives, IsText}
use Rattle.ig_options.specs.Globs.{AddsGlobs, AreGlobs, globs_begun}
use Rattle.ig_options.specs.Quotes.{IsQuoteOf, StandsFor, as_it_is, by_digits, by_letter, none, quoted}
use Rattle.ig_options.specs.QuoteSteps.{Closes, IsOctal}
use Rattle.ig_options.specs.Settings.{is_unruled, lists_hidden, walk_options}
use Rattle.ig_options.specs.Sizes.{IsSize, unit_of}
use Rattle.ig_options.specs.declared.given.Given.{Given}
use Rattle.ig_options.specs.declared.given.Given.TheVariants as place
use Rattle.ig_options.specs.declared.options.Options.{Options}
use Rattle.ig_options.proofs.QuoteLemmas.{first_escape, first_plain, none_at_quote}
use Rattle.ig_options.proofs.SizeLemmas.{no_letter, only_times, same_ends}

-- `a b` stands as it is; a tab is `\t`, a quote `\"`, DEL `\177`, and the two bytes of `é` are
-- `\303\251`, between quotes
pub quotes : (quoted (codes "a b") ≡ codes "a b") × (quoted (97 ∷ (9 ∷ [])) ≡ 34 ∷ (97 ∷ (92 ∷ (116 ∷ (34 ∷ [])))))
    × (quoted (34 ∷ []) ≡ 34 ∷ (92 ∷ (34 ∷ (34 ∷ [])))) × (quoted (127 ∷ []) ≡ 34 ∷ (92 ∷ (codes "177" ++ 34 ∷ [])))
    × (quoted (195 ∷ (169 ∷ [])) ≡ 34 ∷ (92 ∷ (codes "303" ++ 92 ∷ (codes "251" ++ 34 ∷ []))))
quotes = (refl, refl, refl, refl, refl)

-- a text that ends in a closing quote stands for one text at the most
other : (byte c : ℕ) → (c == 34 || c == 92) ≡ true → (byte == 34 || byte == 92) ≡ false → byte ≢ c
other byte c special plain e = true≢false (sym special ∙ subst (λ (x : ℕ). (x == 34 || x == 92) ≡ false) e plain)

one_meaning : (text inner a b : List ℕ) → StandsFor inner a → text ≡ inner ++ 34 ∷ [] → Closes text b → a ≡ b
one_meaning text _ _ b none cut closes = sym (none_at_quote text 34 [] cut refl b closes).1
one_meaning text _ _ b (as_it_is byte inner bytes plain stands) cut closes =
    let f = first_plain text byte (inner ++ 34 ∷ []) cut (other byte 34 refl plain) (other byte 92 refl plain) in
    let (more, are, rest) = f.only_so b closes in
    ap (λ x. byte ∷ x) (one_meaning (inner ++ 34 ∷ []) inner bytes more stands refl rest) ∙ sym are
one_meaning text _ _ b (by_letter byte letter inner bytes is stands) cut closes =
    let f = first_escape text 92 (letter ∷ (inner ++ 34 ∷ [])) byte (inner ++ 34 ∷ []) cut refl (inl (letter, refl, is)) in
    let h = f.only_so b closes in
    ap (λ x. byte ∷ x) (one_meaning (inner ++ 34 ∷ []) inner bytes h.0 stands refl h.2) ∙ sym h.1
one_meaning text _ _ x (by_digits a b c inner bytes fa fb fc stands) cut closes =
    let octal : IsOctal ((48 + a) ∷ ((48 + b) ∷ ((48 + c) ∷ (inner ++ 34 ∷ [])))) (a * 64 + (b * 8 + c)) (inner ++ 34 ∷ []) = record {
      first = 48 + a;
      second = 48 + b;
      third = 48 + c;
      cut = refl;
      value = record {
        a = a;
        b = b;
        c = c;
        a_fits = fa;
        b_fits = fb;
        c_fits = fc;
        first_is = refl;
        second_is = refl;
        third_is = refl;
        sum = refl;
      };
    } in
    let f = first_escape text 92 ((48 + a) ∷ ((48 + b) ∷ ((48 + c) ∷ (inner ++ 34 ∷ [])))) (a * 64 + (b * 8 + c)) (inner ++ 34 ∷ []) cut refl (inr octal) in
    let h = f.only_so x closes in
    ap (λ y. (a * 64 + (b * 8 + c)) ∷ y) (one_meaning (inner ++ 34 ∷ []) inner bytes h.0 stands refl h.2) ∙ sym h.1

pub one_quoted : (text a b : List ℕ) → IsQuoteOf text a → IsQuoteOf text b → a ≡ b
one_quoted text a b (inner, cut, stands) (other, same, meant) =
    let rest : inner ++ 34 ∷ [] ≡ other ++ 34 ∷ [] = let e = sym cut ∙ same in cc e in
    one_meaning (inner ++ 34 ∷ []) inner a b stands refl (other, rest, meant)

-- bytes are one path at the most, and either that or no text; and a record gives one thing at the
-- most: what is quoted well isn't told as badly quoted
pub one_text : (bytes : List ℕ) (n : ℕ) (x y : Given) → IsText bytes n x → IsText bytes n y → x ≡ y
one_text bytes n (place.Path p) (place.Path q) h k = ap place.Path (h.0 ∙ sym k.0)
one_text bytes n (place.Path p) (place.NotText m) h k = absurd (k.1 h.1)
one_text bytes n (place.Path p) (place.BadlyQuoted m) h k = absurd k
one_text bytes n (place.NotText l) (place.Path q) h k = absurd (h.1 k.1)
one_text bytes n (place.NotText l) (place.NotText m) h k = ap place.NotText (h.0 ∙ sym k.0)
one_text bytes n (place.NotText l) (place.BadlyQuoted m) h k = absurd k
one_text bytes n (place.BadlyQuoted l) y h k = absurd h

pub one_given : (is_opened : Bool) (text : List ℕ) (n : ℕ) (x y : Given) → Gives is_opened text n x → Gives is_opened text n y → x ≡ y
one_given false text n x y h k = one_text text n x y h k
one_given true text n x y (inl (a, quote, is)) (inl (b, same, k)) =
    one_text a n x y is (subst (λ (t : List ℕ). IsText t n y) (sym (one_quoted text a b quote same)) k)
one_given true text n x y (inl (a, quote, is)) (inr (never, k)) = absurd (never a quote)
one_given true text n x y (inr (never, is)) (inl (b, quote, k)) = absurd (never b quote)
one_given true text n x y (inr (never, is)) (inr (not_one, k)) = is ∙ sym k

-- the second record, `k` between quotes, is the path `k`
pub given : Gives true (34 ∷ (107 ∷ (34 ∷ []))) 2 (place.Path (codes "k"))
unfolding lib.Utf8.encode
given = inl (codes "k", (codes "k", refl, as_it_is 107 [] [] refl none), (refl, (codes "k", (refl, refl))))

-- `2K` is the size 2048, and `12` the size 12; a text has one size at the most
pub sizes : IsSize (codes "2K") 2048 × IsSize (codes "12") 12
sizes = (
  inr (codes "2", 75, 1024, refl, refl, (((omega arith), ((omega arith), tt)), refl, (omega arith))),
  inl (((omega arith), ((omega arith), ((omega arith), tt))), refl, (omega arith)),
)

pub one_size : (text : List ℕ) (a b : ℕ) → IsSize text a → IsSize text b → a ≡ b
one_size text a b (inl h) (inl k) = h.1 ∙ sym k.1
one_size text a b (inl h) (inr (digits, letter, unit, cut, is, k)) =
    absurd (no_letter digits letter unit is (subst (AllDigits 10) cut h.0.1))
one_size text a b (inr (digits, letter, unit, cut, is, h)) k = h.1 ∙ sym (only_times text digits letter unit b cut is k).1

-- a letter alone is no size, nor is a number after a plus
pub no_letter_alone : (size : ℕ) → ¬ IsSize (codes "K") size
no_letter_alone size s = let h = only_times (codes "K") [] 75 1024 size refl refl s in omega (arith, h.0.0)

pub no_plus : (size : ℕ) → ¬ IsSize (codes "+1") size
no_plus size (inl h) = omega (arith, h.0.1.0)
no_plus size (inr (digits, letter, unit, cut, is, h)) =
    let e : unit_of 49 ≡ Some unit = ap unit_of (same_ends (43 ∷ []) digits 49 letter cut).1 ∙ is in
    cc e

-- where no file of rules counts, none does whatever it is named, and hidden entries stay hidden
-- unless they are listed
pub no_file_counts : (o : Options) → is_unruled o ≡ true → let s = (walk_options o).settings in
    (s.parents ≡ false) × (s.ignore ≡ false) × (s.git_ignore ≡ false) × (s.git_global ≡ false) × (s.git_exclude ≡ false)
    × (s.custom ≡ []) × (s.hidden ≡ not (lists_hidden o))
no_file_counts o all = (
  ap (λ (b : Bool). not b && not o.no_ignore_parent) all,
  ap (λ (b : Bool). not b && not o.no_ignore_dot) all,
  ap (λ (b : Bool). not b && not o.no_ignore_vcs) all,
  ap (λ (b : Bool). (not b && not o.no_ignore_vcs) && not o.no_ignore_global) all,
  ap (λ (b : Bool). (not b && not o.no_ignore_vcs) && not o.no_ignore_exclude) all,
  ap (λ (b : Bool). cond b [] o.ignore_names) all,
  refl,
)

-- no file counts with `-I`, nor with `-u`, which leaves hidden entries hidden unless it comes twice
pub unruled : (o : Options) → o.no_ignore ≡ true → is_unruled o ≡ true
unruled o all = ap (λ (b : Bool). b || nat_lt 0 o.unrestricted) all

pub unrestricted : (o : Options) → o.no_ignore ≡ false → o.hidden ≡ false → o.unrestricted ≡ 1
    → (is_unruled o ≡ true) × (lists_hidden o ≡ false)
unrestricted o plain stays once = (
  ap (λ (b : Bool). b || nat_lt 0 o.unrestricted) plain ∙ ap (λ n. false || nat_lt 0 n) once,
  ap (λ (b : Bool). b || nat_lt 1 o.unrestricted) stays ∙ ap (λ n. false || nat_lt 1 n) once,
)

pub unrestricted_twice : (o : Options) → o.hidden ≡ false → o.unrestricted ≡ 2 → lists_hidden o ≡ true
unrestricted_twice o stays twice = ap (λ (b : Bool). b || nat_lt 1 o.unrestricted) stays ∙ ap (λ n. false || nat_lt 1 n) twice

-- the files that are named don't count with `--no-ignore-files`
pub no_named_files : (o : Options) → o.no_ignore_files ≡ true → named_files o ≡ []
no_named_files o all = ap (λ (b : Bool). cond b [] o.ignore_files) all

-- `rs` and `.rs` are one extension
pub extensions : (definition_of (codes "rs") ≡ codes "extension:*.rs") × (definition_of (codes ".rs") ≡ codes "extension:*.rs")
extensions = (refl, refl)

-- the least depth 3 above the greatest depth 2 is lowered to 2
pub depths : (o : Options) → o.max_depth ≡ Some 2 → o.min_depth ≡ Some 3 → let s = (walk_options o).settings in
    (s.max_depth ≡ Some 2) × (s.min_depth ≡ Some 2)
depths o most least = (
  ap (λ (d : Option ℕ). raised None d) most,
  ap (λ (d : Option ℕ). lowered (raised None d) o.min_depth) most ∙ ap (λ (d : Option ℕ). lowered (Some 2) d) least,
)

-- of a selected and a negated type the negated one is chosen last
pub choices : (o : Options) (draft : Draft) → o.types ≡ codes "a" ∷ [] → o.types_not ≡ codes "b" ∷ []
    → with_choices o draft ≡ with_chosen true (codes "b") (with_chosen false (codes "a") draft)
choices o draft selected negated =
    ap (λ (ts : List (List ℕ)). with_all_chosen true o.types_not (with_all_chosen false ts draft)) selected
    ∙ ap (λ (ts : List (List ℕ)). with_all_chosen true ts (with_chosen false (codes "a") draft)) negated

-- a glob of both cases is added last, and is the only one that matches both
pub globs : (o : Options) (dir : Path) (rules : Ruleset) → o.globs ≡ codes "a" ∷ [] → o.iglobs ≡ codes "b" ∷ [] → AreGlobs o dir rules
    → (first last : Building) × AddsLine (globs_begun o dir) None (codes "a") first
    × AddsLine (with_case_insensitive first true) None (codes "b") last × (rules ≡ built last)
globs o dir rules plain both (x, y, h, k, is) =
    let (first, added, same) = subst (λ (gs : List (List ℕ)). AddsGlobs gs (globs_begun o dir) x) plain h in
    let (last, more, end) = subst (λ (gs : List (List ℕ)). AddsGlobs gs (with_case_insensitive x true) y) both k in (
      first,
      last,
      added,
      subst (λ (b : Building). AddsLine (with_case_insensitive b true) None (codes "b") last) same more,
      is ∙ ap built end,
    )
