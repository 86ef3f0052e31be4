-- What stands at a line of a file, by the table of a file's lines and the table of the files.
use Rattle.std.proofs.Common.{◌≡◌, ◌∙◌, ◌⊎◌, ◌==◌, ◌&&◌, ℕ, Bool, true, false, cond, eqb, eqb-true, List, [], ◌∷◌, ◌++◌, map, Option, None, Some, is_some, option_map, string_bytes, Bor, inl, inr, refl, sym, ap, subst}
use Rattle.std.proofs.lemmas.Bool.{and_parts}
use Rattle.std.proofs.lemmas.Grind.{flat_map-append}
use Rattle.std.proofs.lemmas.List.{append-nil, map-append}
use Rattle.std.proofs.lemmas.Slice.Eq.{bytes_eq-Decides}
use Rattle.std.specs.BTreeMap.{BTreeMap, get, get_by_text}
use Rattle.std.specs.List.{filter}
use Rattle.std.specs.Map.{update}
use Rattle.std.specs.Option.{option_copied, option_or}
use Rattle.std.specs.Ordering.{nat_cmp}
use Rattle.std.specs.Str.{bytes_eq}
use Rattle.std.specs.declared.string.String.{String}
use Rattle.ig_commands.specs.Rules.{Grows, all_left, alone_at, file_rule, given_at, is_free, left_of, line_of, rule_at}
use Rattle.ig_commands.specs.declared.rules.FileRules.{FileRules}
use Rattle.ig_commands.proofs.FieldLemmas.{filter_push}

-- what a look-up found none of
pub copied_none : {X : Type 0} (o : Option (Bor X)) (b : Bool) → b ≡ is_some o → b ≡ false → option_copied o ≡ None
copied_none None b is h = refl
copied_none (Some x) b is h = cc (sym is ∙ h)

pub none_there : {X : Type 0} (o : Option X) (b : Bool) → b ≡ is_some o → b ≡ false → o ≡ None
none_there None b is h = refl
none_there (Some x) b is h = cc (sym is ∙ h)

or_none : {A : Type 0} (x : Option A) → option_or x None ≡ x
or_none None = refl
or_none (Some a) = refl

-- a table without lines says what no table says
no_line : {Y : Type 0} (file : BTreeMap ℕ (String Y)) (line : ℕ) → file.entries ≡ [] → line_of (Some file) line ≡ None
no_line file line none = cc none

module _ {Y Z : Type 0} (m n : BTreeMap (String Y) (BTreeMap ℕ (String Z))) (source s : List ℕ) (line : ℕ) where
  same_line : (file : BTreeMap ℕ (String Z)) → get_by_text m source ≡ None → file.entries ≡ [] → (b : Bool) → bytes_eq source s ≡ b
      → line_of (cond b (Some file) (get_by_text m s)) line ≡ line_of (get_by_text m s) line
  same_line file none empty true same =
      let is = (bytes_eq-Decides source s).0 same in
      no_line file line empty ∙ sym (ap (λ (o : Option (BTreeMap ℕ (String Z))). line_of o line) (subst (λ (t : List ℕ). get_by_text m t ≡ None) is none))
  same_line file none empty false other = refl

  -- a file without lines changes nothing
  pub added_file : (file : BTreeMap ℕ (String Z)) → ((cs : List ℕ) → get_by_text n cs ≡ update bytes_eq (get_by_text m) source (Some file) cs)
      → get_by_text m source ≡ None → file.entries ≡ [] → line_of (get_by_text n s) line ≡ line_of (get_by_text m s) line
  added_file file h none empty =
      ap (λ (o : Option (BTreeMap ℕ (String Z))). line_of o line) (h s) ∙ same_line file none empty (bytes_eq source s) refl

module _ (source s text : List ℕ) (number line : ℕ) (before : Option (List ℕ)) where
  -- what stands there by a new line, where the file is the same
  at_number : {Z : Type 0} (pattern : String Z) (old : Option (String Z)) → string_bytes pattern ≡ text
      → option_map string_bytes old ≡ before → (eqb number line ≡ true → before ≡ None) → (b : Bool) → eqb number line ≡ b
      → option_map string_bytes (cond b (Some pattern) old) ≡ option_or before (cond b (Some text) None)
  at_number pattern old is same none true here =
      ap (λ (t : List ℕ). Some t) is ∙ sym (ap (λ (o : Option (List ℕ)). option_or o (Some text)) (none here))
  at_number pattern old is same none false other = same ∙ sym (or_none before)

  -- and where it is another one
  elsewhere : bytes_eq source s ≡ false → before ≡ option_or before (alone_at source number text s line)
  elsewhere other =
      sym (ap (λ (b : Bool). option_or before (cond (b && eqb number line) (Some text) None)) other ∙ or_none before)

  here_alone : (r : Option (List ℕ)) → bytes_eq source s ≡ true → r ≡ option_or before (cond (eqb number line) (Some text) None)
      → r ≡ option_or before (alone_at source number text s line)
  here_alone r same h = h ∙ sym (ap (λ (b : Bool). option_or before (cond (b && eqb number line) (Some text) None)) same)

module _ {Y Z : Type 0} (old m n : BTreeMap (String Y) (BTreeMap ℕ (String Z))) (file new : BTreeMap ℕ (String Z)) (source : List ℕ)
    (number : ℕ) (pattern : String Z) (text : List ℕ)
    (same : (s : List ℕ) (line : ℕ) → line_of (get_by_text m s) line ≡ line_of (get_by_text old s) line)
    (none : line_of (get_by_text old source) number ≡ None) (found : get_by_text m source ≡ Some file)
    (put : (at : ℕ) → get nat_cmp new at ≡ cond (eqb number at) (Some pattern) (get nat_cmp file at)) (is : string_bytes pattern ≡ text) where
  in_file : (line : ℕ) → line_of (Some new) line ≡ option_or (line_of (get_by_text old source) line) (cond (eqb number line) (Some text) None)
  in_file line =
      ap (λ (o : Option (String Z)). option_map string_bytes o) (put line)
      ∙ at_number source source text number line (line_of (get_by_text old source) line) pattern (get nat_cmp file line) is
      (ap (λ (o : Option (BTreeMap ℕ (String Z))). line_of o line) (sym found) ∙ same source line)
      (λ e. subst (λ (k : ℕ). line_of (get_by_text old source) k ≡ None) (eqb-true number line e) none)
      (eqb number line) refl

  by_source : (s : List ℕ) (line : ℕ) (b : Bool) → bytes_eq source s ≡ b
      → line_of (cond b (Some new) (get_by_text m s)) line
      ≡ option_or (line_of (get_by_text old s) line) (alone_at source number text s line)
  by_source s line true e =
      here_alone source s text number line (line_of (get_by_text old s) line) (line_of (Some new) line) e
      (subst (λ (t : List ℕ). line_of (Some new) line ≡ option_or (line_of (get_by_text old t) line) (cond (eqb number line) (Some text) None))
      ((bytes_eq-Decides source s).0 e) (in_file line))
  by_source s line false e =
      same s line ∙ elsewhere source s text number line (line_of (get_by_text old s) line) e

  -- a line is put into a file that is there
  pub added_line : ((cs : List ℕ) → get_by_text n cs ≡ update bytes_eq (get_by_text m) source (Some new) cs) → (s : List ℕ) (line : ℕ)
      → line_of (get_by_text n s) line ≡ option_or (line_of (get_by_text old s) line) (alone_at source number text s line)
  added_line h s line =
      ap (λ (o : Option (BTreeMap ℕ (String Z))). line_of o line) (h s) ∙ by_source s line (bytes_eq source s) refl

-- a rule that stands in no file, or at no line of it, adds nothing
pub adds_nowhere : (from : Option (List ℕ)) (number : Option ℕ) (text : List ℕ) (rules : FileRules) → (from ≡ None) ⊎ (number ≡ None)
    → Grows (given_at from number text) rules rules
adds_nowhere None number text rules h = λ source line. sym (or_none (rule_at rules source line))
adds_nowhere (Some f) None text rules h = λ source line. sym (or_none (rule_at rules source line))
adds_nowhere (Some f) (Some n) text rules (inl e) = absurd (cc e)
adds_nowhere (Some f) (Some n) text rules (inr e) = absurd (cc e)

-- another is added at its line
pub adds_there : (from : Option (List ℕ)) (number : Option ℕ) (text f : List ℕ) (n : ℕ) (t : List ℕ) (a b : FileRules) → from ≡ Some f
    → number ≡ Some n → t ≡ text → Grows (alone_at f n t) a b → Grows (given_at from number text) a b
adds_there from number text f n t a b is at same h =
    subst (λ (o : Option (List ℕ)). Grows (given_at o number text) a b) (sym is)
    (subst (λ (o : Option ℕ). Grows (given_at (Some f) o text) a b) (sym at)
    (subst (λ (x : List ℕ). Grows (given_at (Some f) (Some n) x) a b) same h))

over : (b : Bool) (before : Option (List ℕ)) (text : List ℕ) → (b ≡ true → is_some before ≡ true)
    → before ≡ option_or before (cond b (Some text) None)
over b (Some x) text h = refl
over true None text h = absurd (cc (h refl))
over false None text h = refl

-- nothing is added over a rule that stands there
pub adds_over : (f : List ℕ) (n : ℕ) (text : List ℕ) (rules : FileRules) (b : Bool) → b ≡ is_some (rule_at rules f n) → b ≡ true
    → Grows (alone_at f n text) rules rules
adds_over f n text rules b is taken = λ source line.
    over (bytes_eq f source && n == line) (rule_at rules source line) text
    (λ e. let both = and_parts (bytes_eq f source) (n == line) e in
    subst (λ (s : List ℕ). is_some (rule_at rules s line) ≡ true) ((bytes_eq-Decides f source).0 both.0)
    (subst (λ (k : ℕ). is_some (rule_at rules f k) ≡ true) (eqb-true n line both.1) (sym is ∙ taken)))

-- what a look-up of a line finds
copied_some : {X : Type 0} (o : Option (Bor X)) → is_some o ≡ is_some (option_copied o)
copied_some None = refl
copied_some (Some x) = refl

mapped_some : {Y : Type 0} (o : Option (String Y)) → is_some o ≡ is_some (option_map string_bytes o)
mapped_some None = refl
mapped_some (Some x) = refl

pub has_line : {Y : Type 0} (o : Option (BTreeMap ℕ (String Y))) (file : BTreeMap ℕ (String Y)) (line : ℕ) (r : Option (Bor (String Y)))
    (b : Bool) → o ≡ Some file → option_copied r ≡ get nat_cmp file line → b ≡ is_some r → b ≡ is_some (line_of o line)
has_line o file line r b there found is =
    is
    ∙ (copied_some r
    ∙ (ap is_some found
    ∙ (mapped_some (get nat_cmp file line) ∙ ap (λ (x : Option (BTreeMap ℕ (String _))). is_some (line_of x line)) (sym there))))

-- one line more of a file, and one file more
pub left_push : {Y : Type 0} (others : FileRules) (source : List ℕ) (es : List (ℕ × String Y)) (e : ℕ × String Y)
    → left_of others source (es ++ e ∷ [])
    ≡ left_of others source es ++ cond (is_free others (file_rule source e.0 (string_bytes e.1))) (file_rule source e.0 (string_bytes e.1) ∷ []) []
left_push others source es e =
    ap (filter (is_free others)) (map-append (λ p. file_rule source p.0 (string_bytes p.1)) es (e ∷ []))
    ∙ filter_push (is_free others) (map (λ p. file_rule source p.0 (string_bytes p.1)) es) (file_rule source e.0 (string_bytes e.1))

pub all_push : {X Y : Type 0} (others : FileRules) (fs : List (String X × BTreeMap ℕ (String Y))) (f : String X × BTreeMap ℕ (String Y))
    → all_left others (fs ++ f ∷ []) ≡ all_left others fs ++ left_of others (string_bytes f.0) f.1.entries
all_push others fs f =
    flat_map-append (λ p. left_of others (string_bytes p.0) p.1.entries) fs (f ∷ [])
    ∙ ap (λ rs. all_left others fs ++ rs) (append-nil (left_of others (string_bytes f.0) f.1.entries))
