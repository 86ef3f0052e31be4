-- The four answers are those of the first word.
use Rattle.std.proofs.Common.{◌≡◌, ◌≢◌, ℕ, List, [], ◌++◌, Option, None, Some, length, false, eqb, subst, sym, ◌∙◌, ap}
use Rattle.std.proofs.lemmas.Bool.{iff_false, eqb-true, eqb-false}
use Rattle.std.proofs.lemmas.List.{nil_from_length}
use Rattle.ignore_excludes.specs.Excludes.{HasValue, IsShortest}
use Rattle.ignore_excludes.proofs.ExcludesValues.{no_word, unquoted_word, whole_word, no_value}
use Rattle.ignore_excludes.proofs.excludes.first_value.Goals as goal

-- a fact about the prefix and the rest is one about the text
abbrev whole : (text word after : List ℕ) (r : Option (List ℕ)) → text ≡ word ++ after
    → IsShortest (λ (v : List ℕ). HasValue v (word ++ after)) r → IsShortest (λ (v : List ℕ). HasValue v text) r
whole text word after r e h = subst (λ (t : List ℕ). IsShortest (λ (v : List ℕ). HasValue v t) r) (sym e) h

some_word : (word : List ℕ) → eqb (length word) 0 ≡ false → word ≢ []
some_word word h e = eqb-false (length word) 0 h (ap length e)

pub returns-then-is_empty : goal.returns-then-is_empty
returns-then-is_empty c =
    let word = c.split_word.result.0.now in
    let after = c.split_word.result.1.now in
    let none : word ≡ [] = nil_from_length word (eqb-true (length word) 0 (sym c.is_empty.ensures ∙ c.if-is_empty.true)) in
    let same : c.args.text.now ≡ [] ++ after = c.split_word.ensures.parts ∙ ap (λ t. t ++ after) none in
    whole c.args.text.now [] after None same (no_word after c.split_word.ensures.after)

pub returns-then-ends_line : goal.returns-then-ends_line
returns-then-ends_line c =
    let word = c.split_word.result.0.now in
    let after = c.split_word.result.1.now in
    let some = some_word word (sym c.is_empty.ensures ∙ c.if-is_empty.false) in
    whole c.args.text.now word after (Some c.unquoted.result.now) c.split_word.ensures.parts
    (unquoted_word word after c.unquoted.result.now some c.split_word.ensures.word c.split_word.ensures.after
    (c.ends_line.ensures.0 c.if-ends_line.true) c.unquoted.ensures)

pub returns-then-closes : goal.returns-then-closes
returns-then-closes c =
    let word = c.split_word.result.0.now in
    let after = c.split_word.result.1.now in
    let some = some_word word (sym c.is_empty.ensures ∙ c.if-is_empty.false) in
    whole c.args.text.now word after (Some word) c.split_word.ensures.parts
    (whole_word word after some c.split_word.ensures.word c.split_word.ensures.after (c.closes.ensures.0 c.if-closes.true)
    (iff_false c.ends_line.ensures c.if-ends_line.false))

pub returns : goal.returns
returns c =
    let word = c.split_word.result.0.now in
    let after = c.split_word.result.1.now in
    whole c.args.text.now word after None c.split_word.ensures.parts
    (no_value word after c.split_word.ensures.word c.split_word.ensures.after (iff_false c.closes.ensures c.if-closes.false))
