use Rattle.std.proofs.Common.{◌≡◌, ◌≢◌, ℕ, List, ◌++◌, Some, map, slice_get, ap, subst, ◌∙◌}
use Rattle.std.specs.Char.{IsScalar}
use Rattle.std.specs.Option.{option_map}
use Rattle.std.proofs.lemmas.Option.{slice_get-map}
use Rattle.ignore_glob.specs.Reading.{Reading}
use Rattle.ignore_rules.specs.Rules.{Rule}
use Rattle.ignore_every.specs.Letters.{IsOfLetter}
use Rattle.ignore_every.specs.Machines.{IsAlphabet}
use Rattle.ignore_every.proofs.alphabet.alphabet_of.Goals as goal

-- letters by the automata of the rules are letters by the rules
alphabet_right : (rules : List Rule) (readings : List Reading) (marks letters : List ℕ)
    → readings ≡ map (λ (rule : Rule). rule.reading) rules → marks ≡ letters
    → ((c : ℕ) → IsScalar c → c ≢ 0 → (a : ℕ) × IsOfLetter readings marks a c) → IsAlphabet rules letters
alphabet_right rules readings marks letters own same each c scalar some =
    let found = each c scalar some in
    let letter = found.1 in
    let reading_at : (i : ℕ) (rule : Rule) → slice_get rules i ≡ Some rule → slice_get readings i ≡ Some rule.reading = λ i rule at.
    ap (λ rs. slice_get rs i) own ∙ (slice_get-map (λ (r : Rule). r.reading) rules i ∙ ap (λ o. option_map (λ (r : Rule). r.reading) o) at) in (
      found.0,
      letter.0,
      subst (λ ls. slice_get ls found.0 ≡ Some letter.0) same letter.1,
      λ i rule at. letter.2 i rule.reading (reading_at i rule at),
      letter.3,
      letter.4,
    )

pub returns : goal.returns
returns c =
    alphabet_right (c.args.left.now ++ c.args.right.now) c.deref-5.result.now c.deref-6.result.now c.in_ok-letters.letters.items
    (c.deref-5.ensures.value ∙ c.in_ok-automata.ensures) c.deref-6.ensures.value (c.is_alphabet.ensures c.if-not-is_alphabet.false)
