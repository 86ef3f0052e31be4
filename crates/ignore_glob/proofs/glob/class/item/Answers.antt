use Rattle.std.proofs.Common.{◌≡◌, ◌++◌, ◌∷◌, [], ℕ, List, Bool, ◌&&◌, ap, ◌∙◌, sym}
use Rattle.std.specs.List.{list_all}
use Rattle.std.specs.Prelude.{nat_le}
use Rattle.ignore_glob.specs.Lexing.{turns, last_end}
use Rattle.ignore_glob.proofs.LexemeLemmas.{turns-more, last_end-more, list_all-more}
use Rattle.ignore_glob.proofs.glob.class.item.Goals as goal

-- a turn more at the end of an item
one_more : (body rest more ends : List ℕ) (low end : ℕ) (ordered now : Bool) → body ≡ low ∷ (turns ends ++ rest)
    → ordered ≡ list_all (nat_le low) ends → rest ≡ 45 ∷ end ∷ more → now ≡ (ordered && nat_le low end)
    → (all : List ℕ) × (body ≡ low ∷ (turns all ++ more)) × (end ≡ last_end low all) × (now ≡ list_all (nat_le low) all)
one_more body rest more ends low end ordered now b o r n = (
  ends ++ end ∷ [],
  b ∙ ap (λ t. low ∷ (turns ends ++ t)) r ∙ ap (λ t. low ∷ t) (turns-more ends end more),
  last_end-more ends low end,
  n ∙ ap (λ x. x && nat_le low end) o ∙ sym (list_all-more (nat_le low) ends end),
)

pub loop-end-preserved-then-ordered : goal.loop-end-preserved-then-ordered
loop-end-preserved-then-ordered c =
    let i = c.loop-end.invariant in
    one_more _ _ _ i.0 _ _ _ _ i.1 i.3 c.in-Some-turn.ensures.some
    (sym (ap (λ b. b && nat_le c.in-Some.low.now c.in-Some-turn.end) c.if-ordered.true))

pub loop-end-preserved : goal.loop-end-preserved
loop-end-preserved c =
    let i = c.loop-end.invariant in
    one_more _ _ _ i.0 _ _ _ _ i.1 i.3 c.in-Some-turn.ensures.some
    (c.if-ordered.false ∙ sym (ap (λ b. b && nat_le c.in-Some.low.now c.in-Some-turn.end) c.if-ordered.false))
