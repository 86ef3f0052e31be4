use Rattle.std.proofs.Common.{◌≡◌, List, ℕ, length, refl, sym, subst}
use Rattle.ignore_dir.specs.Lists.{IsAfterSlash}
use Rattle.ignore_levels.specs.Levels.{IsAdded, IsBelow, IsChain, counted, counting, slots_of}
use Rattle.ignore_guide.proofs.StandLemmas.{all-more}
use Rattle.ignore_guide.proofs.settle.settle.Goals as goal

pub returns-clause-settled : goal.returns-clause-settled
returns-clause-settled c =
    let opened = c.args.opened in
    let size : c.as_str-offset.result.now ≡ opened.text = c.as_str-offset.ensures in
    record {
      dir = _;
      there = c.in_ok-place.ensures.added;
      inside = refl;
      kept = c.kept_of.ensures;
      deep = refl;
      added = subst (λ (t : List ℕ). IsAdded (slots_of c.add.new.self) opened.dir c.args.around.level (length t) c.in_ok-level.level) size
          c.in_ok-level.ensures.added;
      branch = c.in_ok-level.ensures.below;
    }

pub returns-clause-stands : goal.returns-clause-stands
returns-clause-stands c = λ at chain below inside ends.
    let opened = c.args.opened in
    let size : c.as_str-offset.result.now ≡ opened.text = c.as_str-offset.ensures in
    let done = c.in_ok-level.ensures.chain (counting at.chain) chain
    (subst (λ (t : List ℕ). IsBelow (length t) (counting at.chain)) (sym size) below) in
    record {
      dir = _;
      there = c.in_ok-place.ensures.added;
      deep = refl;
      stands = record {
        chain = subst (λ (t : List ℕ). IsChain (slots_of c.add.new.self) c.in_ok-level.level (counted opened.dir (length t) (counting at.chain))) size done;
        inside = all-more (λ p. IsAfterSlash opened.text p.1) opened.dir (length opened.text) at.chain ends inside;
        text = refl;
        path = refl;
      };
    }
