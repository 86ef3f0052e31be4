-- Worked examples: what is wrong with lines, and how it is said.
use Rattle.std.proofs.Common.{◌≡◌, [], ◌∷◌, codes, None, Some, refl}
use Rattle.ig_every.specs.Lines.{blank_wrong, mark_wrong, return_wrong}
use Rattle.ig_every.specs.Texts.{wrong_text}
use Rattle.ig_every.specs.declared.diagnostic.Wrong.TheVariants.{Mark, Return, GitSpace, Nothing}

-- a byte order mark is wrong anywhere but at the front of the first line
pub marks : (mark_wrong 1 (239 ∷ (187 ∷ (191 ∷ (97 ∷ [])))) ≡ None) × (mark_wrong 2 (239 ∷ (187 ∷ (191 ∷ (97 ∷ [])))) ≡ Some Mark)
    × (mark_wrong 1 (97 ∷ (239 ∷ (187 ∷ (191 ∷ [])))) ≡ Some Mark)
marks = (refl, refl, refl)

-- a carriage return in a line is wrong
pub returns : (return_wrong (97 ∷ (13 ∷ (98 ∷ []))) ≡ Some Return) × (return_wrong (codes "ab") ≡ None)
returns = (refl, refl)

-- git reads another rule
pub blanks : blank_wrong (codes "a  ") (codes "a") ≡ Some GitSpace
blanks = refl

-- how a thing is said
pub said : wrong_text Nothing ≡ codes "matches no path"
said = refl
