-- Worked: names that zeros end; sizes; what is given; numbers of what becomes of entries; the parts of a
-- problem; what a step leaves.
use Rattle.std.proofs.Common.{◌≡◌, ◌++◌, ◌∷◌, [], true, false, None, Some, Ok, Err, codes, refl}
use Rattle.ignore_base.specs.Problem.{at_line, at_path, glob, io, no_problems, problem, several}
use Rattle.ignore_base.specs.declared.fault.Fault.TheVariants.{NotFound, Other}
use Rattle.ignore_dir.specs.declared.verdict.Verdict.TheVariants as v
use Rattle.ignore_kept.specs.Deciding.{listed_code}
use Rattle.ignore_kept.specs.Given.{fault_number, path_given, read_given}
use Rattle.ignore_kept.specs.Guides.{came_code}
use Rattle.ignore_kept.specs.Listings.{AreNames, is_dir_kind, size_of}
use Rattle.ignore_kept.specs.Parts.{parts_at, texts_of}

-- `a` and `b`, each ended by a zero; no name at all; and the empty name
pub two_names : AreNames (codes "a" ++ 0 ∷ (codes "b" ++ 0 ∷ [])) (codes "a" ∷ codes "b" ∷ [])
two_names = refl

pub no_name : AreNames [] []
no_name = refl

pub an_empty_name : AreNames (0 ∷ []) ([] ∷ [])
an_empty_name = refl

-- 7 bytes; a size that isn't known; the kinds of a directory and of a file
pub sizes : (size_of 7 ≡ Some 7) × (size_of 18446744073709551615 ≡ None)
sizes = (refl, refl)

pub kinds : (is_dir_kind (Some 2) ≡ true) × (is_dir_kind (Some 1) ≡ false) × (is_dir_kind None ≡ false)
kinds = (refl, refl, refl)

-- a file that wasn't opened, half a file, an empty one; a canonical path, and none
pub reads : (read_given [] (Some NotFound) ≡ Err NotFound) × (read_given (codes "a") (Some Other) ≡ Ok (record { bytes = codes "a"; fault = Some Other }))
    × (read_given [] None ≡ Ok (record { bytes = []; fault = None }))
reads = (refl, refl, refl)

pub paths : (path_given (codes "/t") None ≡ Ok (codes "/t")) × (path_given (codes "/t") (Some Other) ≡ Err Other)
paths = (refl, refl)

pub faults : (fault_number None ≡ 255) × (fault_number (Some NotFound) ≡ 0) × (fault_number (Some Other) ≡ 11)
faults = (refl, refl, refl)

-- a directory on which nothing decides, at a depth that is asked for; an ignored file there; a
-- whitelisted one above the least depth
pub numbers : (listed_code (record { verdict = v.None; descends = true; is_within = true }) ≡ 13)
    × (listed_code (record { verdict = v.Ignore; descends = false; is_within = true }) ≡ 10)
    × (listed_code (record { verdict = v.Whitelist; descends = false; is_within = false }) ≡ 3)
numbers = (refl, refl, refl)

-- two problems of one file: a glob of its second line, and a fault that is of no line
pub two_parts : parts_at None None (at_path (codes "f") (several (problem (at_line 2 (glob (Some (codes "[")) (codes "open"))) (problem (io Other) no_problems))))
    ≡ record { path = Some (codes "f"); line = Some 2; what = glob (Some (codes "[")) (codes "open") }
    ∷ record { path = Some (codes "f"); line = None; what = io Other } ∷ []
two_parts = refl

-- the nearest path counts; the texts of a part are its path, its glob and what is wrong
pub nearest : parts_at (Some (codes "a")) None (at_path (codes "b") (io NotFound)) ≡ record { path = Some (codes "b"); line = None; what = io NotFound } ∷ []
nearest = refl

pub texts : texts_of (record { path = Some (codes "f"); line = Some 2; what = glob (Some (codes "[")) (codes "open") }) ≡ codes "f[open"
texts = refl

-- a call that waits, and one that came
pub waits : (came_code (Ok None) ≡ 16) × (came_code (Ok (Some (record { index = 0; serial = 1 }))) ≡ 0)
waits = (refl, refl)
