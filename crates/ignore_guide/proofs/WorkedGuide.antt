-- Worked places: one that is entered, one whose number serves a later directory, one that is free;
-- and sizes at a limit.
use Rattle.std.proofs.Common.{◌≡◌, [], ◌∷◌, None, Some, true, false, refl, codes}
use Rattle.ignore_base.specs.declared.match_result.Match.{Match}
use Rattle.ignore_guide.specs.Guide.{is_over}
use Rattle.ignore_guide.specs.Names.{is_name}
use Rattle.ignore_guide.specs.Spots.{children_in, dir_by}
use Rattle.ignore_guide.specs.Reasons.{why_within}
use Rattle.ignore_guide.specs.declared.places.Entered.{Entered}
use Rattle.ignore_guide.specs.declared.places.Held.TheVariants.{Entered as Holds, Free}
use Rattle.ignore_why.specs.Cited.{Cited}
use Rattle.ignore_why.specs.QueryWhy.QueryWhy.{decided as by_rules, larger}

-- what was entered with the serial 7 is there for this serial alone
pub by_its_serial : (e : Entered) → (dir_by 7 (Some (record { serial = 7; children = 0; held = Holds e })) ≡ Some e)
    × (dir_by 3 (Some (record { serial = 7; children = 0; held = Holds e })) ≡ None)
by_its_serial e = (refl, refl)

-- after it was left, nothing is
pub after_it_was_left : dir_by 7 (Some (record { serial = 7; children = 0; held = Free None })) ≡ None
after_it_was_left = refl

-- of a root with the serial 1 and a directory in it, the root has one in it, and none once that one was left
pub in_the_root : (e : Entered)
    → (children_in (record { serial = 1; children = 1; held = Holds (record e { parent = None }) }
    ∷ record { serial = 2; children = 0; held = Holds (record e { parent = Some (record { index = 0; serial = 1 }) }) } ∷ [])
    (record { index = 0; serial = 1 }) ≡ 1)
    × (children_in (record { serial = 1; children = 0; held = Holds (record e { parent = None }) }
    ∷ record { serial = 2; children = 0; held = Free None } ∷ []) (record { index = 0; serial = 1 }) ≡ 0)
in_the_root e = (refl, refl)

-- 10 bytes are above a limit of 9, and neither above 10 nor above none; an unknown size is above none
pub sizes : (is_over (Some 9) (Some 10) ≡ true) × (is_over (Some 10) (Some 10) ≡ false) × (is_over None (Some 10) ≡ false)
    × (is_over (Some 9) None ≡ false)
sizes = (refl, refl, refl, refl)

-- `a.b` is a name; the empty text, `..` and `a/b` are none
pub names : (is_name (codes "a.b") ≡ true) × (is_name [] ≡ false) × (is_name (codes "..") ≡ false) × (is_name (codes "a/b") ≡ false)
names = (refl, refl, refl, refl)

-- 10 bytes above a limit of 9 are the reason; 10 within a limit of 10, and a size that isn't known, leave
-- it to what the rules say
pub reasons : (said : Match Cited) → (why_within (Some 9) (Some 10) said ≡ larger 10 9) × (why_within (Some 10) (Some 10) said ≡ by_rules said)
    × (why_within (Some 9) None said ≡ by_rules said)
reasons said = (refl, refl, refl)
