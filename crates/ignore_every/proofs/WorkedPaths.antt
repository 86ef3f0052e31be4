-- Worked paths: how names are joined, and how they begin.
use Rattle.std.proofs.Common.{◌≡◌, true, false, [], ◌∷◌, refl}
use Rattle.ignore_every.specs.Names.{name_after, is_named}
use Rattle.ignore_every.specs.Questions.{path_of}
use Rattle.ignore_every.specs.declared.place.NameStart.TheVariants.{Empty, Named}

-- `a`, `b` and `c` make `a/b/c`
names_are_joined : path_of (97 ∷ []) ((98 ∷ []) ∷ (99 ∷ []) ∷ []) ≡ 97 ∷ 47 ∷ 98 ∷ 47 ∷ 99 ∷ []
names_are_joined = refl

-- after `..` no slash may follow, after `...` and `.a` one may; after a slash a name begins anew
dots_are_no_name : is_named (name_after (name_after Empty 46) 46) ≡ false
dots_are_no_name = refl

more_dots_are_a_name : is_named (name_after (name_after (name_after Empty 46) 46) 46) ≡ true
more_dots_are_a_name = refl

hidden_names_are_names : is_named (name_after (name_after Empty 46) 97) ≡ true
hidden_names_are_names = refl

names_begin_after_a_slash : name_after Named 47 ≡ Empty
names_begin_after_a_slash = refl
