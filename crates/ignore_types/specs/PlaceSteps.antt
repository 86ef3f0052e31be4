-- Steps: the place of a name in a sorted list of types, or the place where it belongs.
use Rattle.std.specs.Prelude.{◌≡◌, ℕ, suc, List, [], ◌∷◌, ◌++◌, ◌<◌, ◌≤◌, take, drop, slice_index_or, slice_set, length, Result}
use Rattle.std.specs.Prelude.{MatchResult}
use Rattle.std.specs.declared.cmp.Ordering.TheVariants.{Less}
use Rattle.ignore_base.specs.Text.{Bytes}
use Rattle.ignore_types.specs.Types.{Definition, text_cmp, AllAfter}

-- each of these has a name before the given one
abbrev pub AllBefore : Bytes → List Definition → Type 0
AllBefore name [] = Unit {0}
AllBefore name (d ∷ ds) = (text_cmp d.name name ≡ Less) × AllBefore name ds

-- the definition at i has the name
pub record IsAt (name : Bytes) (ds : List Definition) (i : ℕ) : Type 0 where
  pub definition : Definition
  pub within : i < length ds
  pub named : definition.name ≡ name
  pub here : (d : Definition) → slice_index_or ds i d ≡ definition
  pub split : ds ≡ take i ds ++ definition ∷ drop (suc i) ds
  pub put : (d : Definition) → slice_set ds i d ≡ take i ds ++ d ∷ drop (suc i) ds
  pub before : AllBefore name (take i ds)
  pub after : AllAfter name (drop (suc i) ds)

-- no definition has the name, which belongs at i
pub record IsGap (name : Bytes) (ds : List Definition) (i : ℕ) : Type 0 where
  pub within : i ≤ length ds
  pub before : AllBefore name (take i ds)
  pub after : AllAfter name (drop i ds)

-- the result is the place of a name: where it is, or where it belongs
abbrev pub IsPlace : Bytes → List Definition → Result ℕ ℕ → Type 0
IsPlace name ds r = MatchResult r (IsAt name ds) (IsGap name ds)
