-- Closures that answer by functions, and what a scene asks of them.
use Rattle.std.proofs.Common.{◌≡◌, Bool, true, Option, None, Some, MatchOption, subst}
use Rattle.std.specs.declared.cmp.Ordering.{Ordering}
use denote.Bor.{Bor}
use Rattle.ignore_base.specs.Text.{Path}
use Rattle.ignore_walk.specs.Entry.{Entry, entry_of, problem_in}
use Rattle.ignore_walk.specs.declared.entry.DirEntry.{DirEntry}
use Rattle.ignore.specs.Closures.{Compares, ComparesTexts, Filters}

-- a filter that answers by a function, or none, where each entry passes
pub filters_by : {X : Type 0} (filter : Option X) (gives : X → Bor DirEntry → Bool → Type 0) (keep : Entry → Bool)
    → MatchOption filter ((e : Entry) → keep e ≡ true)
    (λ x. (e : Bor DirEntry) (yes : Bool) → problem_in e.now ≡ None → gives x e yes → yes ≡ keep (entry_of e.now))
    → Filters filter gives keep
filters_by None gives keep h = h
filters_by (Some x) gives keep h = h

-- a comparison that answers by a function, or none, where texts compare as such
pub compares_by : {X : Type 0} (sorter : Option X) (gives : X → Bor Path → Bor Path → Ordering → Type 0) (cmp : Path → Path → Ordering)
    → MatchOption sorter (ComparesTexts cmp)
    (λ x. (a b : Bor Path) (order : Ordering) → gives x a b order → order ≡ cmp a.now b.now) → Compares sorter gives cmp
compares_by None gives cmp h = h
compares_by (Some x) gives cmp h = h

-- what holds of a value that is there
pub when_some : {X : Type 0} (A : Type 0) (B : X → Type 0) (o : Option X) (x : X) → o ≡ Some x → MatchOption o A B → B x
when_some A B None x is m = absurd (cc (is))
when_some A B (Some y) x is m = let e : y ≡ x = cc (is) in subst B e m
