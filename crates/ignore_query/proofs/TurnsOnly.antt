-- Questions in turn report one list of problems, and leave one set of directories kept. What is
-- kept stays kept, and nothing comes to it that no answer needs.
use Rattle.std.proofs.Common.{◌≡◌, ℕ, Bool, true, false, not, ◌||◌, ◌&&◌, cond, All, List, [], ◌∷◌, ◌++◌, map, Option, Some}
use Rattle.std.proofs.Common.{None, is_some, refl, sym, ap, ◌∙◌, subst}
use Rattle.std.proofs.lemmas.Bool.{and_parts}
use Rattle.std.proofs.lemmas.List.Elements.{All-cons, All-nil}
use Rattle.std.proofs.lemmas.List.Sums.{take_while-cons}
use Rattle.std.specs.List.{list_all, take_while}
use Rattle.ignore_base.proofs.CleanLemmas.{first_name, names-components, other_names}
use Rattle.ignore_base.specs.Paths.{IsName, join_of}
use Rattle.ignore_base.specs.Problem.{Problem}
use Rattle.ignore_dir.specs.Limits.{is_beyond, size_problem}
use Rattle.ignore_dir.specs.Load.{joined_some}
use Rattle.ignore_dir.specs.Query.{ancestors, depth_of_path, has_rules, is_asked, is_ignored, limit_of, loaded_for, names_of, problem_above}
use Rattle.ignore_dir.specs.Query.{size_of}
use Rattle.ignore_dir.specs.Scene.{QueryScene}
use Rattle.ignore_query.specs.declared.kept.Cache.{Cache}
use Rattle.ignore_query.specs.declared.kept.Kept.{Kept}
use Rattle.ignore_query.specs.declared.kept.Kept.TheVariants.{Loaded}
use Rattle.ignore_query.specs.Agrees.{IsLoaded}
use Rattle.ignore_query.specs.Listed.{kept_at}
use Rattle.ignore_query.specs.InTurn.{Leaves, Question, ReportInTurn}
use Rattle.ignore_query.specs.Needs.{KeepsNeeded, Stays, is_among, is_decided, is_kept, is_known, needed}
use Rattle.ignore_query.specs.Reports.{new_below, not_kept, problem_in, reported, reported_by_rules}
use Rattle.ignore_query.proofs.KnownLemmas.{none_below}
use Rattle.ignore_query.proofs.QueryLemmas.{asked_names, names_are}

never : {b : Bool} → b ≡ true → b ≡ false → ⊥
never h k = cc

-- What stays kept.

some_stays : (old new : Cache) (names : List (List ℕ)) (o : Option Kept) → Stays old new → kept_at old names ≡ o → is_some o ≡ true
    → is_kept new names ≡ true
some_stays old new names None stays e h = cc
some_stays old new names (Some k) stays e h = ap (λ (x : Option Kept). is_some x) (stays.dirs names k e)

-- a kept directory stays kept
pub Stays-kept : (old new : Cache) (names : List (List ℕ)) → Stays old new → is_kept old names ≡ true → is_kept new names ≡ true
Stays-kept old new names stays h = some_stays old new names (kept_at old names) stays refl h

-- and with what it holds
pub Stays-loaded : (old new : Cache) (names : List (List ℕ)) → Stays old new → IsLoaded old names → IsLoaded new names
Stays-loaded old new names stays (place, h) = (place, stays.dirs names (Loaded place) h)

all_stay : (old new : Cache) (fronts : List (List (List ℕ))) → Stays old new → list_all (is_kept old) fronts ≡ true
    → list_all (is_kept new) fronts ≡ true
all_stay old new [] stays h = refl
all_stay old new (front ∷ fronts) stays h =
    let both = and_parts (is_kept old front) (list_all (is_kept old) fronts) h in
    ap (λ b. b && list_all (is_kept new) fronts) (Stays-kept old new front stays both.0) ∙ all_stay old new fronts stays both.1

-- where all that an answer needs was kept, it stays kept, and no directory is loaded for it
pub Stays-known : (g : QueryScene) (old new : Cache) (names : List (List ℕ)) → Stays old new → is_known g old names ≡ true
    → (is_known g new names ≡ true) × (new_below g new names ≡ [])
Stays-known g old new names stays h =
    let known : is_known g new names ≡ true = all_stay old new (needed g names) stays h in
    (known, none_below g new names known)

-- What comes to it.

-- a directory that was kept, or is needed, is kept
pub KeepsNeeded-kept : (needs : List (List (List ℕ))) (old new : Cache) (names : List (List ℕ)) → KeepsNeeded needs old new
    → All IsName names → (is_kept old names || is_among needs names) ≡ true → is_kept new names ≡ true
KeepsNeeded-kept needs old new names keeps are h = keeps.dirs names are ∙ h

-- and one that was neither kept nor is needed is not
pub KeepsNeeded-others : (needs : List (List (List ℕ))) (old new : Cache) (names : List (List ℕ)) → KeepsNeeded needs old new
    → All IsName names → is_kept old names ≡ false → is_among needs names ≡ false → is_kept new names ≡ false
KeepsNeeded-others needs old new names keeps are h k = keeps.dirs names are ∙ (ap (λ b. b || is_among needs names) h ∙ k)

-- two keep something of the same directories
pub record KeepAlike (c d : Cache) : Type 0 where
  pub above : c.has_above ≡ d.has_above
  pub dirs : (names : List (List ℕ)) → All IsName names → is_kept c names ≡ is_kept d names

pub KeepAlike-itself : (c : Cache) → KeepAlike c c
KeepAlike-itself c = record { above = refl; dirs = λ names are. refl }

KeepAlike-same : (a b c d : Cache) → KeepAlike a b → c ≡ a → d ≡ b → KeepAlike c d
KeepAlike-same a b c d alike e f = record {
  above = ap (λ x. x.has_above) e ∙ (alike.above ∙ sym (ap (λ x. x.has_above) f));
  dirs = λ names are. ap (λ x. is_kept x names) e ∙ (alike.dirs names are ∙ sym (ap (λ x. is_kept x names) f));
}

-- needs leave one set of directories kept
pub KeepsNeeded-one : (needs : List (List (List ℕ))) (a b c d : Cache) → KeepAlike a b → KeepsNeeded needs a c → KeepsNeeded needs b d
    → KeepAlike c d
KeepsNeeded-one needs a b c d alike h k = record {
  above = h.above ∙ sym k.above;
  dirs = λ names are.
      h.dirs names are ∙ (ap (λ x. x || is_among needs names) (alike.dirs names are) ∙ sym (k.dirs names are));
}

-- a question leaves one set of directories kept
pub Leaves-one : (g : QueryScene) (q : Question) (a b c d : Cache) → KeepAlike a b → Leaves g q a c → Leaves g q b d → KeepAlike c d
Leaves-one g q a b c d alike h k = by (is_decided g q.0 q.1) refl
  where
    by : (x : Bool) → is_decided g q.0 q.1 ≡ x → KeepAlike c d
    by true e = KeepsNeeded-one (needed g (names_of q.0)) a b c d alike (h.kept e) (k.kept e)
    by false e = KeepAlike-same a b c d alike (h.unchanged (λ t. never t e)) (k.unchanged (λ t. never t e))

-- What is reported.

-- the names of each directory are names
abbrev AreNamed : List (List (List ℕ)) → Type 0
AreNamed [] = Unit {0}
AreNamed (front ∷ fronts) = All IsName front × AreNamed fronts

more_named : (n : List ℕ) (fronts : List (List (List ℕ))) → IsName n → AreNamed fronts → AreNamed (map (λ front. n ∷ front) fronts)
more_named n [] h k = tt
more_named n (front ∷ fronts) h k = (All-cons IsName n front h k.0, more_named n fronts h k.1)

ancestors_named : (names : List (List ℕ)) → All IsName names → AreNamed (ancestors names)
ancestors_named [] h = tt
ancestors_named (n ∷ names) h = (
  All-nil IsName,
  more_named n (ancestors names) (first_name n names h) (ancestors_named names (other_names n names h)),
)

taken_named : (p : List (List ℕ) → Bool) (fronts : List (List (List ℕ))) → AreNamed fronts → AreNamed (take_while p fronts)
taken_named p [] h = tt
taken_named p (front ∷ fronts) h =
    subst AreNamed (sym (take_while-cons p front fronts)) (by (p front) (taken_named p fronts h.1))
  where
    by : (b : Bool) → AreNamed (take_while p fronts) → AreNamed (cond b (front ∷ take_while p fronts) [])
    by true rest = (h.0, rest)
    by false rest = tt

same_not_kept : (c d : Cache) (fronts : List (List (List ℕ))) → KeepAlike c d → AreNamed fronts → not_kept c fronts ≡ not_kept d fronts
same_not_kept c d [] alike h = refl
same_not_kept c d (front ∷ fronts) alike h =
    ap (λ b. cond (not b) (front ∷ not_kept c fronts) (not_kept c fronts)) (alike.dirs front h.0)
    ∙ ap (λ l. cond (not (is_kept d front)) (front ∷ l) l) (same_not_kept c d fronts alike h.1)

same_below : (g : QueryScene) (c d : Cache) (names : List (List ℕ)) → KeepAlike c d → All IsName names
    → new_below g c names ≡ new_below g d names
unfolding new_below
same_below g c d names alike are =
    ap (map (problem_in g))
    (same_not_kept c d (loaded_for g names) alike (taken_named (λ f. not (is_ignored g f)) (ancestors names) (ancestors_named names are)))

same_by_rules : (g : QueryScene) (c d : Cache) (path : List ℕ) (is_dir : Bool) → KeepAlike c d → All IsName (names_of path)
    → reported_by_rules g c path is_dir ≡ reported_by_rules g d path is_dir
unfolding reported_by_rules
same_by_rules g c d path is_dir alike are =
    let size = size_problem (join_of g.root path) (limit_of g path is_dir) (size_of g path) in
    ap (λ b. joined_some (cond b None (problem_above g) ∷ (new_below g c (names_of path) ++ size ∷ []))) alike.above
    ∙ ap (λ l. joined_some (cond d.has_above None (problem_above g) ∷ (l ++ size ∷ []))) (same_below g c d (names_of path) alike are)

by_cases : (a b r : Bool) (x y : Option Problem) → (a ≡ true → r ≡ true → x ≡ y)
    → cond (not a) None (cond b None (cond r x None)) ≡ cond (not a) None (cond b None (cond r y None))
by_cases false b r x y h = refl
by_cases true true r x y h = refl
by_cases true false true x y h = h refl refl
by_cases true false false x y h = refl

-- a question reports one problem, by the directories that are kept
pub reported-one : (g : QueryScene) (c d : Cache) (path : List ℕ) (is_dir : Bool) → KeepAlike c d
    → reported g c path is_dir ≡ reported g d path is_dir
unfolding reported
reported-one g c d path is_dir alike =
    by_cases (is_asked g.root path) (is_beyond g.settings (depth_of_path path) is_dir) (has_rules g.tree g.root path)
    (reported_by_rules g c path is_dir) (reported_by_rules g d path is_dir)
    (λ asked ruled. same_by_rules g c d path is_dir alike
    (subst (All IsName) (names_are g.tree g.root path ruled) (names-components path (asked_names g.tree g.root path asked ruled))))

-- questions in turn have one list of problems, and leave one set of directories kept
pub ReportInTurn-one : (g : QueryScene) (qs : List Question) (ps rs : List (Option Problem)) (a b c d : Cache) → KeepAlike a b
    → ReportInTurn g qs ps a c → ReportInTurn g qs rs b d → (ps ≡ rs) × KeepAlike c d
ReportInTurn-one g [] ps rs a b c d alike h k = (h.0 ∙ sym k.0, KeepAlike-same a b c d alike h.1 k.1)
ReportInTurn-one g (q ∷ qs) ps rs a b c d alike (m, rest, here, is, more) (n, others, there, are, further) =
    let after = ReportInTurn-one g qs rest others m n c d (Leaves-one g q a b m n alike here there) more further in (
      is ∙ (ap (λ p. p ∷ rest) (reported-one g a b q.0 q.1 alike)
          ∙ (ap (λ l. reported g b q.0 q.1 ∷ l) after.0 ∙ sym are)),
      after.1,
    )
