-- Which rules decide on no entry met, in small cases: a rule `*.o` of `/t/.ignore`, by the number of its
-- line, and an entry on which such a rule decides.
use Rattle.std.proofs.Common.{◌≡◌, ℕ, zero, suc, true, false, List, [], ◌∷◌, Contains, Option, None, Some, Ok, inl, inr, codes, length, refl, ◌∙◌, ap, arith}
use Rattle.ignore_base.specs.Problem.{Problem}
use Rattle.ignore_base.specs.Text.{Path}
use Rattle.ignore_base.specs.declared.match_result.Match.TheVariants as m
use Rattle.ignore_dir.specs.Limits.{beyond}
use Rattle.ignore_dir.specs.Scene.{QueryScene}
use Rattle.ignore_files.specs.declared.types.FileType.TheVariants.{File as file_kind}
use Rattle.ignore_survey.specs.Survey.{Entry}
use Rattle.ignore_why.specs.Cited.{Named}
use Rattle.ignore_why.specs.Cited.Cited.{on_name, on_rule}
use Rattle.ignore_why.specs.QueryWhy.{QueryWhy}
use Rattle.ignore_why.specs.QueryWhy.QueryWhy.{decided, inside}
use Rattle.ignore_why.specs.declared.cause.RuleRank.TheVariants.{Ignore}
use Rattle.ig_commands.specs.Surveys.{OfRoot, all_seen}
use Rattle.ig_commands.specs.Unused.{AreInOrder, AreUnused, Decides, FileRule, IsOfFile, IsRead, IsReadBelow, IsUnused, StandsAmong}

abbrev of_file : Path → ℕ → FileRule
of_file source line = record { source = source; line = line; pattern = codes "*.o" }

abbrev on_line : ℕ → FileRule
on_line line = of_file (codes "/t/.ignore") line

abbrev read : ℕ → Named
read line = record {
  rank = Ignore;
  directory = Some (codes "/t/");
  from = Some (codes "/t/.ignore");
  line = Some line;
  original = codes "*.o";
  is_whitelist = false;
}

abbrev met : QueryWhy → Entry
met why = record { path = codes "a.o"; kind = file_kind; answer = beyond; why = why }

abbrev by_rule : ℕ → Entry
by_rule line = met (decided (m.Ignore (on_rule (read line))))

-- the rule on line 3 decides there, and so it does on what it whitelists, and within a directory that
-- it ignores
pub decides : (Decides (by_rule 3) (on_line 3)) × (Decides (met (decided (m.Whitelist (on_rule (read 3))))) (on_line 3))
    × (Decides (met (inside (codes "a") (m.Ignore (on_rule (read 3))))) (on_line 3))
decides = (
  record { rule = read 3; is = refl; source = refl; line = refl },
  record { rule = read 3; is = refl; source = refl; line = refl },
  record { rule = read 3; is = refl; source = refl; line = refl },
)

same_rule : (a b : Named) → Some a ≡ Some b → a ≡ b
same_rule a b h = cc (h)

-- not the one on line 4, nor one of another file, nor any where the name decides

pub not_another_line : Decides (by_rule 3) (on_line 4) → ⊥
not_another_line d = apart (ap (λ (r : Named). r.line) (same_rule (read 3) d.rule d.is) ∙ d.line)
  where
    apart : let l : Option ℕ = Some 3 in l ≡ Some 4 → ⊥
    apart e = cc (e)

pub not_another_file : Decides (by_rule 3) (of_file (codes "/u") 3) → ⊥
not_another_file d = apart (ap (λ (r : Named). r.from) (same_rule (read 3) d.rule d.is) ∙ d.source)
  where
    apart : let l : Option (List ℕ) = Some (codes "/t/.ignore") in l ≡ Some (codes "/u") → ⊥
    apart e = cc (e)

pub not_by_name : (r : FileRule) → Decides (met (decided (m.Ignore on_name))) r → ⊥
not_by_name r d = by d.rule d.is
  where
    by : (rule : Named) → let none : Option Named = None in none ≡ Some rule → ⊥
    by rule e = cc (e)

-- a rule that was read is one of a file with all three: the file, the line and the text
pub of_the_file : IsOfFile (read 3) (on_line 3)
of_the_file = record { source = refl; line = refl; pattern = refl }

pub not_of_another_text : IsOfFile (read 3) (record { source = codes "/t/.ignore"; line = 3; pattern = codes "*.rs" }) → ⊥
not_of_another_text h = lengths (ap (λ (l : List ℕ). length l) h.pattern)
  where
    lengths : let n : ℕ = 3 in n ≡ 4 → ⊥
    lengths e = omega (arith, e)

nothing_in : {X : Type 0} (x : X) → Contains [] x → ⊥
nothing_in x (k, l, is) = omega (arith, l)

-- where no entry is met, no rule is read
pub nothing_read : (at : Path → QueryScene) (g : QueryScene) (r : FileRule) → (IsRead at [] r → ⊥) × (IsReadBelow g [] r → ⊥)
nothing_read at g r = (λ h. nothing_in h.0 h.1, λ h. nothing_in _ h.1.1)

-- of the rules that are listed each was read, and decides on no entry met

pub was_read : (at : Path → QueryScene) (all : List OfRoot) (unused : List FileRule) (r : FileRule) → AreUnused at all unused → Contains unused r
    → IsRead at all r
was_read at all unused r h c = (h.each r c).read

pub not_listed : (at : Path → QueryScene) (all : List OfRoot) (unused : List FileRule) (problem : Option Problem) → AreUnused at all unused
    → Contains (all_seen all) (Ok (by_rule 3), problem) → Contains unused (on_line 3) → ⊥
not_listed at all unused problem h seen c = (h.each (on_line 3) c).decides_nothing (by_rule 3) problem seen decides.0

-- where none is listed, none was read that decides on nothing
pub all_listed : (at : Path → QueryScene) (all : List OfRoot) (r : FileRule) → AreUnused at all [] → IsUnused at all r → ⊥
all_listed at all r h u = let found = h.complete r u in nothing_in found.0 found.1

-- a rule stands at the place of another of its line, and of none else
pub at_its_place : (StandsAmong (on_line 3 ∷ []) (on_line 3)) × (StandsAmong (on_line 3 ∷ []) (on_line 4) → ⊥)
at_its_place = ((on_line 3, (0, omega arith, refl), refl, refl), λ h. by h.0 h.1 h.3)
  where
    by : (q : FileRule) → Contains (on_line 3 ∷ []) q → q.line ≡ 4 → ⊥
    by q (zero, l, is) line = let e = ap (λ (r : FileRule). r.line) is ∙ line in omega (arith, e)
    by q (suc k, l, is) line = omega (arith, l)

-- they are in the order of files, and in a file in that of lines, each once
pub in_order : AreInOrder (on_line 2 ∷ (on_line 3 ∷ (of_file (codes "/u") 1 ∷ [])))
in_order = (inr (refl, omega arith), (inl refl, tt))

not_before : false ≡ true → ⊥
not_before e = cc (e)

pub not_twice : AreInOrder (on_line 3 ∷ (on_line 3 ∷ [])) → ⊥
not_twice (inl e, rest) = not_before e
not_twice (inr h, rest) = omega (arith, h.1)

pub lines_rise : AreInOrder (on_line 3 ∷ (on_line 2 ∷ [])) → ⊥
lines_rise (inl e, rest) = not_before e
lines_rise (inr h, rest) = omega (arith, h.1)
