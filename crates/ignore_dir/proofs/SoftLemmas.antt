-- The problems of a file are nowhere out of memory.
use Rattle.std.proofs.Common.{◌≡◌, ℕ, ◌+◌, Bool, true, false, ◌||◌, List, [], ◌∷◌, ◌++◌, Option, None, Some, Result, Ok}
use Rattle.std.proofs.Common.{Err, refl, sym, ap, ◌∙◌, subst, cond, All}
use Rattle.std.proofs.lemmas.List.Elements.{All-head, All-tail}
use Rattle.std.specs.List.{filter_map}
use Rattle.std.specs.Option.{option_to_list, is_some}
use Rattle.ignore_base.specs.Errors.{io_fault}
use Rattle.ignore_base.specs.Problem.{Problem, joined_problems, problems_of, io}
use Rattle.ignore_files.specs.declared.types.Contents.{Contents}
use Rattle.ignore_files.specs.declared.types.Refusal.{Refusal}
use Rattle.ignore_files.specs.declared.types.Refusal.TheVariants.{Memory}
use Rattle.ignore_files.specs.declared.types.Refusal.TheVariants.{Fault as Refused}
use Rattle.ignore_base.specs.declared.fault.Fault.{Fault}
use Rattle.ignore_rules.specs.Line.{ParsedLine, parsed_line}
use Rattle.ignore_base.specs.Errors.{without_fault}
use Rattle.ignore_rules.specs.Rules.{Building, LineOptions, GivesProblem}
use Rattle.ignore_rules.specs.RuleFile.{AddsLines, done, stopped, added, refused, AddsAnswer, at_line_of, line_content, lines_read}
use Rattle.ignore_dir.specs.Load.{joined_some}
use Rattle.ignore_dir.specs.Soft.{holds_memory, some_holds, IsSoft, AllSoft}

at_line_of-soft : (path : List ℕ) (number : ℕ) (p : Problem) → holds_memory p ≡ false → holds_memory (at_line_of path number p) ≡ false
at_line_of-soft [] number p h = h
at_line_of-soft (c ∷ path) number p h = h

refused-soft : (options : LineOptions) (parsed : Option ParsedLine) (p : Problem) → GivesProblem options parsed p → holds_memory p ≡ false
refused-soft options None p h = absurd h
refused-soft options (Some w) p h = ap holds_memory h.2

AddsLines-soft : (path : List ℕ) (number : ℕ) (met : List (Result (List ℕ) Fault)) (old new : Building) (ps : List Problem)
    → AddsLines path number met old new ps → AllSoft ps
AddsLines-soft path number met old new ps (done n o) = tt
AddsLines-soft path number met old new ps (stopped n f more o) = (at_line_of-soft path n (io f) refl, tt)
AddsLines-soft path number met old new ps (added n line more o between end reported h v) =
    AddsLines-soft path (n + 1) more between end reported v
AddsLines-soft path number met old new ps (refused n line more o end p reported h v) = (
  at_line_of-soft path n p (refused-soft o.options
      (parsed_line o.options.git_trailing_spaces (line_content n line)) p h),
  AddsLines-soft path (n + 1) more o end reported v,
)

any_soft : (ps : List Problem) → AllSoft ps → some_holds (problems_of ps) ≡ false
any_soft [] h = refl
any_soft (p ∷ ps) h = ap (λ b. b || some_holds (problems_of ps)) h.0 ∙ any_soft ps h.1

pub joined-soft : (ps : List Problem) → AllSoft ps → IsSoft (joined_problems ps)
joined-soft [] h = tt
joined-soft (p ∷ []) h = h.0
joined-soft (p ∷ (q ∷ ps)) h = any_soft (p ∷ (q ∷ ps)) h

pub without_fault-soft : (p : Option Problem) → IsSoft p → IsSoft (without_fault p)
without_fault-soft None h = tt
without_fault-soft (Some p) h = cases (is_some (io_fault p))
  where
    cases : (b : Bool) → IsSoft (cond b None (Some p))
    cases true = tt
    cases false = h

-- whatever one call answered for a file
pub AddsAnswer-soft : (path : List ℕ) (answer : Result Contents Refusal) (old new : Building) (problem : Option Problem)
    → AddsAnswer path answer old new problem → IsSoft problem
AddsAnswer-soft path (Ok contents) old new problem h =
    subst IsSoft (sym h.2) (joined-soft h.0 (AddsLines-soft path 1 (lines_read contents.bytes contents.fault) old new h.0 h.1))
AddsAnswer-soft path (Err (Refused fault)) old new problem h = subst IsSoft (sym h.1) refl
AddsAnswer-soft path (Err Memory) old new problem h = absurd h

pub more_soft : (ps : List Problem) (t : Option Problem) → AllSoft ps → IsSoft t → AllSoft (ps ++ option_to_list t)
more_soft [] None h k = tt
more_soft [] (Some p) h k = (k, tt)
more_soft (q ∷ ps) t h k = (h.0, more_soft ps t h.1 k)

some_soft : (t : Option Problem) (ts : List (Option Problem)) → IsSoft t → AllSoft (filter_map (λ q. q) ts)
    → AllSoft (filter_map (λ q. q) (t ∷ ts))
some_soft None ts h k = k
some_soft (Some p) ts h k = (h, k)

pub joined_four-soft : (a b c d : Option Problem) → IsSoft a → IsSoft b → IsSoft c → IsSoft d
    → IsSoft (joined_some (a ∷ (b ∷ (c ∷ (d ∷ [])))))
joined_four-soft a b c d ha hb hc hd =
    joined-soft (filter_map (λ q. q) (a ∷ (b ∷ (c ∷ (d ∷ [])))))
    (some_soft a (b ∷ (c ∷ (d ∷ []))) ha (some_soft b (c ∷ (d ∷ [])) hb (some_soft c (d ∷ []) hc (some_soft d [] hd tt))))

-- problems one by one, some of which aren't there
collected_soft : (ts : List (Option Problem)) → All IsSoft ts → AllSoft (filter_map (λ q. q) ts)
collected_soft [] h = tt
collected_soft (None ∷ ts) h = collected_soft ts (All-tail IsSoft None ts h)
collected_soft (Some p ∷ ts) h = (All-head IsSoft (Some p) ts h, collected_soft ts (All-tail IsSoft (Some p) ts h))

pub joined_all-soft : (ts : List (Option Problem)) → All IsSoft ts → AllSoft (option_to_list (joined_some ts))
joined_all-soft ts h = more_soft [] (joined_some ts) tt (joined-soft (filter_map (λ q. q) ts) (collected_soft ts h))

-- the errors that there are, with one more, which may be none
pub collected-more : (ts : List (Option Problem)) (t : Option Problem)
    → filter_map (λ q. q) (ts ++ t ∷ []) ≡ filter_map (λ q. q) ts ++ option_to_list t
collected-more [] None = refl
collected-more [] (Some p) = refl
collected-more (None ∷ ts) t = collected-more ts t
collected-more (Some p ∷ ts) t = ap (λ (l : List Problem). p ∷ l) (collected-more ts t)
