use Rattle.std.proofs.Common.{◌≡◌, ◌++◌, ℕ, List, Ok, Option, ap, map, option_map, refl, subst, sym, ◌∙◌}
use Rattle.ignore_base.specs.Problem.{Problem, joined_problems, problem_of}
use Rattle.ignore_dir.specs.Above.{canonical_names, names_above, paths_above, problems_of_loads}
use Rattle.ignore_levels.specs.declared.list.Levels.{Levels}
use Rattle.ignore_levels.specs.declared.list.Place.{Place}
use Rattle.ignore_levels.specs.Levels.{IsChain, counting, slots_of}
use Rattle.ignore_walk.specs.Branch.{placed_above}
use Rattle.ignore_walk.specs.Entry.{Item, item_of}
use Rattle.ignore_walk.specs.Shared.{AreSeen, AreShared, HasCome}
use Rattle.ignore_walk.specs.declared.above.Seen.{Seen}
use Rattle.ignore_walk.proofs.AboveLemmas.{reported-is}
use Rattle.ignore_walk.proofs.StandLemmas.{kept-more}
use Rattle.ignore_walk.proofs.NoEndLemmas.{reported_no_limit}
use Rattle.ignore_dir.specs.Soft.{IsSoft}
use Rattle.ignore_dir.proofs.SoftLemmas.{joined-soft}
use Rattle.ignore_dir.specs.Load.{joined_some}
use Rattle.ignore_walk.specs.Whole.{unseen}
use Rattle.ignore_walk.proofs.stack.Stack.look_above.Goals as goal

pub returns-clause-reported : goal.returns-clause-reported
returns-clause-reported g c = λ s seen suits kept found.
    let root = c.args.root.now in
    let self = c.args.self.now in
    let is : map (λ n. n.now) c.as_slice.result.now ≡ canonical_names (Ok c.in_ok-path.path) =
    ap (map (λ n. n.now)) c.as_slice.ensures.value
    ∙ (c.in_ok-names.ensures ∙ ap (λ (p : List ℕ). canonical_names (Ok p)) c.as_str.ensures) in
    let names = is ∙ c.in_ok-path.ensures.value s suits in
    let same : c.as_slice-seen.result.now ≡ self.seen.items = c.as_slice-seen.ensures.value in
    let known : AreSeen c.as_slice-seen.result.now seen = subst (λ (l : List Seen). AreSeen l seen) (sym same) kept.kept in
    let shared = subst (AreShared s (slots_of self.levels)) (sym same) kept.places in
    let levels = c.way_along.new.levels in
    let way = c.in_ok-way.way in
    let come : HasCome s (slots_of levels) self.seen.items seen (names_above s.tree s.settings root) way =
    subst (λ (l : List Seen). HasCome s (slots_of levels) l seen (names_above s.tree s.settings root) way) same
    (subst (λ (l : List (List ℕ)). HasCome s (slots_of levels) c.as_slice-seen.result.now seen l way) names
    (c.in_ok-way.ensures.come s seen c.in_ok-path.path is suits known shared)) in
    let above = paths_above s.tree s.settings root in
    let problem : option_map problem_of c.joined.result ≡ joined_some (problems_of_loads s.loads (unseen seen above)) =
    c.joined.ensures ∙ ap (λ (l : List Problem). joined_problems l) come.passed.errors in
    c.in_ok-report.ensures.value (reported_no_limit s (unseen seen above) _ suits.loads problem)
    ∙ ap (λ (l : List Item). map item_of self.made.items ++ l)
    (reported-is s root seen above (option_map problem_of c.joined.result) found refl problem)

pub returns-clause-seen : goal.returns-clause-seen
returns-clause-seen g c = λ s seen suits kept found.
    let root = c.args.root.now in
    let self = c.args.self.now in
    let is : map (λ n. n.now) c.as_slice.result.now ≡ canonical_names (Ok c.in_ok-path.path) =
    ap (map (λ n. n.now)) c.as_slice.ensures.value
    ∙ (c.in_ok-names.ensures ∙ ap (λ (p : List ℕ). canonical_names (Ok p)) c.as_str.ensures) in
    let names = is ∙ c.in_ok-path.ensures.value s suits in
    let same : c.as_slice-seen.result.now ≡ self.seen.items = c.as_slice-seen.ensures.value in
    let known : AreSeen c.as_slice-seen.result.now seen = subst (λ (l : List Seen). AreSeen l seen) (sym same) kept.kept in
    let shared = subst (AreShared s (slots_of self.levels)) (sym same) kept.places in
    let levels = c.way_along.new.levels in
    let way = c.in_ok-way.way in
    let come : HasCome s (slots_of levels) self.seen.items seen (names_above s.tree s.settings root) way =
    subst (λ (l : List Seen). HasCome s (slots_of levels) l seen (names_above s.tree s.settings root) way) same
    (subst (λ (l : List (List ℕ)). HasCome s (slots_of levels) c.as_slice-seen.result.now seen l way) names
    (c.in_ok-way.ensures.come s seen c.in_ok-path.path is suits known shared)) in
    let after : c.report.new.self.seen.items ≡ self.seen.items ++ way.added.items =
    rw c.in_ok-report.ensures.seen c.in_ok-see.ensures in
    let come' = subst (λ (l : Levels). HasCome s (slots_of l) self.seen.items seen (names_above s.tree s.settings root) way)
    (sym c.in_ok-report.ensures.levels) come in
    kept-more s seen root self c.report.new.self way found
    (λ place chain h. subst (λ (l : Levels). IsChain (slots_of l) place chain) (sym c.in_ok-report.ensures.levels)
    (c.in_ok-way.ensures.kept place chain h)) after kept come'

pub returns-clause-above : goal.returns-clause-above
returns-clause-above g c = λ s seen suits kept.
    let root = c.args.root.now in
    let self = c.args.self.now in
    let is : map (λ n. n.now) c.as_slice.result.now ≡ canonical_names (Ok c.in_ok-path.path) =
    ap (map (λ n. n.now)) c.as_slice.ensures.value
    ∙ (c.in_ok-names.ensures ∙ ap (λ (p : List ℕ). canonical_names (Ok p)) c.as_str.ensures) in
    let names = is ∙ c.in_ok-path.ensures.value s suits in
    let same : c.as_slice-seen.result.now ≡ self.seen.items = c.as_slice-seen.ensures.value in
    let known : AreSeen c.as_slice-seen.result.now seen = subst (λ (l : List Seen). AreSeen l seen) (sym same) kept.kept in
    let shared = subst (AreShared s (slots_of self.levels)) (sym same) kept.places in
    let levels = c.way_along.new.levels in
    let way = c.in_ok-way.way in
    let come : HasCome s (slots_of levels) self.seen.items seen (names_above s.tree s.settings root) way =
    subst (λ (l : List Seen). HasCome s (slots_of levels) l seen (names_above s.tree s.settings root) way) same
    (subst (λ (l : List (List ℕ)). HasCome s (slots_of levels) c.as_slice-seen.result.now seen l way) names
    (c.in_ok-way.ensures.come s seen c.in_ok-path.path is suits known shared)) in
    subst (λ (p : Option Place). IsChain (slots_of c.report.new.self.levels) p (counting (placed_above s root))) (sym c.in_ok-report.ensures.above)
    (subst (λ (l : Levels). IsChain (slots_of l) way.place (counting (placed_above s root))) (sym c.in_ok-report.ensures.levels) come.passed.place)

pub returns-clause-base : goal.returns-clause-base
returns-clause-base g c = λ s seen suits kept.
    let root = c.args.root.now in
    let self = c.args.self.now in
    let is : map (λ n. n.now) c.as_slice.result.now ≡ canonical_names (Ok c.in_ok-path.path) =
    ap (map (λ n. n.now)) c.as_slice.ensures.value
    ∙ (c.in_ok-names.ensures ∙ ap (λ (p : List ℕ). canonical_names (Ok p)) c.as_str.ensures) in
    let names = is ∙ c.in_ok-path.ensures.value s suits in
    let same : c.as_slice-seen.result.now ≡ self.seen.items = c.as_slice-seen.ensures.value in
    let known : AreSeen c.as_slice-seen.result.now seen = subst (λ (l : List Seen). AreSeen l seen) (sym same) kept.kept in
    let shared = subst (AreShared s (slots_of self.levels)) (sym same) kept.places in
    let levels = c.way_along.new.levels in
    let way = c.in_ok-way.way in
    let come : HasCome s (slots_of levels) self.seen.items seen (names_above s.tree s.settings root) way =
    subst (λ (l : List Seen). HasCome s (slots_of levels) l seen (names_above s.tree s.settings root) way) same
    (subst (λ (l : List (List ℕ)). HasCome s (slots_of levels) c.as_slice-seen.result.now seen l way) names
    (c.in_ok-way.ensures.come s seen c.in_ok-path.path is suits known shared)) in
    come.text

pub returns-clause-no_end : goal.returns-clause-no_end
returns-clause-no_end g c = λ h.
    c.in_ok-report.ensures.no_end (subst IsSoft (sym c.joined.ensures) (joined-soft _ c.in_ok-way.ensures.soft)) h

pub returns-clause-below : goal.returns-clause-below
returns-clause-below g c = λ roots h. c.in_ok-report.ensures.below roots h
