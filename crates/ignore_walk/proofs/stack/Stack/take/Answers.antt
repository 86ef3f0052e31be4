use Rattle.std.proofs.Common.{◌≡◌, ◌++◌, ◌∷◌, [], ℕ, List, Option, inl, true, refl, reverse, sym, ◌∙◌, ap, subst, append_assoc}
use Rattle.ignore_levels.specs.declared.list.Place.{Place}
use Rattle.ignore_levels.specs.Levels.{IsChain, counting, slots_of}
use Rattle.ignore_walk.specs.Branch.{placed_to, text_at}
use Rattle.ignore_walk.specs.Child.{is_dir_kind}
use Rattle.ignore_walk.specs.Entry.{entry_of}
use Rattle.ignore_walk.specs.Moves.{skips}
use Rattle.ignore_walk.specs.OnList.{place_around}
use Rattle.ignore_walk.specs.Stands.{Visits}
use Rattle.ignore_walk.specs.Walked.{is_skipped}
use Rattle.ignore_walk.specs.declared.frame.Frame.{Frame}
use Rattle.ignore_walk.proofs.ListLemmas.{on-around}
use Rattle.ignore_walk.proofs.VisitLemmas.{fate_skip, next_inside}
use Rattle.ignore_walk.proofs.stack.Stack.take.Goals as goal

pub returns-then-branch-clause-taken : goal.returns-then-branch-clause-taken
returns-then-branch-clause-taken g c = λ s root place name seen suits is frames at text here.
    let e = entry_of c.args.found.entry in
    let self = c.args.self.now in
    let around = on-around s root self.seen.items place self.above (reverse self.frames.items) (slots_of self.levels) frames is.levels in
    let nearest : c.place_around-around.result ≡ place_around self.above (reverse self.frames.items) =
    c.place_around-around.ensures ∙ ap (λ (fs : List Frame). place_around self.above (reverse fs)) c.as_slice.ensures.value in
    let chain = subst (λ (p : Option Place). IsChain (slots_of self.levels) p (counting (placed_to s root place))) (sym nearest) around in
    let answer = c.in_ok-is_skipped.ensures.value s root place name suits chain (c.as_str.ensures.value ∙ text) here.path here.sound in
    let skipped : is_skipped s root (name ∷ place) e ≡ true = sym answer ∙ c.if-branch.true in
    record {
      root = root;
      place = place;
      seen = seen;
      is = is;
      by = skips (fate_skip s root (name ∷ place) e skipped);
    }

pub returns-clause-taken : goal.returns-clause-taken
returns-clause-taken g c = λ s root place name seen suits is frames at text here.
    let e = entry_of c.args.found.entry in
    let self = c.args.self.now in
    let around = on-around s root self.seen.items place self.above (reverse self.frames.items) (slots_of self.levels) frames is.levels in
    let nearest : c.place_around-around.result ≡ place_around self.above (reverse self.frames.items) =
    c.place_around-around.ensures ∙ ap (λ (fs : List Frame). place_around self.above (reverse fs)) c.as_slice.ensures.value in
    let chain = subst (λ (p : Option Place). IsChain (slots_of self.levels) p (counting (placed_to s root place))) (sym nearest) around in
    let answer = c.in_ok-is_skipped.ensures.value s root place name suits chain (c.as_str.ensures.value ∙ text) here.path here.sound in
    let full : c.is_dir_kind-leads_in.result ≡ true → c.in_ok-text.text ≡ text_at s root (name ∷ place) =
    λ leads. c.in_ok-text.ensures leads ∙ (ap (λ (t : List ℕ). t ++ 47 ∷ []) (c.as_str-2.ensures.value ∙ text)
    ∙ append_assoc (text_at s root place) name (47 ∷ [])) in
    let leads : c.is_dir_kind-leads_in.result ≡ is_dir_kind e.kind = c.is_dir_kind-leads_in.ensures ∙ ap is_dir_kind c.file_type.ensures in
    let visits : Visits s root (name ∷ place) c.args.self.now c.args.found c.is_dir_kind-leads_in.result c.in_ok-text.text = record {
      path = here.path;
      leads_there = leads;
      kept = sym answer ∙ c.if-branch.false;
      at = λ _. at;
      device = λ t. here.device (sym leads ∙ t);
      seen_as = full;
      around = λ _. around;
    } in
    c.visit.ensures.visited s root place (name ∷ place) seen suits is visits
    (next_inside s root place (reverse c.args.self.now.frames.items) name frames)

pub returns-then-branch-clause-enters : goal.returns-then-branch-clause-enters
returns-then-branch-clause-enters g c = inl refl

pub returns-clause-enters : goal.returns-clause-enters
returns-clause-enters g c = c.visit.ensures.enters

pub returns-then-branch-clause-no_end : goal.returns-then-branch-clause-no_end
returns-then-branch-clause-no_end g c = λ h. h

pub returns-clause-no_end : goal.returns-clause-no_end
returns-clause-no_end g c = c.visit.ensures.no_end

pub returns-then-branch-clause-below : goal.returns-then-branch-clause-below
returns-then-branch-clause-below g c = λ roots h made. made

pub returns-clause-below : goal.returns-clause-below
returns-clause-below g c = c.visit.ensures.below
