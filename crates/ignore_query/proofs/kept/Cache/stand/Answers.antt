use Rattle.std.proofs.Common.{◌++◌, List, OnOk, map, refl, sym, ap, ◌∙◌, subst, string_bytes}
use Rattle.std.specs.List.{filter_map}
use Rattle.std.specs.Option.{option_to_list}
use Rattle.ignore_base.specs.Paths.{components}
use Rattle.ignore_base.specs.Problem.{Problem, problem_of}
use Rattle.ignore_dir.specs.Query.{is_asked}
use Rattle.ignore_query.specs.Needs.{KeepsNeeded, is_known, needed}
use Rattle.ignore_query.specs.Reached.{scene_of}
use Rattle.ignore_query.specs.Reports.{new_above, new_below}
use Rattle.ignore_query.specs.Stands.{IsWithin}
use Rattle.ignore_query.proofs.QueryLemmas.{kept_none, kept_rules, named_names, names_are, ok_then, root_dir}
use Rattle.ignore_query.proofs.ReadLemmas.{beyond_off, loads_decided, loads_none, unasked_off, unruled_off}
use Rattle.ignore_query.proofs.StandLemmas.{decided_ruled, leaves_grown, ok_map, placed_ruled, placed_stands}
use Rattle.ignore_query.proofs.kept.Cache.stand.Goals as goal

-- Outside of the rules.

pub returns-then-not-is_asked-clause-stands : goal.returns-then-not-is_asked-clause-stands
returns-then-not-is_asked-clause-stands g c =
    ap (λ r. is_asked r c.args.call.now.path.now) (sym c.as_str.ensures.value) ∙ (sym c.is_asked.ensures ∙ c.if-not-is_asked.true)

pub returns-then-not-is_asked-clause-kept : goal.returns-then-not-is_asked-clause-kept
returns-then-not-is_asked-clause-kept g c = λ tree loads honest are agrees on.
    let off = unasked_off c.args.call.now.asked.now tree loads c.args.call.now.path.now c.args.call.now.is_dir
    (ap (λ r. is_asked r c.args.call.now.path.now) (sym c.as_str.ensures.value) ∙ (sym c.is_asked.ensures ∙ c.if-not-is_asked.true)) in
    absurd (cc (on, off))

pub returns-then-not-is_asked-clause-problems : goal.returns-then-not-is_asked-clause-problems
returns-then-not-is_asked-clause-problems g c = λ tree loads honest are agrees.
    loads_none (scene_of c.args.call.now.asked.now tree loads) c.args.self.now c.args.call.now.path.now c.args.call.now.is_dir (map problem_of c.args.errors.now.items)
    (unasked_off c.args.call.now.asked.now tree loads c.args.call.now.path.now c.args.call.now.is_dir
    (ap (λ r. is_asked r c.args.call.now.path.now) (sym c.as_str.ensures.value) ∙ (sym c.is_asked.ensures ∙ c.if-not-is_asked.true)))

pub returns-then-is_beyond-clause-stands : goal.returns-then-is_beyond-clause-stands
returns-then-is_beyond-clause-stands g c = (
  ap (λ r. is_asked r c.args.call.now.path.now) (sym c.as_str.ensures.value) ∙ (sym c.is_asked.ensures ∙ c.if-not-is_asked.false),
  sym (c.depth_for.ensures.beyond c.args.call.now.is_dir) ∙ (sym c.is_beyond.ensures ∙ c.if-is_beyond.true),
)

pub returns-then-is_beyond-clause-kept : goal.returns-then-is_beyond-clause-kept
returns-then-is_beyond-clause-kept g c = λ tree loads honest are agrees on.
    let off = beyond_off c.args.call.now.asked.now tree loads c.args.call.now.path.now c.args.call.now.is_dir
    (sym (c.depth_for.ensures.beyond c.args.call.now.is_dir) ∙ (sym c.is_beyond.ensures ∙ c.if-is_beyond.true)) in
    absurd (cc (on, off))

pub returns-then-is_beyond-clause-problems : goal.returns-then-is_beyond-clause-problems
returns-then-is_beyond-clause-problems g c = λ tree loads honest are agrees.
    loads_none (scene_of c.args.call.now.asked.now tree loads) c.args.self.now c.args.call.now.path.now c.args.call.now.is_dir (map problem_of c.args.errors.now.items)
    (beyond_off c.args.call.now.asked.now tree loads c.args.call.now.path.now c.args.call.now.is_dir
    (sym (c.depth_for.ensures.beyond c.args.call.now.is_dir) ∙ (sym c.is_beyond.ensures ∙ c.if-is_beyond.true)))

pub returns-then-not-branch-clause-stands : goal.returns-then-not-branch-clause-stands
returns-then-not-branch-clause-stands g c = record {
  asked = ap (λ r. is_asked r c.args.call.now.path.now) (sym c.as_str.ensures.value) ∙ (sym c.is_asked.ensures ∙ c.if-not-is_asked.false);
  within = sym (c.depth_for.ensures.beyond c.args.call.now.is_dir) ∙ (sym c.is_beyond.ensures ∙ c.if-is_beyond.false);
}

pub returns-then-not-branch-clause-unruled : goal.returns-then-not-branch-clause-unruled
returns-then-not-branch-clause-unruled g c = λ tree loads honest are agrees is.
    sym (c.in_ok-has_rules.ensures.value tree loads honest agrees) ∙ c.if-not-branch.true

pub returns-then-not-branch-clause-kept : goal.returns-then-not-branch-clause-kept
returns-then-not-branch-clause-kept g c = λ tree loads honest are agrees on.
    let off = unruled_off c.args.call.now.asked.now tree loads c.args.call.now.path.now c.args.call.now.is_dir
    (sym (c.in_ok-has_rules.ensures.value tree loads honest agrees) ∙ c.if-not-branch.true) in
    absurd (cc (on, off))

pub returns-then-not-branch-clause-problems : goal.returns-then-not-branch-clause-problems
returns-then-not-branch-clause-problems g c = λ tree loads honest are agrees.
    loads_none (scene_of c.args.call.now.asked.now tree loads) c.args.self.now c.args.call.now.path.now c.args.call.now.is_dir (map problem_of c.args.errors.now.items)
    (unruled_off c.args.call.now.asked.now tree loads c.args.call.now.path.now c.args.call.now.is_dir
    (sym (c.in_ok-has_rules.ensures.value tree loads honest agrees) ∙ c.if-not-branch.true))

pub returns-then-not-branch-clause-from_kept : goal.returns-then-not-branch-clause-from_kept
returns-then-not-branch-clause-from_kept g c = λ tree loads agrees all. (
  refl,
  λ is. kept_none (scene_of c.args.call.now.asked.now tree loads) c.args.self.now c.args.call.now.path.now c.in_ok-has_rules.field-0 agrees all
      c.if-not-branch.true c.in_ok-has_rules.ensures.known,
)

-- By the rules.

pub stand_by_rules-requires : goal.stand_by_rules-requires
stand_by_rules-requires g c =
    let path = c.args.call.now.path.now in
    let asked = ap (λ r. is_asked r path) (sym c.as_str.ensures.value) ∙ (sym c.is_asked.ensures ∙ c.if-not-is_asked.false) in record {
      named = named_names (string_bytes c.args.call.now.asked.now.root) path asked (c.in_ok-has_rules.ensures.named c.if-not-branch.false);
    }

pub returns : goal.returns
returns g c =
    let call = c.args.call.now in
    let a = call.asked.now in
    let path = call.path.now in
    let root = string_bytes a.root in
    let old = c.args.self.now in
    let new = c.stand_by_rules.new.self in
    let r = c.stand_by_rules.result in
    let filled = c.in_ok-has_rules.ensures.named c.if-not-branch.false in
    let w : IsWithin a path call.is_dir = record {
      asked = ap (λ r. is_asked r path) (sym c.as_str.ensures.value) ∙ (sym c.is_asked.ensures ∙ c.if-not-is_asked.false);
      within = sym (c.depth_for.ensures.beyond call.is_dir) ∙ (sym c.is_beyond.ensures ∙ c.if-is_beyond.false);
    } in
    record {
      stands = ok_map r (placed_stands a new path call.is_dir w (named_names root path w.asked filled)) c.stand_by_rules.ensures.placed;
      unruled = λ tree loads honest are agrees.
          ok_map r (placed_ruled (scene_of a tree loads) new (components path) path) c.stand_by_rules.ensures.placed;
      leaves = leaves_grown g.F.Files call old new c.stand_by_rules.ensures.grows w
          (λ tree loads honest are agrees. sym (c.in_ok-has_rules.ensures.value tree loads honest agrees) ∙ c.if-not-branch.false)
          (λ tree loads agrees all.
          let s = scene_of a tree loads in
          let ruled = (kept_rules s old path agrees filled all).1 in
          (c.stand_by_rules.ensures.from_kept tree loads agrees (ap (is_known s old) (names_are tree root path ruled) ∙ all)).0);
      kept = λ tree loads honest are agrees on.
          let s = scene_of a tree loads in
          let ruled = sym (c.in_ok-has_rules.ensures.value tree loads honest agrees) ∙ c.if-not-branch.false in
          subst (λ l. OnOk r (KeepsNeeded (needed s l) old new)) (names_are tree root path ruled)
          (c.stand_by_rules.ensures.kept tree loads honest are (root_dir tree root path ruled) agrees);
      problems = λ tree loads honest are agrees.
          let s = scene_of a tree loads in
          let ruled = sym (c.in_ok-has_rules.ensures.value tree loads honest agrees) ∙ c.if-not-branch.false in
          let errors = map problem_of c.args.errors.now.items in
          ok_then r
          (λ e. e ∙ ap (λ (l : List Problem). errors ++ l)
          (ap (λ l. option_to_list (new_above s old) ++ filter_map (λ p. p) (new_below s old l)) (names_are tree root path ruled)
          ∙ sym (loads_decided s old path call.is_dir (decided_ruled a tree loads path call.is_dir w ruled))))
          (c.stand_by_rules.ensures.problems tree loads honest are (root_dir tree root path ruled) agrees);
      from_kept = λ tree loads agrees all.
          let s = scene_of a tree loads in
          let ruled = (kept_rules s old path agrees filled all).1 in (
            (c.stand_by_rules.ensures.from_kept tree loads agrees (ap (is_known s old) (names_are tree root path ruled) ∙ all)).1,
            ok_map r (placed_ruled s new (components path) path) c.stand_by_rules.ensures.placed,
          );
      outside = λ no. absurd (no w);
      soft = c.stand_by_rules.ensures.soft;
    }
