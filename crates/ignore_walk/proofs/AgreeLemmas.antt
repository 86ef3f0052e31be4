-- What is reachable and not below an ignored directory is visited.
use Rattle.std.proofs.Common.{◌≡◌, ℕ, suc, Bool, true, false, not, ◌&&◌, ◌||◌, nat_lt, List, [], ◌∷◌, length, Option, None, Some, refl, sym, ap, subst, arith}
use Rattle.std.proofs.lemmas.Bool.{not_from_false, or_from, or_parts}
use Rattle.ignore_dir.specs.Limits.{is_below, is_deepest, is_larger}
use Rattle.ignore_walk.specs.Agreement.{IsOpen, Reachable, is_within}
use Rattle.ignore_walk.specs.Agreement.{at_root as reach_root, listed as reach_listed}
use Rattle.ignore_walk.specs.Branch.{Branch}
use Rattle.ignore_walk.specs.Child.{is_dir_kind}
use Rattle.ignore_walk.specs.Entry.{Entry}
use Rattle.ignore_walk.specs.Scene.{Scene}
use Rattle.ignore_walk.specs.Visits.{IsVisited, at_root, listed}
use Rattle.ignore_walk.specs.Walked.{enter, fate, ignores, is_skipped, is_too_large, leads_in}
use Rattle.ignore_walk.proofs.KeptLemmas.{above_ignored, dir_ignored}
use Rattle.ignore_walk.proofs.ReachLemmas.{reach_depth}
use Rattle.ignore_walk.proofs.ShownLemmas.{enter_kept, entered_if}

-- depths

deeper : (most : Option ℕ) (depth size : ℕ) → is_deepest most depth ≡ false → depth ≡ size → is_below most (suc size) ≡ false
deeper None depth size h e = refl
deeper (Some most) depth size h e = search_lt
  where
    search_lt : nat_lt most (suc size) ≡ false
    search_lt = grind (arith, h, e)

leads_from : (leads deepest : Bool) → (not leads || deepest) ≡ false → (leads ≡ true) × (deepest ≡ false)
leads_from true deepest h = (refl, h)
leads_from false deepest h = absurd (cc (h))

-- a directory that is entered isn't ignored
dir_kept : (g : Scene) (root : List ℕ) (b : Branch) (e : Entry) → is_skipped g root b e ≡ false → leads_in g b e ≡ true
    → dir_ignored g root b ≡ false
unfolding is_skipped
dir_kept g root [] e h l = refl
dir_kept g root (n ∷ b) e h l =
    subst (λ (d : Bool). ignores g root (n ∷ b) d ≡ false) l
    (or_parts (ignores g root (n ∷ b) (is_dir_kind e.kind)) (is_too_large g e || not (g.keep e)) h).0

pub root_within : (most : Option ℕ) → not (is_below most 0) ≡ true
root_within None = refl
root_within (Some most) = not_from_false (nat_lt most 0) (grind arith)

-- an entry that listings lead to, not below the greatest depth nor below an ignored directory
pub record Clear (g : Scene) (root : List ℕ) (b : Branch) (e : Entry) : Type 0 where
  pub reached : Reachable g root b e
  pub within : is_within g b ≡ true
  pub clear : above_ignored g root b ≡ false

pub visited_clear : (g : Scene) (root : List ℕ) (b : Branch) (e : Entry) → IsVisited g root b e → Clear g root b e
visited_clear g root [] e (at_root h) = record { reached = reach_root h; within = root_within g.settings.max_depth; clear = refl }
visited_clear g root (name ∷ b) e (listed {dir = d} {kind = kind} v is c h) =
    let t = visited_clear g root b d v in
    let kept = enter_kept g root b d is in
    let leads = leads_from (leads_in g b d) (is_deepest g.settings.max_depth d.depth) kept.1 in
    record {
      reached = reach_listed {dir = d} {kind = kind} t.reached leads.0 c h;
      within = ap not (deeper g.settings.max_depth d.depth (length b) leads.1 (reach_depth g root b d t.reached));
      clear = or_from (above_ignored g root b) (dir_ignored g root b) t.clear (dir_kept g root b d kept.0 leads.0);
    }

shallower : (most : Option ℕ) (depth size : ℕ) → is_below most (suc size) ≡ false → depth ≡ size → is_deepest most depth ≡ false
shallower None depth size h e = refl
shallower (Some most) depth size h e = grind (arith, h, e)

above_within : (most : Option ℕ) (size : ℕ) → is_below most (suc size) ≡ false → is_below most size ≡ false
above_within None size h = refl
above_within (Some most) size h = grind (arith, h)

not_large : (ignored is_dir above keep : Bool) → ignored ≡ false → is_dir ≡ true → keep ≡ true
    → (ignored || ((not is_dir && above) || not keep)) ≡ false
not_large false true above true h k l = refl
not_large true is_dir above keep h k l = absurd (cc (h))
not_large false false above keep h k l = absurd (cc (k))
not_large false true above false h k l = absurd (cc (l))

-- a directory that isn't ignored is kept
kept_dir : (g : Scene) (root : List ℕ) (b : Branch) (e : Entry) → IsOpen g → dir_ignored g root b ≡ false → leads_in g b e ≡ true
    → is_skipped g root b e ≡ false
unfolding is_skipped
kept_dir g root [] e o h l = refl
kept_dir g root (n ∷ b) e o h l =
    let ignored : ignores g root (n ∷ b) (is_dir_kind e.kind) ≡ false =
    subst (λ (d : Bool). ignores g root (n ∷ b) d ≡ false) (sym l) h in
    not_large (ignores g root (n ∷ b) (is_dir_kind e.kind)) (is_dir_kind e.kind)
    (is_larger g.settings.max_filesize (g.tree.stat e.path g.settings.follow_links)) (g.keep e) ignored l (o.keeps_all e)

stays_not : (leads deepest : Bool) → leads ≡ true → deepest ≡ false → (not leads || deepest) ≡ false
stays_not true deepest h k = k
stays_not false deepest h k = absurd (cc (h))

same_device : (on apart : Bool) → on ≡ false → (on && apart) ≡ false
same_device false apart h = refl
same_device true apart h = absurd (cc (h))

dir_entered : (g : Scene) (root : List ℕ) (b : Branch) (e : Entry) → IsOpen g → Reachable g root b e → dir_ignored g root b ≡ false
    → leads_in g b e ≡ true → is_below g.settings.max_depth (suc (length b)) ≡ false → fate g root b e ≡ enter
dir_entered g root b e o r h l next =
    entered_if g root b e (kept_dir g root b e o h l)
    (stays_not (leads_in g b e) (is_deepest g.settings.max_depth e.depth) l
    (shallower g.settings.max_depth e.depth (length b) next (reach_depth g root b e r)))
    (same_device g.same_file_system _ o.all_devices)

pub clear_visited : (g : Scene) (root : List ℕ) (b : Branch) (e : Entry) → IsOpen g → Reachable g root b e
    → is_below g.settings.max_depth (length b) ≡ false → above_ignored g root b ≡ false → IsVisited g root b e
clear_visited g root [] e o (reach_root h) within clear = at_root h
clear_visited g root (name ∷ b) e o (reach_listed {dir = d} {kind = kind} r l c h) within clear =
    let parts = or_parts (above_ignored g root b) (dir_ignored g root b) clear in
    listed {dir = d} {kind = kind} (clear_visited g root b d o r (above_within g.settings.max_depth (length b) within) parts.0)
    (dir_entered g root b d o r parts.1 l within) c h
