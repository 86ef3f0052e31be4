use Rattle.std.proofs.Common.{◌≡◌, ap, refl, reverse, string_bytes}
use Rattle.ignore_base.specs.Paths.{join_of}
use Rattle.ignore_dir.specs.declared.settings.Settings.{Settings}
use Rattle.ignore_walk.specs.Branch.{path_of}
use Rattle.ignore_walk.specs.Child.{found}
use Rattle.ignore_walk.proofs.ChildLemmas.{child_is, fault_is}
use Rattle.ignore_walk.proofs.GroundLemmas.{frames-paths}
use Rattle.ignore_walk.specs.GoesOn.{is_fatal}
use Rattle.ignore_walk.proofs.ground.Ground.child.Goals as goal

pub returns-in_ok-item-in-Entry-clause-value : goal.returns-in_ok-item-in-Entry-clause-value
returns-in_ok-item-in-Entry-clause-value g c = λ s root b suits frames.
    let h = frames-paths s root b (reverse c.args.frames.now) frames in
    let lent = c.lent.ensures.suits s suits in
    let dir : c.last_path.result.now ≡ path_of root b = c.last_path.ensures.at root b h in
    let path : string_bytes c.in_ok-path-in-Entry.path ≡ join_of (path_of root b) c.in-Entry.name =
    cc (c.in_ok-path-in-Entry.ensures, dir, c.as_str.ensures) in
    let deep = c.depth_below-depth.ensures.deep root b h in
    rw (
      c.in-Entry.is,
      child_is s root b c.in-Entry.name c.in-Entry.file_type c.args.frames.now
          (string_bytes c.in_ok-path-in-Entry.path) c.depth_below-depth.result path deep h,
    )
    (c.checked.ensures.value s (found s (string_bytes c.in_ok-path-in-Entry.path) c.depth_below-depth.result c.in-Entry.file_type)
    suits.honest suits.device
    (c.in_ok-item-in-Entry.ensures.value s lent.honest (ap (λ (x : Settings). x.follow_links) lent.settings)))

pub returns-in_ok-fault_at-in-Fault-clause-value : goal.returns-in_ok-fault_at-in-Fault-clause-value
returns-in_ok-fault_at-in-Fault-clause-value g c = λ s root b suits frames.
    rw (
      c.in-Fault.is,
      fault_is s root b c.in-Fault.fault,
      c.in_ok-fault_at-in-Fault.ensures,
      c.depth_below-depth.ensures.deep root b (frames-paths s root b (reverse c.args.frames.now) frames),
    ) refl

pub returns-in_ok-item-in-Entry-clause-no_end : goal.returns-in_ok-item-in-Entry-clause-no_end
returns-in_ok-item-in-Entry-clause-no_end g c = c.checked.ensures.no_end c.in_ok-item-in-Entry.ensures.no_end

pub returns-in_ok-fault_at-in-Fault-clause-no_end : goal.returns-in_ok-fault_at-in-Fault-clause-no_end
returns-in_ok-fault_at-in-Fault-clause-no_end g c = ap is_fatal c.in_ok-fault_at-in-Fault.ensures
