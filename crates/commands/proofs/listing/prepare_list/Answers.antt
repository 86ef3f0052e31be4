use Rattle.std.proofs.Common.{◌∙◌, ◌∷◌, [], append_assoc, ap, sym}
use Rattle.std.proofs.lemmas.List.{append-nil}
use Rattle.ignore.specs.Builder.{with_root, with_roots}
use Rattle.ignore.specs.declared.options.WalkOptions.{WalkOptions}
use Rattle.commands.proofs.listing.prepare_list.Goals as goal

pub loop-name-init : goal.loop-name-init
loop-name-init c =
    ap (λ rs. let b : WalkOptions = record c.args.walk.now { roots = rs } in b) (sym (append-nil c.args.walk.now.roots))

pub loop-name-preserved : goal.loop-name-preserved
loop-name-preserved c =
    let l = c.loop-name in
    c.in_ok-push_root.ensures.added
    ∙ (ap (λ (b : WalkOptions). with_root b c.as_str.result.now) l.invariant
    ∙ (ap (with_root (with_roots c.args.walk.now l.yielded)) c.as_str.ensures
    ∙ ap (λ rs. let b : WalkOptions = record c.args.walk.now { roots = rs } in b)
    (append_assoc c.args.walk.now.roots l.yielded (c.in-Some.name ∷ []))))
