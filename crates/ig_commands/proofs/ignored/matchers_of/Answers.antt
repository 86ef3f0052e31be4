use Rattle.std.proofs.Common.{◌∙◌, ◌∷◌, [], append_assoc, ap, sym}
use Rattle.std.proofs.lemmas.List.{append-nil}
use Rattle.ignore.specs.Builder.{with_root, with_roots}
use Rattle.ignore.specs.declared.options.WalkOptions.{WalkOptions}
use Rattle.ig_commands.proofs.ignored.matchers_of.Goals as goal

pub loop-root-init : goal.loop-root-init
loop-root-init g c =
    ap (λ rs. let b : WalkOptions = record c.args.walk { roots = rs } in b) (sym (append-nil c.args.walk.roots))

pub loop-root-preserved : goal.loop-root-preserved
loop-root-preserved g c =
    let l = c.loop-root in
    c.in_ok-push_root.ensures.added
    ∙ (ap (λ (b : WalkOptions). with_root b c.as_str.result.now) l.invariant
    ∙ (ap (with_root (with_roots c.args.walk l.yielded)) c.as_str.ensures
    ∙ ap (λ rs. let b : WalkOptions = record c.args.walk { roots = rs } in b)
    (append_assoc c.args.walk.roots l.yielded (c.in-Some.root ∷ []))))
