use Rattle.std.proofs.Common.{◌<◌, ◌++◌, ◌∷◌, [], ap, length, map, subst, sym, take, ◌∙◌, arith}
use Rattle.std.proofs.lemmas.List.{length-map, length-take-le, map_more}
use Rattle.ignore_set.specs.Index.{IsIndexOf}
use Rattle.ignore_set.proofs.index.without_buckets.Goals as goal

pub loop-i-preserved : goal.loop-i-preserved
loop-i-preserved g c =
    let member = g.M.HasPattern.member in
    let members = c.args.members.now in
    let i = c.loop-i.i in
    let x = c.index-members-i.result in
    let before = map member (take i members) in
    let within : i < length members = omega (arith, c.loop-i-test.true) in
    let more = map_more member members i x within ∙ ap (λ y. before ++ member y ∷ []) (sym c.index-members-i.is) in
    let size = length-map (take i members) member ∙ length-take-le i members (omega (arith, within)) in
    record {
      index = subst (IsIndexOf c.add.new.self) (sym more)
          (c.in_ok-add.ensures.1 before (member x) c.loop-i.invariant.index size (sym c.pattern.ensures) (sym c.is_only_dir.ensures));
      none = c.in_ok-add.ensures.0;
    }
