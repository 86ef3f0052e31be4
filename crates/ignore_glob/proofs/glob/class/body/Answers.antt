use Rattle.std.proofs.Common.{◌≡◌, ◌∷◌, [], arith}
use Rattle.std.proofs.lemmas.Grind.{common_steps}
use Rattle.ignore_glob.proofs.LexemeLemmas.{ClosesBefore-rest}
use Rattle.ignore_glob.proofs.glob.class.body.Goals as goal

pub closing-requires : goal.closing-requires
closing-requires c =
    let inside : c.args.inside.now ≡ c.in_ok-more.field-0-0.now ∷ c.in_ok-more.more.now = grind (arith, common_steps) in
    ClosesBefore-rest c.args.after_last c.args.inside.now (c.in_ok-more.field-0-0.now ∷ []) c.in_ok-more.more.now inside c.requires
