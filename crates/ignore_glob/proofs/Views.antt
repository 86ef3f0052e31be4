-- The equation of `view` at braces.
use Rattle.std.proofs.Common.{◌≡◌, List, [], ◌∷◌, map, Vec, Global, sym, ap, ◌∙◌, refl}
use Rattle.std.below.std_alloc.specs.formers.vec.Vec.{mapped}
use Rattle.ignore_glob.specs.Glob.{Token, alternates, branch}
use Rattle.ignore_glob.specs.View.{view, view_step, branches_of, branches_view, tokens_view}
use Rattle.ignore_glob.specs.declared.glob.token.Token.{Token as CodeToken, Token-F, fold-roll-Token}
use Rattle.ignore_glob.specs.declared.glob.token.Token.TheVariants.{Alternates, rolls-Alternates}

branches_of-mapped : (bs : List (Vec CodeToken Global)) → branches_of (map (mapped {H = Global} view) bs) ≡ branches_view bs
branches_of-mapped [] = refl
branches_of-mapped (b ∷ bs) = ap (branch (tokens_view b.items)) (branches_of-mapped bs)

pub view-Alternates : (bs : Vec (Vec CodeToken Global) Global) → view (Alternates bs) ≡ alternates (branches_view bs.items)
view-Alternates bs =
    ap view (sym (rolls-Alternates bs)) ∙ (fold-roll-Token Token view_step (Token-F.Alternates bs)
    ∙ ap alternates (branches_of-mapped bs.items))

pub ruleset view_equations = (view-Alternates)
