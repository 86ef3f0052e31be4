use Rattle.std.proofs.Common.{refl, subst, sym}
use Rattle.std.proofs.lemmas.Result.{IfOk-weaker}
use Rattle.ignore_base.specs.Normalize.{normalize_of}
use Rattle.ignore_base.specs.Text.{Path}
use Rattle.ignore_query.specs.Reached.{dir_of, scene_of}
use Rattle.ig_options.specs.declared.given.Given.{Given}
use Rattle.ig_commands.specs.Why.{IsSaid, IsSaidOf, said_of}
use Rattle.ig_commands.specs.Why.Said.{ill_quoted, no_text}
use Rattle.ig_commands.proofs.why.ask.Goals as goal

-- what is given is a path, and that is asked about
pub returns-in-Path-clause-said : goal.returns-in-Path-clause-said
returns-in-Path-clause-said g c = λ tree loads honest are agrees.
    let m = c.args.matcher.now in
    let s = scene_of m.asked tree loads in
    let new = c.ask_path.new.matcher.cache in
    IfOk-weaker c.ask_path.result _ _
    (λ said h. subst (λ (x : Given). IsSaid s (dir_of m.asked) x m.cache new (said_of said)) (sym c.in-Path.is)
    (subst (λ (p : Path). IsSaidOf s (normalize_of (dir_of m.asked) s.root p) p m.cache new (said_of said)) c.as_str.ensures h))
    (c.ask_path.ensures.said tree loads honest are agrees)

-- or a record that is no path
pub returns-in-NotText-clause-said : goal.returns-in-NotText-clause-said
returns-in-NotText-clause-said g c = λ tree loads honest are agrees.
    let m = c.args.matcher.now in
    let s = scene_of m.asked tree loads in
    subst (λ (x : Given). IsSaid s (dir_of m.asked) x m.cache m.cache (no_text c.in-NotText.number)) (sym c.in-NotText.is) (refl, refl)

pub returns-in-BadlyQuoted-clause-said : goal.returns-in-BadlyQuoted-clause-said
returns-in-BadlyQuoted-clause-said g c = λ tree loads honest are agrees.
    let m = c.args.matcher.now in
    let s = scene_of m.asked tree loads in
    subst (λ (x : Given). IsSaid s (dir_of m.asked) x m.cache m.cache (ill_quoted c.in-BadlyQuoted.number)) (sym c.in-BadlyQuoted.is) (refl, refl)
