use Rattle.ignore.proofs.walk_laws.none_is_the_end.Goals as goal

pub returns : goal.returns
returns g c = λ a b d answer first second. c.none_is_the_end.ensures a.inner b.inner d.inner answer first second
