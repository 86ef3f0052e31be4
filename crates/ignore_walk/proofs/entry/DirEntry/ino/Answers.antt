use Rattle.std.proofs.Common.{ap, not, ◌∙◌}
use Rattle.ignore_walk.specs.Entry.{entry_of}
use Rattle.ignore_walk.proofs.AnsweredLemmas.{no_inode}
use Rattle.ignore_walk.proofs.entry.DirEntry.ino.Goals as goal

pub returns-then-is_none-clause-answered : goal.returns-then-is_none-clause-answered
returns-then-is_none-clause-answered g c =
    let e = entry_of c.args.self.now in no_inode g.F.Files c.args.files.now e e.kind (c.is_none.ensures ∙ ap not c.if-is_none.true)
