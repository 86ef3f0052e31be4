use Rattle.ignore_files.proofs.Numbered.{numbered}
use Rattle.ignore_files.proofs.memory.MemoryTree.is_numbered.Goals as goal

pub returns : goal.returns
returns c =
    rw (← c.self.view_is) (numbered (record { cwd = c.self.inside.cwd; nodes = c.self.inside.nodes.items }) c.self.invariant)
