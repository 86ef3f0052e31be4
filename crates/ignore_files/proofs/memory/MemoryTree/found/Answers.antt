use Rattle.ignore_files.proofs.memory.MemoryTree.found.Goals as goal

pub returns : goal.returns
returns c = rw (← c.self.view_is, ← c.as_str.ensures, ← c.deref.ensures.value) c.find_node.ensures
