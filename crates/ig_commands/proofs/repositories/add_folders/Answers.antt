use Rattle.ig_commands.specs.Repositories.{folder_at}
use Rattle.ig_commands.proofs.RepositoryLemmas.{folders_more}
use Rattle.ig_commands.proofs.repositories.add_folders.Goals as goal

-- one listed thing more
pub loop-listed-preserved : goal.loop-listed-preserved
loop-listed-preserved c =
    let l = c.loop-listed in
    folders_more (folder_at c.args.dir.now) c.args.listing.now l.listed-index c.listed-item.result c.args.waiting.now.items
    l.waiting.items c.add_folder.new.waiting.items c.loop-listed-test.true c.listed-item.is l.invariant c.in_ok-add_folder.ensures
