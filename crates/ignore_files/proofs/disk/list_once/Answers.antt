use Rattle.std.proofs.Common.{rules, subst}
use Rattle.ignore_files.proofs.Heard.{listed-nul, listed-found, listed-refused, listed-interrupted}
use Rattle.ignore_files.proofs.disk.list_once.Goals as goal

pub returns-then-contains : goal.returns-then-contains
returns-then-contains g c =
    listed-nul g.R.Machine g.R.Dir.Iterator.next_gives c.args.machine.now c.args.path.now (search rules)

pub returns-then-is_interrupted : goal.returns-then-is_interrupted
returns-then-is_interrupted g c =
    listed-interrupted g.R.Machine g.R.Dir.Iterator.next_gives c.args.machine.now c.args.path.now c.read_dir-opened.result
    (search rules) c.read_dir-opened.ensures.answer (search rules)

pub returns-in-Ok : goal.returns-in-Ok
returns-in-Ok g c =
    listed-found g.R.Machine g.R.Dir.Iterator.next_gives c.args.machine.now c.args.path.now c.in-Ok.dir c.listing_of.result
    (search rules) (search rules) c.listing_of.ensures

pub returns-in-Err : goal.returns-in-Err
returns-in-Err g c =
    listed-refused g.R.Machine g.R.Dir.Iterator.next_gives c.args.machine.now c.args.path.now c.in-Err.error
    c.refusal_of.result (search rules) (subst (g.R.Machine.read_dir_gives c.args.machine.now c.args.path.now) c.in-Err.is
    c.read_dir-opened.ensures.answer) c.refusal_of.ensures
