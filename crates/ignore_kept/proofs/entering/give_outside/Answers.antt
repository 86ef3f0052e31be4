-- The first root that waited goes on.
use Rattle.std.proofs.Common.{IfOk, sym, subst, ◌∙◌}
use Rattle.ignore_guide.specs.Hosted.{IsToldOf}
use Rattle.ignore_guide.specs.declared.told.Told.{Told}
use Rattle.ignore_kept.proofs.Leading.{as_reading}
use Rattle.ignore_kept.specs.Guides.{Reads}
use Rattle.ignore_kept.specs.declared.guided.Reading.{Reading}
use Rattle.ignore_kept.specs.declared.guided.Stage.{Stage}
use Rattle.ignore_kept.proofs.entering.give_outside.Goals as goal

pub returns-in-Reading-clause-reads : goal.returns-in-Reading-clause-reads
returns-in-Reading-clause-reads c = λ reading is.
    let guided = c.args.guided.now in
    let same = as_reading guided.stage c.in-Reading.reading reading (sym c.replace.ensures.value ∙ c.in-Reading.is) is in
    subst (λ (s : Stage). IfOk c.read_on.result (λ place. (told : Told) × IsToldOf reading.question c.args.given.now reading.told told
    × Reads (record guided { stage = s }) reading.root told place c.read_on.new.guided)) c.replace.ensures.after
    (subst (λ (r : Reading). IfOk c.read_on.result (λ place. (told : Told) × IsToldOf r.question c.args.given.now r.told told
    × Reads (record guided { stage = c.replace.new.dest }) r.root told place c.read_on.new.guided)) same c.read_on.ensures.reads)
