use Rattle.ig_every.proofs.ReadLemmas.{are_read}
use Rattle.ig_every.proofs.reading.read_bytes.Goals as goal

pub returns-clause-read : goal.returns-clause-read
returns-clause-read c = are_read c.read_file.result c.args.how c.args.path.now c.args.bytes.now c.read_file.ensures.answered
