use Rattle.ignore_glob.specs.Positions.{first, the_end}
use Rattle.ignore_glob.proofs.GlobWidth.{reads_bound}
use Rattle.ignore_glob.proofs.Places.{tokens_once}
use Rattle.ignore_glob.proofs.glob.laws.positions_are_bounded.Goals as goal

pub returns : goal.returns
returns c = record {
  differ = λ ts. tokens_once ts first the_end;
  most = λ o text ts reads. reads_bound o text ts reads;
}
