use Rattle.ignore_glob.proofs.MarkBounds.{counts_one, counts_some, counts_matched, counts_within}
use Rattle.ignore_glob.proofs.glob.laws.marks_are_bounded.Goals as goal

pub returns : goal.returns
returns c = record {
  one = λ fold ts text n m a b. counts_one fold ts text n m a b;
  least = λ fold ts text n a. counts_some fold ts text n a;
  matched = λ fold ts text n a h. counts_matched fold ts text n a h;
  most = λ fold ts text n a. counts_within fold ts text n a;
}
