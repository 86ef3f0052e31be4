use Rattle.std.proofs.Common.{arith, refl}
use Rattle.std.proofs.lemmas.Str.Pattern.{strip_suffix_char}
use Rattle.ig_options.proofs.SizeLemmas.{sized, sized_plain}
use Rattle.ig_options.proofs.sizes.size_of.Goals as goal

-- a number before the letter of a unit
pub returns-in-Some : goal.returns-in-Some
returns-in-Some c =
    let text = c.args.text.now in
    let cut = rw c.in-Some.is at (strip_suffix_char 75 text c.strip_suffix.result c.strip_suffix.ensures.cases (omega arith)) in
    sized text c.in-Some.digits.now 75 1024 c.times_of.result cut refl c.times_of.ensures

pub returns-in-Some-strip_suffix : goal.returns-in-Some-strip_suffix
returns-in-Some-strip_suffix c =
    let text = c.args.text.now in
    let found = c.in-Some-strip_suffix in
    let times = c.times_of-in-Some-strip_suffix in
    let cut = rw found.is at (strip_suffix_char 77 text c.strip_suffix-2.result c.strip_suffix-2.ensures.cases (omega arith)) in
    sized text found.digits.now 77 1048576 times.result cut refl times.ensures

pub returns-in-Some-strip_suffix-2 : goal.returns-in-Some-strip_suffix-2
returns-in-Some-strip_suffix-2 c =
    let text = c.args.text.now in
    let found = c.in-Some-strip_suffix-2 in
    let times = c.times_of-in-Some-strip_suffix-2 in
    let cut = rw found.is at (strip_suffix_char 71 text c.strip_suffix-3.result c.strip_suffix-3.ensures.cases (omega arith)) in
    sized text found.digits.now 71 1073741824 times.result cut refl times.ensures

-- a number alone
pub returns : goal.returns
returns c =
    let text = c.args.text.now in
    let no_k = rw c.in_default.is at (strip_suffix_char 75 text c.strip_suffix.result c.strip_suffix.ensures.cases (omega arith)) in
    let no_m = rw c.in_default-strip_suffix.is at (strip_suffix_char 77 text c.strip_suffix-2.result c.strip_suffix-2.ensures.cases (omega arith)) in
    let no_g = rw c.in_default-strip_suffix-2.is at (strip_suffix_char 71 text c.strip_suffix-3.result c.strip_suffix-3.ensures.cases (omega arith)) in
    sized_plain text c.times_of-2.result no_k no_m no_g c.times_of-2.ensures
