use Rattle.std.proofs.Common.{◌≡◌, ◌-◌, suc, get_or, length, refl, take, arith}
use Rattle.ignore_walk.proofs.LastLemmas.{last_popped, last_set, last_split}
use Rattle.ignore_walk.proofs.StandLemmas.{stand_left, stand_taken}
use Rattle.ignore_walk.proofs.stack.Stack.take_listed.Goals as goal

pub returns-in-Some-take_next-clause-taken : goal.returns-in-Some-take_next-clause-taken
returns-in-Some-take_next-clause-taken c = λ s root place seen some is_in.
    let xs = c.args.self.now.frames.items in
    let k = c.args.self.now.frames.len - 1 in
    let f = c.in-Some.frame.now in
    let size : length xs ≡ suc k = omega (some, c.args.self.now.frames.ok.0, arith) in
    let is : f ≡ get_or xs k f = c.in-Some.ensures.value in
    stand_taken s root place seen c.args.self.now _ f _ (take k xs) c.in-Some-take_next.listed
    (record { seen = refl; roots = refl; above = refl; device = refl }) refl refl (last_split xs k f size is) (last_set xs k _ size)
    refl refl refl refl c.in-Some-take_next.ensures is_in

pub returns-clause-taken : goal.returns-clause-taken
returns-clause-taken c = λ s root place seen some is_in.
    let xs = c.args.self.now.frames.items in
    let k = c.args.self.now.frames.len - 1 in
    let f = c.in-Some.frame.now in
    let size : length xs ≡ suc k = omega (some, c.args.self.now.frames.ok.0, arith) in
    let is : f ≡ get_or xs k f = c.in-Some.ensures.value in
    stand_left s root place seen c.args.self.now _ f (record { seen = refl; roots = refl; above = refl; device = refl }) refl
    (last_popped xs c.pop.new.self.items k f _ size is c.pop.ensures.rest) c.cut.ensures.cut c.in_default-take_next.ensures is_in

pub returns-in-Some-take_next-clause-next : goal.returns-in-Some-take_next-clause-next
returns-in-Some-take_next-clause-next c = λ some.
    let xs = c.args.self.now.frames.items in
    let k = c.args.self.now.frames.len - 1 in
    let f = c.in-Some.frame.now in
    let size : length xs ≡ suc k = omega (some, c.args.self.now.frames.ok.0, arith) in
    let is : f ≡ get_or xs k f = c.in-Some.ensures.value in
    record {
      around = take k xs;
      before = f;
      after = _;
      was = last_split xs k f size is;
      same = refl;
      taken = c.in-Some-take_next.ensures;
      is = last_set xs k _ size;
      roots = refl;
    }

pub returns-clause-next : goal.returns-clause-next
returns-clause-next c = λ some.
    let xs = c.args.self.now.frames.items in
    let k = c.args.self.now.frames.len - 1 in
    let f = c.in-Some.frame.now in
    let size : length xs ≡ suc k = omega (some, c.args.self.now.frames.ok.0, arith) in
    let is : f ≡ get_or xs k f = c.in-Some.ensures.value in
    record {
      left = f;
      frames = last_popped xs c.pop.new.self.items k f _ size is c.pop.ensures.rest;
      done = c.in_default-take_next.ensures;
      roots = refl;
    }
