use Rattle.std.proofs.Common.{arith, rules}
use Rattle.ig_options.proofs.quotes.octal_value.Goals as goal

pub returns-in_err-a : goal.returns-in_err-a
returns-in_err-a c = rw c.from_residual.ensures (λ byte v. c.in_err-a.ensures v.a (omega (arith, v.a_fits)) v.first_is)

pub returns-in_err-b : goal.returns-in_err-b
returns-in_err-b c = rw c.from_residual-in_err-b.ensures (λ byte v. c.in_err-b.ensures v.b v.b_fits v.second_is)

pub returns-in_err-c : goal.returns-in_err-c
returns-in_err-c c = rw c.from_residual-in_err-c.ensures (λ byte v. c.in_err-c.ensures v.c v.c_fits v.third_is)

pub returns-then-a-gt3 : goal.returns-then-a-gt3
returns-then-a-gt3 c = λ byte v. absurd (omega (arith, v.a_fits, v.first_is, c.in_ok-a.ensures.1, c.if-a-gt3.true))

pub returns : goal.returns
returns c = record {
  a = c.in_ok-a.a;
  b = c.in_ok-b.b;
  c = c.in_ok-c.c;
  a_fits = omega (arith, c.if-a-gt3.false);
  b_fits = c.in_ok-b.ensures.0;
  c_fits = c.in_ok-c.ensures.0;
  first_is = c.in_ok-a.ensures.1;
  second_is = c.in_ok-b.ensures.1;
  third_is = c.in_ok-c.ensures.1;
  sum = search rules;
}
