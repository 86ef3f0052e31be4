use Rattle.std.proofs.Common.{◌≡◌, ◌≢◌, ◌<◌, ◌&&◌, true, false, length, get_or, nat_eq, sym, ap, ◌∙◌, arith}
use Rattle.std.specs.List.{starts_with}
use Rattle.ignore_query.specs.Forget.{is_key_in}
use Rattle.ignore_query.proofs.ForgetLemmas.{key_in}
use Rattle.ignore_query.proofs.forget.is_key_in.Goals as goal

pub returns-then-starts_with : goal.returns-then-starts_with
returns-then-starts_with c =
    let dir = c.as_bytes-dir.result.now in
    let key = c.as_bytes-key.result.now in
    let some : length dir ≢ 0 = c.if-dir-eq0.false in
    let longer : length dir < length key = omega (arith, c.if-key-dir.false) in
    let next = nat_eq (get_or key (length dir) 0) 47 in
    let begins : starts_with nat_eq key dir ≡ true = sym c.starts_with.ensures.value ∙ c.if-starts_with.true in
    sym (ap (λ b. b && next) begins)
    ∙ (key_in dir key some longer
    ∙ (ap (λ d. is_key_in d key) c.as_bytes-dir.ensures.value ∙ ap (is_key_in c.args.dir.now) c.as_bytes-key.ensures.value))

pub returns-else-starts_with : goal.returns-else-starts_with
returns-else-starts_with c =
    let dir = c.as_bytes-dir.result.now in
    let key = c.as_bytes-key.result.now in
    let some : length dir ≢ 0 = c.if-dir-eq0.false in
    let longer : length dir < length key = omega (arith, c.if-key-dir.false) in
    let next = nat_eq (get_or key (length dir) 0) 47 in
    let begins : starts_with nat_eq key dir ≡ false = sym c.starts_with.ensures.value ∙ c.if-starts_with.false in
    c.if-starts_with.false
    ∙ (sym (ap (λ b. b && next) begins)
    ∙ (key_in dir key some longer
    ∙ (ap (λ d. is_key_in d key) c.as_bytes-dir.ensures.value ∙ ap (is_key_in c.args.dir.now) c.as_bytes-key.ensures.value)))
