use Rattle.std.proofs.Common.{◌++◌, map, string_bytes, subst}
use Rattle.ignore_glob.specs.Needles.{utf8, HasOneOf}
use Rattle.ignore_glob.specs.View.{view}
use Rattle.ignore_glob.proofs.NeedleLemmas.{known_past}
use Rattle.ignore_glob.proofs.glob.needle.Known.past.Goals as goal

pub returns : goal.returns
returns c =
    let more = map string_bytes c.in_ok-more.more.items in
    known_past (view c.args.token.now) (string_bytes c.args.self.run) (string_bytes c.new.result)
    (map string_bytes c.args.self.needles.items) more (map string_bytes c.longer.result.items) c.new.ensures.bytes
    (λ front w m. subst (λ run. HasOneOf more ((front ++ run) ++ utf8 w)) c.as_str.ensures.value
    (c.in_ok-more.ensures front w m)) c.longer.ensures
