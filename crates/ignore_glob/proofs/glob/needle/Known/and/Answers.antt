use Rattle.std.proofs.Common.{map, string_bytes}
use Rattle.ignore_glob.proofs.NeedleLemmas.{known_character}
use Rattle.ignore_glob.proofs.glob.needle.Known.and.Goals as goal

pub returns : goal.returns
returns c = known_character c.args.c (string_bytes c.args.self.run) (string_bytes c.push.new.self)
    (map string_bytes c.args.self.needles.items) c.in_ok-push.ensures.bytes
