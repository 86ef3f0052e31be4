use Rattle.std.proofs.Common.{◌≡◌, ◌++◌, drop, string_bytes}
use Rattle.std.specs.Option.{option_map}
use Rattle.ignore_glob.specs.Forms.{literals}
use Rattle.ignore_glob.specs.View.{tokens_view}
use Rattle.ignore_glob.proofs.glob.key.literal_text.Given as goal

abbrev pub invariant-loop-token : goal.invariant-loop-token
invariant-loop-token l =
    literals (tokens_view l.tokens)
    ≡ option_map (λ bytes. string_bytes l.text ++ bytes) (literals (tokens_view (drop l.token-index l.tokens)))
