use Rattle.std.proofs.Common.{◌≡◌, take, map, []}
use Rattle.std.specs.Fmt.{HasWritten, IsPlainFormatter}
use denote.Shadow.{shadow}
use denote.Text.{Utf8}
use Rattle.ignore_base.proofs.Joined.{joined_from, separator_at}
use Rattle.ignore_base.proofs.Texts.{text_of}
use Rattle.ignore_base.proofs.error.display.ErrorDisplay.+fmt.Given as goal

abbrev pub invariant-loop-err : goal.invariant-loop-err
invariant-loop-err g l = record {
  separator : l.separator ≡ separator_at l.err-index;
  written : IsPlainFormatter l.initial.f → HasWritten g.W.Write.write_str_gives l.initial.f
      (joined_from [] (take l.err-index (map text_of l.err-items))) l.f;
  text : shadow (Utf8 l.separator);
}
