use Rattle.std.proofs.Common.{◌≡◌, ◌++◌, ℕ, List, string_bytes, sym, ◌∙◌, ap}
use Rattle.std.specs.Option.{option_copied}
use Rattle.ignore_walk.specs.Branch.{text_at}
use Rattle.ignore_walk.specs.Stands.{name_in}
use Rattle.ignore_walk.proofs.VisitLemmas.{entered_last, on_ok_map}
use Rattle.ignore_walk.proofs.stack.set_text.Goals as goal

pub returns-in_ok-push_str-in-Some : goal.returns-in_ok-push_str-in-Some
returns-in_ok-push_str-in-Some c = λ s root place all.
    let frame = entered_last s root place c.args.frames.now c.in-Some.frame.now all (sym c.last.ensures.value
    ∙ ap option_copied c.in-Some.is) in
    let around : string_bytes c.push_str.new.self ≡ text_at s root place =
    c.in_ok-push_str-in-Some.ensures.bytes
    ∙ (ap (λ (t : List ℕ). t ++ c.as_str.result.now) c.clear.ensures.bytes ∙ (c.as_str.ensures ∙ frame.text)) in
    on_ok_map c.push_name.result (λ grown. grown ∙ ap (λ (t : List ℕ). t ++ name_in c.args.listed.now) around) c.push_name.ensures
