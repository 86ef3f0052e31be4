-- Each directory that isn't ignored is left behind.
use Rattle.std.proofs.Common.{◌≡◌, ◌∙◌, ◌<◌, ◌-◌, ℕ, true, false, List, refl, sym, ap, take, length, get_or, subst, arith}
use Rattle.std.specs.Str.{chars}
use Rattle.ignore_base.specs.Match.{is_ignore}
use Rattle.ignore_base.specs.Text.{Path}
use Rattle.ignore_rules.specs.Answer.{list_answer}
use Rattle.ignore_kept.proofs.AsGit.{all_ahead, further, is_ignore-map}
use Rattle.ignore_kept.proofs.as_git.ignored_folder.Goals.{then-byte-eq47+then-end-gt0+in_ok-folder+else-is_ignore, else-byte-eq47, else-byte-eq47-via-then-byte-eq47+else-end-gt0, else-byte-eq47-via-else-byte-eq47}
use Rattle.ignore_kept.proofs.as_git.ignored_folder.Goals as goal

pub loop-byte-init : goal.loop-byte-init
loop-byte-init c = (refl, all_ahead c.args.rules.now.rules c.args.text.now)

pub loop-byte-preserved : goal.loop-byte-preserved
loop-byte-preserved c =
    let all = c.args.rules.now.rules in
    let text = c.args.text.now in
    let i = c.loop-byte.byte-index in
    let same = c.as_bytes-byte-items.ensures.value in
    let at = c.loop-byte.invariant.0 in
    let inside : i < length text = subst (λ (l : List ℕ). i < length l) same c.loop-byte-test.true in
    let front : get_or text i 0 ≡ 47 → 0 < i → is_ignore (list_answer all (chars (take i text)) true) ≡ false =
    λ slash some. elim c.if-byte-eq47.branch [
      | then-byte-eq47+then-end-gt0+in_ok-folder+else-is_ignore w ↦
          let n : c.loop-byte.end - 0 ≡ i = omega (arith, at) in
          let cut = w.range.ensures.value ∙ ap (λ (k : ℕ). take k text) n in
          let said = w.in_ok-folder.ensures.answered ∙ ap (λ (p : Path). list_answer all (chars p) true) cut in
          sym (ap is_ignore said) ∙ is_ignore-map (λ g. g.now) w.in_ok-folder.folder ∙ sym w.is_ignore.ensures ∙ w.if-is_ignore.false
      | else-byte-eq47 w ↦ elim w.else-byte-eq47.branch [
        | else-byte-eq47-via-then-byte-eq47+else-end-gt0 w' ↦ absurd (omega (arith, w'.if-end-gt0.false, at, some))
        | else-byte-eq47-via-else-byte-eq47 w' ↦
            absurd (w'.if-byte-eq47.false (subst (λ (l : List ℕ). get_or l i 0 ≡ 47) (sym same) slash))
      ]
    ] in
    (omega (arith, at), c.loop-byte.invariant.1 ∙ further all text i inside front)
