use Rattle.std.proofs.Common.{ap, ◌∙◌, sym, string_bytes}
use Rattle.std.proofs.lemmas.Result.{IfOk-weaker}
use Rattle.ignore_glob.specs.Forms.{form_of, key_form}
use Rattle.ignore_set.proofs.AddLemmas.{if_ok3, add_whole, add_name, add_end}
use Rattle.ignore_set.proofs.index.Index.add.Goals as goal

pub returns-in-Whole : goal.returns-in-Whole
returns-in-Whole c = if_ok3 c.put.result c.put.ensures.slots c.put.ensures.own c.put.ensures.others
    (λ slots long kept. (
      c.requires.none,
      λ ms m was size is only.
          add_whole c.args.self.now c.put.new.self (string_bytes c.in-Whole.text) c.args.index c.args.only_dir
          (slots, long, kept) c.requires.none ms m was size (ap form_of is ∙ (sym c.in_ok-text.ensures ∙ ap key_form c.in-Whole.is)) only,
    ))

pub returns-in-Name : goal.returns-in-Name
returns-in-Name c =
    if_ok3 c.put-in-Name.result c.put-in-Name.ensures.slots c.put-in-Name.ensures.own c.put-in-Name.ensures.others
    (λ slots long kept. (
      c.requires.none,
      λ ms m was size is only.
          add_name c.args.self.now c.put-in-Name.new.self (string_bytes c.in-Name.text) c.args.index c.args.only_dir
          (slots, long, kept) c.requires.none ms m was size (ap form_of is ∙ (sym c.in_ok-text.ensures ∙ ap key_form c.in-Name.is)) only,
    ))

pub returns-in-End : goal.returns-in-End
returns-in-End c =
    if_ok3 c.put-in-End.result c.put-in-End.ensures.slots c.put-in-End.ensures.own c.put-in-End.ensures.others
    (λ slots long kept. (
      c.requires.none,
      λ ms m was size is only.
          add_end c.args.self.now c.put-in-End.new.self (string_bytes c.in-End.text) c.args.index c.args.only_dir
          (slots, long, kept) c.requires.none ms m was size (ap form_of is ∙ (sym c.in_ok-text.ensures ∙ ap key_form c.in-End.is)) only,
    ))

pub returns-in-Other : goal.returns-in-Other
returns-in-Other c = IfOk-weaker c.add_other.result _ _ (λ done p. (
  p.0,
  λ ms m was size is only. p.1 ms m was size is (ap form_of is ∙ (sym c.in_ok-text.ensures ∙ ap key_form c.in-Other.is)),
)) c.add_other.ensures
