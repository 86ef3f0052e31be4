use Rattle.std.proofs.Common.{Some, ap, arith, bit_or, get_or, length, subst, ◌∙◌, ◌≡◌, string_bytes}
use Rattle.std.proofs.lemmas.Map.Text.{btree_map_updates_text}
use Rattle.std.specs.List.{IsAmong}
use Rattle.std.specs.Str.{IsUtf8}
use Rattle.ignore_set.specs.Index.{end_bit, end_word, slot_at, slot_with}
use Rattle.ignore_set.proofs.AddLemmas.{put_slots}
use Rattle.ignore_set.proofs.MaskLemmas.{put_bit, put_here, put_more}
use Rattle.ignore_set.proofs.table.Table.put.Goals as goal

pub returns-clause-slots : goal.returns-clause-slots
returns-clause-slots c = λ q.
    put_slots c.args.self.now
    (record { slots = c.insert.new.self; lengths = c.note.new.lengths; marks = put_bit c.args.self.now.marks c.end_word.result c.end_bit.result })
    (string_bytes c.args.text) c.with-slot.result c.args.index c.args.only_dir q
    (btree_map_updates_text (string_bytes c.args.text) c.args.self.now.slots c.insert.new.self
    (Some c.with-slot.result) c.in_ok-insert.ensures.updates q)
    (c.with-slot.ensures ∙ ap (λ s. slot_with c.args.index c.args.only_dir s) (c.slot.ensures
    ∙ ap (λ t. slot_at c.args.self.now t) c.as_str.ensures.value))

pub returns-clause-own : goal.returns-clause-own
returns-clause-own c =
    let text = string_bytes c.args.text in
    let marks = c.args.self.now.marks in
    let at = c.end_word.result in
    let bit = c.end_bit.result in
    let word : at ≡ end_word text = c.end_word.ensures.value ∙ ap end_word c.as_str-4.ensures.value in
    let own : bit ≡ end_bit text = c.end_bit.ensures ∙ ap end_bit c.as_str-3.ensures.value in (
      subst IsUtf8 c.as_str.ensures.value c.as_str.utf8,
      (
        subst (λ t. IsAmong c.note.new.lengths.items (length t)) c.as_str-2.ensures.value c.in_ok-note.ensures.length,
        subst (λ b. bit_or b (get_or (put_bit marks at bit) (end_word text) 0) ≡ get_or (put_bit marks at bit) (end_word text) 0) own
            (subst (λ k. bit_or bit (get_or (put_bit marks at bit) k 0) ≡ get_or (put_bit marks at bit) k 0) word
            (put_here marks at bit (omega arith))),
      ),
    )

pub returns-clause-others : goal.returns-clause-others
returns-clause-others c = λ t noted. (
  c.in_ok-note.ensures.kept (length t) noted.0,
  put_more c.args.self.now.marks c.end_word.result c.end_bit.result (end_word t) (end_bit t) (omega arith) noted.1,
)
