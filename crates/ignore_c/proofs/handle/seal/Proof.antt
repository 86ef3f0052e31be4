-- `seal` moves two fields, and what they own goes with them.
use Rattle.std.proofs.Common.{List, [], ◌∷◌, ◌++◌, refl, sym, subst}
use mir.Val.{Val}
use base.Logic.{SProp, ent, emp, id⊢}
use base.Fml.{ftrue}
use prog.Wp.{WpFn}
use types.Kit.{‵, raw, ◌⊛◌, ◌$◌, ◌∵◌, !, qed, move, drop, split, fsplit, fjoin, join, suffices, use1, done}
use types.Part.{agg, sub, whole}
use types.Run.{stop, fld, of_opd, no_more, and_then, returns, enter}
use types.ByLocal.{alloc_all, pass_all, free_all, look_at, get, get_in, sets}
use contract.Running.{tables}
use denote.RattleType.{owns}
use denote.Signature.{types_at, plain}
use denote.Steps.{nothing}
use denote.Triple.Walked.{Stays, stay_dropped, says, ends_at, walk_of}
use Rattle.core.proofs.alloc.Calls.{Goes-blank}
use Rattle.std.proofs.raw_atomic.Walks.{proved_at}
use Rattle.std_alloc.proofs.BoxSteps.Form as box
use Rattle.std_alloc.proofs.BoxSteps.Steps.{box_out, box_in}
use Rattle.ignore_c.proofs.Owners.{kept_box, handle_row, loose_row}
use Rattle.ignore_c.specs.contracts.handle.seal.{ended, clauses}
use Rattle.ignore_c.specs.contracts.handle.seal.Key.{name as #self}
use Rattle.ignore_c.proofs.handle.seal.Statement.{statement}
use Rattle.ignore_c.proofs.handle.seal.Code as code

abbrev stayed : Stays ended.signature.params ended.kept
stayed = (stay_dropped (plain (λ κs. loose_row)) ended.kept.0, tt)

pub seal_spec : {M : Type 1} → statement M
seal_spec 𝓤 𝓛 𝓜 𝓡 wired =
    let 𝓣 = tables 𝓤 𝓛.H 𝓜 𝓡 𝓡.env in
    let c = clauses 𝓛 𝓜.mem 𝓡.returns in
    let goes = Goes-blank 𝓛 0 (plain (λ κs. loose_row)) ended.kept.0 (λ κs x f. tt) in
    proved_at 𝓛 ended stayed c 𝓜 𝓡 (goes, tt) #self code.function (code.unfolded 𝓤 𝓛.H 𝓜 𝓡 wired) (λ z are.
    let v = z.0.3.0 in
    let as_box : box.D kept_box = record { ptr = v.at; alloc = v.alloc; value = v.value } in
    let made : handle_row.Denot = record { at = v.at; alloc = v.alloc; value = v.value } in
    let runs : List Val → SProp 𝓤 = λ ws. WpFn 𝓤 𝓛.H 𝓣.C 𝓣.Λ code.function ws ((walk_of 𝓛 ended stayed c).post z) in
    qed 𝓛 ((‵ ftrue ⊛ ‵ (owns (types_at ended.signature.params z.0.0) z.0.3 z.0.4)) ∷ raw (emp 𝓤) ∷ []) ∵
    split ! $ drop ! $ fsplit ! $
    box_out kept_box ! as_box z.0.4.0 (λ block offset h at_block word fits.
    let w = box.word kept_box h block offset in
    let typed = box.box_typed kept_box h block offset fits in
    box_in kept_box ! as_box block offset v.value at_block refl $
    use1 𝓛 (‵ (handle_row.own_val made (w ∷ []))) (id⊢ 𝓤 _) $ move ! (1 ∷ 2 ∷ []) $ drop ! $ drop ! $
    -- [the result, before it is made]
    suffices ! (runs (w ∷ [])) (subst (λ (us : List Val). ent 𝓤 (runs (w ∷ [])) (runs (us ++ []))) (sym word) (id⊢ 𝓤 _)) $
    enter ! _ _ _ _ _ $ alloc_all ! (λ l. pass_all ! refl (typed, tt) $
    sets ! (of_opd ! (get_in ! (fld ! refl (stop !)) (sub ! 0 refl (whole !)))) refl (tt, tt) $
    sets ! (of_opd ! (get_in ! (fld ! refl (stop !)) (sub ! 1 refl (whole !)))) refl fits $
    sets ! (of_opd ! (get ! refl)) refl (tt, tt) $
    sets ! (agg ! (and_then ! (get ! refl) (and_then ! (get ! refl) (no_more !)))) refl typed $
    returns ! (look_at ! 0 refl) $ free_all ! refl $
    suffices ! _ (ends_at 𝓛 ended stayed c z w made (tt, tt) (tt, tt)) $ says ! refl $
    nothing ! $ nothing ! $ fjoin ! $ join ! $ nothing ! $ join ! $ done !)))
