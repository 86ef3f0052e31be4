-- `of_box` takes the box apart, and keeps what it owned.
use Rattle.std.proofs.Common.{◌≡◌, List, [], ◌∷◌, ◌++◌, refl, sym, ap, ◌∙◌, subst}
use mir.Syntax.{a_type, dcons, dnil}
use mir.Raw.{raw as bare}
use mir.Val.{Val, vstruct, of_list}
use mir.MapTy.{inst_fn}
use base.Logic.{SProp, ent, id⊢, never, fst∗}
use base.Fml.{ftrue, fsep, flft}
use prog.Wp.{WpFn}
use types.Logic.{sem}
use types.Kit.{‵, raw, ◌⊛◌, some, later, ◌$◌, ◌∵◌, !, qed, move, drop, split, split3, join, fsplit, fjoin, fpick, pick, suffices, use1, await, rewrite, feq_l, done}
use types.Run.{stop, fld, of_opd, no_more, and_then, returns, enter}
use types.ByLocal.{alloc_all, pass_all, free_all, look_at, get, get_in, sets, lands_as}
use types.Part.{agg, sub, whole}
use contract.Monad.{fact}
use contract.Running.{tables}
use denote.Exit.{no}
use denote.RattleType.{owns}
use denote.Signature.{types_at, plain}
use denote.Builtin.{RawPtr}
use denote.RawPtr.{Ptr, block_ptr, null_ptr, ptr_val, in_a_block}
use denote.Steps.{nothing, only, heard}
use denote.Param.{layout, bounded}
use denote.Struct.Tuple.{Tuple}
use denote.Triple.Spec.{triple_of}
use denote.Triple.Call.{calls_at}
use denote.Triple.Table.{framed}
use denote.Triple.Walked.{Stays, stay_dropped, says, ends_at, walk_of}
use Rattle.core.proofs.alloc.Calls.{Goes-blank, handle_tells}
use Rattle.std.proofs.raw_atomic.Walks.{proved_at}
use Rattle.std_alloc.specs.Box.Ownership.{box_owns}
use Rattle.std_alloc.proofs.BoxSteps.Form as box
use Rattle.std_alloc.proofs.BoxSteps.Steps.{box_out, box_in}
use Rattle.std_alloc.specs.contracts.boxed.Box.into_raw_with_allocator as raw_of
use Rattle.std_alloc.proofs.boxed.Box.into_raw_with_allocator.Met.{met}
use Rattle.ignore_c.proofs.Owners.{boxed}
use Rattle.ignore_c.specs.contracts.loose.Loose as loose
use Rattle.ignore_c.specs.contracts.loose.Loose.of_box.{ended, clauses}
use Rattle.ignore_c.specs.contracts.loose.Loose.of_box.Key.{name as #self}
use Rattle.ignore_c.proofs.loose.Loose.of_box.Statement.{statement}
use Rattle.ignore_c.proofs.loose.Loose.of_box.Code as code

pub of_box_spec : {M : Type 1} → statement M
of_box_spec 𝓤 𝓛 𝓜 𝓡 wired T A of_value of_alloc g d drops_value drops_alloc allocator glue glued =
    let 𝓣 = tables 𝓤 𝓛.H 𝓜 𝓡 𝓡.env in
    let E = boxed T A of_value of_alloc g d drops_alloc in
    let En = ended T A g d drops_value drops_alloc in
    let c = clauses T A g d drops_value drops_alloc 𝓛 𝓜.mem 𝓡.returns in
    let stayed : Stays En.signature.params En.kept = (stay_dropped (plain (λ κs. box.B E)) no, tt) in
    let goes = Goes-blank 𝓛 2 (plain (λ κs. box.B E)) no (λ κs x f. tt) in
    let args = bounded (a_type ∷ a_type ∷ []) (T, (A, tt)) (dcons d (dcons drops_value (dcons drops_alloc dnil))) in
    let fn = inst_fn args code.function in
    proved_at 𝓛 En stayed c 𝓜 𝓡 (goes, tt) (#self args) fn (code.unfolded 𝓤 𝓛.H 𝓜 𝓡 wired (T, (A, tt)) d drops_value drops_alloc) (λ z are.
    let κs = z.0.0 in let qs = z.0.1 in let v = z.0.3.0 in
    let alive = ‵ (flft κs.0 qs.0) ⊛ ‵ (flft κs.1.0 qs.1.0) ⊛ ‵ ftrue in
    let runs : List Val → SProp 𝓤 = λ ws. WpFn 𝓤 𝓛.H 𝓣.C 𝓣.Λ fn ws ((walk_of 𝓛 En stayed c).post z) in
    qed 𝓛 ((alive ⊛ ‵ (owns (types_at En.signature.params κs) z.0.3 z.0.4)) ∷ raw ((c κs z.0.3).requires z.1) ∷ []) ∵
    split ! $ move ! (1 ∷ []) $ fsplit ! $
    box_out E ! v z.0.4.0 (λ block offset h at_block word fits.
    let w = box.word E h block offset in
    let k = triple_of 𝓛 (raw_of.signature T A g d drops_alloc drops_value) (raw_of.spec T A g d drops_alloc drops_value 𝓛 𝓜.mem 𝓡.returns) in
    let y : k.Ghost = ((κs, qs, tt, (v, tt), (w ∷ [], tt)), tt) in
    box_in E ! v block offset v.value at_block refl $
    fjoin ! $ move ! (1 ∷ 0 ∷ []) $ join ! $ join ! $ use1 𝓛 (raw (k.pre y)) (id⊢ 𝓤 _) $
    suffices ! (runs (w ∷ [])) (subst (λ (us : List Val). ent 𝓤 (runs (w ∷ [])) (runs (us ++ []))) (sym word) (id⊢ 𝓤 _)) $
    enter ! _ _ _ _ _ $ alloc_all ! (λ l. pass_all ! refl (box.box_typed E h block offset fits, tt) $
    sets ! (of_opd ! (get ! refl)) refl (box.box_typed E h block offset fits) $
    calls_at ! (framed 𝓤 𝓛.H 𝓜 𝓣) k (met 𝓤 𝓛 𝓜 𝓡 (code.calls-std_alloc::boxed::Box::into_raw_with_allocator 𝓡.env wired) T A of_value of_alloc g d drops_alloc drops_value allocator glued glue) y
    (and_then ! (get ! refl) (no_more !)) (λ u.
    use1 𝓛 (later (some (λ (r : Ptr × A.Denot). (alive ⊛ ‵ ((Tuple (RawPtr ∷ box.P E ∷ [])).own_val r (u ∷ []))) ⊛ some (λ (ends : (Unit {0} × (Unit {0} × Unit {0})) × Unit {0}).
    ‵ (fsep (fsep ftrue (fsep ftrue ftrue)) ftrue) ⊛ (raw (fact 𝓤 (r.1 ≡ v.alloc)) ⊛ ‵ (box_owns (g.dealloc_token v.alloc) (box.R E) r.0 v.value)))))) (id⊢ 𝓤 _) $
    await ! tt $ pick ! (λ r. split ! $ move ! (1 ∷ []) $ pick ! (λ ends. split3 ! $ drop ! $ heard ! (r.1 ≡ v.alloc) (λ same_alloc.
    -- [what the box owned; the tokens with the pair; the locals]
    in_a_block ! r.0 (λ p. box_owns (g.dealloc_token v.alloc) (box.R E) p v.value) (fst∗ 𝓤 (never 𝓤) (sem 𝓛 (g.dealloc_token v.alloc (bare (layout T)) null_ptr))) (λ block' offset' at_block'.
    fsplit ! $ move ! (2 ∷ []) $ split ! $ move ! (1 ∷ []) $ fpick ! (λ fields. fsplit ! $ feq_l ! (λ of_fields. fsplit ! $ feq_l ! (λ of_pointer. fsplit ! $
    rewrite ! 0 (λ (s : A.Denot). ‵ (A.own_val s fields.1.0)) same_alloc refl $
    handle_tells E.al ! v.alloc fields.1.0 (λ h' of_alloc' fits'.
    -- [the allocator; nothing; the tokens; the value; the right to free it; the locals]
    let w' = box.word E h' block' offset' in
    let typed = box.box_typed E h' block' offset' fits' in
    let made : (loose.the_row (box.R E) (box.P E) g).Denot = record { at = block_ptr block' offset'; alloc = v.alloc; value = v.value } in
    move ! (1 ∷ []) $ drop ! $ move ! (2 ∷ 3 ∷ 0 ∷ []) $
    box_in E ! (record { ptr = block_ptr block' offset'; alloc = v.alloc; value = v.value }) block' offset' v.value refl refl $
    use1 𝓛 (‵ ((loose.the_row (box.R E) (box.P E) g).own_val made (w' ∷ []))) (id⊢ 𝓤 _) $
    -- [the result; the tokens; the locals]
    lands_as ! (ap only (of_fields ∙ (λ i. vstruct (of_list ((of_pointer ∙ ap (λ (p : Ptr). ptr_val p ∷ []) at_block') i ++ (of_alloc' i ++ []))) ∷ []))) refl typed $
    sets ! (of_opd ! (get_in ! (fld ! refl (stop !)) (sub ! 0 refl (whole !)))) refl (tt, tt) $
    sets ! (of_opd ! (get_in ! (fld ! refl (stop !)) (sub ! 1 refl (whole !)))) refl fits' $
    sets ! (of_opd ! (get ! refl)) refl fits' $
    sets ! (agg ! (and_then ! (get ! refl) (and_then ! (get ! refl) (no_more !)))) refl typed $
    returns ! (look_at ! 0 refl) $ free_all ! refl $
    suffices ! _ (ends_at 𝓛 En stayed c z w' made ((tt, (tt, tt)), tt) (tt, tt)) $ says ! refl $
    nothing ! $ nothing ! $ fjoin ! $ join ! $ move ! (1 ∷ 0 ∷ []) $ join ! $ done !))))))))))))
