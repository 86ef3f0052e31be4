-- What is written of two files that are compared.
use Rattle.std.proofs.Common.{◌≡◌, ◌≢◌, ◌⊎◌, ◌++◌, ◌||◌, ℕ, Bool, true, false, List, [], Option, None, Some, Result, Ok, Err, IfOk, IfErr, inl, inr, refl, sym, subst, ◌∙◌, take, drop}
use Rattle.std.proofs.lemmas.List.{append-nil, take-append-drop}
use Rattle.std.specs.Io.KnownBytes.{Appends}
use Rattle.commands.proofs.LineLemmas.{appends_nothing, appends_on}
use Rattle.ignore_every.specs.Differences.{AreDifferences}
use Rattle.ignore_every.specs.declared.error.Error.TheVariants as refused
use Rattle.ignore_every.specs.declared.error.Error.{Error as Refused}
use Rattle.ignore_every.specs.declared.said.Difference.{Difference}
use Rattle.ignore_every.specs.declared.said.Wanted.{Wanted}
use Rattle.ig_options.specs.declared.options.Options.{Options}
use Rattle.ig_commands.specs.Same.{Compares, EndsComparing, IsInput, differences_text, do_differ, is_told, is_unread, refused_line, status_by, told}
use Rattle.ig_commands.specs.Sides.{wanted_by}
use Rattle.ig_commands.specs.Stops.{EndsAfter}
use Rattle.ig_commands.specs.declared.sides.Sides.{Sides}
use Rattle.ig_commands.specs.declared.stop.Stop.{Stop}
use Rattle.ig_commands.specs.declared.stop.Stop.TheVariants.{Memory, Read, Write, Closed, Silence}

-- the same bytes are those of standard input too
pub is_input_as : (o : Options) (input : Option (List ℕ)) (a b : List ℕ) → b ≡ a → IsInput o input a → IsInput o input b
is_input_as o input a b is h = subst (IsInput o input) (sym is) h

-- the differences that are wanted of both files
are_wanted : (o : Options) (most : Option ℕ) (sides : Sides) (wanted : Wanted) (found items : List Difference) → wanted ≡ wanted_by o most → found ≡ items
    → AreDifferences wanted sides.old.rules.rules sides.new.rules.rules items
    → AreDifferences (wanted_by o most) sides.old.rules.rules sides.new.rules.rules found
are_wanted o most sides wanted found items w is so =
    subst (λ (v : Wanted). AreDifferences v sides.old.rules.rules sides.new.rules.rules found) w
    (subst (AreDifferences wanted sides.old.rules.rules sides.new.rules.rules) (sym is) so)

-- both were compared, and what is so was written
pub compared : (o : Options) (most : Option ℕ) (sides : Sides) (wanted : Wanted) (found items : List Difference) (reported differ : Bool) (unread : Bool) (status : ℕ)
    (a b x y : Option (List ℕ)) → unread ≡ false → unread ≡ (is_unread sides.old || is_unread sides.new) → wanted ≡ wanted_by o most → found ≡ items
    → AreDifferences wanted sides.old.rules.rules sides.new.rules.rules items
    → reported ≡ is_told o sides → differ ≡ do_differ found → status ≡ status_by reported differ → Appends a b (differences_text o sides found)
    → Appends x y (told o sides) → Compares o most sides status (Appends a b) (Appends x y)
compared o most sides wanted found items reported differ unread status a b x y free is w same so r d s out err =
    inr (
      sym is ∙ free,
      inl (
        found,
        are_wanted o most sides wanted found items w same so,
        s ∙ subst (λ (t : Bool). status_by reported differ ≡ status_by t (do_differ found)) r (subst (λ (t : Bool). status_by reported differ ≡ status_by reported t) d refl),
        out,
        err,
      ),
    )

-- one can't be read
pub unread_one : (o : Options) (most : Option ℕ) (sides : Sides) (unread : Bool) (a x y : Option (List ℕ)) → unread ≡ true
    → unread ≡ (is_unread sides.old || is_unread sides.new) → Appends x y (told o sides) → Compares o most sides 2 (Appends a a) (Appends x y)
unread_one o most sides unread a x y shut is err = inl (sym is ∙ shut, refl, appends_nothing a, err)

-- they can't be compared, which is reported after the rest
pub refused_both : (r : Result ℕ Stop) (o : Options) (most : Option ℕ) (sides : Sides) (unread : Bool) (reason : Refused) (a x y z : Option (List ℕ))
    → unread ≡ false → unread ≡ (is_unread sides.old || is_unread sides.new) → Appends x y (told o sides)
    → IfOk r (λ status. (status ≡ 2) × Appends y z (refused_line o reason)) → IfOk r (λ status. reason ≢ refused.Memory)
    → IfOk r (λ status. Compares o most sides status (Appends a a) (Appends x z))
refused_both (Ok status) o most sides unread reason a x y z free is err h known =
    inr (sym is ∙ free, inr (reason, known, h.0, appends_nothing a, appends_on x y z (told o sides) (refused_line o reason) err h.1))
refused_both (Err stop) o most sides unread reason a x y z free is err h known = tt

-- or it ends there
pub ends_refused : (r : Result ℕ Stop) (o : Options) (most : Option ℕ) (sides : Sides) (a x y z : Option (List ℕ)) → Appends x y (told o sides)
    → IfErr r (λ stop. (stop ≡ Memory) ⊎ (stop ≡ Silence)) → IfErr r (λ stop. stop ≡ Memory → Appends y z [])
    → IfErr r (EndsComparing o most sides (Appends a a) (Appends x z))
ends_refused (Ok status) o most sides a x y z err one kept = tt
ends_refused (Err stop) o most sides a x y z err (inl m) kept =
    inl (subst (EndsAfter [] (told o sides) (Appends a a) (Appends x z)) (sym m)
    (appends_nothing a, subst (Appends x z) (append-nil (told o sides)) (appends_on x y z (told o sides) [] err (kept m))))
ends_refused (Err stop) o most sides a x y z err (inr s) kept =
    inl (subst (EndsAfter [] (told o sides) (Appends a a) (Appends x z)) (sym s) tt)

-- it ends as a difference is written, after what is wrong with the files was reported
ends_told : (written reported : List ℕ) (out : List ℕ → Type 0) (x y : Option (List ℕ)) (stop : Stop) → Appends x y reported
    → EndsAfter written [] out (λ bs. bs ≡ []) stop → EndsAfter written reported out (Appends x y) stop
ends_told written reported out x y Memory err h = (h.0, err)
ends_told written reported out x y Read err h = absurd h
ends_told written reported out x y (Write why) err h = err
ends_told written reported out x y Closed err h = err
ends_told written reported out x y Silence err h = tt

-- the same of all that are found
pub ends_writing : (o : Options) (most : Option ℕ) (sides : Sides) (wanted : Wanted) (found items : List Difference) (out : List ℕ → Type 0) (x y : Option (List ℕ))
    (stop : Stop) → wanted ≡ wanted_by o most → found ≡ items → AreDifferences wanted sides.old.rules.rules sides.new.rules.rules items
    → Appends x y (told o sides)
    → (done : List Difference) × (rest : List Difference) × (found ≡ done ++ rest)
    × EndsAfter (differences_text o sides done) [] out (λ bs. bs ≡ []) stop
    → EndsComparing o most sides out (Appends x y) stop
ends_writing o most sides wanted found items out x y stop w same so err h =
    inr (
      found,
      h.0,
      h.1,
      h.2,
      are_wanted o most sides wanted found items w same so,
      ends_told (differences_text o sides h.0) (told o sides) out x y stop err h.3,
    )

ends_more : (written : List ℕ) (a b c : Option (List ℕ)) (stop : Stop) → Appends a b written
    → EndsAfter [] [] (Appends b c) (λ bs. bs ≡ []) stop → EndsAfter written [] (Appends a c) (λ bs. bs ≡ []) stop
ends_more written a b c Memory before h = (subst (Appends a c) (append-nil written) (appends_on a b c written [] before h.0), h.1)
ends_more written a b c Read before h = absurd h
ends_more written a b c (Write why) before h = h
ends_more written a b c Closed before h = h
ends_more written a b c Silence before h = tt

-- it ends as one more is written, after those before
pub ends_one_more : (o : Options) (sides : Sides) (found : List Difference) (i : ℕ) (a b c : Option (List ℕ)) (stop : Stop)
    → Appends a b (differences_text o sides (take i found)) → EndsAfter [] [] (Appends b c) (λ bs. bs ≡ []) stop
    → (done : List Difference) × (rest : List Difference) × (found ≡ done ++ rest)
    × EndsAfter (differences_text o sides done) [] (Appends a c) (λ bs. bs ≡ []) stop
ends_one_more o sides found i a b c stop before h =
    (take i found, drop i found, sym (take-append-drop i found), ends_more (differences_text o sides (take i found)) a b c stop before h)
