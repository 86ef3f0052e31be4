-- Early ends of what writes nothing to the output.
use Rattle.std.proofs.Common.{◌≡◌, ℕ, List, [], ◌∷◌, ◌++◌, Option, inl, inr, subst, sym}
use Rattle.std.proofs.lemmas.List.{append-nil}
use Rattle.std.specs.Io.KnownBytes.{Appends}
use Rattle.std.specs.List.{flat_map}
use Rattle.commands.proofs.LineLemmas.{appends_nothing}
use Rattle.ig_commands.specs.declared.stop.Stop.{Stop}
use Rattle.ig_commands.specs.declared.stop.Stop.TheVariants.{Memory, Read, Write, Closed, Silence}
use Rattle.ig_commands.specs.Stops.{EndsAfter, IsUnwritten}
use Rattle.ig_options.specs.declared.options.Options.{Options}
use Rattle.ig_commands.specs.Ignored.{OfShown, all_met, seen_in}
use Rattle.ig_commands.specs.Surveys.{OfRoot, all_told, begun_in, begun_told}
use Rattle.ig_commands.proofs.StopLemmas.{ends_after_reports}
use Rattle.ig_commands.proofs.NameLemmas.{begun_root}
use Rattle.ig_commands.proofs.ShownLemmas.{begun_met}
use Rattle.ig_commands.proofs.TurnLemmas.{text_more}

-- an output that nothing was written to is as it was
pub ends_out : (reported : List ℕ) (o : Option (List ℕ)) (err : List ℕ → Type 0) (stop : Stop)
    → EndsAfter [] reported (λ bs. bs ≡ []) err stop → EndsAfter [] reported (Appends o o) err stop
ends_out reported o err Memory h = (appends_nothing o, h.1)
ends_out reported o err Read h = absurd h
ends_out reported o err (Write why) h = h
ends_out reported o err Closed h = h
ends_out reported o err Silence h = tt

-- what ended it before one more thing was reported ended it after the things before
pub ends_quiet : (reported : List ℕ) (out : List ℕ → Type 0) (x y z : Option (List ℕ)) (stop : Stop) → Appends x y reported
    → EndsAfter [] [] out (Appends y z) stop → EndsAfter [] reported out (Appends x z) stop
ends_quiet reported out x y z stop before h =
    subst (λ (rs : List ℕ). EndsAfter [] rs out (Appends x z) stop) (append-nil reported)
    (ends_after_reports [] reported [] out x y z stop before h)

-- what ended it at a root, after what was met of that, ended it after the roots before
pub ends_root : (o : Options) (written : OfShown → List ℕ) (all : List OfShown) (r : OfShown) (a b c x y z : Option (List ℕ))
    (stop : Stop) → Appends a b (flat_map written all) → Appends x y (all_told o (all_met all))
    → EndsAfter (written r) (begun_in o (seen_in r).1) (Appends b c) (Appends y z) stop
    → EndsAfter (flat_map written (all ++ r ∷ [])) (begun_told o (all_met (all ++ r ∷ []))) (Appends a c) (Appends x z) stop
ends_root o written all r a b c x y z Memory out err h = (text_more written all r a b c out h.0, begun_met o all r x y z err h.1)
ends_root o written all r a b c x y z Read out err h = absurd h
ends_root o written all r a b c x y z (Write why) out err h = begun_met o all r x y z err h
ends_root o written all r a b c x y z Closed out err h = begun_met o all r x y z err h
ends_root o written all r a b c x y z Silence out err h = tt

-- the same where nothing is written
pub ends_root_quiet : (o : Options) (all : List OfRoot) (r : OfRoot) (x y z : Option (List ℕ)) (stop : Stop) → Appends x y (all_told o all)
    → EndsAfter [] (begun_in o r.1) (λ bs. bs ≡ []) (Appends y z) stop
    → EndsAfter [] (begun_told o (all ++ r ∷ [])) (λ bs. bs ≡ []) (Appends x z) stop
ends_root_quiet o all r x y z Memory err h = (h.0, begun_root o all r x y z err h.1)
ends_root_quiet o all r x y z Read err h = absurd h
ends_root_quiet o all r x y z (Write why) err h = begun_root o all r x y z err h
ends_root_quiet o all r x y z Closed err h = begun_root o all r x y z err h
ends_root_quiet o all r x y z Silence err h = tt

-- a failed write after these reports
pub ends_write : (reported : List ℕ) (out err : List ℕ → Type 0) (stop : Stop) → IsUnwritten stop → err reported
    → EndsAfter [] reported out err stop
ends_write reported out err stop (inl (why, is)) h = subst (EndsAfter [] reported out err) (sym is) h
ends_write reported out err stop (inr is) h = subst (EndsAfter [] reported out err) (sym is) h
