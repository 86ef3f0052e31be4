-- How a run ends.
use Rattle.std.proofs.Common.{◌≡◌, ◌≢◌, ◌⊎◌, ◌∙◌, ℕ, List, [], Option, None, Some, Result, Ok, Err, IfErr, IfOk, inl, inr, refl, sym, ap, subst}
use Rattle.std.proofs.lemmas.Result.{IfOk-weaker}
use Rattle.std.specs.Io.KnownBytes.{Appends, Keeps}
use Rattle.std.specs.declared.io.ErrorKind.{ErrorKind}
use Rattle.ignore_files.specs.declared.env.Env.{Env}
use Rattle.ignore_files.specs.declared.files.Files.{Ghosts as Files}
use Rattle.ignore_types.specs.Types.{Draft}
use Rattle.ig_options.specs.declared.options.Options.{Options}
use Rattle.ig_options.specs.declared.words.Task.{Task}
use Rattle.ig_options.specs.declared.words.Task.TheVariants as command
use Rattle.ig_commands.specs.Run.{Does, Ends, Finishes}
use Rattle.ig_commands.specs.Run.Finishes.{whole, early as early_end, unwritten}
use Rattle.ig_commands.specs.Stops.{EndsAfter, IsUnwritten, SaidBy, reason, stop_status}
use Rattle.ig_commands.specs.declared.run.Ran.{Ran}
use Rattle.ig_commands.specs.declared.stop.Stop.{Stop}
use Rattle.ig_commands.specs.declared.stop.Stop.TheVariants.{Silence}

-- each command may end before it begins
pub ends_none : {F : Type 0} (files : Files F) (f : F) (env : Env) (o : Options) (first : Draft) (task : Task) (input : Option (List ℕ))
    (out err : List ℕ → Type 0) (stop : Stop) → EndsAfter [] [] out err stop → Ends files f env o first task input out err stop
ends_none files f env o first command.List input out err stop h = inr h
ends_none files f env o first command.Ignored input out err stop h = inr h
ends_none files f env o first command.Why input out err stop h = inr h
ends_none files f env o first command.Unused input out err stop h = inr h
ends_none files f env o first command.Lint input out err stop h = tt
ends_none files f env o first command.LintJson input out err stop h = tt
ends_none files f env o first (command.Same most) input out err stop h = inl (inl h)
ends_none files f env o first command.Types input out err stop h = h

-- of an early end nothing may be said
pub ends_in_any_way : (r : Result ℕ Stop) → IfErr r (λ stop. Unit {0})
ends_in_any_way (Ok status) = tt
ends_in_any_way (Err stop) = tt

pub keeps_same : (a : Option (List ℕ)) → Keeps a a
keeps_same None = tt
keeps_same (Some xs) = refl

-- what a command does by some file types it does by the same ones
pub does_as : {F : Type 0} (files : Files F) (f : F) (env : Env) (o : Options) (d e : Draft) (t u : Task) (input : Option (List ℕ))
    (r : Result ℕ Stop) (out err : List ℕ → Type 0) → d ≡ e → u ≡ t → IfOk r (λ status. Does files f env o d t input status out err)
    → IfOk r (λ status. Does files f env o e u input status out err)
does_as files f env o d e t u input r out err types is h =
    subst (λ (x : Task). IfOk r (λ status. Does files f env o e x input status out err)) (sym is)
    (subst (λ (x : Draft). IfOk r (λ status. Does files f env o x t input status out err)) types h)

pub ends_as : {F : Type 0} (files : Files F) (f : F) (env : Env) (o : Options) (d e : Draft) (t u : Task) (input : Option (List ℕ))
    (r : Result ℕ Stop) (out err : List ℕ → Type 0) → d ≡ e → u ≡ t → IfErr r (Ends files f env o d t input out err)
    → IfErr r (Ends files f env o e u input out err)
ends_as files f env o d e t u input r out err types is h =
    subst (λ (x : Task). IfErr r (Ends files f env o e x input out err)) (sym is)
    (subst (λ (x : Draft). IfErr r (Ends files f env o x t input out err)) types h)

-- a run finishes what was done, or what ended early
pub finishes : (Done : ℕ → (List ℕ → Type 0) → (List ℕ → Type 0) → Type 0) (Ended : (List ℕ → Type 0) → (List ℕ → Type 0) → Stop → Type 0)
    (before fails : ErrorKind → Type 0) (r : Result ℕ Stop) (ran : Result Ran Stop) (out written now err reported told : Option (List ℕ))
    → IfOk r (λ status. Done status (Appends out written) (Appends err reported)) → IfErr r (Ended (Appends out written) (Appends err reported))
    → IfErr r (SaidBy before)
    → IfOk r (λ given. IfOk ran (λ x. ((x.status ≡ given) × (told ≡ reported))
    ⊎ ((stop : Stop) × IsUnwritten stop × (x.status ≡ stop_status stop) × Appends reported told (reason stop) × SaidBy fails stop)))
    → IfErr r (λ stop. IfOk ran (λ x. (x.status ≡ stop_status stop) × Appends reported told (reason stop)))
    → IfErr r (λ stop. SaidBy before stop → SaidBy fails stop) → Keeps written now
    → IfOk ran (λ x. Finishes Done Ended fails x.status out now err told)
finishes Done Ended before fails (Ok given) (Ok x) out written now err reported told done ended why kept early still keeps =
    elim kept [
      | inl (is, same) ↦ whole written
          (subst (λ (s : ℕ). Done s (Appends out written) (Appends err told)) (sym is)
          (subst (λ (t : Option (List ℕ)). Done given (Appends out written) (Appends err t)) (sym same) done)) keeps
      | inr (stop, which, is, more, so) ↦ unwritten given written reported stop done which keeps is more so
    ]
finishes Done Ended before fails (Err stop) (Ok x) out written now err reported told done ended why kept early still keeps =
    early_end written reported stop ended keeps early.0 early.1 (still why)
finishes Done Ended before fails r (Err s) out written now err reported told done ended why kept early still keeps = tt

-- what is written at the end succeeds, or it fails
abbrev pub IsWritten : ℕ → Result ℕ Stop → Type 0
IsWritten given r = (r ≡ Ok given) ⊎ ((stop : Stop) × IsUnwritten stop × (r ≡ Err stop))

-- a command that returned its status keeps it, where what is written at the end succeeds
pub kept_ok : (ended r : Result ℕ Stop) (status : ℕ) (Same Late : Type 0) → r ≡ Ok status → IfOk ended (λ given. IsWritten given r) → Same
    → IfOk ended (λ given. ((status ≡ given) × Same) ⊎ Late)
kept_ok (Ok given) r status Same Late is (inl e) same =
    let one : Ok status ≡ Ok given = sym is ∙ e in
    let s : status ≡ given = cc one in inl (s, same)
kept_ok (Ok given) r status Same Late is (inr (stop, why, e)) same = let one : Ok status ≡ Err stop = sym is ∙ e in cc one
kept_ok (Err stop) r status Same Late is h same = tt

-- one that ended early reports why
pub none_kept : (ended r : Result ℕ Stop) (status : ℕ) (Goal : Stop → Type 0) → r ≡ Ok status → IfErr ended (λ stop. r ≡ Err stop) → IfErr ended Goal
none_kept (Ok given) r status Goal is h = tt
none_kept (Err stop) r status Goal is h = let one : Ok status ≡ Err stop = sym is ∙ h in cc one

late : (given : ℕ) (r : Result ℕ Stop) (stop : Stop) → r ≡ Err stop → IsWritten given r → IsUnwritten stop
late given r stop is (inl e) = let one : Err stop ≡ Ok given = sym is ∙ e in cc one
late given r stop is (inr (s, why, e)) =
    let one : Err stop ≡ Err s = sym is ∙ e in
    let same : s ≡ stop = cc one in subst IsUnwritten same why

-- what can't be written at the end is reported
pub kept_err : (before fails : ErrorKind → Type 0) (ended r told : Result ℕ Stop) (stop : Stop) (x y : Option (List ℕ)) → r ≡ Err stop
    → IfOk ended (λ given. IsWritten given r) → (IfErr ended (SaidBy before) → SaidBy fails stop)
    → IfOk told (λ status. (status ≡ stop_status stop) × (stop ≢ Silence) × Appends x y (reason stop))
    → IfOk ended (λ given. IfOk told (λ status. ((status ≡ given) × (y ≡ x))
    ⊎ ((s : Stop) × IsUnwritten s × (status ≡ stop_status s) × Appends x y (reason s) × SaidBy fails s)))
kept_err before fails (Ok given) r told stop x y is h so k =
    IfOk-weaker told _ _ (λ status t. inr (stop, late given r stop is h, t.0, t.2, so tt)) k
kept_err before fails (Err s) r told stop x y is h so k = tt

pub told_err : (ended r told : Result ℕ Stop) (stop : Stop) (x y : Option (List ℕ)) → r ≡ Err stop → IfErr ended (λ s. r ≡ Err s)
    → IfOk told (λ status. (status ≡ stop_status stop) × (stop ≢ Silence) × Appends x y (reason stop))
    → IfErr ended (λ s. IfOk told (λ status. (status ≡ stop_status s) × Appends x y (reason s)))
told_err (Ok given) r told stop x y is h k = tt
told_err (Err s) r told stop x y is h k =
    let one : Err stop ≡ Err s = sym is ∙ h in
    let same : stop ≡ s = cc one in
    IfOk-weaker told _ _ (λ status t. (t.0 ∙ ap stop_status same, subst (λ (u : Stop). Appends x y (reason u)) same t.2)) k

-- two facts of what is returned
pub both_ok : {A B : Type 0} (r : Result A B) (P Q : A → Type 0) → IfOk r P → IfOk r Q → IfOk r (λ x. P x × Q x)
both_ok (Ok x) P Q h k = (h, k)
both_ok (Err y) P Q h k = tt

-- what holds of each status holds of that of a command
pub each_ok : {A B : Type 0} (r : Result A B) (P : A → Type 0) → ((x : A) → P x) → IfOk r P
each_ok (Ok x) P h = h x
each_ok (Err y) P h = tt

pub each_err : {A B : Type 0} (r : Result A B) (P : B → Type 0) → ((y : B) → P y) → IfErr r P
each_err (Ok x) P h = tt
each_err (Err y) P h = h y
