-- A system that may refuse to list each directory has no listing that isn't whole.
use Rattle.std.proofs.Common.{◌≡◌, ℕ, pos, Bool, true, false, List, Option, Result, Err, refl, sym, ap}
use Rattle.std.specs.IoError.{error_kind, kind_at, raw_os_error}
use Rattle.std.specs.declared.io.Error.{Error}
use Rattle.std.specs.declared.io.ErrorKind.TheVariants as kind
use Rattle.ignore_base.specs.declared.fault.Fault.{Fault}
use Rattle.ignore_base.specs.declared.fault.Fault.TheVariants as fault
use Rattle.ignore_files.specs.Heard.{has_nul, MayList, HasWhole}
use Rattle.ignore_files.specs.Reported.{refusal_of, reported_error}
use Rattle.ignore_files.specs.declared.types.Listed.{Listed}
use Rattle.ignore_files.specs.declared.types.Refusal.TheVariants.{Fault as Refused}

-- an error of the kind with this number
pub error_of : ℕ → Error
error_of n = record {
  repr = 1;
  kind = n;
  len = 0;
  code = pos 0;
  message = record { 0 = 0; 1 = 0; 2 = 0; 3 = 0; 4 = 0; 5 = 0; 6 = 0; 7 = 0; 8 = 0; 9 = 0 };
}

missing : error_kind (error_of 0) ≡ kind.NotFound
unfolding kind_at error_of
missing = refl

-- an error, and the fault as which it is reported
pub record Refusing : Type 0 where
  pub error : Error
  pub fault : Fault
  pub is : reported_error error ≡ Refused fault

pub not_found : Refusing
not_found = record { error = error_of 0; fault = fault.NotFound; is = ap (refusal_of (raw_os_error (error_of 0))) missing }

module _ {M D E : Type 0} (metadata : List ℕ → Result M Error → Type 0) (opens : List ℕ → Result D Error → Type 0)
    (next : D → Option (Result E Error) → D → Type 0) (Are : List (Result E Error) → List Listed → Type 0)
    (refuses : List ℕ → Refusing) (given : (path : List ℕ) → opens path (Err (refuses path).error)) where
  not_listed : (path : List ℕ) → (fault : Fault) × MayList opens next Are path (Err (Refused fault))
  not_listed path = put (has_nul path) refl
    where
      put : (nul : Bool) → has_nul path ≡ nul → (fault : Fault) × MayList opens next Are path (Err (Refused fault))
      put true e = (fault.NotFound, (Err (Refused fault.NotFound), record { nul = λ _. refl; asked = λ clear. absurd (cc (e, clear)) }, refl))
      put false e = (
        (refuses path).fault,
        (
          Err (Refused (refuses path).fault),
          record {
            nul = λ nul. absurd (cc (e, nul));
            asked = λ _. (Err (refuses path).error, given path, ap (λ x. Err x) (sym (refuses path).is));
          },
          refl,
        ),
      )

  pub whole_unlisted : HasWhole metadata opens next Are
  whole_unlisted = record {
    whole = λ is_there list faults lists dir name listing h lack.
        let refused = not_listed dir in
        let is : list dir ≡ Err refused.0 = lists dir (Err (Refused refused.0)) refused.1 in
        absurd (cc (h, is));
  }
