-- What is asked next on the way to git's global file.
use Rattle.std.proofs.Common.{◌≡◌, true, false, Option, Some, None, option_map, sym, ap, subst, ◌∙◌}
use Rattle.std.specs.Option.{MatchOption}
use Rattle.ignore_base.specs.Text.{Path}
use Rattle.ignore_excludes.specs.ExcludesSearch.{FilesGive, LeadsTo}
use Rattle.ignore_files.specs.declared.env.Env.{Env}
use Rattle.ignore_guide.specs.Asking.{AsksOutside, is_read, of_file}
use Rattle.ignore_guide.specs.Told.{ReadTold}
use Rattle.ignore_guide.specs.declared.missing.Question.{Question}
use Rattle.ignore_guide.specs.declared.told.Told.{Told}

-- what was told leads to a file: that is asked for, unless it was told
leads-to : {S : Type 0} (told : Told) (env : Env) (bytes : S → Path) (found : Option S) (path : S) (q : Option Question)
    → LeadsTo (FilesGive (ReadTold told)) env (option_map bytes found) → found ≡ Some path
    → MatchOption q (is_read told (bytes path) ≡ true) (λ x. (x ≡ of_file (bytes path)) × (is_read told (bytes path) ≡ false))
    → AsksOutside told env q
leads-to told env bytes found path None h is read =
    (Some (bytes path), subst (λ f. LeadsTo (FilesGive (ReadTold told)) env (option_map bytes f)) is h, read)
leads-to told env bytes found path (Some x) h is read =
    (ap (λ (y : Question). y.wanted) read.0, ap (λ (y : Question). is_read told y.path) read.0 ∙ read.1)

pub leads : {S : Type 0} (told : Told) (env : Env) (bytes : S → Path) (found : Option S) (path same : S) (q : Option Question)
    → LeadsTo (FilesGive (ReadTold told)) env (option_map bytes found) → found ≡ Some path → same ≡ path
    → MatchOption q (is_read told (bytes same) ≡ true) (λ x. (x ≡ of_file (bytes same)) × (is_read told (bytes same) ≡ false))
    → AsksOutside told env q
leads told env bytes found path same q h is e read = leads-to told env bytes found same q h (is ∙ ap Some (sym e)) read
