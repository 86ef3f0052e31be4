use Rattle.std.proofs.Common.{◌||◌, ◌==◌, length, sym, ap, ◌∙◌}
use Rattle.std.specs.List.{list_all}
use Rattle.std.proofs.lemmas.Bool.Decides.{Decides-at}
use Rattle.ignore_base.specs.Paths.{is_proper, components}
use Rattle.ignore_base.proofs.CleanLemmas.{Decides-clean_path}
use Rattle.ignore_base.proofs.text.clean.is_clean_path.Goals as goal

pub returns-else-is_empty : goal.returns-else-is_empty
returns-else-is_empty c =
    let path = c.args.path.now in
    Decides-at _ (length path == 0 || list_all is_proper (components path))
    (c.are_names.ensures ∙ ap (λ b. b || list_all is_proper (components path)) (sym (sym c.is_empty.ensures ∙ c.if-is_empty.false)))
    (Decides-clean_path path)
