-- The places that are asked are those of the environment, in its order.
use Rattle.std.proofs.Common.{◌≡◌, ℕ, List, [], ◌∷◌, Option, None, Some, Global, String, codes, option_map, string_bytes, ◌∙◌, ap, subst}
use Rattle.std.specs.Option.{option_copied}
use Rattle.ignore_excludes.specs.ExcludesSearch.{path_below, xdg_folder, configurations, FilesGive, IsFirstPath, LeadsTo, IsExcludesPath}
use Rattle.ignore_excludes.proofs.ExcludesPlaces.{configurations-same, LeadsTo-some, LeadsTo-none, IsExcludesPath-answered}
use Rattle.ignore_excludes.proofs.ExcludesPlaces.{IsExcludesPath-one}
use Rattle.ignore_excludes.proofs.config.excludes_path.Goals as goal

pub returns-clause-answered : goal.returns-clause-answered
returns-clause-answered g c =
    let Says = FilesGive (g.F.Files.contents_gives c.args.files.now) in
    let env = c.args.env.now in
    let home = option_copied c.known-home.result in
    let user : option_copied c.text_of-2.result ≡ path_below env.home (codes ".gitconfig") = c.text_of-2.ensures
    ∙ (c.in_ok-user.ensures ∙ ap (λ t. path_below t (codes ".gitconfig")) c.known-home.ensures) in
    let folder : option_copied c.text_of.result ≡ xdg_folder env = c.text_of.ensures ∙ c.in_ok-folder.ensures in
    let config : option_copied c.text_of-3.result ≡ path_below (xdg_folder env) (codes "git/config") = c.text_of-3.ensures
    ∙ (c.in_ok-config.ensures ∙ ap (λ t. path_below t (codes "git/config")) folder) in
    let places : List (Option (List ℕ)) = option_copied c.filled.result ∷
    (option_copied c.text_of-2.result ∷ (option_copied c.text_of-3.result ∷ (Some c.system_config.result.now ∷ []))) in
    let same : places ≡ configurations env = configurations-same env (option_copied c.filled.result)
    (option_copied c.text_of-2.result) (option_copied c.text_of-3.result) (Some c.system_config.result.now) c.filled.ensures user
    config c.system_config.ensures in
    let first : IsFirstPath Says home places (Some (string_bytes c.in-Some.path)) =
    subst (λ (o : Option (String Global)). IsFirstPath Says home places (option_map string_bytes o)) c.in-Some.is
    c.in_ok-first_path.ensures in
    LeadsTo-some Says env home places (string_bytes c.in-Some.path) c.known-home.ensures same first

pub returns-in-None-clause-answered : goal.returns-in-None-clause-answered
returns-in-None-clause-answered g c =
    let Says = FilesGive (g.F.Files.contents_gives c.args.files.now) in
    let env = c.args.env.now in
    let home = option_copied c.known-home.result in
    let user : option_copied c.text_of-2.result ≡ path_below env.home (codes ".gitconfig") = c.text_of-2.ensures
    ∙ (c.in_ok-user.ensures ∙ ap (λ t. path_below t (codes ".gitconfig")) c.known-home.ensures) in
    let folder : option_copied c.text_of.result ≡ xdg_folder env = c.text_of.ensures ∙ c.in_ok-folder.ensures in
    let config : option_copied c.text_of-3.result ≡ path_below (xdg_folder env) (codes "git/config") = c.text_of-3.ensures
    ∙ (c.in_ok-config.ensures ∙ ap (λ t. path_below t (codes "git/config")) folder) in
    let places : List (Option (List ℕ)) = option_copied c.filled.result ∷
    (option_copied c.text_of-2.result ∷ (option_copied c.text_of-3.result ∷ (Some c.system_config.result.now ∷ []))) in
    let same : places ≡ configurations env = configurations-same env (option_copied c.filled.result)
    (option_copied c.text_of-2.result) (option_copied c.text_of-3.result) (Some c.system_config.result.now) c.filled.ensures user
    config c.system_config.ensures in
    let first : IsFirstPath Says home places None =
    subst (λ (o : Option (String Global)). IsFirstPath Says home places (option_map string_bytes o)) c.in-None.is
    c.in_ok-first_path.ensures in
    let again : option_copied c.text_of-in-None.result ≡ xdg_folder env = c.text_of-in-None.ensures ∙ c.in_ok-folder.ensures in
    LeadsTo-none Says env home places (option_map string_bytes c.in_ok-below-in-None.field-0) same first
    (c.in_ok-below-in-None.ensures ∙ ap (λ t. path_below t (codes "git/ignore")) again)

pub returns-clause-found : goal.returns-clause-found
returns-clause-found g c = λ tree honest. IsExcludesPath-answered g.F.Files c.args.files.now tree c.args.env.now
    (Some (string_bytes c.in-Some.path)) honest (returns-clause-answered g c)

pub returns-in-None-clause-found : goal.returns-in-None-clause-found
returns-in-None-clause-found g c = λ tree honest. IsExcludesPath-answered g.F.Files c.args.files.now tree c.args.env.now
    (option_map string_bytes c.in_ok-below-in-None.field-0) honest (returns-in-None-clause-answered g c)

pub returns-clause-only : goal.returns-clause-only
returns-clause-only g c = λ tree honest other h. IsExcludesPath-one tree c.args.env.now (Some (string_bytes c.in-Some.path)) other
    (returns-clause-found g c tree honest) h

pub returns-in-None-clause-only : goal.returns-in-None-clause-only
returns-in-None-clause-only g c = λ tree honest other h. IsExcludesPath-one tree c.args.env.now
    (option_map string_bytes c.in_ok-below-in-None.field-0) other (returns-in-None-clause-found g c tree honest) h
