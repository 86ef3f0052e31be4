-- The settings that options ask for have no roots yet.
use Rattle.std.proofs.Common.{◌≡◌, ◌∙◌, ℕ, List, [], ◌∷◌, Option, None, Some, ap}
use Rattle.ignore_base.specs.Problem.{Problem}
use Rattle.ignore_files.specs.Tree.{Tree}
use Rattle.ignore_files.specs.declared.env.Env.{Env}
use Rattle.ignore_types.specs.Types.{Draft}
use Rattle.ignore.specs.Asked.{AddsIgnoreIn, base_dir}
use Rattle.ignore.specs.declared.options.WalkOptions.{WalkOptions}
use Rattle.ig_options.specs.Files.{AddsFiles, named_files}
use Rattle.ig_options.specs.declared.options.Options.{Options}
use Rattle.ig_commands.specs.Listing.{IsAsked}
use Rattle.ig_commands.specs.Surveys.{IsAskedMet}

one_adds : (tree : Tree) (path : List ℕ) (dir : Option (List ℕ)) (old new : WalkOptions) (problem : Option Problem)
    → AddsIgnoreIn tree path dir old new problem → new.roots ≡ old.roots
one_adds tree path None old new problem h = ap (λ (b : WalkOptions). b.roots) h.0
one_adds tree path (Some dir) old new problem h = ap (λ (b : WalkOptions). b.roots) h.2

all_add : (tree : Tree) (env : Env) (paths : List (List ℕ)) (old new : WalkOptions) (problems : List (Option Problem))
    → AddsFiles tree env paths old new problems → new.roots ≡ old.roots
all_add tree env [] old new problems h = ap (λ (b : WalkOptions). b.roots) h.0
all_add tree env (path ∷ paths) old new problems h =
    all_add tree env paths h.0 new h.2 h.5 ∙ one_adds tree path (base_dir old env) old h.0 h.1 h.4

pub no_roots : (tree : Tree) (env : Env) (o : Options) (first : Draft) (b : WalkOptions) (problems : List (Option Problem))
    → IsAsked tree env o first b problems → b.roots ≡ []
no_roots tree env o first b problems h = all_add tree env (named_files o) _ b h.found h.files

-- nor have those by which hidden entries are met
pub none_met : (tree : Tree) (env : Env) (o : Options) (first : Draft) (b : WalkOptions) (problems : List (Option Problem))
    → IsAskedMet tree env o first b problems → b.roots ≡ []
none_met tree env o first b problems h =
    ap (λ (w : WalkOptions). w.roots) h.2 ∙ no_roots tree env o first h.0 problems h.1
