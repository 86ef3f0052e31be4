use Rattle.std.proofs.Common.{◌≡◌, ℕ, Bool, true, List, Option, Some, None, cond, sym, ap, subst, ◌∙◌}
use Rattle.std.specs.Option.{option_map}
use Rattle.std.specs.String.{string_bytes}
use Rattle.ignore_files.specs.Tree.{Tree}
use Rattle.ignore_excludes.specs.ExcludesSearch.{IsExcludesPath}
use Rattle.ignore_rules.specs.Matchers.{global_file, is_file_there}
use Rattle.ignore_rules.proofs.gitignore.global.global_file.Goals as goal

-- the answer about the kind chooses
chosen : (tree : Tree) (path text : List ℕ) (is_file : Bool) → text ≡ path → is_file ≡ is_file_there (tree.stat text true)
    → global_file tree (Some path) ≡ cond is_file (Some path) None
chosen tree path text is_file same kind = ap (λ b. cond b (Some path) None) (sym (kind ∙ ap (λ p. is_file_there (tree.stat p true)) same))

pub returns-then-branch : goal.returns-then-branch
returns-then-branch g c = record {
  found = λ tree honest.
      let path = string_bytes c.in-Some.path in
      let here = chosen tree path c.as_str.result.now _ c.as_str.ensures.value (c.in_ok-is_file-in-Some.ensures tree honest) in (
        Some path,
        subst (λ (found : Option (List ℕ)). IsExcludesPath tree c.args.env.now found) (ap (option_map string_bytes) c.in-Some.is)
            (c.in_ok-excludes_path.ensures.found tree honest),
        sym (here ∙ ap (λ b. cond b (Some path) None) c.if-branch.true),
      );
}

pub returns-else-branch : goal.returns-else-branch
returns-else-branch g c = record {
  found = λ tree honest.
      let path = string_bytes c.in-Some.path in
      let here = chosen tree path c.as_str.result.now _ c.as_str.ensures.value (c.in_ok-is_file-in-Some.ensures tree honest) in (
        Some path,
        subst (λ (found : Option (List ℕ)). IsExcludesPath tree c.args.env.now found) (ap (option_map string_bytes) c.in-Some.is)
            (c.in_ok-excludes_path.ensures.found tree honest),
        sym (here ∙ ap (λ b. cond b (Some path) None) c.if-branch.false),
      );
}
