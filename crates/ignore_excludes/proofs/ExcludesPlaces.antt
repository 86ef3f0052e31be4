-- The first configuration that gives a value, one place at a time.
use Rattle.std.proofs.Common.{◌≡◌, refl, inl, inr, ℕ, List, [], ◌∷◌, Option, None, Some, Result, Ok, Err, is_some, codes, false, sym}
use Rattle.std.proofs.Common.{ap, ◌∙◌, subst}
use Rattle.std.proofs.lemmas.Bool.{true≢false}
use Rattle.std.specs.Option.{option_or}
use Rattle.ignore_base.specs.declared.fault.Fault.{Fault}
use Rattle.ignore_files.specs.Tree.{Tree}
use Rattle.ignore_files.specs.Tree.{Answers}
use Rattle.ignore_files.specs.Gives.{IsHonest}
use Rattle.ignore_files.specs.declared.files.Files.{Ghosts}
use Rattle.ignore_files.specs.declared.types.Contents.{Contents}
use Rattle.ignore_files.specs.declared.types.Refusal.{Refusal}
use Rattle.ignore_files.specs.declared.types.Refusal.TheVariants.{Memory}
use Rattle.ignore_files.specs.declared.types.Refusal.TheVariants.{Fault as Refused}
use Rattle.ignore_excludes.specs.Excludes.{IsValue}
use Rattle.ignore_excludes.proofs.ExcludesOnly.{IsValue-one}
use Rattle.ignore_excludes.specs.ExcludesSearch.{ReadGives, ContentsGive, TreeGives, AnswerGives, FilesGive, PathGives, IsFirstValue, LeadsTo}
use Rattle.ignore_files.specs.Variables.{set_value}
use Rattle.ignore_excludes.specs.ExcludesSearch.{path_below, xdg_folder, configurations, excludes_path, expanded, IsFirstPath}
use Rattle.ignore_excludes.specs.ExcludesSearch.{IsExcludesPath}
use Rattle.ignore_files.specs.declared.env.Env.{Env}

-- what was read whole gives its value
ReadGives-whole : (bytes : List ℕ) (fault : Option Fault) (found : Option (List ℕ)) → is_some fault ≡ false → IsValue bytes found
    → ReadGives bytes fault found
ReadGives-whole bytes None found e h = h
ReadGives-whole bytes (Some fault) found e h = absurd (true≢false e)

pub AnswerGives-whole : (contents : Contents) (bytes : List ℕ) (found : Option (List ℕ)) → is_some contents.fault ≡ false → bytes
    ≡ contents.bytes → IsValue bytes found → AnswerGives (Ok contents) found
AnswerGives-whole contents bytes found whole same h =
    let value : IsValue contents.bytes found = subst (λ (t : List ℕ). IsValue t found) same h in
    ReadGives-whole contents.bytes contents.fault found whole value

-- the four places, each by itself
pub configurations-same : (env : Env) (a b c d : Option (List ℕ)) → a ≡ set_value env.git_config_global → b
    ≡ path_below env.home (codes ".gitconfig") → c ≡ path_below (xdg_folder env) (codes "git/config") → d
    ≡ option_or (set_value env.git_config_system) (Some (codes "/etc/gitconfig")) → a ∷ (b ∷ (c ∷ (d ∷ []))) ≡ configurations env
configurations-same env a b c d p q r s = cc

pub LeadsTo-some : (Says : List ℕ → Option (List ℕ) → Type 0) (env : Env) (home : Option (List ℕ))
    (places : List (Option (List ℕ))) (path : List ℕ) → home ≡ env.home → places ≡ configurations env
    → IsFirstPath Says home places (Some path) → LeadsTo Says env (Some path)
LeadsTo-some Says env home places path h p (value, first, e) = (
  Some value,
  subst (λ (t : List (Option (List ℕ))). IsFirstValue Says t (Some value)) p first,
  ap (λ t. Some t) (e ∙ ap (λ t. expanded t value) h),
)

pub LeadsTo-none : (Says : List ℕ → Option (List ℕ) → Type 0) (env : Env) (home : Option (List ℕ))
    (places : List (Option (List ℕ))) (found : Option (List ℕ)) → places ≡ configurations env → IsFirstPath Says home places None
    → found ≡ path_below (xdg_folder env) (codes "git/ignore") → LeadsTo Says env found
LeadsTo-none Says env home places found p first e = (None, subst (λ (t : List (Option (List ℕ))). IsFirstValue Says t None) p first, e)

-- The answers of a value that is consistent with a tree lead where the tree leads.

AnswerGives-tree : (reported : Result Contents Fault) (answer : Result Contents Refusal) (found : Option (List ℕ))
    → Answers reported answer → AnswerGives answer found → ContentsGive reported found
AnswerGives-tree reported (Ok contents) found e h = subst (λ (t : Result Contents Fault). ContentsGive t found) (sym e) h
AnswerGives-tree reported (Err (Refused fault)) found e h = subst (λ (t : Result Contents Fault). ContentsGive t found) (sym e) h
AnswerGives-tree reported (Err Memory) found e h = absurd h

Gives-weaker : (P Q : List ℕ → Option (List ℕ) → Type 0)
    → ((path : List ℕ) (found : Option (List ℕ)) → P path found → Q path found) → (place found : Option (List ℕ))
    → PathGives P place found → PathGives Q place found
Gives-weaker P Q f None found h = h
Gives-weaker P Q f (Some path) found h = f path found h

IsFirstValue-weaker : (P Q : List ℕ → Option (List ℕ) → Type 0)
    → ((path : List ℕ) (found : Option (List ℕ)) → P path found → Q path found)
    → (places : List (Option (List ℕ))) (found : Option (List ℕ)) → IsFirstValue P places found → IsFirstValue Q places found
IsFirstValue-weaker P Q f [] found h = h
IsFirstValue-weaker P Q f (place ∷ places) None h = (Gives-weaker P Q f place None h.0, IsFirstValue-weaker P Q f places None h.1)
IsFirstValue-weaker P Q f (place ∷ places) (Some value) (inl h) = inl (Gives-weaker P Q f place (Some value) h)
IsFirstValue-weaker P Q f (place ∷ places) (Some value) (inr h) =
    inr (Gives-weaker P Q f place None h.0, IsFirstValue-weaker P Q f places (Some value) h.1)

pub IsExcludesPath-answered : {F : Type 0} (files : Ghosts F) (f : F) (tree : Tree) (env : Env) (found : Option (List ℕ))
    → IsHonest files f tree → LeadsTo (FilesGive (files.contents_gives f)) env found → IsExcludesPath tree env found
IsExcludesPath-answered files f tree env found honest h = (
  h.0,
  IsFirstValue-weaker (FilesGive (files.contents_gives f)) (TreeGives tree)
      (λ path value k. AnswerGives-tree (tree.contents path) k.0 value (honest.contents path k.0 k.1) k.2) (configurations env) h.0 h.1,
  h.2,
)

-- a tree and an environment have one excludes file at most
ReadGives-one : (bytes : List ℕ) (fault : Option Fault) (a b : Option (List ℕ)) → ReadGives bytes fault a → ReadGives bytes fault b → a ≡ b
ReadGives-one bytes None a b h k = IsValue-one bytes a b h k
ReadGives-one bytes (Some fault) a b h k = h ∙ sym k

ContentsGive-one : (reported : Result Contents Fault) (a b : Option (List ℕ)) → ContentsGive reported a → ContentsGive reported b → a ≡ b
ContentsGive-one (Ok contents) a b h k = ReadGives-one contents.bytes contents.fault a b h k
ContentsGive-one (Err fault) a b h k = h ∙ sym k

Gives-one : (tree : Tree) (place : Option (List ℕ)) (a b : Option (List ℕ)) → PathGives (TreeGives tree) place a
    → PathGives (TreeGives tree) place b → a ≡ b
Gives-one tree None a b h k = h ∙ sym k
Gives-one tree (Some path) a b h k = ContentsGive-one (tree.contents path) a b h k

IsFirstValue-one : (tree : Tree) (places : List (Option (List ℕ))) (a b : Option (List ℕ)) → IsFirstValue (TreeGives tree) places a
    → IsFirstValue (TreeGives tree) places b → a ≡ b
IsFirstValue-one tree [] a b h k = h ∙ sym k
IsFirstValue-one tree (p ∷ ps) None None h k = refl
IsFirstValue-one tree (p ∷ ps) None (Some w) h (inl k) = Gives-one tree p None (Some w) h.0 k
IsFirstValue-one tree (p ∷ ps) None (Some w) h (inr k) = IsFirstValue-one tree ps None (Some w) h.1 k.1
IsFirstValue-one tree (p ∷ ps) (Some v) None (inl h) k = Gives-one tree p (Some v) None h k.0
IsFirstValue-one tree (p ∷ ps) (Some v) None (inr h) k = IsFirstValue-one tree ps (Some v) None h.1 k.1
IsFirstValue-one tree (p ∷ ps) (Some v) (Some w) (inl h) (inl k) = Gives-one tree p (Some v) (Some w) h k
IsFirstValue-one tree (p ∷ ps) (Some v) (Some w) (inl h) (inr k) =
    absurd (let e : Some v ≡ None = Gives-one tree p (Some v) None h k.0 in cc)
IsFirstValue-one tree (p ∷ ps) (Some v) (Some w) (inr h) (inl k) =
    absurd (let e : Some w ≡ None = Gives-one tree p (Some w) None k h.0 in cc)
IsFirstValue-one tree (p ∷ ps) (Some v) (Some w) (inr h) (inr k) = IsFirstValue-one tree ps (Some v) (Some w) h.1 k.1

pub IsExcludesPath-one : (tree : Tree) (env : Env) (a b : Option (List ℕ)) → IsExcludesPath tree env a → IsExcludesPath tree env b → a ≡ b
IsExcludesPath-one tree env a b (v, h, e) (w, k, f) = e
    ∙ (ap (λ t. excludes_path env t) (IsFirstValue-one tree (configurations env) v w h k) ∙ sym f)
