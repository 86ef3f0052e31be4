-- What a host that answers by a tree has told.
use Rattle.std.proofs.Common.{◌≡◌, ◌∙◌, Bool, true, false, Option, None, Some, Result, Err, ap, if◌then◌else◌, string_bytes, refl, sym, subst}
use Rattle.std.proofs.lemmas.Slice.Eq.{bytes_eq-Decides}
use Rattle.std.specs.List.{list_any}
use Rattle.std.specs.Str.{bytes_eq}
use Rattle.ignore_base.specs.Text.{Path}
use Rattle.ignore_base.specs.declared.fault.Fault.{Fault}
use Rattle.ignore_base.specs.declared.fault.Fault.TheVariants.{NotFound}
use Rattle.ignore_files.specs.Tree.{Tree}
use Rattle.ignore_files.specs.declared.types.Metadata.{Metadata}
use Rattle.ignore_guide.specs.Answers.{answer_at}
use Rattle.ignore_guide.specs.Hosted.{IsGivenOf, IsToldOf, kind_by, told_more}
use Rattle.ignore_guide.specs.Told.{AreOf, IsAlmostFresh, IsFresh, is_absent, is_lacked, kind_alone, kind_told}
use Rattle.ignore_guide.specs.declared.hosted.Given.{Given}
use Rattle.ignore_guide.specs.declared.missing.Question.{Question}
use Rattle.ignore_guide.specs.declared.told.Told.{Told}

-- nothing that was told is of any tree
no_answer : {A : Type 0} (told : Option A) (answer : A) → told ≡ None → told ≡ Some answer → ⊥
no_answer told answer none is = cc (sym none ∙ is)

-- what is told where nothing is lacked, or not here
untold : (told : Told) (path : Path) (answer : Result Metadata Fault) → answer_at told.kinds.list.items path ≡ None
    → kind_told told path ≡ Some answer → (is_lacked told path ≡ true) × (answer ≡ Err NotFound)
untold told path answer none is = go (is_lacked told path) refl
  where
    go : (b : Bool) → is_lacked told path ≡ b → (is_lacked told path ≡ true) × (answer ≡ Err NotFound)
    go true e =
        let here : kind_told told path ≡ Some (Err NotFound) = ap (λ b. if b then Some (Err NotFound) else answer_at told.kinds.list.items path) e in
        (e, cc (sym here ∙ is))
    go false e =
        let here : kind_told told path ≡ answer_at told.kinds.list.items path =
        ap (λ b. if b then Some (Err NotFound) else answer_at told.kinds.list.items path) e in
        absurd (no_answer (answer_at told.kinds.list.items path) answer none (sym here ∙ is))

-- nothing was told but what is lacked, and the tree has nothing there
pub lacked_alone : (tree : Tree) (told : Told) → IsAlmostFresh told
    → ((path : Path) → is_lacked told path ≡ true → kind_alone (tree.stat path true) ≡ Err NotFound) → AreOf tree told
lacked_alone tree told f lacks = record {
  kinds = λ path answer is. (let h = untold told path answer (f.kinds path) is in lacks path h.0 ∙ sym h.1);
  reads = λ path answer is. absurd (no_answer _ answer (f.reads path) is);
  paths = λ path answer is. absurd (no_answer _ answer (f.paths path) is);
}

-- nothing was told
pub nothing_lacked : (tree : Tree) (told : Told) → IsFresh told → AreOf tree told
nothing_lacked tree told f =
    lacked_alone tree told (record { kinds = f.kinds; reads = f.reads; paths = f.paths })
    (λ path is. absurd (cc (sym (ap (list_any (λ l. is_absent (string_bytes l) path)) f.lacked) ∙ is)))

-- what is so of the answer that is given, and of those before, is so of each
pub told_then : {A : Type 0} (P : Path → A → Type 0) (path : Path) (given : Option A) (before : Path → Option A) (text : Path) (answer : A)
    → ((a : A) → given ≡ Some a → P path a) → ((a : A) → before text ≡ Some a → P text a)
    → told_more path given before text ≡ Some answer → P text answer
told_then P path None before text answer g b is = b answer is
told_then {A} P path (Some one) before text answer g b is = go (bytes_eq path text) refl is
  where
    go : (e : Bool) → bytes_eq path text ≡ e → (if e then Some one else before text) ≡ Some answer → P text answer
    go true e here =
        let same : path ≡ text = (bytes_eq-Decides path text).0 e in
        let one_is : one ≡ answer = cc here in
        subst (λ t. P t answer) same (subst (P path) one_is (g one refl))
    go false e here = b answer here

-- what a path leads to, as it was told with one more answer
pub kinds_more : (tree : Tree) (q : Question) (g : Given) (old new : Told) → AreOf tree old → IsGivenOf tree q g → IsToldOf q g old new
    → (path : Path) (answer : Result Metadata Fault) → kind_told new path ≡ Some answer → kind_alone (tree.stat path true) ≡ answer
kinds_more tree q g old new are given told path answer is = go (is_lacked old path) refl
  where
    lacks : is_lacked new path ≡ is_lacked old path
    lacks = ap (λ v. list_any (λ l. is_absent (string_bytes l) path) v.items) told.lacked

    go : (b : Bool) → is_lacked old path ≡ b → kind_alone (tree.stat path true) ≡ answer
    go true e =
        let here : kind_told new path ≡ Some (Err NotFound) =
        ap (λ b. if b then Some (Err NotFound) else answer_at new.kinds.list.items path) (lacks ∙ e) in
        let there : kind_told old path ≡ Some (Err NotFound) =
        ap (λ b. if b then Some (Err NotFound) else answer_at old.kinds.list.items path) e in
        are.kinds path answer (there ∙ (sym here ∙ is))
    go false e =
        let here : kind_told new path ≡ answer_at new.kinds.list.items path =
        ap (λ b. if b then Some (Err NotFound) else answer_at new.kinds.list.items path) (lacks ∙ e) in
        let there : kind_told old path ≡ answer_at old.kinds.list.items path =
        ap (λ b. if b then Some (Err NotFound) else answer_at old.kinds.list.items path) e in
        told_then (λ p a. kind_alone (tree.stat p true) ≡ a) q.path (kind_by q.wanted g) (answer_at old.kinds.list.items) path answer
        given.kind (λ a so. are.kinds path a (there ∙ so)) (sym (told.kinds path) ∙ (sym here ∙ is))
