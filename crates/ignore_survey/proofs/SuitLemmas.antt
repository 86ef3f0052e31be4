-- What a matcher ensures holds of each scene that suits it.
use Rattle.std.proofs.Common.{◌≡◌, ◌≢◌, Bool, true, false, not, ◌&&◌, [], codes, bytes_eq, refl, sym, ◌∙◌, ap, subst}
use Rattle.ignore_base.specs.Text.{Path}
use Rattle.ignore_dir.specs.Load.{AreLoads}
use Rattle.ignore_dir.specs.Limits.{is_beyond}
use Rattle.ignore_dir.specs.Query.{depth_of_path, is_asked, query}
use Rattle.ignore_dir.specs.Scene.{QueryScene}
use Rattle.ignore_dir.specs.declared.incremental.IncrementalMatch.{IncrementalMatch}
use Rattle.ignore_files.specs.Kinds.{is_dir}
use Rattle.ignore_files.specs.declared.files.Files.{Ghosts as Files}
use Rattle.ignore_files.specs.declared.types.FileType.{FileType}
use Rattle.ignore_query.specs.Agrees.{Agrees}
use Rattle.ignore_query.proofs.KeptLoadLemmas.{loads_nothing}
use Rattle.ignore_query.specs.InTurn.{Question}
use Rattle.ignore_query.specs.Left.{LeavesMatcher}
use Rattle.ignore_query.specs.Needs.{is_decided}
use Rattle.ignore_query.specs.Reached.{scene_of}
use Rattle.ignore_query.specs.Where.{WhereAgrees}
use Rattle.ignore_query.specs.declared.asked.Asked.{Asked}
use Rattle.ignore_query.specs.declared.incremental.IncrementalIgnore.{IncrementalIgnore}
use Rattle.ignore_survey.specs.Suits.{Grows, Suits}
use Rattle.ignore_survey.specs.Survey.{Entry, entry_at, is_open}
use Rattle.ignore_why.specs.QueryWhy.{QueryWhy, query_why}

module _ {F : Type 0} (files : Files F) (f : F) (m : IncrementalIgnore) (g : QueryScene) where
  pub where_suits : (P : QueryScene → Type 0) → Suits files f m g → WhereAgrees files f m P → P g
  where_suits P s w =
      subst P (sym s.scene) (w g.tree g.loads s.honest (subst (λ (x : QueryScene). AreLoads g.tree x.settings g.loads) s.scene s.loads)
      (subst (λ (x : QueryScene). Agrees x m.cache) s.scene s.agrees))

  -- a matcher that asks about the same, with which it agrees, suits it too
  pub suits_still : (n : IncrementalIgnore) → Suits files f m g → n.asked ≡ m.asked → Agrees g n.cache → Suits files f n g
  suits_still n s same agrees =
      record {
        honest = s.honest;
        loads = s.loads;
        scene = s.scene ∙ ap (λ (a : Asked). scene_of a g.tree g.loads) (sym same);
        agrees = agrees;
      }

-- a matcher that wasn't asked grows by nothing
pub grows_not : {F : Type 0} (files : Files F) (f : F) (m : IncrementalIgnore) → Grows files f m m
grows_not files f m = record {
  same = refl;
  stays = record { above = λ on. (on, (refl, refl)); dirs = λ names k kept. kept; levels = λ place level there. there };
  loaded = loads_nothing files f m.asked m.cache;
}

-- it grows by a question
pub grows_asked : {F : Type 0} (files : Files F) (f : F) (m n : IncrementalIgnore) (q : Question) → LeavesMatcher files f q m n
    → Grows files f m n
grows_asked files f m n q left = record { same = left.same; stays = left.stays; loaded = left.loaded }

beside_false : (a b : Bool) → (a && (b && false)) ≢ true
beside_false true true e = cc e
beside_false true false e = cc e
beside_false false b e = cc e

-- the rules don't decide on the root
pub root_undecided : (g : QueryScene) → is_decided g [] true ≢ true
root_undecided g = beside_false (is_asked g.root []) (not (is_beyond g.settings (depth_of_path []) true))

-- what an entry of a survey is, by what a matcher answers
pub entry_is : (g : QueryScene) (path p : Path) (kind : FileType) (d : Bool) (a : IncrementalMatch) (why : QueryWhy) → p ≡ path → d ≡ is_dir kind
    → a ≡ (query g p d).0 → why ≡ query_why g p d
    → let e : Entry = record { path = path; kind = kind; answer = a; why = why } in e ≡ entry_at g path kind
entry_is g path p kind d a why same dir is because =
    let answer : a ≡ (query g path (is_dir kind)).0 =
    is ∙ (ap (λ (x : Path). (query g x d).0) same ∙ ap (λ (b : Bool). (query g path b).0) dir) in
    let reason : why ≡ query_why g path (is_dir kind) =
    because ∙ (ap (λ (x : Path). query_why g x d) same ∙ ap (λ (b : Bool). query_why g path b) dir) in
    let with_answer : IncrementalMatch → Entry = λ x. record { path = path; kind = kind; answer = x; why = why } in
    let with_reason : QueryWhy → Entry = λ w. record { path = path; kind = kind; answer = (query g path (is_dir kind)).0; why = w } in
    ap with_answer answer ∙ ap with_reason reason

-- standard input isn't surveyed
pub stdin_is_shut : (g : QueryScene) (root : Path) (stdin : Bool) → g.root ≡ root → stdin ≡ bytes_eq root (codes "-") → stdin ≡ true
    → false ≡ is_open g
stdin_is_shut g root stdin at is shut =
    let there : bytes_eq g.root (codes "-") ≡ true = ap (λ (p : Path). bytes_eq p (codes "-")) at ∙ (sym is ∙ shut) in
    sym (ap (λ (b : Bool). not b && (query g [] true).0.descends) there)

-- another root is surveyed where the query says so
pub opens_as : (g : QueryScene) (root : Path) (stdin goes : Bool) (a : IncrementalMatch) → g.root ≡ root
    → stdin ≡ bytes_eq root (codes "-") → stdin ≡ false → goes ≡ a.descends → a ≡ (query g [] true).0 → goes ≡ is_open g
opens_as g root stdin goes a at is other descends answer =
    let elsewhere : bytes_eq g.root (codes "-") ≡ false = ap (λ (p : Path). bytes_eq p (codes "-")) at ∙ (sym is ∙ other) in
    descends
    ∙ (ap (λ (x : IncrementalMatch). x.descends) answer
    ∙ sym (ap (λ (b : Bool). not b && (query g [] true).0.descends) elsewhere))
