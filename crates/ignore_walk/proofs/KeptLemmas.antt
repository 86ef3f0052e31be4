-- What the query of a root keeps, by the directories above a place and by the entry itself.
use Rattle.std.proofs.Common.{◌≡◌, ℕ, Bool, true, false, cond, not, ◌&&◌, ◌||◌, ◌==◌, nat_lt, List, [], ◌∷◌, ◌++◌, length, map, reverse, codes, bytes_eq, Option, None, Some, Result, Ok, Err, refl, sym, ap, ap₂, subst, ◌∙◌, ltb-true, ltb-false, le-leb, ⊎_elim}
use Rattle.std.proofs.lemmas.Bool.{cases_Bool, lt-leb, or_right}
use Rattle.std.proofs.lemmas.List.{length-reverse, map-append}
use Rattle.std.proofs.lemmas.List.Folds.{list_any-append}
use Rattle.std.specs.List.{list_all, list_any}
use Rattle.ignore_base.specs.Paths.{JoinsName, components, directory_of, is_proper, joined}
use Rattle.ignore_base.specs.Problem.{Problem}
use Rattle.ignore_base.specs.declared.fault.Fault.{Fault}
use Rattle.ignore_files.specs.declared.types.Metadata.{Metadata}
use Rattle.ignore_dir.specs.declared.incremental.IncrementalMatch.{IncrementalMatch}
use Rattle.ignore_dir.specs.declared.verdict.Verdict.{Verdict}
use Rattle.ignore_dir.specs.declared.verdict.Verdict.TheVariants as v
use Rattle.ignore_dir.specs.Limits.{beyond, is_above, is_below, is_beyond, is_larger, limited, no_match, sized}
use Rattle.ignore_dir.specs.Query.{ancestors, answer_of_rules, depth_of_path, has_rules, is_asked, is_clean, is_dir_there, is_ignored, names_of, query, rules_verdict, size_of}
use Rattle.ignore_dir.specs.Scene.{path_verdict}
use Rattle.ignore_dir.specs.Scene as below
use Rattle.ignore_dir.specs.Verdict.{is_ignore}
use Rattle.ignore_walk.specs.Agreement.{is_kept, is_within, keeps}
use Rattle.ignore_walk.specs.Branch.{Branch, path_of}
use Rattle.ignore_walk.specs.Child.{is_dir_kind}
use Rattle.ignore_walk.specs.Entry.{Entry}
use Rattle.ignore_walk.specs.Scene.{Scene, queries}
use Rattle.ignore_walk.specs.Walked.{ignores, is_at_least, is_too_large}
use Rattle.ignore_walk.proofs.PlaceNames.{AreNames, all_proper, components-joined, filled, names-reverse, reverse-cons}
use Rattle.ignore_walk.proofs.ReachLemmas.{path-is}

-- the rules ignore the directory at a place; never the root
abbrev pub dir_ignored : Scene → List ℕ → Branch → Bool
dir_ignored g root [] = false
dir_ignored g root (n ∷ b) = ignores g root (n ∷ b) true

-- they ignore a directory above a place
abbrev pub above_ignored : Scene → List ℕ → Branch → Bool
above_ignored g root [] = false
above_ignored g root (n ∷ b) = above_ignored g root b || dir_ignored g root b

or_no : (b : Bool) → (b || false) ≡ b
or_no true = refl
or_no false = refl

-- the directories above, as a query asks them

ignored-some : (g : below.QueryScene) (n : List ℕ) (ns : List (List ℕ))
    → is_ignored g (ns ++ n ∷ []) ≡ is_ignore (path_verdict g (ns ++ n ∷ []) true)
unfolding is_ignored
ignored-some g n [] = refl
ignored-some g n (m ∷ ns) = refl

ignored-at : (g : Scene) (root : List ℕ) (b : Branch) → is_ignored (queries g root) (reverse b) ≡ dir_ignored g root b
unfolding is_ignored ignores
ignored-at g root [] = refl
ignored-at g root (n ∷ b) =
    ap (is_ignored (queries g root)) (reverse-cons n b)
    ∙ (ignored-some (queries g root) n (reverse b)
    ∙ ap (λ (ns : List (List ℕ)). is_ignore (path_verdict (queries g root) ns true)) (sym (reverse-cons n b)))

ancestors-push : (ns : List (List ℕ)) (n : List ℕ) → ancestors (ns ++ n ∷ []) ≡ ancestors ns ++ ns ∷ []
ancestors-push [] n = refl
ancestors-push (m ∷ ns) n =
    ap (λ (l : List (List (List ℕ))). [] ∷ map (λ front. m ∷ front) l) (ancestors-push ns n)
    ∙ ap (λ (l : List (List (List ℕ))). [] ∷ l) (map-append (λ front. m ∷ front) (ancestors ns) (ns ∷ []))

above-is : (g : Scene) (root : List ℕ) (b : Branch)
    → list_any (is_ignored (queries g root)) (ancestors (reverse b)) ≡ above_ignored g root b
above-is g root [] = refl
above-is g root (n ∷ b) =
    let p = is_ignored (queries g root) in
    ap (λ (ns : List (List ℕ)). list_any p (ancestors ns)) (reverse-cons n b)
    ∙ (ap (list_any p) (ancestors-push (reverse b) n)
    ∙ (list_any-append p (ancestors (reverse b)) (reverse b ∷ [])
    ∙ ap₂ (λ (x y : Bool). x || y) (above-is g root b) (or_no (p (reverse b)) ∙ ignored-at g root b)))

verdict-either : (above : Bool) (own : Verdict) → is_ignore (cond above v.Ignore own) ≡ (above || is_ignore own)
verdict-either true own = refl
verdict-either false own = refl

verdict-is : (g : Scene) (root : List ℕ) (b : Branch) (is_dir : Bool)
    → is_ignore (rules_verdict (queries g root) (reverse b) is_dir) ≡ (above_ignored g root b || ignores g root b is_dir)
unfolding rules_verdict ignores
verdict-is g root b is_dir =
    verdict-either (list_any (is_ignored (queries g root)) (ancestors (reverse b))) (path_verdict (queries g root) (reverse b) is_dir)
    ∙ ap (λ (x : Bool). x || is_ignore (path_verdict (queries g root) (reverse b) is_dir)) (above-is g root b)

-- sizes

larger : (most : Option ℕ) (size : Result Metadata Fault) (own : Verdict) → is_ignore own ≡ false
    → is_ignore (cond (is_larger most size) v.Ignore own) ≡ is_larger most size
larger None size own h = h
larger (Some most) (Err f) own h = h
larger (Some most) (Ok m) own h = by (nat_lt most m.len)
  where
    by : (b : Bool) → is_ignore (cond b v.Ignore own) ≡ b
    by true = refl
    by false = h

sized-is : (most : Option ℕ) (size : Result Metadata Fault) (is_dir : Bool) (own : Verdict)
    → is_ignore (sized (cond (is_dir || is_ignore own) None most) size own) ≡ (is_ignore own || (not is_dir && is_larger most size))
sized-is most size true own = sym (or_no (is_ignore own))
sized-is most size false v.Ignore = refl
sized-is most size false v.None = larger most size v.None refl
sized-is most size false v.Whitelist = larger most size v.Whitelist refl

-- depths

least-is : (least : Option ℕ) (depth : ℕ) → not (is_above least depth) ≡ is_at_least least depth
least-is None depth = refl
least-is (Some least) depth =
    ⊎_elim
    (λ (e : nat_lt depth least ≡ true). ap not e ∙ sym (lt-leb least depth (ltb-true depth least e)))
    (λ (e : nat_lt depth least ≡ false). ap not e ∙ sym (le-leb least depth (ltb-false depth least e)))
    (cases_Bool (nat_lt depth least))

limits : (is_dir above deep ignored : Bool) → not deep ≡ true
    → cond ((not is_dir && above) || deep) false (not ignored && not above) ≡ (not ignored && not above)
limits is_dir above true ignored h = absurd (cc (h))
limits true above false ignored h = refl
limits false false false ignored h = refl
limits false true false true h = refl
limits false true false false h = refl

-- answers

abbrev Answer : Type 0
Answer = IncrementalMatch × Option Problem

asked-first : (out rules : Bool) (a b c d : Answer) → rules ≡ true
    → keeps (cond (not true) a (cond out b (cond rules c d))).0 ≡ cond out (keeps b.0) (keeps c.0)
asked-first true true a b c d h = refl
asked-first false true a b c d h = refl
asked-first out false a b c d h = absurd (cc (h))

chosen : (asked out rules : Bool) (a b c d : Answer) → asked ≡ true → rules ≡ true
    → keeps (cond (not asked) a (cond out b (cond rules c d))).0 ≡ cond out (keeps b.0) (keeps c.0)
chosen true out rules a b c d h k = asked-first out rules a b c d k
chosen false out rules a b c d h k = absurd (cc (h))

dir_there : (r : Result Metadata Fault) → is_dir_there r ≡ true → is_dir_there r ≡ true
dir_there (Ok m) h = h
dir_there (Err f) h = h

names-some : (path : List ℕ) → (length path == 0) ≡ false → names_of path ≡ components path
names-some [] h = absurd (cc (h))
names-some (c ∷ cs) h = refl

clean-is : (path : List ℕ) → list_all is_proper (components path) ≡ true → is_clean path ≡ true
clean-is path h = or_right (length path == 0) (list_all is_proper (components path)) h

both : (a b : Bool) → a ≡ true → b ≡ true → (a && b) ≡ true
both true b h k = k
both false b h k = absurd (cc (h))

-- the answer that the rules give
rules-answer : (g : below.QueryScene) (path : List ℕ) (is_dir : Bool)
    → keeps (answer_of_rules g path is_dir).0
    ≡ (not (is_ignore (rules_verdict g (names_of path) is_dir) || (not is_dir && is_larger g.settings.max_filesize (size_of g path)))
    && not (is_above g.settings.min_depth (depth_of_path path)))
unfolding answer_of_rules
rules-answer g path is_dir =
    ap (λ (x : Bool). not x && not (is_above g.settings.min_depth (depth_of_path path)))
    (sized-is g.settings.max_filesize (size_of g path) is_dir (rules_verdict g (names_of path) is_dir))

-- the query of some names that are joined
query-is : (g : below.QueryScene) (n : List ℕ) (ns : List (List ℕ)) (is_dir : Bool) → bytes_eq g.root (codes "-") ≡ false → AreNames (n ∷ ns)
    → is_dir_there (g.tree.stat g.root true) ≡ true → not (is_below g.settings.max_depth (length (n ∷ ns))) ≡ true
    → keeps (query g (joined (n ∷ ns)) is_dir).0
    ≡ (not (is_ignore (rules_verdict g (n ∷ ns) is_dir) || (not is_dir && is_larger g.settings.max_filesize (size_of g (joined
    (n ∷ ns)))))
    && not (is_above g.settings.min_depth (length (n ∷ ns))))
unfolding query
query-is g n ns is_dir file names there within =
    let path = joined (n ∷ ns) in
    let whole : names_of path ≡ n ∷ ns = names-some path (filled n ns names.0) ∙ components-joined n ns names in
    let clean : is_clean path ≡ true = clean-is path (ap (list_all is_proper) (components-joined n ns names) ∙ all_proper
    (n ∷ ns) names) in
    let asked : is_asked g.root path ≡ true = both (not (bytes_eq g.root (codes "-"))) (is_clean path) (ap not file) clean in
    let rules : has_rules g.tree g.root path ≡ true =
    both (not (length path == 0)) (is_dir_there (g.tree.stat g.root true)) (ap not (filled n ns names.0)) (dir_there
    (g.tree.stat g.root true) there) in
    chosen (is_asked g.root path) (is_beyond g.settings (depth_of_path path) is_dir) (has_rules g.tree g.root path)
    (no_match is_dir, None) (beyond, None) (answer_of_rules g path is_dir)
    (limited g.settings (depth_of_path path) is_dir v.None, None) asked rules
    ∙ (ap (λ (x : Bool). cond (is_beyond g.settings (depth_of_path path) is_dir) false x) (rules-answer g path is_dir)
    ∙ (ap (λ (l : List (List ℕ)). cond (is_beyond g.settings (length l) is_dir) false
    (not (is_ignore (rules_verdict g l is_dir) || (not is_dir && is_larger g.settings.max_filesize (size_of g path)))
    && not (is_above g.settings.min_depth (length l)))) whole
    ∙ limits is_dir (is_above g.settings.min_depth (length (n ∷ ns))) (is_below g.settings.max_depth (length (n ∷ ns)))
    (is_ignore (rules_verdict g (n ∷ ns) is_dir) || (not is_dir && is_larger g.settings.max_filesize (size_of g path))) within))

-- an entry below a root, by its place

cons-of : (ns : List (List ℕ)) (n : List ℕ) → (m : List ℕ) × (ms : List (List ℕ)) × (ns ++ n ∷ [] ≡ m ∷ ms)
cons-of [] n = (n, [], refl)
cons-of (m ∷ ns) n = (m, ns ++ n ∷ [], refl)

or-assoc : (a b c : Bool) → ((a || b) || c) ≡ (a || (b || c))
or-assoc true b c = refl
or-assoc false b c = refl

query-place : (g : below.QueryScene) (ns ms : List (List ℕ)) (m : List ℕ) (is_dir : Bool) → ns ≡ m ∷ ms → bytes_eq g.root (codes "-") ≡ false
    → AreNames ns → is_dir_there (g.tree.stat g.root true) ≡ true → not (is_below g.settings.max_depth (length ns)) ≡ true
    → keeps (query g (joined ns) is_dir).0
    ≡ (not (is_ignore (rules_verdict g ns is_dir) || (not is_dir && is_larger g.settings.max_filesize (g.tree.stat
    (directory_of g.root ns) g.settings.follow_links)))
    && not (is_above g.settings.min_depth (length ns)))
query-place g ns ms m is_dir is file names there within =
    subst (λ (l : List (List ℕ)). keeps (query g (joined l) is_dir).0
    ≡ (not (is_ignore (rules_verdict g l is_dir) || (not is_dir && is_larger g.settings.max_filesize (g.tree.stat
    (directory_of g.root l) g.settings.follow_links)))
    && not (is_above g.settings.min_depth (length l)))) (sym is)
    (query-is g m ms is_dir file (subst AreNames is names) there
    (subst (λ (l : List (List ℕ)). not (is_below g.settings.max_depth (length l)) ≡ true) is within))

pub kept-below : JoinsName → (g : Scene) (root : List ℕ) (n : List ℕ) (b : Branch) (e : Entry) → bytes_eq root (codes "-") ≡ false
    → AreNames (n ∷ b) → is_dir_there (g.tree.stat root true) ≡ true → is_within g (n ∷ b) ≡ true → e.path ≡ path_of root (n ∷ b)
    → is_kept g root (n ∷ b) e
    ≡ (not (above_ignored g root (n ∷ b) || (ignores g root (n ∷ b) (is_dir_kind e.kind) || is_too_large g e))
    && is_at_least g.settings.min_depth (length (n ∷ b)))
unfolding is_kept
kept-below join g root n b e file names there within at =
    let ns = reverse (n ∷ b) in
    let d = is_dir_kind e.kind in
    let some = cons-of (reverse b) n in
    let size : length ns ≡ length (n ∷ b) = length-reverse (n ∷ b) in
    let path : directory_of root ns ≡ e.path = sym (at ∙ path-is join root (n ∷ b) names) in
    query-place (queries g root) ns some.1 some.0 d (reverse-cons n b ∙ some.2) file (names-reverse (n ∷ b) names) there
    (ap (λ (k : ℕ). not (is_below g.settings.max_depth k)) size ∙ within)
    ∙ (ap₂ (λ (x y : Bool). not x && y)
    (ap₂ (λ (x y : Bool). x || y) (verdict-is g root (n ∷ b) d)
    (ap (λ (p : List ℕ). not d && is_larger g.settings.max_filesize (g.tree.stat p g.settings.follow_links)) path)
    ∙ or-assoc (above_ignored g root (n ∷ b)) (ignores g root (n ∷ b) d) (is_too_large g e))
    (ap (λ (k : ℕ). not (is_above g.settings.min_depth k)) size ∙ least-is g.settings.min_depth (length (n ∷ b))))

-- the root itself

root-first : (asked out : Bool) (a b d : Answer) (r : Bool) (c : Answer) → asked ≡ true → r ≡ false
    → keeps (cond (not asked) a (cond out b (cond r c d))).0 ≡ cond out (keeps b.0) (keeps d.0)
root-first true true a b d false c h k = refl
root-first true false a b d false c h k = refl
root-first true out a b d true c h k = absurd (cc (k))
root-first false out a b d r c h k = absurd (cc (h))

pub kept-root : (g : Scene) (root : List ℕ) (e : Entry) → bytes_eq root (codes "-") ≡ false → is_within g [] ≡ true
    → is_kept g root [] e ≡ is_at_least g.settings.min_depth 0
unfolding is_kept query
kept-root g root e file within =
    let d = is_dir_kind e.kind in
    let q = queries g root in
    let asked : is_asked root [] ≡ true = both (not (bytes_eq root (codes "-"))) true (ap not file) refl in
    root-first (is_asked root []) (is_beyond g.settings 0 d) (no_match d, None) (beyond, None) (limited g.settings 0 d v.None, None)
    (has_rules g.tree root []) (answer_of_rules q [] d) asked refl
    ∙ (limits d (is_above g.settings.min_depth 0) (is_below g.settings.max_depth 0) false within ∙ least-is g.settings.min_depth 0)
