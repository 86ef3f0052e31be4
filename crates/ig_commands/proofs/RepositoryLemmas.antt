-- Whether one of some folders, and of those below them, shows a repository, one folder at a time.
use Rattle.std.proofs.Common.{◌≡◌, ◌∙◌, ◌<◌, ◌≤◌, ℕ, ◌+◌, Bool, true, false, ◌||◌, List, [], ◌∷◌, ◌++◌, append_assoc, get_or, length, take, refl, sym, ap, subst, arith}
use Rattle.std.proofs.lemmas.Grind.{flat_map-append}
use Rattle.std.proofs.lemmas.List.{append-nil, take_more}
use Rattle.std.specs.List.{flat_map, list_any}
use Rattle.ignore_base.specs.Text.{Path}
use Rattle.ignore_files.specs.Tree.{Tree}
use Rattle.ig_commands.specs.Repositories.{AreBelow, OneShows, folders_in, shows}
use Rattle.ig_commands.specs.Repositories.AreBelow.{none, more}

-- no folder shows one where there is none
none_there : (tree : Tree) (found : List Path) → AreBelow tree [] found → false ≡ list_any (λ (dir : Path). shows (tree.list dir)) found
none_there tree _ none = refl

pub none_show : (tree : Tree) (most : ℕ) → OneShows tree [] most false
none_show tree most = λ found below fits. none_there tree found below

-- the first one does
first_there : (tree : Tree) (dir : Path) (dirs found : List Path) → shows (tree.list dir) ≡ true → AreBelow tree (dir ∷ dirs) found
    → true ≡ list_any (λ (d : Path). shows (tree.list d)) found
first_there tree dir dirs _ h (more {found = f} rest) =
    sym (ap (λ (b : Bool). b || list_any (λ (d : Path). shows (tree.list d)) f) h)

pub first_shows : (tree : Tree) (dir : Path) (dirs : List Path) (most : ℕ) → shows (tree.list dir) ≡ true
    → OneShows tree (dir ∷ dirs) most true
first_shows tree dir dirs most h = λ found below fits. first_there tree dir dirs found h below

-- there are more than are looked into
more_there : (tree : Tree) (dir : Path) (dirs found : List Path) (b : Bool) → AreBelow tree (dir ∷ dirs) found → length found ≤ 0
    → b ≡ list_any (λ (d : Path). shows (tree.list d)) found
more_there tree dir dirs _ b (more {found = f} rest) fits = absurd (omega (arith, fits))

pub too_many : (tree : Tree) (dir : Path) (dirs : List Path) (held : Bool) → OneShows tree (dir ∷ dirs) 0 held
too_many tree dir dirs held = λ found below fits. more_there tree dir dirs found held below fits

-- the first one doesn't, and then one of the others and of the folders in it has to
others_there : (tree : Tree) (dir : Path) (dirs found : List Path) (left : ℕ) (held : Bool) → shows (tree.list dir) ≡ false
    → OneShows tree (dirs ++ folders_in dir (tree.list dir)) left held → AreBelow tree (dir ∷ dirs) found → length found ≤ left + 1
    → held ≡ list_any (λ (d : Path). shows (tree.list d)) found
others_there tree dir dirs _ left held h others (more {found = f} rest) fits =
    others f rest (omega (arith, fits)) ∙ sym (ap (λ (b : Bool). b || list_any (λ (d : Path). shows (tree.list d)) f) h)

pub others_show : (tree : Tree) (dir : Path) (dirs : List Path) (left : ℕ) (held : Bool) → shows (tree.list dir) ≡ false
    → OneShows tree (dirs ++ folders_in dir (tree.list dir)) left held → OneShows tree (dir ∷ dirs) (left + 1) held
others_show tree dir dirs left held h others = λ found below fits. others_there tree dir dirs found left held h others below fits

-- the first of those that wait is looked into, and shows none
pub one_less : (tree : Tree) (dir at : Path) (dirs waiting later : List Path) (left less : ℕ) (held : Bool) → waiting ≡ dir ∷ dirs
    → at ≡ dir → left ≡ less + 1 → shows (tree.list at) ≡ false → later ≡ dirs ++ folders_in at (tree.list at)
    → OneShows tree later less held → OneShows tree waiting left held
one_less tree dir at dirs waiting later left less held is same one unshown adds h =
    subst (λ (ds : List Path). OneShows tree ds left held) (sym is)
    (subst (λ (n : ℕ). OneShows tree (dir ∷ dirs) n held) (sym one)
    (subst (λ (d : Path). OneShows tree (d ∷ dirs) (less + 1) held) same
    (others_show tree at dirs less held unshown (subst (λ (ds : List Path). OneShows tree ds less held) adds h))))

-- or it shows one
pub one_found : (tree : Tree) (dir at : Path) (dirs waiting : List Path) (left : ℕ) → waiting ≡ dir ∷ dirs → at ≡ dir
    → shows (tree.list at) ≡ true → OneShows tree waiting left true
one_found tree dir at dirs waiting left is same shown =
    subst (λ (ds : List Path). OneShows tree ds left true) (sym is)
    (subst (λ (d : Path). OneShows tree (d ∷ dirs) left true) same (first_shows tree at dirs left shown))

-- or no more may be looked into
pub one_too_many : (tree : Tree) (dir : Path) (dirs waiting : List Path) (left : ℕ) (held : Bool) → waiting ≡ dir ∷ dirs → left ≡ 0
    → OneShows tree waiting left held
one_too_many tree dir dirs waiting left held is spent =
    subst (λ (ds : List Path). OneShows tree ds left held) (sym is)
    (subst (λ (n : ℕ). OneShows tree (dir ∷ dirs) n held) (sym spent) (too_many tree dir dirs held))

-- the folders of the listed things up to one more
pub folders_more : {A B : Type 0} (f : A → List B) (all : List A) (i : ℕ) (one : A) (start old new : List B) → i < length all
    → one ≡ get_or all i one → old ≡ start ++ flat_map f (take i all) → new ≡ old ++ f one
    → new ≡ start ++ flat_map f (take (i + 1) all)
folders_more {A} {B} f all i one start old new within here before added =
    let next : take (i + 1) all ≡ take i all ++ one ∷ [] = take_more all i one within ∙ ap (λ (x : A). take i all ++ x ∷ []) (sym here) in
    let text = ap (flat_map f) next ∙ (flat_map-append f (take i all) (one ∷ []) ∙ ap (λ (ys : List B). flat_map f (take i all) ++ ys) (append-nil (f one))) in
    added
    ∙ (ap (λ (xs : List B). xs ++ f one) before
    ∙ (append_assoc start (flat_map f (take i all)) (f one) ∙ ap (λ (xs : List B). start ++ xs) (sym text)))
