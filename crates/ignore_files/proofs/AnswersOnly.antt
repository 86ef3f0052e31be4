-- A value that is consistent with two trees gives answers on which the two agree; and an error or
-- an entry of the machine's is reported as one item, and all that a directory gives as one listing.
use Rattle.std.proofs.Common.{◌≡◌, ◌⊎◌, inl, inr, ℕ, suc, Bool, List, [], ◌∷◌, length, Option, Result, Ok, Err, refl, sym, ap, ◌∙◌}
use Rattle.std.proofs.Common.{subst, arith}
use Rattle.std.specs.declared.io.Error.{Error}
use Rattle.std.specs.Fs.{IsDir, IsFile, IsSymlink}
use Rattle.std.specs.declared.fs.FileType.{FileType as MachineType}
use Rattle.ignore_base.specs.declared.fault.Fault.{Fault}
use Rattle.ignore_files.specs.Tree.{Tree, Answers}
use Rattle.ignore_files.specs.Gives.{IsHonest}
use Rattle.ignore_files.specs.Reported.{IsReportedAs, IsFaultOf, IsEntryOf}
use Rattle.ignore_files.specs.Machine.{IsReported, IsGone, AreReported}
use Rattle.ignore_files.specs.declared.machine.Machine.{Ghosts as MachineGhosts}
use Rattle.ignore_files.specs.declared.files.Files.{Ghosts}
use Rattle.ignore_files.specs.declared.types.Refusal.{Refusal}
use Rattle.ignore_files.specs.declared.types.Refusal.TheVariants.{Fault as Refused}
use Rattle.ignore_files.specs.declared.types.Contents.{Contents}
use Rattle.ignore_files.specs.declared.types.FileType.{FileType}
use Rattle.ignore_files.specs.declared.types.FileType.TheVariants.{File, Dir, Symlink, Other}
use Rattle.ignore_files.specs.declared.types.Identity.{Identity}
use Rattle.ignore_files.specs.declared.types.Listed.{Listed}
use Rattle.ignore_files.specs.declared.types.Listed.TheVariants as listed
use Rattle.ignore_files.specs.declared.types.Metadata.{Metadata}

Answers-ok : {A : Type 0} (reported other : Result A Fault) (x : A) → Answers reported (Ok x) → Answers other (Ok x) → reported ≡ other
Answers-ok reported other x h k = h ∙ sym k

Answers-fault : {A : Type 0} (reported other : Result A Fault) (fault : Fault) → Answers reported (Err (Refused fault))
    → Answers other (Err (Refused fault)) → reported ≡ other
Answers-fault reported other fault h k = h ∙ sym k

consistent_stat : {F : Type 0} (files : Ghosts F) (f : F) (a b : Tree) (path : List ℕ) (follow : Bool) (x : Metadata) → IsHonest files f a
    → IsHonest files f b → files.stat_gives f path follow (Ok x) → a.stat path follow ≡ b.stat path follow
consistent_stat files f a b path follow x h k given =
    Answers-ok (a.stat path follow) (b.stat path follow) x (h.stat path follow (Ok x) given) (k.stat path follow (Ok x) given)

consistent_list : {F : Type 0} (files : Ghosts F) (f : F) (a b : Tree) (path : List ℕ) (x : List Listed) → IsHonest files f a
    → IsHonest files f b → files.list_gives f path (Ok x) → a.list path ≡ b.list path
consistent_list files f a b path x h k given =
    Answers-ok (a.list path) (b.list path) x (h.list path (Ok x) given) (k.list path (Ok x) given)

consistent_contents : {F : Type 0} (files : Ghosts F) (f : F) (a b : Tree) (path : List ℕ) (x : Contents) → IsHonest files f a
    → IsHonest files f b → files.contents_gives f path (Ok x) → a.contents path ≡ b.contents path
consistent_contents files f a b path x h k given =
    Answers-ok (a.contents path) (b.contents path) x (h.contents path (Ok x) given) (k.contents path (Ok x) given)

consistent_canonical : {F : Type 0} (files : Ghosts F) (f : F) (a b : Tree) (path x : List ℕ) → IsHonest files f a → IsHonest files f b
    → files.canonical_gives f path (Ok x) → a.canonical path ≡ b.canonical path
consistent_canonical files f a b path x h k given =
    Answers-ok (a.canonical path) (b.canonical path) x (h.canonical path (Ok x) given) (k.canonical path (Ok x) given)

consistent_identity : {F : Type 0} (files : Ghosts F) (f : F) (a b : Tree) (path : List ℕ) (follow : Bool) (x : Option Identity)
    → IsHonest files f a → IsHonest files f b → files.identity_gives f path follow (Ok x) → a.identity path follow ≡ b.identity path follow
consistent_identity files f a b path follow x h k given =
    Answers-ok (a.identity path follow) (b.identity path follow) x (h.identity path follow (Ok x) given)
    (k.identity path follow (Ok x) given)

-- an error is reported by one fault, and as no entry
IsFaultOf-one : (error : Error) (one other : Listed) → IsFaultOf error one → IsFaultOf error other → one ≡ other
IsFaultOf-one error (listed.Entry n kind) other h k = absurd h
IsFaultOf-one error (listed.Fault f) (listed.Entry n kind) h k = absurd k
IsFaultOf-one error (listed.Fault f) (listed.Fault g) h k =
    let e : ◌≡◌ {A = Refusal} (Refused f) (Refused g) = sym h ∙ k in let same : f ≡ g = cc e in ap (λ x. listed.Fault x) same

-- an entry whose type is known is reported with its name and a kind of that type
IsEntryOf-named : (IsName : List ℕ → Type 0) (t : MachineType) (item : Listed) → IsEntryOf IsName (Ok t) item
    → (name : List ℕ) × (kind : FileType) × (item ≡ listed.Entry name kind) × IsName name × IsReportedAs t kind
IsEntryOf-named IsName t (listed.Entry name kind) h = (name, kind, refl, h.0, h.1)
IsEntryOf-named IsName t (listed.Fault f) h = absurd h

-- what is reported as none of the three is none of them
IsReportedAs-other : (t : MachineType) → IsReportedAs t Other → (IsDir t ⊎ (IsFile t ⊎ IsSymlink t)) → ⊥
IsReportedAs-other t h (inl e) = h.0 e
IsReportedAs-other t h (inr (inl e)) = h.1 e
IsReportedAs-other t h (inr (inr e)) = h.2 e

-- a type of the machine's is reported as one kind
IsReportedAs-one : (t : MachineType) (kind other : FileType) → IsReportedAs t kind → IsReportedAs t other → kind ≡ other
IsReportedAs-one t File File h k = refl
IsReportedAs-one t File Dir h k = let clash : ⊥ = omega arith in absurd clash
IsReportedAs-one t File Symlink h k = let clash : ⊥ = omega arith in absurd clash
IsReportedAs-one t File Other h k = absurd (k.1 h)
IsReportedAs-one t Dir File h k = let clash : ⊥ = omega arith in absurd clash
IsReportedAs-one t Dir Dir h k = refl
IsReportedAs-one t Dir Symlink h k = let clash : ⊥ = omega arith in absurd clash
IsReportedAs-one t Dir Other h k = absurd (k.0 h)
IsReportedAs-one t Symlink File h k = let clash : ⊥ = omega arith in absurd clash
IsReportedAs-one t Symlink Dir h k = let clash : ⊥ = omega arith in absurd clash
IsReportedAs-one t Symlink Symlink h k = refl
IsReportedAs-one t Symlink Other h k = absurd (k.2 h)
IsReportedAs-one t Other File h k = absurd (h.1 k)
IsReportedAs-one t Other Dir h k = absurd (h.0 k)
IsReportedAs-one t Other Symlink h k = absurd (h.2 k)
IsReportedAs-one t Other Other h k = refl

-- an entry with one name is reported as one item, and so is one without a kind
IsEntryOf-one : (IsName : List ℕ → Type 0) (type : Result MachineType Error) (one other : Listed)
    → ((n m : List ℕ) → IsName n → IsName m → n ≡ m) → IsEntryOf IsName type one → IsEntryOf IsName type other → one ≡ other
IsEntryOf-one IsName (Ok t) (listed.Entry n a) (listed.Entry m b) named h k =
    ap (λ x. listed.Entry x a) (named n m h.0 k.0) ∙ ap (λ x. listed.Entry m x) (IsReportedAs-one t a b h.1 k.1)
IsEntryOf-one IsName (Ok t) (listed.Entry n a) (listed.Fault f) named h k = absurd k
IsEntryOf-one IsName (Ok t) (listed.Fault f) other named h k = absurd h
IsEntryOf-one IsName (Err error) one other named h k = IsFaultOf-one error one other h.1 k.1

-- what a directory gives is reported as one item, where the machine gives an entry one name and one
-- type
IsReported-one : {R M E D F : Type 0} (machine : MachineGhosts R M E D F) (given : Result E Error) (one other : Listed)
    → ((entry : E) (n m : List ℕ) → machine.file_name_gives entry n → machine.file_name_gives entry m → n ≡ m)
    → ((entry : E) (a b : Result MachineType Error) → machine.entry_type_gives entry a → machine.entry_type_gives entry b → a ≡ b)
    → IsReported machine given one → IsReported machine given other → one ≡ other
IsReported-one machine (Ok entry) one other named typed h k =
    IsEntryOf-one (machine.file_name_gives entry) h.0 one other (named entry) h.2
    (subst (λ (x : Result MachineType Error). IsEntryOf (machine.file_name_gives entry) x other) (typed entry k.0 h.0 k.1 h.1) k.2)
IsReported-one machine (Err error) one other named typed h k = IsFaultOf-one error one other h k

-- an entry is listed under the name that the machine gives for it, and with a kind of its type
IsReported-named : {R M E D F : Type 0} (machine : MachineGhosts R M E D F) (entry : E) (name : List ℕ) (kind : FileType)
    → IsReported machine (Ok entry) (listed.Entry name kind)
    → machine.file_name_gives entry name × ((t : MachineType) × machine.entry_type_gives entry (Ok t) × IsReportedAs t kind)
IsReported-named machine entry name kind (Ok t, given, h) = (h.0, (t, given, h.1))
IsReported-named machine entry name kind (Err error, given, h) = absurd h.1

-- each item is reported, and nothing else: where nothing is gone, there are as many
AreReported-length : {R M E D F : Type 0} (machine : MachineGhosts R M E D F) (all : List (Result E Error)) (items : List Listed)
    → ((one : Result E Error) → IsGone machine one → ⊥) → AreReported machine all items → length items ≡ length all
AreReported-length machine [] [] none h = refl
AreReported-length machine [] (item ∷ items) none h = absurd h
AreReported-length machine (one ∷ more) [] none h = absurd (none one h.0)
AreReported-length machine (one ∷ more) (item ∷ items) none (inl h) = ap (λ n. suc n) (AreReported-length machine more items none h.1)
AreReported-length machine (one ∷ more) (item ∷ items) none (inr h) = absurd (none one h.0)

-- what is gone is reported as no item, where the machine gives an entry one type
IsGone-unreported : {R M E D F : Type 0} (machine : MachineGhosts R M E D F) (given : Result E Error) (item : Listed)
    → ((entry : E) (a b : Result MachineType Error) → machine.entry_type_gives entry a → machine.entry_type_gives entry b → a ≡ b)
    → IsGone machine given → IsReported machine given item → ⊥
IsGone-unreported machine (Ok entry) item typed g h =
    (subst (λ (x : Result MachineType Error). IsEntryOf (machine.file_name_gives entry) x item) (typed entry h.0 (Err g.0) h.1 g.1) h.2).0 g.2
IsGone-unreported machine (Err error) item typed g h = g

-- what a directory gives has one listing, where the machine gives an entry one name and one type
AreReported-one : {R M E D F : Type 0} (machine : MachineGhosts R M E D F) (all : List (Result E Error)) (items others : List Listed)
    → ((entry : E) (n m : List ℕ) → machine.file_name_gives entry n → machine.file_name_gives entry m → n ≡ m)
    → ((entry : E) (a b : Result MachineType Error) → machine.entry_type_gives entry a → machine.entry_type_gives entry b → a ≡ b)
    → AreReported machine all items → AreReported machine all others → items ≡ others
AreReported-one machine [] [] [] named typed h k = refl
AreReported-one machine [] [] (o ∷ others) named typed h k = absurd k
AreReported-one machine [] (i ∷ items) others named typed h k = absurd h
AreReported-one machine (one ∷ more) [] [] named typed h k = refl
AreReported-one machine (one ∷ more) [] (o ∷ others) named typed h (inl k) =
    absurd (IsGone-unreported machine one o typed h.0 k.0)
AreReported-one machine (one ∷ more) [] (o ∷ others) named typed h (inr k) =
    AreReported-one machine more [] (o ∷ others) named typed h.1 k.1
AreReported-one machine (one ∷ more) (i ∷ items) [] named typed (inl h) k =
    absurd (IsGone-unreported machine one i typed k.0 h.0)
AreReported-one machine (one ∷ more) (i ∷ items) [] named typed (inr h) k =
    AreReported-one machine more (i ∷ items) [] named typed h.1 k.1
AreReported-one machine (one ∷ more) (i ∷ items) (o ∷ others) named typed (inl h) (inl k) =
    ap {B = List Listed} (λ x. x ∷ items) (IsReported-one machine one i o named typed h.0 k.0)
    ∙ ap {B = List Listed} (λ l. o ∷ l) (AreReported-one machine more items others named typed h.1 k.1)
AreReported-one machine (one ∷ more) (i ∷ items) (o ∷ others) named typed (inl h) (inr k) =
    absurd (IsGone-unreported machine one i typed k.0 h.0)
AreReported-one machine (one ∷ more) (i ∷ items) (o ∷ others) named typed (inr h) (inl k) =
    absurd (IsGone-unreported machine one o typed h.0 k.0)
AreReported-one machine (one ∷ more) (i ∷ items) (o ∷ others) named typed (inr h) (inr k) =
    AreReported-one machine more (i ∷ items) (o ∷ others) named typed h.1 k.1
