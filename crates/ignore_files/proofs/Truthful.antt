-- A machine by a table answers truly from the disk of its rows.
use Rattle.std.proofs.Common.{◌≡◌, inl, inr, ℕ, Bool, true, false, cond, List, [], ◌∷◌, length, map, Option, Result}
use Rattle.std.proofs.Common.{Ok, Err, refl, sym, ap, subst, ◌∙◌, arith}
use Rattle.std.specs.Iterator.{Drains}
use Rattle.std.specs.Prelude.{IsOkAnd}
use Rattle.std.specs.Vec.Iter.{into_iter_items, into_iter_steps}
use Rattle.std.specs.IoError.{raw_os_error}
use Rattle.std.specs.declared.io.Error.{Error}
use Rattle.std.specs.declared.vec.IntoIter.{IntoIter}
use Rattle.std.specs.declared.fs.FileType.{FileType as MachineType}
use Rattle.ignore_base.specs.declared.fault.Fault.{Fault}
use Rattle.ignore_base.specs.declared.fault.Fault.TheVariants as fault
use Rattle.ignore_files.specs.Tree.{Answers}
use Rattle.ignore_files.specs.Memory.{and_then}
use Rattle.ignore_files.specs.Reported.{refusal_of, reported, IsReportedAs, cut_by}
use Rattle.ignore_files.specs.Heard.{has_nul, IsHeard}
use Rattle.ignore_files.specs.Machine.{metadata_gives, IsStatOf, Reads, Lists, Holds, IsReadOf, IsReported, IsGone, AreReported, IsTruthful}
use Rattle.ignore_files.specs.Table.{asked, followed, end_of, entries_at, bytes_at, stat_of, told, given, file_type_of, len_of, Finds}
use Rattle.ignore_files.specs.Table.{ReadsWhole, or_fault, visible, listed_of, contents_of, disk_of}
use Rattle.ignore_files.specs.declared.machine.Machine.{Ghosts}
use Rattle.ignore_files.specs.declared.stat.Stat.{Stat}
use Rattle.ignore_files.specs.declared.table.Row.{Row}
use Rattle.ignore_files.specs.declared.table.Miss.{Miss}
use Rattle.ignore_files.specs.declared.table.RowKind.{RowKind}
use Rattle.ignore_files.specs.declared.table.RowKind.TheVariants as row_kind
use Rattle.ignore_files.specs.declared.table.RowEntry.{RowEntry}
use Rattle.ignore_files.specs.declared.table.TableMachine.{TableMachine}
use Rattle.ignore_files.specs.declared.types.Refusal.{Refusal}
use Rattle.ignore_files.specs.declared.types.Refusal.TheVariants.{Memory}
use Rattle.ignore_files.specs.declared.types.Refusal.TheVariants.{Fault as Refused}
use Rattle.ignore_files.specs.declared.types.FileType.{FileType}
use Rattle.ignore_files.specs.declared.types.FileType.TheVariants.{File, Dir, Symlink, Other}
use Rattle.ignore_files.specs.declared.types.Listed.{Listed}
use Rattle.ignore_files.specs.declared.types.Listed.TheVariants as listed
use Rattle.ignore_files.specs.declared.types.Contents.{Contents}

-- what is heard at a path where this is: what is there, unless memory runs out, or the fault
abbrev pub Hears : {A T : Type 0} → (A → T → Type 0) → Result A Fault → Result T Refusal → Type 0
Hears Is (Ok a) (Ok x) = Is a x
Hears Is (Ok a) (Err refusal) = refusal ≡ Memory
Hears Is (Err fault) (Ok x) = ⊥
Hears Is (Err fault) (Err refusal) = refusal ≡ Refused fault

Finds-reported : {A T : Type 0} (Is : A → T → Type 0) (at : Result A Miss) (answer : Result T Error)
    → Finds Is at answer → Hears Is (or_fault at) (reported answer)
Finds-reported Is (Ok a) (Ok x) h = h
Finds-reported Is (Ok a) (Err error) h = ap (refusal_of (raw_os_error error)) h
Finds-reported Is (Err m) (Ok x) h = absurd h
Finds-reported Is (Err m) (Err error) h = h

-- what is heard at a path is of what can be found there
hears : {A T : Type 0} (Is : A → T → Type 0) (gives : Result T Error → Type 0) (path : List ℕ) (at : Result A Miss)
    (heard : Result T Refusal) → ((answer : Result T Error) → gives answer → Finds Is at answer)
    → IsHeard path gives heard → Hears Is (visible path at) heard
hears {A} Is gives path at heard finds h = either (has_nul path) refl
  where
    either : (b : Bool) → has_nul path ≡ b → Hears Is (cond b (Err fault.NotFound) (or_fault at)) heard
    either true e = subst (λ r. Hears Is (Err fault.NotFound) r) (sym (h.nul e)) refl
    either false e = let a = h.asked e in subst (λ r. Hears Is (or_fault at) r) (sym a.2) (Finds-reported Is at a.0 (finds a.0 a.1))

-- what is made of what is heard is an answer of the disk
answers : {A B T : Type 0} (Is : A → T → Type 0) (f : A → B) (at : Result A Fault) (heard : Result T Refusal)
    (answer : Result B Refusal) → Hears Is at heard
    → ((a : A) (x : T) → heard ≡ Ok x → Is a x → Answers (Ok (f a)) answer)
    → ((refusal : Refusal) → heard ≡ Err refusal → answer ≡ Err refusal) → Answers (and_then (λ a. Ok (f a)) at) answer
answers Is f (Ok a) (Ok x) answer h found refused = found a x refl h
answers Is f (Ok a) (Err refusal) answer h found refused =
    subst (λ r. Answers (Ok (f a)) r) (sym (refused refusal refl ∙ ap (λ r. Err r) h)) tt
answers Is f (Err fault) (Ok x) answer h found refused = absurd h
answers {B = B} Is f (Err fault) (Err refusal) answer h found refused =
    subst (λ r. Answers {A = B} (Err fault) r) (sym (refused refusal refl ∙ ap (λ r. Err r) h)) refl

-- a type is reported as one kind
one_kind : (t : MachineType) (a b : FileType) → IsReportedAs t a → IsReportedAs t b → a ≡ b
one_kind t File File g h = refl
one_kind t File Dir g h = let clash : ⊥ = omega (arith, g, h) in absurd clash
one_kind t File Symlink g h = let clash : ⊥ = omega (arith, g, h) in absurd clash
one_kind t File Other g h = absurd (h.1 g)
one_kind t Dir File g h = let clash : ⊥ = omega (arith, g, h) in absurd clash
one_kind t Dir Dir g h = refl
one_kind t Dir Symlink g h = let clash : ⊥ = omega (arith, g, h) in absurd clash
one_kind t Dir Other g h = absurd (h.0 g)
one_kind t Symlink File g h = let clash : ⊥ = omega (arith, g, h) in absurd clash
one_kind t Symlink Dir g h = let clash : ⊥ = omega (arith, g, h) in absurd clash
one_kind t Symlink Symlink g h = refl
one_kind t Symlink Other g h = absurd (h.2 g)
one_kind t Other File g h = absurd (g.1 h)
one_kind t Other Dir g h = absurd (g.0 h)
one_kind t Other Symlink g h = absurd (g.2 h)
one_kind t Other Other g h = refl

-- the kind of a row is told as it is
told_row : (kind : RowKind) → told (file_type_of kind) ≡ file_type_of kind
told_row (row_kind.File bytes) = refl
told_row (row_kind.Dir entries) = refl
told_row (row_kind.Link target) = refl

-- what has no length is empty
no_items : {X : Type 0} (xs : List X) → length xs ≡ 0 → [] ≡ xs
no_items [] e = refl
no_items (x ∷ xs) e = absurd (omega (arith, e))

-- what a vector gives up to its end are its items
pub drained : {X Z : Type 0} (dir : IntoIter X Z) (all : List X) → Drains (into_iter_steps {X = X} {Z = Z}) dir all
    → all ≡ into_iter_items dir
drained dir [] (u, (t, same, step)) =
    no_items (into_iter_items dir) (subst (λ k. length (into_iter_items k) ≡ 0) (sym same) (sym t.rest.ok.0 ∙ step.0))
drained {X} dir (x ∷ all) (u, (t, (j, step, more), last)) =
    ap {B = List X} (λ l. x ∷ l) (drained j all (u, (t, more, last))) ∙ sym step.0

-- the machine answers by these relations, as the one of a table does
pub record IsTable {R D : Type 0} (machine : Ghosts R Stat RowEntry D (List ℕ))
    (next : D → Option (Result RowEntry Error) → D → Type 0) (items : D → List (Result RowEntry Error)) (r : R)
    (table : TableMachine) : Type 0 where
  pub metadata : (path : List ℕ) (a : Result Stat Error) → machine.metadata_gives r path a
      → Finds (λ row s. s ≡ stat_of row) (asked table path true) a
  pub symlink_metadata : (path : List ℕ) (a : Result Stat Error) → machine.symlink_metadata_gives r path a
      → Finds (λ row s. s ≡ stat_of row) (asked table path false) a
  pub type : (t : MachineType) (m : Stat) → machine.file_type_gives m t → IsReportedAs t (told m.metadata.file_type)
  pub len : (n : ℕ) (m : Stat) → machine.len_gives m n → n ≡ m.metadata.len
  pub device : (n : ℕ) (m : Stat) → machine.dev_gives m n → n ≡ m.identity.device
  pub inode : (n : ℕ) (m : Stat) → machine.ino_gives m n → n ≡ m.identity.inode
  pub read_dir : (path : List ℕ) (a : Result D Error) → machine.read_dir_gives r path a
      → Finds (λ entries dir. items dir ≡ map given entries) (entries_at table path) a
  pub ends : (dir : D) (all : List (Result RowEntry Error)) → Drains next dir all → all ≡ items dir
  pub name : (entry : RowEntry) (name : List ℕ) → machine.file_name_gives entry name → name ≡ entry.name
  pub kind : (entry : RowEntry) (a : Result MachineType Error) → machine.entry_type_gives entry a
      → IsOkAnd a (λ t. IsReportedAs t (told entry.file_type))
  pub opened : (path : List ℕ) (a : Result (List ℕ) Error) → machine.open_gives r path a
      → Finds (λ bytes file. file ≡ bytes) (bytes_at table path) a
  pub read : (file bytes : List ℕ) (end : Result ℕ Error) → machine.read_gives file bytes end → ReadsWhole file bytes end
  pub canonicalize : (path : List ℕ) (a : Result (List ℕ) Error) → machine.canonicalize_gives r path a
      → Finds (λ row found. found ≡ end_of table path) (followed table path) a

stat_of_parts : (row : Row) (kind : FileType) (len device inode : ℕ) → kind ≡ file_type_of row.kind → len ≡ len_of row.kind
    → device ≡ row.identity.device → inode ≡ row.identity.inode → ◌≡◌ {A = Stat}
    (record {
      metadata = record { file_type = kind; len = len };
      identity = record { device = device; inode = inode };
    }) (stat_of row)
stat_of_parts row kind len device inode a b c d =
    ap {B = Stat} (λ x. record {
      metadata = record { file_type = x; len = len };
      identity = record { device = device; inode = inode };
    }) a
    ∙ ap {B = Stat} (λ x. record {
      metadata = record { file_type = file_type_of row.kind; len = x };
      identity = record { device = device; inode = inode };
    }) b
    ∙ ap {B = Stat} (λ x. record {
      metadata = record { file_type = file_type_of row.kind; len = len_of row.kind };
      identity = record { device = x; inode = inode };
    }) c
    ∙ ap {B = Stat} (λ x. record {
      metadata = record { file_type = file_type_of row.kind; len = len_of row.kind };
      identity = record { device = row.identity.device; inode = x };
    }) d

-- an entry is listed under its name with its kind
listed_parts : (entry : RowEntry) (name : List ℕ) (kind : FileType) → name ≡ entry.name → kind ≡ told entry.file_type
    → listed_of entry ≡ listed.Entry name kind
listed_parts entry name kind a b =
    ap (λ n. listed.Entry n (told entry.file_type)) (sym a) ∙ ap (λ k. listed.Entry name k) (sym b)

module _ {R D : Type 0} (machine : Ghosts R Stat RowEntry D (List ℕ)) (next : D → Option (Result RowEntry Error) → D → Type 0)
    (items : D → List (Result RowEntry Error)) (r : R) (table : TableMachine) (is : IsTable machine next items r table) where
  -- what is read off the answer about a row is what is said of the row
  read_stat : (row : Row) (m s : Stat) → m ≡ stat_of row → IsStatOf machine m s → s ≡ stat_of row
  read_stat row m s k h =
      stat_of_parts row s.metadata.file_type s.metadata.len s.identity.device s.identity.inode
      (one_kind h.file_type.0 s.metadata.file_type (told m.metadata.file_type) h.file_type.2 (is.type h.file_type.0 m h.file_type.1)
      ∙ ap (λ x. told x.metadata.file_type) k ∙ told_row row.kind)
      (is.len s.metadata.len m h.len ∙ ap (λ x. x.metadata.len) k)
      (is.device s.identity.device m h.device ∙ ap (λ x. x.identity.device) k)
      (is.inode s.identity.inode m h.inode ∙ ap (λ x. x.identity.inode) k)

  stat_found : (row : Row) (m : Stat) (answer : Result Stat Refusal) → m ≡ stat_of row → Reads machine (Ok m) answer
      → Answers (Ok (stat_of row)) answer
  stat_found row m (Ok s) k h = ap (λ x. Ok x) (sym (read_stat row m s k h))
  stat_found row m (Err refusal) k h = absurd h

  stat_refused : (refusal : Refusal) (answer : Result Stat Refusal) → Reads machine (Err refusal) answer → answer ≡ Err refusal
  stat_refused refusal (Ok s) h = absurd h
  stat_refused refusal (Err e) h = ap (λ x. Err x) h

  stat_heard : (path : List ℕ) (follow : Bool) (heard : Result Stat Refusal)
      → IsHeard path (metadata_gives machine r follow path) heard
      → Hears (λ row s. s ≡ stat_of row) (visible path (asked table path follow)) heard
  stat_heard path true heard h = hears (λ row s. s ≡ stat_of row) (machine.metadata_gives r path) path
      (asked table path true) heard (is.metadata path) h
  stat_heard path false heard h = hears (λ row s. s ≡ stat_of row) (machine.symlink_metadata_gives r path) path
      (asked table path false) heard (is.symlink_metadata path) h

  -- an entry is reported as it is listed
  reported_one : (entry : RowEntry) (item : Listed) → IsReported machine (Ok entry) item → listed_of entry ≡ item
  reported_one entry (listed.Entry name kind) (Ok t, gives, h) =
      listed_parts entry name kind (is.name entry name h.0) (one_kind t kind (told entry.file_type) h.1 (is.kind entry (Ok t) gives))
  reported_one entry (listed.Fault f) (Ok t, gives, h) = absurd h
  reported_one entry item (Err error, gives, h) = absurd (is.kind entry (Err error) gives)

  -- no entry is gone
  none_gone : (entry : RowEntry) → IsGone machine (Ok entry) → ⊥
  none_gone entry (error, gives, h) = is.kind entry (Err error) gives

  reported_all : (entries : List RowEntry) (listing : List Listed) → AreReported machine (map given entries) listing
      → map listed_of entries ≡ listing
  reported_all [] [] h = refl
  reported_all [] (item ∷ listing) h = absurd h
  reported_all (entry ∷ entries) [] h = absurd (none_gone entry h.0)
  reported_all (entry ∷ entries) (item ∷ listing) (inl h) =
      ap {B = List Listed} (λ i. i ∷ map listed_of entries) (reported_one entry item h.0)
      ∙ ap {B = List Listed} (λ l. item ∷ l) (reported_all entries listing h.1)
  reported_all (entry ∷ entries) (item ∷ listing) (inr h) = absurd (none_gone entry h.0)

  list_found : (entries : List RowEntry) (dir : D) (answer : Result (List Listed) Refusal) → items dir ≡ map given entries
      → Lists machine next (Ok dir) answer → Answers (Ok (map listed_of entries)) answer
  list_found entries dir (Ok listing) k (all, drains, reports) =
      ap (λ l. Ok l) (reported_all entries listing (subst (λ l. AreReported machine l listing) (is.ends dir all drains ∙ k) reports))
  list_found entries dir (Err refusal) k h = subst (λ x. Answers {A = List Listed} (Ok (map listed_of entries)) (Err x)) (sym h) tt

  list_refused : (refusal : Refusal) (answer : Result (List Listed) Refusal) → Lists machine next (Err refusal) answer
      → answer ≡ Err refusal
  list_refused refusal (Ok listing) h = absurd h
  list_refused refusal (Err e) h = ap (λ x. Err x) h

  read_found : (bytes file : List ℕ) (answer : Result Contents Refusal) → file ≡ bytes → IsReadOf machine file answer
      → Answers (Ok (contents_of bytes)) answer
  read_found bytes file answer k (inl e) = subst (λ x. Answers (Ok (contents_of bytes)) x) (sym e) tt
  read_found bytes file answer k (inr (read, Ok count, g, e)) =
      subst (λ x. Answers (Ok (contents_of bytes)) x) (sym e)
      (ap (λ b. Ok (contents_of b)) (sym (is.read file read (Ok count) g ∙ k)))
  read_found bytes file answer k (inr (read, Err error, g, e)) =
      subst (λ x. Answers (Ok (contents_of bytes)) x)
      (sym (e ∙ ap (λ e. cut_by read e) (ap (refusal_of (raw_os_error error)) (is.read file read (Err error) g)))) tt

  pub truthful : IsTruthful machine next r (disk_of table)
  truthful = record {
    stat = λ path follow answer m. answers (λ row s. s ≡ stat_of row) stat_of (visible path (asked table path follow)) m.0 answer
        (stat_heard path follow m.0 m.1)
        (λ row x e k. stat_found row x answer k (subst (λ h. Reads machine h answer) e m.2))
        (λ refusal e. stat_refused refusal answer (subst (λ h. Reads machine h answer) e m.2));
    list = λ path answer m. answers (λ entries dir. items dir ≡ map given entries) (map listed_of)
        (visible path (entries_at table path)) m.0 answer
        (hears (λ entries dir. items dir ≡ map given entries) (machine.read_dir_gives r path) path (entries_at table path) m.0
        (is.read_dir path) m.1)
        (λ entries dir e k. list_found entries dir answer k (subst (λ h. Lists machine next h answer) e m.2))
        (λ refusal e. list_refused refusal answer (subst (λ h. Lists machine next h answer) e m.2));
    read = λ path answer m. answers (λ bytes file. file ≡ bytes) contents_of (visible path (bytes_at table path)) m.0 answer
        (hears (λ bytes file. file ≡ bytes) (machine.open_gives r path) path (bytes_at table path) m.0 (is.opened path) m.1)
        (λ bytes file e k. read_found bytes file answer k (subst (λ h. Holds machine h answer) e m.2))
        (λ refusal e. subst (λ h. Holds machine h answer) e m.2);
    canonical = λ path answer m. answers (λ row found. found ≡ end_of table path) (λ row. end_of table path)
        (visible path (followed table path)) answer answer
        (hears (λ row found. found ≡ end_of table path) (machine.canonicalize_gives r path) path (followed table path) answer
        (is.canonicalize path) m)
        (λ row x e k. subst (λ a. Answers (Ok (end_of table path)) a) (sym e) (ap (λ p. Ok p) (sym k)))
        (λ refusal e. e);
  }
