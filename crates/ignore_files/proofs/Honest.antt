-- The machine's files are consistent with the tree on the disk from which the machine answers
-- truly.
use Rattle.std.proofs.Common.{◌≡◌, ℕ, Bool, true, is_ok, List, Option, Result, Ok, Err, refl, sym, ap, subst, Some}
use Rattle.std.specs.declared.io.Error.{Error}
use Rattle.ignore_base.specs.declared.fault.Fault.{Fault}
use Rattle.ignore_base.specs.declared.fault.Fault.TheVariants as fault
use Rattle.ignore_files.specs.Tree.{Answers}
use Rattle.ignore_files.specs.Memory.{and_then}
use Rattle.ignore_files.specs.Heard.{HasWhole}
use Rattle.ignore_files.specs.Machine.{Disk, IsTruthful, MayList, MayRead, AreReported}
use Rattle.ignore_files.specs.Whole.{AreWhole, is_found}
use Rattle.ignore_files.specs.Disk.{GivesStat, GivesIdentity, GivesOf, GivesAt, GivesContents, metadata_of, identity_of, contents_at}
use Rattle.ignore_files.specs.Disk.{files_on, machine_of, tree_on}
use Rattle.ignore_files.specs.Gives.{IsHonest}
use Rattle.ignore_files.specs.declared.disk.DiskFiles.{DiskFiles}
use Rattle.ignore_files.specs.declared.machine.Machine.{Ghosts}
use Rattle.ignore_files.specs.declared.stat.Stat.{Stat}
use Rattle.ignore_files.specs.declared.types.Refusal.{Refusal}
use Rattle.ignore_files.specs.declared.types.Refusal.TheVariants.{Memory}
use Rattle.ignore_files.specs.declared.types.Refusal.TheVariants.{Fault as Refused}
use Rattle.ignore_files.specs.declared.types.FileType.{FileType}
use Rattle.ignore_files.specs.declared.types.FileType.TheVariants.{File, Dir, Symlink, Other}
use Rattle.ignore_files.specs.declared.types.Metadata.{Metadata}
use Rattle.ignore_files.specs.declared.types.Identity.{Identity}
use Rattle.ignore_files.specs.declared.types.Contents.{Contents}

-- what follows from an answer is an answer of what follows
Answers-then : {A B : Type 0} (f : A → Result B Fault) (g : A → Result B Refusal) (one : Result A Fault)
    (heard : Result A Refusal) → ((a : A) → Answers (f a) (g a)) → Answers one heard
    → Answers (and_then f one) (and_then g heard)
Answers-then f g one (Ok a) each h = subst (λ x. Answers (and_then f x) (g a)) (sym h) (each a)
Answers-then f g one (Err (Refused fault)) each h = ap (and_then f) h
Answers-then f g one (Err Memory) each h = tt

-- what is given of a kind of file is what a tree has at it
Answers-kind : (kind : FileType) (one : Result Contents Fault) (May : Result Contents Refusal → Type 0)
    (answer : Result Contents Refusal) → ((a : Result Contents Refusal) → May a → Answers one a)
    → GivesOf kind May answer → Answers (contents_at kind one) answer
Answers-kind File one May answer each given = each answer given
Answers-kind Dir one May answer each given = each answer given
Answers-kind Symlink one May answer each given = subst (λ a. Answers {A = Contents} (Err fault.Other) a) (sym given) refl
Answers-kind Other one May answer each given = subst (λ a. Answers {A = Contents} (Err fault.Other) a) (sym given) refl

-- the same of what was heard of its path
Answers-contents : (at : Result Stat Fault) (one : Result Contents Fault) (heard : Result Stat Refusal)
    (May : Result Contents Refusal → Type 0) (answer : Result Contents Refusal)
    → ((a : Result Contents Refusal) → May a → Answers one a) → Answers at heard → GivesAt heard May answer
    → Answers (and_then (λ stat. contents_at stat.metadata.file_type one) at) answer
Answers-contents at one (Ok stat) May answer each h given = subst
    (λ x. Answers (and_then (λ s. contents_at s.metadata.file_type one) x) answer) (sym h)
    (Answers-kind stat.metadata.file_type one May answer each given)
Answers-contents at one (Err (Refused fault)) May answer each h given =
    subst (λ a. Answers (and_then (λ s. contents_at s.metadata.file_type one) at) a) (sym given)
    (ap (and_then (λ s. contents_at s.metadata.file_type one)) h)
Answers-contents at one (Err Memory) May answer each h given =
    subst (λ a. Answers (and_then (λ s. contents_at s.metadata.file_type one) at) a) (sym given) tt

consistent_stat : {R M E D F : Type 0} (machine : Ghosts R M E D F)
    (next : D → Option (Result E Error) → D → Type 0) (r : R) (disk : Disk) → IsTruthful machine next r disk
    → (path : List ℕ) (follow : Bool) (answer : Result Metadata Refusal) → GivesStat machine r path follow answer
    → Answers ((tree_on disk).stat path follow) answer
consistent_stat machine next r disk truth path follow answer given =
    subst (λ a. Answers ((tree_on disk).stat path follow) a) (sym given.2)
    (Answers-then (λ stat. Ok stat.metadata) metadata_of (disk.stat path follow) given.0 (λ s. refl)
    (truth.stat path follow given.0 given.1))

consistent_identity : {R M E D F : Type 0} (machine : Ghosts R M E D F)
    (next : D → Option (Result E Error) → D → Type 0) (r : R) (disk : Disk) → IsTruthful machine next r disk
    → (path : List ℕ) (follow : Bool) (answer : Result (Option Identity) Refusal)
    → GivesIdentity machine r path follow answer → Answers ((tree_on disk).identity path follow) answer
consistent_identity machine next r disk truth path follow answer given =
    subst (λ a. Answers ((tree_on disk).identity path follow) a) (sym given.2)
    (Answers-then (λ stat. Ok (Some stat.identity)) identity_of (disk.stat path follow) given.0 (λ s. refl)
    (truth.stat path follow given.0 given.1))

consistent_contents : {R M E D F : Type 0} (machine : Ghosts R M E D F)
    (next : D → Option (Result E Error) → D → Type 0) (r : R) (disk : Disk) → IsTruthful machine next r disk
    → (path : List ℕ) (answer : Result Contents Refusal) → GivesContents machine r path answer
    → Answers ((tree_on disk).contents path) answer
consistent_contents machine next r disk truth path answer given =
    Answers-contents (disk.stat path true) (disk.read path) given.0 (MayRead machine r path) answer
    (λ a m. truth.read path a m) (truth.stat path true given.0 given.1) given.2

-- the files of a machine that answers truly are consistent with the tree on its disk
pub honest_on : {R M E D F : Type 0} (machine : Ghosts R M E D F) (next : D → Option (Result E Error) → D → Type 0)
    (files : DiskFiles R) (disk : Disk) → IsTruthful machine next (machine_of files) disk
    → IsHonest (files_on machine next) files (tree_on disk)
honest_on machine next files disk truth = record {
  stat = consistent_stat machine next (machine_of files) disk truth;
  list = truth.list;
  contents = consistent_contents machine next (machine_of files) disk truth;
  canonical = truth.canonical;
  identity = consistent_identity machine next (machine_of files) disk truth;
}

pub honest_over : {R M E D F : Type 0} (machine : Ghosts R M E D F) (next : D → Option (Result E Error) → D → Type 0)
    (r : R) (disk : Disk) → IsTruthful machine next r disk → (files : DiskFiles R) → machine_of files ≡ r
    → IsHonest (files_on machine next) files (tree_on disk)
honest_over machine next r disk truth files over =
    honest_on machine next files disk (subst (λ m. IsTruthful machine next m disk) (sym over) truth)

-- where nothing may be heard but faults, nothing is found
pub whole_disk : {R M E D F : Type 0} (machine : Ghosts R M E D F) (next : D → Option (Result E Error) → D → Type 0) (r : R)
    → HasWhole (machine.metadata_gives r) (machine.read_dir_gives r) next (AreReported machine)
    → AreWhole (GivesStat machine r) (MayList machine next r)
whole_disk {M = M} machine next r whole tree stat list =
    whole.whole (is_found tree) tree.list
    (λ path fault heard. ap is_ok (stat path true (Err (Refused fault)) (Err (Refused fault), (Err (Refused fault), heard, refl), refl))) list
