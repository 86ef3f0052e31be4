-- The numbers of directories among nodes.
use Rattle.std.proofs.Common.{◌≡◌, ℕ, zero, suc, ◌+◌, ◌<◌, Bool, true, false, cond, List, [], ◌∷◌, refl, ap, ◌∙◌, arith, count_by}
use Rattle.std.proofs.lemmas.List.Sums.{sum_by-cons}
use Rattle.ignore_files.specs.Memory.{is_directory, is_dir_at}
use Rattle.ignore_files.specs.declared.memory.node.Node.{Node}

-- how many directories they are with one more node
abbrev pub counted : Bool → ℕ → ℕ
counted true n = suc n
counted false n = n

-- how many directories stand before a place
abbrev pub rank : List Node → ℕ → ℕ
rank [] i = 0
rank (n ∷ ns) zero = 0
rank (n ∷ ns) (suc i) = counted (is_directory n.kind) (rank ns i)

-- how many directories there are
abbrev pub dirs : List Node → ℕ
dirs [] = 0
dirs (n ∷ ns) = counted (is_directory n.kind) (dirs ns)

counted_some : (b : Bool) (n : ℕ) → b ≡ true → 0 < counted b n
counted_some true n h = omega arith
counted_some false n h = absurd (cc (h))

counted_less : (b : Bool) (m n : ℕ) → m < n → counted b m < counted b n
counted_less true m n h = omega arith
counted_less false m n h = h

counted_one : (b : Bool) (m n : ℕ) → counted b m ≡ counted b n → m ≡ n
counted_one true m n h = omega arith
counted_one false m n h = h

-- a directory's number is less than how many there are
pub rank_below : (ns : List Node) (i : ℕ) → is_dir_at ns i ≡ true → rank ns i < dirs ns
rank_below [] i h = absurd (cc (h))
rank_below (n ∷ ns) zero h = counted_some (is_directory n.kind) (dirs ns) h
rank_below (n ∷ ns) (suc i) h = counted_less (is_directory n.kind) (rank ns i) (dirs ns) (rank_below ns i h)

-- a later place has a greater number
pub rank_less : (ns : List Node) (i j : ℕ) → i < j → is_dir_at ns i ≡ true → rank ns i < rank ns j
rank_less [] i j p h = absurd (cc (h))
rank_less (n ∷ ns) zero zero p h = omega (arith, p)
rank_less (n ∷ ns) zero (suc j) p h = counted_some (is_directory n.kind) (rank ns j) h
rank_less (n ∷ ns) (suc i) zero p h = omega (arith, p)
rank_less (n ∷ ns) (suc i) (suc j) p h = counted_less (is_directory n.kind) (rank ns i) (rank ns j) (rank_less ns i j (omega (arith, p)) h)

-- directories with one number are one
pub rank_one : (ns : List Node) (i j : ℕ) → is_dir_at ns i ≡ true → is_dir_at ns j ≡ true → rank ns j ≡ rank ns i → j ≡ i
rank_one [] i j h k e = absurd (cc (h))
rank_one (n ∷ ns) zero zero h k e = refl
rank_one (n ∷ ns) zero (suc j) h k e = let some = counted_some (is_directory n.kind) (rank ns j) h in omega (arith, some, e)
rank_one (n ∷ ns) (suc i) zero h k e = let some = counted_some (is_directory n.kind) (rank ns i) k in omega (arith, some, e)
rank_one (n ∷ ns) (suc i) (suc j) h k e =
    ap suc (rank_one ns i j h k (counted_one (is_directory n.kind) (rank ns j) (rank ns i) e))

count_one : (b : Bool) (n : ℕ) → cond b 1 0 + n ≡ counted b n
count_one true n = omega arith
count_one false n = omega arith

pub count_dirs : (ns : List Node) → count_by (λ n. is_directory n.kind) ns ≡ dirs ns
count_dirs [] = refl
count_dirs (n ∷ ns) =
    sum_by-cons (λ m. cond (is_directory m.kind) 1 0) n ns
    ∙ ap (λ k. cond (is_directory n.kind) 1 0 + k) (count_dirs ns) ∙ count_one (is_directory n.kind) (dirs ns)
