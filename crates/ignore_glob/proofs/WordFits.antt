-- A glob without braces and with at most 62 positions fits a word.
use Rattle.std.proofs.Common.{◌≡◌, ◌≤◌, ◌+◌, ◌++◌, ℕ, suc, true, false, List, length, arith, refl, ap, subst, ◌∙◌, Some, None, cond, eq-eqb}
use Rattle.std.proofs.Common.{le-leb}
use Rattle.std.specs.Prelude.{◌&&◌, nat_le, nat_eq, Option}
use Rattle.std.proofs.lemmas.Bool.{and_from}
use Rattle.ignore_glob.specs.Glob.{Token, literal, any, star, start, middle, end, class, alternates, Tokens, done, then}
use Rattle.ignore_glob.specs.Nodes.{Node, token_width, width, entry}
use Rattle.ignore_glob.specs.NodeLists.{token_nodes, tokens_nodes, glob_nodes}
use Rattle.ignore_glob.specs.Positions.{positions}
use Rattle.ignore_glob.specs.Words.{has_braces, is_line, masks, word_of}
use Rattle.ignore_glob.specs.declared.glob.word.Masks.{Masks}
use Rattle.ignore_glob.proofs.NodeListLemmas.{glob_nodes-length}
use Rattle.ignore_glob.proofs.Numbering.{positions_width}

-- tokens that stand from b up to e begin at b, or are none
entry_here : (ts : Tokens) (b e : ℕ) → e ≡ b + width ts → entry ts b e ≡ b
entry_here done b e h = omega (arith, h)
entry_here (then t ts) b e h = refl

one : (b next : ℕ) (rest : List Node) → next ≡ b + 1 → is_line rest (b + 1) ≡ true → (nat_eq next (b + 1) && is_line rest (suc b)) ≡ true
one b next rest h l =
    let e : b + 1 ≡ suc b = omega arith in
    and_from _ _ (eq-eqb next (b + 1) h) (subst (λ (k : ℕ). is_line rest k ≡ true) e l)

two : (b next : ℕ) (rest : List Node) → next ≡ b + 2 → is_line rest (b + 2) ≡ true
    → (nat_eq next (b + 2) && (nat_eq next (suc b + 1) && is_line rest (suc (suc b)))) ≡ true
two b next rest h l =
    let e : b + 2 ≡ suc (suc b) = omega arith in
    and_from _ _ (eq-eqb next (b + 2) h)
    (and_from _ _ (eq-eqb next (suc b + 1) (omega (arith, h))) (subst (λ (k : ℕ). is_line rest k ≡ true) e l))

token_line : (t : Token) (ts : Tokens) (b next : ℕ) (rest : List Node) → has_braces (then t ts) ≡ false → next ≡ b + token_width t
    → is_line rest (b + token_width t) ≡ true → is_line (token_nodes t b next ++ rest) b ≡ true
token_line (literal c) ts b next rest plain h l = one b next rest h l
token_line any ts b next rest plain h l = one b next rest h l
token_line star ts b next rest plain h l = one b next rest h l
token_line start ts b next rest plain h l = two b next rest h l
token_line middle ts b next rest plain h l = two b next rest h l
token_line end ts b next rest plain h l = two b next rest h l
token_line (class negated ranges) ts b next rest plain h l = one b next rest h l
token_line (alternates bs) ts b next rest plain h l = absurd (cc plain)

plain_rest : (t : Token) (ts : Tokens) → has_braces (then t ts) ≡ false → has_braces ts ≡ false
plain_rest (alternates bs) ts plain = absurd (cc plain)
plain_rest (literal c) ts plain = plain
plain_rest any ts plain = plain
plain_rest star ts plain = plain
plain_rest start ts plain = plain
plain_rest middle ts plain = plain
plain_rest end ts plain = plain
plain_rest (class negated ranges) ts plain = plain

tokens_line : (ts : Tokens) (b e : ℕ) → has_braces ts ≡ false → e ≡ b + width ts → is_line (tokens_nodes ts b e) b ≡ true
tokens_line done b e plain h = refl
tokens_line (then t ts) b e plain h =
    let w = token_width t in
    let next = entry_here ts (b + w) e (omega (arith, h)) in
    token_line t ts b (entry ts (b + w) e) (tokens_nodes ts (b + w) e) plain next
    (tokens_line ts (b + w) e (plain_rest t ts plain) (omega (arith, h)))

glob_line : (ts : Tokens) → has_braces ts ≡ false → is_line (glob_nodes ts) 0 ≡ true
glob_line done plain = refl
glob_line (then (literal c) ts) plain = tokens_line (then (literal c) ts) 0 (width (then (literal c) ts)) plain (omega arith)
glob_line (then any ts) plain = tokens_line (then any ts) 0 (width (then any ts)) plain (omega arith)
glob_line (then star ts) plain = tokens_line (then star ts) 0 (width (then star ts)) plain (omega arith)
glob_line (then start done) plain = refl
glob_line (then start (then t ts)) plain = tokens_line (then start (then t ts)) 0 (width (then start (then t ts))) plain (omega arith)
glob_line (then middle ts) plain = tokens_line (then middle ts) 0 (width (then middle ts)) plain (omega arith)
glob_line (then end ts) plain = tokens_line (then end ts) 0 (width (then end ts)) plain (omega arith)
glob_line (then (class negated ranges) ts) plain =
    tokens_line (then (class negated ranges) ts) 0 (width (then (class negated ranges) ts)) plain (omega arith)
glob_line (then (alternates bs) ts) plain = absurd (cc plain)

pub plain_fits : (ts : Tokens) → has_braces ts ≡ false → positions ts ≤ 62 → word_of (glob_nodes ts) ≡ Some (masks (glob_nodes ts))
plain_fits ts plain short =
    let long = glob_nodes-length ts in
    let known = positions_width ts in
    let small : length (glob_nodes ts) ≤ 62 = omega (arith, short, long, known) in
    let both : (nat_le (length (glob_nodes ts)) 62 && is_line (glob_nodes ts) 0) ≡ true =
    and_from _ _ (le-leb _ _ small) (glob_line ts plain) in
    ap (λ b. cond b (Some (masks (glob_nodes ts))) None) both

-- so it is never without its masks
pub some_masks : (nodes : List Node) (ts : Tokens) (m : Option Masks) → nodes ≡ glob_nodes ts → m ≡ word_of nodes → has_braces ts ≡ false
    → positions ts ≤ 62 → m ≡ None → ⊥
some_masks nodes ts m compiled masked plain short none =
    let is : m ≡ Some (masks (glob_nodes ts)) = masked ∙ (ap word_of compiled ∙ plain_fits ts plain short) in
    absurd (cc (is, none))
