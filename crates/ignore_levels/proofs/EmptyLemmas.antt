-- A directory without rules and without a mark changes neither a verdict nor its reason.
use Rattle.std.proofs.Common.{◌≡◌, ℕ, Bool, true, false, cond, ◌||◌, List, [], ◌∷◌, drop, filter, refl, sym, ap, ◌∙◌}
use Rattle.ignore_base.specs.Match.{match_or}
use Rattle.ignore_dir.specs.declared.dir.Dir.{Dir}
use Rattle.ignore_dir.specs.declared.dir.Rank.{Rank}
use Rattle.ignore_dir.specs.declared.dir.Rank.TheVariants.{Custom, Ignore, Gitignore, Exclude}
use Rattle.ignore_dir.specs.declared.outside.Outside.{Outside}
use Rattle.ignore_dir.specs.declared.settings.Settings.{Settings}
use Rattle.ignore_dir.specs.Lists.{Asked, Placed, asked_in}
use Rattle.ignore_dir.specs.Ranks.{cut, has_mark}
use Rattle.ignore_dir.specs.Verdict.{placed_verdict, verdict_of}
use Rattle.ignore_levels.specs.Levels.{counting, counts, has_rules}
use Rattle.ignore_levels.specs.Reasons.{placed_why}
use Rattle.ignore_levels.specs.Sites.{dir_sited, nearest_sited, ranks_sited}
use Rattle.ignore_levels.proofs.FloorLemmas.{unruled}
use Rattle.ignore_levels.proofs.ReasonLemmas.{why-verdict}

parts : (a b : Bool) → a || b ≡ false → (a ≡ false) × (b ≡ false)
parts true b h = absurd (cc (h))
parts false b h = (refl, h)

void_is : (d : Dir) → counts d ≡ false → (has_rules d ≡ false) × (d.mark ≡ false)
void_is d h = parts (has_rules d) d.mark h

abbrev kept : List Asked → List Asked
kept chain = filter (λ (l : Asked). counts l.0) chain

nearest-step : (rank : Rank) (is_dir : Bool) (l : Asked) (chain : List Asked) → nearest_sited rank (kept chain) is_dir ≡ nearest_sited rank chain is_dir
    → (b : Bool) → counts l.0 ≡ b → nearest_sited rank (cond b (l ∷ kept chain) (kept chain)) is_dir ≡ nearest_sited rank (l ∷ chain) is_dir
nearest-step rank is_dir l chain same true h = ap (λ m. match_or (dir_sited rank is_dir l) m) same
nearest-step rank is_dir l chain same false h =
    same ∙ sym (ap (λ m. match_or m (nearest_sited rank chain is_dir)) (unruled rank is_dir l (void_is l.0 h).0))

nearest-kept : (rank : Rank) (chain : List Asked) (is_dir : Bool) → nearest_sited rank (kept chain) is_dir ≡ nearest_sited rank chain is_dir
nearest-kept rank [] is_dir = refl
nearest-kept rank (l ∷ chain) is_dir = nearest-step rank is_dir l chain (nearest-kept rank chain is_dir) (counts l.0) refl

mark-step : (l : Asked) (chain : List Asked) → has_mark (kept chain) ≡ has_mark chain → (b : Bool) → counts l.0 ≡ b
    → has_mark (cond b (l ∷ kept chain) (kept chain)) ≡ l.0.mark || has_mark chain
mark-step l chain same true h = ap (λ (b : Bool). l.0.mark || b) same
mark-step l chain same false h = same ∙ sym (ap (λ (b : Bool). b || has_mark chain) (void_is l.0 h).1)

mark-kept : (chain : List Asked) → has_mark (kept chain) ≡ has_mark chain
mark-kept [] = refl
mark-kept (l ∷ chain) = mark-step l chain (mark-kept chain) (counts l.0) refl

-- what the ranks of git reach

cut-more : (rank : Rank) (is_dir : Bool) (chain : List Asked) → nearest_sited rank (cut (kept chain)) is_dir ≡ nearest_sited rank (cut chain) is_dir → (b : Bool)
    → nearest_sited rank (cond b [] (cut (kept chain))) is_dir ≡ nearest_sited rank (cond b [] (cut chain)) is_dir
cut-more rank is_dir chain same true = refl
cut-more rank is_dir chain same false = same

cut-step : (rank : Rank) (is_dir : Bool) (l : Asked) (chain : List Asked) → nearest_sited rank (cut (kept chain)) is_dir ≡ nearest_sited rank (cut chain) is_dir
    → (b : Bool) → counts l.0 ≡ b → nearest_sited rank (cut (cond b (l ∷ kept chain) (kept chain))) is_dir ≡ nearest_sited rank (cut (l ∷ chain)) is_dir
cut-step rank is_dir l chain same true h = ap (λ m. match_or (dir_sited rank is_dir l) m) (cut-more rank is_dir chain same l.0.mark)
cut-step rank is_dir l chain same false h =
    same
    ∙ (sym (ap (λ (b : Bool). nearest_sited rank (cond b [] (cut chain)) is_dir) (void_is l.0 h).1)
    ∙ sym (ap (λ m. match_or m (nearest_sited rank (cond l.0.mark [] (cut chain)) is_dir)) (unruled rank is_dir l (void_is l.0 h).0)))

cut-nearest : (rank : Rank) (chain : List Asked) (is_dir : Bool) → nearest_sited rank (cut (kept chain)) is_dir ≡ nearest_sited rank (cut chain) is_dir
cut-nearest rank [] is_dir = refl
cut-nearest rank (l ∷ chain) is_dir = cut-step rank is_dir l chain (cut-nearest rank chain is_dir) (counts l.0) refl

ranks-kept : (s : Settings) (o : Outside) (chain : List Asked) (path : List ℕ) (is_dir : Bool)
    → ranks_sited s o (kept chain) path is_dir ≡ ranks_sited s o chain path is_dir
ranks-kept s o chain path is_dir =
    rw (
      nearest-kept Custom chain is_dir,
      nearest-kept Ignore chain is_dir,
      mark-kept chain,
      cut-nearest Gitignore chain is_dir,
      cut-nearest Exclude chain is_dir,
    )
    refl

asked-step : (text : List ℕ) (p : Placed) (chain : List Placed) → asked_in text (counting chain) ≡ kept (asked_in text chain) → (b : Bool)
    → asked_in text (cond b (p ∷ counting chain) (counting chain))
    ≡ cond b ((p.0, drop p.1 text) ∷ kept (asked_in text chain)) (kept (asked_in text chain))
asked-step text p chain same true = ap (λ (l : List Asked). (p.0, drop p.1 text) ∷ l) same
asked-step text p chain same false = same

asked-kept : (text : List ℕ) (chain : List Placed) → asked_in text (counting chain) ≡ kept (asked_in text chain)
asked-kept text [] = refl
asked-kept text (p ∷ chain) = asked-step text p chain (asked-kept text chain) (counts p.0)

pub why-kept : (s : Settings) (o : Outside) (chain : List Placed) (text path : List ℕ) (is_dir : Bool)
    → placed_why s o (counting chain) text path is_dir ≡ placed_why s o chain text path is_dir
unfolding placed_why
why-kept s o chain text path is_dir =
    rw (asked-kept text chain, ranks-kept s o (asked_in text chain) path is_dir) refl

pub verdict-kept : (s : Settings) (o : Outside) (chain : List Placed) (text path : List ℕ) (is_dir : Bool)
    → placed_verdict s o (counting chain) text path is_dir ≡ placed_verdict s o chain text path is_dir
verdict-kept s o chain text path is_dir =
    sym (why-verdict s o (counting chain) text path is_dir)
    ∙ (ap verdict_of (why-kept s o chain text path is_dir) ∙ why-verdict s o chain text path is_dir)
