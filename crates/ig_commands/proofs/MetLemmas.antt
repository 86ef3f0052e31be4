-- What a survey has met, by what each `next` of it gives.
use Rattle.std.proofs.Common.{◌≡◌, ◌≢◌, ◌⊎◌, ◌∙◌, ◌+◌, ◌≤◌, ℕ, suc, All, Bool, List, [], ◌∷◌, ◌++◌, None, Some, Result, Ok, Err, false, true, length, map, if◌then◌else◌, inl, inr, refl, sym, ap, subst, arith, length-append}
use Rattle.std.proofs.lemmas.List.{append-nil, length-map, map-append}
use Rattle.std.proofs.lemmas.List.Elements.{All-head, All-tail}
use Rattle.std.specs.Iterator.{YieldsThen}
use Rattle.std.specs.List.{flat_map}
use Rattle.ignore_base.specs.Problem.{io, memory}
use Rattle.ignore_base.specs.declared.error.Error.{Error}
use Rattle.ignore_base.specs.declared.fault.Fault.TheVariants.{StepLimit}
use Rattle.ignore_dir.specs.Load.{AreLoads, Loaded}
use Rattle.ignore_dir.specs.Scene.{QueryScene}
use Rattle.ignore_files.specs.Gives.{IsHonest}
use Rattle.ignore_files.specs.Tree.{Tree}
use Rattle.ignore_files.specs.declared.files.Files.{Ghosts as Files}
use Rattle.ignore_query.specs.Agrees.{Agrees}
use Rattle.ignore_query.specs.Forget.{ListsKept, kept_dirs}
use Rattle.ignore_query.specs.Fresh.{KeepsNothing}
use Rattle.ignore_query.specs.KeptRules.{kept_rules, rules_of}
use Rattle.ignore_query.specs.Reached.{InEachScene, scene_of}
use Rattle.ignore_query.specs.declared.incremental.IncrementalIgnore.{IncrementalIgnore}
use Rattle.ignore_query.specs.declared.kept.Cache.{Cache}
use Rattle.ignore_query.proofs.FreshLemmas.{nothing_agrees}
use Rattle.ignore_survey.specs.Nexts.{NextGives, Remaining, Starts}
use Rattle.ignore_survey.specs.Stands.{Stands}
use Rattle.ignore_survey.specs.Suits.{LeavesNext, Reports, Suits}
use Rattle.ignore_survey.specs.Survey.{IsSurvey, Item}
use Rattle.ignore_survey.specs.Surveyed.{item_of}
use Rattle.ignore_survey.specs.declared.survey.Survey.{Survey}
use Rattle.ignore_survey.specs.declared.surveyed.Surveyed.{Surveyed}
use Rattle.ignore_survey.proofs.OneSurvey.{one_survey}
use Rattle.ig_commands.specs.Found.{Finds}
use Rattle.ig_commands.specs.Surveys.{AreAll, AreMet, AreReported, IsBegun, IsCut, IsReported, IsWhole, Seen, most_items, seen_of}

-- the item and the problem of each
pub items_seen : (xs : List (Result Surveyed Error)) → map (λ (s : Seen). s.0) (map seen_of xs) ≡ map item_of xs
items_seen [] = refl
items_seen (Ok s ∷ xs) = ap (λ (is : List Item). item_of (Ok s) ∷ is) (items_seen xs)
items_seen (Err e ∷ xs) = ap (λ (is : List Item). item_of (Err e) ∷ is) (items_seen xs)

-- what is reported and kept at an item after which the survey goes on
reported_one : (g : QueryScene) (x : Result Surveyed Error) (old new : Cache) (over : Bool) → Reports g old x
    → LeavesNext g old (Some x) over new → over ≡ false → IsReported g old (seen_of x) new
reported_one g (Ok s) old new over reports leaves on = (leaves, reports)
reported_one g (Err e) old new over reports (inl ended) on = absurd (let e = sym on ∙ ended in cc (e))
reported_one g (Err e) old new over reports (inr same) on = (refl, same)

-- a list that isn't longer than nothing has nothing
none_fit : (items : List Item) (n : ℕ) → n ≡ 0 → length items ≤ n → items ≡ []
none_fit [] n zero fits = refl
none_fit (i ∷ items) n zero fits = absurd (omega (arith, zero, fits))

-- a survey that was ended yields nothing more
after_end : {F : Type 0} (files : Files F) (a u : Survey F) (xs : List (Result Surveyed Error))
    → YieldsThen (λ s answer t. NextGives files s answer t) a xs None u → a.ended ≡ true → xs ≡ []
after_end files a u [] y over = refl
after_end files a u (x ∷ xs) (t, (j, s, y), e) over = absurd (let none = s.over over in cc (none))

-- what was met when it answered none: all items that remained, and what is kept then
pub record RanWhole {F : Type 0} (files : Files F) (g : QueryScene) (a u : Survey F) (xs : List (Result Surveyed Error)) : Type 0 where
  pub stands : Stands g a.stack (map item_of xs)
  pub fits : length xs ≤ a.left
  pub reported : AreReported g a.matcher.cache (map seen_of xs) u.matcher.cache
  pub suits : Suits files u.files.now u.matcher g

-- or as many as might follow, and then the limit
pub record RanCut {F : Type 0} (files : Files F) (g : QueryScene) (a : Survey F) (xs : List (Result Surveyed Error)) : Type 0 where
  pub front : List (Result Surveyed Error)
  pub last : Result Surveyed Error
  pub are : xs ≡ front ++ last ∷ []
  pub limit : item_of last ≡ Err (io StepLimit)
  pub full : length front ≡ a.left
  pub more : (items : List Item) → Remaining files g a items → (rest : List Item) × (items ≡ map item_of front ++ rest) × (rest ≢ [])

-- one item, after which the survey goes on, is the first that remained
first_of : {F : Type 0} (files : Files F) (g : QueryScene) (a j : Survey F) (x : Result Surveyed Error) (items : List Item)
    → NextGives files a (Some x) j → j.ended ≡ false → Remaining files g a items
    → (others : List Item) × (items ≡ item_of x ∷ others) × Remaining files g j others
first_of files g a j x items s goes r =
    elim (s.given g items r) [
      | inl h ↦ (h.others, h.are, h.rest)
      | inr (ended, over) ↦ absurd (let e = sym goes ∙ over in cc (e))
    ]

-- one that ends it is the limit, where some remained
some_more : {F : Type 0} (files : Files F) (g : QueryScene) (a j : Survey F) (x : Result Surveyed Error) (items : List Item)
    → NextGives files a (Some x) j → j.ended ≡ true → item_of x ≢ Err memory → Remaining files g a items → items ≢ []
some_more files g a j x items s over enough r =
    elim (s.given g items r) [
      | inl h ↦ absurd (let e = sym h.rest.goes_on ∙ over in cc (e))
      | inr (inl none, ended) ↦ absurd (enough none)
      | inr (inr (limit, (zero, some)), ended) ↦ some
    ]

pub ran : {F : Type 0} (files : Files F) (g : QueryScene) (a u : Survey F) (xs : List (Result Surveyed Error))
    → YieldsThen (λ s answer t. NextGives files s answer t) a xs None u → Suits files a.files.now a.matcher g → a.ended ≡ false
    → All (λ x. item_of x ≢ Err memory) xs → RanWhole files g a u xs ⊎ RanCut files g a xs
ran files g a u [] (t, same, step) suits on enough =
    let s = subst (λ (t : Survey _). NextGives files t None u) (sym same) step in
    inl (record { stands = s.shows g suits on; fits = omega arith; reported = s.leaves g suits; suits = s.suits g suits })
ran files g a u (x ∷ xs) (t, (j, s, y), e) suits on enough =
    elim (s.shows g suits on) [
      | inl (end, over) ↦
          let some = All-head (λ x. item_of x ≢ Err memory) x xs enough in
          let none = s.counted ∙ ap (λ (b : Bool). if b then j.left else suc j.left) over in
          elim (s.last on over) [
            | inl lacks ↦ absurd (some lacks)
            | inr (limit, zero) ↦ inr (record {
              front = [];
              last = x;
              are = ap (λ (ys : List (Result Surveyed Error)). x ∷ ys) (after_end files j u xs (t, y, e) over);
              limit = limit;
              full = sym (none ∙ zero);
              more = λ items r. (items, refl, some_more files g a j x items s over some r);
            })
          ]
      | inr (goes, before) ↦
          let one = s.counted ∙ ap (λ (b : Bool). if b then j.left else suc j.left) goes in
          elim (ran files g j u xs (t, y, e) (s.suits g suits) goes (All-tail (λ x. item_of x ≢ Err memory) x xs enough)) [
            | inl w ↦
                let fits = w.fits in
                inl (record {
                  stands = before (map item_of xs) w.stands;
                  fits = omega (arith, fits, one);
                  reported = (
                    j.matcher.cache,
                    reported_one g x a.matcher.cache j.matcher.cache j.ended (s.reports g suits) (s.leaves g suits) goes,
                    w.reported,
                  );
                  suits = w.suits;
                })
            | inr k ↦
                inr (record {
                  front = x ∷ k.front;
                  last = k.last;
                  are = ap (λ (ys : List (Result Surveyed Error)). x ∷ ys) k.are;
                  limit = k.limit;
                  full = ap suc k.full ∙ sym one;
                  more = λ items r.
                      let h = first_of files g a j x items s goes r in
                      let m = k.more h.0 h.2 in
                      (m.0, h.1 ∙ ap (λ (is : List Item). item_of x ∷ is) m.1, m.2);
                })
          ]
    ]

-- what was met before one more item: the first items; and what is kept then
pub first_met : {F : Type 0} (files : Files F) (g : QueryScene) (a v : Survey F) (xs : List (Result Surveyed Error))
    (x : Result Surveyed Error) (items : List Item) → YieldsThen (λ s answer t. NextGives files s answer t) a xs (Some x) v
    → Remaining files g a items → length items ≤ a.left → All (λ x. item_of x ≢ Err memory) xs
    → (rest : List Item) × (new : Cache) × (items ≡ map item_of xs ++ rest) × AreReported g a.matcher.cache (map seen_of xs) new
first_met files g a v [] x items y r fits enough = (items, a.matcher.cache, refl, refl)
first_met files g a v (w ∷ xs) x items (t, (j, s, y), e) r fits enough =
    elim (s.given g items r) [
      | inl h ↦
          let fewer : length h.others ≤ j.left = omega (arith, fits, h.left, ap length h.are) in
          let rest = first_met files g j v xs x h.others (t, y, e) h.rest fewer (All-tail (λ x. item_of x ≢ Err memory) w xs enough) in (
            rest.0,
            rest.1,
            h.are ∙ ap (λ (is : List Item). item_of w ∷ is) rest.2,
            (
              j.matcher.cache,
              reported_one g w a.matcher.cache j.matcher.cache j.ended (s.reports g r.suits) (s.leaves g r.suits) h.rest.goes_on,
              rest.3,
            ),
          )
      | inr (inl none, over) ↦ absurd (All-head (λ x. item_of x ≢ Err memory) w xs enough none)
      | inr (inr (limit, (zero, some)), over) ↦ absurd (some (none_fit items a.left zero fits))
    ]

-- the limit, as it is seen
seen_limit : (x : Result Surveyed Error) → item_of x ≡ Err (io StepLimit) → let limit : Seen = (Err (io StepLimit), None) in seen_of x ≡ limit
seen_limit (Ok s) is = absurd (cc (is))
seen_limit (Err e) is = let alone : Item → Seen = λ i. (i, None) in ap alone is

-- what a new survey of a matcher that keeps nothing has met, in each scene of the matcher
module _ {F : Type 0} (files : Files F) (f : F) (m : IncrementalIgnore) (s : Survey F)
    (whole : (g : QueryScene) (items : List Item) → Suits files f m g → IsSurvey g items → Remaining files g s items)
    (starts : (g : QueryScene) → Suits files f m g → Starts files g s)
    (kept : (g : QueryScene) → Suits files f m g → s.matcher.cache ≡ m.cache) (limit : s.left ≡ most_items) (empty : KeepsNothing m.cache) where
  suits_fresh : (tree : Tree) (loads : List ℕ → Loaded) → IsHonest files f tree → AreLoads tree m.asked.settings loads
      → Suits files f m (scene_of m.asked tree loads)
  suits_fresh tree loads honest are =
      record { honest = honest; loads = are; scene = refl; agrees = nothing_agrees (scene_of m.asked tree loads) m.cache empty }

  met_from : (g : QueryScene) (xs : List (Result Surveyed Error)) (new : Cache) → Suits files f m g
      → AreReported g s.matcher.cache (map seen_of xs) new → AreMet g (map seen_of xs) new
  met_from g xs new suits reported =
      record { old = m.cache; fresh = empty; reported = subst (λ (c : Cache). AreReported g c (map seen_of xs) new) (kept g suits) reported }

  all_from : (g : QueryScene) (u : Survey F) (xs : List (Result Surveyed Error)) → Suits files f m g → RanWhole files g s u xs
      → AreAll g (map seen_of xs) u.matcher.cache
  all_from g u xs suits w =
      let fits = w.fits in
      let same = length-map xs seen_of in
      record {
        list = subst (IsSurvey g) (sym (items_seen xs)) ((starts g suits).whole (map item_of xs) w.stands);
        fits = omega (arith, same, fits, limit);
        met = met_from g xs u.matcher.cache suits w.reported;
      }

  cut_from : (g : QueryScene) (xs : List (Result Surveyed Error)) → Suits files f m g → RanCut files g s xs → IsCut g (map seen_of xs)
  cut_from g xs suits k = (
    map seen_of k.front,
    ap (map seen_of) k.are
        ∙ (map-append seen_of k.front (k.last ∷ []) ∙ ap (λ (x : Seen). map seen_of k.front ++ x ∷ []) (seen_limit k.last k.limit)),
    length-map k.front seen_of ∙ (k.full ∙ limit),
    λ items is.
        let r = k.more items (whole g items suits is) in
        (r.0, r.1 ∙ ap (λ (is : List Item). is ++ r.0) (sym (items_seen k.front)), r.2),
  )

  pub survey_whole : (u : Survey F) (xs : List (Result Surveyed Error)) → YieldsThen (λ s answer t. NextGives files s answer t) s xs None u
      → All (λ x. item_of x ≢ Err memory) xs → InEachScene files f m.asked (λ g. IsWhole g (map seen_of xs))
  survey_whole u xs y enough = λ tree loads honest are.
      let g = scene_of m.asked tree loads in
      let suits = suits_fresh tree loads honest are in
      elim (ran files g s u xs y (starts g suits).suits (starts g suits).goes_on enough) [
        | inl w ↦ inl (u.matcher.cache, all_from g u xs suits w)
        | inr k ↦ inr (cut_from g xs suits k)
      ]

  pub survey_begun : (v : Survey F) (xs : List (Result Surveyed Error)) (x : Result Surveyed Error)
      → YieldsThen (λ s answer t. NextGives files s answer t) s xs (Some x) v → All (λ x. item_of x ≢ Err memory) xs
      → InEachScene files f m.asked (λ g. IsBegun g (map seen_of xs))
  survey_begun v xs x y enough = λ tree loads honest are items is fits.
      let g = scene_of m.asked tree loads in
      let suits = suits_fresh tree loads honest are in
      let met = first_met files g s v xs x items y (whole g items suits is) (subst (λ (n : ℕ). length items ≤ n) (sym limit) fits) enough in
      (met.0, met.2 ∙ ap (λ (is : List Item). is ++ met.0) (sym (items_seen xs)), met.1, met_from g xs met.1 suits met.3)

  -- the rules of the directories that are kept after all items
  pub survey_finds : (u : Survey F) (xs : List (Result Surveyed Error)) → YieldsThen (λ s answer t. NextGives files s answer t) s xs None u
      → All (λ x. item_of x ≢ Err memory) xs
      → ((tree : Tree) (loads : List ℕ → Loaded) → Agrees (scene_of u.matcher.asked tree loads) u.matcher.cache
      → kept_rules u.matcher.cache ≡ flat_map (rules_of (scene_of u.matcher.asked tree loads)) (kept_dirs u.matcher.cache))
      → ListsKept u.matcher.cache → InEachScene files f m.asked (λ g. Finds (kept_rules u.matcher.cache) g (map seen_of xs))
  survey_finds u xs y enough loaded lists = λ tree loads honest are.
      let g = scene_of m.asked tree loads in
      let suits = suits_fresh tree loads honest are in
      elim (ran files g s u xs y (starts g suits).suits (starts g suits).goes_on enough) [
        | inr k ↦ inr (cut_from g xs suits k)
        | inl w ↦
            let at = w.suits.scene in
            let agrees = subst (λ (g : QueryScene). Agrees g u.matcher.cache) at w.suits.agrees in
            inl (
              u.matcher.cache,
              all_from g u xs suits w,
              subst (λ (g : QueryScene). kept_rules u.matcher.cache ≡ flat_map (rules_of g) (kept_dirs u.matcher.cache)) (sym at)
                  (loaded tree loads agrees),
              lists,
            )
      ]

-- nothing is met yet
pub begun_none : (g : QueryScene) (c : Cache) → KeepsNothing c → IsBegun g []
begun_none g c empty = λ items is fits. (items, refl, c, record { old = c; fresh = empty; reported = refl })

-- where the limit was met, no list is short enough for it
cut_short : (g : QueryScene) (seen : List Seen) (items : List Item) → IsCut g seen → IsSurvey g items → length items ≤ most_items → ⊥
cut_short g seen items cut is fits =
    let more = cut.3 items is in
    let front = map (λ (s : Seen). s.0) cut.0 in
    let all : length items ≡ length front + length more.0 = ap length more.1 ∙ length-append front more.0 in
    let full : length front ≡ most_items = length-map cut.0 (λ (s : Seen). s.0) ∙ cut.2 in
    more.2 (none_fit more.0 0 refl (omega (arith, all, full, fits)))

-- all items are the first ones
pub whole_begun : (g : QueryScene) (seen : List Seen) → IsWhole g seen → IsBegun g seen
whole_begun g seen (inl (new, all)) = λ items is fits.
    ([], one_survey g (map (λ (s : Seen). s.0) seen) items all.list is ∙ sym (append-nil (map (λ (s : Seen). s.0) seen)), new, all.met)
whole_begun g seen (inr cut) = λ items is fits. absurd (cut_short g seen items cut is fits)

-- where no more were met than a survey may have, the limit wasn't
pub not_cut : (g : QueryScene) (seen : List Seen) → length seen ≤ most_items → IsCut g seen → ⊥
not_cut g seen within cut =
    let limit : Seen = (Err (io StepLimit), None) in
    let all : length seen ≡ length cut.0 + length (limit ∷ []) = ap length cut.1 ∙ length-append cut.0 (limit ∷ []) in
    let full = cut.2 in
    omega (arith, all, full, within)
