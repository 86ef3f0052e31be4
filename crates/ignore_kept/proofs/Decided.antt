-- What a handle's guide is asked is what it answers.
use Rattle.std.proofs.Common.{◌≡◌, inl, inr, ℕ, Bool, List, [], ◌∷◌, Option, Some, None, Ok, Err, IsSome, map, refl, ap, subst, ◌∙◌}
use Rattle.std.specs.Str.{IsUtf8}
use Rattle.ignore.specs.WalkWords.{IncrementalMatch, query_why_of}
use Rattle.ignore_base.specs.Text.{Bytes}
use Rattle.ignore_dir.specs.Steps.{Reached}
use Rattle.ignore_guide.specs.Guide.{StandsFor, decided, decided_listed}
use Rattle.ignore_guide.specs.Names.{IsAsked, IsNoPlace, IsRefused}
use Rattle.ignore_guide.specs.Places.{entered_at}
use Rattle.ignore_guide.specs.Reasons.{decided_why}
use Rattle.ignore_guide.specs.declared.error.GuideError.{GuideError}
use Rattle.ignore_guide.specs.declared.error.GuideError.TheVariants as error
use Rattle.ignore_guide.specs.declared.guide.Guide.{Guide}
use Rattle.ignore_guide.specs.declared.judge.Entry.{Entry}
use Rattle.ignore_guide.specs.declared.places.Place.{Place}
use Rattle.ignore_kept.specs.Deciding.{AsksIn, ListsIn, explanation, listed_code}
use Rattle.ignore_kept.specs.Explained.{Explained, explained_in}
use Rattle.ignore_kept.specs.Listings.{ListsEntries, size_of}
use Rattle.ignore_kept.specs.Stops.{guide_stop}
use Rattle.ignore_kept.specs.declared.stopped.Stopped.{Stopped}
use Rattle.ignore_kept.specs.declared.stopped.Stopped.TheVariants.{NotUtf8, Memory as Full, Limit, Invalid, Misused, Tree}
use Rattle.ignore_why.specs.QueryWhy.{QueryWhy}
use Rattle.ignore_why.specs.declared.explanation.Explanation.{Explanation}

abbrev pub make : IncrementalMatch → QueryWhy → Explained
make m w = record { answer = m; why = w }

explained-is : (m n : IncrementalMatch) (w u : QueryWhy) → m ≡ n → w ≡ u → make m w ≡ make n u
explained-is m n w u a b = ap (λ (x : IncrementalMatch). make x w) a ∙ ap (make n) b

map-map : {A B C : Type 0} (f : B → C) (g : A → B) (xs : List A) → map f (map g xs) ≡ map (λ x. f (g x)) xs
map-map f g [] = refl
map-map f g (x ∷ xs) = ap (λ l. f (g x) ∷ l) (map-map f g xs)

module _ {A : Type 0} (answer : Bytes → Guide → ℕ → Reached → A) (place : Place) (name text : Bytes) (kept : Option Guide) (g : Guide) (is : Some g ≡ kept) where
  pub asks : (found : A) → text ≡ name → IsAsked g.places place text
      → ((depth : ℕ) (at : Reached) → StandsFor g place depth at → found ≡ answer text g depth at)
      → AsksIn (answer name) place name kept (Ok found)
  asks found e there value =
      subst (λ (k : Option Guide). AsksIn (answer name) place name k (Ok found)) is
      (subst (λ (n : Bytes). AsksIn (answer n) place n (Some g) (Ok found)) e (there, value))

  asks-not : (e : GuideError) → IsRefused g.places place text e → AsksIn (answer text) place text (Some g) (Err (guide_stop e))
  asks-not error.Memory r = tt
  asks-not error.NoPlace r = inl r
  asks-not error.NoName r = inr r
  asks-not error.HasChildren r = absurd r

  pub asks_not : (e : GuideError) → text ≡ name → IsRefused g.places place text e → AsksIn (answer name) place name kept (Err (guide_stop e))
  asks_not e same r =
      subst (λ (k : Option Guide). AsksIn (answer name) place name k (Err (guide_stop e))) is
      (subst (λ (n : Bytes). AsksIn (answer n) place n (Some g) (Err (guide_stop e))) same (asks-not e r))

  pub asks_no_text : ¬ (IsUtf8 name) → AsksIn (answer name) place name kept (Err NotUtf8)
  asks_no_text u = subst (λ (k : Option Guide). AsksIn (answer name) place name k (Err NotUtf8)) is u

-- an answer with its reason, by a size that is the one that was told
pub explains : (place : Place) (name text : Bytes) (is_dir : Bool) (size : ℕ) (kept : Option Guide) (g : Guide) (known : Option ℕ) → Some g ≡ kept
    → known ≡ size_of size → (e : Explanation) → text ≡ name → IsAsked g.places place text
    → ((depth : ℕ) (at : Reached) → StandsFor g place depth at → e.answer ≡ decided g.settings g.outside depth at text is_dir known)
    → ((depth : ℕ) (at : Reached) → StandsFor g place depth at → query_why_of e.reason ≡ decided_why g.settings g.outside depth at text is_dir known)
    → AsksIn (explanation name is_dir size) place name kept (explained_in (Ok e))
explains place name text is_dir size kept g known is sized e same there value why =
    asks (λ n. explanation n is_dir size) place name text kept g is (record { answer = e.answer; why = query_why_of e.reason }) same there
    (λ depth at s. explained-is e.answer (decided g.settings g.outside depth at text is_dir (size_of size)) (query_why_of e.reason)
    (decided_why g.settings g.outside depth at text is_dir (size_of size))
    (value depth at s ∙ ap (decided g.settings g.outside depth at text is_dir) sized)
    (why depth at s ∙ ap (decided_why g.settings g.outside depth at text is_dir) sized))

pub asks_none : {A : Type 0} (answer : Guide → ℕ → Reached → A) (place : Place) (name : Bytes) (kept : Option Guide) → None ≡ kept
    → AsksIn answer place name kept (Err Misused)
asks_none answer place name kept is = subst (λ (k : Option Guide). AsksIn answer place name k (Err Misused)) is refl

module _ (place : Place) (names : Bytes) (kinds sizes : List ℕ) (kept : Option Guide) (g : Guide) (is : Some g ≡ kept) where
  pub lists : (entries : List Entry) (found : List IncrementalMatch) (codes : List ℕ) → IsSome (entered_at g.places place)
      → ListsEntries names kinds sizes (Ok entries)
      → ((depth : ℕ) (at : Reached) → StandsFor g place depth at → found ≡ map (decided_listed g.settings g.outside depth at) entries)
      → codes ≡ map listed_code found → ListsIn place names kinds sizes kept (Ok codes)
  lists entries found codes there listed value coded =
      subst (λ (k : Option Guide). ListsIn place names kinds sizes k (Ok codes)) is (
        there,
        (
          entries,
          listed,
          λ depth at s. coded ∙ (ap (map listed_code) (value depth at s)
              ∙ map-map listed_code (decided_listed g.settings g.outside depth at) entries),
        ),
      )

  lists-not : (e : GuideError) → IsNoPlace g.places place e → ListsIn place names kinds sizes (Some g) (Err (guide_stop e))
  lists-not error.Memory r = tt
  lists-not error.NoPlace r = inl r
  lists-not error.NoName r = absurd r
  lists-not error.HasChildren r = absurd r

  pub lists_not : (e : GuideError) → IsNoPlace g.places place e → ListsIn place names kinds sizes kept (Err (guide_stop e))
  lists_not e r = subst (λ (k : Option Guide). ListsIn place names kinds sizes k (Err (guide_stop e))) is (lists-not e r)

  unlisted : (e : Stopped) → ListsEntries names kinds sizes (Err e) → ListsIn place names kinds sizes (Some g) (Err e)
  unlisted NotUtf8 h = h
  unlisted Misused h = inr h
  unlisted Full h = tt
  unlisted other h = absurd h

  pub lists_unlisted : (e : Stopped) → ListsEntries names kinds sizes (Err e) → ListsIn place names kinds sizes kept (Err e)
  lists_unlisted e h = subst (λ (k : Option Guide). ListsIn place names kinds sizes k (Err e)) is (unlisted e h)

  pub lists_full : ListsIn place names kinds sizes kept (Err Full)
  lists_full = subst (λ (k : Option Guide). ListsIn place names kinds sizes k (Err Full)) is tt

pub lists_none : (place : Place) (names : Bytes) (kinds sizes : List ℕ) (kept : Option Guide) → None ≡ kept
    → ListsIn place names kinds sizes kept (Err Misused)
lists_none place names kinds sizes kept is = subst (λ (k : Option Guide). ListsIn place names kinds sizes k (Err Misused)) is refl

-- out of memory for what is told, a guide has answered
pub asks_full : {A : Type 0} (answer : Guide → ℕ → Reached → A) (place : Place) (name : Bytes) (kept : Option Guide) (found : A)
    → AsksIn answer place name kept (Ok found) → AsksIn answer place name kept (Err Full)
asks_full answer place name None found h = absurd (cc (h))
asks_full answer place name (Some g) found h = tt
