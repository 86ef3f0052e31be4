-- A walk whose owner answers as if there were no closures, as one without closures.
use Rattle.std.proofs.Common.{◌≡◌, List, [], ◌∷◌, ℕ, None, Option, Result, Some, true, inl, inr, map, option_map, refl, sym, ap, subst, ◌∙◌}
use Rattle.std.specs.Iterator.{Yields, YieldsThen}
use Rattle.ignore_base.specs.declared.error.Error.{Error}
use Rattle.ignore_files.specs.declared.env.Env.{Env}
use Rattle.ignore_files.specs.declared.files.Files.{Ghosts as Files}
use Rattle.ignore_walk.specs.Entry.{Item, item_of}
use Rattle.ignore_walk.specs.Left.{State}
use Rattle.ignore_walk.specs.Nexts.{EndsOrGoesOn, NextGives, Nexts, Shows}
use Rattle.ignore_walk.specs.Scene.{Scene}
use Rattle.ignore_walk.specs.Suits.{IsGroundOf}
use Rattle.ignore_walk.specs.declared.callbacks.Callbacks.{Ghosts as Callbacks}
use Rattle.ignore_walk.specs.declared.callbacks.Order.{Order}
use Rattle.ignore_walk.specs.declared.callbacks.Order.TheVariants.{Listed}
use Rattle.ignore_walk.specs.declared.entry.DirEntry.{DirEntry}
use Rattle.ignore_walk.specs.declared.ground.Ground.{Ground}
use Rattle.ignore_walk.specs.declared.walk.Walk.{Walk}
use Rattle.ignore.specs.Closures.{IsBare, no_closures, options_of, order_of}
use Rattle.ignore.specs.Walks.{GoesBy}
use Rattle.ignore.specs.declared.options.WalkOptions.{WalkOptions}
use Rattle.ignore.specs.declared.walk.Walk.{Walk as Built}
use Rattle.ig_commands.specs.Walked.{HasYielded}

-- where no comparison is set, none is asked for an order
pub unordered : {X : Type 0} (order : X → Order) (sorter : Option X) → sorter ≡ None → order_of order sorter ≡ Listed
unordered {X} order sorter none = ap (λ (s : Option X). order_of order s) none

-- the same ground, and the same walk, without an owner
abbrev bare_ground : {F S : Type 0} → Ground F S → Ground F (Unit {0})
bare_ground g =
    record {
      alloc = g.alloc;
      files = g.files;
      owner = tt;
      settings = g.settings;
      outside = g.outside;
      options = g.options;
    }

abbrev pub bare : {F S : Type 0} → Walk F S → Walk F (Unit {0})
bare w = record { ground = bare_ground w.ground; stack = w.stack; left = w.left; ended = w.ended }

module _ {F S : Type 0} (files : Files F) (calls : Callbacks S) where
  -- a scene of one is one of the other
  owned : (g : Ground F S) (s : Scene) → IsBare calls g.owner → IsGroundOf files no_closures (bare_ground g) s → IsGroundOf files calls g s
  owned g s is h = record {
    honest = h.honest;
    loads = h.loads;
    settings = h.settings;
    outside = h.outside;
    device = h.device;
    filter = (is.passes s.keep).1 h.filter;
    order = (h.order.0, (is.compares h.order.0).1 h.order.1, h.order.2, h.order.3);
  }

  unowned : (g : Ground F S) (s : Scene) → IsBare calls g.owner → IsGroundOf files calls g s → IsGroundOf files no_closures (bare_ground g) s
  unowned g s is h = record {
    honest = h.honest;
    loads = h.loads;
    settings = h.settings;
    outside = h.outside;
    device = h.device;
    filter = (is.passes s.keep).0 h.filter;
    order = (h.order.0, (is.compares h.order.0).0 h.order.1, h.order.2, h.order.3);
  }

  nexts : (s : Scene) (a b : Walk F S) (answer : Option Item) (items : List Item) (n : ℕ) → IsBare calls b.ground.owner
      → Nexts files calls s a answer b items n → Nexts files no_closures s (bare a) answer (bare b) items n
  nexts s a b None items n is h = h
  nexts s a b (Some item) items n is (inl h) = inl record {
    others = h.others;
    k = h.k;
    are = h.are;
    rest = record { suits = unowned b.ground s is h.rest.suits; goes_on = h.rest.goes_on; stands = h.rest.stands };
    taken = h.taken;
  }
  nexts s a b (Some item) items n is (inr h) = inr h

  still : (a b : Walk F S) (answer : Option Item) → IsBare calls a.ground.owner → NextGives files calls a answer b → IsBare calls b.ground.owner
  still a b answer is h = subst (λ (g : Ground F S). IsBare calls g.owner) (sym h.paced.ground) is

  -- what one shows, the other does
  shown : (s : Scene) (at : State) (left : ℕ) (answer : Option Item) (b : Walk F S) → Shows s at left answer b → Shows s at left answer (bare b)
  shown s at left None b h = h
  shown s at left (Some item) b (inl h) = inl h
  shown s at left (Some item) b (inr h) = inr h

  -- and it goes on, or ends, as the other
  goes_on : (answer : Option Item) (b : Walk F S) → EndsOrGoesOn answer b → EndsOrGoesOn answer (bare b)
  goes_on None b h = h
  goes_on (Some item) b (inl h) = inl h
  goes_on (Some item) b (inr h) = inr h

  next : (a b : Walk F S) (answer : Option Item) → IsBare calls a.ground.owner → NextGives files calls a answer b
      → NextGives files no_closures (bare a) answer (bare b)
  next a b answer is h = record {
    given = λ s items n r.
        nexts s a b answer items n (still a b answer is h)
        (h.given s items n (record { suits = owned a.ground s is r.suits; goes_on = r.goes_on; stands = r.stands }));
    shows = λ s root place seen suits begun at. shown s _ a.left answer b (h.shows s root place seen (owned a.ground s is suits) begun at);
    over = h.over;
    none = h.none;
    last = h.last;
    paced = record { ground = ap bare_ground h.paced.ground; paced = h.paced.paced; limited = h.paced.limited };
    ends = λ none. (let e = h.ends none in (e.0, goes_on answer b e.1));
    below = h.below;
  }

  yields : (a t : Walk F S) (xs : List (Result DirEntry Error)) → IsBare calls a.ground.owner
      → Yields (λ old given new. NextGives files calls old (option_map item_of given) new) a xs t
      → Yields (λ old given new. NextGives files no_closures old (option_map item_of given) new) (bare a) xs (bare t)
      × IsBare calls t.ground.owner
  yields a t [] is y = (ap bare y, subst (λ (w : Walk F S). IsBare calls w.ground.owner) y is)
  yields a t (x ∷ xs) is (j, s, y) =
      let rest = yields j t xs (still a j (Some (item_of x)) is s) y in
      ((bare j, next a j (Some (item_of x)) is s, rest.0), rest.1)

  -- calls of a walk of a builder are calls of what it keeps
  built : (a t : Built F S) (xs : List (Result DirEntry Error))
      → Yields (λ old given new. NextGives files calls old.inner (option_map item_of given) new.inner) a xs t
      → Yields (λ old given new. NextGives files calls old (option_map item_of given) new) a.inner xs t.inner
  built a t [] y = ap (λ (x : Built F S). x.inner) y
  built a t (x ∷ xs) (j, s, y) = (j.inner, s, built j t xs y)

  -- what a walk of a builder has yielded is what one without closures has
  pub yielded : (f : F) (owner : S) (env : Env) (b : WalkOptions) (order : Order) (w v : Built F S) (all : List (Result DirEntry Error))
      (answer : Option (Result DirEntry Error)) → IsBare calls owner → order ≡ Listed → GoesBy files f owner env b order w.inner
      → w.inner.left ≡ b.limit
      → YieldsThen (λ old given new. NextGives files calls old.inner (option_map item_of given) new.inner) w all answer v
      → HasYielded files f env b (map item_of all) answer
  yielded f owner env b order w v all answer is plain by limit (t, y, last) =
      let owns = subst (λ (o : S). IsBare calls o) (sym by.closures) is in
      let before = yields w.inner t.inner all owns (built w t all y) in
      record {
        walk = bare w.inner;
        is_walk = record {
          goes_by = record {
            over = by.over;
            closures = refl;
            settings = by.settings;
            options = by.options ∙ ap (options_of b) plain;
            outside = by.outside;
            roots = by.roots;
            below = by.below;
          };
          limit = limit;
        };
        all = all;
        left = bare v.inner;
        yields = (bare t.inner, before.0, next t.inner v.inner (option_map item_of answer) before.1 last);
        are = refl;
      }
