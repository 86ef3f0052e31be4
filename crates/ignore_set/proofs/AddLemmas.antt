-- What an index keeps when a pattern is added after the others.
use Rattle.std.proofs.Common.{◌≡◌, ◌≢◌, ◌<◌, ℕ, Bool, true, false, cond, List, [], ◌∷◌, ◌++◌, length, Result, Ok, Err, IfOk}
use Rattle.std.proofs.Common.{Some, refl, sym, ap, subst, ◌∙◌, inl, arith, Vec, Global}
use Rattle.std.specs.Bool.{Decides}
use Rattle.std.specs.BTreeMap.{get_by_text}
use Rattle.std.specs.Map.{update}
use Rattle.std.specs.Option.{unwrap_or}
use Rattle.std.specs.Str.{IsUtf8, bytes_eq}
use Rattle.std.proofs.lemmas.Slice.Eq.{bytes_eq-Decides}
use Rattle.ignore_glob.specs.Forms.{Form, whole, name, ending, other, form_of}
use Rattle.ignore_set.specs.declared.index.Index.{Index}
use Rattle.ignore_set.specs.declared.table.Slot.{Slot}
use Rattle.ignore_set.specs.declared.table.Table.{Table}
use Rattle.ignore_set.specs.Index.{IsIndexOf, IsNoted, IsTableOf, after, slot_at, slot_with}
use Rattle.ignore_set.specs.Others.{IndexedText, AreOthers, AreUnderOf}
use Rattle.ignore_set.specs.Parents.{indexes_at}
use Rattle.ignore_set.specs.Sets.{Member}
use Rattle.std.specs.Str.{chars}
use Rattle.ignore_glob.specs.Ends.{HasParent}
use Rattle.ignore_glob.specs.Needles.{HasOneOf}
use Rattle.ignore_glob.specs.Reading.{Matches}
use Rattle.ignore_set.specs.declared.parents.Parents.{Parents}
use Rattle.ignore_set.proofs.OtherLemmas.{PutsUnder, needles_at, others_same, others_put, parents_put}
use Rattle.ignore_set.proofs.SlotLemmas.{table_same, table_put}

-- One step of an index.

pub if_ok3 : {T E A B C D : Type 0} (r : Result T E) → IfOk r (λ _. A) → IfOk r (λ _. B) → IfOk r (λ _. C) → (A → B → C → D)
    → IfOk r (λ _. D)
if_ok3 (Ok x) a b c f = f a b c
if_ok3 (Err e) a b c f = tt

pub put_slots : (old new : Table) (text : List ℕ) (w : Slot) (index : ℕ) (only_dir : Bool) (q : List ℕ)
    → get_by_text new.slots q ≡ update bytes_eq (λ t. get_by_text old.slots t) text (Some w) q
    → w ≡ slot_with index only_dir (slot_at old text)
    → slot_at new q ≡ cond (bytes_eq text q) (slot_with index only_dir (slot_at old q)) (slot_at old q)
put_slots old new text w index only_dir q e is = ap (λ o. unwrap_or o (record { file = 0; dir = 0 })) e
    ∙ at (bytes_eq text q) (bytes_eq-Decides text q)
  where
    at : (same : Bool) → Decides same (text ≡ q) → unwrap_or (cond same (Some w) (get_by_text old.slots q))
        (record { file = 0; dir = 0 }) ≡ cond same (slot_with index only_dir (slot_at old q)) (slot_at old q)
    at true d = is ∙ ap (λ t. slot_with index only_dir (slot_at old t)) (d.0 refl)
    at false d = refl

whole≢name : (a b : List ℕ) → whole a ≢ name b
whole≢name a b e = cc

whole≢ending : (a b : List ℕ) → whole a ≢ ending b
whole≢ending a b e = cc

name≢ending : (a b : List ℕ) → name a ≢ ending b
name≢ending a b e = cc

whole≢other : (a : List ℕ) → whole a ≢ other
whole≢other a e = cc

name≢other : (a : List ℕ) → name a ≢ other
name≢other a e = cc

ending≢other : (a : List ℕ) → ending a ≢ other
ending≢other a e = cc

one_whole : (a b : List ℕ) → whole a ≡ whole b → a ≡ b
one_whole a b e = cc

one_name : (a b : List ℕ) → name a ≡ name b → a ≡ b
one_name a b e = cc

one_ending : (a b : List ℕ) → ending a ≡ ending b → a ≡ b
one_ending a b e = cc

no_buckets : (n : ℕ) {A : Type 0} → n ≡ 0 → 0 < n → A
no_buckets n none some = absurd (omega (arith, none, some))

-- what `put` says of a table and a text
abbrev pub Puts : Table → Table → ℕ → Bool → List ℕ → Type 0
Puts old new index only_dir text =
    ((q : List ℕ) → slot_at new q ≡ cond (bytes_eq text q) (slot_with index only_dir (slot_at old q)) (slot_at old q))
    × (IsUtf8 text × IsNoted new text) × ((t : List ℕ) → IsNoted old t → IsNoted new t)

pub add_whole : (old : Index) (new : Table) (text : List ℕ) (index : ℕ) (only_dir : Bool)
    → Puts old.whole new index only_dir text → length old.buckets.long.items ≡ 0 → (ms : List Member) (m : Member) → IsIndexOf old ms → length ms ≡ index
    → form_of m.reading ≡ whole text → m.only_dir ≡ only_dir
    → IsIndexOf (record { whole = new; names = old.names; ends = old.ends; others = old.others; buckets = old.buckets; parents = old.parents }) (ms ++ m ∷ [])
add_whole old new text index only_dir p none ms m was size is only = record {
  whole = table_put whole old.whole new ms m index text only_dir one_whole was.whole size is only p.0 p.1 p.2;
  names = table_same name old.names ms m (λ t e. whole≢name text t (sym is ∙ e)) was.names;
  ends = table_same ending old.ends ms m (λ t e. whole≢ending text t (sym is ∙ e)) was.ends;
  others = others_same old.others.items old.parents ms m (λ e. whole≢other text (sym is ∙ e)) was.others;
  buckets = no_buckets (length old.buckets.long.items) none;
}

pub add_name : (old : Index) (new : Table) (text : List ℕ) (index : ℕ) (only_dir : Bool)
    → Puts old.names new index only_dir text → length old.buckets.long.items ≡ 0 → (ms : List Member) (m : Member) → IsIndexOf old ms → length ms ≡ index
    → form_of m.reading ≡ name text → m.only_dir ≡ only_dir
    → IsIndexOf (record { whole = old.whole; names = new; ends = old.ends; others = old.others; buckets = old.buckets; parents = old.parents }) (ms ++ m ∷ [])
add_name old new text index only_dir p none ms m was size is only = record {
  whole = table_same whole old.whole ms m (λ t e. whole≢name t text (sym e ∙ is)) was.whole;
  names = table_put name old.names new ms m index text only_dir one_name was.names size is only p.0 p.1 p.2;
  ends = table_same ending old.ends ms m (λ t e. name≢ending text t (sym is ∙ e)) was.ends;
  others = others_same old.others.items old.parents ms m (λ e. name≢other text (sym is ∙ e)) was.others;
  buckets = no_buckets (length old.buckets.long.items) none;
}

pub add_end : (old : Index) (new : Table) (text : List ℕ) (index : ℕ) (only_dir : Bool)
    → Puts old.ends new index only_dir text → length old.buckets.long.items ≡ 0 → (ms : List Member) (m : Member) → IsIndexOf old ms → length ms ≡ index
    → form_of m.reading ≡ ending text → m.only_dir ≡ only_dir
    → IsIndexOf (record { whole = old.whole; names = old.names; ends = new; others = old.others; buckets = old.buckets; parents = old.parents }) (ms ++ m ∷ [])
add_end old new text index only_dir p none ms m was size is only = record {
  whole = table_same whole old.whole ms m (λ t e. whole≢ending t text (sym e ∙ is)) was.whole;
  names = table_same name old.names ms m (λ t e. name≢ending t text (sym e ∙ is)) was.names;
  ends = table_put ending old.ends new ms m index text only_dir one_ending was.ends size is only p.0 p.1 p.2;
  others = others_same old.others.items old.parents ms m (λ e. ending≢other text (sym is ∙ e)) was.others;
  buckets = no_buckets (length old.buckets.long.items) none;
}

pub add_needles : (old : Index) (new : Vec IndexedText Global) (texts : List (List ℕ)) (index : ℕ)
    → new.items ≡ old.others.items ++ needles_at index texts → length old.buckets.long.items ≡ 0 → (ms : List Member) (m : Member) → IsIndexOf old ms
    → length ms ≡ index → form_of m.reading ≡ other
    → ((text : List ℕ) → IsUtf8 text → Matches m.reading (chars text) → HasOneOf texts text)
    → IsIndexOf (record { whole = old.whole; names = old.names; ends = old.ends; others = new; buckets = old.buckets; parents = old.parents }) (ms ++ m ∷ [])
add_needles old new texts index o none ms m was size is has = record {
  whole = table_same whole old.whole ms m (λ t h. whole≢other t (sym h ∙ is)) was.whole;
  names = table_same name old.names ms m (λ t h. name≢other t (sym h ∙ is)) was.names;
  ends = table_same ending old.ends ms m (λ t h. ending≢other t (sym h ∙ is)) was.ends;
  others = subst (λ l. AreOthers l old.parents (ms ++ m ∷ [])) (ap (λ k. old.others.items ++ needles_at k texts) size ∙ sym o)
      (others_put old.others.items old.parents texts ms m is has was.others);
  buckets = no_buckets (length old.buckets.long.items) none;
}

pub add_parent : (old : Index) (new : Parents) (parent : List ℕ) (index : ℕ)
    → PutsUnder old.parents new index parent → length old.buckets.long.items ≡ 0 → (ms : List Member) (m : Member) → IsIndexOf old ms
    → length ms ≡ index → form_of m.reading ≡ other
    → ((text : List ℕ) → IsUtf8 text → Matches m.reading (chars text) → HasParent parent text)
    → IsIndexOf (record { whole = old.whole; names = old.names; ends = old.ends; others = old.others; buckets = old.buckets; parents = new }) (ms ++ m ∷ [])
add_parent old new parent index puts none ms m was size is has = record {
  whole = table_same whole old.whole ms m (λ t h. whole≢other t (sym h ∙ is)) was.whole;
  names = table_same name old.names ms m (λ t h. name≢other t (sym h ∙ is)) was.names;
  ends = table_same ending old.ends ms m (λ t h. ending≢other t (sym h ∙ is)) was.ends;
  others = parents_put old.others.items old.parents new parent ms m is has
      (subst (λ k. PutsUnder old.parents new k parent) (sym size) puts) was.others;
  buckets = no_buckets (length old.buckets.long.items) none;
}

-- No pattern.

table_none : (form : List ℕ → Form) (table : Table) → ((text : List ℕ) → slot_at table text ≡ record { file = 0; dir = 0 })
    → IsTableOf form table []
table_none form table none = record {
  slots = λ is_dir text. record { above = λ i m g h. cc; last = inl (ap (after is_dir) (none text) ∙ zero_after is_dir) };
  noted = λ i m text g h. cc;
}
  where
    zero_after : (is_dir : Bool) → after is_dir (record { file = 0; dir = 0 }) ≡ 0
    zero_after true = refl
    zero_after false = refl

others_none : (parents : Parents) → ((parent : List ℕ) → indexes_at parents parent ≡ []) → AreOthers [] parents []
others_none parents none = record {
  each = λ i m g h text utf8 matches. cc;
  needles = record { rising = λ j k a b less ga gb. cc; formless = λ j n g. cc };
  under = λ parent. subst (λ l. AreUnderOf l []) (sym (none parent)) (record { rising = λ k l i j less gi gj. cc; formless = λ k i g. cc });
  apart = λ parent j k n g u. cc;
}

pub index_none : (index : Index) → ((text : List ℕ) → slot_at index.whole text ≡ record { file = 0; dir = 0 })
    → ((text : List ℕ) → slot_at index.names text ≡ record { file = 0; dir = 0 })
    → ((text : List ℕ) → slot_at index.ends text ≡ record { file = 0; dir = 0 })
    → index.others.items ≡ [] → length index.buckets.long.items ≡ 0
    → ((parent : List ℕ) → indexes_at index.parents parent ≡ []) → IsIndexOf index []
index_none index w n e others none parents = record {
  whole = table_none whole index.whole w;
  names = table_none name index.names n;
  ends = table_none ending index.ends e;
  others = subst (λ l. AreOthers l index.parents []) (sym others) (others_none index.parents parents);
  buckets = no_buckets (length index.buckets.long.items) none;
}
