-- Each step of the incumbent's word keeps its rule.
use Rattle.std.proofs.Common.{◌≡◌, ◌≢◌, ℕ, ◌<◌, ◌≤◌, List, [], ◌∷◌, ◌++◌, set, min, sum_by, slice_index, slice_set, sym, refl, ap, ◌∙◌, subst, ⊎_elim, arith}
use Rattle.std.proofs.lemmas.List.Sums.{sum_by-append}
use mathlib.Core.Option.{none, some, some-injective}
use mathlib.Core.Logic.{dite}
use native.Mathlib.Decide.{dec_le, ℕ_discrete}
use lib.ListN.{get_elem?}
use Rattle.atomic_table.specs.Table.{Me, step, keeps, Allows, Splits, Joins, Final, Seen}
use Rattle.atomic_table.proofs.Lists.{at_set, set_else, at_longer, at_snoc}
use Rattle.incumbent.specs.Words.{NOTHING, IsCostWord}
use Rattle.incumbent.specs.Rule.{View, view, IsAbove, IsSource, IsKept, Holds, holds, fresh, IsFound, looked, published, rest_of, part_of, joined}
use Rattle.incumbent.proofs.Orders.{cost_word-min}
use Rattle.incumbent.proofs.Views.{replaced, sum_by-replaced, parts_of_sum}

abbrev parts_in : View → ℕ
parts_in v = v.parts

-- there is a view whose pass published the word
abbrev HasSource : ℕ → List View → Type 0
HasSource word views = (i : ℕ) × (v : View) × (get_elem? views i ≡ some v) × IsSource word v

-- a source stays where its view is replaced by one that is a source too
source_stays : (word : ℕ) (views : List View) (id : ℕ) (v w : View) → get_elem? views id ≡ some v → (IsSource word v → IsSource word w)
    → HasSource word views → HasSource word (set views id w)
source_stays word views id v w at goes has = dite (ℕ_discrete has.0 id)
    (λ (here : has.0 ≡ id). (id, w, replaced views id v w at, goes (subst (IsSource word) (same here) has.3)))
    (λ (else : has.0 ≢ id). (has.0, has.1, set_else views id has.0 w else ∙ has.2, has.3))
  where
    same : has.0 ≡ id → has.1 ≡ v
    same here = some-injective has.1 v (sym has.2 ∙ (ap (get_elem? views) here ∙ at))

-- all views stay above a word that is no greater, where the new view is above it
below_stays : (word next : ℕ) (views : List View) (id : ℕ) (w : View) → next ≤ word → IsAbove next w
    → ((i : ℕ) (v : View) → get_elem? views i ≡ some v → IsAbove word v) → (i : ℕ) (v : View) → get_elem? (set views id w) i ≡ some v → IsAbove next v
below_stays word next views id w lower mine below i v at = ⊎_elim
    (λ (h : (i ≡ id) × (w ≡ v)). subst (IsAbove next) h.1 mine)
    (λ (h : (i ≢ id) × (get_elem? views i ≡ some v)). λ live. let old = below i v h.1 live in (omega arith, omega arith))
    (at_set views id i w v at)

whole_stays : (parts : ℕ) (views : List View) (id : ℕ) (v w : View) → get_elem? views id ≡ some v → w.parts ≡ v.parts
    → sum_by (λ v. v.parts) views ≡ parts → sum_by (λ v. v.parts) (set views id w) ≡ parts
whole_stays parts views id v w at same whole = let new = sum_by-replaced parts_in views id v w at in omega arith

-- a load of the word
looks_kept : (parts word : ℕ) (views : List View) (id : ℕ) (v : View) → 0 < v.parts → get_elem? views id ≡ some v → IsKept parts word views
    → IsKept parts word (set views id (view word v.mine word v.parts)) × IsFound v word
looks_kept parts word views id v live at kept = let old = kept.below id v at live in let w : View = view word v.mine word v.parts in (
  record {
    cost = kept.cost;
    below = below_stays word word views id w (omega arith) (λ _. (omega arith, old.1)) kept.below;
    source = λ some_cost. source_stays word views id v w at (λ s. s) (kept.source some_cost);
    whole = whole_stays parts views id v w at refl kept.whole;
  },
  record { cost = kept.cost; seen = old.0; mine = old.1 },
)

-- a publication: the word becomes the least of itself and the new one
publishes_kept : (parts word new : ℕ) (views : List View) (id : ℕ) (v : View) → IsCostWord new → 0 < v.parts → get_elem? views id ≡ some v
    → IsKept parts word views → IsKept parts (min word new) (set views id (view (min word new) (min v.mine new) word v.parts)) × IsFound v word
publishes_kept parts word new views id v cost live at kept =
    let old = kept.below id v at live in
    let w : View = view (min word new) (min v.mine new) word v.parts in (
      record {
        cost = cost_word-min word new kept.cost cost;
        below = below_stays word (min word new) views id w (omega arith) (λ _. (omega arith, omega arith)) kept.below;
        source = λ some_cost. dite (dec_le new word)
            (λ (le : new ≤ word). (id, w, replaced views id v w at, (live, omega arith)))
            (λ (gt : ¬ (new ≤ word)).
            let same : min word new ≡ word = omega arith in
            subst (λ n. HasSource n (set views id w)) (sym same)
            (source_stays word views id v w at (λ s. (live, omega (arith, s.1))) (kept.source (omega arith))));
        whole = whole_stays parts views id v w at refl kept.whole;
      },
      record { cost = kept.cost; seen = old.0; mine = old.1 },
    )

-- some parts of a pass go to a new one
splits_kept : (parts word taken : ℕ) (views : List View) (id : ℕ) (v : View) → 0 < taken → taken < v.parts → get_elem? views id ≡ some v
    → IsKept parts word views → IsKept parts word (set views id (rest_of taken v) ++ part_of taken v ∷ [])
splits_kept parts word taken views id v some_part fewer at kept =
    let old = kept.below id v at (omega arith) in
    let left : View = rest_of taken v in
    let right : View = part_of taken v in
    let fits = kept.cost.fits in
    let set_below = below_stays word word views id left (omega arith) (λ _. old) kept.below in
    record {
      cost = kept.cost;
      below = λ i u there. ⊎_elim
          (λ (h : get_elem? (set views id left) i ≡ some u). set_below i u h)
          (λ (h : right ≡ u). subst (IsAbove word) h (λ _. (old.0, fits)))
          (at_snoc (set views id left) right u i there);
      source = λ some_cost.
          let has = source_stays word views id v left at (λ s. (omega arith, s.1)) (kept.source some_cost) in
          (has.0, has.1, at_longer (set views id left) (right ∷ []) has.0 has.1 has.2, has.3);
      whole = let sum = sum_by-replaced parts_in views id v left at in
          let all = sum_by-append parts_in (set views id left) (right ∷ []) in
          omega (arith, kept.whole);
    }

-- two passes become one
joins_kept : (parts word : ℕ) (views : List View) (id : ℕ) (v : View) (other : ℕ) (u : View) → 0 < v.parts → 0 < u.parts
    → get_elem? views id ≡ some v → other ≢ id → get_elem? (set views id (joined v u)) other ≡ some u
    → IsKept parts word views → IsKept parts word (set (set views id (joined v u)) other (fresh 0))
joins_kept parts word views id v other u live live' at apart there kept =
    let both : View = joined v u in
    let was : get_elem? views other ≡ some u = sym (set_else views id other both apart) ∙ there in
    let mine = kept.below id v at live in
    let theirs = kept.below other u was live' in
    let here : get_elem? (set (set views id both) other (fresh 0)) id ≡ some both =
    set_else (set views id both) other id (fresh 0) (λ h. apart (sym h)) ∙ replaced views id v both at in
    record {
      cost = kept.cost;
      below = below_stays word word (set views id both) other (fresh 0) (omega arith) (λ live. absurd (omega arith))
          (below_stays word word views id both (omega arith) (λ _. (omega arith, omega arith)) kept.below);
      source = λ some_cost.
          let has = kept.source some_cost in
          dite (ℕ_discrete has.0 id)
          (λ (h : has.0 ≡ id).
          let same : v ≡ has.1 = some-injective v has.1 (sym at ∙ (ap (get_elem? views) (sym h) ∙ has.2)) in
          let is : v.mine ≡ word = ap (λ (x : View). x.mine) same ∙ has.3.1 in
          (id, both, here, (omega arith, omega arith)))
          (λ (n : has.0 ≢ id).
          dite (ℕ_discrete has.0 other)
          (λ (h : has.0 ≡ other).
          let same : u ≡ has.1 = some-injective u has.1 (sym was ∙ (ap (get_elem? views) (sym h) ∙ has.2)) in
          let is : u.mine ≡ word = ap (λ (x : View). x.mine) same ∙ has.3.1 in
          (id, both, here, (omega arith, omega arith)))
          (λ (m : has.0 ≢ other). (
            has.0,
            has.1,
            set_else (set views id both) other has.0 (fresh 0) m ∙ (set_else views id has.0 both n ∙ has.2),
            has.3,
          )));
      whole = let first = sum_by-replaced parts_in views id v both at in
          let second = sum_by-replaced parts_in (set views id both) other u (fresh 0) there in
          omega (arith, kept.whole);
    }

looks_at : (parts id : ℕ) (v : View) (words : List ℕ) (views : List View) → 0 < v.parts → get_elem? views id ≡ some v → Holds parts words views
    → Holds parts (slice_set words 0 (slice_index words 0)) (set views id (view (slice_index words 0) v.mine (slice_index words 0) v.parts))
    × IsFound v (slice_index words 0)
looks_at parts id v [] views live at kept = absurd kept
looks_at parts id v (word ∷ []) views live at kept = looks_kept parts word views id v live at kept
looks_at parts id v (word ∷ (next ∷ words)) views live at kept = absurd kept

publishes_at : (parts id : ℕ) (v : View) (new : ℕ) (words : List ℕ) (views : List View) → IsCostWord new → 0 < v.parts → get_elem? views id ≡ some v
    → Holds parts words views
    → Holds parts (slice_set words 0 (min (slice_index words 0) new))
    (set views id (view (min (slice_index words 0) new) (min v.mine new) (slice_index words 0) v.parts))
    × IsFound v (slice_index words 0)
publishes_at parts id v new [] views cost live at kept = absurd kept
publishes_at parts id v new (word ∷ []) views cost live at kept = publishes_kept parts word new views id v cost live at kept
publishes_at parts id v new (word ∷ (next ∷ words)) views cost live at kept = absurd kept

splits_at : (parts taken id : ℕ) (v : View) (words : List ℕ) (views : List View) → 0 < taken → taken < v.parts → get_elem? views id ≡ some v
    → Holds parts words views → Holds parts words (set views id (rest_of taken v) ++ part_of taken v ∷ [])
splits_at parts taken id v [] views some_part fewer at kept = absurd kept
splits_at parts taken id v (word ∷ []) views some_part fewer at kept = splits_kept parts word taken views id v some_part fewer at kept
splits_at parts taken id v (word ∷ (next ∷ words)) views some_part fewer at kept = absurd kept

joins_at : (parts id : ℕ) (v : View) (other : ℕ) (u : View) (words : List ℕ) (views : List View) → 0 < v.parts → 0 < u.parts
    → get_elem? views id ≡ some v → other ≢ id → get_elem? (set views id (joined v u)) other ≡ some u
    → Holds parts words views → Holds parts words (set (set views id (joined v u)) other (fresh 0))
joins_at parts id v other u [] views live live' at apart there kept = absurd kept
joins_at parts id v other u (word ∷ []) views live live' at apart there kept = joins_kept parts word views id v other u live live' at apart there kept
joins_at parts id v other u (word ∷ (next ∷ words)) views live live' at apart there kept = absurd kept

-- the same of the table's steps
pub looks : (parts slots id : ℕ) (me : Me (Unit {0}) View) → 0 < me.0.parts
    → Allows (holds parts) slots id me 0 (λ n. n) (looked (step slots 0 0 0 none) me)
looks parts slots id me live state kept _ at _ =
    let done = looks_at parts id me.0 state.words state.views live at kept in
    let found : ℕ = slice_index state.words 0 in
    (view found me.0.mine found me.0.parts, keeps, tt, done.0, (done.1, refl))

pub publishes : (parts slots id : ℕ) (me : Me (Unit {0}) View) (new : ℕ) → IsCostWord new → 0 < me.0.parts
    → Allows (holds parts) slots id me 0 (λ n. min n new) (published (step slots 0 new 0 none) me)
publishes parts slots id me new cost live state kept _ at _ =
    let done = publishes_at parts id me.0 new state.words state.views cost live at kept in
    let found : ℕ = slice_index state.words 0 in
    (view (min found new) (min me.0.mine new) found me.0.parts, keeps, tt, done.0, (done.1, refl))

pub splits : (parts taken id : ℕ) (v : View) → 0 < taken → taken < v.parts → Splits (holds parts) id v (rest_of taken v) (part_of taken v)
splits parts taken id v some_part fewer state kept at = splits_at parts taken id v state.words state.views some_part fewer at kept

pub joins : (parts id : ℕ) (v : View) (other : ℕ) (u : View) → 0 < v.parts → 0 < u.parts → Joins (holds parts) id v other u (joined v u) (fresh 0)
joins parts id v other u live live' state kept at apart there =
    joins_at parts id v other u state.words state.views live live' at apart there kept

-- the word at the end is what the pass with all parts published
closes_at : (parts : ℕ) (word : ℕ) (views : List View) (id : ℕ) (v : View) → v.parts ≡ parts → IsCostWord v.mine → get_elem? views id ≡ some v
    → 0 < v.parts → IsKept parts word views → (word ≡ v.mine) × (word ≤ v.seen)
closes_at parts word views id v all cost at live kept =
    let old = kept.below id v at live in
    let fits = cost.fits in
    dite (dec_le NOTHING word)
    (λ (nothing : NOTHING ≤ word). (omega arith, old.0))
    (λ (some_cost : ¬ (NOTHING ≤ word)).
    let has = kept.source (omega arith) in
    dite (ℕ_discrete has.0 id)
    (λ (h : has.0 ≡ id).
    let same : v ≡ has.1 = some-injective v has.1 (sym at ∙ (ap (get_elem? views) (sym h) ∙ has.2)) in
    let is : v.mine ≡ word = ap (λ (x : View). x.mine) same ∙ has.3.1 in
    (sym is, old.0))
    (λ (n : has.0 ≢ id).
    let both = parts_of_sum parts_in views has.0 id has.1 v n has.2 at in
    absurd (omega (arith, kept.whole, has.3.0))))

ends_at : (parts : ℕ) (words : List ℕ) (views : List View) (id : ℕ) (v : View) → v.parts ≡ parts → IsCostWord v.mine → get_elem? views id ≡ some v
    → 0 < v.parts → Holds parts words views → (word : ℕ) → get_elem? words 0 ≡ some word → (word ≡ v.mine) × (word ≤ v.seen)
ends_at parts [] views id v all cost at live kept word there = absurd kept
ends_at parts (w ∷ []) views id v all cost at live kept word there =
    subst (λ n. (n ≡ v.mine) × (n ≤ v.seen)) (some-injective w word there) (closes_at parts w views id v all cost at live kept)
ends_at parts (w ∷ (next ∷ words)) views id v all cost at live kept word there = absurd kept

-- the same of the closed table
pub ends : (parts : ℕ) (words : List ℕ) (slots : List (Unit {0})) (id : ℕ) (v : View) → v.parts ≡ parts → IsCostWord v.mine → 0 < v.parts
    → Final (Seen (holds parts) id v) words slots → (word : ℕ) → get_elem? words 0 ≡ some word → (word ≡ v.mine) × (word ≤ v.seen)
ends parts words slots id v all cost live final word there =
    ends_at parts final.0.words final.0.views id v all cost final.1.1 live final.1.0 word (ap (λ (l : List ℕ). get_elem? l 0) final.2 ∙ there)
