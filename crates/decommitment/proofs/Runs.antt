-- The run of a commitment is the beginning of its dispatch.
use Rattle.std.proofs.Common.{◌≡◌, ℕ, zero, suc, ◌+◌, ◌<◌, ◌≤◌, inl, inr, refl, sym, ap, subst, ◌∙◌, arith, List, [], ◌∷◌, ◌++◌, length, get_or, ℤ}
use Rattle.std.proofs.lemmas.List.{get_or-map, get_or_append_left, get_or_push, length_push}
use Rattle.uc_model.specs.Prelude.{IsLawfulInstance, cell_at, shed_at, short_at, thermal_count, thermal_unit}
use Rattle.uc_model.specs.declared.schedule.Cell.{Cell}
use Rattle.uc_model.proofs.Common.{below_or_last}
use Rattle.dispatch_repair.specs.Prelude.{AreBeforePeriod, IsSizedOutput, next_period, thermal_amount, IsDispatchedFrom}
use Rattle.dispatch_repair.specs.declared.segment.Segment.{Segment}
use Rattle.dispatch_repair.proofs.Endings.{IsThrough, begun, more}
use Rattle.dispatch_repair.proofs.Periods.{dispatch_through, initial_size, obstacle_of}
use Rattle.dispatch_repair.proofs.Reaches.{heads_are, heads_in}
use Rattle.dispatch_repair.proofs.Regular.{regular}
use Rattle.decommitment.specs.DropCommitment.{Instance, Pattern}
use Rattle.decommitment.specs.inside.Fills.{IsFill}
use Rattle.decommitment.specs.inside.Runs.{Fill, AreDispatched, AreFills, AreInitial, AreSized, IsBarred, IsTrialOf, lack_at, outputs_at, outputs_before}
use Rattle.decommitment.specs.inside.Turns.{AreAllowed}
use Rattle.decommitment.specs.declared.stand.Trial.TheVariants as trial
use Rattle.decommitment.proofs.Drops.{stuck_in}

-- ---- lists
-- the element at a place within a list
pub record HasElement {X : Type 0} (xs : List X) (i : ℕ) : Type 0 where
  pub item : X
  pub is : item ≡ get_or xs i item

pub element : {X : Type 0} (xs : List X) (i : ℕ) → i < length xs → HasElement xs i
element [] i h = absurd (omega (arith, h))
element (x ∷ xs) zero h = record { item = x; is = refl }
element (x ∷ xs) (suc i) h = let it = element xs i (omega (arith, h)) in record { item = it.item; is = it.is }

pub outputs_here : (fills : List Fill) (t : ℕ) (fill : Fill) → t < length fills → fill ≡ get_or fills t fill → outputs_at fills t ≡ fill.amounts.items
outputs_here fills t fill h is = get_or-map (λ (f : Fill). f.amounts.items) fills t fill [] h ∙ ap (λ (f : Fill). f.amounts.items) (sym is)

pub lack_here : (fills : List Fill) (t : ℕ) (fill : Fill) → t < length fills → fill ≡ get_or fills t fill → lack_at fills t ≡ fill.shortage
lack_here fills t fill h is = get_or-map (λ (f : Fill). f.shortage) fills t fill _ h ∙ ap (λ (f : Fill). f.shortage) (sym is)

-- ---- a period more
module _ (start : List ℤ) (fills : List Fill) (fill : Fill) where
  abbrev longer : List Fill
  longer = fills ++ fill ∷ []

  before_longer : (t : ℕ) → t ≤ length fills → outputs_before start fills t ≡ outputs_before start longer t
  before_longer zero h = refl
  before_longer (suc t) h =
      let long : length longer ≡ length fills + 1 = length_push fills fill in
      get_or-map (λ (f : Fill). f.amounts.items) fills t fill [] (omega (arith, h))
      ∙ ap (λ (f : Fill). f.amounts.items) (sym (get_or_append_left fills (fill ∷ []) fill t (omega (arith, h))))
      ∙ sym (get_or-map (λ (f : Fill). f.amounts.items) longer t fill [] (omega (arith, h, long)))

  pub pushed : (instance : Instance) (order : List Segment) (patterns : List Pattern) → AreFills instance order patterns start fills
      → length fills < instance.periods → IsFill instance order patterns (length fills) (outputs_before start fills (length fills)) fill
      → AreFills instance order patterns start longer
  pushed instance order patterns are within new = record {
    few = omega (arith, within, length_push fills fill);
    each = λ t one h is. elim (below_or_last (length fills) t (omega (arith, h, length_push fills fill))) [
      | inl early ↦ subst (λ xs. IsFill instance order patterns t xs one) (before_longer t (omega (arith, early)))
          (are.each t one early (is ∙ get_or_append_left fills (fill ∷ []) one t early))
      | inr last ↦
          let same : one ≡ fill = is ∙ get_or_push fills fill one t (sym last) in
          let moved = subst (λ xs. IsFill instance order patterns (length fills) xs fill) (before_longer (length fills) (omega arith)) new in
          subst (λ k. IsFill instance order patterns k (outputs_before start longer k) one) (sym last)
          (subst (IsFill instance order patterns (length fills) (outputs_before start longer (length fills))) (sym same) moved)
    ];
  }

-- ---- the periods of a schedule
module _ (instance : Instance) (order : List Segment) (patterns : List Pattern) (start : List ℤ) (fills : List Fill) (lawful : IsLawfulInstance instance)
    (initial : AreInitial instance start) (are : AreFills instance order patterns start fills) where
  pub sized : AreSized instance fills
  sized t fill h is = (are.each t fill h is).count

  -- a period was filled from its amounts
  is_dispatched : (t : ℕ) (fill : Fill) (h : t < length fills) (is : fill ≡ get_or fills t fill)
      → IsDispatchedFrom (next_period instance patterns t (outputs_before start fills t)) fill.shortage fill.amounts.items
      (heads_in (next_period instance patterns t (outputs_before start fills t)))
  is_dispatched t fill h is =
      let filled = are.each t fill h is in
      let period = next_period instance patterns t (outputs_before start fills t) in
      filled.dispatched (heads_in period) (heads_are period lawful filled.was.period filled.was.sizes)

  -- what the sources give before a period is so
  pub before_period : length patterns ≡ thermal_count instance → (t : ℕ) → t ≤ length fills → t < instance.periods
      → AreBeforePeriod instance patterns t (outputs_before start fills t)
  before_period count zero h within = record {
    lawful = lawful;
    pattern_count = count;
    period = within;
    count = initial.count;
    sizes = λ g hg. subst IsSizedOutput (sym (initial.are g hg)) (initial_size (thermal_unit instance g) (lawful.thermal g hg));
  }
  before_period count (suc t) h within =
      let one = element fills t (omega (arith, h)) in
      let out = outputs_here fills t one.item (omega (arith, h)) one.is in
      record {
        lawful = lawful;
        pattern_count = count;
        period = within;
        count = ap length out ∙ sized t one.item (omega (arith, h)) one.is;
        sizes = λ g hg. subst (λ xs. IsSizedOutput (thermal_amount instance xs g)) (sym out)
            ((is_dispatched t one.item (omega (arith, h)) one.is).sizes g hg);
      }

  -- the first t periods are those of a schedule
  record IsGiven (t : ℕ) : Type 0 where
    through : IsThrough instance patterns t (outputs_before start fills t)
    outputs : (g k : ℕ) → g < thermal_count instance → k < t → (cell_at through.printed g k).p ≡ thermal_amount instance (outputs_at fills k) g
    shed : (k : ℕ) → k < t → shed_at through.printed k ≡ (lack_at fills k).shed
    short : (k : ℕ) → k < t → short_at through.printed k ≡ (lack_at fills k).short

  given : (t : ℕ) → t ≤ length fills → IsGiven t
  given zero h = record {
    through = begun instance patterns start lawful initial.count initial.are;
    outputs = λ g k hg hk. absurd (omega (arith, hk));
    shed = λ k hk. absurd (omega (arith, hk));
    short = λ k hk. absurd (omega (arith, hk));
  }
  given (suc t) h =
      let was = given t (omega (arith, h)) in
      let one = element fills t (omega (arith, h)) in
      let before = outputs_before start fills t in
      let period = next_period instance patterns t before in
      let out = outputs_here fills t one.item (omega (arith, h)) one.is in
      let lack = lack_here fills t one.item (omega (arith, h)) one.is in
      let done = subst (λ z. z) (λ i. IsDispatchedFrom period (sym lack i) (sym out i) (heads_in period)) (is_dispatched t one.item (omega (arith, h)) one.is) in
      let next = more instance patterns t before (outputs_at fills t) (heads_in period) (lack_at fills t) (omega (arith, h, are.few)) was.through
      (ap length out ∙ sized t one.item (omega (arith, h)) one.is) done in
      record {
        through = next.through;
        outputs = λ g k hg hk. elim (below_or_last t k hk) [
          | inl early ↦ ap (λ (c : Cell). c.p) (next.is.others.cells g k (omega (arith, early))) ∙ was.outputs g k hg early
          | inr last ↦ subst (λ j. (cell_at next.through.printed g j).p ≡ thermal_amount instance (outputs_at fills j) g) (sym last) (next.is.cells g hg).p
        ];
        shed = λ k hk. elim (below_or_last t k hk) [
          | inl early ↦ next.is.others.shed k (omega (arith, early)) ∙ was.shed k early
          | inr last ↦ subst (λ j. shed_at next.through.printed j ≡ (lack_at fills j).shed) (sym last) next.is.shed
        ];
        short = λ k hk. elim (below_or_last t k hk) [
          | inl early ↦ next.is.others.short k (omega (arith, early)) ∙ was.short k early
          | inr last ↦ subst (λ j. short_at next.through.printed j ≡ (lack_at fills j).short) (sym last) next.is.short
        ];
      }

  -- through all periods they are the commitment's dispatch
  pub dispatched : AreAllowed instance patterns → length fills ≡ instance.periods → AreDispatched instance patterns fills
  dispatched allowed all =
      let was = given instance.periods (omega (arith, all)) in
      record {
        printed = was.through.printed;
        dispatch = dispatch_through instance patterns was.through.printed (outputs_before start fills instance.periods) (regular instance patterns allowed) was.through.is;
        all = all;
        sized = sized;
        outputs = was.outputs;
        lacks = record { whole = was.through.is.committed.shape.whole; shed = was.shed; short = was.short };
      }

  -- where the next period can't be filled the commitment is stuck
  pub stuck_there : AreAllowed instance patterns → (t : ℕ) → IsBarred instance patterns start fills t → IsTrialOf instance patterns (trial.Stuck t)
  stuck_there allowed t barred =
      let was = given t (omega (arith, barred.last)) in
      let found = obstacle_of instance patterns t was.through.printed (outputs_before start fills t) barred.why was.through.is barred.within barred.first in
      record {
        printed = was.through.printed;
        ending = stuck_in instance patterns was.through.printed (record { period = t; why = barred.why }) allowed was.through.is.committed.shape found;
      }
