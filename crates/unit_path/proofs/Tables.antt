-- The table with one entry more, and the sizes of its entries.
use Rattle.std.proofs.Common.{◌≡◌, ℕ, suc, ◌+◌, ◌-◌, ◌*◌, ◌<◌, ◌≤◌, ⊎_elim, Bool, true, false, List, length, refl, sym, subst, ◌∙◌, arith, ℤ, ◌*ℤ◌, Option, Some, None, slice_set, unsigned_abs, get_or-set_other, get_or-set_same, length-set}
use Rattle.std.proofs.lemmas.Int.{ints}
use Rattle.std.proofs.lemmas.Bool.{cases_Bool, cases_lt}
use Rattle.uc_model.specs.Prelude.{IsLawfulThermal, period_count}
use Rattle.uc_model.specs.declared.limits.TheConstants.{MAX_COST}
use Rattle.uc_model.proofs.Common.{abs_mul}
use Rattle.dual_model.specs.Prelude.{AreSizedTerms, IsWithin, MAX_COST_TO_GO, MAX_MOVE, lesser_of, total_of}
use Rattle.dual_model.proofs.CostSizes.{cost_to_go-size, more_room, lesser_of-size}
use Rattle.unit_path.specs.inside.Choices.{Fix, Terms, Thermal, Choice, choice_cost}
use Rattle.unit_path.specs.inside.Hours.{Hour, hour_in, IsEnd, IsHour, IsStartIn, IsStopIn, IsTableFrom, IsUntil, IsWithinMoves}

-- ---- writes
-- the table of the end alone
pub table-end : (terms : Terms) (unit : Thermal) (fix : Fix) (hours : List Hour) (end : Hour) (from at : ℕ) → length hours ≡ suc (period_count terms)
    → at ≡ period_count terms → period_count terms ≤ from → IsEnd terms unit fix end → IsTableFrom terms unit fix from (slice_set hours at end)
table-end terms unit fix hours end from at count e past is = grind (arith, ints, slice_set, length-set, get_or-set_same, count, e, past, is)

pub table-more : (terms : Terms) (unit : Thermal) (fix : Fix) (hours : List Hour) (hour : Hour) (from at : ℕ) → at ≡ from → from < period_count terms
    → IsTableFrom terms unit fix (suc from) hours → IsHour terms unit fix from hour → IsTableFrom terms unit fix from (slice_set hours at hour)
table-more terms unit fix hours hour from at e h later is =
    let kept : length (slice_set hours at hour) ≡ length hours = length-set hours at hour in
    let count = later.count in
    record {
      count = kept ∙ count;
      hour = λ t low high. ⊎_elim
          (λ (here : t < suc from).
          let same : at ≡ t = omega arith in
          subst (λ k. IsHour terms unit fix k (hour_in (slice_set hours at hour) k)) same
          (subst (λ x. IsHour terms unit fix at x) (sym (get_or-set_same hours at hour _ (omega arith)))
          (subst (λ k. IsHour terms unit fix k hour) (sym e) is)))
          (λ (after : suc from ≤ t).
          subst (λ x. IsHour terms unit fix t x) (sym (get_or-set_other hours at t hour _ (λ same. omega arith))) (later.hour t after high))
          (cases_lt t (suc from));
      end = subst (λ x. IsEnd terms unit fix x) (sym (get_or-set_other hours at (period_count terms) hour _ (λ same. omega arith))) later.end;
    }

-- ---- until when a state may last
pub until-step : (may : ℕ → Bool) (periods t next until : ℕ) → t < periods → (may t ≡ true → until ≡ next) → (may t ≡ false → until ≡ t)
    → IsUntil may periods (suc t) next → IsUntil may periods t until
until-step may periods t next until h on off later = grind (arith, ints, h, on, off, later)

-- ---- sizes
moves-fit : (n : ℕ) (cost : Option ℤ) → n ≤ 168 → IsWithin (MAX_MOVE * n + MAX_MOVE) cost → IsWithin MAX_COST_TO_GO cost
moves-fit n cost h size = more_room (MAX_MOVE * n + MAX_MOVE) MAX_COST_TO_GO cost (omega arith) size

pub onward-moves : (terms : Terms) (unit : Thermal) (fix : Fix) (from : ℕ) (hours : List Hour) → IsTableFrom terms unit fix from hours
    → (t : ℕ) → from ≤ t → t ≤ period_count terms → IsWithinMoves (period_count terms - t) (hour_in hours t).onward
onward-moves terms unit fix from hours table t low high = grind (arith, ints, table, low, high)

pub cold_start-moves : (terms : Terms) (unit : Thermal) (fix : Fix) (from : ℕ) (hours : List Hour) → IsTableFrom terms unit fix from hours
    → (t : ℕ) → from ≤ t → t ≤ period_count terms → IsWithinMoves (period_count terms - t) (hour_in hours t).cold_start
cold_start-moves terms unit fix from hours table t low high = grind (arith, ints, table, low, high)

-- the way that goes on where it may
pub later-moves : (may : Bool) (n : ℕ) (next later : Option Choice) → (may ≡ true → later ≡ next) → (may ≡ false → later ≡ None)
    → IsWithinMoves n next → IsWithinMoves n later
later-moves true n next later on off size = subst (λ o. IsWithinMoves n o) (sym (on refl)) size
later-moves false n next later on off size = subst (λ o. IsWithinMoves n o) (sym (off refl)) tt

pub stop-moves : (unit : Thermal) (terms : Terms) (fix : Fix) → IsLawfulThermal unit → AreSizedTerms unit terms → (t : ℕ) (choice : Option Choice) → t < period_count terms
    → IsStopIn terms unit fix t choice → IsWithinMoves (period_count terms - suc t) choice
stop-moves unit terms fix lawful sized t choice h entry = grind (arith, ints, cost_to_go-size, cases_Bool, lawful, sized, h, entry)

pub start-moves : (unit : Thermal) (terms : Terms) (fix : Fix) → IsLawfulThermal unit → AreSizedTerms unit terms → (t : ℕ) (choice : Option Choice) → t < period_count terms
    → IsStartIn terms unit fix t choice → IsWithinMoves (period_count terms - suc t) choice
start-moves unit terms fix lawful sized t choice h entry = grind (arith, ints, cost_to_go-size, cases_Bool, lawful, sized, h, entry)

-- a move before such a way
pub move-before : (terms : Terms) (t : ℕ) (move cost : Option ℤ) (choice : Option Choice) → t < period_count terms → IsWithin MAX_MOVE move
    → cost ≡ total_of move (choice_cost choice) → IsWithinMoves (period_count terms - suc t) choice
    → IsWithin (MAX_MOVE * (period_count terms - t) + MAX_MOVE) cost
move-before terms t move cost choice h small is size = grind (arith, ints, h, small, is, size)

pub lesser-moves : (n : ℕ) (a b : Option ℤ) (choice : Option Choice) → choice_cost choice ≡ lesser_of a b
    → IsWithin (MAX_MOVE * n + MAX_MOVE) a → IsWithin (MAX_MOVE * n + MAX_MOVE) b → IsWithinMoves n choice
lesser-moves n a b choice is h k = subst (λ o. IsWithin (MAX_MOVE * n + MAX_MOVE) o) (sym is) (lesser_of-size a b (MAX_MOVE * n + MAX_MOVE) h k)

pub within-fits : (unit : Thermal) (terms : Terms) → AreSizedTerms unit terms → (t : ℕ) (cost : Option ℤ)
    → IsWithin (MAX_MOVE * (period_count terms - t) + MAX_MOVE) cost → IsWithin MAX_COST_TO_GO cost
within-fits unit terms sized t cost size = moves-fit (period_count terms - t) cost (omega (arith, sized.periods.1)) size

-- what a start costs
pub start_cost-size : (unit : Thermal) (terms : Terms) → AreSizedTerms unit terms → (cost : ℤ) → unsigned_abs cost ≤ MAX_COST → IsWithin MAX_MOVE (Some (terms.k *ℤ cost))
start_cost-size unit terms sized cost small = grind (arith, ints, abs_mul, sized, small)

pub one_more-moves : (n m : ℕ) (choice : Option Choice) → n ≤ m → IsWithinMoves n choice → IsWithinMoves m choice
one_more-moves n m choice h size = more_room (MAX_MOVE * n + MAX_MOVE) (MAX_MOVE * m + MAX_MOVE) (choice_cost choice) (omega arith) size
