-- Entries one after the other: those that were reckoned so far, and the sum of what they add.
use Rattle.std.proofs.Common.{◌≡◌, ℕ, suc, ◌+◌, ◌*◌, ◌<◌, ◌≤◌, ◌≢◌, List, length, Some, sym, ap, subst, ◌∙◌, arith, add-one, below_more, get_or-set_other, get_or-set_same, ℤ, ◌+ℤ◌, to_z, of_z, slice_set, unsigned_abs, length-set}
use Rattle.std.specs.Int.{w128}
use Rattle.uc_model.specs.Prelude.{thermal_unit, sum_below}
use Rattle.uc_model.proofs.Common.{linear, abs_add}
use Rattle.uc_model.proofs.Sizes.{wide}
use Rattle.dual_model.specs.Prelude.{MAX_COST_TO_GO}
use Rattle.leaf_values.specs.Entries.{TableEntries, Thermal, UnitEntry, MAX_CONSTANT, MAX_REST, entry_at, entry_in}
use Rattle.uc_model.specs.declared.instance.Instance.{Instance}
use Rattle.uc_model.specs.declared.limits.TheConstants.{MAX_UNITS}
use Rattle.leaf_values.specs.Paths.{Fix, fix_at}
use Rattle.leaf_values.specs.inside.Totals.{AreReckonedFor, IsReckonedFor, IsTotal, part_of, value_of}

-- ---- reckoned one after the other
-- the same of equal numbers
pub reckoned_as : (walk periods : ℕ) (unit same_unit : Thermal) (fix : Fix) (old same_old new : UnitEntry) → IsReckonedFor walk unit fix old new
    → walk ≡ periods → unit ≡ same_unit → old ≡ same_old → IsReckonedFor periods same_unit fix same_old new
reckoned_as walk periods unit same_unit fix old same_old new h e f k = grind (arith, linear, h, e, f, k)

-- the entries of the units from n on are as before
pub record AreKept (n : ℕ) (old new : List UnitEntry) : Type 0 where
  pub same : (k : ℕ) → n ≤ k → entry_in new k ≡ entry_in old k

pub kept_more : (n : ℕ) (old units : List UnitEntry) (entry : UnitEntry) → AreKept n old units → AreKept (n + 1) old (slice_set units n entry)
kept_more n old units entry kept = grind (arith, linear, get_or-set_other, kept)

pub reckoned_more : (instance : Instance) (fixes : List Fix) (n : ℕ) (old units : List UnitEntry) (new : UnitEntry) → n < length units
    → AreReckonedFor instance fixes n old units
    → IsReckonedFor instance.periods (thermal_unit instance n) (fix_at fixes n) (entry_in old n) new
    → AreReckonedFor instance fixes (n + 1) old (slice_set units n new)
reckoned_more instance fixes n old units new within so_far here = record {
  count = rw length-set so_far.count;
  unit =
      below_more _ _
      (λ (k : ℕ) (h : k < n). let other : k ≢ n = omega arith in rw get_or-set_other (so_far.unit k h))
      (rw get_or-set_same here);
}

-- ---- the sum
-- the total with the next unit's part, and its size
pub record OneMore (entries : TableEntries) (n : ℕ) (result : ℤ) : Type 0 where
  pub sum : IsTotal entries (n + 1) (to_z w128 (of_z w128 result))
  pub size : unsigned_abs (to_z w128 (of_z w128 result)) ≤ MAX_REST + (n + 1) * (MAX_COST_TO_GO + MAX_CONSTANT)

pub one_more : (entries : TableEntries) (n : ℕ) (total part result : ℤ) → n < MAX_UNITS → IsTotal entries n total
    → (entry_at entries n).value ≡ Some (value_of (entry_at entries n)) → part ≡ part_of (entry_at entries n)
    → result ≡ total +ℤ to_z w128 (of_z w128 part)
    → unsigned_abs total ≤ MAX_REST + n * (MAX_COST_TO_GO + MAX_CONSTANT) → unsigned_abs part ≤ MAX_COST_TO_GO + MAX_CONSTANT
    → OneMore entries n result
one_more entries n total part result few so_far valued is e most small =
    let whole : to_z w128 (of_z w128 part) ≡ part = wide part (MAX_COST_TO_GO + MAX_CONSTANT) small (omega arith) in
    let sum : result ≡ total +ℤ part = e ∙ ap (λ z. total +ℤ z) whole in
    let size : unsigned_abs result ≤ MAX_REST + (n + 1) * (MAX_COST_TO_GO + MAX_CONSTANT) =
    subst (λ z. unsigned_abs z ≤ MAX_REST + (n + 1) * (MAX_COST_TO_GO + MAX_CONSTANT)) (sym sum)
    (omega (arith, abs_add total part (MAX_REST + n * (MAX_COST_TO_GO + MAX_CONSTANT)) (MAX_COST_TO_GO + MAX_CONSTANT) most small)) in
    let kept = wide result (MAX_REST + (n + 1) * (MAX_COST_TO_GO + MAX_CONSTANT)) size (omega arith) in
    let terms = λ (g : ℕ). part_of (entry_at entries g) in
    let next : result ≡ entries.rest +ℤ sum_below (suc n) terms = omega (arith, linear, so_far.total, sum) in
    record {
      sum = grind (arith, linear, below_more, add-one, so_far, valued, total, kept, next, entries, terms, n);
      size = subst (λ z. unsigned_abs z ≤ MAX_REST + (n + 1) * (MAX_COST_TO_GO + MAX_CONSTANT)) (sym kept) size;
    }
