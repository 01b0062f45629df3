-- The numbers are small.
use Rattle.std.proofs.Common.{◌≡◌, ℕ, ◌*◌, ◌^◌, ◌<◌, ◌≤◌, lit<, ap, ◌∙◌, arith, ℤ, pos, ◌+ℤ◌, ◌-ℤ◌, ◌*ℤ◌, ◌≤ℤ◌, to_z, of_z, unsigned_abs}
use mir.Val.{SFits}
use Rattle.std.specs.Int.{w64, w128}
use Rattle.std.proofs.lemmas.Int.{ints}
use Rattle.uc_model.proofs.Common.{abs_mul, narrow}
use Rattle.step_functions.specs.Functions.{Steps, IsPlace, last_place, value_at}
use Rattle.hull_function.specs.Hours.{IsSizedHour, MAX_HOUR}
use Rattle.hull_function.specs.Hulls.{IsHullFunction, MAX_HULL}
use Rattle.hull_function.specs.Problems.{MAX_POWER, MAX_PRICE}
use Rattle.hull_function.specs.declared.hour.Hour.{Hour}
use Rattle.unit_exact.proofs.output_costs.cost.Goals as goal

-- what is read is what there is, and all of it is small
record AreRead (hull : Steps) (hour : Hour) (output value price place worth limit : ℤ) : Type 0 where
  value_is : value ≡ value_at hull output
  paid_is : to_z w128 (of_z w128 price) *ℤ to_z w128 (of_z w128 place) ≡ hour.price *ℤ output
  earned_is : to_z w128 (of_z w128 worth) *ℤ to_z w128 (of_z w128 limit) ≡ hour.worth *ℤ hour.cap
  value_small : unsigned_abs (value_at hull output) ≤ MAX_HULL
  paid_small : unsigned_abs (hour.price *ℤ output) ≤ (2 * MAX_PRICE) * (2 * MAX_POWER)
  earned_small : unsigned_abs (hour.worth *ℤ hour.cap) ≤ MAX_PRICE * MAX_POWER

read : (hull : Steps) (hour : Hour) (output value price place worth limit : ℤ) → IsHullFunction hull → IsSizedHour hour → IsPlace hull output
    → value ≡ value_at hull (to_z w64 (of_z w64 output)) → price ≡ to_z w64 (of_z w64 hour.price) → place ≡ to_z w64 (of_z w64 output)
    → worth ≡ to_z w64 (of_z w64 hour.worth) → limit ≡ to_z w64 (of_z w64 hour.cap) → AreRead hull hour output value price place worth limit
read hull hour output value price place worth limit is sized at e f g h k =
    let near = near_zero hull.first (last_place hull) output is.first is.last.1 at.low at.high in
    let worth_small = size_of hour.worth sized.worth.0 sized.worth.1 in
    let own = narrow output (2 * MAX_POWER) near (lit< tt) in
    record {
      value_is = e ∙ ap (value_at hull) own;
      paid_is = λ i. wide_is hour.price price (2 * MAX_PRICE) sized.price (lit< tt) f i *ℤ wide_is output place (2 * MAX_POWER) near (lit< tt) g i;
      earned_is = λ i. wide_is hour.worth worth MAX_PRICE worth_small (lit< tt) h i *ℤ wide_is hour.cap limit MAX_POWER sized.cap (lit< tt) k i;
      value_small = is.size output at;
      paid_small = abs_mul hour.price output (2 * MAX_PRICE) (2 * MAX_POWER) sized.price near;
      earned_small = abs_mul hour.worth hour.cap MAX_PRICE MAX_POWER worth_small sized.cap;
    }
  where
    near_zero : (first last z : ℤ) → first ≡ pos 0 → last ≤ℤ pos (2 * MAX_POWER) → first ≤ℤ z → z ≤ℤ last → unsigned_abs z ≤ 2 * MAX_POWER
    near_zero first last z e h low high = omega (arith, ints)

    size_of : (z : ℤ) → pos 0 ≤ℤ z → z ≤ℤ pos MAX_PRICE → unsigned_abs z ≤ MAX_PRICE
    size_of z low high = omega (arith, ints)

    wide_is : (z r : ℤ) (m : ℕ) → unsigned_abs z ≤ m → m < 2 ^ 63 → r ≡ to_z w64 (of_z w64 z) → to_z w128 (of_z w128 r) ≡ z
    wide_is z r m h k e = omega (arith, ints)

all : (c : goal.After-from-4) → AreRead c.args.hull.now c.args.hour.now c.args.output c.at.result c.from-3.result c.from-4.result c.from.result c.from-2.result
all c =
    read c.args.hull.now c.args.hour.now c.args.output c.at.result c.from-3.result c.from-4.result c.from.result c.from-2.result c.requires.hull c.requires.hour
    c.requires.output c.at.ensures c.from-3.ensures c.from-4.ensures c.from.ensures c.from-2.ensures

sum_fits : (a b x y : ℤ) → a ≡ x → b ≡ y → unsigned_abs x ≤ MAX_HULL → unsigned_abs y ≤ (2 * MAX_PRICE) * (2 * MAX_POWER)
    → SFits w128 (to_z w128 (of_z w128 a) +ℤ to_z w128 (of_z w128 b))
sum_fits a b x y e f h k = omega (arith, ints)

rest_fits : (a b d x y z : ℤ) → a ≡ x → b ≡ y → d ≡ z → unsigned_abs x ≤ MAX_HULL → unsigned_abs y ≤ (2 * MAX_PRICE) * (2 * MAX_POWER)
    → unsigned_abs z ≤ MAX_PRICE * MAX_POWER
    → SFits w128 (to_z w128 (of_z w128 (to_z w128 (of_z w128 a) +ℤ to_z w128 (of_z w128 b))) -ℤ to_z w128 (of_z w128 d))
rest_fits a b d x y z e f g h k l = omega (arith, ints)

rest_is : (a b d x y z : ℤ) → a ≡ x → b ≡ y → d ≡ z → unsigned_abs x ≤ MAX_HULL → unsigned_abs y ≤ (2 * MAX_PRICE) * (2 * MAX_POWER)
    → unsigned_abs z ≤ MAX_PRICE * MAX_POWER
    → to_z w128 (of_z w128 (to_z w128 (of_z w128 (to_z w128 (of_z w128 a) +ℤ to_z w128 (of_z w128 b))) -ℤ to_z w128 (of_z w128 d))) ≡ x +ℤ y -ℤ z
rest_is a b d x y z e f g h k l = omega (arith, ints)

pub overflow_add-result : goal.overflow_add-result
overflow_add-result c = let is = all c in sum_fits _ _ _ _ is.value_is is.paid_is is.value_small is.paid_small

pub overflow_sub-result : goal.overflow_sub-result
overflow_sub-result c = let is = all c in rest_fits _ _ _ _ _ _ is.value_is is.paid_is is.earned_is is.value_small is.paid_small is.earned_small

rest_small : (a b d x y z : ℤ) → a ≡ x → b ≡ y → d ≡ z → unsigned_abs x ≤ MAX_HULL → unsigned_abs y ≤ (2 * MAX_PRICE) * (2 * MAX_POWER)
    → unsigned_abs z ≤ MAX_PRICE * MAX_POWER
    → unsigned_abs (to_z w128 (of_z w128 (to_z w128 (of_z w128 (to_z w128 (of_z w128 a) +ℤ to_z w128 (of_z w128 b))) -ℤ to_z w128 (of_z w128 d)))) ≤ MAX_HOUR
rest_small a b d x y z e f g h k l = omega (arith, ints)

pub returns-clause-size : goal.returns-clause-size
returns-clause-size c = let is = all c in rest_small _ _ _ _ _ _ is.value_is is.paid_is is.earned_is is.value_small is.paid_small is.earned_small

pub returns-clause-value : goal.returns-clause-value
returns-clause-value c = let is = all c in rest_is _ _ _ _ _ _ is.value_is is.paid_is is.earned_is is.value_small is.paid_small is.earned_small
