-- A schedule of a unit over q is made of q schedules in whole watts: with the floors of (p + j)/q and of (p + r + j)/q
-- for the j below q. Each rule is a limit on a difference of two of these numbers, so each of them keeps it, and their
-- values add up.
use Rattle.std.proofs.Common.{◌≡◌, ℕ, zero, suc, ◌+◌, ◌-◌, ◌/◌, ◌<◌, Bool, true, false, cond, List, refl, ap, ◌∙◌, arith, ℤ, pos, ◌+ℤ◌, ◌-ℤ◌, ◌*ℤ◌, ◌≤ℤ◌}
use Rattle.uc_model.specs.Prelude.{sum_below, hull_cost, starts, initial_p, last_stop, sigma, thermal_unit}
use Rattle.uc_model.proofs.Common.{linear, one-mul, mul-add, sum_below-same, sum_below-zero, sum_below-add, sum_below-sub, sum_below-mul_left, sum_below-const, sum_below-swap, sum_below-le}
use Rattle.dual_model.specs.Prelude.{pi_at, mu_at, Point, Thermal, Instance, Node, Table, UnitSchedule, slope_from, output_before, IsUnitScheduleAt, IsUnitSchedule, exact_cell_value, exact_period_value, unit_schedule_value, WholeWattsBound, WholeWattsExist}
use Rattle.dual_model.specs.ExactValue.{floored_cost}
use Rattle.dual_model.proofs.Hermite.{div_one, counted, floors, difference, above_none, below_floor, floor_mono}

-- the schedule of number j
abbrev pub share : ℕ → UnitSchedule → ℕ → UnitSchedule
share q x j = record {
  on = x.on;
  p = λ t. (x.p t + j) / q;
  r = λ t. (x.p t + x.r t + j) / q - (x.p t + j) / q;
}

-- ---- it keeps the rules
held : (q p r j : ℕ) → 0 < q → (p + j) / q + ((p + r + j) / q - (p + j) / q) ≡ (p + r + j) / q
held q p r j some = let below = floor_mono q (p + j) (p + r + j) some (omega arith) in omega (arith, below)

-- output and reserve together
total : (q j t : ℕ) (x : UnitSchedule) → 0 < q → pos ((share q x j).p t) +ℤ pos ((share q x j).r t) ≡ pos ((x.p t + x.r t + j) / q)
total q j t x some = ap pos (held q (x.p t) (x.r t) j some)

within : (q j t : ℕ) (x : UnitSchedule) (c : ℤ) → 0 < q → j < q → (pos (x.p t) +ℤ pos (x.r t)) ≤ℤ (pos q *ℤ c)
    → (pos ((share q x j).p t) +ℤ pos ((share q x j).r t)) ≤ℤ (pos 1 *ℤ c)
within q j t x c some l h = grind (arith, linear, total, above_none, one-mul, some, l, h)

rises : (q j t : ℕ) (unit : Thermal) (x : UnitSchedule) → 0 < q → j < q
    → (pos (x.p t) +ℤ pos (x.r t) -ℤ output_before q unit x t) ≤ℤ (pos q *ℤ unit.ru)
    → (pos ((share q x j).p t) +ℤ pos ((share q x j).r t) -ℤ output_before 1 unit (share q x j) t) ≤ℤ (pos 1 *ℤ unit.ru)
rises q j zero unit x some l h =
    let sum = total q j 0 x some in
    let parts = mul-add (pos q) unit.ru (initial_p unit) in
    let below = above_none q (x.p 0 + x.r 0) j (unit.ru +ℤ initial_p unit) some l (omega (arith, linear, h, parts)) in
    omega (arith, linear, sum, below, one-mul unit.ru, one-mul (initial_p unit))
rises q j (suc t) unit x some l h = grind (arith, linear, total, difference, one-mul, some, l, h)

falls : (q j t : ℕ) (unit : Thermal) (x : UnitSchedule) → 0 < q → j < q → (output_before q unit x t -ℤ pos (x.p t)) ≤ℤ (pos q *ℤ unit.rd)
    → (output_before 1 unit (share q x j) t -ℤ pos ((share q x j).p t)) ≤ℤ (pos 1 *ℤ unit.rd)
falls q j zero unit x some l h =
    let parts = mul-add (pos q) unit.rd (initial_p unit -ℤ unit.rd) in
    let whole : unit.rd +ℤ (initial_p unit -ℤ unit.rd) ≡ initial_p unit = omega (arith, linear) in
    let given = ap (λ z. pos q *ℤ z) whole in
    let above = below_floor q (x.p 0) j (initial_p unit -ℤ unit.rd) some (omega (arith, linear, h, parts, given)) in
    omega (arith, linear, above, one-mul unit.rd, one-mul (initial_p unit))
falls q j (suc t) unit x some l h = grind (arith, linear, difference, one-mul, some, l, h)

idle : (q p r j : ℕ) → 0 < q → j < q → p ≡ 0 → r ≡ 0 → ((p + j) / q ≡ 0) × ((p + r + j) / q - (p + j) / q ≡ 0)
idle q p r j some l none no_reserve = grind (arith, linear, some, l, none, no_reserve)

share-at : (periods q j : ℕ) (unit : Thermal) (x : UnitSchedule) (t : ℕ) → 0 < q → j < q → IsUnitScheduleAt periods q unit x t
    → IsUnitScheduleAt periods 1 unit (share q x j) t
share-at periods q j unit x t some l h = grind (arith, linear, idle, above_none, one-mul, within, rises, falls, some, l, h)

-- each is a schedule in whole watts
pub share-is : (instance : Instance) (node : Node) (g q j : ℕ) (x : UnitSchedule) → j < q → IsUnitSchedule instance node g q x
    → IsUnitSchedule instance node g 1 (share q x j)
share-is instance node g q j x l is = record {
  denominator = omega arith;
  pattern = is.pattern;
  each = λ t within. share-at instance.periods q j (thermal_unit instance g) x t is.denominator l (is.each t within);
}

-- so there is one
pub whole_watts_exist : WholeWattsExist
whole_watts_exist instance node g q x is = (share q x 0, share-is instance node g q 0 x is.denominator is)

-- ---- their values add up
-- L
floored_shares : (points : List Point) (k : ℤ) (q p : ℕ) → 0 < q
    → sum_below q (λ j. floored_cost points k 1 ((p + j) / q)) ≡ floored_cost points k q p
unfolding floored_cost
floored_shares points k q p some =
    let base = k *ℤ hull_cost points 1 (pos 0) in
    let slope = slope_from points k in
    let parts = sum_below-add q (λ j. pos 1 *ℤ base) (λ j. sum_below ((p + j) / q) (λ y. slope (y / 1))) in
    let first : sum_below q (λ j. pos 1 *ℤ base) ≡ pos q *ℤ base =
    sum_below-const q (pos 1 *ℤ base) ∙ ap (λ z. pos q *ℤ z) (one-mul base) in
    let second : sum_below q (λ j. sum_below ((p + j) / q) (λ y. slope (y / 1))) ≡ sum_below p (λ y. slope (y / q)) =
    counted q p (λ y. slope (y / 1)) some
    ∙ sum_below-same p (λ y. slope (y / q / 1)) (λ y. slope (y / q)) (λ y l. ap slope (div_one (y / q))) in
    parts ∙ (λ i. first i +ℤ second i)

-- the reserves
reserve_shares : (q p r : ℕ) → 0 < q → sum_below q (λ j. pos ((p + r + j) / q - (p + j) / q)) ≡ pos r
reserve_shares q p r some =
    let each = sum_below-same q (λ j. pos ((p + r + j) / q - (p + j) / q))
    (λ j. pos ((p + r + j) / q) -ℤ pos ((p + j) / q))
    (λ j l. let sum = held q p r j some in omega (arith, linear, sum)) in
    let parts = sum_below-sub q (λ j. pos ((p + r + j) / q)) (λ j. pos ((p + j) / q)) in
    let whole = floors q (p + r) some in
    let own = floors q p some in
    omega (arith, linear, each, parts, whole, own)

-- an on cell
cell_shares : (table : Table) (q : ℕ) (unit : Thermal) (x : UnitSchedule) (t : ℕ) → 0 < q
    → sum_below q (λ j. exact_cell_value table 1 unit (share q x j) t) ≡ exact_cell_value table q unit x t
cell_shares table q unit x t some =
    let pi = pi_at table t in
    let mu = mu_at table t in
    let cost = λ (j : ℕ). floored_cost unit.points table.k 1 ((x.p t + j) / q) in
    let output = λ (j : ℕ). pos ((x.p t + j) / q) +ℤ pos 1 *ℤ unit.pmin in
    let reserve = λ (j : ℕ). pos ((x.p t + x.r t + j) / q - (x.p t + j) / q) in
    let outer = sum_below-sub q (λ j. cost j -ℤ pi *ℤ output j) (λ j. mu *ℤ reserve j) in
    let inner = sum_below-sub q cost (λ j. pi *ℤ output j) in
    let costs = floored_shares unit.points table.k q (x.p t) some in
    let minimum : sum_below q (λ j. pos 1 *ℤ unit.pmin) ≡ pos q *ℤ unit.pmin =
    sum_below-const q (pos 1 *ℤ unit.pmin) ∙ ap (λ z. pos q *ℤ z) (one-mul unit.pmin) in
    let own : sum_below q output ≡ pos (x.p t) +ℤ pos q *ℤ unit.pmin =
    sum_below-add q (λ j. pos ((x.p t + j) / q)) (λ j. pos 1 *ℤ unit.pmin)
    ∙ (λ i. floors q (x.p t) some i +ℤ minimum i) in
    let outputs : sum_below q (λ j. pi *ℤ output j) ≡ pi *ℤ (pos (x.p t) +ℤ pos q *ℤ unit.pmin) =
    sum_below-mul_left q pi output ∙ ap (λ z. pi *ℤ z) own in
    let reserves : sum_below q (λ j. mu *ℤ reserve j) ≡ mu *ℤ pos (x.r t) =
    sum_below-mul_left q mu reserve ∙ ap (λ z. mu *ℤ z) (reserve_shares q (x.p t) (x.r t) some) in
    outer ∙ (λ i. inner i -ℤ reserves i) ∙ (λ i. costs i -ℤ outputs i -ℤ mu *ℤ pos (x.r t))

sum_cond : (q : ℕ) (b : Bool) (f : ℕ → ℤ) → sum_below q (λ j. cond b (f j) (pos 0)) ≡ cond b (sum_below q f) (pos 0)
sum_cond q true f = refl
sum_cond q false f = sum_below-zero q (λ j. pos 0) (λ j l. refl)

-- a period
period_shares : (table : Table) (q : ℕ) (unit : Thermal) (x : UnitSchedule) (t : ℕ) → 0 < q
    → sum_below q (λ j. exact_period_value table 1 unit (share q x j) t) ≡ exact_period_value table q unit x t
period_shares table q unit x t some =
    let start = table.k *ℤ sigma unit (last_stop unit x.on t) t in
    let on = x.on t in
    let begins = starts unit x.on t in
    let cell = λ (j : ℕ). exact_cell_value table 1 unit (share q x j) t in
    let parts = sum_below-add q (λ j. cond on (cell j) (pos 0)) (λ j. cond begins (pos 1 *ℤ start) (pos 0)) in
    let cells : sum_below q (λ j. cond on (cell j) (pos 0)) ≡ cond on (exact_cell_value table q unit x t) (pos 0) =
    sum_cond q on cell ∙ ap (λ z. cond on z (pos 0)) (cell_shares table q unit x t some) in
    let begun : sum_below q (λ j. cond begins (pos 1 *ℤ start) (pos 0)) ≡ cond begins (pos q *ℤ start) (pos 0) =
    sum_cond q begins (λ j. pos 1 *ℤ start)
    ∙ ap (λ z. cond begins z (pos 0)) (sum_below-const q (pos 1 *ℤ start) ∙ ap (λ z. pos q *ℤ z) (one-mul start)) in
    parts ∙ (λ i. cells i +ℤ begun i)

-- the whole
pub value_shares : (instance : Instance) (table : Table) (g q : ℕ) (x : UnitSchedule) → 0 < q
    → sum_below q (λ j. unit_schedule_value instance table g 1 (share q x j)) ≡ unit_schedule_value instance table g q x
value_shares instance table g q x some =
    let unit = thermal_unit instance g in
    sum_below-swap q instance.periods (λ j t. exact_period_value table 1 unit (share q x j) t)
    ∙ sum_below-same instance.periods _ (exact_period_value table q unit x) (λ t l. period_shares table q unit x t some)

-- a number that bounds each of them bounds their sum
pub whole_watts_bound : WholeWattsBound
whole_watts_bound instance node table g m bound q x is =
    let value = λ (j : ℕ). unit_schedule_value instance table g 1 (share q x j) in
    let each = sum_below-le q (λ j. m) value (λ j l. bound (share q x j) (share-is instance node g q j x l is)) in
    let times = sum_below-const q m in
    let whole = value_shares instance table g q x is.denominator in
    omega (arith, linear, each, times, whole)
