-- The row of a unit whose first m cells are those of the front, and whose n cells behind them are those of the back, keeps each rule of
-- the unit where the front keeps it, and the back by the unit as the front leaves it.
use Rattle.std.proofs.Common.{◌≡◌, ℕ, zero, suc, ◌+◌, ◌-◌, ◌<◌, ◌≤◌, ⊎_elim, min, Bool, true, false, not, ◌&&◌, ◌||◌, ◌==◌, List, refl, sym, ap, subst, ◌∙◌, arith, ℤ, pos, ◌+ℤ◌, ◌-ℤ◌, ◌*ℤ◌, ◌≤ℤ◌, IsTrue, int_le, nat_lt, if◌then◌else◌}
use Rattle.std.proofs.lemmas.Int.{ints}
use Rattle.std.proofs.lemmas.Bool.{cases_Bool, cases_lt, true≢false, not-true, ltb-true, lt-ltb, cond-true, cond-false, cond_both}
use Rattle.uc_model.specs.Prelude.{bit, Commitment, state_before, was_on, starts, stops, initial_p, initial_down_at, initial_stop_holds, initial_up_at, minimum_down_at, minimum_up_at, must_run_at, start_reduction, stop_reduction, stop_cap, IsLawfulThermal}
use Rattle.uc_model.proofs.Common.{linear, le_trans, mul-zero, int_le-true, le-int_le}
use Rattle.schedule_check.specs.WholeWatts as watts
use Rattle.schedule_check.proofs.Produced.{holds_from}
use Rattle.roll.specs.Prelude.{Thermal, Cell, CarriedUnit, HasLasted, IsLeft, initial_state, is_too_high_to_stop, time_off_so_far, time_on_left, time_on_so_far, continued, SameDispatch}
use Rattle.start_costs.specs.Cheapest.{HasLeastCategory}
use Rattle.roll.proofs.CarriedRows.{cap_below, reduction_nonneg}
use Rattle.roll.proofs.JoinedCells.{AreAlike, same_must_run, same_production, same_ramp_down, same_ramp_up, same_start_cap, same_stop_cap}
use Rattle.roll.proofs.JoinedStates.{HoldsInitially, Joins, before_new, before_old, initial_joined, last_of, lasting_joined, rises}
use Rattle.roll.proofs.LastingChanges.{EachLasts, each_lasts, keeps_minimum}

-- each rule of the unit but M6 holds in each of the periods
pub record KeepsRules (periods : ℕ) (unit : Thermal) (row : List Cell) : Type 0 where
  pub must_run : (t : ℕ) → t < periods → IsTrue (must_run_at unit (watts.commitment row) t)
  pub initial_up : (t : ℕ) → t < periods → IsTrue (initial_up_at unit (watts.commitment row) t)
  pub initial_down : (t : ℕ) → t < periods → IsTrue (initial_down_at unit (watts.commitment row) t)
  pub minimum_up : (t : ℕ) → t < periods → IsTrue (minimum_up_at periods unit (watts.commitment row) t)
  pub minimum_down : (t : ℕ) → t < periods → IsTrue (minimum_down_at periods unit (watts.commitment row) t)
  pub initial_stop : 1 ≤ periods → IsTrue (initial_stop_holds unit (watts.commitment row))
  pub production : (t : ℕ) → t < periods → IsTrue (watts.production_at unit row t)
  pub start_cap : (t : ℕ) → t < periods → IsTrue (watts.start_cap_by watts.whole unit row t)
  pub stop_cap : (t : ℕ) → t < periods → IsTrue (watts.stop_cap_by watts.whole periods unit row t)
  pub ramp_up : (t : ℕ) → t < periods → IsTrue (watts.ramp_up_by watts.whole unit row t)
  pub ramp_down : (t : ℕ) → t < periods → IsTrue (watts.ramp_down_by watts.whole unit row t)

-- the row joins the front and the first n cells of the back, which begins where the front leaves the unit
pub record RowJoins (unit : Thermal) (left : CarriedUnit) (front back row : List Cell) (m n len : ℕ) : Type 0 where
  pub lawful : IsLawfulThermal unit
  pub some : 1 ≤ n
  pub part : n ≤ len
  pub old : (t : ℕ) → t < m → SameDispatch (watts.cell front t) (watts.cell row t)
  pub new : (t : ℕ) → t < n → SameDispatch (watts.cell back t) (watts.cell row (m + t))
  pub categories : (t : ℕ) → t < m + n → HasLeastCategory unit (watts.commitment row) t (watts.category row t)
  pub is_left : IsLeft unit front m left
  pub front_keeps : KeepsRules m unit front
  pub back_keeps : KeepsRules len (continued unit left) back

-- ---- the last period of the front
-- the state and the output before the back are those that are left
state_is : (unit : Thermal) (left : CarriedUnit) (front back row : List Cell) (m n len : ℕ) → RowJoins unit left front back row m n len
    → state_before unit.on0 (watts.commitment row) m ≡ left.on
state_is unit left front back row m n len joins = ⊎_elim
    (λ (none : m < 1).
    let nought : m ≡ 0 = omega arith in
    ap (state_before unit.on0 (watts.commitment row)) nought ∙ sym (ap (λ (l : CarriedUnit). l.on) (joins.is_left.first nought)))
    (λ (some : 1 ≤ m).
    last_of unit.on0 (watts.commitment row) m some ∙ (joins.old (m - 1) (omega arith)).on ∙ sym (joins.is_left.later some).state)
    (cases_lt m 1)

output_last : (unit : Thermal) (row : List Cell) (m : ℕ) → 1 ≤ m → watts.output_before unit row m ≡ (watts.cell row (m - 1)).p
output_last unit row zero h = absurd (omega arith)
output_last unit row (suc m) h = let same : m ≡ suc m - 1 = omega arith in ap (λ k. (watts.cell row k).p) same

carried_output : (least output : ℤ) (on : Bool) (last : Cell) → on ≡ last.on → output ≡ (if last.on then least +ℤ last.p else pos 0)
    → (last.on ≡ false → last.p ≡ pos 0) → bit on *ℤ (output -ℤ least) ≡ last.p
carried_output least output on last state is idle = grind (arith, ints, state, is, idle)

output_is : (unit : Thermal) (left : CarriedUnit) (front back row : List Cell) (m n len : ℕ) → RowJoins unit left front back row m n len
    → watts.output_before unit row m ≡ initial_p (continued unit left)
output_is unit left front back row m n len joins = ⊎_elim
    (λ (none : m < 1).
    let nought : m ≡ 0 = omega arith in
    ap (watts.output_before unit row) nought ∙ sym (ap (λ (l : CarriedUnit). initial_p (continued unit l)) (joins.is_left.first nought)))
    (λ (some : 1 ≤ m).
    let later = joins.is_left.later some in
    let holds = holds_from watts.whole unit front (m - 1) (joins.front_keeps.production (m - 1) (omega arith)) in
    output_last unit row m some ∙ (joins.old (m - 1) (omega arith)).output
    ∙ sym (carried_output unit.pmin left.output left.on (watts.cell front (m - 1)) later.state later.output holds.idle))
    (cases_lt m 1)

-- ---- cells that are alike
output_old : (unit : Thermal) (front row : List Cell) (m t : ℕ) → ((k : ℕ) → k < m → SameDispatch (watts.cell front k) (watts.cell row k)) → t < m
    → watts.output_before unit row t ≡ watts.output_before unit front t
output_old unit front row m zero old h = refl
output_old unit front row m (suc t) old h = (old t (omega arith)).output

output_new : (unit : Thermal) (left : CarriedUnit) (front back row : List Cell) (m n len t : ℕ) → RowJoins unit left front back row m n len
    → t < n → watts.output_before unit row (m + t) ≡ watts.output_before (continued unit left) back t
output_new unit left front back row m n len zero joins h =
    let same : m + 0 ≡ m = omega arith in
    ap (watts.output_before unit row) same ∙ output_is unit left front back row m n len joins
output_new unit left front back row m n len (suc t) joins h =
    let next : m + suc t ≡ suc (m + t) = omega arith in
    ap (watts.output_before unit row) next ∙ (joins.new t (omega arith)).output

old_alike : (unit : Thermal) (left : CarriedUnit) (front back row : List Cell) (m n len t : ℕ) → RowJoins unit left front back row m n len
    → t < m → AreAlike unit (initial_state unit) row front t t
old_alike unit left front back row m n len t joins h = record {
  cell = joins.old t h;
  was = before_old unit.on0 (watts.commitment front) (watts.commitment row) m t (λ k l. (joins.old k l).on) h;
  before = output_old unit front row m t joins.old h;
}

new_alike : (unit : Thermal) (left : CarriedUnit) (front back row : List Cell) (m n len t : ℕ) → RowJoins unit left front back row m n len
    → t < n → AreAlike unit left row back (m + t) t
new_alike unit left front back row m n len t joins h = record {
  cell = joins.new t h;
  was = before_new unit.on0 left.on (watts.commitment back) (watts.commitment row) m n t (λ k l. (joins.new k l).on)
      (state_is unit left front back row m n len joins) h;
  before = output_new unit left front back row m n len t joins h;
}

-- what holds in the front and in the back holds throughout
pub throughout : (P : ℕ → Type 0) (m n : ℕ) → ((t : ℕ) → t < m → P t) → ((t : ℕ) → t < n → P (m + t)) → (t : ℕ) → t < m + n → P t
throughout P m n old new t h = ⊎_elim
    (λ (before : t < m). old t before)
    (λ (behind : m ≤ t). let place : m + (t - m) ≡ t = omega arith in subst P place (new (t - m) (omega arith)))
    (cases_lt t m)

-- ---- the states over the border
joins_on : (unit : Thermal) (left : CarriedUnit) (front back row : List Cell) (m n len : ℕ) → RowJoins unit left front back row m n len
    → Joins m n len unit.ut unit.ut0 left.time_on unit.on0 left.on (watts.commitment front) (watts.commitment back) (watts.commitment row)
joins_on unit left front back row m n len joins = record {
  part = joins.part;
  old = λ t h. (joins.old t h).on;
  new = λ t h. (joins.new t h).on;
  state = state_is unit left front back row m n len joins;
  first = λ e. ap (λ (l : CarriedUnit). l.time_on) (joins.is_left.first e);
  lasted = λ some held.
      let later = joins.is_left.later some in
      let is = later.time_on ∙ cond-true left.on (time_on_left unit (watts.cell front (m - 1)) m later.lasted) 0 held in (
        later.lasted,
        later.has_lasted,
        subst (λ z. z ≤ later.lasted + (if (later.lasted == m) && unit.on0 then unit.ut0 else 0)) (sym is)
            (at_most later.lasted),
      );
}
  where
    at_most : (k : ℕ) → time_on_left unit (watts.cell front (m - 1)) m k ≤ k + (if (k == m) && unit.on0 then unit.ut0 else 0)
    at_most k = cond_both (is_too_high_to_stop unit (watts.cell front (m - 1))) _ _ (λ z. z ≤ k + (if (k == m) && unit.on0 then unit.ut0 else 0))
        (λ e. omega arith) (λ e. omega arith)

not_not : (b : Bool) → not (not b) ≡ b
not_not true = refl
not_not false = refl

off_before : (initial : Bool) (on : Commitment) (t : ℕ) → state_before (not initial) (λ k. not (on k)) t ≡ not (state_before initial on t)
off_before initial on zero = refl
off_before initial on (suc t) = refl

off_lasted : (on : Commitment) (m k : ℕ) → HasLasted on m k → HasLasted (λ t. not (on t)) m k
off_lasted on m k has = grind (arith, ints, has)

joins_off : (unit : Thermal) (left : CarriedUnit) (front back row : List Cell) (m n len : ℕ) → RowJoins unit left front back row m n len
    → Joins m n len unit.dt unit.dt0 left.time_off (not unit.on0) (not left.on) (λ t. not (watts.commitment front t)) (λ t. not (watts.commitment back t))
    (λ t. not (watts.commitment row t))
joins_off unit left front back row m n len joins = record {
  part = joins.part;
  old = λ t h. ap not (joins.old t h).on;
  new = λ t h. ap not (joins.new t h).on;
  state = off_before unit.on0 (watts.commitment row) m ∙ ap not (state_is unit left front back row m n len joins);
  first = λ e. ap (λ (l : CarriedUnit). l.time_off) (joins.is_left.first e);
  lasted = λ some held.
      let later = joins.is_left.later some in
      let is = later.time_off ∙ cond-false left.on 0 (time_off_so_far unit m later.lasted) (not-true left.on held) in (
        later.lasted,
        off_lasted (watts.commitment front) m later.lasted later.has_lasted,
        subst (λ z. z ≤ later.lasted + (if (later.lasted == m) && not unit.on0 then unit.dt0 else 0)) (sym is) (omega arith),
      );
}

-- ---- M2 and M3
holds_to : (first early now : Bool) → IsTrue (not (first && early) || now) → first ≡ true → early ≡ true → now ≡ true
holds_to true true now h e l = h
holds_to true false now h e l = absurd (true≢false (sym l))
holds_to false early now h e l = absurd (true≢false (sym e))

holds_by : (first early now : Bool) → (first ≡ true → early ≡ true → now ≡ true) → IsTrue (not (first && early) || now)
holds_by true true now h = h refl refl
holds_by true false now h = refl
holds_by false early now h = refl

initially_to : (periods most : ℕ) (initial : Bool) (state : Commitment)
    → ((t : ℕ) → t < periods → IsTrue (not (initial && nat_lt t most) || state t)) → HoldsInitially periods most initial state
initially_to periods most initial state h t within first early = holds_to initial (nat_lt t most) (state t) (h t within) first (lt-ltb t most early)

initially_by : (periods most : ℕ) (initial : Bool) (state : Commitment) → HoldsInitially periods most initial state
    → (t : ℕ) → t < periods → IsTrue (not (initial && nat_lt t most) || state t)
initially_by periods most initial state h t within = holds_by initial (nat_lt t most) (state t) (λ first early. h t within first (ltb-true t most early))

-- ---- M4 and M5
lasts_same : (periods time : ℕ) (changes others state : Commitment) → ((t : ℕ) → t < periods → others t ≡ changes t)
    → EachLasts periods time changes state → EachLasts periods time others state
lasts_same periods time changes others state same lasts s t since within until change =
    lasts s t since within until (sym (same s (omega arith)) ∙ change)

stops_are : (unit : Thermal) (on : Commitment) (t : ℕ) → stops unit on t ≡ rises (not unit.on0) (λ k. not (on k)) t
stops_are unit on t = ap (λ b. b && not (on t)) (sym (not_not (was_on unit on t)) ∙ ap not (sym (off_before unit.on0 on t)))

-- ---- M10 at the border
stop_border : (range reduction head : ℤ) (on next : Bool) → head ≤ℤ (range *ℤ bit on) → (on ≡ true → next ≡ false → head ≤ℤ (range -ℤ reduction))
    → head ≤ℤ (range *ℤ bit on -ℤ reduction *ℤ bit (on && not next))
stop_border range reduction head true true below stop = let none = mul-zero reduction in omega (arith, linear)
stop_border range reduction head true false below stop = grind (arith, ints, below, stop)
stop_border range reduction head false next below stop = let none = mul-zero reduction in omega (arith, linear)

-- a unit that stops behind the front has room for it, since else the back holds it on
border_room : (unit : Thermal) (left : CarriedUnit) (front back row : List Cell) (m n len : ℕ) → RowJoins unit left front back row m n len
    → 1 ≤ m → watts.commitment front (m - 1) ≡ true → watts.commitment row m ≡ false
    → ((watts.cell front (m - 1)).p +ℤ (watts.cell front (m - 1)).r) ≤ℤ (unit.pmax -ℤ unit.pmin -ℤ stop_reduction unit)
border_room unit left front back row m n len joins some on gone = ⊎_elim
    (λ (high : is_too_high_to_stop unit (watts.cell front (m - 1)) ≡ true). absurd (stays high))
    (λ (low : is_too_high_to_stop unit (watts.cell front (m - 1)) ≡ false). grind (arith, ints))
    (cases_Bool (is_too_high_to_stop unit (watts.cell front (m - 1))))
  where
    stays : is_too_high_to_stop unit (watts.cell front (m - 1)) ≡ true → ⊥
    stays high =
        let later = joins.is_left.later some in
        let held : left.on ≡ true = later.state ∙ on in
        let time = later.time_on ∙ cond-true left.on (time_on_left unit (watts.cell front (m - 1)) m later.lasted) 0 held
        ∙ cond-true (is_too_high_to_stop unit (watts.cell front (m - 1))) (min (unit.ut - 1) (time_on_so_far unit m later.lasted))
        (time_on_so_far unit m later.lasted) high in
        let short : left.time_on ≤ unit.ut - 1 = omega (arith, time) in
        let least = joins.lawful.time_up.0 in
        let kept = initially_to len (unit.ut - left.time_on) left.on (watts.commitment back) (λ t h. joins.back_keeps.initial_up t h)
        0 (omega (arith, joins.some, joins.part)) held (omega arith) in
        let same : m + 0 ≡ m = omega arith in
        let now = sym (joins.new 0 (omega (arith, joins.some))).on ∙ ap (watts.commitment row) same ∙ gone in
        true≢false (sym kept ∙ now)

border : (unit : Thermal) (left : CarriedUnit) (front back row : List Cell) (m n len t : ℕ) → RowJoins unit left front back row m n len
    → suc t ≡ m → IsTrue (int_le ((watts.cell row t).p +ℤ (watts.cell row t).r) (stop_cap unit (watts.commitment row) t))
border unit left front back row m n len t joins last =
    let here : t < m = omega arith in
    let before : m - 1 ≡ t = omega arith in
    let same = joins.old t here in
    let capped = int_le-true _ _ (joins.front_keeps.start_cap t here) in
    let low = reduction_nonneg (unit.pmax -ℤ unit.su) in
    let below = cap_below (unit.pmax -ℤ unit.pmin) (start_reduction unit) (watts.commitment front t) (starts unit (watts.commitment front) t) low in
    let within = le_trans _ _ _ capped below in
    let head : (watts.cell row t).p +ℤ (watts.cell row t).r ≡ (watts.cell front t).p +ℤ (watts.cell front t).r =
    (λ i. same.output i +ℤ same.reserve i) in
    let fits : ((watts.cell row t).p +ℤ (watts.cell row t).r) ≤ℤ ((unit.pmax -ℤ unit.pmin) *ℤ bit (watts.commitment row t)) =
    subst (λ z. z ≤ℤ ((unit.pmax -ℤ unit.pmin) *ℤ bit (watts.commitment row t))) (sym head)
    (subst (λ b. ((watts.cell front t).p +ℤ (watts.cell front t).r) ≤ℤ ((unit.pmax -ℤ unit.pmin) *ℤ bit b)) (sym same.on) within) in
    le-int_le _ _ (stop_border (unit.pmax -ℤ unit.pmin) (stop_reduction unit) _ (watts.commitment row t) (watts.commitment row (suc t)) fits
    (λ on gone.
    let room = border_room unit left front back row m n len joins (omega arith)
    (ap (watts.commitment front) before ∙ sym same.on ∙ on) (sym (ap (watts.commitment row) last) ∙ gone) in
    subst (λ z. z ≤ℤ (unit.pmax -ℤ unit.pmin -ℤ stop_reduction unit)) (sym head)
    (subst (λ k. ((watts.cell front k).p +ℤ (watts.cell front k).r) ≤ℤ (unit.pmax -ℤ unit.pmin -ℤ stop_reduction unit)) before room)))

-- M10 where a period follows, from its test
stop_cap_to : (periods t : ℕ) (test : Bool) → IsTrue (not (nat_lt (suc t) periods) || test) → suc t < periods → IsTrue test
stop_cap_to periods t test h before = grind (arith, ints, h, before)

stop_cap_by : (periods t : ℕ) (test : Bool) → (suc t < periods → IsTrue test) → IsTrue (not (nat_lt (suc t) periods) || test)
stop_cap_by periods t test h = grind (arith, ints, h)

-- ---- M6 and M7
-- M7 speaks of the first state alone
same_stop : (unit : Thermal) (on other : Commitment) → on 0 ≡ other 0 → initial_stop_holds unit on ≡ initial_stop_holds unit other
same_stop unit on other e = grind (arith, ints, e)

initial_stop : (unit : Thermal) (left : CarriedUnit) (front back row : List Cell) (m n len : ℕ) → RowJoins unit left front back row m n len
    → IsTrue (initial_stop_holds unit (watts.commitment row))
initial_stop unit left front back row m n len joins = ⊎_elim
    (λ (none : m < 1).
    let nought : m ≡ 0 = omega arith in
    let place : m + 0 ≡ 0 = omega arith in
    let own = ap (λ (l : CarriedUnit). continued unit l) (joins.is_left.first nought) in
    let on = sym (ap (watts.commitment row) place) ∙ (joins.new 0 joins.some).on in
    same_stop unit (watts.commitment row) (watts.commitment back) on
    ∙ sym (ap (λ u. initial_stop_holds u (watts.commitment back)) own)
    ∙ joins.back_keeps.initial_stop (omega (arith, joins.some, joins.part)))
    (λ (some : 1 ≤ m).
    same_stop unit (watts.commitment row) (watts.commitment front) (joins.old 0 (omega arith)).on ∙ joins.front_keeps.initial_stop (omega arith))
    (cases_lt m 1)

-- ---- each rule
pub row_keeps : (unit : Thermal) (left : CarriedUnit) (front back row : List Cell) (m n len : ℕ) → RowJoins unit left front back row m n len
    → KeepsRules (m + n) unit row
row_keeps unit left front back row m n len joins = record {
  must_run = throughout (λ k. IsTrue (must_run_at unit (watts.commitment row) k)) m n
      (λ k l. same_must_run unit (initial_state unit) row front k k (old_alike unit left front back row m n len k joins l) ∙ joins.front_keeps.must_run k l)
      (λ k l. same_must_run unit left row back (m + k) k (new_alike unit left front back row m n len k joins l)
      ∙ joins.back_keeps.must_run k (omega (arith, joins.part)));
  initial_up = initially_by (m + n) (unit.ut - unit.ut0) unit.on0 (watts.commitment row)
      (initial_joined m n len unit.ut unit.ut0 left.time_on unit.on0 left.on (watts.commitment front) (watts.commitment back) (watts.commitment row)
      (joins_on unit left front back row m n len joins)
      (initially_to m (unit.ut - unit.ut0) unit.on0 (watts.commitment front) (λ k l. joins.front_keeps.initial_up k l))
      (initially_to len (unit.ut - left.time_on) left.on (watts.commitment back) (λ k l. joins.back_keeps.initial_up k l)));
  initial_down = initially_by (m + n) (unit.dt - unit.dt0) (not unit.on0) (λ k. not (watts.commitment row k))
      (initial_joined m n len unit.dt unit.dt0 left.time_off (not unit.on0) (not left.on) (λ k. not (watts.commitment front k))
      (λ k. not (watts.commitment back k)) (λ k. not (watts.commitment row k))
      (joins_off unit left front back row m n len joins)
      (initially_to m (unit.dt - unit.dt0) (not unit.on0) (λ k. not (watts.commitment front k)) (λ k l. joins.front_keeps.initial_down k l))
      (initially_to len (unit.dt - left.time_off) (not left.on) (λ k. not (watts.commitment back k)) (λ k l. joins.back_keeps.initial_down k l)));
  minimum_up = keeps_minimum (m + n) unit.ut unit.on0 (starts unit (watts.commitment row)) (watts.commitment row) (λ k l. refl)
      (lasting_joined m n len unit.ut unit.ut0 left.time_on unit.on0 left.on (watts.commitment front) (watts.commitment back) (watts.commitment row)
      (joins_on unit left front back row m n len joins)
      (each_lasts m unit.ut unit.on0 (starts unit (watts.commitment front)) (watts.commitment front) joins.lawful.time_up.0 (λ k l. refl)
      (λ k l. joins.front_keeps.minimum_up k l))
      (initially_to len (unit.ut - left.time_on) left.on (watts.commitment back) (λ k l. joins.back_keeps.initial_up k l))
      (each_lasts len unit.ut left.on (starts (continued unit left) (watts.commitment back)) (watts.commitment back) joins.lawful.time_up.0 (λ k l. refl)
      (λ k l. joins.back_keeps.minimum_up k l)));
  minimum_down = keeps_minimum (m + n) unit.dt (not unit.on0) (stops unit (watts.commitment row)) (λ k. not (watts.commitment row k))
      (λ k l. stops_are unit (watts.commitment row) k)
      (lasts_same (m + n) unit.dt (rises (not unit.on0) (λ k. not (watts.commitment row k))) (stops unit (watts.commitment row))
      (λ k. not (watts.commitment row k)) (λ k l. stops_are unit (watts.commitment row) k)
      (lasting_joined m n len unit.dt unit.dt0 left.time_off (not unit.on0) (not left.on) (λ k. not (watts.commitment front k))
      (λ k. not (watts.commitment back k)) (λ k. not (watts.commitment row k))
      (joins_off unit left front back row m n len joins)
      (lasts_same m unit.dt (stops unit (watts.commitment front)) (rises (not unit.on0) (λ k. not (watts.commitment front k)))
      (λ k. not (watts.commitment front k)) (λ k l. sym (stops_are unit (watts.commitment front) k))
      (each_lasts m unit.dt (not unit.on0) (stops unit (watts.commitment front)) (λ k. not (watts.commitment front k)) joins.lawful.time_down.0
      (λ k l. stops_are unit (watts.commitment front) k) (λ k l. joins.front_keeps.minimum_down k l)))
      (initially_to len (unit.dt - left.time_off) (not left.on) (λ k. not (watts.commitment back k)) (λ k l. joins.back_keeps.initial_down k l))
      (lasts_same len unit.dt (stops (continued unit left) (watts.commitment back)) (rises (not left.on) (λ k. not (watts.commitment back k)))
      (λ k. not (watts.commitment back k)) (λ k l. sym (stops_are (continued unit left) (watts.commitment back) k))
      (each_lasts len unit.dt (not left.on) (stops (continued unit left) (watts.commitment back)) (λ k. not (watts.commitment back k))
      joins.lawful.time_down.0 (λ k l. stops_are (continued unit left) (watts.commitment back) k) (λ k l. joins.back_keeps.minimum_down k l)))));
  initial_stop = λ some. initial_stop unit left front back row m n len joins;
  production = throughout (λ k. IsTrue (watts.production_at unit row k)) m n
      (λ k l. same_production unit (initial_state unit) row front k k (old_alike unit left front back row m n len k joins l) ∙ joins.front_keeps.production k l)
      (λ k l. same_production unit left row back (m + k) k (new_alike unit left front back row m n len k joins l)
      ∙ joins.back_keeps.production k (omega (arith, joins.part)));
  start_cap = throughout (λ k. IsTrue (watts.start_cap_by watts.whole unit row k)) m n
      (λ k l. same_start_cap unit (initial_state unit) row front k k (old_alike unit left front back row m n len k joins l) ∙ joins.front_keeps.start_cap k l)
      (λ k l. same_start_cap unit left row back (m + k) k (new_alike unit left front back row m n len k joins l)
      ∙ joins.back_keeps.start_cap k (omega (arith, joins.part)));
  stop_cap = λ t h. stop_cap_by (m + n) t _ (λ before. ⊎_elim
      (λ (old : suc t < m).
      same_stop_cap unit (initial_state unit) row front t t (old_alike unit left front back row m n len t joins (omega arith)) (joins.old (suc t) old)
      ∙ stop_cap_to m t _ (joins.front_keeps.stop_cap t (omega arith)) old)
      (λ (behind : m ≤ suc t). ⊎_elim
      (λ (new : m < suc t).
      let k = t - m in
      let place : m + k ≡ t = omega arith in
      let next : m + suc k ≡ suc (m + k) = omega arith in
      let inside : suc k < n = omega arith in
      subst (λ i. IsTrue (int_le ((watts.cell row i).p +ℤ (watts.cell row i).r) (stop_cap unit (watts.commitment row) i))) place
      (same_stop_cap unit left row back (m + k) k (new_alike unit left front back row m n len k joins (omega arith))
      (subst (λ i. SameDispatch (watts.cell back (suc k)) (watts.cell row i)) next (joins.new (suc k) inside))
      ∙ stop_cap_to len k _ (joins.back_keeps.stop_cap k (omega (arith, joins.part))) (omega (arith, joins.part))))
      (λ (last : suc t ≤ m). border unit left front back row m n len t joins (omega arith))
      (cases_lt m (suc t)))
      (cases_lt (suc t) m));
  ramp_up = throughout (λ k. IsTrue (watts.ramp_up_by watts.whole unit row k)) m n
      (λ k l. same_ramp_up unit (initial_state unit) row front k k (old_alike unit left front back row m n len k joins l) ∙ joins.front_keeps.ramp_up k l)
      (λ k l. same_ramp_up unit left row back (m + k) k (new_alike unit left front back row m n len k joins l)
      ∙ joins.back_keeps.ramp_up k (omega (arith, joins.part)));
  ramp_down = throughout (λ k. IsTrue (watts.ramp_down_by watts.whole unit row k)) m n
      (λ k l. same_ramp_down unit (initial_state unit) row front k k (old_alike unit left front back row m n len k joins l) ∙ joins.front_keeps.ramp_down k l)
      (λ k l. same_ramp_down unit left row back (m + k) k (new_alike unit left front back row m n len k joins l)
      ∙ joins.back_keeps.ramp_down k (omega (arith, joins.part)));
}
