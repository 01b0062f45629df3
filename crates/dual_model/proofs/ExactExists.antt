-- A unit has an exact value, or no schedule of its own: its schedules in whole watts are finitely many as far as its
-- periods go, and the least value of one of them is E.
use Rattle.std.proofs.Common.{◌≡◌, ℕ, zero, suc, ◌+◌, ◌*◌, ◌/◌, ◌%◌, ◌<◌, ◌≤◌, ◌⊎◌, inl, inr, ⊎_elim, Bool, true, false, cond, nat_lt, refl, sym, ap, subst, ◌∙◌, arith, ℤ, pos, ◌+ℤ◌, ◌-ℤ◌, ◌*ℤ◌, ◌≤ℤ◌, IsTrue, unsigned_abs, if◌then◌else◌}
use Rattle.std.specs.Int.{int_max}
use Rattle.std.proofs.lemmas.Int.{ints, clamps}
use Rattle.std.proofs.lemmas.Nat.{div-mul-add, mod-mul-add}
use Rattle.std.proofs.lemmas.Bool.{cases_Bool, true≢false, and_parts, and_from, cond-true, cond-false, lt-ltb, ltb-true}
use Rattle.uc_model.specs.Prelude.{bit, starts, start_cap, stop_cap, start_reduction, thermal_unit, thermal_count, IsLawfulThermal, IsLawfulInstance}
use Rattle.uc_model.proofs.Common.{linear, one-mul, sum_below-same, abs_is}
use Rattle.dual_model.specs.Prelude.{pi_at, mu_at, HasEmptyUnit, IsNodeValue, Thermal, Instance, Node, Table, UnitSchedule, greatest_output, output_before, IsUnitScheduleAt, IsUnitSchedule, HasNoUnitSchedule, HasUnscheduledUnit, unit_schedule_value, IsExactUnitValue, IsLeastWholeValue, exact_part, parts_total, IsExactNodeValue, child, LeastWholeValuesAreExact, ExactValuesAreLeast, ExactUnitValuesExist, ValuesExist, ValuesExistAtSchedules, ChildBound}
use Rattle.dual_model.specs.ExactValue.{floored_cost}
use Rattle.dual_model.proofs.Locality.{SameBelow, starts-same, sigma-same, is_allowed-same, kept-same}
use Rattle.dual_model.proofs.UnitValues.{is_pattern_at, last_period}
use Rattle.dual_model.proofs.NodeValues.{values_exist}
use Rattle.dual_model.proofs.WholeWatts.{whole_watts_bound, whole_watts_exist}
use Rattle.dual_model.proofs.ExactBound.{schedules_are_unit_schedules}
use Rattle.dual_model.proofs.ExactValues.{exact_unit_values_are_unique, exact_values_rise}
use Rattle.dual_model.proofs.BoundedSearch.{Agrees, IsSearched, IsWithin, IsLeastIn, search}

-- ---- what is decided
both : {A B : Type 0} → A ⊎ ¬ A → B ⊎ ¬ B → (A × B) ⊎ ¬ (A × B)
both (inl a) (inl b) = inl (a, b)
both (inl a) (inr lacks) = inr (λ h. lacks h.1)
both (inr lacks) other = inr (λ h. lacks h.0)

at_most : (a b : ℤ) → (a ≤ℤ b) ⊎ ¬ (a ≤ℤ b)
at_most a b = grind (arith, ints)

-- an implication from a fact that is decided
given : {A B : Type 0} → A ⊎ ¬ A → B ⊎ ¬ B → (A → B) ⊎ ¬ (A → B)
given (inl a) (inl b) = inl (λ h. b)
given (inl a) (inr lacks) = inr (λ f. lacks (f a))
given (inr none) other = inl (λ a. absurd (none a))

nought : (n : ℕ) → (n ≡ 0) ⊎ ¬ (n ≡ 0)
nought zero = inl refl
nought (suc n) = inr (λ e. absurd (omega (arith, e)))

less : (m n : ℕ) → (m < n) ⊎ ¬ (m < n)
less m n = grind (arith, ints)

is_off : (b : Bool) → (b ≡ false) ⊎ ¬ (b ≡ false)
is_off true = inr true≢false
is_off false = inl refl

is_true : (b : Bool) → IsTrue b ⊎ ¬ IsTrue b
is_true true = inl refl
is_true false = inr (λ e. true≢false (sym e))

-- for each number below n
all_decided : (n : ℕ) (P : ℕ → Type 0) → ((t : ℕ) → P t ⊎ ¬ P t) → ((t : ℕ) → t < n → P t) ⊎ ¬ ((t : ℕ) → t < n → P t)
all_decided zero P each = inl (λ t l. absurd (omega (arith, l)))
all_decided (suc n) P each = joined (all_decided n P each) (each n)
  where
    joined : ((t : ℕ) → t < n → P t) ⊎ ¬ ((t : ℕ) → t < n → P t) → P n ⊎ ¬ P n → ((t : ℕ) → t < suc n → P t) ⊎ ¬ ((t : ℕ) → t < suc n → P t)
    joined (inl before) (inl here) = inl (λ t l. ⊎_elim (λ (h : t < n). before t h) (λ (e : n ≡ t). subst P e here)
        (grind arith))
    joined (inl before) (inr lacks) = inr (λ h. lacks (h n (omega arith)))
    joined (inr lacks) other = inr (λ h. lacks (λ t l. h t (omega (arith, l))))

-- what a schedule keeps in a period, as a pair of pairs
abbrev Parts : ℕ → ℕ → Thermal → UnitSchedule → ℕ → Type 0
Parts periods q unit x t =
    (x.on t ≡ false → (x.p t ≡ 0) × (x.r t ≡ 0)) × ((pos (x.p t) ≤ℤ (pos q *ℤ greatest_output unit.points))
    × (((pos (x.p t) +ℤ pos (x.r t)) ≤ℤ (pos q *ℤ start_cap unit x.on t))
    × ((suc t < periods → (pos (x.p t) +ℤ pos (x.r t)) ≤ℤ (pos q *ℤ stop_cap unit x.on t))
    × (((pos (x.p t) +ℤ pos (x.r t) -ℤ output_before q unit x t) ≤ℤ (pos q *ℤ unit.ru))
    × ((output_before q unit x t -ℤ pos (x.p t)) ≤ℤ (pos q *ℤ unit.rd))))))

parts_decided : (periods q : ℕ) (unit : Thermal) (x : UnitSchedule) (t : ℕ) → Parts periods q unit x t ⊎ ¬ Parts periods q unit x t
parts_decided periods q unit x t =
    both (given (is_off (x.on t)) (both (nought (x.p t)) (nought (x.r t))))
    (both (at_most (pos (x.p t)) (pos q *ℤ greatest_output unit.points))
    (both (at_most (pos (x.p t) +ℤ pos (x.r t)) (pos q *ℤ start_cap unit x.on t))
    (both (given (less (suc t) periods) (at_most (pos (x.p t) +ℤ pos (x.r t)) (pos q *ℤ stop_cap unit x.on t)))
    (both (at_most (pos (x.p t) +ℤ pos (x.r t) -ℤ output_before q unit x t) (pos q *ℤ unit.ru))
    (at_most (output_before q unit x t -ℤ pos (x.p t)) (pos q *ℤ unit.rd))))))

at_decided : (periods q : ℕ) (unit : Thermal) (x : UnitSchedule) (t : ℕ)
    → IsUnitScheduleAt periods q unit x t ⊎ ¬ IsUnitScheduleAt periods q unit x t
at_decided periods q unit x t = ⊎_elim
    (λ (h : Parts periods q unit x t).
    inl (record {
      off = h.0;
      width = h.1.0;
      start_cap = h.1.1.0;
      stop_cap = h.1.1.1.0;
      ramp_up = h.1.1.1.1.0;
      ramp_down = h.1.1.1.1.1;
    }))
    (λ (lacks : ¬ Parts periods q unit x t).
    inr (λ (h : IsUnitScheduleAt periods q unit x t). lacks
    (h.off, (h.width, (h.start_cap, (h.stop_cap, (h.ramp_up, h.ramp_down)))))))
    (parts_decided periods q unit x t)

schedule_decided : (instance : Instance) (node : Node) (g : ℕ) (x : UnitSchedule)
    → IsUnitSchedule instance node g 1 x ⊎ ¬ IsUnitSchedule instance node g 1 x
schedule_decided instance node g x = ⊎_elim
    (λ (h : IsTrue (is_pattern_at instance node g x.on)
    × ((t : ℕ) → t < instance.periods → IsUnitScheduleAt instance.periods 1 (thermal_unit instance g) x t)).
    let parts = and_parts _ _ h.0 in
    inl (record { denominator = omega arith; pattern = record { allowed = parts.0; agrees = parts.1 }; each = h.1 }))
    (λ lacks. inr (λ (h : IsUnitSchedule instance node g 1 x). lacks
    (and_from _ _ h.pattern.allowed h.pattern.agrees, h.each)))
    (both (is_true (is_pattern_at instance node g x.on))
    (all_decided instance.periods (IsUnitScheduleAt instance.periods 1 (thermal_unit instance g) x)
    (at_decided instance.periods 1 (thermal_unit instance g) x)))

-- ---- what hangs on the periods of the instance, and of the node's decisions, alone
-- two schedules are the same there
record IsSame (last periods : ℕ) (x y : UnitSchedule) : Type 0 where
  on : SameBelow last x.on y.on
  p : (t : ℕ) → t < periods → x.p t ≡ y.p t
  r : (t : ℕ) → t < periods → x.r t ≡ y.r t

at-same : (periods q : ℕ) (unit : Thermal) (x y : UnitSchedule) → IsSame periods periods x y → (t : ℕ) → t < periods
    → IsUnitScheduleAt periods q unit x t → IsUnitScheduleAt periods q unit y t
at-same periods q unit x y same t l h = grind (arith, ints, same, l, h)

module _ (instance : Instance) (node : Node) (g : ℕ) (some : 0 < instance.periods) where
  abbrev unit : Thermal
  unit = thermal_unit instance g

  abbrev last : ℕ
  last = last_period instance node

  narrowed : (x y : UnitSchedule) → IsSame last instance.periods x y → IsSame instance.periods instance.periods x y
  narrowed x y same = record { on = record { same = λ t l. same.on.same t (omega (arith, l)) }; p = same.p; r = same.r }

  schedule-same : (x y : UnitSchedule) → IsSame last instance.periods x y → IsUnitSchedule instance node g 1 x
      → IsUnitSchedule instance node g 1 y
  schedule-same x y same is =
      let near = narrowed x y same in
      record {
        denominator = is.denominator;
        pattern = record {
          allowed = sym (is_allowed-same instance.periods unit x.on y.on some near.on) ∙ is.pattern.allowed;
          agrees = sym (kept-same last g x.on y.on same.on node.fixings (omega arith)) ∙ is.pattern.agrees;
        };
        each = λ t l. at-same instance.periods 1 unit x y near t l (is.each t l);
      }

  value-same : (table : Table) (x y : UnitSchedule) → IsSame last instance.periods x y
      → unit_schedule_value instance table g 1 x ≡ unit_schedule_value instance table g 1 y
  value-same table x y same =
      let near = narrowed x y same in
      sum_below-same instance.periods _ _ (λ t l.
      let on = near.on.same t l in
      let p = same.p t l in
      let r = same.r t l in
      let start = starts-same instance.periods unit x.on y.on near.on t l in
      let cost = sigma-same instance.periods unit x.on y.on near.on t (omega (arith, l)) in
      λ i. cond (on i)
      (floored_cost unit.points table.k 1 (p i) -ℤ pi_at table t *ℤ (pos (p i) +ℤ pos 1 *ℤ unit.pmin)
      -ℤ mu_at table t *ℤ pos (r i)) (pos 0)
      +ℤ cond (start i) (pos 1 *ℤ (table.k *ℤ cost i)) (pos 0))

-- ---- schedules as functions on numbers: three for each period, its bit, output and reserve
abbrev decode : (ℕ → ℕ) → UnitSchedule
decode s = record { on = λ t. nat_lt 0 (s (t * 3 + 0)); p = λ t. s (t * 3 + 1); r = λ t. s (t * 3 + 2) }

-- past the last period output and reserve count for nothing
unfoldable place : UnitSchedule → ℕ → ℕ → ℕ → ℕ
place x periods zero t = if x.on t then 1 else 0
place x periods (suc zero) t = if nat_lt t periods then x.p t else 0
place x periods (suc (suc k)) t = if nat_lt t periods then x.r t else 0

abbrev encode : UnitSchedule → ℕ → ℕ → ℕ
encode x periods i = place x periods (i % 3) (i / 3)

at_place : (x : UnitSchedule) (periods t k : ℕ) → k < 3 → encode x periods (t * 3 + k) ≡ place x periods k t
at_place x periods t k h = λ i. place x periods (mod-mul-add t 3 k h i) (div-mul-add t 3 k h i)

bit_place : (b : Bool) → nat_lt 0 (if b then 1 else 0) ≡ b
bit_place true = refl
bit_place false = refl

decoded : (last periods : ℕ) (x : UnitSchedule) → IsSame last periods x (decode (encode x periods))
unfolding place
decoded last periods x = record {
  on = record { same = λ t l. sym (ap (λ n. nat_lt 0 n) (at_place x periods t 0 (omega arith)) ∙ bit_place (x.on t)) };
  p = λ t l. sym (at_place x periods t 1 (omega arith) ∙ cond-true (nat_lt t periods) (x.p t) 0 (lt-ltb t periods l));
  r = λ t l. sym (at_place x periods t 2 (omega arith) ∙ cond-true (nat_lt t periods) (x.r t) 0 (lt-ltb t periods l));
}

-- functions that are the same on the numbers of the periods stand for schedules that are
decode-same : (last periods : ℕ) (s other : ℕ → ℕ) → periods ≤ last → Agrees (3 * last) s other
    → IsSame last periods (decode s) (decode other)
decode-same last periods s other within h = grind (arith, ints, within, h)

-- ---- how large the numbers are
cap_below : (room reduction : ℤ) (now change : Bool) → pos 0 ≤ℤ room → pos 0 ≤ℤ reduction
    → (room *ℤ bit now -ℤ reduction *ℤ bit change) ≤ℤ room
cap_below room reduction now change wide sign = grind (arith, ints, wide, sign)

max_nonneg : (a : ℤ) → pos 0 ≤ℤ int_max a (pos 0)
max_nonneg a = omega (arith, ints, clamps)

-- one more than the unit's range, and than a bit
abbrev limit_of : Thermal → ℕ
limit_of unit = suc (suc (unsigned_abs (unit.pmax -ℤ unit.pmin)))

within_range : (periods : ℕ) (unit : Thermal) (x : UnitSchedule) (t : ℕ) → IsLawfulThermal unit → IsUnitScheduleAt periods 1 unit x t
    → (x.p t < limit_of unit) × (x.r t < limit_of unit)
within_range periods unit x t lawful h =
    let range = lawful.range in
    let room : pos 0 ≤ℤ (unit.pmax -ℤ unit.pmin) = omega (arith, linear, range) in
    let size = abs_is (unit.pmax -ℤ unit.pmin) room in
    let cap = cap_below (unit.pmax -ℤ unit.pmin) (start_reduction unit) (x.on t) (starts unit x.on t) room
    (max_nonneg (unit.pmax -ℤ unit.su)) in
    let below = h.start_cap in
    let one = one-mul (start_cap unit x.on t) in
    (omega (arith, linear, size, cap, below, one), omega (arith, linear, size, cap, below, one))

place-below : (periods : ℕ) (unit : Thermal) (x : UnitSchedule) → IsLawfulThermal unit
    → ((t : ℕ) → t < periods → IsUnitScheduleAt periods 1 unit x t) → (k t : ℕ) → place x periods k t < limit_of unit
unfolding place
place-below periods unit x lawful each zero t = either (x.on t)
  where
    either : (b : Bool) → (if b then 1 else 0) < limit_of unit
    either true = omega arith
    either false = omega arith
place-below periods unit x lawful each (suc zero) t = ⊎_elim
    (λ (before : IsTrue (nat_lt t periods)).
    subst (λ n. n < limit_of unit) (sym (cond-true (nat_lt t periods) (x.p t) 0 before))
    (within_range periods unit x t lawful (each t (ltb-true t periods before))).0)
    (λ (past : nat_lt t periods ≡ false). subst (λ n. n < limit_of unit)
    (sym (cond-false (nat_lt t periods) (x.p t) 0 past)) (omega arith))
    (cases_Bool (nat_lt t periods))
place-below periods unit x lawful each (suc (suc k)) t = ⊎_elim
    (λ (before : IsTrue (nat_lt t periods)).
    subst (λ n. n < limit_of unit) (sym (cond-true (nat_lt t periods) (x.r t) 0 before))
    (within_range periods unit x t lawful (each t (ltb-true t periods before))).1)
    (λ (past : nat_lt t periods ≡ false). subst (λ n. n < limit_of unit)
    (sym (cond-false (nat_lt t periods) (x.r t) 0 past)) (omega arith))
    (cases_Bool (nat_lt t periods))

-- ---- the least value
module _ (instance : Instance) (node : Node) (table : Table) (g : ℕ) (some : 0 < instance.periods)
    (lawful : IsLawfulThermal (thermal_unit instance g)) where
  abbrev size : ℕ
  size = 3 * last_period instance node

  abbrev limit : ℕ
  limit = limit_of (thermal_unit instance g)

  abbrev has : (ℕ → ℕ) → Type 0
  has s = IsUnitSchedule instance node g 1 (decode s)

  abbrev value : (ℕ → ℕ) → ℤ
  value s = unit_schedule_value instance table g 1 (decode s)

  searched : IsSearched size has value
  searched = record {
    decided = λ s. schedule_decided instance node g (decode s);
    keeps = λ s other same.
        schedule-same instance node g some (decode s) (decode other)
        (decode-same (last_period instance node) instance.periods s other (omega arith) same);
    values = λ s other same.
        value-same instance node g some table (decode s) (decode other)
        (decode-same (last_period instance node) instance.periods s other (omega arith) same);
  }

  -- a schedule stands among those that are searched
  abbrev code : UnitSchedule → ℕ → ℕ
  code x = encode x instance.periods

  code-same : (x : UnitSchedule) → IsSame (last_period instance node) instance.periods x (decode (code x))
  code-same x = decoded (last_period instance node) instance.periods x

  code-is : (x : UnitSchedule) → IsUnitSchedule instance node g 1 x → has (code x)
  code-is x is = schedule-same instance node g some x (decode (code x)) (code-same x) is

  code-within : (x : UnitSchedule) → IsUnitSchedule instance node g 1 x → IsWithin size limit (code x)
  code-within x is = record {
    below = λ i l. place-below instance.periods (thermal_unit instance g) x lawful is.each (i % 3) (i / 3);
  }

  -- there is one, or the unit has no schedule of its own
  pub least_there : ((e : ℤ) × IsLeastWholeValue instance node table g e) ⊎ HasNoUnitSchedule instance node g
  least_there = ⊎_elim
      (λ (none : (s : ℕ → ℕ) → IsWithin size limit s → ¬ has s).
      inr (λ q x is.
      let whole = whole_watts_exist instance node g q x is in
      none (code whole.0) (code-within whole.0 whole.1) (code-is whole.0 whole.1)))
      (λ (found : (s : ℕ → ℕ) × IsLeastIn (IsWithin size limit) has value s).
      inl (
        value found.0,
        record {
          x = decode found.0;
          is_schedule = found.1.one;
          reached = refl;
          least = λ other is.
              let below = found.1.least (code other) (code-within other is) (code-is other is) in
              let same = value-same instance node g some table other (decode (code other)) (code-same other) in
              omega (arith, linear, below, same);
        },
      ))
      (search size limit has value searched)

-- it is the exact value
pub least_whole_values_are_exact : LeastWholeValuesAreExact
least_whole_values_are_exact instance node table g e is = grind (arith, ints, whole_watts_bound, one-mul, instance, node, table, g, e, is)

-- so a unit has one, or no schedule of its own
pub exact_unit_values_exist : ExactUnitValuesExist
exact_unit_values_exist instance node table g lawful within = ⊎_elim
    (λ (found : (e : ℤ) × IsLeastWholeValue instance node table g e).
    inl (found.0, least_whole_values_are_exact instance node table g found.0 found.1))
    (λ (none : HasNoUnitSchedule instance node g). inr none)
    (least_there instance node table g lawful.periods.0 (lawful.thermal g within))

-- and it is the least value
pub exact_values_are_least : ExactValuesAreLeast
exact_values_are_least instance node table g e lawful within is = ⊎_elim
    (λ (found : (e : ℤ) × IsLeastWholeValue instance node table g e).
    subst (λ z. IsLeastWholeValue instance node table g z)
    (exact_unit_values_are_unique instance node table g found.0 e
    (least_whole_values_are_exact instance node table g found.0 found.1) is)
    found.1)
    (λ (none : HasNoUnitSchedule instance node g). absurd (none is.q is.x is.is_schedule))
    (least_there instance node table g lawful.periods.0 (lawful.thermal g within))

-- ---- the node
-- the first n units have exact values, or some unit has no schedule of its own
abbrev HaveExactValues : Instance → Node → Table → ℕ → Type 0
HaveExactValues instance node table n = (g : ℕ) → g < n → (e : ℤ) × IsExactUnitValue instance node table g e

one_more : (instance : Instance) (node : Node) (table : Table) (n : ℕ) → n < thermal_count instance
    → HaveExactValues instance node table n ⊎ HasUnscheduledUnit instance node
    → ((e : ℤ) × IsExactUnitValue instance node table n e) ⊎ HasNoUnitSchedule instance node n
    → HaveExactValues instance node table (suc n) ⊎ HasUnscheduledUnit instance node
one_more instance node table n within (inl before) (inl here) =
    inl (λ g l. ⊎_elim
    (λ (earlier : g < n). before g earlier)
    (λ (last : n ≡ g). subst (λ k. (e : ℤ) × IsExactUnitValue instance node table k e) last here)
    (grind arith))
one_more instance node table n within (inl before) (inr none) = inr (record { unit = n; within = within; none = none })
one_more instance node table n within (inr none) here = inr none

have_exact_values : (instance : Instance) (node : Node) (table : Table) → IsLawfulInstance instance → (n : ℕ) → n ≤ thermal_count instance
    → HaveExactValues instance node table n ⊎ HasUnscheduledUnit instance node
have_exact_values instance node table lawful zero h = inl (λ g l. absurd (omega (arith, l)))
have_exact_values instance node table lawful (suc n) h =
    one_more instance node table n (omega (arith, h))
    (have_exact_values instance node table lawful n (omega (arith, h)))
    (exact_unit_values_exist instance node table n lawful (omega (arith, h)))

-- the values as a function of the unit
chosen : (instance : Instance) (node : Node) (table : Table) (n : ℕ) → HaveExactValues instance node table n → (g : ℕ)
    → (g < n) ⊎ ¬ (g < n) → ℤ
chosen instance node table n values g (inl l) = (values g l).0
chosen instance node table n values g (inr past) = pos 0

chosen-is : (instance : Instance) (node : Node) (table : Table) (n : ℕ)
    (values : HaveExactValues instance node table n) (g : ℕ)
    → g < n → (within : (g < n) ⊎ ¬ (g < n))
    → IsExactUnitValue instance node table g (chosen instance node table n values g within)
unfolding chosen
chosen-is instance node table n values g l (inl k) = (values g k).1
chosen-is instance node table n values g l (inr past) = absurd (past l)

from_values : (instance : Instance) (node : Node) (table : Table) → HaveExactValues instance node table (thermal_count instance)
    → (v : ℤ) × IsNodeValue instance node table v → (w : ℤ) × IsExactNodeValue instance node table w
from_values instance node table values (v, is) =
    let count = thermal_count instance in
    let exact = λ (g : ℕ). chosen instance node table count values g (less g count) in (
      parts_total instance table (λ g. exact_part instance table g (is.unit_value g) (exact g)),
      record {
        unit_value = is.unit_value;
        exact_value = exact;
        units = is.units;
        exact_units = λ g l. chosen-is instance node table count values g l (less g count);
        total = refl;
      },
    )

-- the node has one, or a unit without a schedule of its own
pub exact_values_exist : ValuesExist true
exact_values_exist instance node table lawful =
    either (have_exact_values instance node table lawful (thermal_count instance) (omega arith))
    (values_exist instance node table lawful)
  where
    either : HaveExactValues instance node table (thermal_count instance) ⊎ HasUnscheduledUnit instance node
        → ((v : ℤ) × IsNodeValue instance node table v) ⊎ HasEmptyUnit instance node
        → ((v : ℤ) × IsExactNodeValue instance node table v) ⊎ HasUnscheduledUnit instance node
    either (inr none) other = inr none
    either (inl values) (inl found) = inl (from_values instance node table values found)
    either (inl values) (inr empty) =
        inr (record { unit = empty.unit; within = empty.within; none = λ q x is. empty.empty x.on is.pattern })

-- it has one where a schedule obeys
pub exact_values_exist_at_schedules : ValuesExistAtSchedules true
exact_values_exist_at_schedules instance node table q x lawful schedule = ⊎_elim
    (λ (found : (v : ℤ) × IsExactNodeValue instance node table v). found)
    (λ (none : HasUnscheduledUnit instance node).
    let own = schedules_are_unit_schedules instance node none.unit q x lawful schedule none.within in
    absurd (none.none q own.0 own.1))
    (exact_values_exist instance node table lawful)

-- and so has a child, or some unit has no schedule of its own there
pub exact_child_bound : ChildBound true
exact_child_bound instance node g t on table v lawful is = ⊎_elim
    (λ (found : (w : ℤ) × IsExactNodeValue instance (child node g t on) table w).
    inl (found.0, found.1, exact_values_rise instance node g t on table v found.0 is found.1))
    (λ (none : HasUnscheduledUnit instance (child node g t on)). inr none)
    (exact_values_exist instance (child node g t on) table lawful)
