-- The exact dispatch of a commitment as a linear program: the amounts that it chooses, the limits on them, how often each amount stands in
-- each limit, the limits' right sides and the costs. Source: the rules M8 to M17 of the reference model by Knueven, Ostrowski and Watson with all
-- bits given, the production cost as segments of the lower hull.
use Rattle.std.specs.Prelude.{◌≡◌, ℕ, zero, suc, ◌<◌, ◌==◌, nat_lt, Bool, ◌&&◌, List, [], ◌∷◌, ◌++◌, length, slice_index_or, ℤ, pos, ◌+ℤ◌, ◌-ℤ◌, ◌*ℤ◌, neg_ℤ, int_div, if◌then◌else◌}
use Rattle.std.specs.Int.{int_max}
use Rattle.uc_model.specs.Prelude.{sum_below, bit, Commitment, start_cap, stop_cap, initial_p, Rule, Production, StartCap, StopCap, RampUp, RampDown, RenewableRange, Demand, Reserve, ShedRange, ShortRange, rule_number, rule_units, thermal_unit, thermal_count, renewable_count, renewable_minimum, renewable_maximum, demand_at, reserve_at, most_shed, most_short}
use Rattle.uc_model.specs.declared.instance.Instance.{Instance}
use Rattle.cost_curves.specs.LowerHull.{Point}
use Rattle.dispatch_program.specs.Prelude.{Program}
pub use Rattle.dispatch_rules.specs.declared.amount.Amount.{Amount}
pub use Rattle.dispatch_rules.specs.declared.amount.Amount.TheVariants.{Length, Held, Given, Shed, Short}
use Rattle.dispatch_rules.specs.Cells.{width_at, rise_at, segments}

-- a commitment of an instance, the corners of each unit's hull, and the number by which costs are multiplied to be whole
pub record Task : Type 0 where
  pub instance : Instance
  pub on : ℕ → Commitment
  pub corners : ℕ → List Point
  pub scale : ℤ

-- a limit: a rule at a unit and a period, of M8 also at a segment
pub record Limit : Type 0 where
  pub rule : Rule
  pub unit : ℕ
  pub period : ℕ
  pub segment : ℕ

abbrev pub limit : Rule → ℕ → ℕ → ℕ → Limit
limit rule g t k = record { rule = rule; unit = g; period = t; segment = k }

abbrev pub is_same : Limit → Limit → Bool
is_same a b = (rule_number a.rule == rule_number b.rule) && ((a.unit == b.unit) && ((a.period == b.period) && (a.segment == b.segment)))

-- how often an amount stands in a limit
pub record Part : Type 0 where
  pub of : Limit
  pub times : ℤ

abbrev pub part : Rule → ℕ → ℕ → ℕ → ℤ → Part
part rule g t k times = record { of = limit rule g t k; times = times }

-- the limits in which an amount stands; those of the period after the last one aren't there
abbrev pub parts : Amount → List Part
parts (Length g t k) =
    part Production g t k (pos 1) ∷ part StartCap g t 0 (pos 1) ∷ part StopCap g t 0 (pos 1)
    ∷ part RampUp g t 0 (pos 1) ∷ part RampUp g (suc t) 0 (neg_ℤ (pos 1))
    ∷ part RampDown g t 0 (neg_ℤ (pos 1)) ∷ part RampDown g (suc t) 0 (pos 1)
    ∷ part Demand 0 t 0 (pos 1) ∷ []
parts (Held g t) =
    part StartCap g t 0 (pos 1) ∷ part StopCap g t 0 (pos 1) ∷ part RampUp g t 0 (pos 1) ∷ part Reserve 0 t 0 (neg_ℤ (pos 1)) ∷ []
parts (Given w t) = part RenewableRange w t 0 (pos 1) ∷ part Demand 0 t 0 (pos 1) ∷ []
parts (Shed t) = part Demand 0 t 0 (pos 1) ∷ part ShedRange 0 t 0 (pos 1) ∷ []
parts (Short t) = part Reserve 0 t 0 (neg_ℤ (pos 1)) ∷ part ShortRange 0 t 0 (pos 1) ∷ []

abbrev pub times_in : Limit → List Part → ℤ
times_in l [] = pos 0
times_in l (p ∷ ps) = (if is_same l p.of then p.times else pos 0) +ℤ times_in l ps

-- what a limit starts from in the first period: the given output before it
abbrev pub initial_at : Task → ℕ → ℕ → ℤ
initial_at task g zero = initial_p (thermal_unit task.instance g)
initial_at task g (suc t) = pos 0

abbrev pub low_at : Task → ℕ → ℕ → ℤ
low_at task w t = int_max (renewable_minimum task.instance w t) (pos 0)

-- the output that the commitment gives without a choice
abbrev pub given_output : Task → ℕ → ℤ
given_output task t =
    sum_below (thermal_count task.instance) (λ g. (thermal_unit task.instance g).pmin *ℤ bit (task.on g t))
    +ℤ sum_below (renewable_count task.instance) (λ w. low_at task w t)

-- a limit's right side
abbrev pub right_at : Task → Rule → ℕ → ℕ → ℕ → ℤ
right_at task Production g t k = width_at (task.corners g) k
right_at task StartCap g t k = start_cap (thermal_unit task.instance g) (task.on g) t
right_at task StopCap g t k = stop_cap (thermal_unit task.instance g) (task.on g) t
right_at task RampUp g t k = (thermal_unit task.instance g).ru +ℤ initial_at task g t
right_at task RampDown g t k = (thermal_unit task.instance g).rd -ℤ initial_at task g t
right_at task RenewableRange w t k = renewable_maximum task.instance w t -ℤ low_at task w t
right_at task Demand _ t k = demand_at task.instance t -ℤ given_output task t
right_at task Reserve _ t k = neg_ℤ (reserve_at task.instance t)
right_at task ShedRange _ t k = most_shed task.instance t
right_at task ShortRange _ t k = most_short task.instance t
right_at task _ g t k = pos 0

abbrev pub right_of : Task → Limit → ℤ
right_of task l = right_at task l.rule l.unit l.period l.segment

abbrev pub is_demand : Limit → Bool
is_demand l = rule_number l.rule == rule_number Demand

-- what an amount costs, times the scale
abbrev pub cost_of : Task → Amount → ℤ
cost_of task (Length g t k) = int_div (task.scale *ℤ rise_at (task.corners g) k) (width_at (task.corners g) k)
cost_of task (Held g t) = pos 0
cost_of task (Given w t) = pos 0
cost_of task (Shed t) = pos task.instance.a *ℤ task.scale
cost_of task (Short t) = pos task.instance.b *ℤ task.scale

-- ---- in order
-- f 0, then f 1, and so on up to f (n - 1)
abbrev pub listed : {A : Type 0} → ℕ → (ℕ → List A) → List A
listed zero f = []
listed (suc n) f = listed n f ++ f n

abbrev pub where_true : {A : Type 0} → Bool → List A → List A
where_true b xs = if b then xs else []

-- how many limits of a rule there are at a unit and a period
abbrev pub copies : Task → Rule → ℕ → ℕ → ℕ
copies task Production g t = if task.on g t then segments (task.corners g) else 0
copies task StopCap g t = if nat_lt (suc t) task.instance.periods then 1 else 0
copies task ShedRange _ t = if nat_lt 0 task.instance.a then 1 else 0
copies task ShortRange _ t = if nat_lt 0 task.instance.b then 1 else 0
copies task _ g t = 1

abbrev pub limits_of : Task → Rule → List Limit
limits_of task rule =
    listed (rule_units rule task.instance) (λ g.
    listed task.instance.periods (λ t.
    listed (copies task rule g t) (λ k. limit rule g t k ∷ [])))

-- the rules M8 to M17
abbrev pub rule_from : ℕ → Rule
rule_from n =
    slice_index_or (Production ∷ StartCap ∷ StopCap ∷ RampUp ∷ RampDown ∷ RenewableRange ∷ Demand ∷ Reserve ∷ ShedRange ∷ ShortRange ∷ []) n ShortRange

abbrev pub limits : Task → List Limit
limits task = listed 10 (λ n. limits_of task (rule_from n))

abbrev pub unit_amounts : Task → ℕ → ℕ → List Amount
unit_amounts task t g = where_true (task.on g t) (listed (segments (task.corners g)) (λ k. Length g t k ∷ []) ++ (Held g t ∷ []))

abbrev pub amounts_in : Task → ℕ → List Amount
amounts_in task t =
    listed (thermal_count task.instance) (unit_amounts task t)
    ++ (listed (renewable_count task.instance) (λ w. Given w t ∷ [])
    ++ (where_true (nat_lt 0 task.instance.a) (Shed t ∷ [])
    ++ where_true (nat_lt 0 task.instance.b) (Short t ∷ [])))

abbrev pub amounts : Task → List Amount
amounts task = listed task.instance.periods (amounts_in task)

abbrev pub limit_at : Task → ℕ → Limit
limit_at task i = slice_index_or (limits task) i (limit Demand 0 0 0)

abbrev pub amount_at : Task → ℕ → Amount
amount_at task c = slice_index_or (amounts task) c (Shed 0)

-- the program
abbrev pub program : Task → Program
program task = record {
  unknowns = length (amounts task);
  rules = length (limits task);
  factor = λ i c. times_in (limit_at task i) (parts (amount_at task c));
  right = λ i. right_of task (limit_at task i);
  is_equality = λ i. is_demand (limit_at task i);
  cost = λ c. cost_of task (amount_at task c);
}

-- ---- sums over the limits
abbrev pub over_cells : Task → Rule → (Limit → ℤ) → ℤ
over_cells task rule f =
    sum_below (rule_units rule task.instance) (λ g.
    sum_below task.instance.periods (λ t.
    sum_below (copies task rule g t) (λ k. f (limit rule g t k))))

abbrev pub over_limits : Task → (Limit → ℤ) → ℤ
over_limits task f = sum_below 10 (λ n. over_cells task (rule_from n) f)

-- how often a limit stands in a row, by how often each of the program's rules does
abbrev pub times_of : Task → (ℕ → ℤ) → Limit → ℤ
times_of task times l = sum_below (length (limits task)) (λ i. if is_same (limit_at task i) l then times i else pos 0)

-- each limit is the program's once, so that is how often its own rule stands there
abbrev pub LimitsAreOnce : Type 0
LimitsAreOnce = (task : Task) (times : ℕ → ℤ) (i : ℕ) → i < length (limits task) → times_of task times (limit_at task i) ≡ times i

abbrev pub LimitsAdd : Type 0
LimitsAdd = (task : Task) (f : Limit → ℤ) → sum_below (length (limits task)) (λ i. f (limit_at task i)) ≡ over_limits task f
