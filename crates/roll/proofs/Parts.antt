-- Parts of an instance: some of its periods, with their demand, reserves and renewable limits. A part of a lawful instance whose
-- thermal units are lawful is lawful. The first periods of an instance are a part, and so is a window.
use Rattle.std.proofs.Common.{◌≡◌, ℕ, ◌+◌, ◌-◌, ◌<◌, ◌≤◌, List, [], length, get_or, take, drop, map, refl, sym, ap, subst, ◌∙◌, arith, ℤ, pos, ◌≤ℤ◌}
use Rattle.std.specs.Int.{int_max}
use Rattle.std.proofs.lemmas.Int.{ints}
use Rattle.std.proofs.lemmas.List.{ext_get_or, length-take-le, length-drop, length-map, get_or-take, get_or-drop, get_or-map, take_all}
use Rattle.std.proofs.lemmas.List.Elements.{All-get_or, All-from_get_or}
use Rattle.uc_model.specs.Prelude.{sum_below, thermal_unit, thermal_count, renewable_unit, renewable_count, renewable_minimum, renewable_maximum, demand_at, reserve_at, IsLawfulInstance, IsLawfulThermal, IsLawfulRenewable, IsPower, greatest_shortage_cost}
use Rattle.uc_model.specs.declared.limits.TheConstants.{MAX_SHORTAGE_COST}
use Rattle.uc_model.specs.declared.instance.Renewable.{Renewable}
use Rattle.uc_model.proofs.Common.{linear, le_trans, add-le-add, scale-le-scale, sum_below-same, sum_below-split, sum_below_nonneg}
use Rattle.roll.specs.Prelude.{first_periods, first_limits, Instance, Carried, IsWindow}

-- a renewable unit of the part has the limits of its periods
pub record HasLimitsOf (instance : Instance) (start len : ℕ) (part : Instance) (w : ℕ) : Type 0 where
  pub minimum_length : length (renewable_unit part w).minimum ≡ len
  pub maximum_length : length (renewable_unit part w).maximum ≡ len
  pub minimum : (t : ℕ) → t < len → renewable_minimum part w t ≡ renewable_minimum instance w (start + t)
  pub maximum : (t : ℕ) → t < len → renewable_maximum part w t ≡ renewable_maximum instance w (start + t)

pub record IsPart (instance : Instance) (start len : ℕ) (part : Instance) : Type 0 where
  pub periods : part.periods ≡ len
  pub within : start + len ≤ instance.periods
  pub demand_length : length part.demand ≡ len
  pub reserves_length : length part.reserves ≡ len
  pub demand : (t : ℕ) → t < len → demand_at part t ≡ demand_at instance (start + t)
  pub reserves : (t : ℕ) → t < len → reserve_at part t ≡ reserve_at instance (start + t)
  pub thermal_units : thermal_count part ≡ thermal_count instance
  pub renewable_units : renewable_count part ≡ renewable_count instance
  pub renewable : (w : ℕ) → w < renewable_count instance → HasLimitsOf instance start len part w
  pub a : part.a ≡ instance.a
  pub b : part.b ≡ instance.b

-- ---- lists of some of the periods
pub part_length : {X : Type 0} (xs : List X) (start len n : ℕ) → length xs ≡ n → start + len ≤ n → length (take len (drop start xs)) ≡ len
part_length xs start len n e h = length-take-le len (drop start xs) (omega (arith, length-drop start xs))

pub part_at : {X : Type 0} (xs : List X) (start len t : ℕ) (d : X) → t < len → get_or (take len (drop start xs)) t d ≡ get_or xs (start + t) d
part_at xs start len t d h = get_or-take len (drop start xs) t d h ∙ get_or-drop start xs t d

-- ---- the first periods
first_renewable : (instance : Instance) (n w : ℕ) → w < renewable_count instance
    → renewable_unit (first_periods n instance) w ≡ first_limits n (renewable_unit instance w)
first_renewable instance n w h = get_or-map (first_limits n) instance.renewable w _ _ h

pub first_is_part : (instance : Instance) (n : ℕ) → IsLawfulInstance instance → n ≤ instance.periods → IsPart instance 0 n (first_periods n instance)
first_is_part instance n lawful h = record {
  periods = refl;
  within = from_first;
  demand_length = part_length instance.demand 0 n instance.periods lawful.demand_length from_first;
  reserves_length = part_length instance.reserves 0 n instance.periods lawful.reserves_length from_first;
  demand = λ t ht. part_at instance.demand 0 n t (pos 0) ht;
  reserves = λ t ht. part_at instance.reserves 0 n t (pos 0) ht;
  thermal_units = refl;
  renewable_units = length-map instance.renewable (first_limits n);
  renewable = λ w hw.
      let unit = renewable_unit instance w in
      let is = first_renewable instance n w hw in
      let own = lawful.renewable w hw in
      record {
        minimum_length = ap (λ (u : Renewable). length u.minimum) is ∙ part_length unit.minimum 0 n instance.periods own.minimum_length from_first;
        maximum_length = ap (λ (u : Renewable). length u.maximum) is ∙ part_length unit.maximum 0 n instance.periods own.maximum_length from_first;
        minimum = λ t ht. ap (λ (u : Renewable). get_or u.minimum t (pos 0)) is ∙ part_at unit.minimum 0 n t (pos 0) ht;
        maximum = λ t ht. ap (λ (u : Renewable). get_or u.maximum t (pos 0)) is ∙ part_at unit.maximum 0 n t (pos 0) ht;
      };
  a = refl;
  b = refl;
}
  where
    from_first : 0 + n ≤ instance.periods
    from_first = omega arith

-- ---- a window
pub window_is_part : (instance : Instance) (carried : Carried) (start len : ℕ) (window : Instance) → IsLawfulInstance instance
    → start + len ≤ instance.periods → IsWindow instance carried start len window → IsPart instance start len window
window_is_part instance carried start len window lawful h is = grind (arith, ints, part_length, part_at, lawful, h, is)

-- ---- what all shortages may cost
-- some terms of a sum of numbers that aren't negative are no more than the sum
part_sum : (f : ℕ → ℤ) → ((t : ℕ) → pos 0 ≤ℤ f t) → (start len n : ℕ) → start + len ≤ n
    → sum_below len (λ t. f (start + t)) ≤ℤ sum_below n f
part_sum f nonneg start len n h =
    let rest = n - (start + len) in
    let whole : start + len + rest ≡ n = omega arith in
    let front = sum_below-split start len f in
    let all = sum_below-split (start + len) rest f ∙ refl in
    let same = ap (λ k. sum_below k f) whole in
    let before = sum_below_nonneg start f (λ t l. nonneg t) in
    let behind = sum_below_nonneg rest (λ k. f (start + len + k)) (λ t l. nonneg (start + len + t)) in
    omega (arith, linear)

most_nonneg : (z : ℤ) → pos 0 ≤ℤ int_max z (pos 0)
most_nonneg z = grind (arith, ints)

-- the most that may be missing of the part's needs, and of all needs
part_most : (need own : ℕ → ℤ) (start len periods n : ℕ) → periods ≡ len → start + len ≤ n → ((t : ℕ) → t < len → own t ≡ need (start + t))
    → sum_below periods (λ t. int_max (own t) (pos 0)) ≤ℤ sum_below n (λ t. int_max (need t) (pos 0))
part_most need own start len periods n e h same =
    let equal = ap (λ k. sum_below k (λ t. int_max (own t) (pos 0))) e
    ∙ sum_below-same len (λ t. int_max (own t) (pos 0)) (λ t. int_max (need (start + t)) (pos 0)) (λ t l. ap (λ z. int_max z (pos 0)) (same t l)) in
    let below = part_sum (λ t. int_max (need t) (pos 0)) (λ t. most_nonneg (need t)) start len n h in
    subst (λ z. z ≤ℤ sum_below n (λ t. int_max (need t) (pos 0))) (sym equal) below

part_shortages : (instance : Instance) (start len : ℕ) (part : Instance) → IsPart instance start len part → (a b : ℕ)
    → greatest_shortage_cost part a b ≤ℤ greatest_shortage_cost instance a b
part_shortages instance start len part is a b =
    add-le-add _ _ _ _
    (scale-le-scale a _ _ (part_most (demand_at instance) (demand_at part) start len part.periods instance.periods is.periods is.within is.demand))
    (scale-le-scale b _ _ (part_most (reserve_at instance) (reserve_at part) start len part.periods instance.periods is.periods is.within is.reserves))

-- ---- lawful parts
part_renewable : (instance : Instance) (start len : ℕ) (part : Instance) (w : ℕ) → IsPart instance start len part
    → HasLimitsOf instance start len part w → IsLawfulRenewable instance w → IsLawfulRenewable part w
part_renewable instance start len part w is limits own = grind (arith, ints, is, limits, own)

pub part_lawful : (instance : Instance) (start len : ℕ) (part : Instance) → IsLawfulInstance instance → 1 ≤ len → IsPart instance start len part
    → ((g : ℕ) → g < thermal_count instance → IsLawfulThermal (thermal_unit part g)) → IsLawfulInstance part
part_lawful instance start len part lawful some is units = record {
  periods = (omega (arith, is.periods), omega (arith, is.periods, is.within, lawful.periods.1));
  demand_length = is.demand_length ∙ sym is.periods;
  reserves_length = is.reserves_length ∙ sym is.periods;
  demand = All-from_get_or IsPower part.demand (pos 0) (λ t h.
      let within : t < len = omega (arith, is.demand_length, h) in
      subst IsPower (sym (is.demand t within))
      (All-get_or IsPower instance.demand (start + t) (pos 0) (omega (arith, lawful.demand_length, is.within)) lawful.demand));
  reserves = All-from_get_or IsPower part.reserves (pos 0) (λ t h.
      let within : t < len = omega (arith, is.reserves_length, h) in
      subst IsPower (sym (is.reserves t within))
      (All-get_or IsPower instance.reserves (start + t) (pos 0) (omega (arith, lawful.reserves_length, is.within)) lawful.reserves));
  thermal_units = omega (arith, is.thermal_units, lawful.thermal_units);
  thermal = λ g h. units g (omega (arith, is.thermal_units));
  renewable_units = omega (arith, is.renewable_units, lawful.renewable_units);
  renewable = λ w h. grind (arith, ints, part_renewable, w, instance, is, start, len, part, lawful);
  shed_price = omega (arith, is.a, lawful.shed_price);
  short_price = omega (arith, is.b, lawful.short_price);
  shortages =
      let below = part_shortages instance start len part is part.a part.b in
      let prices : greatest_shortage_cost instance part.a part.b ≡ greatest_shortage_cost instance instance.a instance.b =
      (λ i. greatest_shortage_cost instance (is.a i) (is.b i)) in
      le_trans _ _ _ below (subst (λ z. z ≤ℤ pos MAX_SHORTAGE_COST) (sym prices) lawful.shortages);
}

pub first_lawful : (instance : Instance) (n : ℕ) → IsLawfulInstance instance → 1 ≤ n → n ≤ instance.periods
    → IsLawfulInstance (first_periods n instance)
first_lawful instance n lawful some h =
    part_lawful instance 0 n (first_periods n instance) lawful some (first_is_part instance n lawful h) (λ g hg. lawful.thermal g hg)

-- ---- all periods
-- the instance cut to all of its periods is itself
limits_of_all : (instance : Instance) (w : ℕ) → IsLawfulInstance instance → w < renewable_count instance
    → first_limits instance.periods (renewable_unit instance w) ≡ renewable_unit instance w
limits_of_all instance w lawful h = grind (arith, ints, take_all, lawful, h)

pub first_of_all : (instance : Instance) → IsLawfulInstance instance → first_periods instance.periods instance ≡ instance
first_of_all instance lawful =
    let demand = take_all instance.periods instance.demand (omega (arith, lawful.demand_length)) in
    let reserves = take_all instance.periods instance.reserves (omega (arith, lawful.reserves_length)) in
    let renewable = ext_get_or (record { name = []; minimum = []; maximum = [] }) (map (first_limits instance.periods) instance.renewable) instance.renewable
    (length-map instance.renewable (first_limits instance.periods))
    (λ w h. let within : w < renewable_count instance = omega (arith, length-map instance.renewable (first_limits instance.periods)) in
    first_renewable instance instance.periods w within ∙ limits_of_all instance w lawful within) in
    (λ i. record instance { periods = instance.periods; demand = demand i; reserves = reserves i; renewable = renewable i })
