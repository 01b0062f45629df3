-- Small instances, nodes and tables whose values are computed by hand: on the model's example unit of 10 to
-- 50 MW, at 100 dollars an hour for 10 MW and 500 for 50.
use Rattle.std.specs.Prelude.{ℕ, suc, ◌*◌, Bool, true, not, ◌&&◌, ◌==◌, List, [], ◌∷◌, ℤ, pos, neg_ℤ, length, replicate, if◌then◌else◌}
use Rattle.uc_model.specs.Prelude.{Schedule, base_unit, bent_unit, cold_unit, mw, dollars}
use Rattle.uc_model.specs.declared.instance.Renewable.{Renewable}
use Rattle.uc_model.specs.declared.instance.Point.{Point}
use Rattle.dual_model.specs.NodeValue.{Instance, Node, Thermal, Table, IsNodeValue}
use Rattle.dual_model.specs.ExactValue.{IsExactNodeValue}
use Rattle.dual_model.specs.Tree.{root}
use Rattle.dual_model.specs.declared.node.Fixing.{Fixing}
use Rattle.dual_model.specs.declared.table.RampRow.{RampRow}

-- a system over as many periods as there are demands
abbrev pub system_of : List Thermal → List Renewable → List ℤ → List ℤ → Instance
system_of thermal renewable demand reserves = record {
  periods = length demand;
  demand = demand;
  reserves = reserves;
  thermal = thermal;
  renewable = renewable;
  a = 0;
  b = 0;
}

-- one unit, for an hour
abbrev pub alone : Thermal → ℕ → ℕ → Instance
alone unit demand reserve = system_of (unit ∷ []) [] (mw demand ∷ []) (mw reserve ∷ [])

-- a renewable unit of at most 5 MW, for an hour
abbrev pub windy : ℕ → ℕ → Instance
windy demand reserve =
    system_of [] ((record { name = []; minimum = pos 0 ∷ []; maximum = mw 5 ∷ [] }) ∷ []) (mw demand ∷ []) (mw reserve ∷ [])

-- a scale of a million, and a ray
abbrev pub MILLION : ℤ
MILLION = pos 1000000

abbrev pub RAY : ℤ
RAY = pos 0

-- prices for an hour
abbrev pub hour : ℤ → ℤ → ℤ → List RampRow → Instance → Table
hour k pi mu ramps instance =
    record { units = length instance.thermal; k = k; pi = pi ∷ []; mu = mu ∷ []; ramps = ramps }

-- a price of energy alone, and a ray of energy and reserve
abbrev pub energy : ℤ → Instance → Table
energy pi = hour MILLION pi (pos 0) []

abbrev pub ray : ℤ → ℤ → Instance → Table
ray pi mu = hour RAY pi mu []

-- a ray of energy, and of the ramp-up rule of the first unit
abbrev pub ramp_ray : ℤ → ℤ → Instance → Table
ramp_ray pi up = hour RAY pi (pos 0) ((record { g = 0; t = 0; up = up; down = pos 0 }) ∷ [])

-- all prices 0, for any time
abbrev pub zero_prices : Instance → Table
zero_prices instance = record { units = length instance.thermal; k = MILLION; pi = []; mu = []; ramps = [] }

-- the value of the root, or of another node, at the prices
abbrev pub IsRootValue : Instance → (Instance → Table) → ℤ → Type 0
IsRootValue instance prices v = IsNodeValue instance root (prices instance) v

abbrev pub IsValueAt : Instance → Node → (Instance → Table) → ℤ → Type 0
IsValueAt instance node prices v = IsNodeValue instance node (prices instance) v

-- the first unit's pattern decided in each period
abbrev pub decided_from : ℕ → List Bool → List Fixing
decided_from t [] = []
decided_from t (on ∷ ons) = (record { g = 0; t = t; on = on }) ∷ decided_from (suc t) ons

abbrev pub decided : List Bool → Node
decided ons = record { fixings = decided_from 0 ons }

-- a unit that can't ramp up from 20 MW to 30
abbrev pub slow_unit : Thermal
slow_unit = record base_unit { ru = mw 5 }

-- points that aren't convex: the middle one lies above the hull
abbrev pub concave_unit : Thermal
concave_unit = record base_unit {
  pmin = mw 0;
  pmax = mw 20;
  ru = mw 20;
  rd = mw 20;
  su = mw 20;
  sd = mw 20;
  p0 = mw 10;
  points = bent_unit.points;
}

-- off for one of three hours, but must run
abbrev pub stuck_unit : Thermal
stuck_unit = record cold_unit { must_run = true; dt = 3 }

-- dearer by 100 dollars an hour
abbrev pub dear_unit : Thermal
dear_unit = record base_unit {
  points = (record { mw = mw 10; cost = dollars 200 }) ∷ (record { mw = mw 50; cost = dollars 600 }) ∷ [];
}

-- two hours in which every kind of multiplier counts: ramps, start-up and shut-down limits that bind, a start
-- cost, and a renewable unit
abbrev pub mixed : Instance
mixed = system_of
    ((record base_unit {
      ru = mw 8;
      rd = mw 15;
      su = mw 30;
      sd = mw 25;
      startup = (record { lag = 1; cost = dollars 40 }) ∷ [];
    }) ∷ [])
    ((record { name = []; minimum = mw 1 ∷ mw 0 ∷ []; maximum = mw 4 ∷ mw 3 ∷ [] }) ∷ [])
    (mw 35 ∷ mw 20 ∷ []) (mw 6 ∷ mw 2 ∷ [])

abbrev pub mixed_prices : Instance → Table
mixed_prices instance = record {
  units = 1;
  k = MILLION;
  pi = mw 13 ∷ neg_ℤ (mw 2) ∷ [];
  mu = mw 1 ∷ mw 3 ∷ [];
  ramps = (record { g = 0; t = 0; up = mw 2; down = mw 1 }) ∷ (record { g = 0; t = 1; up = mw 5; down = mw 4 }) ∷ [];
}

-- a unit that is off, and whose start-up limit lies below its minimum
abbrev pub unstartable_unit : Thermal
unstartable_unit = record cold_unit { su = mw 5 }

-- the first unit beside the dearer one
abbrev pub two_units : Instance
two_units = system_of (base_unit ∷ dear_unit ∷ []) [] (mw 30 ∷ []) (mw 0 ∷ [])

-- one unit over some hours without demand
abbrev pub idle : Thermal → ℕ → Instance
idle unit hours = system_of (unit ∷ []) [] (replicate hours (pos 0)) (replicate hours (pos 0))

-- each unit at its minimum but in the fifth hour, and its start in the sixth of the first category
abbrev pub restarting : Schedule
restarting = record {
  thermal = λ g. record {
    on = λ t. not (t == 4);
    category = λ t. if t == 5 then 1 else 0;
    weight = λ t l. if not (t == 4) && (l == 0) then 1 else 0;
    reserve = λ t. pos 0;
  };
  output = λ w t. pos 0;
  shed = λ t. pos 0;
  short = λ t. pos 0;
}

-- a dollar at the scale of a million
abbrev pub scaled_dollars : ℕ → ℤ
scaled_dollars n = pos (n * 1000000 * 1000000)

-- three watts at no cost, or at a cost of 1 or -1 micro-dollar
abbrev pub three_watts : ℤ → List Point
three_watts cost = (record { mw = pos 0; cost = pos 0 }) ∷ (record { mw = pos 3; cost = cost }) ∷ []

-- 60 MW and 5 MW of reserve of a unit of 50 MW, at a price for unserved demand, and at one for missing reserve too
abbrev pub shedding : Instance
shedding = record (alone base_unit 60 5) { a = 100 }

abbrev pub lacking : Instance
lacking = record shedding { b = 20 }

-- a unit that can't ramp down from 20 MW to 10, nor be off
abbrev pub sinking_unit : Thermal
sinking_unit = record base_unit { rd = mw 5 }

-- the exact value of the root at the prices
abbrev pub IsExactRootValue : Instance → (Instance → Table) → ℤ → Type 0
IsExactRootValue instance prices v = IsExactNodeValue instance root (prices instance) v
