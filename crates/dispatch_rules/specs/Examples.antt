-- A worked example: two thermal units and a renewable one over two periods, in the first of which the second unit is off, with both shortages
-- priced, and costs in half micro-dollars.
use Rattle.std.specs.Prelude.{ℕ, zero, suc, ◌==◌, if◌then◌else◌, true, false, List, [], ◌∷◌, ℤ, pos, neg_ℤ}
use Rattle.uc_model.specs.declared.instance.Point.{Point}
use Rattle.uc_model.specs.declared.instance.Thermal.{Thermal}
use Rattle.uc_model.specs.declared.instance.Instance.{Instance}
use Rattle.uc_model.specs.Prelude.{Commitment}
use Rattle.dispatch_rules.specs.Dispatch.{Task, listed}

abbrev pub point : ℕ → ℕ → Point
point mw cost = record { mw = pos mw; cost = pos cost }

abbrev pub first_points : List Point
first_points = point 10 200 ∷ point 20 300 ∷ point 50 900 ∷ []

abbrev pub second_points : List Point
second_points = point 4 10 ∷ point 10 25 ∷ []

-- it is on at 15 before the first period
abbrev pub first_unit : Thermal
first_unit = record {
  name = [];
  must_run = false;
  pmin = pos 10;
  pmax = pos 50;
  ru = pos 5;
  rd = pos 7;
  su = pos 20;
  sd = pos 15;
  ut = 1;
  dt = 1;
  p0 = pos 15;
  on0 = true;
  ut0 = 1;
  dt0 = 1;
  startup = [];
  points = first_points;
}

-- it is off
abbrev pub second_unit : Thermal
second_unit = record {
  name = [];
  must_run = false;
  pmin = pos 4;
  pmax = pos 10;
  ru = pos 6;
  rd = pos 6;
  su = pos 8;
  sd = pos 9;
  ut = 1;
  dt = 1;
  p0 = pos 0;
  on0 = false;
  ut0 = 1;
  dt0 = 1;
  startup = [];
  points = second_points;
}

abbrev pub small_instance : Instance
small_instance = record {
  periods = 2;
  demand = pos 30 ∷ pos 12 ∷ [];
  reserves = pos 3 ∷ pos 0 ∷ [];
  thermal = first_unit ∷ second_unit ∷ [];
  renewable = (record { name = []; minimum = neg_ℤ (pos 3) ∷ pos 2 ∷ []; maximum = pos 5 ∷ pos 6 ∷ [] }) ∷ [];
  a = 7;
  b = 11;
}

abbrev pub small_on : ℕ → Commitment
small_on zero t = true
small_on (suc g) zero = false
small_on (suc g) (suc t) = true

abbrev pub small_corners : ℕ → List Point
small_corners zero = first_points
small_corners (suc g) = second_points

abbrev pub small_task : Task
small_task = record { instance = small_instance; on = small_on; corners = small_corners; scale = pos 2 }

-- a row of 47 numbers, 0 but for those that are given behind their columns: 14 unknowns, 27 slack and 3 artificial columns, the values of the sum
-- and of the cost, and the right side
abbrev pub number_in : ℕ → List (ℕ × ℤ) → ℤ
number_in c [] = pos 0
number_in c (x ∷ xs) = if c == x.0 then x.1 else number_in c xs

abbrev pub numbers : List (ℕ × ℤ) → List ℤ
numbers xs = listed 47 (λ c. number_in c xs ∷ [])

abbrev pub small_rows : List (List ℤ)
small_rows =
    -- M8: two segments of the first unit in each period, and one of the second
    numbers ((0, pos 1) ∷ (14, pos 1) ∷ (46, pos 10) ∷ []) ∷
    numbers ((1, pos 1) ∷ (15, pos 1) ∷ (46, pos 30) ∷ []) ∷
    numbers ((6, pos 1) ∷ (16, pos 1) ∷ (46, pos 10) ∷ []) ∷
    numbers ((7, pos 1) ∷ (17, pos 1) ∷ (46, pos 30) ∷ []) ∷
    numbers ((9, pos 1) ∷ (18, pos 1) ∷ (46, pos 6) ∷ []) ∷
    -- M9
    numbers ((0, pos 1) ∷ (1, pos 1) ∷ (2, pos 1) ∷ (19, pos 1) ∷ (46, pos 40) ∷ []) ∷
    numbers ((6, pos 1) ∷ (7, pos 1) ∷ (8, pos 1) ∷ (20, pos 1) ∷ (46, pos 40) ∷ []) ∷
    numbers ((21, pos 1) ∷ []) ∷
    numbers ((9, pos 1) ∷ (10, pos 1) ∷ (22, pos 1) ∷ (46, pos 4) ∷ []) ∷
    -- M10, in the first period alone
    numbers ((0, pos 1) ∷ (1, pos 1) ∷ (2, pos 1) ∷ (23, pos 1) ∷ (46, pos 40) ∷ []) ∷
    numbers ((24, pos 1) ∷ []) ∷
    -- M11
    numbers ((0, pos 1) ∷ (1, pos 1) ∷ (2, pos 1) ∷ (25, pos 1) ∷ (46, pos 10) ∷ []) ∷
    numbers ((0, neg_ℤ (pos 1)) ∷ (1, neg_ℤ (pos 1)) ∷ (6, pos 1) ∷ (7, pos 1) ∷ (8, pos 1) ∷ (26, pos 1) ∷ (46, pos 5) ∷ []) ∷
    numbers ((27, pos 1) ∷ (46, pos 6) ∷ []) ∷
    numbers ((9, pos 1) ∷ (10, pos 1) ∷ (28, pos 1) ∷ (46, pos 6) ∷ []) ∷
    -- M12
    numbers ((0, neg_ℤ (pos 1)) ∷ (1, neg_ℤ (pos 1)) ∷ (29, pos 1) ∷ (46, pos 2) ∷ []) ∷
    numbers ((0, pos 1) ∷ (1, pos 1) ∷ (6, neg_ℤ (pos 1)) ∷ (7, neg_ℤ (pos 1)) ∷ (30, pos 1) ∷ (46, pos 7) ∷ []) ∷
    numbers ((31, pos 1) ∷ (46, pos 6) ∷ []) ∷
    numbers ((9, neg_ℤ (pos 1)) ∷ (32, pos 1) ∷ (46, pos 6) ∷ []) ∷
    -- M13
    numbers ((3, pos 1) ∷ (33, pos 1) ∷ (46, pos 5) ∷ []) ∷
    numbers ((11, pos 1) ∷ (34, pos 1) ∷ (46, pos 4) ∷ []) ∷
    -- M14
    numbers ((0, pos 1) ∷ (1, pos 1) ∷ (3, pos 1) ∷ (4, pos 1) ∷ (41, pos 1) ∷ (46, pos 20) ∷ []) ∷
    numbers ((6, neg_ℤ (pos 1)) ∷ (7, neg_ℤ (pos 1)) ∷ (9, neg_ℤ (pos 1)) ∷ (11, neg_ℤ (pos 1)) ∷ (12, neg_ℤ (pos 1)) ∷ (42, pos 1) ∷ (46, pos 4) ∷ []) ∷
    -- M15
    numbers ((2, pos 1) ∷ (5, pos 1) ∷ (35, neg_ℤ (pos 1)) ∷ (43, pos 1) ∷ (46, pos 3) ∷ []) ∷
    numbers ((8, neg_ℤ (pos 1)) ∷ (10, neg_ℤ (pos 1)) ∷ (13, neg_ℤ (pos 1)) ∷ (36, pos 1) ∷ []) ∷
    -- M16
    numbers ((4, pos 1) ∷ (37, pos 1) ∷ (46, pos 30) ∷ []) ∷
    numbers ((12, pos 1) ∷ (38, pos 1) ∷ (46, pos 12) ∷ []) ∷
    -- M17
    numbers ((5, pos 1) ∷ (39, pos 1) ∷ (46, pos 3) ∷ []) ∷
    numbers ((13, pos 1) ∷ (40, pos 1) ∷ []) ∷
    -- the sum
    numbers ((0, neg_ℤ (pos 1)) ∷ (1, neg_ℤ (pos 1)) ∷ (2, neg_ℤ (pos 1)) ∷ (3, neg_ℤ (pos 1)) ∷ (4, neg_ℤ (pos 1)) ∷ (5, neg_ℤ (pos 1)) ∷ (6, pos 1) ∷ (7, pos 1) ∷ (9, pos 1) ∷ (11, pos 1) ∷ (12, pos 1) ∷ (35, pos 1) ∷ (44, pos 1) ∷ (46, neg_ℤ (pos 27)) ∷ []) ∷
    -- the cost
    numbers ((0, pos 20) ∷ (1, pos 40) ∷ (4, pos 14) ∷ (5, pos 22) ∷ (6, pos 20) ∷ (7, pos 40) ∷ (9, pos 5) ∷ (12, pos 14) ∷ (13, pos 22) ∷ (45, pos 1) ∷ []) ∷
    []
