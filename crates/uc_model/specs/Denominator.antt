-- The denominators over which a schedule's amounts are whole, and the least of them, over which it is printed. Source: the least
-- common denominator of fractions, as in Graham, Knuth and Patashnik, Concrete Mathematics, chapter 4.
--
-- Units and periods count from 0 here.
use Rattle.std.specs.Prelude.{ℕ, ◌*◌, ◌%◌, ◌≤◌, ◌==◌, Bool, ◌&&◌, ℤ, unsigned_abs, IsTrue}
use Rattle.uc_model.specs.Sums.{all_below}
use Rattle.uc_model.specs.Schedule.{Instance, Schedule, thermal_unit, thermal_count, renewable_count, p_at}

-- d times the number z over q is whole
abbrev pub is_whole_over : ℕ → ℕ → ℤ → Bool
is_whole_over q d z = (d * unsigned_abs z) % q == 0

-- over d, output above the minimum and reserve of unit g are whole in period t
abbrev pub is_cell_whole_over : Instance → ℕ → Schedule → ℕ → ℕ → ℕ → Bool
is_cell_whole_over instance q x d g t =
    is_whole_over q d (p_at (thermal_unit instance g) (x.thermal g) t) && is_whole_over q d ((x.thermal g).reserve t)

-- and so is what is missing in period t
abbrev pub is_lack_whole_over : ℕ → Schedule → ℕ → ℕ → Bool
is_lack_whole_over q x d t = is_whole_over q d (x.shed t) && is_whole_over q d (x.short t)

-- over d, each amount of the schedule over q is whole
abbrev pub is_schedule_whole_over : Instance → ℕ → Schedule → ℕ → Bool
is_schedule_whole_over instance q x d =
    all_below (thermal_count instance) (λ g. all_below instance.periods (is_cell_whole_over instance q x d g))
    && (all_below (renewable_count instance) (λ w. all_below instance.periods (λ t. is_whole_over q d (x.output w t)))
    && all_below instance.periods (is_lack_whole_over q x d))

-- the least denominator of the schedule over q
pub record IsLeastDenominator (instance : Instance) (q : ℕ) (x : Schedule) (d : ℕ) : Type 0 where
  pub positive : 1 ≤ d
  pub whole : IsTrue (is_schedule_whole_over instance q x d)
  pub least : (other : ℕ) → 1 ≤ other → IsTrue (is_schedule_whole_over instance q x other) → d ≤ other
