-- The cheapest start category among the later ones, by which the search for the cheapest of all goes, from the
-- last category to the first. Source: the rule of the reference model by Knueven, Ostrowski and Watson on which
-- category a start may use; that the first of several that cost the same is taken is this project's choice.
use Rattle.std.specs.Prelude.{◌≡◌, ℕ, ◌<◌, false, IsTrue, ℤ, ◌≤ℤ◌, ◌<ℤ◌}
use Rattle.uc_model.specs.Prelude.{Commitment, starts, category_cost, is_category_allowed}
pub use Rattle.uc_model.specs.declared.instance.Thermal.{Thermal}

-- a category, from 1, with its cost: the cheapest one above n that a start in period t may use, and of several
-- that cost the same the first
pub record IsCheapestAbove (unit : Thermal) (on : Commitment) (t n : ℕ) (least : ℕ × ℤ) : Type 0 where
  pub above : n < least.0
  pub allowed : IsTrue (is_category_allowed unit on least.0 t)
  pub cost : least.1 ≡ category_cost unit least.0
  pub cheapest : (s : ℕ) → n < s → IsTrue (is_category_allowed unit on s t) → least.1 ≤ℤ category_cost unit s
  pub first : (s : ℕ) → n < s → s < least.0 → IsTrue (is_category_allowed unit on s t) → least.1 <ℤ category_cost unit s

-- a start has the cheapest category that the commitment allows, the first of several, and no other cell has one
pub record HasLeastCategory (unit : Thermal) (on : Commitment) (t category : ℕ) : Type 0 where
  pub start : IsTrue (starts unit on t) → IsCheapestAbove unit on t 0 (category, category_cost unit category)
  pub none : starts unit on t ≡ false → category ≡ 0
