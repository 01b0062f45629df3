-- What a search answers besides where it uses the exact dispatch. Source: branch and bound on the commitment variables of the reference model by
-- Knueven, Ostrowski and Watson, whose leaves are linear programs.
use Rattle.std.specs.Prelude.{◌≡◌, ◌⊎◌, ℕ, Bool, true}
pub use Rattle.uc_model.specs.declared.instance.Instance.{Instance}
use Rattle.branch_tree.specs.Prelude.{status_of}
pub use Rattle.branch_tree.specs.declared.found.Found.{Found}
use Rattle.pivot_closing.specs.Pivoted.{IsPivoted, IsWithinReach}

-- the first claim on a node at which each cell is decided is by the exact dispatch of its commitment, and where the budget has a claim for each
-- node of the tree, none on another node leaves it open; and a search within reach of this is closed, or there is no schedule
pub record IsPivotedFound (exact_dispatch : Bool) (instance : Instance) (budget gap : ℕ) (found : Found) : Type 0 where
  pub told : exact_dispatch ≡ true → IsPivoted instance budget gap found.tree found.tables found.log
  pub closes : exact_dispatch ≡ true → IsWithinReach instance budget gap found.tree found.log → (status_of found gap ≡ 0) ⊎ (status_of found gap ≡ 3)
