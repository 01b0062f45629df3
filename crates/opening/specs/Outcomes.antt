-- What an evaluation comes to: the outcome of a node at a table, by V or, where `exact`, by VE, and its size.
use Rattle.std.specs.Prelude.{◌≤◌, Bool, pos, ◌<ℤ◌, unsigned_abs}
use Rattle.uc_model.specs.declared.instance.Instance.{Instance}
use Rattle.dual_model.specs.Prelude.{MAX_VALUE}
use Rattle.dual_model.specs.declared.node.Node.{Node}
use Rattle.dual_model.specs.declared.table.Table.{Table}
use Rattle.branch_tree.specs.Prelude.{IsOutcome}
use Rattle.branch_tree.specs.declared.found.Outcome.{Outcome}
use Rattle.branch_tree.specs.declared.found.Outcome.TheVariants as outcome

-- a value is at most so large
abbrev pub IsSized : Outcome → Type 0
IsSized (outcome.Value v) = unsigned_abs v ≤ MAX_VALUE
IsSized (outcome.Empty g) = Unit {0}

-- a value above 0
abbrev pub IsPositive : Outcome → Type 0
IsPositive (outcome.Value v) = pos 0 <ℤ v
IsPositive (outcome.Empty g) = ⊥

-- the outcome is true of the node at the table, and of a size
pub record IsOutcomeAt (exact : Bool) (instance : Instance) (node : Node) (table : Table) (outcome : Outcome) : Type 0 where
  pub told : IsOutcome exact instance node table outcome
  pub sized : IsSized outcome
