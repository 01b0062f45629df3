-- What a claim is evaluated at.
use Rattle.std.specs.Prelude.{◌≡◌, ℕ, ◌+◌, ◌≤◌, Bool, true, pos, IfSome, Option, None, Some}
use Rattle.uc_model.specs.declared.instance.Instance.{Instance}
use Rattle.dual_model.specs.Prelude.{IsLawfulTable}
use Rattle.dual_model.specs.declared.table.Table.{Table}
use Rattle.prices.specs.declared.ascent.Ascent.{Ascent}
use Rattle.decided_nodes.specs.Decided.{DecidesEach}
use Rattle.decided_nodes.specs.Pivoting.{uses_exact_dispatch}
use Rattle.decided_nodes.specs.declared.pivoting.Pivoting.{Pivoting}
use Rattle.decided_nodes.specs.declared.pivoting.Pivoting.TheVariants.{Exhaustive}
use Rattle.search_machine.specs.Prelude.{IsTrueOutcome}
use Rattle.opening.specs.Outcomes.{IsSized}
use Rattle.search_desk.specs.declared.desk.HeldNode.{HeldNode}
use Rattle.search_desk.specs.declared.desk.Evaluated.{Evaluated}
use Rattle.search_desk.specs.Best.{cost_of}
use Rattle.search_desk.specs.Desks.{IsLaterWithin}
use Rattle.search_desk.specs.Dispatches.{IsByDispatch}
use Rattle.node_visits.specs.declared.visit.Visited.{Visited}

-- an ascent to a lawful table, whose scale is that of the claim of this unit, with a lawful ray if it ran off
pub record IsAscentFor (instance : Instance) (unit : ℕ) (ascent : Ascent) : Type 0 where
  pub lawful : IsLawfulTable instance ascent.table
  pub scale : ascent.table.k ≡ pos (1000000 + unit)
  pub ray : IfSome ascent.ray (IsLawfulTable instance)
  pub ray_scale : IfSome ascent.ray (λ ray. ray.k ≡ pos 0)

-- an ascent that may have been made already
abbrev pub IsNextAt : Instance → ℕ → Option Ascent → Type 0
IsNextAt instance unit None = Unit {0}
IsNextAt instance unit (Some ascent) = IsAscentFor instance unit ascent

-- a lawful table, of a scale at most that of the claim where the node has an entry
pub record IsTableFor (instance : Instance) (claim : HeldNode) (table : Table) : Type 0 where
  pub lawful : IsLawfulTable instance table
  pub scaled : (limit : ℕ) → claim.unit ≤ limit → IsLaterWithin limit claim.had table

-- an evaluation of the kind of the claim's node at such a table
pub record IsEvaluatedFor (exact : Bool) (instance : Instance) (claim : HeldNode) (done : Evaluated) : Type 0 where
  pub table : IsTableFor instance claim done.table
  pub told : IsTrueOutcome exact instance claim.path done.table done.outcome
  pub sized : IsSized done.outcome

-- an exhaustive search has a cell to split the node on, unless each is decided; and the first evaluation of such a node is by the exact dispatch,
-- where the search uses it, with its schedule
pub record IsVisitedBy (pivoting : Pivoting) (instance : Instance) (claim : HeldNode) (visited : Visited) : Type 0 where
  pub direct : pivoting ≡ Exhaustive → visited.done.cell ≡ None → DecidesEach instance claim.path
  pub exact : uses_exact_dispatch pivoting ≡ true → claim.had ≡ 0 → DecidesEach instance claim.path
      → IsByDispatch instance claim.path (cost_of visited.found) visited.done.table visited.done.outcome
