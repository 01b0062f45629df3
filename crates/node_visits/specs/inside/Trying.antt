-- What the choice of a table gives.
use Rattle.std.specs.Prelude.{◌≡◌, ◌⊎◌, Bool, true, pos}
use Rattle.uc_model.specs.declared.instance.Instance.{Instance}
use Rattle.dual_model.specs.Prelude.{IsLawfulTable, HasEmptyUnit}
use Rattle.dual_model.specs.declared.table.Table.{Table}
use Rattle.decided_nodes.specs.Decided.{DecidesEach, IsDispatched, IsWideAt}
use Rattle.found_schedule.specs.Found.{IsFoundIfAny}
use Rattle.search_desk.specs.declared.desk.HeldNode.{HeldNode}
use Rattle.node_visits.specs.Trials.{IsTableFor}
use Rattle.node_visits.specs.declared.visit.Trial.{Trial}

-- a lawful ray
pub record IsRay (instance : Instance) (ray : Table) : Type 0 where
  pub lawful : IsLawfulTable instance ray
  pub scale : ray.k ≡ pos 0

-- a table for the claim, with a schedule to let out, where there is one
pub record IsTrialFor (exact_dispatch : Bool) (instance : Instance) (claim : HeldNode) (trial : Trial) : Type 0 where
  pub table : IsTableFor instance claim trial.table
  pub found : IsFoundIfAny exact_dispatch instance trial.found

-- where each cell is decided at the first claim of a node, and the search uses the exact dispatch, the trial is by it, or there is none
abbrev pub IsDispatchedFor : Bool → Instance → HeldNode → Trial → Type 0
IsDispatchedFor exact_dispatch instance claim trial =
    exact_dispatch ≡ true → claim.had ≡ 0 → DecidesEach instance claim.path
    → IsDispatched instance claim.path (record { table = trial.table; schedule = trial.found })

-- and why there is none
abbrev pub IsUndispatchedFor : Bool → Instance → HeldNode → Type 0
IsUndispatchedFor exact_dispatch instance claim =
    exact_dispatch ≡ true → claim.had ≡ 0 → DecidesEach instance claim.path → HasEmptyUnit instance claim.path ⊎ IsWideAt instance claim.path

-- an exact dispatch for the claim
pub record IsExactTrial (exact_dispatch : Bool) (instance : Instance) (claim : HeldNode) (trial : Trial) : Type 0 where
  pub is : IsTrialFor exact_dispatch instance claim trial
  pub dispatched : IsDispatchedFor exact_dispatch instance claim trial
