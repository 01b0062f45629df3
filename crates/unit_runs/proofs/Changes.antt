-- A period of the recursion over states, and of a way, by whether the state changes.
-- Cite from a crate above by `use Rattle.unit_runs.proofs.Changes.{by_change, way-switched, way-kept}`.
use Rattle.std.proofs.Common.{◌≡◌, ℕ, suc, Bool, true, false, not, refl, ap, ◌∙◌, IsTrue, ℤ, pos, Option, Some, None, if◌then◌else◌}
use Rattle.std.proofs.lemmas.Bool.{cond-true}
use Rattle.dual_model.specs.Prelude.{allowed, total_of, lesser_of, since_after}
use Rattle.dual_model.proofs.Costs.{lesser-comm, total-zero}
use Rattle.unit_runs.specs.Runs.{Table, Thermal}
use Rattle.unit_runs.specs.Patterns.{Commitment}
use Rattle.unit_runs.specs.RunsToGo.{Fix, may_stay, run_and_start, runs_to_go, runs_way, switch_cost}

-- to stay costs nothing where it may be
stay-total : (may : Bool) (rest : Option ℤ) → total_of (if may then Some (pos 0) else None) rest ≡ (if may then rest else None)
stay-total true rest = total-zero rest
stay-total false rest = refl

module _ (periods : ℕ) (table : Table) (unit : Thermal) (fix : Fix) where
  -- what a switch leads to, and what the state does that goes on
  abbrev switched : ℕ → ℕ → Bool → ℕ → Option ℤ
  switched n t was since = total_of (switch_cost periods table unit fix t was since) (runs_to_go periods table unit fix n (suc t) (not was) (suc t))

  abbrev kept : ℕ → ℕ → Bool → ℕ → Option ℤ
  kept n t was since = if may_stay unit fix t was then runs_to_go periods table unit fix n (suc t) was since else None

  pub by_change : (n t : ℕ) (was : Bool) (since : ℕ)
      → runs_to_go periods table unit fix (suc n) t was since ≡ lesser_of (switched n t was since) (kept n t was since)
  by_change n t true since =
      ap (λ o. lesser_of o (switched n t true since)) (stay-total (may_stay unit fix t true) (runs_to_go periods table unit fix n (suc t) true since))
      ∙ lesser-comm (kept n t true since) (switched n t true since)
  by_change n t false since =
      ap (lesser_of (switched n t false since)) (stay-total (may_stay unit fix t false) (runs_to_go periods table unit fix n (suc t) false since))

  -- a way whose next move is known
  abbrev onward : Commitment → ℕ → ℕ → Bool → ℕ → Bool → Option ℤ
  onward on n t was since now =
      total_of (allowed unit fix (run_and_start periods table unit) t was since now) (runs_way periods table unit fix on n (suc t) now (since_after was since now t))

  pub way-switched : (on : Commitment) (n t : ℕ) (was : Bool) (since : ℕ) → on t ≡ not was
      → runs_way periods table unit fix on (suc n) t was since
      ≡ total_of (switch_cost periods table unit fix t was since) (runs_way periods table unit fix on n (suc t) (not was) (suc t))
  way-switched on n t true since e = ap (onward on n t true since) e
  way-switched on n t false since e = ap (onward on n t false since) e

  pub way-kept : (on : Commitment) (n t : ℕ) (was : Bool) (since : ℕ) → on t ≡ was → IsTrue (may_stay unit fix t was)
      → runs_way periods table unit fix on (suc n) t was since ≡ runs_way periods table unit fix on n (suc t) was since
  way-kept on n t true since e may =
      ap (onward on n t true since) e
      ∙ stay-total (may_stay unit fix t true) (runs_way periods table unit fix on n (suc t) true since)
      ∙ cond-true (may_stay unit fix t true) _ None may
  way-kept on n t false since e may =
      ap (onward on n t false since) e
      ∙ stay-total (may_stay unit fix t false) (runs_way periods table unit fix on n (suc t) false since)
      ∙ cond-true (may_stay unit fix t false) _ None may
