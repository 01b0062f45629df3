-- What contracts see of a worker's best schedule with its pass of the incumbent. This project's own form.
use Rattle.std.specs.Prelude.{◌≡◌, ℕ, Bool, [], ℤ, ◌<ℤ◌, ◌≤ℤ◌, Option, Some, None}
pub use Rattle.uc_model.specs.declared.instance.Instance.{Instance}
use Rattle.uc_model.specs.declared.schedule.Printed.{Printed}
use Rattle.found_schedule.specs.Found.{IsFoundIfAny}
use Rattle.atomic_table.specs.Seated.{TableId}
use Rattle.incumbent.specs.Costs.{AtMost}
pub use Rattle.incumbent.specs.Passes.{Known}
use Rattle.search_desk.specs.Best.{cost_of}

-- an incumbent of nothing
abbrev pub no_incumbent : TableId
no_incumbent = record { words = 0; slots = 0; views_name = 0; atom = 0; block = 0; offset = 0; slot_names = [] }

-- the schedule with its cost, the least cost that the pass has seen, and the parts of the pass
pub record OwnBestView : Type 0 where
  pub schedule : Option (Printed × ℤ)
  pub seen : Option ℤ
  pub parts : ℕ

abbrev pub own_best_of : Known → Option (Printed × ℤ) → OwnBestView
own_best_of pass schedule = record { schedule = schedule; seen = pass.seen; parts = pass.parts }

-- the pass is of the incumbent, the least that it published is the schedule's cost, it has seen no greater one, and the schedule is one to let out
pub record IsOwnBest (exact_dispatch : Bool) (instance : Instance) (incumbent : TableId) (pass : Known) (schedule : Option (Printed × ℤ)) : Type 0 where
  pub object : pass.object ≡ incumbent
  pub mine : pass.mine ≡ cost_of schedule
  pub below : AtMost pass.seen (cost_of schedule)
  pub found : IsFoundIfAny exact_dispatch instance schedule

-- a cost is below that of the schedule, where there is one
abbrev pub IsCheaper : ℤ → Option (Printed × ℤ) → Type 0
IsCheaper cost None = Unit {0}
IsCheaper cost (Some priced) = cost <ℤ priced.1

-- there is a schedule that costs no more
abbrev pub IsNoCheaper : ℤ → Option (Printed × ℤ) → Type 0
IsNoCheaper cost None = ⊥
IsNoCheaper cost (Some priced) = priced.1 ≤ℤ cost
