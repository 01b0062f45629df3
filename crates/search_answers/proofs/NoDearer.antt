-- A schedule that costs no more than one that costs no more than the drop commitment's.
use Rattle.std.proofs.Common.{ℤ, Option, Some, None}
use Rattle.uc_model.specs.declared.schedule.Printed.{Printed}
use Rattle.uc_model.proofs.Common.{le_trans}
use Rattle.decommitment.specs.DropCommitment.{Ending, Dispatched, StuckIn}
use Rattle.search_desk.specs.Best.{IsNoWorse}
use Rattle.search_answers.specs.SearchResult.{IsNoDearer}

pub no_dearer_through : (former best : Option (Printed × ℤ)) (ending : Ending) → IsNoWorse former best → IsNoDearer former ending
    → IsNoDearer best ending
no_dearer_through None None ending no_worse h = h
no_dearer_through None (Some best) (Dispatched printed cost) no_worse h = absurd h
no_dearer_through None (Some best) (StuckIn t) no_worse h = tt
no_dearer_through (Some former) None ending no_worse h = absurd no_worse
no_dearer_through (Some former) (Some best) (Dispatched printed cost) no_worse h = le_trans best.1 former.1 cost no_worse h
no_dearer_through (Some former) (Some best) (StuckIn t) no_worse h = tt
