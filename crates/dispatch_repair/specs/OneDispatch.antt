-- A commitment has one ending: it is dispatched or stuck, and the order of merit leaves no choice of a dispatch. Source: economic dispatch by the merit order of incremental
-- costs; that of sources of one slope the first comes first is this project's own.
--
-- Units and periods count from 0 here.
use Rattle.std.specs.Prelude.{◌≡◌, ◌⊎◌, ℕ, List}
use Rattle.uc_model.specs.Prelude.{IsLawfulInstance, cell_at, shed_at, short_at}
pub use Rattle.uc_model.specs.declared.instance.Instance.{Instance}
pub use Rattle.uc_model.specs.declared.pattern.Pattern.{Pattern}
pub use Rattle.uc_model.specs.declared.schedule.Printed.{Printed}
pub use Rattle.uc_model.specs.declared.stuck.Stuck.{Stuck}
use Rattle.schedule_check.specs.SizedNumbers.{output_at}
use Rattle.dispatch_repair.specs.Segments.{AreInMeritOrder}
use Rattle.dispatch_repair.specs.declared.segment.Segment.{Segment}
use Rattle.dispatch_repair.specs.Stuck.{IsRegular, IsDispatchOf, IsStuckOf}

-- the schedules have the same cells, the same outputs of renewable units, and the same that is missing
pub record AreSame (one other : Printed) : Type 0 where
  pub cells : (g t : ℕ) → cell_at one g t ≡ cell_at other g t
  pub outputs : (w t : ℕ) → output_at one w t ≡ output_at other w t
  pub shed : (t : ℕ) → shed_at one t ≡ shed_at other t
  pub short : (t : ℕ) → short_at one t ≡ short_at other t

-- two dispatches of a commitment are the same
abbrev pub DispatchesAreSame : Type 0
DispatchesAreSame = (instance : Instance) (patterns : List Pattern) (one other : Printed) → IsLawfulInstance instance
    → IsDispatchOf instance patterns one → IsDispatchOf instance patterns other → AreSame one other

-- a commitment that is dispatched isn't stuck
abbrev pub NeverBoth : Type 0
NeverBoth = (instance : Instance) (patterns : List Pattern) (printed : Printed) (stuck : Stuck) → IsLawfulInstance instance
    → IsDispatchOf instance patterns printed → ¬ IsStuckOf instance patterns stuck

-- it is stuck in one period
abbrev pub StuckPeriodsAreSame : Type 0
StuckPeriodsAreSame = (instance : Instance) (patterns : List Pattern) (one other : Stuck) → IsLawfulInstance instance
    → IsStuckOf instance patterns one → IsStuckOf instance patterns other → one.period ≡ other.period

-- it is dispatched or stuck, where each unit keeps its own rules and the segments of the units' hulls stand in an order of merit
abbrev pub CommitmentsEnd : Type 0
CommitmentsEnd = (instance : Instance) (patterns : List Pattern) (order : List Segment) → IsLawfulInstance instance → AreInMeritOrder instance order
    → IsRegular instance patterns → ((printed : Printed) × IsDispatchOf instance patterns printed) ⊎ ((stuck : Stuck) × IsStuckOf instance patterns stuck)
