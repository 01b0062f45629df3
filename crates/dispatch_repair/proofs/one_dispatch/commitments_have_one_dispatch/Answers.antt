-- The laws.
use Rattle.std.proofs.Common.{List, ◌⊎◌, inl, inr}
use Rattle.dispatch_repair.specs.Prelude.{IsDispatchOf, IsStuckOf, Instance, Pattern, Printed, Stuck}
use Rattle.dispatch_repair.proofs.Endings.{IsEnded, dispatched, stuck, ended}
use Rattle.dispatch_repair.proofs.OneDispatch.{never_both, one_dispatch, one_period_stuck}
use Rattle.dispatch_repair.proofs.one_dispatch.commitments_have_one_dispatch.Goals as goal

pub returns-clause-same : goal.returns-clause-same
returns-clause-same c = one_dispatch

pub returns-clause-never_both : goal.returns-clause-never_both
returns-clause-never_both c = never_both

pub returns-clause-one_period : goal.returns-clause-one_period
returns-clause-one_period c = one_period_stuck

pub returns-clause-ends : goal.returns-clause-ends
returns-clause-ends c = λ instance patterns order lawful merit regular. ended_so (ended instance patterns order lawful merit regular)
  where
    ended_so : {instance : Instance} {patterns : List Pattern} → IsEnded instance patterns
        → ((printed : Printed) × IsDispatchOf instance patterns printed) ⊎ ((reason : Stuck) × IsStuckOf instance patterns reason)
    ended_so (dispatched printed is) = inl (printed, is)
    ended_so (stuck reason is) = inr (reason, is)
