-- The units before w have their uplifts.
use Rattle.uc_model.specs.Prelude.{renewable_count, sum_below}
use Rattle.uplift.specs.inside.Lists.{AreFirst, renewable_uplift_at}
use Rattle.uplift.proofs.renewable.renewable_uplifts.Given as goal

abbrev pub invariant-loop-w : goal.invariant-loop-w
invariant-loop-w l =
    AreFirst (renewable_count l.instance) l.w (λ w. sum_below l.instance.periods (renewable_uplift_at l.instance l.printed l.table w)) l.uplifts.items
