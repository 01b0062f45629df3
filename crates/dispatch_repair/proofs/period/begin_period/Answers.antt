-- Where no range is empty the sums over them tell what the period is filled from.
use Rattle.std.proofs.Common.{◌∙◌, ap, length, pos, refl, slice_index_or, subst, sym}
use Rattle.dispatch_repair.specs.Prelude.{AreHeadsOf, AreRangesOf, period_after}
use Rattle.dispatch_repair.proofs.period.begin_period.Goals as goal

pub returns-in-Some : goal.returns-in-Some
returns-in-Some c = λ before ranges heads.
    let period = period_after c.args.instance.now c.args.patterns.now c.args.t before in
    c.in-Some.ensures period (ap length c.as_slice-renewables.ensures) (ap length c.deref.ensures.value ∙ c.requires.room.ranges)
    (subst (AreRangesOf period) (sym c.deref.ensures.value) ranges)

pub returns : goal.returns
returns c = λ before ranges heads.
    let period = period_after c.args.instance.now c.args.patterns.now c.args.t before in
    c.start_from.ensures period refl c.requires.period
    (c.in_default.ensures period (ap length c.as_slice-renewables.ensures) (ap length c.deref.ensures.value ∙ c.requires.room.ranges)
    (subst (AreRangesOf period) (sym c.deref.ensures.value) ranges))
    (c.totals-totals.ensures.totals before (subst (AreRangesOf period) (sym c.deref-2.ensures.value) ranges) (subst (AreHeadsOf period) (sym c.deref-3.ensures.value) heads))
    (ap (λ xs. slice_index_or xs c.args.t (pos 0)) c.as_slice.ensures) (ap (λ xs. slice_index_or xs c.args.t (pos 0)) c.as_slice-2.ensures)
