-- One entry more.
use Rattle.std.proofs.Common.{◌≡◌, suc, ◌+◌, ◌-◌, length, refl, ap, subst, ◌∙◌, arith, slice_set}
use Rattle.uc_model.specs.Prelude.{period_count}
use Rattle.unit_path.specs.inside.Hours.{IsTableFrom}
use Rattle.unit_path.proofs.Tables.{table-end, table-more}
use Rattle.unit_path.proofs.path.fill.Goals as goal

pub hour-requires-clause-later : goal.hour-requires-clause-later
hour-requires-clause-later c = grind (arith, c)

pub loop-back-init : goal.loop-back-init
loop-back-init c =
    let periods : c.periods-periods.result ≡ period_count c.args.terms.now = c.periods-periods.ensures.value ∙ ap length c.requires.filled in
    table-end c.args.terms.now c.args.unit.now c.args.fix.now c.args.hours.now c.end.result (period_count c.args.terms.now - 0) c.periods-periods.result
    c.requires.room periods (omega arith) c.end.ensures

pub loop-back-preserved : goal.loop-back-preserved
loop-back-preserved c =
    let periods : c.periods-periods.result ≡ period_count c.args.terms.now = c.periods-periods.ensures.value ∙ ap length c.requires.filled in
    let t = c.periods-periods.result - 1 - c.loop-back.back in
    subst (λ k. IsTableFrom c.args.terms.now c.args.unit.now c.args.fix.now k (slice_set c.loop-back.hours t c.hour.result))
    (let e : t ≡ period_count c.args.terms.now - (c.loop-back.back + 1) = omega arith in e)
    (table-more c.args.terms.now c.args.unit.now c.args.fix.now c.loop-back.hours c.hour.result t t refl (omega arith)
    (subst (λ k. IsTableFrom c.args.terms.now c.args.unit.now c.args.fix.now k c.loop-back.hours)
    (let e : period_count c.args.terms.now - c.loop-back.back ≡ suc t = omega arith in e) c.loop-back.invariant)
    c.hour.ensures)

pub returns : goal.returns
returns c = grind (arith, c)
