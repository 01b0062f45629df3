-- What the check accepts obeys and has its printed cost, which fits.
use Rattle.std.proofs.Common.{◌≡◌, ◌≤◌, subst, sym, lit<, ap, ◌∙◌, to_z, of_z, All, unsigned_abs}
use Rattle.std.specs.Int.{w64}
use Rattle.uc_model.specs.Prelude.{IsLimit, printed_cost, printed_denominator}
use Rattle.uc_model.specs.declared.limits.TheConstants.{COST_MAX}
use Rattle.uc_model.proofs.Common.{printed_cost-fits, watts-factor, narrow}
use Rattle.schedule_check.specs.PlainNumbers.{IsPlainCell}
use Rattle.schedule_repair.proofs.PlainSchedules.{plain_rows}
use Rattle.schedule_repair.proofs.accepted.accepted.Goals as goal

pub returns-in-Ok : goal.returns-in-Ok
returns-in-Ok c =
    let instance = c.args.instance.now in
    let printed = c.args.printed.now in
    let cost = printed_cost instance printed in
    let factor = watts-factor instance printed in
    let size : unsigned_abs cost ≤ COST_MAX = printed_cost-fits instance printed (printed_denominator instance printed) factor.0 c.requires.lawful factor.1 c.in-Ok.ensures.obeys in
    let same : to_z w64 (of_z w64 c.in-Ok.cost) ≡ cost =
    ap (λ z. to_z w64 (of_z w64 z)) c.in-Ok.ensures.cost ∙ narrow cost COST_MAX size (lit< tt) in
    record {
      shape = c.has_shape.ensures c.if-not-has_shape.false;
      obeys = c.in-Ok.ensures.obeys;
      cost_is = same;
      numbers = plain_rows printed
          (subst (All (All IsPlainCell)) c.as_slice.ensures (c.are_plain.ensures c.if-not-are_plain.false))
          (subst (All (All IsLimit)) c.as_slice-else-not-are_plain.ensures (c.are_limits.ensures c.if-not-are_limits.false))
          (c.is_missing_within.ensures.shed c.if-not-is_missing_within.false)
          (c.is_missing_within.ensures.short c.if-not-is_missing_within.false);
      whole = c.requires.whole;
      size = subst (λ z. unsigned_abs z ≤ COST_MAX) (sym same) size;
    }
