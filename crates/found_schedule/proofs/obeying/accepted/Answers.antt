-- What the check accepts obeys and has its printed cost, which fits; and it accepts what obeys.
use Rattle.std.proofs.Common.{◌≡◌, ◌≤◌, subst, sym, lit<, ap, ◌∙◌, to_z, of_z, unsigned_abs, true, false}
use Rattle.std.specs.Int.{w64}
use Rattle.uc_model.specs.Prelude.{printed_cost, printed_denominator}
use Rattle.uc_model.specs.declared.limits.TheConstants.{COST_MAX}
use Rattle.uc_model.proofs.Common.{rule_at, printed_cost-fits, watts-factor, narrow}
use Rattle.found_schedule.proofs.Numbers.{found_numbers}
use Rattle.found_schedule.proofs.obeying.accepted.Goals as goal

pub returns-in-Ok-clause-found : goal.returns-in-Ok-clause-found
returns-in-Ok-clause-found c =
    let instance = c.args.instance.now in
    let printed = c.args.printed.now in
    let cost = printed_cost instance printed in
    let factor = watts-factor instance printed in
    let size : unsigned_abs cost ≤ COST_MAX = printed_cost-fits instance printed (printed_denominator instance printed) factor.0 c.requires.lawful factor.1 c.in-Ok.ensures.obeys in
    let same : to_z w64 (of_z w64 c.in-Ok.cost) ≡ cost =
    ap (λ z. to_z w64 (of_z w64 z)) c.in-Ok.ensures.cost ∙ narrow cost COST_MAX size (lit< tt) in
    record {
      shape = c.requires.shape;
      obeys = c.in-Ok.ensures.obeys;
      cost_is = same;
      numbers = found_numbers instance printed c.requires.lawful c.requires.shape c.in-Ok.ensures.obeys c.requires.sized;
      size = subst (λ z. unsigned_abs z ≤ COST_MAX) (sym same) size;
      whole = λ plain. absurd (cc);
    }

pub returns-in-Err-clause-all : goal.returns-in-Err-clause-all
returns-in-Err-clause-all c = λ obeys.
    let broken = c.in-Err.ensures.broken in
    let holds = rule_at c.args.instance.now _ _ obeys broken.rule _ _ broken.unit broken.period in
    let differ : true ≡ false = sym holds ∙ broken.fails in absurd (cc)
