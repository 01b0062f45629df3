-- Each number is as the definitions say, and the bits keep it.
use Rattle.std.proofs.Common.{◌≡◌, ◌*◌, ◌==◌, ◌&&◌, ap, sym, ◌∙◌, arith, nat_lt, pos, ◌+ℤ◌, ◌-ℤ◌, if◌then◌else◌}
use Rattle.std.specs.Int.{int_max}
use Rattle.uc_model.specs.declared.limits.TheConstants.{MAX_POWER, MAX_UNITS}
use Rattle.uc_model.proofs.Common.{narrow}
use Rattle.dispatch_repair.specs.Prelude.{Instance, demand_of, lacking, served}
use Rattle.dispatch_repair.specs.Shortage.{unmet as unmet_of}
use Rattle.dispatch_repair.proofs.Shortages.{totals_served}
use Rattle.dispatch_repair.proofs.shortage.shortage_of.Goals as goal

pub returns-clause-are : goal.returns-clause-are
returns-clause-are c = λ period same totals demand need.
    let asked = narrow c.args.demand MAX_POWER c.requires.demand (omega arith) ∙ demand in
    let wanted = narrow c.args.need MAX_POWER c.requires.need (omega arith) ∙ need in
    let left = served period (unmet_of period) (pos 0) in
    let unmet : _ ≡ unmet_of period = narrow c.unmet-unmet.result (MAX_UNITS * (11 * MAX_POWER)) c.unmet-unmet.ensures.size (omega arith)
    ∙ c.unmet-unmet.ensures.value period (ap (λ (i : Instance). i.a) (sym same)) totals asked in
    let left_is : _ ≡ demand_of left = narrow c.less-left.result (MAX_UNITS * (12 * MAX_POWER)) c.less-left.ensures.size (omega arith)
    ∙ c.less-left.ensures.value ∙ (λ i. asked i -ℤ unmet i) in
    let room = narrow c.reserve_room.result (MAX_UNITS * (22 * MAX_POWER)) c.reserve_room.ensures.size (omega arith)
    ∙ c.reserve_room.ensures.value left (totals_served period (unmet_of period) (pos 0) c.args.totals.now totals) left_is in
    let lacking_is : _ ≡ lacking period = narrow c.beyond-lacking.result (MAX_UNITS * (23 * MAX_POWER)) c.beyond-lacking.ensures.size (omega arith)
    ∙ c.beyond-lacking.ensures.value ∙ (λ i. int_max (wanted i -ℤ room i) (pos 0)) in
    record {
      shed = narrow c.shed.result (MAX_UNITS * (35 * MAX_POWER)) c.shed.ensures.size (omega arith) ∙ c.shed.ensures.value
          ∙ (λ i. if nat_lt 0 (sym same i).a && (sym same i).b == 0 then unmet i +ℤ lacking_is i else unmet i);
      short = narrow c.short.result (MAX_UNITS * (35 * MAX_POWER)) c.short.ensures.size (omega arith) ∙ c.short.ensures.value
          ∙ (λ i. if nat_lt 0 (sym same i).b then lacking_is i else pos 0);
    }
