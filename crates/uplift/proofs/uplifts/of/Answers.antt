-- The lists hold the uplifts, and what the others leave of the gap is the ramp slack.
use Rattle.std.proofs.Common.{arith, ◌*◌, ◌≤◌, lit<, FitsSigned, List, length, sym, ap, subst, ◌∙◌, rules, ℤ, unsigned_abs, All}
use Rattle.std.specs.Int.{w128}
use Rattle.std.proofs.lemmas.Int.{to_z-of_z}
use Rattle.uc_model.specs.Prelude.{renewable_count, thermal_count, sum_below}
use Rattle.schedule_check.proofs.Priced.{priced}
use Rattle.uc_model.proofs.Common.{sum-fits, sum-size, wide-size}
use Rattle.dual_model.specs.Prelude.{MAX_VALUE}
use Rattle.uplift.specs.Sizes.{MAX_GAP, MAX_KNOWN, MAX_PERIODS, MAX_SHORTAGE, MAX_SLACK, MAX_UNITS, MAX_UPLIFT}
use Rattle.uplift.specs.inside.Lists.{AreRenewableUplifts, renewable_uplift_at, uplift_by}
use Rattle.uplift.proofs.Answered.{uplifts_are}
use Rattle.uplift.proofs.Lists.{few_and_small}
use Rattle.uplift.proofs.uplifts.of.Goals as goal

pub thermal_uplifts-requires-clause-prices : goal.thermal_uplifts-requires-clause-prices
thermal_uplifts-requires-clause-prices c = priced c.args.instance.now c.args.printed.now c.requires.lawful c.requires.whole c.requires.obeys

pub thermal_uplifts-requires-clause-parts : goal.thermal_uplifts-requires-clause-parts
thermal_uplifts-requires-clause-parts c = ap length c.as_slice-parts.ensures ∙ c.in_ok-valued.ensures.value.parts

pub thermal_uplifts-requires-clause-part : goal.thermal_uplifts-requires-clause-part
thermal_uplifts-requires-clause-part c = grind (arith, c)

pub gap-total-requires-clause-value : goal.gap-total-requires-clause-value
gap-total-requires-clause-value c = wide-size c.in_ok-valued.valued.total MAX_VALUE c.in_ok-valued.ensures.value.size

pub sum-requires : goal.sum-requires
sum-requires c =
    sum-fits c.shed_uplift-shed.result c.reserve_slack-reserve_slack.result (MAX_PERIODS * MAX_SHORTAGE) (MAX_PERIODS * MAX_SLACK) c.shed_uplift-shed.ensures.size
    c.reserve_slack-reserve_slack.ensures.size (lit< tt)

pub rest-ramp_slack-requires-clause-total : goal.rest-ramp_slack-requires-clause-total
rest-ramp_slack-requires-clause-total c = wide-size c.gap-total.result MAX_GAP c.gap-total.ensures.size

pub rest-ramp_slack-requires-clause-known : goal.rest-ramp_slack-requires-clause-known
rest-ramp_slack-requires-clause-known c =
    wide-size c.sum.result MAX_KNOWN (sum-size c.shed_uplift-shed.result c.reserve_slack-reserve_slack.result c.sum.result (MAX_PERIODS * MAX_SHORTAGE) (MAX_PERIODS * MAX_SLACK)
    c.sum.ensures c.shed_uplift-shed.ensures.size c.reserve_slack-reserve_slack.ensures.size)

pub rest-ramp_slack-requires-clause-first : goal.rest-ramp_slack-requires-clause-first
rest-ramp_slack-requires-clause-first c =
    let instance = c.args.instance.now in
    subst (λ (xs : List ℤ). (length xs ≤ MAX_UNITS) × All (λ n. unsigned_abs n ≤ MAX_UPLIFT) xs) (sym c.deref.ensures.value)
    (few_and_small (thermal_count instance) (uplift_by instance c.args.printed.now c.args.table.now c.as_slice-parts.result.now)
    c.in_ok-thermal.thermal.items c.requires.lawful.thermal_units c.in_ok-thermal.ensures)

pub rest-ramp_slack-requires-clause-second : goal.rest-ramp_slack-requires-clause-second
rest-ramp_slack-requires-clause-second c =
    let instance = c.args.instance.now in
    subst (λ (xs : List ℤ). (length xs ≤ MAX_UNITS) × All (λ n. unsigned_abs n ≤ MAX_UPLIFT) xs) (sym c.deref-2.ensures.value)
    (few_and_small (renewable_count instance) (λ w. sum_below instance.periods (renewable_uplift_at instance c.args.printed.now c.args.table.now w))
    c.in_ok-renewable.renewable.items c.requires.lawful.renewable_units c.in_ok-renewable.ensures)

pub returns : goal.returns
returns c =
    let instance = c.args.instance.now in
    let printed = c.args.printed.now in
    let table = c.args.table.now in
    let known = to_z-of_z w128 c.sum.result (search rules) ∙ c.sum.ensures in
    let fits : FitsSigned w128 c.in_ok-valued.valued.total = search rules in
    let first = c.deref.ensures.value ∙ sym c.from_vec.ensures in
    let second = c.deref-2.ensures.value ∙ sym c.from_vec-2.ensures in
    uplifts_are instance printed table c.in_ok-valued.valued _
    (record { lawful = c.requires.lawful; one = c.requires.whole; obeys = c.requires.obeys })
    c.requires.table c.in_ok-valued.ensures.value
    (record {
      thermal = grind (arith, instance, printed, table, c);
      renewable = subst (λ (uplifts : List ℤ). AreRenewableUplifts instance printed table uplifts) (sym c.from_vec-2.ensures) c.in_ok-renewable.ensures;
      shed = to_z-of_z w128 c.shed_uplift-shed.result (search rules) ∙ c.shed_uplift-shed.ensures.value;
      reserve = to_z-of_z w128 c.reserve_slack-reserve_slack.result (search rules) ∙ c.reserve_slack-reserve_slack.ensures.value;
      total = to_z-of_z w128 c.gap-total.result (search rules) ∙ simp to_z-of_z at c.gap-total.ensures.value;
      rest = grind (arith, to_z-of_z, c, known, first, second);
    })
