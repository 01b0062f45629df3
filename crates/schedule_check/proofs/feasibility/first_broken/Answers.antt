-- Each place comes after the rules that hold.
use Rattle.std.proofs.Common.{refl, arith}
use Rattle.uc_model.specs.Rules as model
use Rattle.schedule_check.specs.FirstBroken.{HoldsThroughout}
use Rattle.schedule_check.proofs.RuleOrder.{of_first, number_within}
use Rattle.schedule_check.proofs.FirstPlaces.{numerators, of_below, system_fails}
use Rattle.schedule_check.proofs.feasibility.first_broken.Goals as goal

pub returns-in-Some-first_place : goal.returns-in-Some-first_place
returns-in-Some-first_place c =
    let place = c.in-Some-first_place.place in
    let first = c.in-Some-first_place.ensures in
    record {
      rule = model.RenewableRange;
      number = refl;
      unit = first.unit;
      period = first.period.within;
      fails = first.period.fails;
      rules = of_first (HoldsThroughout c.args.instance.now (numerators c.args.instance.now c.args.printed.now)) c.in_default.ensures;
      units = first.before;
      periods = first.period.before;
    }

pub returns-in-Some-first_unbalanced : goal.returns-in-Some-first_unbalanced
returns-in-Some-first_unbalanced c =
    let P = λ (rule : model.Rule). HoldsThroughout c.args.instance.now (numerators c.args.instance.now c.args.printed.now) rule in
    system_fails model.Demand c.args.instance.now c.args.printed.now c.in-Some-first_unbalanced.period refl refl c.in-Some-first_unbalanced.ensures
    (of_below P (of_first P c.in_default.ensures) 14 (λ h. c.in_default-first_place.ensures) (λ h. absurd (omega arith)) (λ h. absurd (omega arith))
    (λ h. absurd (omega arith)) (λ h. absurd (omega arith)))

pub returns-in-Some-first_short_of_reserve : goal.returns-in-Some-first_short_of_reserve
returns-in-Some-first_short_of_reserve c =
    let P = λ (rule : model.Rule). HoldsThroughout c.args.instance.now (numerators c.args.instance.now c.args.printed.now) rule in
    system_fails model.Reserve c.args.instance.now c.args.printed.now c.in-Some-first_short_of_reserve.period refl refl
    c.in-Some-first_short_of_reserve.ensures
    (of_below P (of_first P c.in_default.ensures) 15 (λ h. c.in_default-first_place.ensures)
    (λ h g t hg ht. c.in_default-first_unbalanced.ensures t ht) (λ h. absurd (omega arith)) (λ h. absurd (omega arith)) (λ h. absurd (omega arith)))

pub returns-in-Some-first_shed : goal.returns-in-Some-first_shed
returns-in-Some-first_shed c =
    let P = λ (rule : model.Rule). HoldsThroughout c.args.instance.now (numerators c.args.instance.now c.args.printed.now) rule in
    system_fails model.ShedRange c.args.instance.now c.args.printed.now c.in-Some-first_shed.period refl refl c.in-Some-first_shed.ensures
    (of_below P (of_first P c.in_default.ensures) 16 (λ h. c.in_default-first_place.ensures)
    (λ h g t hg ht. c.in_default-first_unbalanced.ensures t ht) (λ h g t hg ht. c.in_default-first_short_of_reserve.ensures t ht)
    (λ h. absurd (omega arith)) (λ h. absurd (omega arith)))

pub returns-in-Some-first_short : goal.returns-in-Some-first_short
returns-in-Some-first_short c =
    let P = λ (rule : model.Rule). HoldsThroughout c.args.instance.now (numerators c.args.instance.now c.args.printed.now) rule in
    system_fails model.ShortRange c.args.instance.now c.args.printed.now c.in-Some-first_short.period refl refl c.in-Some-first_short.ensures
    (of_below P (of_first P c.in_default.ensures) 17 (λ h. c.in_default-first_place.ensures)
    (λ h g t hg ht. c.in_default-first_unbalanced.ensures t ht) (λ h g t hg ht. c.in_default-first_short_of_reserve.ensures t ht)
    (λ h g t hg ht. c.in_default-first_shed.ensures t ht) (λ h. absurd (omega arith)))

pub returns : goal.returns
returns c = λ rule.
    let P = λ (r : model.Rule). HoldsThroughout c.args.instance.now (numerators c.args.instance.now c.args.printed.now) r in
    of_below P (of_first P c.in_default.ensures) 18 (λ h. c.in_default-first_place.ensures)
    (λ h g t hg ht. c.in_default-first_unbalanced.ensures t ht) (λ h g t hg ht. c.in_default-first_short_of_reserve.ensures t ht)
    (λ h g t hg ht. c.in_default-first_shed.ensures t ht) (λ h g t hg ht. c.in_default-first_short.ensures t ht) rule ((number_within rule).1)
