-- A stop at once, or one behind the hours of a run.
use Rattle.std.proofs.Common.{◌≡◌, inl, ◌-◌, true, refl, sym, subst, ◌∙◌, arith, IfSome, Some, None}
use Rattle.unit_exact.specs.inside.Switches.{IsWithinSwitches}
use Rattle.unit_exact.proofs.BestTo.{best-last, best-more, nothing_known}
use Rattle.unit_exact.proofs.stops.first_stop.Goals as goal

pub returns-then-not-may_stay_on-clause-least : goal.returns-then-not-may_stay_on-clause-least
returns-then-not-may_stay_on-clause-least c =
    let p = c.args.problem.now in
    let some = c.requires.lawful.periods_are.0 in
    let whole : p.periods ≡ p.periods - 0 = omega arith in
    best-last p.periods p.table.now p.unit.now p.fix.now 0 true 0 0 (Some 0) None c.better-known.result c.stop_at_once.result refl (omega arith)
    (nothing_known p.periods p.table.now p.unit.now p.fix.now 0 true 0) (inl c.stop_at_once.ensures.total)
    (subst (λ n. IfSome c.stop_at_once.result (IsWithinSwitches n)) whole c.stop_at_once.ensures.size) c.better-known.ensures.cost c.better-known.ensures.choice
    some (sym c.may_stay_on.ensures ∙ c.if-not-may_stay_on.true)

pub later_stop-requires-clause-known : goal.later_stop-requires-clause-known
later_stop-requires-clause-known c =
    let p = c.args.problem.now in
    let some = c.requires.lawful.periods_are.0 in
    let whole : p.periods ≡ p.periods - 0 = omega arith in
    best-more p.periods p.table.now p.unit.now p.fix.now 0 true 0 0 (Some 0) None c.better-known.result c.stop_at_once.result refl (omega arith)
    (nothing_known p.periods p.table.now p.unit.now p.fix.now 0 true 0) (inl c.stop_at_once.ensures.total)
    (subst (λ n. IfSome c.stop_at_once.result (IsWithinSwitches n)) whole c.stop_at_once.ensures.size) c.better-known.ensures.cost c.better-known.ensures.choice
    some (sym c.may_stay_on.ensures ∙ c.if-not-may_stay_on.false)
