-- The least way and its pattern.
use Rattle.std.proofs.Common.{◌≡◌, ℕ, Option, lit<, ◌-◌, ◌*◌, ◌≤◌, sym, ap, ◌∙◌, arith, Some, IfSome, unsigned_abs}
use Rattle.uc_model.proofs.Common.{abs_wide}
use Rattle.uc_model.proofs.Sizes.{wide}
use Rattle.unit_runs.specs.RunsToGo.{runs_to_go}
use Rattle.unit_exact.specs.inside.Choices.{Choice, choice_cost}
use Rattle.unit_exact.specs.inside.Problems.{MAX_SWITCH}
use Rattle.unit_exact.specs.inside.Switches.{IsWithinSwitches}
use Rattle.unit_exact.proofs.exact.least_way.Goals as goal

first-size : (periods : ℕ) (switch : Option Choice) (first : Choice) → periods ≤ 168 → switch ≡ Some first
    → IfSome switch (λ choice. IsWithinSwitches (periods - 0) choice.cost) → unsigned_abs first.cost ≤ MAX_SWITCH * 169
first-size periods switch first few is size = grind (arith, few, is, size)

pub pattern_of-requires-clause-first : goal.pattern_of-requires-clause-first
pattern_of-requires-clause-first c = grind (arith, c)

pub returns-in-None-clause-least : goal.returns-in-None-clause-least
returns-in-None-clause-least c = grind (arith, c)

pub returns-in-Some-clause-least : goal.returns-in-Some-clause-least
returns-in-Some-clause-least c =
    let p = c.args.problem.now in
    let first = c.in-Some.first in
    let whole : p.periods - 0 ≡ p.periods = omega arith in
    let size = first-size p.periods c.first_switch.result first c.requires.lawful.periods_are.1 c.in-Some.is c.first_switch.ensures.least.size in
    ap Some (wide first.cost (MAX_SWITCH * 169) size (lit< tt))
    ∙ sym (ap choice_cost c.in-Some.is) ∙ c.first_switch.ensures.least.cost
    ∙ ap (λ n. runs_to_go p.periods p.table.now p.unit.now p.fix.now n 0 p.unit.now.on0 0) whole

pub returns-in-Some-clause-way : goal.returns-in-Some-clause-way
returns-in-Some-clause-way c =
    let p = c.args.problem.now in
    let first = c.in-Some.first in
    let size = first-size p.periods c.first_switch.result first c.requires.lawful.periods_are.1 c.in-Some.is c.first_switch.ensures.least.size in
    c.pattern_of.ensures.way ∙ ap Some (sym (wide first.cost (MAX_SWITCH * 169) size (lit< tt)))

pub returns-in-Some-clause-size : goal.returns-in-Some-clause-size
returns-in-Some-clause-size c =
    let p = c.args.problem.now in
    let first = c.in-Some.first in
    let size = first-size p.periods c.first_switch.result first c.requires.lawful.periods_are.1 c.in-Some.is c.first_switch.ensures.least.size in
    let cast = abs_wide first.cost in
    omega (arith, size, cast)
