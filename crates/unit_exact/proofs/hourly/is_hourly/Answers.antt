-- From no hours on to all.
use Rattle.std.proofs.Common.{suc, ◌*◌, ◌≤◌, lit<, add-one, refl, sym, subst, arith, ℤ, pos, ◌+ℤ◌, ◌≤ℤ◌, to_z, of_z, unsigned_abs}
use Rattle.std.specs.Int.{w64}
use Rattle.std.proofs.lemmas.Int.{ints}
use Rattle.uc_model.specs.Prelude.{commitment_of}
use Rattle.uc_model.proofs.Common.{narrow}
use Rattle.hull_function.specs.Problems.{MAX_POWER}
use Rattle.unit_exact.specs.inside.Hourly.{IsHourlyTo}
use Rattle.unit_exact.proofs.HourlySteps.{hourly-more, hourly-none}
use Rattle.unit_exact.proofs.hourly.is_hourly.Goals as goal

pub loop-t-init : goal.loop-t-init
loop-t-init c = grind (arith, ints, narrow, hourly-none, c)

pub follows-requires-clause-before : goal.follows-requires-clause-before
follows-requires-clause-before c = c.loop-t.invariant.size

output-small : (output reserve : ℤ) → pos 0 ≤ℤ output → pos 0 ≤ℤ reserve → (output +ℤ reserve) ≤ℤ pos (2 * MAX_POWER) → unsigned_abs output ≤ 2 * MAX_POWER
output-small output reserve h k l = omega (arith, ints)

pub loop-t-preserved : goal.loop-t-preserved
loop-t-preserved c =
    let p = c.args.problem.now in
    let plain = c.args.plain.now in
    let on = commitment_of plain.pattern.now in
    let given = c.in-Some.given in
    let is = c.in-Some.ensures in
    let size = output-small given.output given.reserve is.output is.reserve is.small in
    let own = narrow given.output (2 * MAX_POWER) size (lit< tt) in
    let ramps = c.if-not-follows.ensures refl in
    record {
      hours =
          subst (λ n. IsHourlyTo p.periods p.table.now p.unit.now plain.terms.now on n (to_z w64 (of_z w64 given.output))) (sym (add-one c.loop-t.t))
          (subst (IsHourlyTo p.periods p.table.now p.unit.now plain.terms.now on (suc c.loop-t.t)) (sym own)
          (hourly-more p.periods p.table.now p.unit.now plain.terms.now on c.loop-t.t _ given c.loop-t.invariant.hours is ramps));
      size = subst (λ z. unsigned_abs z ≤ 2 * MAX_POWER) (sym own) size;
    }

pub returns : goal.returns
returns c = grind (arith, ints, c)
