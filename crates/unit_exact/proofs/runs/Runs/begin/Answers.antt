-- No hour yet behind the output before.
use Rattle.std.proofs.Common.{lit<, ◌*◌, subst, ◌∙◌, arith, ℤ, pos, Some, None, if◌then◌else◌}
use Rattle.std.specs.Ordering.{int_eq}
use Rattle.uc_model.proofs.Common.{narrow}
use Rattle.hull_function.specs.Hours.{IsCostsOf}
use Rattle.hull_function.specs.Problems.{MAX_POWER}
use Rattle.unit_exact.proofs.runs.Runs.begin.Goals as goal

pub returns : goal.returns
returns c =
    let p = c.args.problem.now in
    let new = c.begin.new.self in
    let output = narrow c.entry_output.result (2 * MAX_POWER) c.entry_output.ensures.size (lit< tt) ∙ c.entry_output.ensures.value in
    record {
      room = grind (arith, p, c);
      costs = subst (λ (z : ℤ). IsCostsOf new.alive new.function (λ q. if int_eq q z then Some (pos 0) else None)) output c.begin.ensures.costs;
      size = λ live. c.begin.ensures.size;
      near = λ live. c.begin.ensures.near;
      pieces = let none = c.begin.ensures.pieces in omega (arith, none);
    }
