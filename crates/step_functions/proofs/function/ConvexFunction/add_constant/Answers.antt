-- Each value is greater by the constant.
use Rattle.std.proofs.Common.{arith, ◌+ℤ◌, to_z, of_z}
use Rattle.std.specs.Int.{w128}
use Rattle.std.proofs.lemmas.Int.{ints}
use Rattle.step_functions.specs.contracts.function.ConvexFunction.{the_view}
use Rattle.step_functions.proofs.Values.{owed, owed-first, told}
use Rattle.step_functions.proofs.Changes.{constant-made, constant-kept}
use Rattle.step_functions.proofs.function.ConvexFunction.add_constant.Goals as goal

pub overflow_add-self : goal.overflow_add-self
overflow_add-self c =
    let whole = owed-first (the_view c.self.inside) c.args.self.now (λ p. c.args.constant) c.self.view_is c.requires in
    omega (arith, ints)

pub invariant_of-self : goal.invariant_of-self
invariant_of-self c =
    let f = the_view c.self.inside in
    let whole = owed-first f c.args.self.now (λ p. c.args.constant) c.self.view_is c.requires in
    constant-kept f _ c.args.constant (omega (arith, ints)) c.self.invariant (owed f c.args.self.now (λ p. c.args.constant) c.self.view_is c.requires)

pub returns-clause-value : goal.returns-clause-value
returns-clause-value c =
    let f = the_view c.self.inside in
    let whole = owed-first f c.args.self.now (λ p. c.args.constant) c.self.view_is c.requires in
    let v = to_z w128 (of_z w128 (to_z w128 (of_z w128 c.self.inside.value) +ℤ to_z w128 (of_z w128 c.args.constant))) in
    told f (record f { value = v }) c.args.self.now 0 (λ p. c.args.constant) c.self.view_is (constant-made f v c.args.constant (omega (arith, ints)))
