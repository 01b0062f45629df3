-- A value leaves no unit blocked.
use Rattle.std.proofs.Common.{subst}
use Rattle.dual_model.specs.Prelude.{root, IsValueOf}
use Rattle.dual_model.specs.declared.node.Node.{Node}
use Rattle.opening.proofs.Blocked.{not_blocked}
use Rattle.opening.proofs.evaluator.Evaluator.first_blocked.Goals as goal

pub returns-in-Ok-clause-blocked : goal.returns-in-Ok-clause-blocked
returns-in-Ok-clause-blocked c =
    let instance = c.args.self.now in
    let table = c.in_ok-table.table in
    let total = c.in-Ok.field-0 in
    not_blocked c.args.exact instance root table total
    (subst (λ (node : Node). IsValueOf c.args.exact instance node table total) c.root-root.ensures c.in-Ok.ensures.value)
