-- No unit is the first without an allowed pattern.
use Rattle.std.proofs.Common.{false, subst}
use Rattle.dual_model.specs.Prelude.{IsFirstEmpty, root}
use Rattle.dual_model.specs.declared.node.Node.{Node}
use Rattle.dual_value.specs.NodeAnswer.{IsFaultOf}
use Rattle.opening.proofs.Blocked.{not_first}
use Rattle.opening.proofs.evaluator.Evaluator.root_value.Goals as goal

pub unreachable-requires : goal.unreachable-requires
unreachable-requires c =
    let instance = c.args.self.now in
    let fault = subst (λ (node : Node). IsFaultOf instance node c.in-Err-Empty.field-0) c.root.ensures c.in-Err-Empty.ensures.fault in
    let empty : IsFirstEmpty instance root c.in-Err-Empty.field-0-0 = subst (IsFaultOf instance root) c.in-Err-Empty.field-0-is fault in
    not_first false instance c.in-Err-Empty.field-0-0 c.requires.patterns empty
