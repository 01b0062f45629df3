-- The commitment of each unit in the schedule is a pattern at the root.
use Rattle.std.proofs.Common.{refl, subst}
use Rattle.uc_model.specs.Prelude.{printed_denominator, printed_schedule}
use Rattle.dual_model.specs.Prelude.{IsFirstEmpty, root}
use Rattle.dual_model.specs.declared.node.Node.{Node}
use Rattle.dual_model.proofs.Agreement.{pattern-obeying}
use Rattle.dual_value.specs.NodeAnswer.{IsFaultOf}
use Rattle.uplift.proofs.uplifts.root_value.Goals as goal

pub unreachable-requires : goal.unreachable-requires
unreachable-requires c =
    let instance = c.args.instance.now in
    let q = printed_denominator instance c.args.printed.now in
    let x = printed_schedule instance c.args.printed.now q in
    let g = c.in-Err-Empty.field-0-0 in
    let fault = subst (λ (node : Node). IsFaultOf instance node c.in-Err-Empty.field-0) c.root.ensures c.in-Err-Empty.ensures.fault in
    let empty : IsFirstEmpty instance root g = subst (IsFaultOf instance root) c.in-Err-Empty.field-0-is fault in
    empty.empty (x.thermal g).on
    (pattern-obeying instance root q x g c.requires.lawful.periods.0 c.requires.obeys refl empty.within (c.requires.lawful.thermal g empty.within))
