-- The parent and the decision are those that the node is made of.
use Rattle.std.proofs.Common.{sym, subst}
use Rattle.std.proofs.lemmas.List.Elements.{All-push}
use Rattle.dual_model.specs.Prelude.{IsCell, IsNodeOf}
use Rattle.dual_model.specs.declared.node.Fixing.{Fixing}
use Rattle.number_cases.proofs.node.child_valued.Goals as goal

pub child-requires-clause-node : goal.child-requires-clause-node
child-requires-clause-node c =
    subst (IsNodeOf c.args.instance.now) (sym c.in_ok-node.ensures)
    (All-push (λ (fixing : Fixing). IsCell c.args.instance.now fixing.g fixing.t) c.args.parent.now.fixings c.args.fixing.now c.requires.parent c.requires.cell)

pub child-requires-clause-parent : goal.child-requires-clause-parent
child-requires-clause-parent c = record {
  parent = c.args.parent.now;
  period = c.args.fixing.now.t;
  on = c.args.fixing.now.on;
  is = c.in_ok-node.ensures;
  value = c.requires.value;
  sizes = c.requires.sizes;
}
