-- The fields are those of the start.
use Rattle.std.proofs.Common.{◌≡◌, ap, sym, ◌∙◌, subst, None, to_z, of_z}
use Rattle.std.specs.Int.{w128}
use Rattle.branch_tree.specs.Prelude.{node_count, TreeView}
use Rattle.search_machine.specs.Prelude.{start_of, IsOrderly}
use Rattle.search_machine.proofs.OrderlySteps.{orderly_start}
use Rattle.search_core.proofs.state.State.start.Goals as goal

pub invariant_of-result : goal.invariant_of-result
invariant_of-result c =
    let value = to_z w128 (of_z w128 c.args.value) in
    let log = c.from_vec.ensures ∙ c.new.ensures.items in
    let start = start_of c.args.units c.args.periods c.args.workers c.args.budget c.args.gap c.args.table value in
    let view : _ ≡ start = λ i. record {
      budget = c.args.budget;
      gap = c.args.gap;
      tree = c.in_ok-root.ensures i;
      tables = c.in_ok-single.ensures i;
      claims = c.new-2.ensures.items i;
      log = log i;
      best = None;
      desks = c.in_ok-desks.ensures i;
    } in
    record {
      orderly = subst IsOrderly (sym view)
          (orderly_start c.args.units c.args.periods c.args.workers c.args.budget c.args.gap c.args.table value c.requires.budget c.requires.gap);
      count = sym (ap (λ (t : TreeView). node_count t.nodes) c.in_ok-root.ensures);
    }
