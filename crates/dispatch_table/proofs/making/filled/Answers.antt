-- The numbers are those of the task.
use Rattle.std.proofs.Common.{rules, map, ◌∙◌}
use Rattle.dispatch_rules.specs.Prelude.{limit_of}
use Rattle.dispatch_table.specs.Tasks.{task_with}
use Rattle.dispatch_table.proofs.MadeTasks.{free_is, is_task, is_task_of, narrow, table_is}
use Rattle.dispatch_table.proofs.making.filled.Goals as goal

pub returns : goal.returns
returns c =
    let given = c.args.given.now in
    let s = c.args.scale.now in
    let scale = c.requires.scale.value in
    let named = map limit_of c.in_ok-limits.limits.items in
    let own = c.args.amounts.items in
    let sides = c.in_ok-rights.rights.items in
    let costs = c.args.costs.items in (
      task_with given s,
      (
        is_task_of given c.requires.given s scale,
        is_task given c.requires.given s scale,
        record {
          table = c.in_ok-table.ensures ∙ table_is given c.requires.given s scale own named sides costs c.requires.amounts c.in_ok-limits.ensures c.in_ok-rights.ensures c.requires.costs;
          amounts = c.requires.amounts;
          limits = c.in_ok-limits.ensures;
          rights = c.in_ok-rights.ensures;
          scale = search rules;
          free = c.free_columns-free.ensures.value ∙ free_is given c.requires.given s scale own named sides costs c.requires.amounts c.in_ok-limits.ensures;
          narrow = narrow given c.requires.given s scale c.requires.scale.narrow c.requires.costs.narrow;
        },
      ),
    )
