-- The path is a node of the tree, and the table one that is stored.
use Rattle.std.proofs.Common.{arith}
use Rattle.search_desk.proofs.Claimed.{node_of, stored_lawful, unit_within}
use Rattle.search_desk.proofs.desk.Desk.held.Goals as goal

pub returns-in-Ok : goal.returns-in-Ok
returns-in-Ok g c =
    let opening = g.C.Case.opening in
    let book = c.self.inside.book in
    let unit = c.args.held.unit in
    let is = c.in-Ok.ensures in
    let kept = c.self.invariant.0.kept in
    let within = unit_within opening book is.worker unit is.number c.keeps_run.ensures is.holds in
    record {
      held = record {
        lawful = kept.begun.instance;
        path = node_of opening book is.number c.in-Ok.path c.keeps_run.ensures is.is_node;
        table = stored_lawful opening book unit c.in-Ok.path c.in-Ok.table c.in-Ok.bound c.keeps_run.ensures is;
        unit = omega (arith, within, kept.begun.budget);
      };
      unit = within;
    }
