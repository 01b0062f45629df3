-- The nodes so far were sound, and the walk goes on at the path.
use Rattle.std.proofs.Common.{drop, map}
use Rattle.cert_text.specs.Reading.{node_of}
use Rattle.cert_check.specs.inside.Leaves.{IsReady}
use Rattle.cert_check.specs.inside.Walks.{HasVisited, IsPath, all_visits}
use Rattle.cert_check.proofs.leaves.walked.Given as goal

abbrev pub invariant-loop-i : goal.invariant-loop-i
invariant-loop-i l = record {
  visited : HasVisited l.instance l.cert.tables l.cert.bound (all_visits l.cert.tree) l.i l.path.items (drop l.i (map node_of l.cert.tree));
  path : IsPath l.instance l.path.items;
  ready : IsReady l.instance l.cert.tables l.leaves;
}
