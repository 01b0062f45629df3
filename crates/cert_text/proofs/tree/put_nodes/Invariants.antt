-- The lines of the nodes so far were put.
use Rattle.std.proofs.Common.{take}
use Rattle.std.specs.List.{flat_map}
use Rattle.cert_text.proofs.Parts.{line_at}
use Rattle.cert_text.proofs.tree.put_nodes.Given as goal

abbrev pub invariant-loop-node : goal.invariant-loop-node
invariant-loop-node g l = g.O.Out.emits (flat_map (line_at l.layout.tables l.tree.nodes) (take l.node-index l.node-items)) l.initial.out l.out
