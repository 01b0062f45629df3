-- A node more goes behind those that were read; where one can't stand, the tree stops.
use Rattle.std.proofs.Common.{◌-◌, length, map, arith}
use Rattle.std.proofs.lemmas.List.{map_push, length_push}
use Rattle.cert_text.specs.Reading.{node_of}
use Rattle.cert_text.specs.inside.Parts.{tree_part, sizes}
use Rattle.cert_text.proofs.PartLaws.{node_more, no_node, nodes_done, node_shorter, owed_few}
use Rattle.cert_text.proofs.reader.nodes.take_tree.Goals as goal

pub returns-in_default : goal.returns-in_default
unfolding tree_part
returns-in_default c =
    no_node (sizes c.args.size.now) (map node_of c.loop-owed.nodes.items) (length c.args.bytes.now - length c.loop-owed.nodes.items) c.loop-owed.owed c.loop-owed.rest.now _ c.loop-owed-test.true c.in_default.ensures
    c.loop-owed.invariant.read

pub loop-owed-smaller : goal.loop-owed-smaller
loop-owed-smaller c = omega (arith, node_shorter (sizes c.args.size.now) c.requires c.loop-owed.rest.now c.in-Some.behind.now (node_of c.in-Some.node) c.in-Some.ensures)

pub loop-owed-preserved : goal.loop-owed-preserved
loop-owed-preserved c = grind (arith, node_shorter, length_push, node_more, map_push, owed_few, c)

pub returns : goal.returns
unfolding tree_part
returns c = nodes_done (sizes c.args.size.now) (map node_of c.loop-owed.nodes.items) (length c.args.bytes.now - length c.loop-owed.nodes.items) c.loop-owed.owed c.loop-owed.rest.now _ c.loop-owed-test.false c.loop-owed.invariant.read
