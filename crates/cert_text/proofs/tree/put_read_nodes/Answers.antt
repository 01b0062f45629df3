-- The lines of the nodes are those of what they stand for.
use Rattle.std.proofs.Common.{arith}
use Rattle.std.proofs.lemmas.List.Folds.{flat_map-map}
use Rattle.cert_text.proofs.tree.put_read_nodes.Goals as goal

pub returns : goal.returns
returns g c = grind (arith, flat_map-map, g, c)
