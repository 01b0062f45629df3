-- The nodes so far, and behind them those that are still read. Each node takes more than one byte, so there is a byte for each
-- tree that is owed, and the bytes that are left grow fewer.
use Rattle.std.proofs.Common.{◌≡◌, ◌≤◌, ◌+◌, ◌*◌, ◌-◌, length, map}
use Rattle.cert_text.specs.Reading.{node_of}
use Rattle.cert_text.specs.inside.Parts.{nodes_part, sizes}
use Rattle.cert_text.proofs.Loops.{behind_parts}
use Rattle.cert_text.proofs.reader.nodes.take_tree.Given as goal

abbrev pub invariant-loop-owed : goal.invariant-loop-owed
invariant-loop-owed l = record {
  read : behind_parts (map node_of l.nodes.items) (nodes_part (sizes l.size) (length l.bytes - length l.nodes.items) l.owed l.rest) ≡ nodes_part (sizes l.size) (length l.bytes) 1 l.bytes;
  enough : length l.nodes.items + length l.rest ≤ length l.bytes;
  few : 2 * l.owed + length l.rest ≤ 2 + length l.bytes;
}

abbrev pub decreases-loop-owed : goal.decreases-loop-owed
decreases-loop-owed l = length l.rest
