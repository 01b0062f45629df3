use Rattle.std.proofs.Common.{◌+◌, ◌-◌, ◌≤◌, vec_len}
use Rattle.outside.specs.Prelude.{SameBut, Reads}
use Rattle.outside.proofs.reading.slurp.Given as goal

abbrev pub invariant-chunks : goal.invariant-chunks
invariant-chunks g l = let state = g.F.Files.state in record {
  reads : Reads l.fn.name l.bytes.items (state l.fn.files l.slot) (state l.files l.slot);
  within : vec_len l.bytes ≤ l.limit + 1;
  others : SameBut l.slot (state l.fn.files) (state l.files);
}

abbrev pub decreases-chunks : goal.decreases-chunks
decreases-chunks g l = l.limit + 1 - vec_len l.bytes
