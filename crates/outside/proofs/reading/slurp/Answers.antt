use Rattle.std.proofs.Common.{◌++◌, take, arith}
use Rattle.std.proofs.lemmas.Grind.{common_steps}
use Rattle.outside.proofs.ReadingLemmas.{reads-more}
use Rattle.outside.proofs.reading.slurp.Goals as goal

pub returns-in_err-extend_from_slice-clause-no_memory :
    goal.returns-in_err-extend_from_slice-clause-no_memory
returns-in_err-extend_from_slice-clause-no_memory g c e =
    let state = g.F.Files.state in
    let taken = take c.in_ok-count.count c.read.new.buf in
    record {
      taken = c.chunks.bytes.items ++ taken;
      reads = reads-more c.args.name.now c.chunks.bytes.items taken
          (state c.args.files.now c.args.slot) (state c.chunks.files c.args.slot) (state c.read.new.self c.args.slot)
          c.chunks.invariant.reads c.in_ok-count.ensures.ok;
      within = grind (arith, common_steps);
    }
