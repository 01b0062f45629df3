-- The rows are those of the schedules, and so is what they make.
use Rattle.std.proofs.Common.{arith, length, refl}
use Rattle.roll.specs.Prelude.{Printed, IsStitched}
use Rattle.roll.proofs.StitchedParts.{HasParts, numbers_as, outputs_as, stitched_is, stitched_kept, thermal_as}
use Rattle.roll.proofs.stitching.stitch.Goals as goal

-- the schedule that is made
abbrev own : goal.After-from_vec-4 → Printed
own c = record {
  thermal = c.from_vec.result;
  renewable = c.from_vec-2.result;
  shed = c.from_vec-3.result;
  short = c.from_vec-4.result;
  denominator = 1;
}

pub returns-clause-stitched : goal.returns-clause-stitched
returns-clause-stitched c =
    let parts : HasParts c.args.instance.now c.args.keep c.args.kept.now c.args.shown.now (own c) = record {
      thermal = grind (arith, thermal_as, c);
      renewable = grind (arith, outputs_as, c);
      shed = grind (arith, numbers_as, c);
      short = grind (arith, numbers_as, c);
      whole = refl;
    } in
    stitched_is c.args.instance.now (length c.args.kept.now.shed) c.args.keep c.args.kept.now c.args.shown.now (own c) c.requires.kept c.requires.next parts

pub returns-clause-kept : goal.returns-clause-kept
returns-clause-kept c =
    let joined : IsStitched c.args.instance.now (length c.args.kept.now.shed) c.args.keep c.args.kept.now c.args.shown.now (own c) = returns-clause-stitched c in
    stitched_kept c.args.instance.now (length c.args.kept.now.shed) c.args.keep c.args.kept.now c.args.shown.now (own c) c.requires.lawful
    c.requires.kept c.requires.next joined
