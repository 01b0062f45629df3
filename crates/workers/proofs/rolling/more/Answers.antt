-- The window's schedule goes on from what is kept.
use Rattle.workers.proofs.Rolls.{goes_on, kept_rows, one_kept, one_more}
use Rattle.workers.proofs.rolling.more.Goals as goal

pub stitch-requires-clause-kept : goal.stitch-requires-clause-kept
stitch-requires-clause-kept c = kept_rows c.args.plan c.args.kept.now c.requires.kept

pub stitch-requires-clause-next : goal.stitch-requires-clause-next
stitch-requires-clause-next c =
    goes_on c.args.plan c.args.kept.now c.args.place c.args.shown.now c.requires.plan c.requires.kept c.requires.left c.requires.place c.requires.shown

pub returns : goal.returns
returns c = (
  one_more c.args.plan c.args.kept.now c.args.place c.args.shown.now c.in_ok-schedule.schedule c.requires.plan c.requires.kept c.requires.left
      c.requires.place c.requires.shown c.in_ok-schedule.ensures.stitched c.in_ok-schedule.ensures.kept,
  one_kept c.args.plan c.args.kept.now c.args.place c.requires.plan c.requires.left c.requires.place,
)
