-- What was checked may have uplifts.
use Rattle.uc_uplift.proofs.Uplifts.{may_have_uplifts}
use Rattle.uc_uplift.proofs.uplifting.uplifts_at.Goals as goal

pub uplifts_of-requires : goal.uplifts_of-requires
uplifts_of-requires c =
    let is = c.requires in
    may_have_uplifts is.0 is.1 is.2 c.args.checked.now c.args.number c.in_ok-printed.printed.now c.in_ok-printed.table is.3 c.in_ok-printed.ensures.picked

pub returns-in-Ok-clause-uplifted : goal.returns-in-Ok-clause-uplifted
returns-in-Ok-clause-uplifted c = record {
  printed = c.in_ok-printed.printed.now;
  picked = c.in_ok-printed.ensures.picked;
  uplifts = c.in-Ok.uplifts;
  are = c.in-Ok.ensures.are;
  numbers = c.numbers_of.ensures;
}
