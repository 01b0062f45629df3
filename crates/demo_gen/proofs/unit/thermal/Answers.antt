-- The parts make the unit.
use Rattle.std.proofs.Common.{◌∙◌, ◌+◌, ◌*◌, ◌/◌, true, false, ap, arith}
use Rattle.demo_gen.specs.Demo.{millions, ramp_of, unit_of}
use Rattle.demo_gen.proofs.UnitParts.{narrow_millions}
use Rattle.demo_gen.proofs.unit.thermal.Goals as goal

pub returns : goal.returns
unfolding unit_of
returns c =
    let n = c.args.numbers.now in
    let name = c.from_string.ensures ∙ c.in_ok-name.ensures.ok in
    let least = narrow_millions n.minimum c.millions_of.result c.millions_of.ensures (omega arith) in
    let greatest = narrow_millions (n.minimum + n.range) c.millions_of-2.result c.millions_of-2.ensures (omega arith) in
    let hourly = narrow_millions (ramp_of n) c.millions_of-hourly.result (c.millions_of-hourly.ensures ∙ ap millions c.ramp-ramp.ensures) (omega arith) in
    let limit = narrow_millions (n.minimum + ramp_of n) c.millions_of-limit.result (c.millions_of-limit.ensures ∙ ap (λ ramp. millions (n.minimum + ramp)) c.ramp-ramp.ensures) (omega arith) in
    let initial = narrow_millions (n.minimum + 3 * n.range / 10) c.millions_of-3.result c.millions_of-3.ensures (omega arith) in
    let startup = c.from_vec.ensures ∙ c.in_ok-startup.ensures in
    let points = c.from_vec-2.ensures ∙ c.in_ok-points.ensures in
    λ i. record {
      name = name i;
      must_run = false;
      pmin = least i;
      pmax = greatest i;
      ru = hourly i;
      rd = hourly i;
      su = limit i;
      sd = limit i;
      ut = n.time_up;
      dt = n.time_down;
      p0 = initial i;
      on0 = true;
      ut0 = n.time_up;
      dt0 = 0;
      startup = startup i;
      points = points i;
    }
