-- The start categories are small, and the other numbers are.
use Rattle.std.proofs.Common.{All, arith, pos, rules, subst, sym}
use Rattle.model_tests.specs.SmallRows.{IsSmallRow}
use Rattle.model_tests.proofs.drawn.unit.Goals as goal

pub returns : goal.returns
returns c =
    let small : All IsSmallRow c.from_vec.result = subst (All IsSmallRow) (sym c.from_vec.ensures) c.in_ok-startup.ensures.rows in
    record {
      minimum = search rules;
      maximum = search rules;
      range = search rules;
      ramp_up = search rules;
      ramp_down = search rules;
      start_limit = search rules;
      stop_limit = search rules;
      time_up = search rules;
      time_down = search rules;
      initial_output = search rules;
      initial_time_up = search rules;
      initial_time_down = search rules;
      categories = search rules;
      lags = λ s h. omega (arith, (small s (record { lag = 0; cost = pos 0 }) h).lag);
      start_costs = λ s h. omega (arith, (small s (record { lag = 0; cost = pos 0 }) h).cost);
      points = search rules;
      outputs = search rules;
      costs = search rules;
      rising = search rules;
    }
