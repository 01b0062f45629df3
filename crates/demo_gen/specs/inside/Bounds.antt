-- How large the numbers are that are drawn of a unit.
use Rattle.std.specs.Prelude.{◌≤◌}
use Rattle.demo_gen.specs.declared.numbers.Numbers.{Numbers}

-- what each is at most
pub record IsSmall (n : Numbers) : Type 0 where
  pub minimum : n.minimum ≤ 50
  pub range : n.range ≤ 200
  pub time_up : (1 ≤ n.time_up) × (n.time_up ≤ 8)
  pub time_down : (1 ≤ n.time_down) × (n.time_down ≤ 8)
  pub low_cost : n.low_cost ≤ 39
  pub high_cost : n.high_cost ≤ 49
  pub start_cost : n.start_cost ≤ 1999
