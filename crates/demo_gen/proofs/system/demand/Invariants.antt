-- The percents before the place have their demand.
use Rattle.std.proofs.Common.{◌≡◌, take, map}
use Rattle.demo_gen.specs.Demo.{demand_at}
use Rattle.demo_gen.proofs.system.demand.Given as goal

abbrev pub invariant-loop-percent : goal.invariant-loop-percent
invariant-loop-percent l = l.demand.items ≡ map (demand_at l.minimum l.range) (take l.percent-index l.percents)
