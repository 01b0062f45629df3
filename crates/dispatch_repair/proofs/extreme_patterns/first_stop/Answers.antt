-- The unit's patterns by whether it may stop at once, and whether it may ever.
use Rattle.std.proofs.Common.{◌≡◌, ◌-◌, ◌<◌, ◌⊎◌, inl, inr, min, max, subst, arith, ◌<ℤ◌}
use Rattle.std.proofs.lemmas.Int.{ints}
use Rattle.uc_model.specs.Prelude.{IsFewestOn, on_during}
use Rattle.uc_model.proofs.Common.{fewest-from_lowest, lowest-stopped_at_once, lowest-stopped, lowest-kept_on}
use Rattle.dispatch_repair.proofs.extreme_patterns.first_stop.Goals as goal
use Rattle.dispatch_repair.proofs.extreme_patterns.first_stop.Goals.{else-held-eq0-via-then-held-eq0+else-unit, else-held-eq0-via-else-held-eq0}

pub returns-then-unit-clause-fewest : goal.returns-then-unit-clause-fewest
returns-then-unit-clause-fewest c =
    let unit = c.args.unit.now in
    fewest-from_lowest c.args.periods unit (on_during 0 0)
    (lowest-stopped_at_once c.args.periods unit c.requires.lawful c.requires.on c.requires.initial c.requires.free (omega arith) (omega (arith, ints)))

pub returns-then-unit-2-clause-fewest : goal.returns-then-unit-2-clause-fewest
returns-then-unit-2-clause-fewest c =
    let unit = c.args.unit.now in
    let bar : (0 < unit.ut - unit.ut0) ⊎ (unit.sd <ℤ unit.p0) = elim c.else-held-eq0.branch [
      | else-held-eq0-via-then-held-eq0+else-unit w ↦ inr (omega (arith, ints))
      | else-held-eq0-via-else-held-eq0 w ↦ inl (omega arith)
    ] in
    fewest-from_lowest c.args.periods unit (on_during 0 c.args.periods)
    (lowest-kept_on c.args.periods unit c.requires.lawful c.requires.some c.requires.on c.requires.initial bar (omega (arith, ints)))

pub returns-else-unit-2-clause-fewest : goal.returns-else-unit-2-clause-fewest
returns-else-unit-2-clause-fewest c =
    let unit = c.args.unit.now in
    let bar : (0 < unit.ut - unit.ut0) ⊎ (unit.sd <ℤ unit.p0) = elim c.else-held-eq0.branch [
      | else-held-eq0-via-then-held-eq0+else-unit w ↦ inr (omega (arith, ints))
      | else-held-eq0-via-else-held-eq0 w ↦ inl (omega arith)
    ] in
    let stop : min (max (unit.ut - unit.ut0) 1) c.args.periods ≡ c.min.result = omega arith in
    subst (λ n. IsFewestOn c.args.periods unit (on_during 0 n)) stop
    (fewest-from_lowest c.args.periods unit (on_during 0 (min (max (unit.ut - unit.ut0) 1) c.args.periods))
    (lowest-stopped c.args.periods unit c.requires.lawful c.requires.some c.requires.on c.requires.initial c.requires.free bar (omega (arith, ints))))
