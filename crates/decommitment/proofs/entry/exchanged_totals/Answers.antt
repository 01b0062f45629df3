-- Each sum is exchanged, and the bits keep it.
use Rattle.std.proofs.Common.{◌≡◌, ◌*◌, ◌≤◌, arith, rules, ℤ, ◌+ℤ◌, ◌-ℤ◌, unsigned_abs, w64, to_z, of_z}
use Rattle.std.proofs.lemmas.Int.{to_z-of_z}
use mir.Val.{SFits}
use Rattle.uc_model.proofs.Common.{narrow}
use Rattle.dispatch_repair.specs.Prelude.{IsSizedEnd}
use Rattle.dispatch_repair.specs.Totals.{MAX_POWER, MAX_UNITS}
use Rattle.decommitment.proofs.entry.exchanged_totals.Goals as goal

exchanged_is : (total old new made : ℤ) → unsigned_abs total ≤ MAX_UNITS * (9 * MAX_POWER) → IsSizedEnd old → IsSizedEnd new → SFits w64 made
    → made ≡ to_z w64 (of_z w64 total) +ℤ (to_z w64 (of_z w64 new) -ℤ to_z w64 (of_z w64 old)) → to_z w64 (of_z w64 made) ≡ total +ℤ (new -ℤ old)
exchanged_is total old new made sized sized_old sized_new fits is = grind (arith, narrow, to_z-of_z, sized, sized_old, sized_new, fits, is)

pub returns : goal.returns
returns c =
    let totals = c.args.totals.now in
    let old = c.args.old.now in
    let new = c.args.new.now in
    let minimums = exchanged_is totals.minimums old.minimum new.minimum c.exchanged.result c.requires.minimums c.requires.old.minimum c.requires.new.minimum
    (record { sfits = c.exchanged.type_inv }) c.exchanged.ensures in
    let lows = exchanged_is totals.thermal_low old.reach.range.low new.reach.range.low c.exchanged-2.result c.requires.thermal_low c.requires.old.low c.requires.new.low
    (record { sfits = c.exchanged-2.type_inv }) c.exchanged-2.ensures in
    let highs = exchanged_is totals.thermal_high old.reach.range.high new.reach.range.high c.exchanged-3.result c.requires.thermal_high c.requires.old.high
    c.requires.new.high (record { sfits = c.exchanged-3.type_inv }) c.exchanged-3.ensures in
    let heads = exchanged_is totals.heads old.reach.head new.reach.head c.exchanged-4.result c.requires.heads c.requires.old.head c.requires.new.head
    (record { sfits = c.exchanged-4.type_inv }) c.exchanged-4.ensures in
    let low : to_z w64 (of_z w64 totals.renewable_low) ≡ totals.renewable_low = search rules in
    let high : to_z w64 (of_z w64 totals.renewable_high) ≡ totals.renewable_high = search rules in
    (λ i. record {
      minimums = minimums i;
      thermal_low = lows i;
      thermal_high = highs i;
      heads = heads i;
      renewable_low = low i;
      renewable_high = high i;
    })
