-- The units with marks gave the same so far.
use Rattle.std.proofs.Common.{◌≡◌, ◌<◌, ℕ, length}
use Rattle.dispatch_repair.specs.Prelude.{thermal_amount}
use Rattle.decommitment.specs.inside.Runs.{outputs_at}
use Rattle.decommitment.specs.inside.Stretches.{IsMarked}
use Rattle.decommitment.proofs.price.keep_all.Given as goal

abbrev pub invariant-loop-t : goal.invariant-loop-t
invariant-loop-t l = record {
  count : length l.marks ≡ length l.initial.marks;
  same : (g k : ℕ) → g < length l.marks → IsMarked l.marks g → k < l.t
      → thermal_amount l.changed.instance.now (outputs_at l.changed.origin.now.run.now.fills.items k) g ≡ thermal_amount l.changed.instance.now (outputs_at l.changed.fills.now k) g;
}
