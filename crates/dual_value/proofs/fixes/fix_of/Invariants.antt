-- A commitment agrees with the node on the unit exactly where it agrees with `fix` and with the fixings that are left.
use Rattle.std.proofs.Common.{◌≡◌, ℕ, ◌&&◌, drop}
use Rattle.std.specs.List.{list_all}
use Rattle.uc_model.specs.Prelude.{Commitment}
use Rattle.dual_model.specs.Prelude.{fix_agrees, keeps_of, unit_agrees}
use Rattle.dual_value.specs.inside.Fixes.{AreBelow, IsPlain}
use Rattle.dual_value.proofs.fixes.fix_of.Given as goal

abbrev pub invariant-loop-fixing : goal.invariant-loop-fixing
invariant-loop-fixing l = record {
  plain : IsPlain l.fix;
  same : (periods : ℕ) (on : Commitment) → AreBelow periods l.node
      → unit_agrees l.node l.g on ≡ (fix_agrees periods l.fix on && list_all (keeps_of l.g on) (drop l.fixing-index l.node.fixings));
}
