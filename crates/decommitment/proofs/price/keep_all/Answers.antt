-- Marks are kept by the units that give the same in the next period too.
use Rattle.std.proofs.Common.{◌≡◌, ◌+◌, ◌<◌, ◌∙◌, arith, inl, inr, ap, get_or, length, subst, sym}
use Rattle.uc_model.proofs.Common.{below_or_last}
use Rattle.dispatch_repair.specs.Prelude.{thermal_amount}
use Rattle.dispatch_repair.specs.Amounts.{amount_at}
use Rattle.decommitment.specs.inside.Runs.{Fill, outputs_at}
use Rattle.decommitment.specs.inside.Stretches.{IsSameAt}
use Rattle.decommitment.proofs.RunCosts.{same_here}
use Rattle.decommitment.proofs.price.keep_all.Goals as goal

pub loop-t-preserved : goal.loop-t-preserved
loop-t-preserved c =
    let instance = c.args.changed.now.instance.now in
    let old = c.args.changed.now.origin.now.run.now.fills.items in
    let new = c.args.changed.now.fills.now in
    let t = c.loop-t.t in
    let was = c.index-stood-t.result in
    let is = c.index-changed-t.result in
    let places = length c.as_slice-renewables.result.now in
    let kept = c.keep_same.ensures in
    let here : t < length old = omega (arith, c.loop-t-test.true, c.requires.periods) in
    let stood : was ≡ get_or old t was = subst (λ xs. was ≡ get_or xs t was) c.as_slice-stood.ensures.value c.index-stood-t.is in
    let one : c.as_slice-was.result.now ≡ was.amounts.items = c.as_slice-was.ensures.value ∙ ap (λ (fill : Fill). fill.amounts.items) (sym c.index-stood-t.is) in
    let other : c.as_slice-is.result.now ≡ is.amounts.items = c.as_slice-is.ensures.value ∙ ap (λ (fill : Fill). fill.amounts.items) (sym c.index-changed-t.is) in
    record {
      count = kept.count ∙ c.loop-t.invariant.count;
      same = λ g k h m early.
          let inside : g < length c.loop-t.marks = omega (arith, h, kept.count) in
          elim (below_or_last t k (omega (arith, early))) [
            | inl before ↦ c.loop-t.invariant.same g k inside (kept.marked g inside m) before
            | inr last ↦
                let now : IsSameAt places was.amounts.items is.amounts.items g =
                (λ i. amount_at (sym one i) (places + g)) ∙ (kept.same g inside m (omega arith) inside ∙ (λ i. amount_at (other i) (places + g))) in
                subst (λ j. thermal_amount instance (outputs_at old j) g ≡ thermal_amount instance (outputs_at new j) g) (sym last)
                (same_here instance old new t g places was is (ap length c.as_slice-renewables.ensures) here stood c.loop-t-test.true c.index-changed-t.is now)
          ];
    }
