-- A unit more.
use Rattle.std.proofs.Common.{◌≡◌, ℕ, ℤ, ◌+◌, ◌<◌, arith, pos, subst, sym, ap, ◌∙◌, length, w64, to_z, of_z, slice_set}
use Rattle.std.proofs.lemmas.Int.{to_z-of_z}
use Rattle.uc_model.specs.Prelude.{initial_p, renewable_count, thermal_count, thermal_unit}
use Rattle.dispatch_repair.specs.Prelude.{thermal_amount}
use Rattle.dispatch_repair.proofs.Listed.{below_set_after}
use Rattle.dispatch_repair.proofs.period.set_initial.Goals as goal

pub loop-g-preserved : goal.loop-g-preserved
loop-g-preserved c =
    let instance = c.args.instance.now in
    let g = c.loop-g.g in
    let value : to_z w64 (of_z w64 c.initial_of.result) ≡ initial_p (thermal_unit instance g) =
    to_z-of_z w64 c.initial_of.result (record { sfits = c.initial_of.type_inv }) ∙ c.initial_of.ensures in
    let within : g < thermal_count instance = subst (λ xs. g < length xs) c.as_slice-g-end.ensures c.loop-g-test.true in
    let room : renewable_count instance + g < length c.loop-g.amounts =
    subst (λ n. renewable_count instance + g < n) (sym (c.loop-g.auto.amounts ∙ c.requires.amounts)) (omega arith) in
    subst (λ m. (k : ℕ) → k < g + 1 → thermal_amount instance (slice_set c.loop-g.amounts (m + g) (to_z w64 (of_z w64 c.initial_of.result))) k ≡ initial_p (thermal_unit instance k))
    (sym (ap length c.as_slice-renewables.ensures))
    (below_set_after (λ k (x : ℤ). x ≡ initial_p (thermal_unit instance k)) c.loop-g.amounts (renewable_count instance) g _ (pos 0) room c.loop-g.invariant value)
