-- The least of the costs at some outputs, by the function that is cut to them.
use Rattle.std.proofs.Common.{◌≡◌, ℕ, ◌≤◌, Bool, true, false, true≢false, sym, subst, ◌∙◌, ℤ, ◌≤ℤ◌, unsigned_abs, Option, Some, None}
use Rattle.step_functions.specs.Functions.{Steps, IsPlace, value_at}
use Rattle.unit_runs.specs.CostThrough.{least_between}
use Rattle.hull_function.proofs.Represented.{IsCut, cut-place, least-is, least-left, least-none, uncut-place}
use Rattle.hull_function.specs.Hulls.{IsBounded}
use Rattle.hull_function.specs.Hours.{IsCostsOf}

module _ (f g : Steps) (low high : ℤ) (some : Bool) (cut : IsCut f g low high some) where
  pub least-some : (cost : ℤ → Option ℤ) (v place : ℤ) → IsCostsOf true f cost → some ≡ true → IsPlace g place → value_at g place ≡ v
      → ((p : ℤ) → IsPlace g p → v ≤ℤ value_at g p) → Some v ≡ least_between low high cost
  least-some cost v place is live at value least = sym (least-is f cost low high v is (least-left f g low high some cut place v live at value least))

  pub least-size : (v place : ℤ) (size : ℕ) → some ≡ true → IsPlace g place → value_at g place ≡ v → IsBounded f size → unsigned_abs v ≤ size
  least-size v place size live at value small =
      let own = uncut-place f g low high some cut place live at in
      subst (λ z. unsigned_abs z ≤ size) (sym (cut.value live place at) ∙ value) (small place own.place)

  pub none-left : (cost : ℤ → Option ℤ) → IsCostsOf true f cost → some ≡ false → None ≡ least_between low high cost
  none-left cost is dead =
      sym (least-none low high cost (λ p v from to e. absurd (true≢false (sym (cut-place f g low high some cut p (is.outside p v e).1 from to).0 ∙ dead))))

-- where there are no costs there is no least one
pub none-alive : (f : Steps) (low high : ℤ) (cost : ℤ → Option ℤ) → IsCostsOf false f cost → None ≡ least_between low high cost
none-alive f low high cost is = sym (least-none low high cost (λ p v from to e. absurd (true≢false (sym (is.outside p v e).0))))
