-- What a unit adds to the exact value: the greater of its exact value and of what it adds where ramps are priced.
use Rattle.std.proofs.Common.{◌≡◌, ℕ, ◌<◌, ⊎_elim, inl, inr, Bool, true, false, refl, sym, ap, subst, ◌∙◌, arith, ℤ, pos, ◌≤ℤ◌, int_lt, if◌then◌else◌}
use Rattle.std.specs.Int.{int_max}
use Rattle.std.proofs.lemmas.Int.{ints, clamps}
use Rattle.uc_model.specs.Prelude.{IsLawfulInstance, commitment_of, thermal_count}
use Rattle.uc_model.specs.declared.pattern.Pattern.{Pattern}
use Rattle.uc_model.proofs.Common.{linear, one-mul}
use Rattle.dual_model.specs.Prelude.{HasNoUnitSchedule, IsExactUnitValue, IsPatternAt, constant_at, unit_part, IsBestPattern}
use Rattle.dual_model.specs.declared.node.Node.{Node}
use Rattle.dual_model.specs.declared.table.Table.{Table}
use Rattle.dual_model.proofs.ExactExists.{exact_unit_values_exist}
use Rattle.unit_exact.specs.Hourly.{HasScheduleWithin}
use Rattle.dual_value.specs.NodeAnswer.{Instance, IsAttained, IsExactPartOf, IsPartOf}

module _ (instance : Instance) (node : Node) (table : Table) (g : ℕ) (value part : ℤ) (pattern : Pattern)
    (best : IsBestPattern instance node table g (commitment_of pattern) value) (is : part ≡ unit_part instance table g value) where
  -- where ramps are priced
  priced : IsPartOf instance node table g part pattern
  priced = record { value = value; best = best; is = is }

  -- where the exact value is no greater
  kept-part : (exact : ℤ) → IsExactUnitValue instance node table g exact → exact ≤ℤ part → IsExactPartOf instance node table g part pattern
  kept-part exact exact_is below = record {
    value = value;
    exact = exact;
    unit_value = record { on = commitment_of pattern; best = best };
    exact_value = exact_is;
    is = most exact part (unit_part instance table g value) is below;
    is_pattern = best.pattern;
    attained = inl priced;
  }
    where
      most : (e p q : ℤ) → p ≡ q → e ≤ℤ p → p ≡ int_max e q
      most e p q same h = omega (arith, ints, clamps)

  -- where a schedule shows that
  pub part-within : IsLawfulInstance instance → g < thermal_count instance → pos 0 ≤ℤ constant_at instance table g
      → HasScheduleWithin instance node table g (commitment_of pattern) → IsExactPartOf instance node table g part pattern
  part-within lawful within sign shown = ⊎_elim
      (λ (found : (e : ℤ) × IsExactUnitValue instance node table g e).
      let bound = found.1.bound 1 shown.x shown.is_schedule in
      let one = one-mul found.0 in
      let most = shown.within value best.value in
      kept-part found.0 found.1 (omega (arith, linear, bound, one, most, sign, is)))
      (λ (none : HasNoUnitSchedule instance node g). absurd (none 1 shown.x shown.is_schedule))
      (exact_unit_values_exist instance node table g lawful within)

  -- the greater of both
  pub part-greater : (exact : ℤ) (own : Pattern) → IsExactUnitValue instance node table g exact → IsPatternAt instance node g (commitment_of own)
      → IsAttained instance table g exact own → (result : ℤ × Pattern) → result ≡ (if int_lt part exact then (exact, own) else (part, pattern))
      → IsExactPartOf instance node table g result.0 result.1
  part-greater exact own exact_is own_is attained result chosen = by_test (int_lt part exact) refl
    where
      by_test : (b : Bool) → int_lt part exact ≡ b → IsExactPartOf instance node table g result.0 result.1
      by_test true more =
          let same : result ≡ (exact, own) = chosen ∙ ap (λ b. if b then (exact, own) else (part, pattern)) more in
          subst (λ (r : ℤ × Pattern). IsExactPartOf instance node table g r.0 r.1) (sym same)
          (record {
            value = value;
            exact = exact;
            unit_value = record { on = commitment_of pattern; best = best };
            exact_value = exact_is;
            is = greatest exact part (unit_part instance table g value) is more;
            is_pattern = own_is;
            attained = inr attained;
          })
        where
          greatest : (e p q : ℤ) → p ≡ q → int_lt p e ≡ true → e ≡ int_max e q
          greatest e p q same h = grind (arith, ints)
      by_test false less =
          let same : result ≡ (part, pattern) = chosen ∙ ap (λ b. if b then (exact, own) else (part, pattern)) less in
          subst (λ (r : ℤ × Pattern). IsExactPartOf instance node table g r.0 r.1) (sym same) (kept-part exact exact_is (least part exact less))
        where
          least : (p e : ℤ) → int_lt p e ≡ false → e ≤ℤ p
          least p e h = grind (arith, ints)
