-- The multipliers of limits in a last row are at least 0, so its table has the signs of a bound.
-- Cite by `use Rattle.dispatch_prices.proofs.Signs.{lawful_signs}`.
use Rattle.std.proofs.Common.{◌≡◌, ℕ, ◌<◌, false, not, refl, sym, ap, subst, ◌∙◌, List, [], ◌∷◌, length, ℤ, pos, ◌≤ℤ◌, ◌-ℤ◌, ◌*ℤ◌, if◌then◌else◌, ◌==◌}
use Rattle.std.specs.List.{All}
use Rattle.std.proofs.lemmas.Bool.{cond-false, cond_both}
use Rattle.std.proofs.lemmas.List.Elements.{All-nil, All-cons, All-from_get_or}
use Rattle.uc_model.specs.Prelude.{rule_number, Demand, Reserve, RampUp, RampDown, thermal_count}
use Rattle.uc_model.proofs.Common.{le_refl, sum_below_nonneg}
use Rattle.dual_model.specs.Prelude.{HasLawfulSigns, IsRowSigned}
use Rattle.dual_model.specs.declared.table.Table.{Table}
use Rattle.pivot_run.specs.Prelude.{entry}
use Rattle.dispatch_program.specs.Prelude.{IsLastRow, Artificial, Slack, SumValue, multiplier, place, sign}
use Rattle.dispatch_rules.specs.Prelude.{Task, Limit, limit, is_demand, is_same, limits, limit_at, program, scale_of, times_at, up_of, down_of}
use Rattle.dispatch_rules.proofs.Multipliers.{same-equal}
use Rattle.dispatch_prices.specs.ReadOff.{all_rows, is_nothing, kept, ramp_row, rows_in}
use Rattle.dispatch_prices.specs.Readings.{IsPriceTable}
use Rattle.dispatch_prices.proofs.Listing.{all_listed}

module _ (task : Task) (row : List ℤ) (last : IsLastRow (program task) row) where
  -- a limit that isn't that of demand
  times_nonneg : (l : Limit) → is_demand l ≡ false → pos 0 ≤ℤ times_at task row l
  times_nonneg l other = sum_below_nonneg (length (limits task)) (λ i. if is_same (limit_at task i) l then multiplier (program task) row i else pos 0) each
    where
      each : (i : ℕ) → i < length (limits task) → pos 0 ≤ℤ (if is_same (limit_at task i) l then multiplier (program task) row i else pos 0)
      each i h = cond_both (is_same (limit_at task i) l) (multiplier (program task) row i) (pos 0) (λ z. pos 0 ≤ℤ z)
          (λ same.
          let own : is_demand (limit_at task i) ≡ false = (λ j. (same-equal (limit_at task i) l same).rule j == rule_number Demand) ∙ other in
          subst (λ z. pos 0 ≤ℤ z) (sym (cond-false (is_demand (limit_at task i)) (sign (program task) i *ℤ (entry row (place (program task) (Artificial i)) -ℤ entry row (place (program task) SumValue)))
          (entry row (place (program task) (Slack i))) own)) (last.slack i h (ap not own)))
          (λ e. le_refl (pos 0))

  signed_rows : (units periods : ℕ) → All IsRowSigned (all_rows (up_of task row) (down_of task row) units periods)
  signed_rows units periods =
      all_listed IsRowSigned units (rows_in (up_of task row) (down_of task row) periods) (λ g hg.
      all_listed IsRowSigned periods (λ t. kept (ramp_row (up_of task row) (down_of task row) g t)) (λ t ht.
      cond_both (is_nothing (ramp_row (up_of task row) (down_of task row) g t)) [] (ramp_row (up_of task row) (down_of task row) g t ∷ []) (All IsRowSigned)
      (λ e. All-nil IsRowSigned)
      (λ e. All-cons IsRowSigned (ramp_row (up_of task row) (down_of task row) g t) []
      (record { up = times_nonneg (limit RampUp g t 0) refl; down = times_nonneg (limit RampDown g t 0) refl }) (All-nil IsRowSigned))))

  pub lawful_signs : (k : ℤ) (table : Table) → IsPriceTable task row k table → k ≡ scale_of task row → HasLawfulSigns table
  lawful_signs k table of scale =
      let read = of.read scale in
      let long : length table.mu ≡ task.instance.periods = read.size.form.lengths ∙ read.size.periods in
      record {
        mu = All-from_get_or (λ n. pos 0 ≤ℤ n) table.mu (pos 0) (λ t h.
            subst (λ z. pos 0 ≤ℤ z) (sym (read.mu t (subst (λ n. t < n) long h))) (times_nonneg (limit Reserve 0 t 0) refl));
        ramps = subst (All IsRowSigned) (sym of.rows) (signed_rows (thermal_count task.instance) task.instance.periods);
      }
