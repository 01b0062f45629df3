-- A commitment that each rule of a period lets through, and whose runs have trajectories, is a pattern: a cell in which a
-- trajectory goes has a cap of at least 0.
-- Cite from a crate above by `use Rattle.unit_runs.proofs.Capped.{pattern-from}`.
use Rattle.std.proofs.Common.{◌≡◌, ℕ, zero, suc, ◌+◌, ◌<◌, ◌≤◌, ⊎_elim, Bool, true, false, refl, sym, ap, subst, ◌∙◌, arith, List, [], ◌∷◌, map, replicate, slice_index_or, unsigned_abs, ℤ, pos, ◌≤ℤ◌, ◌<ℤ◌, int_le, Option, Some, None, if◌then◌else◌}
use Rattle.std.specs.List.{range_with_len}
use Rattle.std.proofs.lemmas.Bool.{cases_Bool, cond-true, cond-false, false_from_ne_true}
use Rattle.std.proofs.lemmas.List.{get_or-replicate, length-replicate}
use Rattle.std.proofs.lemmas.List.FromFn.{get_or-map-range_with_len, length-map-range_with_len}
use Rattle.uc_model.specs.Prelude.{period_count, term_at, place, price_at, cap, cell_cap, IsLawfulThermal}
use Rattle.uc_model.proofs.Common.{linear, le_or_lt, le-int_le, int_le-true}
use Rattle.uc_model.specs.declared.terms.Terms.{Terms}
use Rattle.dual_model.specs.Prelude.{hour_cost, MAX_PERIODS, IsSized, AreSizedTerms, IsPattern, is_followed}
use Rattle.dual_model.specs.declared.limits.TheConstants.{MAX_UNIT_PRICE}
use Rattle.dual_model.proofs.CellCaps.{cell_cap-cap}
use Rattle.dual_model.proofs.Ways.{IsRight, IsThere, hour, hour-off}
use Rattle.dual_model.proofs.Allowed.{all_right-pattern, pattern-all_right}
use Rattle.unit_runs.specs.Runs.{Thermal}
use Rattle.unit_runs.specs.RunsToGo.{Fix}
use Rattle.unit_runs.specs.Patterns.{Commitment, starts, HasTrajectories}
use Rattle.unit_runs.proofs.Hours.{in_run}
use Rattle.unit_runs.proofs.Cells.{hour_cap-is}

module _ (periods : ℕ) (unit : Thermal) where
  -- terms that cost nothing, there where the cap is at least 0
  abbrev term_of_cap : ℤ → Option ℤ
  term_of_cap c = if int_le (pos 0) c then Some (pos 0) else None

  abbrev cell : ℕ → Bool → Bool → Option ℤ
  cell t start stop = term_of_cap (cell_cap periods unit t start stop)

  abbrev row : ℕ → List (Option ℤ)
  row t = cell t false false ∷ cell t true false ∷ cell t false true ∷ cell t true true ∷ []

  abbrev free : Terms
  free = record { k = pos 0; pi = replicate periods (pos 0); terms = map row (range_with_len 0 periods) }

  count : period_count free ≡ periods
  count = length-map-range_with_len row 0 periods

  in_row : (t : ℕ) (start stop : Bool) → slice_index_or (row t) (place start stop) None ≡ cell t start stop
  in_row t false false = refl
  in_row t true false = refl
  in_row t false true = refl
  in_row t true true = refl

  term-is : (t : ℕ) (start stop : Bool) → t < periods → term_at free t start stop ≡ cell t start stop
  term-is t start stop l =
      let same : 0 + t ≡ t = omega arith in
      ap (λ r. slice_index_or r (place start stop) None) (get_or-map-range_with_len row 0 periods t t [] l same) ∙ in_row t start stop

  sized-cap : (c : ℤ) → IsSized c (term_of_cap c)
  sized-cap c = ⊎_elim
      (λ (room : pos 0 ≤ℤ c).
      subst (IsSized c) (sym (cond-true (int_le (pos 0) c) (Some (pos 0)) None (le-int_le (pos 0) c room))) (room, omega arith))
      (λ (none : c <ℤ pos 0). subst (IsSized c)
      (sym (cond-false (int_le (pos 0) c) (Some (pos 0)) None (false_from_ne_true (int_le (pos 0) c)
      (λ h. let room = int_le-true (pos 0) c h in absurd (omega (arith, linear)))))) none)
      (le_or_lt (pos 0) c)

  sized : 1 ≤ periods → periods ≤ MAX_PERIODS → AreSizedTerms unit free
  sized some most = record {
    scale = (omega (arith, linear), omega (arith, linear));
    periods = (omega (arith, count), omega (arith, count));
    prices = length-replicate periods (pos 0) ∙ sym count;
    price = λ t l.
        let none : price_at free t ≡ pos 0 = get_or-replicate periods t (pos 0) (pos 0) (omega (arith, l, count)) in
        subst (λ z. unsigned_abs z ≤ MAX_UNIT_PRICE) (sym none) (omega arith);
    term = λ t start stop l.
        subst (λ n. IsSized (cell_cap n unit t start stop) (term_at free t start stop)) (sym count)
        (subst (IsSized (cell_cap periods unit t start stop)) (sym (term-is t start stop (omega (arith, l, count))))
        (sized-cap (cell_cap periods unit t start stop)));
  }

  module _ (fix : Fix) (on : Commitment) (some : 1 ≤ periods) (most : periods ≤ MAX_PERIODS) where
    -- a pattern is let through in each period
    pub rights-from : IsPattern periods unit fix on → (t : ℕ) → t < periods → IsRight unit fix on t
    rights-from pattern t l =
        (all_right-pattern free unit fix on (sized some most) (subst (λ n. IsPattern n unit fix on) (sym count) pattern)).right t
        (omega arith) (omega (arith, l, count))

    -- ---- and the other way round
    low-cap : HasTrajectories periods unit on → (t : ℕ) → t < periods → on t ≡ true → pos 0 ≤ℤ cap periods unit on t
    low-cap runs t l e =
        let found = in_run periods unit on t l e in
        let own = runs found.from found.horizon found.begin in
        let fits = (own.1.each found.hour found.within).cap in
        let limit = hour_cap-is periods unit on found.from found.begin found.hour found.within in
        subst (λ k. pos 0 ≤ℤ cap periods unit on k) found.at (omega (arith, linear, fits, limit))

    term-there : HasTrajectories periods unit on → (t : ℕ) → t < periods → on t ≡ true
        → IsThere (term_at free t (starts unit on t) (is_followed (period_count free) unit on t))
    term-there runs t l e =
        let low : pos 0 ≤ℤ cell_cap periods unit t (starts unit on t) (is_followed periods unit on t) =
        subst (λ c. pos 0 ≤ℤ c) (sym (cell_cap-cap periods unit on t e)) (low-cap runs t l e) in
        subst (λ n. IsThere (term_at free t (starts unit on t) (is_followed n unit on t))) (sym count)
        (pos 0, term-is t (starts unit on t) (is_followed periods unit on t) l ∙ cond-true _ (Some (pos 0)) None (le-int_le (pos 0) _ low))

    hour-there : HasTrajectories periods unit on → (t : ℕ) → t ≤ periods → IsThere (hour free unit on t)
    hour-there runs zero l = (pos 0, refl)
    hour-there runs (suc t) l = ⊎_elim
        (λ (e : on t ≡ true).
        let there = term-there runs t (omega arith) e in
        (_, cond-true (on t) _ (Some (pos 0)) e ∙ ap (hour_cost free unit t) there.1))
        (λ (off : on t ≡ false). (pos 0, hour-off free unit on (suc t) off))
        (cases_Bool (on t))

    pub pattern-from : IsLawfulThermal unit → ((t : ℕ) → t < periods → IsRight unit fix on t) → HasTrajectories periods unit on
        → IsPattern periods unit fix on
    pattern-from lawful rights runs =
        subst (λ n. IsPattern n unit fix on) count
        (pattern-all_right free unit fix on lawful (sized some most) (record {
          right = λ k a b. rights k (omega (arith, b, count));
          there = λ k a b. hour-there runs k (omega (arith, b, count));
        }))
