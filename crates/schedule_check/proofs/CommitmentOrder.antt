-- The rules on commitments are M1 to M5 and M7, in the order in which they are tried.
use Rattle.std.proofs.Common.{◌≡◌, ℕ, zero, suc, ◌<◌, ◌≤◌, ◌⊎◌, inl, inr, ⊎_elim, List, length, refl, sym, subst, ◌∙◌, arith, get_or, true≢false, ℤ, IsTrue}
use Rattle.uc_model.specs.Prelude.{rule_number}
use Rattle.schedule_check.specs.CommitmentRules.{Cell, Thermal, IsOnCommitments, RowKeeps, BreaksFirst}
use Rattle.schedule_check.specs.inside.Failures.{FailsFirstAt}
use Rattle.schedule_check.specs.WholeWatts.{InitialDown, InitialStop, InitialUp, MinimumDown, MinimumUp, MustRun, UnitRule, over, rule_of, unit_holds, unit_holds_by, unit_periods}
use Rattle.schedule_check.specs.declared.unit_rule.TheConstants.{COMMITMENT_RULES}
use Rattle.schedule_check.proofs.Measures.{over_one}

-- the rule tried in turn k, from 0
abbrev pub turn : ℕ → UnitRule
turn k = get_or COMMITMENT_RULES k MustRun

abbrev pub number : ℕ → ℕ
number k = rule_number (rule_of (turn k))

-- the numbers of the turns: 1 to 5, and 7
pub number-is : (k : ℕ) → k < 6 → ((k < 5) × (number k ≡ suc k)) ⊎ ((k ≡ 5) × (number k ≡ 7))
number-is (suc (suc (suc (suc (suc zero))))) h = inr (refl, refl)
number-is (suc (suc (suc (suc (suc (suc k)))))) h = absurd (omega arith)
number-is _ h = inl ((omega arith), refl)

pub on_commitments : (k : ℕ) → k < 6 → IsOnCommitments (turn k)
on_commitments k h = ⊎_elim (λ low. inl (omega (arith, low.1, low.0))) (λ last. inr last.1) (number-is k h)

-- a turn of a lower number comes before
pub comes_before : (j k : ℕ) → j < 6 → k < 6 → number j < number k → j < k
comes_before j k hj hk h = grind (arith, hj, hk, h)

-- the turn of a rule
pub record TurnOf (rule : UnitRule) : Type 0 where
  pub k : ℕ
  pub within : k < 6
  pub is : turn k ≡ rule

pub turn_of : (rule : UnitRule) → IsOnCommitments rule → TurnOf rule
turn_of MustRun h = record { k = 0; within = omega arith; is = refl }
turn_of InitialUp h = record { k = 1; within = omega arith; is = refl }
turn_of InitialDown h = record { k = 2; within = omega arith; is = refl }
turn_of MinimumUp h = record { k = 3; within = omega arith; is = refl }
turn_of MinimumDown h = record { k = 4; within = omega arith; is = refl }
turn_of InitialStop h = record { k = 5; within = omega arith; is = refl }
turn_of _ h = ⊎_elim (λ a. absurd (omega (arith, a))) (λ a. absurd (omega (arith, a))) h

-- where the row keeps the rules of the first n turns, it keeps each rule whose turn is one of them
pub kept_before : (unit : Thermal) (row : List Cell) (n : ℕ) → ((k : ℕ) → k < n → RowKeeps unit row (turn k))
    → (rule : UnitRule) (turn : TurnOf rule) → turn.k < n → RowKeeps unit row rule
kept_before unit row n each rule its h = subst (RowKeeps unit row) its.is (each its.k h)

-- the rule in turn is the first that is broken
pub breaks_first : (unit : Thermal) (row : List Cell) (n place : ℕ) → n < 6 → ((k : ℕ) → k < n → RowKeeps unit row (turn k))
    → ¬ RowKeeps unit row (turn n) → place ≡ number n → BreaksFirst unit row place
breaks_first unit row n place h each broken is = record {
  rule = turn n;
  kind = on_commitments n h;
  is = is;
  breaks = broken;
  earlier = λ other kind less.
      let its = turn_of other kind in
      kept_before unit row n each other its
      (comes_before its.k n its.within h (subst (λ z. rule_number (rule_of z) < number n) (sym its.is) (subst (λ z. rule_number (rule_of other) < z) is less)));
}

pub keeps_all : (unit : Thermal) (row : List Cell) (n : ℕ) → 6 ≤ n → ((k : ℕ) → k < n → RowKeeps unit row (turn k))
    → (rule : UnitRule) → IsOnCommitments rule → RowKeeps unit row rule
keeps_all unit row n whole each rule kind =
    let its = turn_of rule kind in
    kept_before unit row n each rule its (omega (arith, its.within))

-- a failure in some period breaks the rule, and none keeps it
pub broken_at : (unit : Thermal) (row : List Cell) (rule : UnitRule) (t : ℕ)
    → FailsFirstAt (unit_periods rule (length row)) (unit_holds rule (length row) unit row) t → ¬ RowKeeps unit row rule
broken_at unit row rule t fails keeps = true≢false (sym (keeps t fails.within) ∙ fails.fails)

-- the same by the rules over the denominator 1
pub broken_over : (unit : Thermal) (row : List Cell) (rule : UnitRule) (t : ℕ)
    → FailsFirstAt (unit_periods rule (length row)) (unit_holds_by (over 1) rule (length row) unit row) t → ¬ RowKeeps unit row rule
broken_over unit row rule t fails =
    broken_at unit row rule t
    (subst (λ (measure : ℤ → ℤ). FailsFirstAt (unit_periods rule (length row)) (unit_holds_by measure rule (length row) unit row) t) (over_one 1 refl) fails)

pub keeps_over : (unit : Thermal) (row : List Cell) (rule : UnitRule)
    → ((t : ℕ) → t < unit_periods rule (length row) → IsTrue (unit_holds_by (over 1) rule (length row) unit row t)) → RowKeeps unit row rule
keeps_over unit row rule keeps t h =
    subst (λ (measure : ℤ → ℤ). IsTrue (unit_holds_by measure rule (length row) unit row t)) (over_one 1 refl) (keeps t h)
