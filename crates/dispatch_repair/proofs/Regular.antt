-- Allowed patterns keep the rules on commitments. Cite by `use Rattle.dispatch_repair.proofs.Regular.{regular}`.
use Rattle.std.proofs.Common.{◌≡◌, ◌⊎◌, inl, inr, ℕ, ◌<◌, arith, List, IsTrue}
use Rattle.std.proofs.lemmas.Bool.{and_parts}
use Rattle.uc_model.specs.Prelude.{initial_stop_holds, is_allowed, is_allowed_at, Rule, MustRun, InitialUp, InitialDown, MinimumUp, MinimumDown, Category, InitialStop, Production, StartCap, StopCap, RampUp, RampDown, RenewableRange, Demand, Reserve, ShedRange, ShortRange, holds_at, thermal_count, thermal_unit, all_below}
use Rattle.uc_model.proofs.Common.{all_below-at}
use Rattle.dispatch_repair.specs.Prelude.{Instance, Pattern, commitment_at, IsCommitmentRule, IsRegular}
use Rattle.dispatch_repair.specs.Stuck.{committed}

-- a rule of another number isn't on commitments
other : (n : ℕ) → 5 < n → (n ≡ 7 → ⊥) → (n < 6) ⊎ (n ≡ 7) → ⊥
other n high apart kind = elim kind [ inl low ↦ omega (arith, low, high) | inr seven ↦ apart seven ]

pub regular : (instance : Instance) (patterns : List Pattern)
    → ((g : ℕ) → g < thermal_count instance → IsTrue (is_allowed instance.periods (thermal_unit instance g) (commitment_at patterns g)))
    → IsRegular instance patterns
regular instance patterns allowed rule kind g hg t ht = by rule kind
  where
    whole : IsTrue (initial_stop_holds (thermal_unit instance g) (commitment_at patterns g))
        × IsTrue (all_below instance.periods (is_allowed_at instance.periods (thermal_unit instance g) (commitment_at patterns g)))
    whole = and_parts _ _ (allowed g hg)

    here : IsTrue (is_allowed_at instance.periods (thermal_unit instance g) (commitment_at patterns g) t)
    here = all_below-at instance.periods (is_allowed_at instance.periods (thermal_unit instance g) (commitment_at patterns g)) whole.1 t ht

    by : (r : Rule) → IsCommitmentRule r → IsTrue (holds_at r instance 1 (committed patterns) g t)
    by MustRun kind = (and_parts _ _ (and_parts _ _ (and_parts _ _ (and_parts _ _ (and_parts _ _ here).0).0).0).0).0
    by InitialUp kind = (and_parts _ _ (and_parts _ _ (and_parts _ _ (and_parts _ _ (and_parts _ _ here).0).0).0).0).1
    by InitialDown kind = (and_parts _ _ (and_parts _ _ (and_parts _ _ (and_parts _ _ here).0).0).0).1
    by MinimumUp kind = (and_parts _ _ (and_parts _ _ (and_parts _ _ here).0).0).1
    by MinimumDown kind = (and_parts _ _ (and_parts _ _ here).0).1
    by InitialStop kind = whole.0
    by Category kind = absurd (other 6 (omega arith) (λ e. omega (arith, e)) kind)
    by Production kind = absurd (other 8 (omega arith) (λ e. omega (arith, e)) kind)
    by StartCap kind = absurd (other 9 (omega arith) (λ e. omega (arith, e)) kind)
    by StopCap kind = absurd (other 10 (omega arith) (λ e. omega (arith, e)) kind)
    by RampUp kind = absurd (other 11 (omega arith) (λ e. omega (arith, e)) kind)
    by RampDown kind = absurd (other 12 (omega arith) (λ e. omega (arith, e)) kind)
    by RenewableRange kind = absurd (other 13 (omega arith) (λ e. omega (arith, e)) kind)
    by Demand kind = absurd (other 14 (omega arith) (λ e. omega (arith, e)) kind)
    by Reserve kind = absurd (other 15 (omega arith) (λ e. omega (arith, e)) kind)
    by ShedRange kind = absurd (other 16 (omega arith) (λ e. omega (arith, e)) kind)
    by ShortRange kind = absurd (other 17 (omega arith) (λ e. omega (arith, e)) kind)
