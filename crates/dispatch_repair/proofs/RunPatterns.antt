-- What is said of a run of periods, as said of the pattern that is on in them.
use Rattle.std.proofs.Common.{◌≡◌, ℕ, ◌≤◌, Option, Some, None, true, sym, ap, subst, ◌∙◌, arith, MatchOption}
use Rattle.uc_model.specs.Prelude.{commitment_of, IsMostOn, IsFewestOn, HasNoAllowedPattern, on_during}
use Rattle.uc_model.specs.declared.instance.Thermal.{Thermal}
use Rattle.uc_model.proofs.Common.{fewest-from_lowest, lowest-must_run, during-off_past}
use Rattle.dispatch_repair.specs.Prelude.{Pattern, IsOffFrom}

pub most-of_run : (periods : ℕ) (unit : Thermal) (first end : ℕ) (pattern : Pattern) → commitment_of pattern ≡ on_during first end
    → IsMostOn periods unit (on_during first end) → IsMostOn periods unit (commitment_of pattern)
most-of_run periods unit first end pattern is most = subst (IsMostOn periods unit) (sym is) most

pub fewest-of_run : (periods : ℕ) (unit : Thermal) (first end : ℕ) (pattern : Pattern) → commitment_of pattern ≡ on_during first end
    → IsFewestOn periods unit (on_during first end) → IsFewestOn periods unit (commitment_of pattern)
fewest-of_run periods unit first end pattern is fewest = subst (IsFewestOn periods unit) (sym is) fewest

pub off-of_run : (periods first end : ℕ) (pattern : Pattern) → commitment_of pattern ≡ on_during first end → end ≤ periods
    → IsOffFrom periods pattern
off-of_run periods first end pattern is within t past = ap (λ on. on t) is ∙ during-off_past first end t (omega arith)

-- a must-run unit's pattern with the most on periods is the one with the fewest
pub fewest-must_run : (periods : ℕ) (unit : Thermal) (answer : Option Pattern) → unit.must_run ≡ true
    → MatchOption answer (HasNoAllowedPattern periods unit) (λ pattern. IsMostOn periods unit (commitment_of pattern))
    → MatchOption answer (HasNoAllowedPattern periods unit) (λ pattern. IsFewestOn periods unit (commitment_of pattern))
fewest-must_run periods unit None must none = none
fewest-must_run periods unit (Some pattern) must most = grind (arith, fewest-from_lowest, lowest-must_run, must, most)
