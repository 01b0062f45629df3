-- From the first rule that a unit's row breaks to the first that the commitment breaks.
-- Cite by `use Rattle.dispatch_repair.proofs.BrokenRules.{broken_first, regular}`.
use Rattle.std.proofs.Common.{◌≡◌, ℕ, ◌+◌, ◌<◌, ◌≤◌, ⊎_elim, sym, subst, arith, below_more, List, length, nat_lt, Option, Some, None}
use Rattle.std.proofs.lemmas.Bool.{cases_Bool, ltb-true, ltb-false}
use Rattle.uc_model.specs.Prelude.{Rule, rule_number, thermal_unit, thermal_count}
use Rattle.uc_model.specs.declared.schedule.Cell.{Cell}
use Rattle.dual_model.proofs.Locality.{SameBelow}
use Rattle.schedule_check.specs.CommitmentRules as of_row
use Rattle.schedule_check.specs.CommitmentRules.{RowKeeps}
use Rattle.schedule_check.specs.WholeWatts.{commitment, rule_of}
use Rattle.schedule_check.proofs.CommitmentOrder.{turn, turn_of, on_commitments}
use Rattle.dispatch_repair.specs.Prelude.{Instance, Pattern, commitment_at, IsCommitmentRule, KeepsRule, IsRegular, IsFirstBrokenRule}
use Rattle.dispatch_repair.specs.inside.Broken.{BrokenRule, IsFirstAmong, IsFirstOf, IsEarlier}
use Rattle.dispatch_repair.proofs.RowRules.{turn_kept, turn_keeps}

-- the turn of one of the model's rules
record RuleTurn (rule : Rule) : Type 0 where
  pub k : ℕ
  pub within : k < 6
  pub is : rule_of (turn k) ≡ rule

rule_turn : (rule : Rule) → IsCommitmentRule rule → RuleTurn rule
rule_turn rule kind = grind (arith, kind)

-- ---- a unit
-- the rule of this number is the first that unit g's commitment breaks
pub record UnitBreaks (instance : Instance) (patterns : List Pattern) (g number : ℕ) : Type 0 where
  pub rule : Rule
  pub kind : IsCommitmentRule rule
  pub is : number ≡ rule_number rule
  pub breaks : ¬ KeepsRule instance patterns rule g
  pub earlier : (other : Rule) → IsCommitmentRule other → rule_number other < number → KeepsRule instance patterns other g

-- unit g's commitment keeps them all
abbrev pub UnitKeeps : Instance → List Pattern → ℕ → Type 0
UnitKeeps instance patterns g = (rule : Rule) → IsCommitmentRule rule → KeepsRule instance patterns rule g

module _ (instance : Instance) (patterns : List Pattern) (g : ℕ) (row : List Cell) (some : 0 < instance.periods)
    (same : SameBelow instance.periods (commitment row) (commitment_at patterns g)) (width : length row ≡ instance.periods) where
  -- a rule that the row keeps in its turn
  kept : (rule : Rule) (its : RuleTurn rule) → RowKeeps (thermal_unit instance g) row (turn its.k) → KeepsRule instance patterns rule g
  kept rule its keeps =
      subst (λ r. KeepsRule instance patterns r g) its.is (turn_kept instance patterns g row some same width its.k its.within keeps)

  pub unit_keeps : of_row.IsFirstBrokenRule (thermal_unit instance g) row None → UnitKeeps instance patterns g
  unit_keeps keeps rule kind =
      let its = rule_turn rule kind in
      kept rule its (keeps (turn its.k) (on_commitments its.k its.within))

  pub unit_breaks : (number : ℕ) → of_row.IsFirstBrokenRule (thermal_unit instance g) row (Some number) → UnitBreaks instance patterns g number
  unit_breaks number first = record {
    rule = rule_of first.rule;
    kind = first.kind;
    is = first.is;
    breaks = λ keeps.
        let its = turn_of first.rule first.kind in
        first.breaks (subst (RowKeeps (thermal_unit instance g) row) its.is
        (turn_keeps instance patterns g row some same width its.k its.within
        (subst (λ r. KeepsRule instance patterns (rule_of r) g) (sym its.is) keeps)));
    earlier = λ rule kind less.
        let its = rule_turn rule kind in
        kept rule its
        (first.earlier (turn its.k) (on_commitments its.k its.within) (subst (λ r. rule_number r < number) (sym its.is) less));
  }

-- ---- one unit more
module _ (instance : Instance) (patterns : List Pattern) (n : ℕ) where
  -- which keeps all rules
  pub more_kept : (first : Option BrokenRule) → IsFirstOf instance patterns n first → UnitKeeps instance patterns n
      → IsFirstOf instance patterns (n + 1) first
  more_kept None all keeps = λ rule kind. below_more (KeepsRule instance patterns rule) n (all rule kind) (keeps rule kind)
  more_kept (Some broken) first keeps = record {
    rule = first.rule;
    kind = first.kind;
    is = first.is;
    within = omega (arith, first.within);
    breaks = first.breaks;
    rules = λ other kind less. below_more (KeepsRule instance patterns other) n (first.rules other kind less) (keeps other kind);
    units = first.units;
  }

  -- which breaks a rule that those before keep
  later_first : (number : ℕ) → UnitBreaks instance patterns n number
      → ((other : Rule) → IsCommitmentRule other → rule_number other ≤ number → (g : ℕ) → g < n → KeepsRule instance patterns other g)
      → IsFirstAmong instance patterns (n + 1) number n
  later_first number broken before = record {
    rule = broken.rule;
    kind = broken.kind;
    is = broken.is;
    within = omega arith;
    breaks = broken.breaks;
    rules = λ other kind less. below_more (KeepsRule instance patterns other) n (before other kind (omega (arith, less))) (broken.earlier other kind less);
    units = before broken.rule broken.kind (omega (arith, broken.is));
  }

  -- which breaks a rule that is no earlier than one that a unit before breaks
  first_still : (rule unit number : ℕ) → rule ≤ number → IsFirstAmong instance patterns n rule unit → UnitBreaks instance patterns n number
      → IsFirstAmong instance patterns (n + 1) rule unit
  first_still rule unit number le first broken = record {
    rule = first.rule;
    kind = first.kind;
    is = first.is;
    within = omega (arith, first.within);
    breaks = first.breaks;
    rules = λ other kind less. below_more (KeepsRule instance patterns other) n (first.rules other kind less)
        (broken.earlier other kind (omega (arith, less, le)));
    units = first.units;
  }

  pub more_broken : (first : Option BrokenRule) (number : ℕ) (result : Option BrokenRule) → IsFirstOf instance patterns n first
      → UnitBreaks instance patterns n number → IsEarlier first (record { rule = number; unit = n }) result
      → IsFirstOf instance patterns (n + 1) result
  more_broken None number result all broken is =
      subst (IsFirstOf instance patterns (n + 1)) (sym is) (later_first number broken (λ other kind le. all other kind))
  more_broken (Some before) number result first broken is =
      ⊎_elim
      (λ less.
      let lower : number < before.rule = ltb-true number before.rule less in
      subst (IsFirstOf instance patterns (n + 1)) (sym (is.1 lower))
      (later_first number broken (λ other kind le. first.rules other kind (omega (arith, le, lower)))))
      (λ more.
      let le : before.rule ≤ number = ltb-false number before.rule more in
      subst (IsFirstOf instance patterns (n + 1)) (sym (is.0 le)) (first_still before.rule before.unit number le first broken))
      (cases_Bool (nat_lt number before.rule))

-- ---- all units
pub regular : (instance : Instance) (patterns : List Pattern) → IsFirstOf instance patterns (thermal_count instance) None
    → IsRegular instance patterns
regular instance patterns all = all

pub broken_first : (instance : Instance) (patterns : List Pattern) (number unit : ℕ)
    → IsFirstAmong instance patterns (thermal_count instance) number unit → IsFirstBrokenRule instance patterns number unit
broken_first instance patterns number unit first = grind (arith, first)
