-- The rules on thermal units are the first twelve of the model's, in the order in which they are tried.
use Rattle.std.proofs.Common.{◌≡◌, ℕ, suc, ◌-◌, ◌<◌, refl, arith, get_or}
use Rattle.uc_model.specs.Rules as model
use Rattle.schedule_check.specs.WholeWatts.{Category, InitialDown, InitialStop, InitialUp, MinimumDown, MinimumUp, MustRun, Production, RampDown, RampUp, StartCap, StopCap, UnitRule, rule_of}
use Rattle.schedule_check.specs.declared.unit_rule.TheConstants.{UNIT_RULES}

-- the rule tried in turn k, from 0
abbrev pub tried : ℕ → UnitRule
tried k = get_or UNIT_RULES k MustRun

pub number-tried : (k : ℕ) → k < 12 → model.rule_number (rule_of (tried k)) ≡ suc k
number-tried (suc (suc (suc (suc (suc (suc (suc (suc (suc (suc (suc (suc k)))))))))))) h = absurd (omega arith)
number-tried _ h = refl

-- the turn of a rule is its number less 1
pub tried-number : (rule : model.Rule) → model.rule_number rule < 13 → rule_of (tried (model.rule_number rule - 1)) ≡ rule
tried-number model.RenewableRange h = absurd (omega arith)
tried-number model.Demand h = absurd (omega arith)
tried-number model.Reserve h = absurd (omega arith)
tried-number model.ShedRange h = absurd (omega arith)
tried-number model.ShortRange h = absurd (omega arith)
tried-number _ h = refl

-- a rule's number lies between 1 and 17
pub number_within : (rule : model.Rule) → (0 < model.rule_number rule) × (model.rule_number rule < 18)
number_within model.MustRun = (omega arith, omega arith)
number_within _ = (omega arith, omega arith)

-- a fact of the rules on thermal units is one of the first twelve
pub of_first : (P : model.Rule → Type 0) → ((rule : UnitRule) → P (rule_of rule)) → (rule : model.Rule) → model.rule_number rule < 13 → P rule
of_first P each model.MustRun h = each MustRun
of_first P each model.InitialUp h = each InitialUp
of_first P each model.InitialDown h = each InitialDown
of_first P each model.MinimumUp h = each MinimumUp
of_first P each model.MinimumDown h = each MinimumDown
of_first P each model.Category h = each Category
of_first P each model.InitialStop h = each InitialStop
of_first P each model.Production h = each Production
of_first P each model.StartCap h = each StartCap
of_first P each model.StopCap h = each StopCap
of_first P each model.RampUp h = each RampUp
of_first P each model.RampDown h = each RampDown
of_first P each _ h = absurd (omega arith)

pub number_unit : (rule : UnitRule) → model.rule_number (rule_of rule) < 13
number_unit MustRun = omega arith
number_unit _ = omega arith
