-- Each example is computed.
use Rattle.std.proofs.Common.{◌≡◌, [], ◌∷◌, refl}
use Rattle.uc_model.specs.Prelude.{Rule, MustRun, breaking, broken_rules}
use Rattle.uc_model.proofs.examples.each_rule_is_told_apart.Goals as goal

broken_rules-breaking : (rule : Rule) → broken_rules (breaking rule) ≡ rule ∷ []
broken_rules-breaking MustRun = refl
broken_rules-breaking _ = refl

pub returns-clause-breaking : goal.returns-clause-breaking
returns-clause-breaking c = broken_rules-breaking
