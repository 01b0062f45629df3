use Rattle.uc_model.proofs.ExtremePatterns.{one_most_on, one_fewest_on}
use Rattle.uc_model.proofs.laws.most_and_fewest_on_patterns_are_unique.Goals as goal

pub returns : goal.returns
returns c = record { most = one_most_on; fewest = one_fewest_on }
