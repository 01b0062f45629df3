use Rattle.uc_model.proofs.PatternBits.{pattern_unique}
use Rattle.uc_model.proofs.laws.patterns_are_told_by_their_periods.Goals as goal

pub returns : goal.returns
returns c = pattern_unique
