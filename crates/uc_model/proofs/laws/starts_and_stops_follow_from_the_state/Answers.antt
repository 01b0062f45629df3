use Rattle.uc_model.proofs.MinimumTimes.{not_both, starts-follow, stops-follow}
use Rattle.uc_model.proofs.laws.starts_and_stops_follow_from_the_state.Goals as goal

pub returns : goal.returns
returns c = record { excluded = not_both; starts = starts-follow; stops = stops-follow }
