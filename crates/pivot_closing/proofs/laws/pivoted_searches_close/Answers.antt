use Rattle.pivot_closing.proofs.Closing.{pivoted_searches_close, closed_statuses}
use Rattle.pivot_closing.proofs.laws.pivoted_searches_close.Goals as goal

pub returns : goal.returns
returns c = record { closes = pivoted_searches_close; statuses = closed_statuses }
