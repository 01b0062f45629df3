-- The clause is the lemma.
use Rattle.interval_graph.proofs.PlainSums.{agree}
use Rattle.interval_graph.proofs.laws.sums_agree.Goals as goal

pub returns : goal.returns
returns c = agree
