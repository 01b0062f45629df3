-- The clauses are the lemmas.
use Rattle.dual_model.proofs.Covers
use Rattle.dual_model.proofs.laws.cover_law.Goals as goal

pub returns : goal.returns
returns c = record { part = Covers.leaves_part; bound = Covers.covers_bound; exclude = Covers.covers_exclude }
