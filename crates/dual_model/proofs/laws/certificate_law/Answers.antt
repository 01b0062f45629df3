-- The clause is the lemma.
use Rattle.dual_model.proofs.Covers
use Rattle.dual_model.proofs.laws.certificate_law.Goals as goal

pub returns : goal.returns
returns c = Covers.certificates_claim_truly
