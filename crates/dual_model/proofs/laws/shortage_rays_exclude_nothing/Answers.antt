-- The clause is the lemma.
use Rattle.dual_model.proofs.ShortageRays
use Rattle.dual_model.proofs.laws.shortage_rays_exclude_nothing.Goals as goal

pub returns : goal.returns
returns c = ShortageRays.shortage_rays_exclude_nothing
