-- The clauses are the lemmas.
use Rattle.dual_model.proofs.ValueKinds.{weak_duality, least_starts, rays_exclude, values_exist_at_schedules, not_blocked}
use Rattle.dual_model.proofs.laws.weak_duality.Goals as goal

pub returns : goal.returns
returns c = record { bound = weak_duality; least_starts = least_starts; ray = rays_exclude; value = values_exist_at_schedules; blocked = not_blocked }
