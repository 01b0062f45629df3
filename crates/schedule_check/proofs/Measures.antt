-- A limit over the denominator 1 is the limit in whole watts.
-- Cite from a crate above by `use Rattle.schedule_check.proofs.Measures.{over_one}`.
use Rattle.std.proofs.Common.{◌≡◌, ℕ, ap, ◌∙◌, pos, ◌*ℤ◌}
use Rattle.uc_model.proofs.Common.{one-mul}
use Rattle.schedule_check.specs.WholeWatts.{over, whole}

pub over_one : (d : ℕ) → d ≡ 1 → over d ≡ whole
over_one d e = λ i power. (ap (λ n. pos n *ℤ power) e ∙ one-mul power) i
