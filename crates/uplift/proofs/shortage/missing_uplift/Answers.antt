-- The loss and what it is lost on are what their bits say.
use Rattle.std.proofs.Common.{◌≡◌, ℕ, ◌<◌, arith, ℤ, pos, nat_lt, if◌then◌else◌}
use Rattle.std.proofs.lemmas.Int.{to_z-of_z}
use Rattle.uc_model.proofs.Common.{narrow}
use Rattle.uc_model.proofs.Sizes.{wide}
use Rattle.uplift.proofs.shortage.missing_uplift.Goals as goal

at_price : (price : ℕ) (uplift : ℤ) → 0 < price → uplift ≡ (if nat_lt 0 price then uplift else pos 0)
at_price price uplift some = grind (arith, some)

pub returns-then-price-gt0-clause-value : goal.returns-then-price-gt0-clause-value
returns-then-price-gt0-clause-value c = grind (arith, narrow, to_z-of_z, wide, at_price, c)
