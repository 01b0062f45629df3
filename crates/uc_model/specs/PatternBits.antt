-- The commitment that a pattern's bits say.
use Rattle.std.specs.Prelude.{◌-◌, ◌==◌, nat_lt, if◌then◌else◌}
use Rattle.std.specs.Int.{bit_at}
use Rattle.uc_model.specs.Commitment.{Commitment}
pub use Rattle.uc_model.specs.declared.pattern.Pattern.{Pattern}

-- the unit is on in period t, from 0: bit t of the low word, or bit t - 128 of the high one
abbrev pub commitment_of : Pattern → Commitment
commitment_of pattern t = if nat_lt t 128 then bit_at pattern.low t == 1 else bit_at pattern.high (t - 128) == 1
