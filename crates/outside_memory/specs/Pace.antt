-- How much of so many bytes is taken at once.
use Rattle.std.specs.Prelude.{ℕ, min}
use Rattle.outside_memory.specs.declared.pace.Pace.{Pace}
use Rattle.outside_memory.specs.declared.pace.Pace.TheVariants.{Full, ByteByByte}

abbrev pub portion_of : Pace → ℕ → ℕ
portion_of Full length = length
portion_of ByteByByte length = min length 1
