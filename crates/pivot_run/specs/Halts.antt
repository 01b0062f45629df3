-- Why a step isn't made.
use Rattle.pivot_run.specs.declared.halt.Halt.{Halt}
use Rattle.pivot_run.specs.declared.halt.Halt.TheVariants.{Met, NoMemory}

-- the limit that is met, where one is, is told
abbrev pub IfMet : {T : Type 0} → (T → Type 0) → Halt T → Type 0
IfMet Tells (Met limit) = Tells limit
IfMet Tells NoMemory = Unit {0}
