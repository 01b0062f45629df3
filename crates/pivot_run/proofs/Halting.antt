-- What follows from what is told of a limit that is met.
-- Cite by `use Rattle.pivot_run.proofs.Halting.{met_weaker}`.
use Rattle.pivot_run.specs.declared.halt.Halt.{Halt}
use Rattle.pivot_run.specs.declared.halt.Halt.TheVariants.{Met, NoMemory}
use Rattle.pivot_run.specs.Prelude.{IfMet}

pub met_weaker : {T : Type 0} (P Q : T → Type 0) (halt : Halt T) → ((limit : T) → P limit → Q limit) → IfMet P halt → IfMet Q halt
met_weaker P Q (Met limit) follows told = follows limit told
met_weaker P Q NoMemory follows told = tt
