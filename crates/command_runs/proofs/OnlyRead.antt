-- A slot that was read as `slurp` says was only read.
use Rattle.std.proofs.Common.{◌≡◌, ℕ, List, arith, Result, Ok, Err, IfOk}
use Rattle.outside.specs.declared.reading.SlurpFault.{SlurpFault}
use Rattle.outside.specs.declared.reading.SlurpFault.TheVariants.{Failed, TooLong, NoMemory}
use Rattle.outside.specs.Prelude.{SlotState, ReadsAll, ReadsBeyond, ReadsSome, FailsToRead}
use Rattle.command_runs.specs.Prelude.{Unopened, IsOnlyRead}

pub untouched : (most : ℕ) (old : SlotState) → old.stage ≡ Unopened → IsOnlyRead most old old
untouched most old unopened = grind (arith, unopened)

failed_read : (most : ℕ) (name : List ℕ) (old new : SlotState) → old.stage ≡ Unopened → FailsToRead name most old new
    → IsOnlyRead most old new
failed_read most name old new unopened fails = grind (arith, unopened, fails)

pub only_read : {V : Type 0} (items : V → List ℕ) (most : ℕ) (name : List ℕ) (result : Result V SlurpFault) (old new : SlotState)
    → old.stage ≡ Unopened
    → IfOk result (λ bytes. ReadsAll name most (items bytes) old new)
    → (result ≡ Err TooLong → ReadsBeyond name most old new)
    → (result ≡ Err NoMemory → ReadsSome name most old new)
    → (result ≡ Err Failed → FailsToRead name most old new)
    → IsOnlyRead most old new
only_read items most name (Ok bytes) old new unopened all beyond some fails = grind (arith, unopened, all, beyond, some, fails)
only_read items most name (Err Failed) old new unopened all beyond some fails = failed_read most name old new unopened (fails (λ i. Err Failed))
only_read items most name (Err TooLong) old new unopened all beyond some fails = grind (arith, unopened, all, beyond, some, fails)
only_read items most name (Err NoMemory) old new unopened all beyond some fails = grind (arith, unopened, all, beyond, some, fails)
