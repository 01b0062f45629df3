-- What a part of the reader answers, beside the first fault of specs/FirstFault.antt.
use Rattle.std.specs.Prelude.{◌≡◌, Result, Ok, Err}
pub use Rattle.instance.specs.declared.fault.Fault.{Fault}
pub use Rattle.instance.specs.declared.fault.Fault.TheVariants.{Refused, NoMemory}

-- What is read is refused so. Want of memory may come in place of any answer.
abbrev pub Fails : {Y R : Type 0} → Fault R → Result Y R → Type 0
Fails NoMemory read = Unit {0}
Fails (Refused e) read = read ≡ Err e

-- What was answered, seen by view, is what reading gives.
abbrev pub Gives : {X Y R : Type 0} → (X → Y) → Result X (Fault R) → Result Y R → Type 0
Gives view (Ok x) read = read ≡ Ok (view x)
Gives view (Err e) read = Fails e read
