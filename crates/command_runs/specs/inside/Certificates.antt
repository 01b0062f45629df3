-- Why the bytes of a certificate were not read.
use Rattle.std.specs.Prelude.{ℕ, List}
use Rattle.command_runs.specs.Certificates.{Fault, Line, Memory, IsFaultyAt}

-- why bytes were not read
abbrev pub IsRefusedText : List ℕ → Fault → Type 0
IsRefusedText bytes (Line line kind) = IsFaultyAt bytes line kind
IsRefusedText bytes Memory = Unit {0}
IsRefusedText bytes _ = ⊥
