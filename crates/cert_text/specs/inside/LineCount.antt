-- Which line begins where the bytes are left, and what is wrong with it.
use Rattle.std.specs.Prelude.{ℕ, ◌+◌, ◌-◌, ◌≤◌, ◌==◌, List, length, take, count_by, if◌then◌else◌}
use Rattle.std.specs.List.{list_any}
use Rattle.cert_text.specs.declared.cert.CertKind.{CertKind}
use Rattle.cert_text.specs.declared.cert.CertKind.TheVariants.{Form, Cut}
use Rattle.cert_text.specs.declared.cert.CertFault.{CertFault}
use Rattle.cert_text.specs.declared.cert.CertFault.TheVariants.{At, NoMemory}
use Rattle.cert_text.specs.declared.reader.stop.Stop.{Stop}
use Rattle.cert_text.specs.declared.reader.stop.Stop.TheVariants as stops

-- how many line feeds there are
abbrev pub line_feeds : List ℕ → ℕ
line_feeds bytes = count_by (λ c. c == 10) bytes

-- the number of the line, from 1, that begins where the bytes are left
abbrev pub line_number : List ℕ → List ℕ → ℕ
line_number bytes rest = line_feeds (take (length bytes - length rest) bytes) + 1

-- a line that may not stand is cut off where it has no line feed
abbrev pub stop_kind : List ℕ → CertKind
stop_kind rest = if list_any (λ c. c == 10) rest then Form else Cut

-- what is left where reading stops is no longer than the bytes
abbrev pub StopsWithin : List ℕ → Stop → Type 0
StopsWithin bytes stops.NoMemory = Unit {0}
StopsWithin bytes (stops.At rest) = length rest.now ≤ length bytes

abbrev pub fault_of : List ℕ → Stop → CertFault
fault_of bytes stops.NoMemory = NoMemory
fault_of bytes (stops.At rest) = At (line_number bytes rest.now) (stop_kind rest.now)
