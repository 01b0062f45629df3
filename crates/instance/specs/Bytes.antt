-- What it is for the bytes of a file to stand for an instance: they are the text of one JSON value (RFC 8259,
-- within the reader's limits), and the value stands for the instance.
use Rattle.std.specs.Prelude.{◌≡◌, ℕ, ⊤, Bool, List, Err}
pub use Rattle.uc_model.specs.declared.instance.Instance.{Instance}
use Rattle.decimal_json.specs.Value.{Value}
use Rattle.decimal_json.specs.Reading.{IsText, IsFault}
use Rattle.instance.specs.FirstFault.{instance_at, rounded_instance}
use Rattle.instance.specs.InstanceOf.{IsInstanceOf}
use Rattle.instance.specs.declared.from_bytes.ReadFault.{ReadFault}
use Rattle.instance.specs.declared.from_bytes.ReadFault.TheVariants as fault

abbrev pub StandFor : Bool → List ℕ → Instance → Type 0
StandFor exact bytes instance = (v : Value) × IsText bytes v × IsInstanceOf exact v instance

-- the same, with the count of rounded numbers among those that are read
abbrev pub StandForCounted : Bool → List ℕ → Instance → ℕ → Type 0
StandForCounted exact bytes instance rounded = (v : Value) × IsText bytes v × IsInstanceOf exact v instance × (rounded ≡ rounded_instance instance.periods v)

-- Each answer but want of memory has its cause: the bytes are refused at a place, or they are the text of a
-- value of which this is the first fault.
abbrev pub HasCause : Bool → List ℕ → ReadFault → Type 0
HasCause exact bytes (fault.Json at kind) = IsFault bytes at kind
HasCause exact bytes (fault.Refused refusal) = (v : Value) × IsText bytes v × (instance_at exact v ≡ Err refusal)
HasCause exact bytes fault.NoMemory = ⊤
