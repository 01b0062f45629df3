-- What a caller may know of a slot, and what each call does to it.
use Rattle.std.specs.Option.{option_map}
use Rattle.std.proofs.Common.{◌∙◌, ◌≡◌, ◌≢◌, ℕ, Bool, List, [], ◌++◌, Option, refl}
use Rattle.std.specs.Str.{bytes_eq}
pub use Rattle.outside.specs.declared.slot.Slot.{Slot}
use Rattle.outside.specs.declared.slot.Stage.{Stage}
pub use Rattle.outside.specs.declared.slot.Stage.TheVariants.{Unopened, Open, Finished}
use Rattle.outside.specs.Counts.{HasRisen}
use Rattle.outside.specs.ToldBytes.{Tells, Appends}
use Rattle.outside.specs.Sinks.{WriterState}

-- the name that a slot expects, and whether it was opened by that name
pub record Naming : Type 0 where
  pub expected : List ℕ
  pub is_matched : Bool

-- A slot: its stage, its count of faults, and, where they are told, its name, the bytes that reads
-- have left and the bytes written.
pub record SlotState : Type 0 where
  pub stage : Stage
  pub faults : ℕ
  pub naming : Option Naming
  pub left : Option (List ℕ)
  pub written : Option (List ℕ)

-- whether the name given is the expected one
abbrev pub matched : List ℕ → Naming → Naming
matched name naming = record naming { is_matched = bytes_eq name naming.expected }

-- the slot once it is opened by a name
abbrev pub opened : List ℕ → SlotState → SlotState
opened name slot = record slot { stage = Open; naming = option_map (matched name) slot.naming }

-- the slot with these bytes, which a read took, before what it has left
abbrev pub unread : List ℕ → SlotState → SlotState
unread bytes slot = record slot { left = option_map (λ rest. bytes ++ rest) slot.left }

-- the slot once it is finished
abbrev pub finished : SlotState → SlotState
finished slot = record slot { stage = Finished }

-- no byte is left to read, where these are told
abbrev pub IsAtEnd : SlotState → Type 0
IsAtEnd slot = Tells slot.left []

-- no byte was written, where these are told
abbrev pub HasNothingWritten : SlotState → Type 0
HasNothingWritten slot = Tells slot.written []

-- these bytes were written, and nothing else changed
pub record Writes (bytes : List ℕ) (old new : SlotState) : Type 0 where
  pub same : new ≡ record old { written = new.written }
  pub grown : Appends bytes old.written new.written

-- a fault was counted, and nothing else changed
pub record CountsFault (old new : SlotState) : Type 0 where
  pub rose : HasRisen old.faults new.faults
  pub same : new ≡ record old { faults = new.faults }

-- each other slot is as it was, its count of faults too
abbrev pub SameBut : Slot → (Slot → SlotState) → (Slot → SlotState) → Type 0
SameBut slot old new = (other : Slot) → other ≢ slot → new other ≡ old other

-- the slot as a writer into it
abbrev pub slot_view : SlotState → WriterState
slot_view slot = record { faults = slot.faults; written = slot.written }

-- beside the bytes written to this slot and its count of faults nothing changed, in this slot or another
pub record SameBeside (slot : Slot) (old new : Slot → SlotState) : Type 0 where
  pub stage : (new slot).stage ≡ (old slot).stage
  pub naming : (new slot).naming ≡ (old slot).naming
  pub left : (new slot).left ≡ (old slot).left
  pub others : SameBut slot old new

pub same_beside-itself : (slot : Slot) (state : Slot → SlotState) → SameBeside slot state state
same_beside-itself slot state = record { stage = refl; naming = refl; left = refl; others = λ other _. refl }

pub same_beside-through : (slot : Slot) (a b c : Slot → SlotState) → SameBeside slot a b → SameBeside slot b c → SameBeside slot a c
same_beside-through slot a b c h k = record {
  stage = k.stage ∙ h.stage;
  naming = k.naming ∙ h.naming;
  left = k.left ∙ h.left;
  others = λ other ne. k.others other ne ∙ h.others other ne;
}

-- no slot was opened yet
abbrev pub AllUnopened : (Slot → SlotState) → Type 0
AllUnopened state = (slot : Slot) → (state slot).stage ≡ Unopened
