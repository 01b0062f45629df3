-- What reading a whole slot does to it.
use Rattle.std.specs.Prelude.{◌≡◌, ℕ, ◌+◌, ◌≤◌, ◌⊎◌, List, length}
use Rattle.outside.specs.Counts.{HasRisen}
use Rattle.outside.specs.Slots.{SlotState, opened, unread, IsAtEnd, CountsFault}

-- the slot was opened by this name, and these bytes were read from it
abbrev pub Reads : List ℕ → List ℕ → SlotState → SlotState → Type 0
Reads name bytes old new = opened name old ≡ unread bytes new

-- these bytes, no more than the limit, are all that came
pub record ReadsAll (name : List ℕ) (limit : ℕ) (bytes : List ℕ) (old new : SlotState) : Type 0 where
  pub reads : Reads name bytes old new
  pub within : length bytes ≤ limit
  pub ended : IsAtEnd new

-- one byte more than the limit came
pub record ReadsBeyond (name : List ℕ) (limit : ℕ) (old new : SlotState) : Type 0 where
  pub taken : List ℕ
  pub reads : Reads name taken old new
  pub beyond : length taken ≡ limit + 1

-- some bytes came, at most one more than the limit
pub record ReadsSome (name : List ℕ) (limit : ℕ) (old new : SlotState) : Type 0 where
  pub taken : List ℕ
  pub reads : Reads name taken old new
  pub within : length taken ≤ limit + 1

-- opening failed, or some bytes came and then a read failed
pub record FailsToRead (name : List ℕ) (limit : ℕ) (old new : SlotState) : Type 0 where
  pub rose : HasRisen old.faults new.faults
  pub cause : CountsFault old new ⊎ ((middle : SlotState) × ReadsSome name limit old middle × CountsFault middle new)
