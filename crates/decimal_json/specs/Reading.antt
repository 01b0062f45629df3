-- What `read` answers, in the words of RFC 8259.
use Rattle.std.specs.Prelude.{◌≡◌, ℕ, ◌<◌, ◌≤◌, ⊤, List, ◌++◌, length, take, true, false, ◌⊎◌}
use Rattle.std.specs.Str.{IsUtf8}
pub use Rattle.decimal_json.specs.declared.types.JsonFault.{JsonFault}
pub use Rattle.decimal_json.specs.declared.types.JsonFault.TheVariants.{At, NoMemory}
use Rattle.decimal_json.specs.Value.{Value}
use Rattle.decimal_json.specs.Grammar.{SpellsText}
use Rattle.decimal_json.specs.Fronts.{OpensTooDeep, RepeatsKey, LacksPartner}

-- The bytes are the text of this value, within the reader's limits.
abbrev pub IsText : List ℕ → Value → Type 0
IsText bytes v = IsUtf8 bytes × SpellsText true v bytes

-- Some JSON text begins with these bytes, whatever its limits; section 8.1 wants it in UTF-8.
abbrev pub BeginsText : List ℕ → Type 0
BeginsText bs = (v : Value) × (rest : List ℕ) × SpellsText false v (bs ++ rest) × IsUtf8 (bs ++ rest)

-- The bytes are UTF-8 up to a place, and up to no later one.
pub record IsLongestUtf8 (bytes : List ℕ) (at : ℕ) : Type 0 where
  pub utf8 : IsUtf8 (take at bytes)
  pub longest : (k : ℕ) → at < k → k ≤ length bytes → IsUtf8 (take k bytes) → ⊥

-- The bytes are no JSON text. Up to a place they are the front of one, and up to no later place; and no limit is broken.
pub record IsNoJson (bytes : List ℕ) (at : ℕ) : Type 0 where
  pub within : at ≤ length bytes
  pub begins : BeginsText (take at bytes)
  pub longest : (k : ℕ) → at < k → k ≤ length bytes → BeginsText (take k bytes) → ⊥
  pub no_text : (v : Value) → SpellsText false v bytes → ⊥
  pub shallow : (k : ℕ) → OpensTooDeep bytes k → ⊥
  pub no_repeat : (k : ℕ) → RepeatsKey bytes k → ⊥
  pub no_half : (k : ℕ) → LacksPartner bytes k → ⊥

-- why a text in UTF-8 is refused at a place
abbrev pub IsTextFault : List ℕ → ℕ → ℕ → Type 0
IsTextFault bytes at kind = ((kind ≡ 2) × IsNoJson bytes at) ⊎ (((kind ≡ 3) × OpensTooDeep bytes at) ⊎ (((kind ≡ 4) × RepeatsKey bytes at) ⊎ ((kind ≡ 5) × LacksPartner bytes at)))

-- why the bytes are refused at a place
abbrev pub IsFault : List ℕ → ℕ → ℕ → Type 0
IsFault bytes at kind = ((kind ≡ 1) × ¬ (IsUtf8 bytes) × IsLongestUtf8 bytes at) ⊎ (IsUtf8 bytes × IsTextFault bytes at kind)

-- Each answer but want of memory has its cause.
abbrev pub HasCause : List ℕ → JsonFault → Type 0
HasCause bytes (At at kind) = IsFault bytes at kind
HasCause bytes NoMemory = ⊤
