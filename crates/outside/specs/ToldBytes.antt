-- Bytes that an implementation may tell (`Some`) or not tell (`None`).
use Rattle.std.specs.Prelude.{◌≡◌, ℕ, List, ◌++◌, ⊤, Option, None, Some}

-- where they are told, they are these
abbrev pub Tells : Option (List ℕ) → List ℕ → Type 0
Tells None bytes = ⊤
Tells (Some told) bytes = told ≡ bytes

-- Where the new bytes are told, the old ones were told, and these were appended to them. So an
-- implementation may cease to tell what was written, and then never tells it again.
abbrev pub Appends : List ℕ → Option (List ℕ) → Option (List ℕ) → Type 0
Appends bytes old None = ⊤
Appends bytes None (Some new) = ⊥
Appends bytes (Some old) (Some new) = new ≡ old ++ bytes

-- a front of these bytes was appended
pub record AppendsFront (bytes : List ℕ) (old new : Option (List ℕ)) : Type 0 where
  pub front : List ℕ
  pub rest : List ℕ
  pub parts : bytes ≡ front ++ rest
  pub grown : Appends front old new
