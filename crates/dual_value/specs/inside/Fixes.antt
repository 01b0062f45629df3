-- What a node decides of one unit, fixing by fixing. Source: branch and bound on the commitment variables of the
-- reference model by Knueven, Ostrowski and Watson.
use Rattle.std.specs.Prelude.{◌≡◌, ℕ, ◌<◌, Bool, true, false, ◌&&◌, Option, Some, None, All}
use Rattle.uc_model.specs.Prelude.{Commitment, commitment_of}
use Rattle.dual_model.specs.Prelude.{fix_agrees, keeps, unit_agrees}
pub use Rattle.dual_model.specs.declared.node.Fix.{Fix}
pub use Rattle.dual_model.specs.declared.node.Fixing.{Fixing}
pub use Rattle.dual_model.specs.declared.node.Node.{Node}

-- no commitment agrees with what the node decides of unit g
abbrev pub Contradicts : Node → ℕ → Type 0
Contradicts node g = (on : Commitment) → unit_agrees node g on ≡ false

-- the node's periods are below this number
abbrev pub AreBelow : ℕ → Node → Type 0
AreBelow periods node = All (λ fixing. fixing.t < periods) node.fixings

-- the bits of what isn't decided are off
abbrev pub IsPlain : Fix → Type 0
IsPlain fix = (t : ℕ) → commitment_of fix.on t ≡ true → commitment_of fix.known t ≡ true

-- with a fixing more the commitments that agree are those that agreed and keep it; nothing where there is none
abbrev pub IsFixWith : Fix → Fixing → Option Fix → Type 0
IsFixWith fix fixing more =
    (periods : ℕ) (on : Commitment) → fixing.t < periods →
    (fix_agrees periods fix on && keeps fixing on) ≡ agrees_with periods more on
  where
    agrees_with : ℕ → Option Fix → Commitment → Bool
    agrees_with periods None on = false
    agrees_with periods (Some more) on = fix_agrees periods more on
