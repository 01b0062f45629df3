-- What a node decides of a unit, by what `fix_of` says.
use Rattle.std.proofs.Common.{◌≡◌, ℕ, sym, subst, ◌∙◌, Option, Some, None, MatchOption, true≢false}
use Rattle.dual_model.specs.Prelude.{IsFixOf}
use Rattle.dual_model.specs.Fixings.{HasNoPattern}
use Rattle.dual_value.specs.NodeAnswer.{Instance}
use Rattle.dual_model.specs.declared.node.Node.{Node}
use Rattle.dual_value.specs.inside.Fixes.{Fix, AreBelow, Contradicts}

-- where the node decides both ways the unit has no pattern
pub none-decided : (instance : Instance) (node : Node) (g periods : ℕ) (fix : Option Fix)
    → ((n : ℕ) → AreBelow n node → MatchOption fix (Contradicts node g) (IsFixOf n node g)) → AreBelow periods node → fix ≡ None
    → HasNoPattern instance node g
none-decided instance node g periods fix decided below none on pattern =
    let against : Contradicts node g = subst (λ o. MatchOption o (Contradicts node g) (IsFixOf periods node g)) none (decided periods below) in
    true≢false (sym pattern.agrees ∙ against on)

pub fix-decided : (node : Node) (g periods n : ℕ) (result : Option Fix) (fix : Fix)
    → ((n : ℕ) → AreBelow n node → MatchOption result (Contradicts node g) (IsFixOf n node g)) → AreBelow periods node → n ≡ periods → result ≡ Some fix
    → IsFixOf n node g fix
fix-decided node g periods n result fix decided below e some =
    subst (λ o. MatchOption o (Contradicts node g) (IsFixOf n node g)) some (decided n (subst (λ k. AreBelow k node) (sym e) below))
