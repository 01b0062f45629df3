-- The path of a child: its parent's with one decision more.
use Rattle.std.proofs.Common.{◌≡◌, ℕ, suc, ◌+◌, ◌<◌, List, [], ◌∷◌, ◌++◌, length, get_or, arith, refl}
use Rattle.dual_model.specs.declared.node.Fixing.{Fixing}

pub one_more : (path parent : List Fixing) (default : Fixing) → length path ≡ length parent + 1
    → ((k : ℕ) (d : Fixing) → k < length parent → get_or path k d ≡ get_or parent k d)
    → path ≡ parent ++ get_or path (length parent) default ∷ []
one_more [] parent default count same = absurd (omega arith)
one_more (first ∷ []) [] default count same = refl
one_more (first ∷ second ∷ path) [] default count same = absurd (omega arith)
one_more (first ∷ path) (other ∷ parent) default count same =
    let begin : first ≡ other = same 0 first (omega arith) in
    let rest = one_more path parent default (omega arith) (λ k d within. same (suc k) d (omega arith)) in
    (λ i. begin i ∷ rest i)
