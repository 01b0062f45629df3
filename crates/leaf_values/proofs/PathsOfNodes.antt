-- Paths that a walk over a tree makes: a path decides each cell once if each split is on a cell that the path to it hasn't decided.
-- Cite from a crate above by `use Rattle.leaf_values.proofs.PathsOfNodes.{decides_once-more}`.
use Rattle.std.proofs.Common.{◌≡◌, ℕ, ◌+◌, ◌<◌, ◌⊎◌, not, List, [], ◌∷◌, ◌++◌, take, arith, IsTrue}
use Rattle.std.proofs.lemmas.List.{get_or-take, get_or_append_left, get_or_push, length-append, length-take, take-append-le, take-take, take_all}
use Rattle.dual_model.specs.Prelude.{is_decided}
use Rattle.leaf_values.specs.Paths.{Fixing, DecidesOnce, node_of}

below_or_last : (i n : ℕ) → i < n + 1 → (i < n) ⊎ (i ≡ n)
below_or_last i n h = grind arith

pub decides_once-more : (path : List Fixing) (fixing : Fixing) → DecidesOnce path
    → IsTrue (not (is_decided (node_of path) fixing.g fixing.t)) → DecidesOnce (path ++ fixing ∷ [])
decides_once-more path fixing once free =
    grind (arith, take-append-le, get_or_append_left, take_all, get_or_push, below_or_last, length-append, once, free)

-- the beginning of such a path
pub decides_once-take : (path : List Fixing) (n : ℕ) → DecidesOnce path → DecidesOnce (take n path)
decides_once-take path n once = grind (arith, length-take, take-take, get_or-take, once)
