-- Which cells of a tree are free, by the paths of the places that are stored.
use Rattle.std.proofs.Common.{arith, ◌≡◌, ◌↔◌, ℕ, ◌<◌, Bool, true, refl, sym, subst, Option, Some, None, IfSome, MatchOption, IsTrue}
use Rattle.branch_tree.specs.NumberedTree.{NumberedTree}
use Rattle.branch_tree.specs.TreeView.{TreeView, IsFreeAt, HasFreeCell}
use Rattle.branch_tree.specs.inside.Paths.{is_undecided_at}

pub free_is : (value : TreeView) (tree : NumberedTree) (number g t : ℕ) → tree ≡ value.nodes → g < value.units → t < value.periods
    → is_undecided_at tree number g t ≡ true → IsFreeAt value number g t
free_is value tree number g t same unit period undecided = grind (arith, same, unit, period, undecided)

pub undecided_is : (value : TreeView) (tree : NumberedTree) (number g t : ℕ) → tree ≡ value.nodes → IsFreeAt value number g t
    → is_undecided_at tree number g t ≡ true
undecided_is value tree number g t same free = grind (arith, same, free)

-- a test of all three tells whether the cell is free
pub told_free : (value : TreeView) (tree : NumberedTree) (number units periods g t : ℕ) (told : Bool) → tree ≡ value.nodes
    → units ≡ value.units → periods ≡ value.periods
    → IsTrue told ↔ ((g < units) × (t < periods) × IsTrue (is_undecided_at tree number g t)) → IsTrue told ↔ IsFreeAt value number g t
told_free value tree number units periods g t told same is_units is_periods test = grind (arith, same, is_units, is_periods, test)

-- the first undecided cell of the size of the tree is free, and where there is none no cell is
pub first_is : (value : TreeView) (tree : NumberedTree) (number units periods : ℕ) (found : Option (ℕ × ℕ)) → tree ≡ value.nodes
    → units ≡ value.units → periods ≡ value.periods
    → IfSome found (λ cell. (cell.0 < units) × (cell.1 < periods) × IsTrue (is_undecided_at tree number cell.0 cell.1))
    → (found ≡ None → (g t : ℕ) → g < units → t < periods → ¬ IsTrue (is_undecided_at tree number g t))
    → MatchOption found (¬ HasFreeCell value number) (λ cell. IsFreeAt value number cell.0 cell.1)
first_is value tree number units periods None same is_units is_periods some none =
    λ (free : HasFreeCell value number).
    none refl free.g free.t (subst (λ n. free.g < n) (sym is_units) free.free.unit) (subst (λ n. free.t < n) (sym is_periods) free.free.period)
    (undecided_is value tree number free.g free.t same free.free)
first_is value tree number units periods (Some cell) same is_units is_periods some none = grind (arith, same, is_units, is_periods, some, none)
