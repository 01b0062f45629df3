-- The rows of a commitment, as they are made.
use Rattle.std.proofs.Common.{arith, ◌≡◌, ◌≢◌, ℕ, ◌+◌, ◌<◌, below_more, length, get_or, get_or-set_other, ap, ◌∙◌, List, [], ◌∷◌, ◌++◌}
use Rattle.std.proofs.Math.ListN.{set}
use Rattle.std.proofs.lemmas.List.{length_push, get_or_push, get_or_append_left}
use Rattle.dispatch_repair.specs.Prelude.{IsNewCell, Cell, IsCommittedCell}
use Rattle.uc_model.specs.declared.pattern.Pattern.{Pattern}
use Rattle.uc_model.specs.declared.instance.Instance.{Instance}
use Rattle.dispatch_repair.specs.inside.Rows.{AreCommittedRows, IsCommittedRow, cell_of}

-- an entry at each place up to a new last one
pub push_each : {X : Type 0} (P : ℕ → X → Type 0) (xs : List X) (x d : X) (n : ℕ) → length xs ≡ n
    → ((k : ℕ) → k < n → P k (get_or xs k d)) → P n x → (k : ℕ) → k < n + 1 → P k (get_or (xs ++ x ∷ []) k d)
push_each {X} P xs x d n count before last = grind (arith, below_more, get_or_append_left, get_or_push, count, before, last)

-- one more cell
pub row_more : (instance : Instance) (patterns : List Pattern) (g t : ℕ) (row : List Cell) (cell : Cell)
    → IsCommittedRow instance patterns g t row → IsNewCell instance patterns g t cell
    → IsCommittedRow instance patterns g (t + 1) (row ++ cell ∷ [])
row_more instance patterns g t row cell before is = record {
  length = length_push row cell ∙ ap (λ k. k + 1) before.length;
  cells = push_each (IsNewCell instance patterns g) row cell (cell_of [] 0) t before.length before.cells is;
}

-- one more row
pub rows_more : (instance : Instance) (patterns : List Pattern) (n : ℕ) (rows : List (List Cell)) (row : List Cell)
    → AreCommittedRows instance patterns n rows → IsCommittedRow instance patterns n instance.periods row
    → AreCommittedRows instance patterns (n + 1) (rows ++ row ∷ [])
rows_more instance patterns n rows row before is = record {
  count = length_push rows row ∙ ap (λ k. k + 1) before.count;
  each = push_each (λ g. IsCommittedRow instance patterns g instance.periods) rows row [] n before.count before.each is;
}

-- a cell of a unit is the commitment's whatever pattern another unit has
pub other_cell : (instance : Instance) (patterns : List Pattern) (g h t : ℕ) (pattern : Pattern) (cell : Cell) → h ≢ g → IsCommittedCell instance patterns h t cell
    → IsCommittedCell instance (set patterns g pattern) h t cell
other_cell instance patterns g h t pattern cell apart is = grind (arith, get_or-set_other, apart, is)
