-- A row's place among rising rows.
use Rattle.std.proofs.Common.{◌≡◌, ℕ, zero, suc, ◌<◌, ◌≤◌, ◌⊎◌, inl, inr, Bool, true, false, not, cond, List, [], ◌∷◌, ◌++◌, length, take, drop, get_or, slice_set, drop-cons, refl, sym, ap, subst, arith}
use Rattle.std.specs.List.{AllWithin}
use Rattle.std.specs.List.Sorted.{IsPartitionedBy}
use Rattle.std.proofs.lemmas.List.Elements.{All-from_recursion}
use Rattle.std.proofs.lemmas.Bool.{cases_order}
use Rattle.dual_model.specs.Prelude.{AreRising, IsRowBefore}
use Rattle.table_list.specs.Changes.{RampRow, is_before, is_none, placed, with_row}
use Rattle.table_list.specs.inside.Steps.{IsRowPlace}
use Rattle.table_list.proofs.RowChanges.{Rise, rise_from, before_trans, before_decides}

-- ---- a row that is set
pub set_split : (rows : List RampRow) (place : ℕ) (row : RampRow) → place < length rows → slice_set rows place row ≡ take place rows ++ row ∷ drop (suc place) rows
set_split [] place row lt = absurd (omega arith)
set_split (first ∷ rows) zero row lt = refl
set_split (first ∷ rows) (suc place) row lt = ap (λ rows. first ∷ rows) (set_split rows place row (omega arith))

pub placed_if : (row : RampRow) (rows : List RampRow) (none : Bool) → is_none row ≡ none → placed row rows ≡ cond none rows (row ∷ rows)
placed_if row rows none e = ap (λ none. cond none rows (row ∷ rows)) e

-- ---- the place
rise_at : (rows : List RampRow) → Rise rows → (i j : ℕ) (d : RampRow) → i < j → j < length rows → IsRowBefore (get_or rows i d) (get_or rows j d)
rise_at [] rise i j d before lt = absurd (omega arith)
rise_at (first ∷ rows) rise i zero d before lt = absurd (omega arith)
rise_at (first ∷ rows) rise zero (suc j) d before lt = All-from_recursion (IsRowBefore first) rows rise.0 j d (omega arith)
rise_at (first ∷ rows) rise (suc i) (suc j) d before lt = rise_at rows rise.1 i j d (omega arith) (omega arith)

-- rows that rise are before a row, or not, from the first on
pub parted : (rows : List RampRow) (row : RampRow) → AreRising rows → IsPartitionedBy (λ other. is_before other row) rows
parted rows row rising i j d le lt e = by_order (cases_order i j)
  where
    by_order : (i ≡ j) ⊎ ((i < j) ⊎ (j < i)) → is_before (get_or rows i d) row ≡ true
    by_order (inl same) = subst (λ (i : ℕ). is_before (get_or rows i d) row ≡ true) (sym same) e
    by_order (inr (inl earlier)) =
        (before_decides (get_or rows i d) row).1
        (before_trans (get_or rows i d) (get_or rows j d) row (rise_at rows (rise_from rows rising) i j d earlier lt) ((before_decides (get_or rows j d) row).0 e))
    by_order (inr (inr late)) = absurd (omega arith)

pub behind_place : (rows : List RampRow) (row : RampRow) (place : ℕ) → place ≤ length rows → AllWithin (λ other. is_before other row ≡ true) rows 0 place
    → with_row rows row ≡ take place rows ++ with_row (drop place rows) row
behind_place rows row zero le before = refl
behind_place [] row (suc place) le before = absurd (omega arith)
behind_place (first ∷ rows) row (suc place) le before =
    rw (before 0 first (omega arith) (omega arith)) (ap (λ rows. first ∷ rows) (behind_place rows row place (omega arith) (λ k d low high. before (suc k) d (omega arith) (omega arith))))

-- ---- the row there
-- it is of the same unit and period, or a later one
pub there : (rows : List RampRow) (row d : RampRow) (place : ℕ) (behind : Bool) → IsRowPlace rows row place → place < length rows → behind ≡ is_before row (get_or rows place d)
    → with_row (drop place rows) row ≡ placed row (drop (cond (not behind) (suc place) place) rows)
there rows row d place true h lt e = rw (drop-cons rows place d lt, h.front d lt, sym e) refl
there rows row d place false h lt e = rw (drop-cons rows place d lt, h.front d lt, sym e) refl
