-- What is kept of the windows stays as it is when more is stitched behind it.
use Rattle.std.proofs.Common.{◌≡◌, ℕ, ◌+◌, ◌<◌, ◌≤◌, ◌++◌, List, length, get_or, take, ap, ◌∙◌, arith, ℤ, pos}
use Rattle.std.proofs.lemmas.List.{get_or_append_left, get_or-append-add, get_or-take}
use Rattle.uc_model.specs.Prelude.{thermal_count, renewable_count, cell_at, shed_at, short_at}
use Rattle.schedule_check.specs.SizedNumbers.{output_at}
use Rattle.roll.specs.Prelude.{Instance, Printed, IsNextWindow, IsKept, IsStitched, SameDispatch, IsShownFrom}

-- the first m periods of a schedule are those of another one, but for the categories
pub record AreSame (instance : Instance) (m : ℕ) (old new : Printed) : Type 0 where
  pub cells : (g t : ℕ) → g < thermal_count instance → t < m → SameDispatch (cell_at old g t) (cell_at new g t)
  pub outputs : (w t : ℕ) → w < renewable_count instance → t < m → output_at new w t ≡ output_at old w t
  pub shed : (t : ℕ) → t < m → shed_at new t ≡ shed_at old t
  pub short : (t : ℕ) → t < m → short_at new t ≡ short_at old t

-- ---- more is stitched behind
appended_left : (xs ys zs : List ℤ) (m t : ℕ) → length xs ≡ m → zs ≡ xs ++ ys → t < m → get_or zs t (pos 0) ≡ get_or xs t (pos 0)
appended_left xs ys zs m t count is below = ap (λ l. get_or l t (pos 0)) is ∙ get_or_append_left xs ys (pos 0) t (omega (arith, count, below))

pub stitched_same : (instance : Instance) (m n : ℕ) (kept shown stitched : Printed) → IsKept instance m kept
    → IsStitched instance m n kept shown stitched → AreSame instance m kept stitched
stitched_same instance m n kept shown stitched is more = record {
  cells = more.old_cells;
  outputs = more.old_outputs;
  shed = λ t below. appended_left kept.shed _ stitched.shed m t is.shape.shed more.shed below;
  short = λ t below. appended_left kept.short _ stitched.short m t is.shape.short more.short below;
}

appended_right : (xs ys zs : List ℤ) (m n t : ℕ) → length xs ≡ m → zs ≡ xs ++ take n ys → t < n
    → get_or zs (m + t) (pos 0) ≡ get_or ys t (pos 0)
appended_right xs ys zs m n t count is below = grind (arith, get_or-append-add, get_or-take, count, is, below)

-- what is stitched behind are the first periods of the window's schedule
pub stitched_shown : (instance : Instance) (m n : ℕ) (kept shown stitched : Printed) → IsKept instance m kept
    → IsStitched instance m n kept shown stitched → IsShownFrom instance m n shown stitched
stitched_shown instance m n kept shown stitched is more = grind (arith, appended_right, is, more)

-- ---- a window before it
-- the window behind periods that are the same is the same
pub next_again : (instance : Instance) (m : ℕ) (old new : Printed) (start len : ℕ) (window : Instance) → AreSame instance m old new → start ≤ m
    → IsNextWindow instance old start len window → IsNextWindow instance new start len window
next_again instance m old new start len window same within is = grind (arith, same, within, is)
