-- The closing pass: what the workers leave, and what it makes of that. This project's own form.
use Rattle.std.specs.Prelude.{Bool, true, ℕ, All, ℤ, Option, Some, None}
use Rattle.uc_model.specs.declared.schedule.Printed.{Printed}
use Rattle.branch_tree.specs.Prelude.{is_schedule_within}
use Rattle.book.specs.Prelude.{BookView, Opening}
use Rattle.search_desk.specs.Best.{cost_of}
use Rattle.search_desk.specs.Desks.{IsKeptBy, IsKeptClaim}
use Rattle.search_desk.specs.Grown.{IsSpentUnlessClosed}

-- a book by what was seen, of which no claim was given back
pub record IsLeft (exact : Bool) (opening : Opening) (book : BookView) (seen : Option ℤ) (limit : ℕ) : Type 0 where
  pub kept : IsKeptBy exact opening book seen limit
  pub complete : All IsKeptClaim book.claims

-- the best schedule is within the gap of the tree's bound, or no leaf has one
abbrev pub is_finished : Option (Printed × ℤ) → Option ℤ → ℕ → Bool
is_finished best None gap = true
is_finished best (Some bound) gap = is_schedule_within best (Some bound) gap

-- the book at the end, by the best schedule
pub record IsEnded (exact : Bool) (opening : Opening) (book : BookView) (best : Option (Printed × ℤ)) : Type 0 where
  pub limit : ℕ
  pub kept : IsKeptBy exact opening book (cost_of best) limit
  pub spent : IsSpentUnlessClosed book.tree book.log best opening.budget opening.gap
