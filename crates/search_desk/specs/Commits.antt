-- What a commit at the desk makes of the book, and by which move. This project's own form.
use Rattle.std.specs.Prelude.{◌≡◌, ℕ, ◌&&◌, Bool, true, false, ℤ, pos, int_lt, Option, Some, None, if◌then◌else◌}
use Rattle.std.specs.Ordering.{int_eq}
use Rattle.branch_tree.specs.Prelude.{is_within_gap}
use Rattle.branch_tree.specs.declared.found.Outcome.{Outcome}
use Rattle.branch_tree.specs.declared.found.Outcome.TheVariants as outcome
use Rattle.search_machine.specs.Prelude.{kept_after}
use Rattle.search_machine.specs.declared.event.Move.{Move}
use Rattle.search_machine.specs.declared.event.Move.TheVariants as move
use Rattle.book.specs.Prelude.{IsCommitted, IsHeldUnit, MayCommit}
use Rattle.incumbent.specs.Costs.{AtMost}
use Rattle.search_desk.specs.Desks.{BookView, DeskView}
use Rattle.search_desk.specs.declared.desk.HeldNode.{HeldNode}
use Rattle.search_desk.specs.declared.desk.Evaluated.{Evaluated}
use Rattle.search_desk.specs.declared.desk.CommitAnswer.{CommitAnswer}

-- ---- the move
-- the bound that the node stores after the evaluation, where it stored this one before
abbrev pub bound_after : ℤ → ℤ → Outcome → ℤ
bound_after former k result = (kept_after (record { table = 0; value = former; exact = false }) 0 k false result).value

-- the move that leaves the node open, or splits it on the cell
abbrev pub open_move : Option (ℕ × ℕ) → Move
open_move None = move.Again
open_move (Some cell) = move.Split cell.0 cell.1

-- the node is pruned where its bound is within the gap of the cost that was seen
abbrev pub value_move : Option ℤ → ℤ → ℕ → Option (ℕ × ℕ) → Move
value_move None stored gap cell = open_move cell
value_move (Some cost) stored gap cell = if is_within_gap cost (Some stored) gap then move.Prune cost else open_move cell

-- the move by which an evaluation is committed: a blocked unit excludes the node, and so does a ray of positive value; else it is pruned where
-- this may be, and else split or left open
abbrev pub move_of : Option ℤ → ℤ → ℕ → ℤ → Option (ℕ × ℕ) → Outcome → Move
move_of seen stored gap k cell (outcome.Empty g) = move.Empty
move_of seen stored gap k cell (outcome.Value v) =
    if int_eq k (pos 0) && int_lt (pos 0) v then move.Ray else value_move seen stored gap cell

abbrev pub move_for : Option ℤ → ℕ → ℤ → Evaluated → Move
move_for seen gap former done = move_of seen (bound_after former done.table.k done.outcome) gap done.table.k done.cell done.outcome

-- ---- the book
-- the worker holds the node of the claim by it, and the log has as many entries of it as it had
abbrev pub Stands : BookView → ℕ → HeldNode → Type 0
Stands book me claim = IsHeldUnit book claim.unit me claim.node claim.had

-- the evaluation is entered where the claim stands and the book takes it; else the book is as before
abbrev pub IsEntry : Bool → ℕ → HeldNode → Evaluated → Move → BookView → BookView → Bool → Type 0
IsEntry exact me claim done action old new true =
    Stands old me claim × IsCommitted old me claim.unit claim.path done.table exact done.outcome action new
IsEntry exact me claim done action old new false =
    (Stands old me claim → ¬ MayCommit old me claim.unit claim.path done.table exact done.outcome action) × (new ≡ old)

-- what is told of the move
abbrev pub told_move : Bool → Move → Option Move
told_move true action = Some action
told_move false action = None

-- a commit: by the cost that is seen, which is no greater than any that was seen before
pub record IsDeskCommit (exact : Bool) (gap me : ℕ) (claim : HeldNode) (done : Evaluated) (old new : DeskView) (left : CommitAnswer) : Type 0 where
  pub lower : AtMost new.seen old.seen
  pub seen : left.seen ≡ new.seen
  pub stored : left.stored ≡ bound_after claim.bound done.table.k done.outcome
  pub entered : Bool
  pub book : IsEntry exact me claim done (move_for new.seen gap claim.bound done) old.book new.book entered
  pub action : left.action ≡ told_move entered (move_for new.seen gap claim.bound done)
