-- The law of runs, of this one.
use Rattle.std.proofs.Common.{subst}
use Rattle.std.specs.Vec.{vec_capacity}
use Rattle.book.specs.Prelude.{IsRunning}
use Rattle.book.specs.inside.Kept.{view_of, rooms_of}
use Rattle.book.proofs.Books.{kept_runs}
use Rattle.book.proofs.book.Book.keeps_run.Goals as goal

pub returns : goal.returns
returns g c =
    let a = c.self.inside in
    subst (IsRunning g.C.Case.opening) c.self.view_is
    (kept_runs c.tree_runs_hold.ensures g.C.Case.opening (view_of a.budget a.gap a.tree a.tables.items a.log a.claims)
    (rooms_of a.count (vec_capacity a.tables) a.log a.claims) c.self.invariant)
