-- The node that is held, and what may be of it.
use Rattle.std.proofs.Common.{arith}
use Rattle.book.proofs.book.Book.commit.Goals as goal

pub returns-then-may_commit : goal.returns-then-may_commit
returns-then-may_commit g c = record {
  may = record { node = c.in-Some.number; holds = c.in-Some.ensures.held; may = c.may_commit.ensures.0 c.if-may_commit.true };
  is = c.enter.ensures;
}

pub returns : goal.returns
returns g c = grind (arith, g, c)
