-- The schedule is one that the search found.
use Rattle.std.proofs.Common.{subst, IfSome}
use Rattle.schedule_check.specs.Accepted.{IsAccepted}
use Rattle.workers.proofs.rolling.goes_on.Goals as goal

pub more-requires-clause-shown : goal.more-requires-clause-shown
more-requires-clause-shown c =
    let found = c.requires.found in
    record {
      found = c.args.found.now;
      is_found = found;
      cost = c.in-Some.field-0-1;
      is_shown = c.in-Some.is;
      accepted = subst (λ schedule. IfSome schedule (λ pair. IsAccepted found.ahead pair.0 pair.1)) c.in-Some.is found.accepted;
    }
