-- The parser's own rule says when words are taken, and what they name.
use Rattle.std.proofs.Common.{sym, subst, Some, None}
use Rattle.command_line.specs.Asked.{IsRefusal}
use Rattle.command_line.proofs.Commands.{taken, found, refused, none_missing}
use Rattle.command_line.proofs.command.command_of.Goals as goal

pub returns-in-Some-clause-taken : goal.returns-in-Some-clause-taken
returns-in-Some-clause-taken c = taken _ _ c.in-Ok.ensures c.in-Ok-try_get_matches_from.ensures.kinds

pub returns-in-Some-clause-command : goal.returns-in-Some-clause-command
returns-in-Some-clause-command c =
    sym (found _ _ _ (Some c.in-Some.command) c.in-Ok.ensures (taken _ _ c.in-Ok.ensures c.in-Ok-try_get_matches_from.ensures.kinds)
    c.in-Ok-try_get_matches_from.ensures.matches c.in-Some.ensures.command)

pub returns-clause-refused : goal.returns-clause-refused
returns-clause-refused c = subst (IsRefusal _) (sym c.refusal.ensures) (refused _ _ _ c.in-Ok.ensures c.in-Err.ensures.kinds)

pub returns-in-Ok-try_get_matches_from-clause-refused : goal.returns-in-Ok-try_get_matches_from-clause-refused
returns-in-Ok-try_get_matches_from-clause-refused c =
    let took = taken _ _ c.in-Ok.ensures c.in-Ok-try_get_matches_from.ensures.kinds in
    absurd (none_missing _ took (found _ _ _ None c.in-Ok.ensures took c.in-Ok-try_get_matches_from.ensures.matches c.in-None.ensures.command))
