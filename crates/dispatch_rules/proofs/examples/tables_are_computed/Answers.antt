-- Number by number.
use Rattle.std.proofs.Common.{refl}
use Rattle.dispatch_rules.proofs.examples.tables_are_computed.Goals as goal

pub returns : goal.returns
returns c = refl
