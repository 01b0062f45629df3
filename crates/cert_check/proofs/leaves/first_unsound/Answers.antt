-- New room is ready for any tables.
use Rattle.cert_check.proofs.leaves.first_unsound.Goals as goal

pub walked-first-requires-clause-ready : goal.walked-first-requires-clause-ready
walked-first-requires-clause-ready c = c.in_ok-leaves.ensures c.args.cert.now.tables
