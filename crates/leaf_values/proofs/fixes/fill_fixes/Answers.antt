-- One decision more, of a cell that those before it haven't decided.
use Rattle.std.proofs.Common.{false, arith}
use Rattle.std.proofs.lemmas.List.{get_or_default}
use Rattle.dual_model.specs.declared.node.Fixing.{Fixing}
use Rattle.leaf_values.proofs.DecidedPaths.{decided_more, fixes_of_path, next_free, undecided_so_far}
use Rattle.leaf_values.proofs.fixes.fill_fixes.Goals as goal

abbrev no_fixing : Fixing
no_fixing = record { g = 0; t = 0; on = false }

pub loop-fixing-init : goal.loop-fixing-init
loop-fixing-init c = record { fix = λ g h. undecided_so_far c.args.path.now g _ (c.clear.ensures g h) }

pub decide-requires-clause-known : goal.decide-requires-clause-known
decide-requires-clause-known c = grind (arith, c)

pub decide-requires-clause-on : goal.decide-requires-clause-on
decide-requires-clause-on c = grind (arith, c)

pub loop-fixing-preserved : goal.loop-fixing-preserved
loop-fixing-preserved c = grind (arith, get_or_default, decided_more, next_free, c)

pub returns : goal.returns
returns c = grind (arith, fixes_of_path, c)
