-- The factors stand in another order.
use Rattle.std.proofs.Common.{arith}
use Rattle.uc_model.proofs.Common.{is_in_bits, mul_comm}
use Rattle.schedule_check.proofs.dispatch.initial_limit.Goals as goal

pub returns : goal.returns
returns c = grind (arith, mul_comm, is_in_bits, c)
