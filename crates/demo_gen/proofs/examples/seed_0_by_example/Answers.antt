-- Each example is computed.
use Rattle.std.proofs.Common.{refl}
use Rattle.demo_gen.specs.Demo.{next_state}
use Rattle.demo_gen.proofs.examples.seed_0_by_example.Goals as goal

pub returns-clause-high_bits : goal.returns-clause-high_bits
unfolding next_state
returns-clause-high_bits c = refl

pub returns-clause-first : goal.returns-clause-first
unfolding next_state
returns-clause-first c = refl

pub returns-clause-last : goal.returns-clause-last
unfolding next_state
returns-clause-last c = refl
