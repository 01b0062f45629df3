-- What stands for a given instance at prices of its own.
use Rattle.std.proofs.Common.{arith, ◌≡◌}
use Rattle.command_runs.specs.Prelude.{ReadOptions, IsPriced}
use Rattle.command_runs.specs.inside.Prices.{Instance}

-- one given instance has one at each prices
pub only_priced : (options : ReadOptions) (given instance another other : Instance) → IsPriced options given instance → IsPriced options another other
    → another ≡ given → other ≡ instance
only_priced options given instance another other priced again same = grind (arith, priced, again, same)
