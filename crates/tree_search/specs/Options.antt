-- How far a search goes. This project's own limits.
use Rattle.std.specs.Prelude.{◌≤◌}
use Rattle.uc_model.specs.declared.tolerance.TheConstants.{WHOLE_GAP}
use Rattle.search_machine.specs.declared.limits.TheConstants.{MAX_BUDGET}
use Rattle.tree_search.specs.declared.options.Options.{Options}
use Rattle.tree_search.specs.declared.options.TheConstants.{MAX_WORKERS}

-- the options are within their limits
pub record AreOptions (options : Options) : Type 0 where
  pub budget : options.budget ≤ MAX_BUDGET
  pub some : 1 ≤ options.workers
  pub workers : options.workers ≤ MAX_WORKERS
  pub gap : options.gap ≤ WHOLE_GAP
