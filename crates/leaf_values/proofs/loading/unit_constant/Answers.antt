-- The constant is as small as it is said to be.
use Rattle.uc_model.proofs.Common.{wide-size}
use Rattle.leaf_values.specs.Entries.{MAX_CONSTANT}
use Rattle.leaf_values.proofs.loading.unit_constant.Goals as goal

pub returns-clause-size : goal.returns-clause-size
returns-clause-size c = wide-size c.constant.result MAX_CONSTANT (c.constant.ensures.size c.requires.limits)
