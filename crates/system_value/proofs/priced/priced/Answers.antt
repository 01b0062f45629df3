-- The product is as small as its parts allow.
use Rattle.std.proofs.Common.{◌≤◌, ◌∙◌, lit<, ◌*ℤ◌, unsigned_abs}
use Rattle.uc_model.proofs.Common.{narrow, scaled-size, wide-size}
use Rattle.uc_model.proofs.Sizes.{wide}
use Rattle.system_value.specs.Sizes.{MAX_POWER, MAX_PRICE, MAX_CELL}
use Rattle.system_value.proofs.priced.priced.Goals as goal

pub returns : goal.returns
returns c =
    let size : unsigned_abs c.scaled.result ≤ MAX_CELL =
    scaled-size c.args.price c.args.power c.scaled.result MAX_PRICE MAX_POWER c.scaled.ensures c.requires.price c.requires.power in
    record {
      value = wide c.scaled.result MAX_CELL size (lit< tt)
          ∙ c.scaled.ensures
          ∙ (λ i. narrow c.args.price MAX_PRICE c.requires.price (lit< tt) i *ℤ narrow c.args.power MAX_POWER c.requires.power (lit< tt) i);
      size = wide-size c.scaled.result MAX_CELL size;
    }
