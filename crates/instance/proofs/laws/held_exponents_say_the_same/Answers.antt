use Rattle.decimal_json.specs.Value.{written_decimal}
use Rattle.instance.proofs.Sizes.{held_says_same}
use Rattle.instance.proofs.laws.held_exponents_say_the_same.Goals as goal

pub returns : goal.returns
returns c = λ negative ds fs down written few. held_says_same (written_decimal negative ds fs down written) few
