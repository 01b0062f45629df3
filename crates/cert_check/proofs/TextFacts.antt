-- What a table meets whose text is of the instance's size: it has that size, and is lawful where its numbers are.
use Rattle.std.proofs.Common.{arith, ◌≡◌, ℕ}
use Rattle.uc_model.specs.Prelude.{thermal_count}
use Rattle.uc_model.specs.declared.instance.Instance.{Instance}
use Rattle.dual_model.specs.Prelude.{IsLawfulTable}
use Rattle.cert_text.specs.TextConditions.{IsTableText}
use Rattle.cert_check.specs.inside.Numbers.{Table, HasLawfulNumbers}

pub lawful-table : (instance : Instance) (periods thermal : ℕ) (table : Table) → periods ≡ instance.periods → thermal ≡ thermal_count instance
    → IsTableText periods thermal table → HasLawfulNumbers table → IsLawfulTable instance table
lawful-table instance periods thermal table hp hg text numbers = grind (arith, hp, hg, text, numbers)
