-- A table whose prices are all 0 is lawful.
use Rattle.std.proofs.Common.{◌≡◌, ℕ, List, [], length, replicate, arith, ℤ, pos, ◌≤ℤ◌}
use Rattle.std.proofs.lemmas.List.{length-replicate}
use Rattle.std.proofs.lemmas.List.Elements.{All-nil, All-replicate}
use Rattle.uc_model.specs.declared.instance.Instance.{Instance}
use Rattle.uc_model.proofs.Common.{linear}
use Rattle.dual_model.specs.Prelude.{unpriced_table, IsLawfulScale, IsLawfulTable, IsPrice, IsRowPriced, IsRowSigned}
use Rattle.dual_model.specs.declared.table.Table.{Table}

-- the table that the code makes of no rows
abbrev pub made_of : ℕ → ℤ → List ℤ → List ℤ → Table
made_of units k pi mu = record { units = units; k = k; pi = pi; mu = mu; ramps = [] }

pub unpriced_lawful : (instance : Instance) (k : ℤ) → IsLawfulScale k → IsLawfulTable instance (unpriced_table instance k)
unpriced_lawful instance k scale =
    let periods = instance.periods in
    let count : length (replicate periods (pos 0)) ≡ periods = length-replicate {A = ℤ} periods (pos 0) in
    let nought : pos 0 ≤ℤ pos 0 = omega (arith, linear) in
    record {
      size = grind (arith, linear, All-nil, scale, instance, k, periods, count);
      signs = record {
        mu = All-replicate (λ z. pos 0 ≤ℤ z) periods (pos 0) nought;
        ramps = All-nil IsRowSigned;
      };
      limits = record {
        scale = scale.high;
        pi = All-replicate IsPrice periods (pos 0) (omega arith);
        mu = All-replicate IsPrice periods (pos 0) (omega arith);
        ramps = All-nil IsRowPriced;
      };
    }
