-- The prices of the first periods, and one more; and that the table of all of them is lawful.
use Rattle.std.proofs.Common.{◌≡◌, ◌≢◌, ℕ, ◌+◌, ◌<◌, arith, List, length, get_or, sym, subst, ◌∙◌, below_more, get_or-set_other, get_or-set_same, ℤ, pos, ◌≤ℤ◌, [], slice_set, replicate, All}
use Rattle.std.proofs.lemmas.Int.{ints}
use Rattle.std.proofs.lemmas.List.{length-replicate}
use Rattle.std.proofs.lemmas.List.Elements.{All-from_get_or, All-replicate}
use Rattle.uc_model.specs.Prelude.{thermal_count}
use Rattle.uc_model.proofs.Common.{linear}
use Rattle.dual_model.specs.Prelude.{ZERO_SCALE, IsLawfulTable, IsPrice}
use Rattle.dual_model.specs.declared.table.Table.{Table}
use Rattle.opening_tables.specs.inside.Slopes.{Instance, Printed, ArePriced, IsPriced}

pub priced-more : (instance : Instance) (printed : Printed) (prices : List ℤ) (i : ℕ) (price stored : ℤ) → i < length prices → stored ≡ price
    → IsPriced instance printed i price → ArePriced instance printed i prices → ArePriced instance printed (i + 1) (slice_set prices i stored)
priced-more instance printed prices i price stored within same priced before =
    below_more (λ t. IsPriced instance printed t (get_or (slice_set prices i stored) t (pos 0))) i
    (λ t h.
    let other : t ≢ i = omega arith in
    subst (IsPriced instance printed t) (sym (get_or-set_other prices i t stored (pos 0) other)) (before t h))
    (subst (IsPriced instance printed i) (sym (get_or-set_same prices i stored (pos 0) within ∙ same)) priced)

-- ---- the table
abbrev pub priced_table : ℕ → List ℤ → List ℤ → Table
priced_table units pi mu = record { units = units; k = ZERO_SCALE; pi = pi; mu = mu; ramps = [] }

pub priced_lawful : (instance : Instance) (printed : Printed) (units : ℕ) (pi mu : List ℤ) → units ≡ thermal_count instance
    → length pi ≡ instance.periods → mu ≡ replicate instance.periods (pos 0) → ArePriced instance printed instance.periods pi
    → IsLawfulTable instance (priced_table units pi mu)
priced_lawful instance printed units pi mu count length_is none priced =
    let mu_length : length mu ≡ instance.periods = subst (λ xs. length xs ≡ instance.periods) (sym none) (length-replicate {A = ℤ} instance.periods (pos 0)) in
    record {
      size = grind (arith, ints, mu_length, length_is, units, count);
      signs = record {
        mu = subst (All (λ n. pos 0 ≤ℤ n)) (sym none) (All-replicate (λ n. pos 0 ≤ℤ n) instance.periods (pos 0) (omega (arith, linear)));
        ramps = λ i d h. absurd (omega arith);
      };
      limits = record {
        scale = omega (arith, ints);
        pi = All-from_get_or IsPrice pi (pos 0) (λ t h. (priced t (omega (arith, h, length_is))).size);
        mu = subst (All IsPrice) (sym none) (All-replicate IsPrice instance.periods (pos 0) (omega arith));
        ramps = λ i d h. absurd (omega arith);
      };
    }
