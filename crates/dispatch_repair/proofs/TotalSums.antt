-- The sums over the two parts of a list of ranges, and over a list of heads, are those over the period's sources.
-- Cite by `use Rattle.dispatch_repair.proofs.TotalSums.{renewable_part}`.
use Rattle.std.proofs.Common.{◌≡◌, ℕ, ◌+◌, ◌-◌, ◌<◌, arith, sym, ap, subst, ◌∙◌, List, length, take, drop, ℤ, pos, to_z, of_z, length-take, length-drop, get_or-take, get_or-drop}
use Rattle.std.specs.Int.{w64}
use Rattle.uc_model.specs.Prelude.{thermal_count, renewable_count, sum_below}
use Rattle.uc_model.proofs.Common.{sum_below-same}
use Rattle.dispatch_repair.specs.Prelude.{Period, Source, FromRenewable, FromThermal, renewable_sum, thermal_sum, Range, AreHeadsOf, AreRangesOf, range_at, source_count, IsSizedSum, IsSum}
use Rattle.dispatch_repair.specs.Period.{heads}
use Rattle.dispatch_repair.specs.Amounts.{amount_at}
use Rattle.dispatch_repair.proofs.Places.{HasEnds, renewable_ends, thermal_ends}

abbrev no_range : Range
no_range = record { low = pos 0; high = pos 0 }

-- a sum over a list's entries, by how many there are and what each is
part_sum : (part : List Range) (count : ℕ) (pick : Range → ℤ) (f : ℕ → ℤ) → length part ≡ count
    → ((k : ℕ) → k < count → pick (range_at part k) ≡ f k) → sum_below (length part) (λ k. pick (range_at part k)) ≡ sum_below count f
part_sum part count pick f long each = grind (arith, sum_below-same, long, each)

-- the ranges of the renewable units come first
pub renewable_part : (period : Period) (ranges : List Range) (n : ℕ) (pick : Range → ℤ) (end : Source → ℤ)
    → ((source : Source) (range : Range) → HasEnds period source range → pick range ≡ end source)
    → length ranges ≡ source_count period.instance → n ≡ renewable_count period.instance → AreRangesOf period ranges
    → sum_below (length (take n ranges)) (λ k. pick (range_at (take n ranges) k)) ≡ renewable_sum period end
renewable_part period ranges n pick end is long first are =
    part_sum (take n ranges) (renewable_count period.instance) pick (λ w. end (FromRenewable w))
    (count (length ranges) (renewable_count period.instance) (thermal_count period.instance) long first)
    (λ (w : ℕ) (h : w < renewable_count period.instance).
    ap pick (get_or-take n ranges w no_range (subst (λ m. w < m) (sym first) h))
    ∙ is (FromRenewable w) (range_at ranges w) (renewable_ends period ranges w h are))
  where
    count : (l a b : ℕ) → length ranges ≡ a + b → n ≡ a → length (take n ranges) ≡ a
    count l a b e f = simp length-take (omega arith)

-- and those of the thermal units behind them
pub thermal_part : (period : Period) (ranges : List Range) (n : ℕ) (pick : Range → ℤ) (end : Source → ℤ)
    → ((source : Source) (range : Range) → HasEnds period source range → pick range ≡ end source)
    → length ranges ≡ source_count period.instance → n ≡ renewable_count period.instance → AreRangesOf period ranges
    → sum_below (length (take (length ranges - n) (drop n ranges))) (λ k. pick (range_at (take (length ranges - n) (drop n ranges)) k))
    ≡ thermal_sum period end
thermal_part period ranges n pick end is long first are =
    part_sum (take (length ranges - n) (drop n ranges)) (thermal_count period.instance) pick (λ g. end (FromThermal g))
    (count (renewable_count period.instance) (thermal_count period.instance) long first)
    (λ (g : ℕ) (h : g < thermal_count period.instance).
    ap pick (get_or-take (length ranges - n) (drop n ranges) g no_range (omega arith)
    ∙ get_or-drop n ranges g no_range ∙ ap (λ m. range_at ranges (m + g)) first)
    ∙ is (FromThermal g) (range_at ranges (renewable_count period.instance + g)) (thermal_ends period ranges g h are))
  where
    count : (a b : ℕ) → length ranges ≡ a + b → n ≡ a → length (take (length ranges - n) (drop n ranges)) ≡ b
    count a b e f = simp (length-take, length-drop) (omega arith)

pub heads_sum : (period : Period) (numbers : List ℤ) → length numbers ≡ thermal_count period.instance → AreHeadsOf period numbers
    → sum_below (length numbers) (amount_at numbers) ≡ heads period
heads_sum period numbers long are = grind (arith, sum_below-same, long, are)

-- a sum as its bits
pub summed : (number total : ℤ) → IsSizedSum number → number ≡ total → IsSum (to_z w64 (of_z w64 number)) total
summed number total size is = grind (arith, size, is)
