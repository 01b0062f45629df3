-- Rows with one more entry.
-- Cite by `use Rattle.dispatch_schedule.proofs.Rows.{numbers_more, rows_more, cells_more, cell_rows_more, chosen_more}`.
use Rattle.std.proofs.Common.{◌≡◌, ℕ, ◌+◌, false, List, [], ◌∷◌, ◌++◌, ℤ, pos}
use Rattle.uc_model.specs.declared.instance.Instance.{Instance}
use Rattle.uc_model.specs.declared.pattern.Pattern.{Pattern}
use Rattle.uc_model.specs.declared.schedule.Cell.{Cell}
use Rattle.fractions.specs.declared.fraction.Fraction.{Fraction}
use Rattle.dispatch_rules.specs.declared.amount.Amount.{Amount}
use Rattle.dispatch_rules.specs.declared.amount.Amount.TheVariants.{Shed}
use Rattle.dispatch_schedule.specs.inside.Values.{fraction_at}
use Rattle.dispatch_schedule.specs.inside.Chosen.{Chosen, AreNumbers, AreRows, IsCellOf, IsCellRow, AreCellRows, AreChosen, amount_of, numerator_over}
use Rattle.dispatch_schedule.proofs.Lists.{each_more, count_more}

pub numbers_more : (f : ℕ → ℤ) (n : ℕ) (xs : List ℤ) (x : ℤ) → AreNumbers f n xs → x ≡ f n → AreNumbers f (n + 1) (xs ++ x ∷ [])
numbers_more f n xs x before own = record {
  count = count_more (λ t (y : ℤ). y ≡ f t) (pos 0) n xs x before.count;
  each = each_more (λ t y. y ≡ f t) (pos 0) n xs x before.count before.each own;
}

pub rows_more : (f : ℕ → ℕ → ℤ) (periods n : ℕ) (rows : List (List ℤ)) (row : List ℤ)
    → AreRows f periods n rows → AreNumbers (f n) periods row → AreRows f periods (n + 1) (rows ++ row ∷ [])
rows_more f periods n rows row before own = record {
  count = count_more (λ w (r : List ℤ). AreNumbers (f w) periods r) [] n rows row before.count;
  each = each_more (λ w r. AreNumbers (f w) periods r) [] n rows row before.count before.each own;
}

module _ (instance : Instance) (patterns : List Pattern) (chosen : List Chosen) where
  pub cells_more : (g n : ℕ) (row : List Cell) (cell : Cell) → IsCellRow instance patterns chosen g n row
      → IsCellOf instance patterns chosen g n cell → IsCellRow instance patterns chosen g (n + 1) (row ++ cell ∷ [])
  cells_more g n row cell before own = record {
    count = count_more (λ t (x : Cell). IsCellOf instance patterns chosen g t x) (record { on = false; p = pos 0; r = pos 0; category = 0 }) n row cell before.count;
    each = each_more (IsCellOf instance patterns chosen g) (record { on = false; p = pos 0; r = pos 0; category = 0 }) n row cell before.count before.each own;
  }

  pub cell_rows_more : (n : ℕ) (rows : List (List Cell)) (row : List Cell) → AreCellRows instance patterns chosen n rows
      → IsCellRow instance patterns chosen n instance.periods row → AreCellRows instance patterns chosen (n + 1) (rows ++ row ∷ [])
  cell_rows_more n rows row before own = record {
    count = count_more (λ g (x : List Cell). IsCellRow instance patterns chosen g instance.periods x) [] n rows row before.count;
    each = each_more (λ g x. IsCellRow instance patterns chosen g instance.periods x) [] n rows row before.count before.each own;
  }

pub chosen_more : (amounts : List Amount) (values : List Fraction) (d : ℤ) (n : ℕ) (xs : List Chosen) (x : Chosen) → AreChosen amounts values d n xs
    → x.amount ≡ amount_of amounts n → x.numerator ≡ numerator_over d (fraction_at values n) → AreChosen amounts values d (n + 1) (xs ++ x ∷ [])
chosen_more amounts values d n xs x before same own = record {
  count = count_more (λ c (y : Chosen). y.amount ≡ amount_of amounts c) (record { amount = Shed 0; numerator = pos 0 }) n xs x before.count;
  amount = each_more (λ c y. y.amount ≡ amount_of amounts c) (record { amount = Shed 0; numerator = pos 0 }) n xs x before.count before.amount same;
  numerator = each_more (λ c y. y.numerator ≡ numerator_over d (fraction_at values c)) (record { amount = Shed 0; numerator = pos 0 }) n xs x before.count before.numerator own;
}
