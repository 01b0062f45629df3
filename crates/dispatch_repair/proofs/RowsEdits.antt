-- Writes into rows, and their first periods. Cite by `use Rattle.dispatch_repair.proofs.RowsEdits.{cut_stuck}`.
use Rattle.std.proofs.Common.{◌≡◌, ℕ, ◌+◌, ◌<◌, ◌≤◌, get_or, length, take, drop, refl, sym, ap, subst, ◌∙◌, arith, List, [], ◌++◌, All, map, pos, slice_set, slice_index_or}
use Rattle.std.specs.Vec.{with_item}
use Rattle.std.specs.declared.alloc.Global.{Global}
use Rattle.std.specs.declared.vec.Vec.{Vec}
use Rattle.std.proofs.lemmas.Bool.{cases_lt}
use Rattle.std.proofs.Math.ListN.{get_or-eq_default}
use Rattle.std.proofs.lemmas.List.{map-set, get_or-map, get_or-take, get_or_default, length-map, length-take-le}
use Rattle.std.proofs.lemmas.List.Edits.{map_over_more}
use Rattle.std.proofs.lemmas.List.Elements.{All-map}
use Rattle.dispatch_repair.specs.Prelude.{Instance, Printed, HasPeriods, Obstacle, AreSameBelow, IsStuckAfter, rows_of}
use Rattle.dispatch_repair.specs.inside.Rows.{row_at}

-- the row that is read is the one at its place
pub row_read : {X : Type 0} (rows : List (Vec X Global)) (i : ℕ) (row : Vec X Global) → i < length rows
    → row ≡ slice_index_or rows i row → row.items ≡ row_at (rows_of rows) i
row_read {X} rows i row within is = grind (arith, get_or-map, within, is)

-- a write into a row
pub row_set : {X : Type 0} (rows : List (Vec X Global)) (i t : ℕ) (row : Vec X Global) (x : X) → i < length rows
    → row ≡ slice_index_or rows i row
    → rows_of (slice_set rows i (with_item row t x)) ≡ slice_set (rows_of rows) i (slice_set (row_at (rows_of rows) i) t x)
row_set {X} rows i t row x within is = grind (arith, map-set, slice_set, row_read, within, is)

-- one more row is cut
pub cut_more : {X : Type 0} (rows : List (Vec X Global)) (start : List (List X)) (n i : ℕ) (row cut : Vec X Global)
    → i < length start → i < length rows → row ≡ slice_index_or rows i row → cut.items ≡ take n row.items
    → rows_of rows ≡ map (take n) (take i start) ++ drop i start
    → rows_of (slice_set rows i cut) ≡ map (take n) (take (i + 1) start) ++ drop (i + 1) start
cut_more {X} rows start n i row cut hs hr is items before =
    let within : i < length (rows_of rows) = subst (λ k. i < k) (sym (length-map rows (λ (v : Vec X Global). v.items))) hr in
    map-set (λ (v : Vec X Global). v.items) rows i cut ∙ ap (slice_set (rows_of rows) i) items
    ∙ map_over_more (take n) start (rows_of rows) i row.items hs before
    (row_read rows i row hr is ∙ get_or_default (rows_of rows) i [] row.items within)

-- rows that are cut have the length that is left
cut_lengths : {X : Type 0} (rows : List (List X)) (n m : ℕ) → n ≤ m → All (λ row. length row ≡ m) rows
    → All (λ row. length row ≡ n) (map (take n) rows)
cut_lengths {X} rows n m h lengths =
    All-map (λ (row : List X). length row ≡ n) (take n) rows
    (λ k d within. length-take-le n (get_or rows k d) (subst (λ j. n ≤ j) (sym (lengths k d within)) h))

-- the first periods of a schedule
abbrev pub cut_at : ℕ → Printed → Printed
cut_at n printed = record {
  thermal = map (take n) printed.thermal;
  renewable = map (take n) printed.renewable;
  shed = take n printed.shed;
  short = take n printed.short;
  denominator = printed.denominator;
}

-- they have the shape of the first periods
pub cut_shape : (instance : Instance) (n : ℕ) (printed : Printed) → HasPeriods instance instance.periods printed → n ≤ instance.periods
    → HasPeriods instance n (cut_at n printed)
cut_shape instance n printed shape h = record {
  thermal = length-map printed.thermal _ ∙ shape.thermal;
  cells = cut_lengths printed.thermal n instance.periods h shape.cells;
  renewable = length-map printed.renewable _ ∙ shape.renewable;
  outputs = cut_lengths printed.renewable n instance.periods h shape.outputs;
  shed = length-take-le n printed.shed (subst (λ k. n ≤ k) (sym shape.shed) h);
  short = length-take-le n printed.short (subst (λ k. n ≤ k) (sym shape.short) h);
  whole = shape.whole;
}

-- the entries of the first periods stay
kept_entry : {X : Type 0} (rows : List (List X)) (n g k : ℕ) (d : X) → k < n → get_or (get_or (map (take n) rows) g []) k d ≡ get_or (get_or rows g []) k d
kept_entry {X} rows n g k d h = grind (arith, get_or-map, get_or-take, get_or-eq_default, length-map, cases_lt, h)

pub cut_same : (n : ℕ) (printed : Printed) → AreSameBelow n printed (cut_at n printed)
cut_same n printed = record {
  cells = λ g k h. kept_entry printed.thermal n g k _ h;
  outputs = λ w k h. kept_entry printed.renewable n w k _ h;
  shed = λ k h. get_or-take n printed.shed k (pos 0) h;
  short = λ k h. get_or-take n printed.short k (pos 0) h;
}

-- what is in the way, with them
pub cut_stuck : (printed : Printed) (obstacle : Obstacle)
    → IsStuckAfter printed obstacle.period obstacle.why (record { period = obstacle.period; prefix = cut_at obstacle.period printed; why = obstacle.why })
cut_stuck printed obstacle = record {
  is_period = refl;
  reason = refl;
  prefix = record {
    same = cut_same obstacle.period printed;
    shape = λ instance shape h. cut_shape instance obstacle.period printed shape h;
  };
}
