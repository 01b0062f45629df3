-- The rows that the table of a program has at the start, column by column.
-- Cite by `use Rattle.dispatch_program.proofs.Starts.{start_is}`.
use Rattle.std.proofs.Common.{◌≡◌, ℕ, zero, suc, ◌+◌, ◌-◌, ◌<◌, ◌≤◌, Bool, true, false, ⊎_elim, refl, sym, ap, subst, ◌∙◌, arith, List, [], ◌∷◌, ◌++◌, map, length, slice_index_or, pos, IsTrue, if◌then◌else◌}
use Rattle.std.proofs.lemmas.Bool.{cond-true, cases_Bool, cases_lt}
use Rattle.std.proofs.lemmas.List.{length-append, length-map, get_or-map, get_or_append_left, get_or-append-add}
use Rattle.pivot_run.specs.Prelude.{entry, row_at, basic}
use Rattle.dispatch_program.specs.Prelude.{Program, Column, Unknown, Slack, Artificial, SumValue, CostValue, RightSide, Line, RuleLine, SumLine, CostLine, line_number, picked, bump, counted, all, is_limit, has_artificial, columns_of, lines_of, start_rows, place, slacks, artificials, HasColumn, own_column, basic_column, start_table, free_columns}
use Rattle.dispatch_program.proofs.Combined.{AreStart}

-- ---- picked places

length-one : {A : Type 0} (b : Bool) (x : A) → length (if b then x ∷ [] else []) ≡ bump b
length-one true x = refl
length-one false x = refl

pub length-picked : {A : Type 0} (test : ℕ → Bool) (f : ℕ → A) (n : ℕ) → length (picked test f n) ≡ counted test n
length-picked test f zero = refl
length-picked test f (suc n) =
    let both = length-append (picked test f n) (if test n then f n ∷ [] else []) in
    let before = length-picked test f n in
    let one = length-one (test n) (f n) in
    omega arith

pub counted-le : (test : ℕ → Bool) (i n : ℕ) → i < n → test i ≡ true → counted test i < counted test n
counted-le test i zero h e = absurd (omega arith)
counted-le test i (suc n) h e = ⊎_elim
    (λ (less : i < n). let before = counted-le test i n less e in omega arith)
    (λ (most : n ≤ i).
    let same : i ≡ n = omega arith in
    let here = ap (counted test) same in
    let one : bump (test n) ≡ 1 = ap bump (ap test (sym same) ∙ e) in
    omega arith)
    (cases_lt i n)

picked_at : {A : Type 0} (test : ℕ → Bool) (f : ℕ → A) (n i : ℕ) (d : A) → i < n → test i ≡ true → slice_index_or (picked test f n) (counted test i) d ≡ f i
picked_at test f zero i d h e = absurd (omega arith)
picked_at test f (suc n) i d h e = ⊎_elim
    (λ (less : i < n).
    get_or_append_left (picked test f n) _ d (counted test i) (subst (λ m. counted test i < m) (sym (length-picked test f n)) (counted-le test i n less e))
    ∙ picked_at test f n i d less e)
    (λ (most : n ≤ i).
    let same : i ≡ n = omega arith in
    let at : counted test i ≡ length (picked test f n) + 0 = let long = length-picked test f n in let c = ap (counted test) same in omega arith in
    ap (λ k. slice_index_or (picked test f (suc n)) k d) at
    ∙ get_or-append-add (picked test f n) (if test n then f n ∷ [] else []) 0 d
    ∙ ap (λ xs. slice_index_or xs 0 d) (cond-true (test n) (f n ∷ []) [] (ap test (sym same) ∙ e))
    ∙ ap f (sym same))
    (cases_lt i n)

-- the place of each that is counted
pub counted_has : (test : ℕ → Bool) (n c : ℕ) → c < counted test n → (i : ℕ) × (i < n) × (test i ≡ true) × (counted test i ≡ c)
counted_has test zero c h = absurd (omega arith)
counted_has test (suc n) c h = ⊎_elim
    (λ (less : c < counted test n). let found = counted_has test n c less in (found.0, omega (arith, found.1), found.2, found.3))
    (λ (most : counted test n ≤ c). ⊎_elim
    (λ (here : test n ≡ true). let one : bump (test n) ≡ 1 = ap bump here in (n, omega arith, here, omega arith))
    (λ (none : test n ≡ false). let nothing : bump (test n) ≡ 0 = ap bump none in absurd (omega arith))
    (cases_Bool (test n)))
    (cases_lt c (counted test n))

pub counted-all : (n : ℕ) → counted all n ≡ n
counted-all zero = refl
counted-all (suc n) = let before = counted-all n in omega arith

-- ---- the columns
module _ (p : Program) where
  abbrev last_three : List Column
  last_three = SumValue ∷ CostValue ∷ RightSide ∷ []

  abbrev with_artificials : List Column
  with_artificials = picked (has_artificial p) Artificial p.rules ++ last_three

  abbrev with_slacks : List Column
  with_slacks = picked (is_limit p) Slack p.rules ++ with_artificials

  unknowns_long : length (picked all Unknown p.unknowns) ≡ p.unknowns
  unknowns_long = length-picked all Unknown p.unknowns ∙ counted-all p.unknowns

  after_unknowns : (k : ℕ) → slice_index_or (columns_of p) (p.unknowns + k) RightSide ≡ slice_index_or with_slacks k RightSide
  after_unknowns k =
      ap (λ m. slice_index_or (columns_of p) (m + k) RightSide) (sym unknowns_long)
      ∙ get_or-append-add (picked all Unknown p.unknowns) with_slacks k RightSide

  after_slacks : (k : ℕ) → slice_index_or with_slacks (slacks p + k) RightSide ≡ slice_index_or with_artificials k RightSide
  after_slacks k =
      ap (λ m. slice_index_or with_slacks (m + k) RightSide) (sym (length-picked (is_limit p) Slack p.rules))
      ∙ get_or-append-add (picked (is_limit p) Slack p.rules) with_artificials k RightSide

  after_artificials : (k : ℕ) → slice_index_or with_artificials (artificials p + k) RightSide ≡ slice_index_or last_three k RightSide
  after_artificials k =
      ap (λ m. slice_index_or with_artificials (m + k) RightSide) (sym (length-picked (has_artificial p) Artificial p.rules))
      ∙ get_or-append-add (picked (has_artificial p) Artificial p.rules) last_three k RightSide

  past : (k : ℕ) → slice_index_or (columns_of p) (p.unknowns + (slacks p + (artificials p + k))) RightSide ≡ slice_index_or last_three k RightSide
  past k = after_unknowns (slacks p + (artificials p + k)) ∙ after_slacks (artificials p + k) ∙ after_artificials k

  -- the column at each place
  column_at : (column : Column) → HasColumn p column → slice_index_or (columns_of p) (place p column) RightSide ≡ column
  column_at (Unknown c) h =
      get_or_append_left (picked all Unknown p.unknowns) with_slacks RightSide c (subst (λ m. c < m) (sym unknowns_long) h)
      ∙ ap (λ k. slice_index_or (picked all Unknown p.unknowns) k RightSide) (sym (counted-all c))
      ∙ picked_at all Unknown p.unknowns c RightSide h refl
  column_at (Slack i) h =
      after_unknowns (counted (is_limit p) i)
      ∙ get_or_append_left (picked (is_limit p) Slack p.rules) with_artificials RightSide (counted (is_limit p) i)
      (subst (λ m. counted (is_limit p) i < m) (sym (length-picked (is_limit p) Slack p.rules)) (counted-le (is_limit p) i p.rules h.0 h.1))
      ∙ picked_at (is_limit p) Slack p.rules i RightSide h.0 h.1
  column_at (Artificial i) h =
      after_unknowns (slacks p + counted (has_artificial p) i) ∙ after_slacks (counted (has_artificial p) i)
      ∙ get_or_append_left (picked (has_artificial p) Artificial p.rules) last_three RightSide (counted (has_artificial p) i)
      (subst (λ m. counted (has_artificial p) i < m) (sym (length-picked (has_artificial p) Artificial p.rules)) (counted-le (has_artificial p) i p.rules h.0 h.1))
      ∙ picked_at (has_artificial p) Artificial p.rules i RightSide h.0 h.1
  column_at SumValue h = past 0
  column_at CostValue h = past 1
  column_at RightSide h = past 2

  pub columns_long : length (columns_of p) ≡ p.unknowns + (slacks p + (artificials p + 3))
  columns_long =
      let a = length-append (picked all Unknown p.unknowns) with_slacks in
      let b = length-append (picked (is_limit p) Slack p.rules) with_artificials in
      let c = length-append (picked (has_artificial p) Artificial p.rules) last_three in
      let d = unknowns_long in
      let e = length-picked (is_limit p) Slack p.rules in
      let f = length-picked (has_artificial p) Artificial p.rules in
      let three : length last_three ≡ 3 = refl in
      omega arith

  pub place-lt : (column : Column) → HasColumn p column → place p column < length (columns_of p)
  place-lt (Unknown c) h = let long = columns_long in omega arith
  place-lt (Slack i) h = let long = columns_long in let less = counted-le (is_limit p) i p.rules h.0 h.1 in omega arith
  place-lt (Artificial i) h = let long = columns_long in let less = counted-le (has_artificial p) i p.rules h.0 h.1 in omega arith
  place-lt SumValue h = let long = columns_long in omega arith
  place-lt CostValue h = let long = columns_long in omega arith
  place-lt RightSide h = let long = columns_long in omega arith

  -- ---- the lines
  rules_long : length (picked all RuleLine p.rules) ≡ p.rules
  rules_long = length-picked all RuleLine p.rules ∙ counted-all p.rules

  pub lines_long : length (lines_of p) ≡ p.rules + 2
  lines_long =
      let a = length-append (picked all RuleLine p.rules) (SumLine ∷ CostLine ∷ []) in
      let b = rules_long in
      let two : length (SumLine ∷ CostLine ∷ []) ≡ 2 = refl in
      omega arith

  rule_at : (i : ℕ) → i < p.rules → slice_index_or (lines_of p) i CostLine ≡ RuleLine i
  rule_at i h =
      get_or_append_left (picked all RuleLine p.rules) (SumLine ∷ CostLine ∷ []) CostLine i (subst (λ m. i < m) (sym rules_long) h)
      ∙ ap (λ k. slice_index_or (picked all RuleLine p.rules) k CostLine) (sym (counted-all i))
      ∙ picked_at all RuleLine p.rules i CostLine h refl

  last_at : (k : ℕ) → slice_index_or (lines_of p) (p.rules + k) CostLine ≡ slice_index_or (SumLine ∷ CostLine ∷ []) k CostLine
  last_at k =
      ap (λ m. slice_index_or (lines_of p) (m + k) CostLine) (sym rules_long)
      ∙ get_or-append-add (picked all RuleLine p.rules) (SumLine ∷ CostLine ∷ []) k CostLine

  -- ---- the rows
  pub row_is : (i : ℕ) (line : Line) → i < p.rules → line ≡ RuleLine i → row_at (start_rows p) i ≡ map (line_number p line) (columns_of p)
  row_is i line h e =
      get_or-map (λ l. map (line_number p l) (columns_of p)) (lines_of p) i CostLine [] (let long = lines_long in omega arith)
      ∙ ap (λ l. map (line_number p l) (columns_of p)) (rule_at i h ∙ sym e)

  pub sum_row_is : row_at (start_rows p) p.rules ≡ map (line_number p SumLine) (columns_of p)
  sum_row_is =
      ap (row_at (start_rows p)) (omega arith)
      ∙ get_or-map (λ l. map (line_number p l) (columns_of p)) (lines_of p) (p.rules + 0) CostLine [] (let long = lines_long in omega arith)
      ∙ ap (λ l. map (line_number p l) (columns_of p)) (last_at 0)

  pub cost_row_is : row_at (start_rows p) (p.rules + 1) ≡ map (line_number p CostLine) (columns_of p)
  cost_row_is =
      get_or-map (λ l. map (line_number p l) (columns_of p)) (lines_of p) (p.rules + 1) CostLine [] (let long = lines_long in omega arith)
      ∙ ap (λ l. map (line_number p l) (columns_of p)) (last_at 1)

  -- ---- the numbers
  number_at : (k : ℕ) (line : Line) (column : Column) → k < p.rules + 2 → slice_index_or (lines_of p) k CostLine ≡ line → HasColumn p column
      → entry (row_at (start_rows p) k) (place p column) ≡ line_number p line column
  number_at k line column h is there =
      ap (λ row. entry row (place p column))
      (get_or-map (λ l. map (line_number p l) (columns_of p)) (lines_of p) k CostLine [] (subst (λ m. k < m) (sym lines_long) h)
      ∙ ap (λ l. map (line_number p l) (columns_of p)) is)
      ∙ get_or-map (line_number p line) (columns_of p) (place p column) RightSide (pos 0) (place-lt column there)
      ∙ ap (line_number p line) (column_at column there)

  pub start_is : AreStart p (start_rows p)
  start_is = record {
    count = length-map (lines_of p) (λ l. map (line_number p l) (columns_of p)) ∙ lines_long;
    rule = λ i column h there. number_at i (RuleLine i) column (omega arith) (rule_at i h) there;
    sum = λ column there.
        ap (λ k. entry (row_at (start_rows p) k) (place p column)) (omega arith)
        ∙ number_at (p.rules + 0) SumLine column (omega arith) (last_at 0) there;
    cost = λ column there. number_at (p.rules + 1) CostLine column (omega arith) (last_at 1) there;
  }

  pub rows_long : length (start_rows p) ≡ p.rules + 2
  rows_long = length-map (lines_of p) (λ l. map (line_number p l) (columns_of p)) ∙ lines_long

  -- ---- the basis
  basic_at : (k : ℕ) (line : Line) → k < p.rules + 2 → slice_index_or (lines_of p) k CostLine ≡ line → basic (start_table p) k ≡ place p (basic_column p line)
  basic_at k line h is =
      get_or-map (λ l. place p (basic_column p l)) (lines_of p) k CostLine 0 (subst (λ m. k < m) (sym lines_long) h)
      ∙ ap (λ l. place p (basic_column p l)) is

  pub rule_basic : (i : ℕ) → i < p.rules → basic (start_table p) i ≡ place p (own_column p i)
  rule_basic i h = basic_at i (RuleLine i) (omega arith) (rule_at i h)

  pub sum_basic : basic (start_table p) p.rules ≡ place p SumValue
  sum_basic = ap (basic (start_table p)) (omega arith) ∙ basic_at (p.rules + 0) SumLine (omega arith) (last_at 0)

  pub cost_basic : basic (start_table p) (p.rules + 1) ≡ place p CostValue
  cost_basic = basic_at (p.rules + 1) CostLine (omega arith) (last_at 1)

  pub basis_long : length (start_table p).basis ≡ p.rules + 2
  basis_long = length-map (lines_of p) (λ l. place p (basic_column p l)) ∙ lines_long

  pub row_long : (k : ℕ) → k < p.rules + 2 → length (row_at (start_rows p) k) ≡ place p RightSide + 1
  row_long k h =
      ap length (get_or-map (λ l. map (line_number p l) (columns_of p)) (lines_of p) k CostLine [] (subst (λ m. k < m) (sym lines_long) h))
      ∙ length-map (columns_of p) (line_number p (slice_index_or (lines_of p) k CostLine)) ∙ (let long = columns_long in omega arith)

-- ---- the columns that may enter
abbrev pub IsFree : Program → Column → Type 0
IsFree p (Unknown c) = c < p.unknowns
IsFree p (Slack i) = (i < p.rules) × IsTrue (is_limit p i)
IsFree p _ = ⊥

pub free_column : (p : Program) (j : ℕ) → j < free_columns p → (column : Column) × IsFree p column × (place p column ≡ j)
free_column p j h = ⊎_elim
    (λ (less : j < p.unknowns). (Unknown j, less, refl))
    (λ (most : p.unknowns ≤ j).
    let found = counted_has (is_limit p) p.rules (j - p.unknowns) (omega arith) in
    (Slack found.0, (found.1, found.2), omega (arith, found.3)))
    (cases_lt j p.unknowns)
