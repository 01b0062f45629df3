-- A schedule with a period more.
use Rattle.std.proofs.Common.{◌≡◌, ◌≢◌, ℕ, zero, suc, ◌<◌, ◌≤◌, inl, inr, refl, sym, ap, subst, ◌∙◌, arith, List, [], length, ℤ, pos, ◌+ℤ◌, ◌-ℤ◌, get_or-set_same, get_or-set_other, length-set}
use Rattle.std.proofs.lemmas.Bool.{cases_lt}
use Rattle.std.proofs.lemmas.List.{get_or_past}
use Rattle.std.proofs.lemmas.List.Elements.{All-from_get_or}
use Rattle.uc_model.specs.Prelude.{cell_at, thermal_count, renewable_count, reserve_at, sum_below}
use Rattle.schedule_check.specs.SizedNumbers.{output_at}
use Rattle.dispatch_repair.specs.Prelude.{Instance, Printed, HasPeriods, thermal_amount, Shortage}
use Rattle.dispatch_repair.specs.Amounts.{amount_at}
use Rattle.dispatch_repair.specs.inside.Rows.{Cell, IsWritten, cell_of, cells_with, given, list_of, outputs_with, reserve_of, row_at, with_power, written}
use Rattle.dispatch_repair.proofs.Listed.{listed, listed_length}

module _ (instance : Instance) (numbers heads : List ℤ) (shortage : Shortage) (t : ℕ) (old : Printed)
    (shape : HasPeriods instance instance.periods old) (within : t < instance.periods) where
  abbrev G : ℕ
  G = thermal_count instance

  abbrev W : ℕ
  W = renewable_count instance

  abbrev output : ℕ → ℤ
  output g = thermal_amount instance numbers g

  abbrev need : ℤ
  need = reserve_at instance t -ℤ shortage.short

  abbrev sofar : ℕ → ℤ
  sofar = given output (amount_at heads) need

  abbrev spare : ℕ → ℤ
  spare g = reserve_of (output g) (amount_at heads g) (need -ℤ sofar g)

  abbrev row : ℕ → List Cell
  row = cells_with output (amount_at heads) need t old.thermal

  abbrev outputs : ℕ → List ℤ
  outputs = outputs_with (amount_at numbers) t old.renewable

  abbrev now : Printed
  now = written instance numbers heads shortage t old

  -- ---- its shape
  long : (g : ℕ) → g < G → length (row_at old.thermal g) ≡ instance.periods
  long g h = shape.cells g [] (subst (λ n. g < n) (sym shape.thermal) h)

  outputs_long : (w : ℕ) → w < W → length (row_at old.renewable w) ≡ instance.periods
  outputs_long w h = shape.outputs w [] (subst (λ n. w < n) (sym shape.renewable) h)

  pub written_shape : HasPeriods instance instance.periods now
  written_shape = record {
    thermal = listed_length G row;
    cells = All-from_get_or (λ cells. length cells ≡ instance.periods) (list_of G row) [] (λ g h.
        let inside : g < G = subst (λ n. g < n) (listed_length G row) h in
        ap length (listed G row g [] inside) ∙ length-set (row_at old.thermal g) t _ ∙ long g inside);
    renewable = listed_length W outputs;
    outputs = All-from_get_or (λ numbers. length numbers ≡ instance.periods) (list_of W outputs) [] (λ w h.
        let inside : w < W = subst (λ n. w < n) (listed_length W outputs) h in
        ap length (listed W outputs w [] inside) ∙ length-set (row_at old.renewable w) t _ ∙ outputs_long w inside);
    shed = length-set old.shed t shortage.shed ∙ shape.shed;
    short = length-set old.short t shortage.short ∙ shape.short;
    whole = refl;
  }

  -- ---- its cells
  cell_here : (g : ℕ) → g < G → cell_at now g t ≡ with_power (cell_at old g t) (output g) (spare g)
  cell_here g h =
      ap (λ (cells : List Cell). cell_of cells t) (listed G row g [] h)
      ∙ get_or-set_same (row_at old.thermal g) t (with_power (cell_of (row_at old.thermal g) t) (output g) (spare g)) _ (subst (λ n. t < n) (sym (long g h)) within)

  cell_other : (g k : ℕ) → k ≢ t → cell_at now g k ≡ cell_at old g k
  cell_other g k apart = elim (cases_lt g G) [
    | inl h ↦ ap (λ (cells : List Cell). cell_of cells k) (listed G row g [] h) ∙ get_or-set_other (row_at old.thermal g) t k _ _ apart
    | inr past ↦ ap (λ (cells : List Cell). cell_of cells k)
        (get_or_past (list_of G row) g [] (subst (λ n. n ≤ g) (sym (listed_length G row)) past)
        ∙ sym (get_or_past old.thermal g [] (subst (λ n. n ≤ g) (sym shape.thermal) past)))
  ]

  output_here : (w : ℕ) → w < W → output_at now w t ≡ amount_at numbers w
  output_here w h =
      ap (λ (xs : List ℤ). amount_at xs t) (listed W outputs w [] h)
      ∙ get_or-set_same (row_at old.renewable w) t (amount_at numbers w) (pos 0) (subst (λ n. t < n) (sym (outputs_long w h)) within)

  output_other : (w k : ℕ) → k ≢ t → output_at now w k ≡ output_at old w k
  output_other w k apart = elim (cases_lt w W) [
    | inl h ↦ ap (λ (xs : List ℤ). amount_at xs k) (listed W outputs w [] h) ∙ get_or-set_other (row_at old.renewable w) t k (amount_at numbers w) (pos 0) apart
    | inr past ↦ ap (λ (xs : List ℤ). amount_at xs k)
        (get_or_past (list_of W outputs) w [] (subst (λ n. n ≤ w) (sym (listed_length W outputs)) past)
        ∙ sym (get_or_past old.renewable w [] (subst (λ n. n ≤ w) (sym shape.renewable) past)))
  ]

  -- the reserve so far is the sum of the cells'
  given_is : (n : ℕ) → n ≤ G → sofar n ≡ sum_below n (λ g. (cell_at now g t).r)
  given_is zero h = refl
  given_is (suc n) h =
      let before = given_is n (omega arith) in
      let here : (cell_at now n t).r ≡ spare n = ap (λ (cell : Cell). cell.r) (cell_here n (omega arith)) in
      λ i. before i +ℤ sym here i

  pub written_is : IsWritten instance numbers heads shortage t old now
  written_is = record {
    others = record {
      cells = cell_other;
      outputs = output_other;
      shed = λ k apart. get_or-set_other old.shed t k shortage.shed (pos 0) apart;
      short = λ k apart. get_or-set_other old.short t k shortage.short (pos 0) apart;
    };
    outputs = output_here;
    cells = λ g h.
        let is = cell_here g h in
        record {
          on = ap (λ (cell : Cell). cell.on) is;
          category = ap (λ (cell : Cell). cell.category) is;
          p = ap (λ (cell : Cell). cell.p) is;
          r = ap (λ (cell : Cell). cell.r) is
              ∙ ap (λ z. reserve_of (output g) (amount_at heads g) (need -ℤ z)) (given_is g (omega arith));
        };
    shed = get_or-set_same old.shed t shortage.shed (pos 0) (subst (λ n. t < n) (sym shape.shed) within);
    short = get_or-set_same old.short t shortage.short (pos 0) (subst (λ n. t < n) (sym shape.short) within);
  }
