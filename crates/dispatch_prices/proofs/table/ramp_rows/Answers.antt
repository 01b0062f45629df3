-- The row of a period more, and those of a unit more.
use Rattle.std.proofs.Common.{◌≡◌, ℕ, ◌+◌, sym, ap, ◌∙◌, arith, List, ◌++◌, append-nil, append_assoc, add-one, ℤ}
use Rattle.dual_model.specs.declared.table.RampRow.{RampRow}
use Rattle.dispatch_prices.specs.PricedLimits.{up_price, down_price}
use Rattle.dispatch_prices.specs.ReadOff.{all_rows, kept, ramp_row, rows_in}
use Rattle.dispatch_prices.proofs.table.ramp_rows.Goals as goal

row-more : (up down : ℕ → ℕ → ℤ) (before items new : List RampRow) (t g : ℕ) (row : RampRow) → items ≡ before ++ rows_in up down t g → row ≡ ramp_row up down g t
    → new ≡ items ++ kept row → new ≡ before ++ rows_in up down (t + 1) g
row-more up down before items new t g row so_far is made =
    made
    ∙ (λ i. so_far i ++ kept (is i))
    ∙ append_assoc before (rows_in up down t g) (kept (ramp_row up down g t))
    ∙ ap (λ m. before ++ rows_in up down m g) (sym (add-one t))

rows-more : (up down : ℕ → ℕ → ℤ) (items : List RampRow) (g t periods : ℕ) → items ≡ all_rows up down g periods ++ rows_in up down t g → t ≡ periods
    → items ≡ all_rows up down (g + 1) periods
rows-more up down items g t periods so_far whole =
    so_far ∙ ap (λ m. all_rows up down g periods ++ rows_in up down m g) whole ∙ ap (λ m. all_rows up down m periods) (sym (add-one g))

pub loop-t-init : goal.loop-t-init
loop-t-init c =
    c.loop-g.invariant ∙ sym (append-nil (all_rows (up_price c.args.priced.now) (down_price c.args.priced.now) c.loop-g.g c.args.periods))

pub loop-t-preserved : goal.loop-t-preserved
loop-t-preserved c =
    let up = up_price c.args.priced.now in
    let down = down_price c.args.priced.now in
    row-more up down (all_rows up down c.loop-g.g c.args.periods) c.loop-t.rows.items c.keep.new.rows.items c.loop-t.t c.loop-g.g c.ramp_row.result
    c.loop-t.invariant c.ramp_row.ensures c.in_ok-keep.ensures

pub loop-g-init : goal.loop-g-init
loop-g-init c = c.new-rows.ensures.items

pub loop-g-preserved : goal.loop-g-preserved
loop-g-preserved c =
    rows-more (up_price c.args.priced.now) (down_price c.args.priced.now) c.loop-t.rows.items c.loop-g.g c.loop-t.t c.args.periods c.loop-t.invariant
    (omega (arith, c.loop-t-test.false, c.loop-t.auto.t-end))

pub returns : goal.returns
returns c =
    let whole : c.loop-g.g ≡ c.args.units = omega (arith, c.loop-g-test.false, c.loop-g.auto.g-end) in
    c.loop-g.invariant ∙ ap (λ n. all_rows (up_price c.args.priced.now) (down_price c.args.priced.now) n c.args.periods) whole
