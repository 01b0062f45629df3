-- One period more, and the initial output at the end.
use Rattle.std.proofs.Common.{◌≡◌, ℕ, ◌+◌, ◌*◌, ◌^◌, ◌≤◌, length, add-one, sym, ap, subst, ◌∙◌, lit<, arith, ◌+ℤ◌, ◌-ℤ◌, ◌*ℤ◌, to_z, of_z, neg_ℤ, unsigned_abs}
use Rattle.std.specs.Int.{w128}
use Rattle.uc_model.specs.Prelude.{initial_p, sum_below}
use Rattle.uc_model.proofs.Common.{abs_add, wide-size}
use Rattle.uc_model.proofs.Sizes.{wide}
use Rattle.dual_model.specs.Prelude.{unit_constant, up_at, down_at}
use Rattle.ramp_duals.specs.Sizes.{MAX_CONSTANT}
use Rattle.ramp_duals.proofs.ConstantSizes.{constant_size}
use Rattle.ramp_duals.proofs.RowOrder.{in_table}
use Rattle.ramp_duals.proofs.unit_constant.constant.Goals as goal

pub sum-total-requires : goal.sum-total-requires
sum-total-requires c = grind (arith, c)

pub sum-requires : goal.sum-requires
sum-requires c = grind (arith, wide-size, c)

pub loop-t-preserved : goal.loop-t-preserved
loop-t-preserved c = grind (arith, in_table, wide, abs_add, add-one, c)

pub returns : goal.returns
returns c =
    let so_far = c.loop-t.invariant in
    let table = c.args.table.now in
    let unit = c.args.unit.now in
    let g = c.args.g in
    let part = λ (t : ℕ). neg_ℤ (up_at table g t *ℤ unit.ru) -ℤ down_at table g t *ℤ unit.rd in
    let first = in_table table c.unit_rows-ramps.result.now g 0 c.multipliers_of-first.result c.unit_rows-ramps.ensures.look_up c.multipliers_of-first.ensures in
    let added : c.sum.result ≡ to_z w128 c.loop-t.total-bits +ℤ c.initial_part.result =
    c.sum.ensures ∙ (λ i. to_z w128 c.loop-t.total-bits +ℤ wide c.initial_part.result (2 ^ 110) c.initial_part.ensures.size (lit< tt) i) in
    let initial : c.initial_part.result ≡ (down_at table g 0 -ℤ up_at table g 0) *ℤ initial_p unit =
    c.initial_part.ensures.value ∙ (λ i. (first.down i -ℤ first.up i) *ℤ initial_p unit) in
    let lengths = ap (λ pi. length pi) c.pi-t-end.ensures in
    let last : c.loop-t.t ≡ length table.pi = omega (arith, c.loop-t.auto.t-end, c.loop-t-test.false) in
    let periods : c.loop-t.t ≤ 168 = omega (arith, c.requires.periods) in
    let size : unsigned_abs c.sum.result ≤ 168 * 2 ^ 108 + 2 ^ 110 =
    subst (λ x. unsigned_abs x ≤ 168 * 2 ^ 108 + 2 ^ 110) (sym added)
    (omega (arith, periods, abs_add (to_z w128 c.loop-t.total-bits) c.initial_part.result (c.loop-t.t * 2 ^ 108) (2 ^ 110) so_far.2 c.initial_part.ensures.size)) in
    let value : to_z w128 (of_z w128 c.sum.result) ≡ unit_constant (length table.pi) table unit g =
    wide c.sum.result (168 * 2 ^ 108 + 2 ^ 110) size (lit< tt)
    ∙ added
    ∙ (λ i. (so_far.1 ∙ ap (λ n. sum_below n part) last) i +ℤ initial i) in
    record {
      value = value;
      size = λ limits. subst (λ x. unsigned_abs x ≤ MAX_CONSTANT) (sym value) (constant_size (length table.pi) table unit g c.requires.periods limits c.requires.lawful);
    }
