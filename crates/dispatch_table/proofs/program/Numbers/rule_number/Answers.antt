-- A product of a sign, and the amount and the limit that were read.
use Rattle.std.proofs.Common.{◌≡◌, ◌^◌, ◌≤◌, arith, ap, sym, subst, ◌∙◌, map, ℤ, ◌*ℤ◌, to_z, of_z, unsigned_abs, lit<}
use Rattle.std.proofs.lemmas.List.{get_or-map, get_or_default}
use Rattle.std.specs.Int.{w128}
use Rattle.uc_model.specs.Prelude.{Demand}
use Rattle.uc_model.proofs.Sizes.{wide}
use Rattle.dispatch_program.specs.Prelude.{HasColumn, rule_number}
use Rattle.dispatch_rules.specs.declared.amount.Amount.TheVariants.{Shed}
use Rattle.dispatch_rules.specs.Prelude.{limit_of, limit, parts, times_in}
use Rattle.dispatch_table.specs.declared.column.Column.{Column}
use Rattle.dispatch_table.specs.Numbers.{amount_from, column_of, limit_from, program_of}
use Rattle.dispatch_table.proofs.program.Numbers.rule_number.Goals as goal

signed_is : (signed sign number : ℤ) → signed ≡ to_z w128 (of_z w128 sign) *ℤ to_z w128 (of_z w128 number) → unsigned_abs sign ≡ 1 → unsigned_abs number ≤ 2 ^ 63
    → unsigned_abs signed ≤ 2 ^ 63 → to_z w128 (of_z w128 signed) ≡ sign *ℤ number
signed_is signed sign number made one small size =
    wide signed (2 ^ 63) size (lit< tt)
    ∙ made
    ∙ (λ j. wide sign 1 (omega (arith, one)) (lit< tt) j *ℤ wide number (2 ^ 63) small (lit< tt) j)

pub returns-in-Unknown-clause-value : goal.returns-in-Unknown-clause-value
returns-in-Unknown-clause-value c =
    let numbers = c.args.self.now in
    let p = program_of c.args.self.now in
    let i = c.args.i in
    let k = c.in-Unknown.c in
    let there = subst (λ (x : Column). HasColumn (program_of c.args.self.now) (column_of x)) c.in-Unknown.is c.requires.column in
    let limit_is : limit_of c.index.result.now ≡ limit_from (map limit_of numbers.limits.items) i =
    ap limit_of c.index.ensures ∙ sym (get_or-map limit_of numbers.limits.items i c.index.result.now (limit Demand 0 0 0) c.requires.rule) in
    let amount_is : c.index-in-Unknown.result.now ≡ amount_from numbers.amounts.items k =
    c.index-in-Unknown.ensures ∙ get_or_default numbers.amounts.items k c.index-in-Unknown.result.now (Shed 0) there in
    let small : unsigned_abs c.times.result ≤ 2 ^ 63 = omega (arith, c.times.ensures.size) in
    signed_is c.signed.result c.sign.result c.times.result c.signed.ensures.value c.sign.ensures.size small c.signed.ensures.size
    ∙ (λ j. c.sign.ensures.value j *ℤ (c.times.ensures.value ∙ (λ m. times_in (limit_is m) (parts (amount_is m)))) j)
    ∙ ap (λ (x : Column). rule_number p i (column_of x)) (sym c.in-Unknown.is)

pub returns-in-RightSide-clause-value : goal.returns-in-RightSide-clause-value
returns-in-RightSide-clause-value c =
    let p = program_of c.args.self.now in
    let i = c.args.i in
    let sign = c.sign-in-RightSide in
    let signed = c.signed-in-RightSide in
    signed_is signed.result sign.result c.right.result signed.ensures.value sign.ensures.size c.right.ensures.size signed.ensures.size
    ∙ (λ j. sign.ensures.value j *ℤ c.right.ensures.value j)
    ∙ ap (λ (x : Column). rule_number p i (column_of x)) (sym c.in-RightSide.is)
