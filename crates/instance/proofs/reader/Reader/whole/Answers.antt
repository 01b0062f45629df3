use Rattle.std.proofs.Common.{◌≡◌, ◌/◌, ◌%◌, Ok, refl, ap, ◌∙◌, arith}
use Rattle.decimal_json.specs.View.{view, decimal_of}
use Rattle.instance.specs.FirstFault.{whole_at}
use Rattle.instance.specs.Scaled.{size_of}
use Rattle.instance.proofs.Sizes.{held_rest, held_quotient}
use Rattle.instance.proofs.reader.Reader.whole.Goals as goal

pub returns-clause-read : goal.returns-clause-read
unfolding whole_at
returns-clause-read c =
    let d = decimal_of c.in_ok-number.number.now in
    let rest : size_of d % 1_000_000 ≡ 0 = omega (arith, held_rest (size_of d), c.scaled_size-size.ensures, c.if-size-ne0.false) in
    let read : whole_at c.args.self.now.exact c.args.placed.place (view c.args.placed.value.now) ≡ Ok d = grind (arith, c.in_ok-number.ensures.read, rest) in
    (d, read, refl, ap (λ n. n / 1_000_000) c.scaled_size-size.ensures ∙ held_quotient (size_of d))
