-- One unit more.
use Rattle.std.proofs.Common.{◌≡◌, ◌+◌, List, [], ◌∷◌, ◌++◌, sym, ap, subst, ◌∙◌, arith}
use Rattle.demo_gen.specs.Demo.{Thermal, numbers_from, state_after, unit_numbers, unit_of}
use Rattle.demo_gen.specs.inside.Bounds.{IsSmall}
use Rattle.demo_gen.proofs.FirstUnits.{minimum-more, minimum-none, minimum-size, numbers_small, range-more, range-none, range-size, state-more, units-more, units-none}
use Rattle.demo_gen.proofs.units.units_of.Goals as goal

pub loop-g-init : goal.loop-g-init
loop-g-init c = record {
  state = c.of-generator.ensures;
  units = c.new-units.ensures.items ∙ units-none c.args.seed;
  minimum = minimum-none c.args.seed;
  range = range-none c.args.seed;
}

pub overflow_add-minimum : goal.overflow_add-minimum
overflow_add-minimum c =
    let small : IsSmall c.next_numbers-numbers.result = subst IsSmall (sym c.next_numbers-numbers.ensures.numbers) (numbers_small c.loop-g.generator.state) in
    omega (arith, c.loop-g.invariant.minimum, minimum-size c.args.seed c.loop-g.g, c.loop-g-test.true, small.minimum)

pub overflow_add-range : goal.overflow_add-range
overflow_add-range c =
    let small : IsSmall c.next_numbers-numbers.result = subst IsSmall (sym c.next_numbers-numbers.ensures.numbers) (numbers_small c.loop-g.generator.state) in
    omega (arith, c.loop-g.invariant.range, range-size c.args.seed c.loop-g.g, c.loop-g-test.true, small.range)

pub loop-g-preserved : goal.loop-g-preserved
loop-g-preserved c =
    let seed = c.args.seed in
    let g = c.loop-g.g in
    let numbers : c.next_numbers-numbers.result ≡ unit_numbers seed g = c.next_numbers-numbers.ensures.numbers ∙ ap numbers_from c.loop-g.invariant.state in
    let unit : c.in_ok-thermal.field-0 ≡ unit_of g (unit_numbers seed g) = c.in_ok-thermal.ensures ∙ ap (unit_of g) numbers in
    let minimum = c.loop-g.invariant.minimum in
    let range = c.loop-g.invariant.range in
    record {
      state = c.next_numbers-numbers.ensures.state ∙ ap (λ x. state_after x 7) c.loop-g.invariant.state ∙ sym (state-more seed g);
      units = ◌∙◌ {A = List Thermal} c.in_ok-push.ensures.items ((λ i. c.loop-g.invariant.units i ++ unit i ∷ []) ∙ sym (units-more seed g));
      minimum = (λ i. minimum i + (numbers i).minimum) ∙ sym (minimum-more seed g);
      range = (λ i. range i + (numbers i).range) ∙ sym (range-more seed g);
    }
