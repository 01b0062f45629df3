-- Column by column.
use Rattle.std.proofs.Common.{◌+◌, arith, refl}
use Rattle.std.specs.Int.{w128}
use Rattle.std.proofs.lemmas.Int.{to_z-of_z, fits_signed_from_abs}
use Rattle.pivot_run.proofs.CombinedEntries.{combined_all, combined_next, next_below}
use Rattle.pivot_run.proofs.combining.combine.Goals as goal

pub columns-init : goal.columns-init
columns-init c = grind (arith, c)

pub returns-in_err-number-clause-wide : goal.returns-in_err-number-clause-wide
returns-in_err-number-clause-wide c = grind (arith, c)

pub returns-in_err-add-clause-wide : goal.returns-in_err-add-clause-wide
returns-in_err-add-clause-wide c = grind (arith, c)

pub past-a-requires-clause-split : goal.past-a-requires-clause-split
past-a-requires-clause-split c = grind (arith, c)

pub past-b-requires-clause-split : goal.past-b-requires-clause-split
past-b-requires-clause-split c = grind (arith, c)

pub columns-smaller : goal.columns-smaller
columns-smaller c = grind (arith, c)

pub columns-preserved : goal.columns-preserved
columns-preserved c =
    let i = c.columns.invariant in
    let next = c.in-Some.ensures.next in
    let z = c.in_ok-number.number in
    let same = to_z-of_z w128 z (fits_signed_from_abs w128 z c.in_ok-number.ensures.size) in
    let made = combined_next c.args.row.now.columns.items c.args.row.now.numbers.items c.columns.a c.args.other.now.columns.items c.args.other.now.numbers.items c.columns.b
    c.args.pivot.now c.args.factor.now c.columns.made.columns.items c.columns.made.numbers.items i.0 c.in-Some.c c.number.result.now c.number-in-Some.result.now z
    c.requires.row c.requires.other i.1 i.2 next i.3 c.number.ensures c.number-in-Some.ensures c.in_ok-number.ensures.value c.in_ok-number.ensures.size
    c.in_ok-number.ensures.first c.in_ok-number.ensures.second in (
      c.in-Some.c + 1,
      c.past-a.ensures.split,
      c.past-b.ensures.split,
      rw (c.in_ok-add.ensures.columns, c.in_ok-add.ensures.numbers, same) made,
      λ n one other. let below = next_below _ c.columns.a _ c.columns.b c.in-Some.c n next one other in omega (arith, below),
    )

pub returns-clause-made : goal.returns-clause-made
returns-clause-made c n one other =
    let i = c.columns.invariant in
    let none = c.in_default.ensures.none refl in
    combined_all _ _ c.columns.a _ _ c.columns.b _ _ _ _ i.0 n c.requires.row c.requires.other i.1 i.2 none.0 none.1 i.3 (i.4 n one other)
