-- A period with an obstacle is barred; in another so much is left to give.
use Rattle.std.proofs.Common.{ap, pos, refl, slice_index_or}
use Rattle.decommitment.specs.inside.Fills.{hour_period}
use Rattle.decommitment.proofs.fill.settle.Goals as goal

pub returns-in-Err-clause-filling : goal.returns-in-Err-clause-filling
returns-in-Err-clause-filling c = (
  c.in-Err.ensures (hour_period c.args.system.now c.args.hour.now) refl c.requires.hour.before.period c.requires.ready.ranges c.requires.ready.totals
      (ap (λ xs. slice_index_or xs c.args.hour.now.t (pos 0)) c.as_slice.ensures) (ap (λ xs. slice_index_or xs c.args.hour.now.t (pos 0)) c.as_slice-2.ensures),
  record { was = c.requires.hour.before; count = c.requires.ready.standing.given.count; ready = c.requires.ready },
)

pub meet-requires-clause-begun : goal.meet-requires-clause-begun
meet-requires-clause-begun c =
    c.in-Ok.ensures (hour_period c.args.system.now c.args.hour.now) refl c.requires.hour.before.period c.requires.ready.ranges c.requires.ready.totals
    (ap (λ xs. slice_index_or xs c.args.hour.now.t (pos 0)) c.as_slice.ensures) (ap (λ xs. slice_index_or xs c.args.hour.now.t (pos 0)) c.as_slice-2.ensures)
