use Rattle.std.proofs.Common.{take}
use Rattle.std.specs.List.{flat_map, zip}
use Rattle.outside.proofs.forms.put_pairs.Given as goal

abbrev pub invariant-loop-index : goal.invariant-loop-index
invariant-loop-index g l = g.O.Out.emits (flat_map (g.F.PairForm.text l.form) (take l.index (zip l.firsts l.seconds))) l.initial.out l.out
