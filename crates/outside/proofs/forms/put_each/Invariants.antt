use Rattle.std.proofs.Common.{take}
use Rattle.std.specs.List.{flat_map}
use Rattle.outside.proofs.forms.put_each.Given as goal

abbrev pub invariant-loop-value : goal.invariant-loop-value
invariant-loop-value g l = g.O.Out.emits (flat_map (g.F.Form.text l.form) (take l.value-index l.values)) l.initial.out l.out
