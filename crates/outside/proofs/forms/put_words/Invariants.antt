use Rattle.std.proofs.Common.{take}
use Rattle.outside.specs.Lines.{words_of}
use Rattle.outside.proofs.forms.put_words.Given as goal

abbrev pub invariant-loop-value : goal.invariant-loop-value
invariant-loop-value g l = g.O.Out.emits (words_of (g.F.Form.text l.form) (take l.value-index l.values)) l.initial.out l.out
