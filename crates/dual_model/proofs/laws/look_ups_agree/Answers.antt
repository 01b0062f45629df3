-- The clause is the lemma.
use Rattle.dual_model.proofs.UnitRows.{look_up}
use Rattle.dual_model.proofs.laws.look_ups_agree.Goals as goal

pub returns : goal.returns
returns c = λ table g t form. look_up table.ramps form.rising g t
