use Rattle.report.proofs.found.put_evaluations.Goals as goal

pub returns : goal.returns
returns g c = rw (← c.as_slice-count.ensures) c.put_whole_line.ensures
