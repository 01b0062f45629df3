use Rattle.report.proofs.fault_text.put_fault.Goals as goal

pub returns-in-Json : goal.returns-in-Json
returns-in-Json g c = rw (c.in-Json.is, ← c.json_fault.ensures) c.put_at.ensures
