use Rattle.std.proofs.Common.{◌≡◌, List, ℕ, Result, sym, subst}
use Rattle.std.specs.Str.{IsValidUpTo}
use Rattle.decimal_json.specs.inside.Scan.{whole_outcome, Json, JsonFault, Gives}
use Rattle.decimal_json.proofs.Readings.{text_clause, only_clause, fault_clause, not_utf8, exact_clause, exact_utf8}
use Rattle.decimal_json.proofs.reader.read.Goals as goal

-- the answer on the bytes, by what is given on their text
given : {a b : List ℕ} (r : Result Json JsonFault) → a ≡ b → Gives r (whole_outcome a) → Gives r (whole_outcome b)
given r same g = subst (λ (bs : List ℕ). Gives r (whole_outcome bs)) same g

pub returns-in-Ok-clause-text : goal.returns-in-Ok-clause-text
returns-in-Ok-clause-text c = text_clause c.document.result c.args.bytes.now c.in-Ok.ensures.cases.1 (given c.document.result c.in-Ok.ensures.cases.0 c.document.ensures)

pub returns-in-Ok-clause-only : goal.returns-in-Ok-clause-only
returns-in-Ok-clause-only c = only_clause c.document.result c.args.bytes.now (given c.document.result c.in-Ok.ensures.cases.0 c.document.ensures)

pub returns-in-Ok-clause-fault : goal.returns-in-Ok-clause-fault
returns-in-Ok-clause-fault c = fault_clause c.document.result c.args.bytes.now c.in-Ok.ensures.cases.1 (given c.document.result c.in-Ok.ensures.cases.0 c.document.ensures)

pub returns-in-Err-clause-fault : goal.returns-in-Err-clause-fault
returns-in-Err-clause-fault c = not_utf8 c.args.bytes.now c.valid_up_to.result c.in-Err.ensures.cases.0
    (subst (λ (k : ℕ). IsValidUpTo c.args.bytes.now k) (sym c.valid_up_to.ensures) c.in-Err.ensures.cases.1)

pub returns-in-Ok-clause-exact : goal.returns-in-Ok-clause-exact
returns-in-Ok-clause-exact c = exact_clause c.document.result c.args.bytes.now c.in-Ok.ensures.cases.1 (given c.document.result c.in-Ok.ensures.cases.0 c.document.ensures)

pub returns-in-Err-clause-exact : goal.returns-in-Err-clause-exact
returns-in-Err-clause-exact c = exact_utf8 c.args.bytes.now c.valid_up_to.result c.in-Err.ensures.cases.0
    (subst (λ (k : ℕ). IsValidUpTo c.args.bytes.now k) (sym c.valid_up_to.ensures) c.in-Err.ensures.cases.1)
