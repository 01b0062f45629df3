use Rattle.decimal_json.specs.View.{view}
use Rattle.instance.proofs.LawfulInstance.{answer_found, answer_lawful, answer_only}
use Rattle.instance.proofs.from_value.from_json.Goals as goal

pub returns-clause-found : goal.returns-clause-found
returns-clause-found c = answer_found c.args.exact (view c.args.json) c.read.result c.read.ensures.first

pub returns-clause-lawful : goal.returns-clause-lawful
returns-clause-lawful c = answer_lawful c.args.exact (view c.args.json) c.read.result c.read.ensures.first

pub returns-clause-only : goal.returns-clause-only
returns-clause-only c = answer_only c.args.exact (view c.args.json) c.read.result c.read.ensures.first
