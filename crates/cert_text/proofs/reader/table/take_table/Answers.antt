-- Numbers that were read are those of a table that has a text.
use Rattle.std.proofs.Common.{arith}
use Rattle.std.proofs.lemmas.Result.{err_from_is_err_and}
use Rattle.cert_text.proofs.PartSteps.{ok_of}
use Rattle.cert_text.proofs.PartLaws.{table_form}
use Rattle.cert_text.proofs.ChangeSteps.{whole_drafted, whole_stops_as}
use Rattle.cert_text.proofs.reader.table.take_table.Goals as goal

pub returns-in_err-rest-clause-read : goal.returns-in_err-rest-clause-read
returns-in_err-rest-clause-read c = grind (arith, err_from_is_err_and, whole_stops_as, c)

pub table-requires : goal.table-requires
table-requires c = grind (arith, whole_drafted, table_form, c)

pub returns-clause-read : goal.returns-clause-read
returns-clause-read c = grind (arith, whole_drafted, ok_of, c)

pub returns-clause-drafted : goal.returns-clause-drafted
returns-clause-drafted c = grind (arith, whole_drafted, table_form, c)
