use Rattle.std.proofs.Common.{rules, FitsSigned}
use Rattle.std.specs.Int.{w64}
use Rattle.std.proofs.lemmas.Int.{to_z-of_z}
use Rattle.report.proofs.stuck.put_why.Goals as goal

pub returns-in-Under : goal.returns-in-Under
returns-in-Under g c =
    let most : FitsSigned w64 c.in-Under.most = search rules in
    let demand : FitsSigned w64 c.in-Under.demand = search rules in
    rw c.in-Under.is (simp to_z-of_z at c.put_misfit-in-Under.ensures)

pub returns-in-Reserve : goal.returns-in-Reserve
returns-in-Reserve g c =
    let room : FitsSigned w64 c.in-Reserve.room = search rules in
    let need : FitsSigned w64 c.in-Reserve.need = search rules in
    rw c.in-Reserve.is (simp to_z-of_z at c.put_misfit-in-Reserve.ensures)
