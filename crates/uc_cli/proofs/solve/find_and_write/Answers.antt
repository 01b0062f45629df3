-- Each end from the steps before it.
use Rattle.std.proofs.Common.{arith, refl}
use Rattle.command_line.specs.Asked.{solve_asked}
use Rattle.uc_cli.proofs.Endings.{unwritten, done}
use Rattle.uc_cli.proofs.solve.find_and_write.Goals as goal

pub returns-in_err-answer-clause-failed : goal.returns-in_err-answer-clause-failed
returns-in_err-answer-clause-failed g c = grind (arith, g, c)

pub returns-clause-failed : goal.returns-clause-failed
returns-clause-failed g c = λ err_old err_new.
    let files = g.F.Files.state in
    let sink = g.O.Sink.state in
    let answer = c.in_ok-answer.answer in
    unwritten (solve_asked c.args.asked.now) (files c.args.files.now) (files c.find.new.files) (files c.write_both.new.files) (sink c.args.out.now)
    (sink c.write_both.new.out) err_old err_new answer.instance answer.rounded answer.found c.in-Err.fault c.in_ok-answer.ensures.answer
    c.in_ok-answer.ensures.others c.in-Err.ensures.unwritten

pub returns-in-Ok-clause-done : goal.returns-in-Ok-clause-done
returns-in-Ok-clause-done g c = λ err_old err_new.
    let files = g.F.Files.state in
    let sink = g.O.Sink.state in
    let answer = c.in_ok-answer.answer in
    record {
      found = answer.found;
      is_found = refl;
      unrolled = refl;
      code = c.status.ensures;
      done = done (solve_asked c.args.asked.now) (files c.args.files.now) (files c.find.new.files) (files c.write_both.new.files) (sink c.args.out.now)
          (sink c.write_both.new.out) err_old err_new answer.instance answer.rounded answer.found c.in_ok-answer.ensures.answer
          c.in_ok-answer.ensures.others c.write_both.ensures.others c.in_ok-answer.ensures.calm c.in-Ok.ensures.written;
    }
