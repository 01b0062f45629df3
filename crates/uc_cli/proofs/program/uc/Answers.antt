-- A demo touches no file, and where memory was refused at the words nothing was touched.
use Rattle.std.proofs.Common.{arith, ◌∙◌, ap, Some}
use Rattle.command_line.specs.Asked.{command_asked, demo_asked}
use Rattle.command_line.specs.Command.{Demos}
use Rattle.uc_cli.proofs.TurnedAway.{stopped_run}
use Rattle.uc_cli.proofs.program.uc.Goals as goal

pub returns-in-Err-clause-usage : goal.returns-in-Err-clause-usage
returns-in-Err-clause-usage g c = grind (arith, g, c)

pub returns-in-Err-clause-run : goal.returns-in-Err-clause-run
returns-in-Err-clause-run g c =
    stopped_run _ c.in-Err.fault (g.F.Files.state c.args.files.now) (g.O.Sink.state c.args.out.now) (g.E.Sink.state c.args.err.now)
    (g.E.Sink.state c.end_of.new.err) c.end_of.result c.in-Err.ensures.refused c.requires c.end_of.ensures

pub returns-in-Ok-Demo-clause-run : goal.returns-in-Ok-Demo-clause-run
returns-in-Ok-Demo-clause-run g c = λ taken. (
  Demos (demo_asked c.in-Ok-Demo.asked),
  c.in-Ok-Demo.ensures.command ∙ ap (λ x. Some (command_asked x)) c.in-Ok-Demo.field-0-is,
  c.demo.ensures (g.F.Files.state c.args.files.now),
)
