-- The run ended with an answer, or with a fault that it told.
use Rattle.std.proofs.Common.{inl, inr, refl, subst, sym}
use Rattle.command_line.specs.Asked.{roll_asked}
use Rattle.command_runs.specs.Prelude.{outside_of}
use Rattle.uc_cli.specs.RollRun.{IsRollFailure}
use Rattle.uc_cli.proofs.rolling.roll_windows.Goals as goal

pub returns-in-Ok : goal.returns-in-Ok
returns-in-Ok g c =
    let err = g.E.Sink.state c.args.err.now in
    record {
      files = c.in-Ok.ensures.files err err;
      ended = inl (record {
        done = record {
          rolled = c.in-Ok.rolled;
          is_rolled = refl;
          code = c.status.ensures;
          nothing = refl;
          done = c.in-Ok.ensures.done err err;
        };
        silent = refl {a = err};
      });
    }

pub returns-in-Err : goal.returns-in-Err
returns-in-Err g c =
    let old = g.E.Sink.state c.args.err.now in
    let new = g.E.Sink.state c.faulty.new.err in
    let before = outside_of (g.F.Files.state c.args.files.now) (g.O.Sink.state c.args.out.now) old in
    let after = outside_of (g.F.Files.state c.find_and_tell.new.files) (g.O.Sink.state c.find_and_tell.new.out) new in
    let fault = c.in-Err.failure.fault in
    record {
      files = c.in-Err.ensures.files old new;
      ended = inr (record {
        fault = fault;
        code = c.faulty.ensures.code;
        failure = subst (IsRollFailure (roll_asked c.args.asked.now) before after fault) (sym c.faulty.ensures.is_rolled)
            (c.in-Err.ensures.failed old new);
        nothing = c.faulty.ensures.nothing;
        told = c.faulty.ensures.told;
      });
    }
