-- Where memory is refused at words that are taken, the run is one of their command that was stopped by that.
use Rattle.std.proofs.Common.{arith, ◌≡◌, ◌∙◌, true, refl, sym, true≢false, List, ℕ, Option, Some, None, Err, is_some}
use Rattle.outside.specs.Prelude.{SlotState, AllUnopened, SinkState}
use Rattle.command_line.specs.Arguments.{is_taken}
use Rattle.command_runs.specs.Prelude.{outside_of, IsEndOf}
use Rattle.command_line.specs.Command.{Command, Solves, Checks, Demos, Upgrades, Uplifts, Rolls, command_of}
use Rattle.uc_cli.specs.Run.{Fault, Memory, Slot, Words, IsRun, IsUsage}
use Rattle.command_runs.specs.declared.ending.End.{End}
use Rattle.command_line.specs.Asked.{IsRefusal}
use Rattle.command_line.proofs.Commands.{names_a_command}

-- the run came to this fault and found nothing
abbrev pub EndsAt : Fault → SinkState → SinkState → End → Type 0
EndsAt fault before after end = IsEndOf (Err (record { fault = fault; found = None })) before after end

stopped : (command : Command) (files : Slot → SlotState) (out err_old err_new : SinkState) (end : End) → AllUnopened files
    → EndsAt Memory err_old err_new end → IsRun command (outside_of files out err_old) (outside_of files out err_new) end
stopped (Solves asked) files out err_old err_new end unopened is = grind (arith, asked, unopened, is)
stopped (Checks asked) files out err_old err_new end unopened is = grind (arith, asked, unopened, is)
stopped (Demos asked) files out err_old err_new end unopened is = grind (arith, asked, unopened, is)
stopped (Upgrades asked) files out err_old err_new end unopened is = grind (arith, asked, unopened, is)
stopped (Uplifts asked) files out err_old err_new end unopened is = grind (arith, asked, unopened, is)
stopped (Rolls asked) files out err_old err_new end unopened is = grind (arith, asked, unopened, is)

some_of : {X : Type 0} (o : Option X) → is_some o ≡ true → (x : X) × (o ≡ Some x)
some_of None e = absurd (true≢false (sym e))
some_of (Some x) e = (x, refl)

pub stopped_run : (words : List (List ℕ)) (fault : Fault) (files : Slot → SlotState) (out err_old err_new : SinkState) (end : End)
    → IsRefusal words fault → AllUnopened files → EndsAt fault err_old err_new end → is_taken words ≡ true
    → (command : Command) × (command_of words ≡ Some command) × IsRun command (outside_of files out err_old) (outside_of files out err_new) end
stopped_run words Words files out err_old err_new end refused unopened is taken = absurd (true≢false (sym taken ∙ refused))
stopped_run words Memory files out err_old err_new end refused unopened is taken =
    let one = some_of (command_of words) (names_a_command words taken) in
    (one.0, one.1, stopped one.0 files out err_old err_new end unopened is)
stopped_run words _ files out err_old err_new end refused unopened is taken = absurd refused

pub usage : (words : List (List ℕ)) (fault : Fault) (files : Slot → SlotState) (out err_old err_new : SinkState) (end : End)
    → IsRefusal words fault → EndsAt fault err_old err_new end → IsUsage (outside_of files out err_old) (outside_of files out err_new) end
usage words fault files out err_old err_new end refused is = grind (arith, refused, is)
