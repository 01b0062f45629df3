-- Each command adds its shape.
use Rattle.command_line.proofs.arguments.program.Goals as goal

pub returns : goal.returns
returns c =
    let first = c.with_command-program.ensures _ _ c.solve_command.ensures.shape c.bare_program.ensures.app in
    let second = c.with_command-program-2.ensures _ _ c.check_command.ensures.shape first in
    let third = c.with_command-program-3.ensures _ _ c.demo_command.ensures.shape second in
    let fourth = c.with_command-program-4.ensures _ _ c.upgrade_command.ensures.shape third in
    let fifth = c.with_command-program-5.ensures _ _ c.uplift_command.ensures.shape fourth in
    c.with_command.ensures _ _ c.roll_command.ensures.shape fifth
