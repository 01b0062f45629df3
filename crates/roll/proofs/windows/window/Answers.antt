-- The window is one of a lawful instance, from lawful states.
use Rattle.std.proofs.Common.{rules, ◌-◌}
use Rattle.roll.specs.Prelude.{Instance, IsWindow}
use Rattle.roll.proofs.LawfulWindows.{window_lawful}
use Rattle.roll.proofs.windows.window.Goals as goal

pub returns-clause-lawful : goal.returns-clause-lawful
returns-clause-lawful c =
    let own : Instance = record {
      periods = c.args.len;
      demand = c.in_ok-demand.demand;
      reserves = c.in_ok-reserves.reserves;
      thermal = c.from_vec.result;
      renewable = c.from_vec-2.result;
      a = c.args.instance.now.a;
      b = c.args.instance.now.b;
    } in
    let is : IsWindow c.args.instance.now c.args.carried.now (c.args.a - 1) c.args.len own = search rules in
    window_lawful c.args.instance.now c.args.carried.now (c.args.a - 1) c.args.len own c.requires.lawful c.requires.states c.requires.some c.requires.last is
