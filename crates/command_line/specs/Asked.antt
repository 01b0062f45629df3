-- What the program's own form of a command asks for, and when it finds none.
use Rattle.std.specs.Prelude.{◌≡◌, ℕ, ◌≤◌, ⊤, false, List}
use Rattle.clap.specs.declared.error.kind.ErrorKind.{ErrorKind}
use Rattle.clap.specs.declared.error.kind.ErrorKind.TheVariants as kind
use Rattle.report.specs.declared.fault.Fault.{Fault}
use Rattle.report.specs.declared.fault.Fault.TheVariants.{Words, Memory}
use Rattle.command_line.specs.Arguments.{is_taken}
use Rattle.command_line.specs.Command.{Solve, Check, Demo, Upgrade, Uplift, Roll, Command, Solves, Checks, Demos, Upgrades, Uplifts, Rolls}
use Rattle.command_line.specs.declared.command.Solve.{Solve as SolveWords}
use Rattle.command_line.specs.declared.command.Check.{Check as CheckWords}
use Rattle.command_line.specs.declared.command.Demo.{Demo as DemoWords}
use Rattle.command_line.specs.declared.command.Upgrade.{Upgrade as UpgradeWords}
use Rattle.command_line.specs.declared.command.Uplift.{Uplift as UpliftWords}
use Rattle.command_line.specs.declared.command.Roll.{Roll as RollWords}
pub use Rattle.command_line.specs.declared.command.Command.{Command as CommandWords}
use Rattle.command_line.specs.declared.command.Command.TheVariants as forms

abbrev pub solve_asked : SolveWords → Solve
solve_asked solve = record {
  instance = solve.instance.now;
  certificate = solve.certificate.now;
  units = solve.units;
  workers = solve.workers;
  gap = solve.gap;
  exact = solve.exact;
  exact_units = solve.exact_units;
  pivot = solve.pivot;
  shed = solve.shed;
  spill_reserve = solve.spill_reserve;
}

abbrev pub check_asked : CheckWords → Check
check_asked check = record {
  instance = check.instance.now;
  certificate = check.certificate.now;
  shed = check.shed;
  spill_reserve = check.spill_reserve;
}

abbrev pub demo_asked : DemoWords → Demo
demo_asked demo = record { seed = demo.seed }

abbrev pub upgrade_asked : UpgradeWords → Upgrade
upgrade_asked upgrade = record { certificate = upgrade.certificate.now; to = upgrade.to.now }

abbrev pub uplift_asked : UpliftWords → Uplift
uplift_asked uplift = record { check = check_asked uplift.check; table = uplift.table }

abbrev pub roll_asked : RollWords → Roll
roll_asked roll = record {
  instance = roll.instance.now;
  window = roll.window;
  step = roll.step;
  units = roll.units;
  workers = roll.workers;
  gap = roll.gap;
  exact = roll.exact;
  shed = roll.shed;
  spill_reserve = roll.spill_reserve;
}

abbrev pub command_asked : CommandWords → Command
command_asked (forms.Solve solve) = Solves (solve_asked solve)
command_asked (forms.Check check) = Checks (check_asked check)
command_asked (forms.Demo demo) = Demos (demo_asked demo)
command_asked (forms.Upgrade upgrade) = Upgrades (upgrade_asked upgrade)
command_asked (forms.Uplift uplift) = Uplifts (uplift_asked uplift)
command_asked (forms.Roll roll) = Rolls (roll_asked roll)

-- both prices are at most a million micro-dollars for a watt and an hour
abbrev pub HasPrices : ℕ → ℕ → Type 0
HasPrices shed spill_reserve = (shed ≤ 1000000) × (spill_reserve ≤ 1000000)

-- there are from 1 to 64 workers
abbrev pub HasWorkers : ℕ → Type 0
HasWorkers workers = (1 ≤ workers) × (workers ≤ 64)

-- there are from 1 to 168 periods in a window, and as many may be kept
abbrev pub HasHours : ℕ → Type 0
HasHours hours = (1 ≤ hours) × (hours ≤ 168)

-- windows and steps are in range, the budget is at most a million claims, workers are in range, the gap is at most the whole of a
-- cost, and prices are in range
abbrev pub HasNumbers : CommandWords → Type 0
HasNumbers (forms.Solve solve) =
    (solve.units ≤ 1000000) × HasWorkers solve.workers × (solve.gap ≤ 1000000) × HasPrices solve.shed solve.spill_reserve
HasNumbers (forms.Check check) = HasPrices check.shed check.spill_reserve
HasNumbers (forms.Demo demo) = ⊤
HasNumbers (forms.Upgrade upgrade) = ⊤
HasNumbers (forms.Uplift uplift) = HasPrices uplift.check.shed uplift.check.spill_reserve
HasNumbers (forms.Roll roll) =
    HasHours roll.window × HasHours roll.step × (roll.units ≤ 1000000) × HasWorkers roll.workers × (roll.gap ≤ 1000000)
    × HasPrices roll.shed roll.spill_reserve

-- the fault of an error of the parser
abbrev pub refusal_of : ErrorKind → Fault
refusal_of kind.OutOfMemory = Memory
refusal_of _ = Words

-- the words aren't taken, or memory was refused
abbrev pub IsRefusal : List (List ℕ) → Fault → Type 0
IsRefusal words Words = is_taken words ≡ false
IsRefusal words Memory = Unit {0}
IsRefusal words _ = ⊥
