-- Runs of commitments: the first periods, each filled from the one before, and what the thermal units cost. This project's own.
--
-- Units and periods count from 0 here.
use Rattle.std.specs.Prelude.{◌≡◌, ◌⊎◌, ℕ, Bool, true, false, None, Some, IfSome, zero, suc, ◌*◌, ◌^◌, ◌<◌, ◌≤◌, List, [], ℤ, pos, IsTrue, length, map, slice_index_or, slice_set, unsigned_abs}
use Rattle.uc_model.specs.Prelude.{initial_p, IsLawfulInstance, cell_at, printed_cell_cost, shed_at, short_at, thermal_count, thermal_unit, sum_below}
pub use Rattle.uc_model.specs.declared.schedule.Cell.{Cell}
use Rattle.schedule_check.specs.WholeWatts.{cell}
use Rattle.dispatch_repair.specs.Prelude.{next_period, thermal_amount, IsCommittedCell, IsRoomOf, source_count, IsDispatchOf, IsFirstObstacle}
use Rattle.dispatch_repair.specs.declared.segment.Segment.{Segment}
use Rattle.dispatch_repair.specs.Stuck.{Why}
pub use Rattle.dispatch_repair.specs.declared.shortage.Shortage.{Shortage}
use Rattle.decommitment.specs.DropCommitment.{Instance, Pattern, Printed, IsDropPass, IsEndingOf, IsFewestOnOf}
use Rattle.decommitment.specs.inside.Fills.{HasEntered, IsFill}
use Rattle.decommitment.specs.inside.Levels.{IsMeritOf}
use Rattle.decommitment.specs.inside.Turns.{AreAllowed, KeepsStuck, ending_of_stand, ending_of_trial}
pub use Rattle.decommitment.specs.declared.fill.Fill.{Fill}
pub use Rattle.decommitment.specs.declared.fill.Filling.{Filling}
pub use Rattle.decommitment.specs.declared.pass.Pass.{Pass}
pub use Rattle.decommitment.specs.declared.price.Changed.{Changed}
pub use Rattle.decommitment.specs.declared.run.Reach.{Reach}
use Rattle.decommitment.specs.declared.run.Reach.TheVariants as reach
pub use Rattle.decommitment.specs.declared.run.Run.{Run}
pub use Rattle.decommitment.specs.declared.run.Setting.{Setting}
pub use Rattle.decommitment.specs.declared.stand.Stand.{Stand}
pub use Rattle.decommitment.specs.declared.stand.Trial.{Trial}
pub use Rattle.decommitment.specs.declared.stand.Turn.{Turn}

-- ---- periods
-- what the sources give in period t, and in the one before it; and what is missing in it
abbrev pub outputs_at : List Fill → ℕ → List ℤ
outputs_at fills t = slice_index_or (map (λ (fill : Fill). fill.amounts.items) fills) t []

abbrev pub outputs_before : List ℤ → List Fill → ℕ → List ℤ
outputs_before start fills zero = start
outputs_before start fills (suc t) = outputs_at fills t

abbrev pub lack_at : List Fill → ℕ → Shortage
lack_at fills t = slice_index_or (map (λ (fill : Fill). fill.shortage) fills) t (record { shed = pos 0; short = pos 0 })

-- what the thermal units give initially
pub record AreInitial (instance : Instance) (start : List ℤ) : Type 0 where
  pub count : length start ≡ source_count instance
  pub are : (g : ℕ) → g < thermal_count instance → thermal_amount instance start g ≡ initial_p (thermal_unit instance g)

-- the instance of what runs share, and its order of merit
abbrev pub instance_of : Setting → Instance
instance_of setting = setting.system.now.instance.now

abbrev pub order_of : Setting → List Segment
order_of setting = setting.system.now.merit.now.order.items

-- that is a lawful instance's
pub record IsSetting (setting : Setting) : Type 0 where
  pub lawful : IsLawfulInstance (instance_of setting)
  pub merit : IsMeritOf (instance_of setting) setting.system.now.merit.now
  pub start : AreInitial (instance_of setting) setting.start.now

-- the first periods of the commitment are filled so, in this order of merit
pub record AreFills (instance : Instance) (order : List Segment) (patterns : List Pattern) (start : List ℤ) (fills : List Fill) : Type 0 where
  pub few : length fills ≤ instance.periods
  pub each : (t : ℕ) (fill : Fill) → t < length fills → fill ≡ slice_index_or fills t fill
      → IsFill instance order patterns t (outputs_before start fills t) fill

-- there is an amount for each source in each of them
abbrev pub AreSized : Instance → List Fill → Type 0
AreSized instance fills =
    (t : ℕ) (fill : Fill) → t < length fills → fill ≡ slice_index_or fills t fill → length fill.amounts.items ≡ source_count instance

-- the period after the last of them can't be filled
pub record IsBarred (instance : Instance) (patterns : List Pattern) (start : List ℤ) (fills : List Fill) (t : ℕ) : Type 0 where
  pub last : t ≡ length fills
  pub within : t < instance.periods
  pub why : Why
  pub first : IsFirstObstacle (next_period instance patterns t (outputs_before start fills t)) why

-- how far a run came
abbrev pub IsReach : Instance → List Pattern → List ℤ → List Fill → Reach → Type 0
IsReach instance patterns start fills reach.Through = length fills ≡ instance.periods
IsReach instance patterns start fills (reach.Stuck t) = IsBarred instance patterns start fills t

-- one period more is filled, or the one after the last can't be
abbrev pub IsNext : Instance → List Pattern → List ℤ → List Fill → List Fill → Bool → Type 0
IsNext instance patterns start old new true = length new ≡ suc (length old)
IsNext instance patterns start old new false = IsBarred instance patterns start new (length old)

-- where one more is filled there is no fill behind the last one; else there may be one, which all units entered
abbrev pub IsEdge : Instance → List Segment → List Pattern → List ℤ → Run → Bool → Type 0
IsEdge instance order patterns start run true = run.edge ≡ None
IsEdge instance order patterns start run false = IfSome run.edge
    (HasEntered instance order patterns (length run.fills.items) (outputs_before start run.fills.items (length run.fills.items)))

-- in whole watts the same is missing in each period
pub record LacksSo (instance : Instance) (fills : List Fill) (printed : Printed) : Type 0 where
  pub whole : printed.denominator ≡ 1
  pub shed : (t : ℕ) → t < instance.periods → shed_at printed t ≡ (lack_at fills t).shed
  pub short : (t : ℕ) → t < instance.periods → short_at printed t ≡ (lack_at fills t).short

-- the fills are those of the commitment's dispatch
pub record AreDispatched (instance : Instance) (patterns : List Pattern) (fills : List Fill) : Type 0 where
  pub printed : Printed
  pub dispatch : IsDispatchOf instance patterns printed
  pub all : length fills ≡ instance.periods
  pub sized : AreSized instance fills
  pub outputs : (g t : ℕ) → g < thermal_count instance → t < instance.periods → (cell_at printed g t).p ≡ thermal_amount instance (outputs_at fills t) g
  pub lacks : LacksSo instance fills printed

-- ---- costs
-- a cell of unit g in period t, by the commitment and by what the unit gives
pub record IsCellOf (instance : Instance) (patterns : List Pattern) (fills : List Fill) (g t : ℕ) (cell : Cell) : Type 0 where
  pub committed : IsCommittedCell instance patterns g t cell
  pub output : cell.p ≡ thermal_amount instance (outputs_at fills t) g

-- the cells of the first n periods
pub record IsRowOf (instance : Instance) (patterns : List Pattern) (fills : List Fill) (g n : ℕ) (row : List Cell) : Type 0 where
  pub count : length row ≡ n
  pub cells : (t : ℕ) → t < n → IsCellOf instance patterns fills g t (cell row t)

-- unit g's cells cost this
pub record IsUnitCost (instance : Instance) (patterns : List Pattern) (fills : List Fill) (g : ℕ) (cost : ℤ) : Type 0 where
  pub cells : ℕ → Cell
  pub are : (t : ℕ) → t < instance.periods → IsCellOf instance patterns fills g t (cells t)
  pub is : cost ≡ sum_below instance.periods (λ t. printed_cell_cost (thermal_unit instance g) 1 (cells t))
  pub size : unsigned_abs cost ≤ 168 * 2 ^ 64

abbrev pub cost_at : List ℤ → ℕ → ℤ
cost_at costs g = slice_index_or costs g (pos 0)

-- the first n units cost this
abbrev pub AreUnitCosts : Instance → List Pattern → List Fill → ℕ → List ℤ → Type 0
AreUnitCosts instance patterns fills n costs = (g : ℕ) → g < n → IsUnitCost instance patterns fills g (cost_at costs g)

-- the units' costs are known where all periods are filled
pub record AreKnown (instance : Instance) (patterns : List Pattern) (run : Run) : Type 0 where
  pub count : length run.costs.items ≡ thermal_count instance
  pub sized : AreSized instance run.fills.items
  pub costs : length run.fills.items ≡ instance.periods → AreUnitCosts instance patterns run.fills.items (thermal_count instance) run.costs.items

-- a commitment that is dispatched, beside one that differs in a unit
pub record IsChanged (changed : Changed) : Type 0 where
  pub lawful : IsLawfulInstance changed.instance.now
  pub patterns : length changed.patterns.now ≡ thermal_count changed.instance.now
  pub dispatched : AreDispatched changed.instance.now changed.patterns.now changed.fills.now
  pub known : AreKnown changed.instance.now (slice_set changed.patterns.now changed.origin.now.g changed.origin.now.stood) changed.origin.now.run.now

-- unit g gives the same in both, where these have as many periods
pub record GivesSame (instance : Instance) (g : ℕ) (old new : List Fill) : Type 0 where
  pub count : length old ≡ length new
  pub outputs : (t : ℕ) → t < length new → thermal_amount instance (outputs_at old t) g ≡ thermal_amount instance (outputs_at new t) g

-- ---- runs
-- the run of a commitment
pub record IsRun (instance : Instance) (order : List Segment) (patterns : List Pattern) (start : List ℤ) (run : Run) : Type 0 where
  pub fills : AreFills instance order patterns start run.fills.items
  pub edge : IfSome run.edge (HasEntered instance order patterns (length run.fills.items) (outputs_before start run.fills.items (length run.fills.items)))
  pub known : AreKnown instance patterns run
  pub room : IsRoomOf instance run.room

-- its fill of period t, which was filled and is a base, or which all units entered
abbrev pub IsStoodAt : Run → ℕ → Fill → Type 0
IsStoodAt run t fill =
    ((t < length run.fills.items) × (fill ≡ slice_index_or run.fills.items t fill) × IsTrue fill.is_base) ⊎ ((t ≡ length run.fills.items) × (run.edge ≡ Some fill))

-- the run of the commitment in which unit g has the pattern that stood
pub record IsOrigin (instance : Instance) (order : List Segment) (patterns : List Pattern) (start : List ℤ) (base : Run) (g : ℕ) (stood : Pattern) : Type 0 where
  pub unit : (t : ℕ) (fill : Fill) → IsStoodAt base t fill → g < thermal_count instance
  pub run : IsRun instance order (slice_set patterns g stood) start base

-- the commitment's dispatch ended so
pub record IsTrialOf (instance : Instance) (patterns : List Pattern) (tried : Trial) : Type 0 where
  pub printed : Printed
  pub ending : IsEndingOf instance patterns (ending_of_trial printed tried)

pub record IsStandOf (instance : Instance) (patterns : List Pattern) (stand : Stand) : Type 0 where
  pub printed : Printed
  pub ending : IsEndingOf instance patterns (ending_of_stand printed stand)
  pub most_on : KeepsStuck instance stand

-- ---- turns
-- the commitment that is kept after the turns of the first n units, with its run
pub record IsKeptRun (instance : Instance) (order : List Segment) (start : List ℤ) (n : ℕ) (patterns : List Pattern) (best : Run) (stand : Stand) : Type 0 where
  pub count : length patterns ≡ thermal_count instance
  pub allowed : AreAllowed instance patterns
  pub run : IsRun instance order patterns start best
  pub printed : Printed
  pub passed : IsDropPass instance n patterns (ending_of_stand printed stand)
  pub most_on : KeepsStuck instance stand

-- and memory for the run of the next trial
pub record IsRunPass (instance : Instance) (order : List Segment) (start : List ℤ) (n : ℕ) (pass : Pass) : Type 0 where
  pub kept : IsKeptRun instance order start n pass.patterns.items pass.best pass.stand
  pub costs : length pass.tried.costs.items ≡ thermal_count instance
  pub room : IsRoomOf instance pass.tried.room

-- a unit was tried with its pattern of the fewest on periods in the place of the one that stood
pub record IsTriedRun (instance : Instance) (order : List Segment) (start : List ℤ) (turn : Turn) (pass : Pass) : Type 0 where
  pub former : List Pattern
  pub fewest : Pattern
  pub is_fewest : IsFewestOnOf instance turn.g fewest
  pub unit : turn.g < thermal_count instance
  pub stood : turn.stood ≡ slice_index_or former turn.g turn.stood
  pub patterns : pass.patterns.items ≡ slice_set former turn.g fewest
  pub kept : IsKeptRun instance order start turn.g former pass.best pass.stand
  pub allowed : AreAllowed instance pass.patterns.items
  pub tried : IsRun instance order pass.patterns.items start pass.tried
  pub trial : IsTrialOf instance pass.patterns.items turn.trial
