-- The drop commitment: the most-on commitment, in which unit by unit, in the order of the file, the pattern with the fewest on
-- periods takes the place of the one with the most where the dispatch is better for it. This project's own starting point of a
-- schedule.
--
-- Units and periods count from 0 here.
use Rattle.std.specs.Prelude.{◌≡◌, ◌⊎◌, ℕ, zero, suc, Bool, true, false, List, ℤ, int_lt, nat_lt, IsTrue, slice_set}
use Rattle.uc_model.specs.Prelude.{IsFewestOn, commitment_of, printed_cost, thermal_unit, thermal_count}
pub use Rattle.uc_model.specs.declared.instance.Instance.{Instance}
pub use Rattle.uc_model.specs.declared.pattern.Pattern.{Pattern}
pub use Rattle.uc_model.specs.declared.schedule.Printed.{Printed}
use Rattle.uc_model.specs.declared.stuck.Stuck.{Stuck}
use Rattle.dispatch_repair.specs.Prelude.{AreMostOn, IsOffFrom, IsDispatchOf, IsStuckOf}

-- how the dispatch of a commitment ends: with a schedule and its cost, or stuck in a period
pub data Ending : Type 0 where
  Dispatched : Printed → ℤ → Ending
  StuckIn : ℕ → Ending

-- whether an ending is better than another: not stuck is better than stuck; of two that aren't the cheaper is better, and of two
-- that are the one that is stuck later
abbrev pub is_better : Ending → Ending → Bool
is_better (Dispatched printed cost) (Dispatched other stood) = int_lt cost stood
is_better (Dispatched printed cost) (StuckIn stood) = true
is_better (StuckIn t) (Dispatched other stood) = false
is_better (StuckIn t) (StuckIn stood) = nat_lt stood t

-- the dispatch of the commitment is stuck in the period
pub record IsStuckIn (instance : Instance) (patterns : List Pattern) (t : ℕ) : Type 0 where
  pub stuck : Stuck
  pub stuck_by : IsStuckOf instance patterns stuck
  pub period : stuck.period ≡ t

-- it ends so
abbrev pub IsEndingOf : Instance → List Pattern → Ending → Type 0
IsEndingOf instance patterns (Dispatched printed cost) =
    IsDispatchOf instance patterns printed × (cost ≡ printed_cost instance printed)
IsEndingOf instance patterns (StuckIn t) = IsStuckIn instance patterns t

-- unit g's pattern has the fewest on periods
pub record IsFewestOnOf (instance : Instance) (g : ℕ) (pattern : Pattern) : Type 0 where
  pub fewest : IsFewestOn instance.periods (thermal_unit instance g) (commitment_of pattern)
  pub off : IsOffFrom instance.periods pattern

-- what a turn leaves: the commitment that was tried where its ending is better than the one that stood, which else stays
pub record IsTaken (tried patterns : List Pattern) (ended ending : Ending) : Type 0 where
  pub commitment : patterns ≡ tried
  pub end : ending ≡ ended

-- the turn of unit g, of a commitment that stood with its ending
pub record IsTurnOf (instance : Instance) (g : ℕ) (former : List Pattern) (stood : Ending) (patterns : List Pattern) (ending : Ending) : Type 0 where
  pub fewest : Pattern
  pub is_fewest : IsFewestOnOf instance g fewest
  pub tried : Ending
  pub is_tried : IsEndingOf instance (slice_set former g fewest) tried
  pub taken :
      (IsTrue (is_better tried stood) × IsTaken (slice_set former g fewest) patterns tried ending)
      ⊎ ((is_better tried stood ≡ false) × IsTaken former patterns stood ending)

-- the turn of unit g, after the turns of the units before it
pub record IsTurn (instance : Instance) (g : ℕ) (Before : List Pattern → Ending → Type 0) (patterns : List Pattern) (ending : Ending) : Type 0 where
  pub former : List Pattern
  pub stood : Ending
  pub before : Before former stood
  pub turn : IsTurnOf instance g former stood patterns ending

-- after the turns of the first n units the commitment is this one, and ends so
abbrev pub IsDropPass : Instance → ℕ → List Pattern → Ending → Type 0
IsDropPass instance zero patterns ending = AreMostOn instance patterns × IsEndingOf instance patterns ending
IsDropPass instance (suc n) patterns ending = IsTurn instance n (IsDropPass instance n) patterns ending

-- the drop commitment, and how it ends
pub record IsDropCommitment (instance : Instance) (patterns : List Pattern) (ending : Ending) : Type 0 where
  pub passed : IsDropPass instance (thermal_count instance) patterns ending
