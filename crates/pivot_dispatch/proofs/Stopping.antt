-- The answers where no run ends: a product is too large in making the table, or the run stops.
-- Cite by `use Rattle.pivot_dispatch.proofs.Stopping.{made_wide, stopped_is, ended_is}`.
use Rattle.std.proofs.Common.{◌≡◌, ℕ, inl, inr, refl, sym, subst, List, ℤ}
use Rattle.pivot_run.specs.Prelude.{StopsAt, StopsBy, state_of}
use Rattle.pivot_run.specs.declared.stop.Stop.{Stop}
use Rattle.pivot_run.specs.declared.stop.StopCause.{StopCause as StopWhat}
use Rattle.pivot_run.specs.declared.stop.StopCause.TheVariants.{Product as ProductStop, Pivots as PivotsStop}
use Rattle.pivot_run.specs.declared.wide.Wide.{Wide as Factors}
use Rattle.dispatch_program.specs.Prelude.{free_columns, start_table, state_at}
use Rattle.dispatch_rules.specs.Prelude.{Task, program}
use Rattle.dispatch_table.specs.Start.{IsMade}
use Rattle.dispatch_table.specs.declared.made.Made.TheVariants.{Start as StartOf, Wide as WideOf}
use Rattle.dispatch_table.specs.declared.made.Start.{Start}
use Rattle.pivot_dispatch.specs.Answers.{IsAnswer, IsAnswerOf, IsMetBy, DispatchAnswer, Runs}
use Rattle.pivot_dispatch.specs.Commitments.{Instance, Pattern}
use Rattle.pivot_dispatch.specs.declared.pivot.DispatchAnswer.TheVariants.{Wide}
use Rattle.pivot_dispatch.specs.declared.pivot.WideCause.TheVariants.{Product}
use Rattle.pivot_dispatch.specs.inside.Endings.{IsStopped, what_of}

pub made_wide : (instance : Instance) (patterns : List Pattern) (wide : Factors) (pivot : DispatchAnswer) → IsMade instance patterns (WideOf wide)
    → pivot ≡ Wide Product wide.size wide.other 0 → IsAnswer instance patterns pivot
made_wide instance patterns wide pivot made same =
    (made.0, (made.1.0, subst (IsAnswerOf instance patterns made.0) (sym same) (made.1.2, inl (made.1.1, refl))))

met_by : (task : Task) (what : StopWhat) (size other : ℤ) (n : ℕ) → Runs task n → StopsBy (free_columns (program task)) (state_at (program task) n) what size other n
    → IsMetBy task (what_of what) size other n
met_by task ProductStop size other n run stops = (stops.1, inr (inl (run, stops.0)))
met_by task PivotsStop size other n run stops = (stops.3, (stops.2, (stops.1, (run, stops.0))))

pub stopped_is : (instance : Instance) (patterns : List Pattern) (s : Start) (stop : Stop) (pivot : DispatchAnswer) → IsMade instance patterns (StartOf s)
    → StopsAt s.free (state_of s.table 0) stop → IsStopped stop pivot → IsAnswer instance patterns pivot
stopped_is instance patterns s stop pivot made stops same =
    let task = made.0 in
    let here = subst (λ free. StopsAt free (state_of (start_table (program made.0)) 0) stop) made.1.2.free
    (subst (λ t. StopsAt s.free (state_of t 0) stop) made.1.2.table stops) in
    (made.0, (made.1.0, subst (IsAnswerOf instance patterns made.0) (sym same) (met_by made.0 stop.what stop.size stop.other stop.pivots here.0 here.1)))
