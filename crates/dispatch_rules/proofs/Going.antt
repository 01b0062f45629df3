-- Where a column enters a commitment's table, a row leaves: else there is a ray with a value there, and the table has none.
-- Cite by `use Rattle.dispatch_rules.proofs.Going.{costs_go_on}`.
use Rattle.std.proofs.Common.{◌≡◌, ℕ, ◌<◌, ◌⊎◌, ⊎_elim, inl, inr, Option, None, Some, IsSome, refl, sym, subst, ◌∙◌, arith, ℤ, pos, ◌<ℤ◌, IsTrue}
use Rattle.std.proofs.lemmas.Bool.{cond_both}
use Rattle.uc_model.proofs.Common.{linear}
use Rattle.pivot_run.specs.Prelude.{leaving}
use Rattle.dispatch_program.specs.Prelude.{Program, Column, Unknown, Slack, Artificial, SumValue, CostValue, RightSide, is_limit, has_artificial, place, state_at, SumIsLeft, IsCheapest, IsStuck}
use Rattle.dispatch_program.proofs.Starts.{IsFree, free_column}
use Rattle.dispatch_program.proofs.Entering.{entering_gives_rays}
use Rattle.dispatch_program.proofs.ProgramRuns.{runs_come, runs_end}
use Rattle.dispatch_rules.specs.Dispatch.{program}
use Rattle.dispatch_rules.specs.Rays.{CostsGoOn, RunsEndLast}
use Rattle.dispatch_rules.proofs.Rays.{no_unknown, slack_is}

-- a column that may enter has no value above 0 where the unknowns and the slacks have none
no_value : (p : Program) (v : ℕ → ℤ) → ((c : ℕ) → c < p.unknowns → v (place p (Unknown c)) ≡ pos 0)
    → ((i : ℕ) → i < p.rules → IsTrue (is_limit p i) → v (place p (Slack i)) ≡ pos 0) → (column : Column) → IsFree p column → pos 0 <ℤ v (place p column) → ⊥
no_value p v unknowns slacks (Unknown c) h own = let nothing = unknowns c h in omega (arith, linear)
no_value p v unknowns slacks (Slack i) h own = let nothing = slacks i h.0 h.1 in omega (arith, linear)
no_value p v unknowns slacks (Artificial i) h own = absurd h
no_value p v unknowns slacks SumValue h own = absurd h
no_value p v unknowns slacks CostValue h own = absurd h
no_value p v unknowns slacks RightSide h own = absurd h

some_or : (found : Option ℕ) → (found ≡ None → ⊥) → IsSome found
some_or None none = absurd (none refl)
some_or (Some i) none = refl

pub costs_go_on : CostsGoOn
costs_go_on task t j lawful is room last free zeros =
    let p = program task in
    some_or (leaving t j t.constraints) (λ e.
    let found = entering_gives_rays (program task) t j last free zeros e in
    let v = found.0 in
    let column = free_column (program task) j free in
    no_value (program task) v (no_unknown task v lawful is room found.1.ray)
    (λ i h limit. slack_is task v lawful is room found.1.ray i h limit
    ∙ cond_both (has_artificial (program task) i) (v (place (program task) (Artificial i))) (pos 0) (λ z. z ≡ pos 0) (λ has. found.1.none i (h, has)) (λ e. refl))
    column.0 column.1 (subst (λ c. pos 0 <ℤ v c) (sym column.2) found.1.value))

-- ---- the run
pub runs_end_last : RunsEndLast
runs_end_last task n lawful is room ended = ⊎_elim
    (λ (left : SumIsLeft (program task) (state_at (program task) n).table). inl left)
    (λ (rest : IsCheapest (program task) (state_at (program task) n).table ⊎ IsStuck (program task) (state_at (program task) n).table). ⊎_elim
    (λ (cheapest : IsCheapest (program task) (state_at (program task) n).table). inr cheapest)
    (λ (stuck : IsStuck (program task) (state_at (program task) n).table).
    let t = (state_at (program task) n).table in
    let last = runs_come (program task) n in
    absurd (both (leaving t stuck.0 t.constraints) (costs_go_on task t stuck.0 lawful is room last stuck.1.free stuck.1.zeros) stuck.1.stays))
    rest)
    (runs_end (program task) n ended)
  where
    both : (found : Option ℕ) → IsSome found → found ≡ None → ⊥
    both None some e = cc
    both (Some i) some e = cc
