-- The run of a program's table: pivot by pivot it reaches a table in which, past the sum, none is left, and the rows behind are done.
-- Cite by `use Rattle.dispatch_program.proofs.ProgramRuns.{runs_come, runs_end}`.
use Rattle.std.proofs.Common.{◌≡◌, ◌⊎◌, ⊎_elim, inl, inr, ℕ, zero, suc, ◌+◌, ◌-◌, ◌<◌, ◌≤◌, true, false, IsSome, Option, None, Some, refl, subst, arith, pos, ◌≤ℤ◌, ◌<ℤ◌, int_lt}
use Rattle.std.specs.Option.{option_and_then, option_map}
use Rattle.std.proofs.lemmas.Bool.{cases_lt}
use Rattle.uc_model.proofs.Common.{linear}
use Rattle.pivot_run.specs.Prelude.{row_at, Table, basic, entering, leaving, number, pivoted_table, right_side, next, State, advanced, plan_of, state_of}
use Rattle.pivot_run.specs.Stages.{plan_at}
use Rattle.pivot_run.specs.declared.target.Target.TheVariants.{Row}
use Rattle.pivot_run.proofs.Orders.{int_lt-true, int_lt-false}
use Rattle.pivot_run.proofs.PivotKeeps.{keeps_itself, next_parts}
use Rattle.pivot_run.proofs.Ratios.{IsLeast, IsLeaving, leaving_is}
use Rattle.dispatch_program.specs.Prelude.{Program, RightSide, Slack, is_limit, place, start_table, free_columns, IsReached, NoSumIsLeft, NoneEnters, HasZeros, state_at, RunsReachTables, SumIsLeft, IsCheapest, IsStuck, RunsEnd}
use Rattle.dispatch_program.proofs.Starts.{counted-le}
use Rattle.dispatch_program.proofs.StartTables.{start_is_table, rule_column}
use Rattle.dispatch_program.proofs.LastTables.{no_sum_no_artificial, sums_are_low}
use Rattle.dispatch_program.proofs.Entering.{sums_go_on}
use Rattle.dispatch_program.proofs.Targets.{IsAt, IsDone, by_target, enters_below, none_enters}
use Rattle.dispatch_program.proofs.RunningTables.{artificial_column, done_kept, entered, drove, sum_stays, sum_stays_zero}

record IsRunning (p : Program) (s : State) : Type 0 where
  last : IsReached p s.table
  sum : (k : ℕ) → s.stage ≡ suc k → NoSumIsLeft p s.table
  done : (k r : ℕ) → s.stage ≡ suc k → r < k → r < p.rules → IsDone (free_columns p) s.table r

slack_place : (p : Program) (i : ℕ) → i < p.rules → is_limit p i ≡ true → place p (Slack i) < free_columns p
slack_place p i h limit = let less = counted-le (is_limit p) i p.rules h limit in omega arith

-- ---- the next pivot
by_next : (P : Option (ℕ × ℕ) → Type 0) (found : Option (ℕ × ℕ)) → (found ≡ None → P None) → ((i j : ℕ) → found ≡ Some (i, j) → P (Some (i, j))) → P found
by_next P None none some = none refl
by_next P (Some x) none some = some x.0 x.1 refl

module _ (p : Program) (s : State) (is : IsRunning p s) where
  abbrev t : Table
  t = s.table

  right_place : t.columns - 1 ≡ place p RightSide
  right_place = let size = is.last.keeps.columns in omega arith

  -- where the rows are tried, none is left, and those before are done
  none_left : (k : ℕ) → IsAt t s.stage k → NoSumIsLeft p t
  none_left k at = ⊎_elim
      (λ (past : s.stage ≡ suc k). is.sum k past)
      (λ (first : (k ≡ 0) × (s.stage ≡ 0) × (int_lt (right_side t t.constraints) (pos 0) ≡ false)).
      let high : pos 0 ≤ℤ right_side t t.constraints = int_lt-false (right_side t t.constraints) (pos 0) first.2 in
      let here = subst (λ m. pos 0 ≤ℤ right_side t m) is.last.keeps.count high in
      let there = subst (λ c. pos 0 ≤ℤ number t p.rules c) right_place here in
      let low = sums_are_low p t is.last in
      omega (arith, linear))
      at

  done_before : (k r : ℕ) → IsAt t s.stage k → r < k → r < p.rules → IsDone (free_columns p) t r
  done_before k r at h l = ⊎_elim
      (λ (past : s.stage ≡ suc k). is.done k r past h l)
      (λ (first : (k ≡ 0) × (s.stage ≡ 0) × (int_lt (right_side t t.constraints) (pos 0) ≡ false)). absurd (omega (arith, first.0, h)))
      at

  all_done : (k : ℕ) → IsAt t s.stage k → ((r : ℕ) → k ≤ r → r < k + (t.constraints - k) → IsDone (free_columns p) t r)
      → (r : ℕ) → r < p.rules → IsDone (free_columns p) t r
  all_done k at passed r h = ⊎_elim
      (λ (less : r < k). done_before k r at less h)
      (λ (most : k ≤ r). let same = is.last.keeps.count in passed r most (omega arith))
      (cases_lt r k)

  zeros_of : ((r : ℕ) → r < p.rules → IsDone (free_columns p) t r) → (j : ℕ) → j < free_columns p → HasZeros p t j
  zeros_of done j free k i h has same = ⊎_elim
      (λ (plain : basic t k < free_columns p). absurd (omega arith))
      (λ (zeros : (c : ℕ) → c < free_columns p → number t k c ≡ pos 0). zeros j free)
      (done k h)

  -- a pivot on row o, where a column enters by it
  by_row : (o stage : ℕ) → ((i j : ℕ) → j < free_columns p → number t o j <ℤ pos 0 → i < p.rules → leaving t j t.constraints ≡ Some i → IsRunning p (state_of (pivoted_table t i j) stage))
      → IsRunning p (advanced s (plan_of (free_columns p) t (Row o stage)))
  by_row o stage pivot =
      by_next (λ found. IsRunning p (advanced s (option_map {U = ℕ × ℕ × ℕ} (λ x. (stage, x.0, x.1)) found))) (next o (free_columns p) t) (λ e. is)
      (λ i j e.
      let parts = next_parts (λ c. leaving t c t.constraints) (entering (free_columns p) (row_at t.rows o)) i j e in
      let below = enters_below (free_columns p) (row_at t.rows o) j parts.0 in
      let least = at_least t j t.constraints i (leaving t j t.constraints) parts.1 (leaving_is t j t.constraints) in
      pivot i j below.0 below.1 (let same = is.last.keeps.count in omega (arith, least.within)) parts.1)
    where
      at_least : (t : Table) (j n i : ℕ) (found : Option ℕ) → found ≡ Some i → IsLeaving t j n found → IsLeast t j n i
      at_least t j n i found e is = subst (λ o. IsLeaving t j n o) e is

  advances : IsRunning p (advanced s (plan_at (free_columns p) s))
  advances =
      by_target (free_columns p) t s.stage (λ aim. IsRunning p (advanced s (plan_of (free_columns p) t aim)))
      (λ j e enters. by_row t.constraints 0 (λ i c free below row leaves. record {
        last = entered p t is.last i c row free leaves;
        sum = λ k e. absurd (omega (arith, e));
        done = λ k r e. absurd (omega (arith, e));
      }))
      (λ e none below. is)
      (λ k i j at first.
      let none = none_left k at in
      let row : i < p.rules = let same = is.last.keeps.count in let h = first.within in let from = first.from in omega arith in
      let column = artificial_column p t is.last i row first.driven.artificial in
      let side = no_sum_no_artificial p t is.last none i column.0 row column.1 column.2 in
      let free = first.driven.column in
      record {
        last = drove p t is.last i j row free first.driven.apart side none;
        sum = λ m e. sum_stays_zero p t is.last i j row free first.driven.apart side none;
        done = λ m r e h l. done_kept p t is.last i j row free r l (λ other. ⊎_elim
            (λ (less : r < k). done_before k r at less l)
            (λ (most : k ≤ r). first.passed r most (omega (arith, e, h)))
            (cases_lt r k));
      })
      (λ k j at passed enters. by_row (suc t.constraints) (suc t.constraints) (λ i c free below row leaves.
      let done = all_done k at passed in
      record {
        last = entered p t is.last i c row free leaves;
        sum = λ m e. sum_stays p t is.last i c row free (none_left k at) (zeros_of done c free);
        done = λ m r e h l. done_kept p t is.last i c row free r l (λ other. done r l);
      }))
      (λ k at passed none. is)

  -- ---- the end
  none_enters_at : (o : ℕ) → entering (free_columns p) (row_at t.rows o) ≡ None → NoneEnters p t o
  none_enters_at o e = record {
    unknown = λ c h. none_enters (free_columns p) (row_at t.rows o) e c (omega arith);
    slack = λ i h limit. none_enters (free_columns p) (row_at t.rows o) e (place p (Slack i)) (slack_place p i h limit);
  }

  ends : plan_at (free_columns p) s ≡ None → SumIsLeft p t ⊎ (IsCheapest p t ⊎ IsStuck p t)
  ends =
      by_target (free_columns p) t s.stage (λ aim. plan_of (free_columns p) t aim ≡ None → SumIsLeft p t ⊎ (IsCheapest p t ⊎ IsStuck p t))
      (λ j e enters ended.
      let below = enters_below (free_columns p) (row_at t.rows t.constraints) j enters in
      let leaves = sums_go_on p t j is.last (let h = below.0 in omega arith) (subst (λ o. number t o j <ℤ pos 0) is.last.keeps.count below.1) in
      absurd (both (leaving t j t.constraints) leaves (none_next t.constraints 0 j enters ended)))
      (λ e none below ended.
      let less = int_lt-true (right_side t t.constraints) (pos 0) below in
      inl (
        subst (λ c. number t p.rules c <ℤ pos 0) right_place (subst (λ m. right_side t m <ℤ pos 0) is.last.keeps.count less),
        subst (NoneEnters p t) is.last.keeps.count (none_enters_at t.constraints none),
      ))
      (λ k i j at first ended. absurd (cc))
      (λ k j at passed enters ended.
      let below = enters_below (free_columns p) (row_at t.rows (suc t.constraints)) j enters in
      inr (inr (
        j,
        record {
          none = none_left k at;
          free = below.0;
          zeros = zeros_of (all_done k at passed) j below.0;
          below = subst (λ o. number t o j <ℤ pos 0) after below.1;
          stays = none_next (suc t.constraints) (suc t.constraints) j enters ended;
        },
      )))
      (λ k at passed none ended. inr (inl (none_left k at, subst (NoneEnters p t) after (none_enters_at (suc t.constraints) none))))
    where
      after : suc t.constraints ≡ p.rules + 1
      after = let same = is.last.keeps.count in omega arith

      both : (found : Option ℕ) → IsSome found → found ≡ None → ⊥
      both None some e = cc
      both (Some i) some e = cc

      no_next : (j stage : ℕ) (found : Option ℕ) → option_map {U = ℕ × ℕ × ℕ} (λ x. (stage, x.0, x.1)) (option_map {U = ℕ × ℕ} (λ i. (i, j)) found) ≡ None → found ≡ None
      no_next j stage None e = refl
      no_next j stage (Some i) e = absurd (cc)

      none_next : (o stage j : ℕ) → entering (free_columns p) (row_at t.rows o) ≡ Some j → plan_of (free_columns p) t (Row o stage) ≡ None → leaving t j t.constraints ≡ None
      none_next o stage j enters ended =
          no_next j stage (leaving t j t.constraints)
          (subst (λ found. option_map {U = ℕ × ℕ × ℕ} (λ x. (stage, x.0, x.1)) (option_and_then {U = ℕ × ℕ} (λ c. option_map (λ i. (i, c)) (leaving t c t.constraints)) found) ≡ None) enters ended)

-- ---- the run
started : (p : Program) → IsRunning p (state_of (start_table p) 0)
started p =
    let start = start_is_table p in
    record {
      last = record {
        keeps = keeps_itself (start_table p) start.table start.basis start.sides;
        apart = λ k h. rule_column p k h;
      };
      sum = λ k e. absurd (omega (arith, e));
      done = λ k r e. absurd (omega (arith, e));
    }

running : (p : Program) (n : ℕ) → IsRunning p (state_at p n)
running p zero = started p
running p (suc n) = advances p (state_at p n) (running p n)

pub runs_come : RunsReachTables
runs_come p n = (running p n).last

pub runs_end : RunsEnd
runs_end p n e = ends p (state_at p n) (running p n) e
