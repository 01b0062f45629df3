-- Values of the columns of a program's table that solve its start, over a common denominator, and what they say of the rules.
-- Source: G. B. Dantzig, "Linear Programming and Extensions", 1963.
use Rattle.std.specs.Prelude.{◌≡◌, ℕ, ◌<◌, true, false, ℤ, pos, ◌*ℤ◌, neg_ℤ, ◌≤ℤ◌, ◌<ℤ◌, IsTrue, if◌then◌else◌}
use Rattle.uc_model.specs.Prelude.{sum_below}
use Rattle.pivot_run.specs.Prelude.{Solves}
use Rattle.dispatch_program.specs.Programs.{Program, Unknown, Slack, Artificial, SumValue, CostValue, RightSide, is_limit, has_artificial, start_rows, place}

-- values that solve the start, over the denominator d: none is below 0, and those of the artificial columns are 0
pub record AreValues (p : Program) (d : ℤ) (v : ℕ → ℤ) : Type 0 where
  pub solves : Solves (start_rows p) v
  pub denominator : pos 0 <ℤ d
  pub right : v (place p RightSide) ≡ neg_ℤ d
  pub unknown : (c : ℕ) → c < p.unknowns → pos 0 ≤ℤ v (place p (Unknown c))
  pub slack : (i : ℕ) → i < p.rules → IsTrue (is_limit p i) → pos 0 ≤ℤ v (place p (Slack i))
  pub artificial : (i : ℕ) → i < p.rules → IsTrue (has_artificial p i) → v (place p (Artificial i)) ≡ pos 0

-- what a rule, and the cost, have of the unknowns
abbrev pub rule_sum : Program → (ℕ → ℤ) → ℕ → ℤ
rule_sum p v i = sum_below p.unknowns (λ c. p.factor i c *ℤ v c)

abbrev pub cost_sum : Program → (ℕ → ℤ) → ℤ
cost_sum p v = sum_below p.unknowns (λ c. p.cost c *ℤ v c)

-- they obey the rules, and the value of the cost is minus what the unknowns cost
pub record ObeyRules (p : Program) (d : ℤ) (v : ℕ → ℤ) : Type 0 where
  pub limits : (i : ℕ) → i < p.rules → p.is_equality i ≡ false → rule_sum p v i ≤ℤ (d *ℤ p.right i)
  pub equalities : (i : ℕ) → i < p.rules → p.is_equality i ≡ true → rule_sum p v i ≡ d *ℤ p.right i
  pub cost : v (place p CostValue) ≡ neg_ℤ (cost_sum p v)

abbrev pub ValuesObey : Type 0
ValuesObey = (p : Program) (d : ℤ) (v : ℕ → ℤ) → AreValues p d v → ObeyRules p d v

-- values that solve the start with the right side 0, none below 0 in a column of an unknown, a slack or an artificial one
pub record IsRay (p : Program) (v : ℕ → ℤ) : Type 0 where
  pub solves : Solves (start_rows p) v
  pub right : v (place p RightSide) ≡ pos 0
  pub unknown : (c : ℕ) → c < p.unknowns → pos 0 ≤ℤ v (place p (Unknown c))
  pub slack : (i : ℕ) → i < p.rules → IsTrue (is_limit p i) → pos 0 ≤ℤ v (place p (Slack i))
  pub artificial : (i : ℕ) → i < p.rules → IsTrue (has_artificial p i) → pos 0 ≤ℤ v (place p (Artificial i))

-- the value of the sum is minus the sum of the artificial columns' values
abbrev pub artificial_sum : Program → (ℕ → ℤ) → ℤ
artificial_sum p v = sum_below p.rules (λ i. if has_artificial p i then v (place p (Artificial i)) else pos 0)

abbrev pub SumIsArtificial : Type 0
SumIsArtificial = (p : Program) (v : ℕ → ℤ) → Solves (start_rows p) v → v (place p SumValue) ≡ neg_ℤ (artificial_sum p v)
