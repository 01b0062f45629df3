-- The terms of one unit: what its `Terms` say of the cells of a period, and how large they are. Source: the
-- single-unit problems of the Lagrangian relaxation of the reference model by Knueven, Ostrowski and Watson,
-- whose caps (M9, M10) depend on the starts and stops beside a cell. The limits in size are this project's.
--
-- Periods count from 0 here.
use Rattle.std.specs.Prelude.{◌≡◌, ℕ, ◌<◌, ◌≤◌, Bool, ℤ, pos, ◌≤ℤ◌, ◌<ℤ◌, unsigned_abs, length, Option, MatchOption}
use Rattle.uc_model.specs.Prelude.{cell_cap, period_count, price_at, term_at}
pub use Rattle.uc_model.specs.declared.limits.TheConstants.{MAX_PERIODS, MAX_TERM}
pub use Rattle.uc_model.specs.declared.instance.Thermal.{Thermal}
pub use Rattle.uc_model.specs.declared.terms.Terms.{Terms}
pub use Rattle.dual_model.specs.declared.limits.TheConstants.{MAX_SCALE, MAX_UNIT_PRICE}

-- a term is there exactly where the cap is at least 0, and is within the limit
abbrev pub IsSized : ℤ → Option ℤ → Type 0
IsSized cap term = MatchOption term (cap <ℤ pos 0) (λ m. (pos 0 ≤ℤ cap) × (unsigned_abs m ≤ MAX_TERM))

-- terms of the unit in shape and size: a price and a row of four for each period
pub record AreSizedTerms (unit : Thermal) (terms : Terms) : Type 0 where
  pub scale : (pos 0 ≤ℤ terms.k) × (terms.k ≤ℤ MAX_SCALE)
  pub periods : (1 ≤ period_count terms) × (period_count terms ≤ MAX_PERIODS)
  pub prices : length terms.pi ≡ period_count terms
  pub price : (t : ℕ) → t < period_count terms → unsigned_abs (price_at terms t) ≤ MAX_UNIT_PRICE
  pub term : (t : ℕ) (start stop : Bool) → t < period_count terms →
      IsSized (cell_cap (period_count terms) unit t start stop) (term_at terms t start stop)
