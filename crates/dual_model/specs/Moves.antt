-- What one unit may do in a period, by its state before it, and what that costs. Source: the rules M1 to M5 and M7 of the
-- reference model by Knueven, Ostrowski and Watson, each said of the one period in which it decides.
use Rattle.std.specs.Prelude.{ℕ, zero, suc, Bool, true, false, not, ◌&&◌, ◌||◌, ◌==◌, nat_lt, ℤ, pos, ◌-ℤ◌, ◌*ℤ◌, int_le, Option, Some, None, if◌then◌else◌}
use Rattle.std.specs.Int.{int_min}
use Rattle.uc_model.specs.Prelude.{commitment_of, sigma, may_start, may_stop, term_at, price_at}
pub use Rattle.uc_model.specs.declared.instance.Thermal.{Thermal}
pub use Rattle.uc_model.specs.declared.terms.Terms.{Terms}
pub use Rattle.dual_model.specs.declared.node.Fix.{Fix}
use Rattle.dual_model.specs.Bellman.{MoveCosts}

-- nothing that is decided wants the unit off in period t
abbrev pub may_be_on : Fix → ℕ → Bool
may_be_on fix t = not (commitment_of fix.known t) || commitment_of fix.on t

-- neither M1 nor anything that is decided wants it on
abbrev pub may_be_off : Thermal → Fix → ℕ → Bool
may_be_off unit fix t = not unit.must_run && (not (commitment_of fix.known t) || not (commitment_of fix.on t))

-- M7, of a unit that is on initially: the greatest initial output, with a stop in the first period and without
abbrev pub initial_limit : Thermal → Bool → ℤ
initial_limit unit true = int_min unit.pmax unit.sd
initial_limit unit false = unit.pmax

abbrev pub holds_initially : Thermal → ℕ → Bool → Bool
holds_initially unit t stop = nat_lt 0 t || int_le unit.p0 (initial_limit unit stop)

-- the last stop of a unit that is off since then
abbrev pub stop_since : ℕ → Option ℕ
stop_since zero = None
stop_since (suc s) = Some s

-- what the hour before period t costs a unit that was on in it, without the start
abbrev pub hour_cost : Terms → Thermal → ℕ → Option ℤ → Option ℤ
hour_cost terms unit t None = None
hour_cost terms unit t (Some m) = Some (m -ℤ price_at terms t *ℤ unit.pmin)

abbrev pub hour_before : Terms → Thermal → ℕ → Bool → Bool → Option ℤ
hour_before terms unit zero start stop = Some (pos 0)
hour_before terms unit (suc t) start stop = hour_cost terms unit t (term_at terms t start stop)

-- what may be: a unit that was on, or off, since then is on in period t or not
abbrev pub may_move : Thermal → Fix → ℕ → Bool → ℕ → Bool → Bool
may_move unit fix t true since true = may_be_on fix t && holds_initially unit t false
may_move unit fix t true since false = may_be_off unit fix t && holds_initially unit t true && may_stop unit since t
may_move unit fix t false since true = may_be_on fix t && may_start unit since t
may_move unit fix t false since false = may_be_off unit fix t

-- these costs, of the moves that may be
abbrev pub allowed : Thermal → Fix → MoveCosts → MoveCosts
allowed unit fix costs t was since now = if may_move unit fix t was since now then costs t was since now else None

-- what a move costs: the hour behind it, and a start
abbrev pub hour_and_start : Terms → Thermal → MoveCosts
hour_and_start terms unit t true since now = hour_before terms unit t (since == t) (not now)
hour_and_start terms unit t false since true = Some (terms.k *ℤ sigma unit (stop_since since) t)
hour_and_start terms unit t false since false = Some (pos 0)

-- both
abbrev pub move : Terms → Thermal → Fix → MoveCosts
move terms unit fix = allowed unit fix (hour_and_start terms unit)
