-- The costs of the walk are far below the ends of 128 bits.
use Rattle.std.proofs.Common.{ℕ, zero, suc, ◌+◌, ◌*◌, ◌^◌, ◌<◌, ◌≤◌, Bool, true, false, arith, ℤ, pos, ◌*ℤ◌, Option, Some, None, unsigned_abs, ◌==◌, if◌then◌else◌}
use Rattle.std.proofs.lemmas.Int.{ints}
use Rattle.std.proofs.lemmas.Bool.{cond_both}
use Rattle.uc_model.specs.Prelude.{sigma, IsLawfulThermal, period_count, price_at}
use Rattle.uc_model.specs.declared.limits.TheConstants.{MAX_COST, MAX_POWER, MAX_TERM}
use Rattle.uc_model.proofs.Common.{abs_add, abs_sub, abs_mul, abs_min, sigma-size}
use Rattle.dual_model.specs.Prelude.{MAX_UNIT_PRICE, Terms, Thermal, AreSizedTerms, IsSized, Fix, stop_since, hour_cost, hour_before, move, total_of, lesser_of, end_cost, since_after, cost_to_go, IsWithin, MAX_MOVE, MAX_COST_TO_GO}

-- ---- moves
hour_cost-size : (unit : Thermal) (terms : Terms) → IsLawfulThermal unit → AreSizedTerms unit terms → (t : ℕ) → t < period_count terms
    → (cap : ℤ) (term : Option ℤ) → IsSized cap term → IsWithin MAX_MOVE (hour_cost terms unit t term)
hour_cost-size unit terms lawful sized t h cap None size = tt
hour_cost-size unit terms lawful sized t h cap (Some m) size =
    let price = abs_mul (price_at terms t) unit.pmin MAX_UNIT_PRICE MAX_POWER (sized.price t h) lawful.minimum.power in
    let whole = abs_sub m (price_at terms t *ℤ unit.pmin) MAX_TERM (MAX_UNIT_PRICE * MAX_POWER) size.1 price in
    omega arith

pub hour_before-size : (unit : Thermal) (terms : Terms) → IsLawfulThermal unit → AreSizedTerms unit terms → (t : ℕ) → t ≤ period_count terms
    → (start stop : Bool) → IsWithin MAX_MOVE (hour_before terms unit t start stop)
hour_before-size unit terms lawful sized zero h start stop = omega arith
hour_before-size unit terms lawful sized (suc t) h start stop =
    hour_cost-size unit terms lawful sized t (omega arith) _ _ (sized.term t start stop (omega arith))

-- what is there only where a test holds
pub only_where : (b : Bool) (o : Option ℤ) (m : ℕ) → IsWithin m o → IsWithin m (if b then o else None)
only_where b o m h = cond_both b o None (λ x. IsWithin m x) (λ e. h) (λ e. tt)

pub move-size : (unit : Thermal) (terms : Terms) (fix : Fix) → IsLawfulThermal unit → AreSizedTerms unit terms → (t : ℕ) → t < period_count terms
    → (was : Bool) (since : ℕ) (now : Bool) → IsWithin MAX_MOVE (move terms unit fix t was since now)
move-size unit terms fix lawful sized t h true since true = grind (arith, ints, only_where, hour_before-size, lawful, sized, h)
move-size unit terms fix lawful sized t h true since false = grind (arith, ints, only_where, hour_before-size, lawful, sized, h)
move-size unit terms fix lawful sized t h false since true =
    only_where _ (Some (terms.k *ℤ sigma unit (stop_since since) t)) MAX_MOVE start
  where
    start : unsigned_abs (terms.k *ℤ sigma unit (stop_since since) t) ≤ MAX_MOVE
    start =
        let scale : unsigned_abs terms.k ≤ 10 ^ 9 = omega (arith, ints, sized.scale.0, sized.scale.1) in
        let whole = abs_mul terms.k (sigma unit (stop_since since) t) (10 ^ 9) MAX_COST scale (sigma-size unit lawful (stop_since since) t) in
        omega arith
move-size unit terms fix lawful sized t h false since false = only_where _ (Some (pos 0)) MAX_MOVE (omega arith)

-- ---- the way to the end
pub total_of-size : (a b : Option ℤ) (m n : ℕ) → IsWithin m a → IsWithin n b → IsWithin (m + n) (total_of a b)
total_of-size None b m n h k = tt
total_of-size (Some a) None m n h k = tt
total_of-size (Some a) (Some b) m n h k = abs_add a b m n h k

pub lesser_of-size : (a b : Option ℤ) (m : ℕ) → IsWithin m a → IsWithin m b → IsWithin m (lesser_of a b)
lesser_of-size None b m h k = k
lesser_of-size (Some a) None m h k = h
lesser_of-size (Some a) (Some b) m h k = abs_min a b m h k

pub more_room : (m n : ℕ) (o : Option ℤ) → m ≤ n → IsWithin m o → IsWithin n o
more_room m n None h k = tt
more_room m n (Some a) h k = omega arith

end_cost-size : (unit : Thermal) (terms : Terms) → IsLawfulThermal unit → AreSizedTerms unit terms → (t : ℕ) → t ≤ period_count terms
    → (was : Bool) (since : ℕ) → IsWithin MAX_MOVE (end_cost terms unit t was since)
end_cost-size unit terms lawful sized t h true since = hour_before-size unit terms lawful sized t h (since == t) false
end_cost-size unit terms lawful sized t h false since = omega arith

pub cost_to_go-size : (unit : Thermal) (terms : Terms) (fix : Fix) → IsLawfulThermal unit → AreSizedTerms unit terms → (n t : ℕ) → n + t ≤ period_count terms
    → (was : Bool) (since : ℕ) → IsWithin (MAX_MOVE * n + MAX_MOVE) (cost_to_go terms unit fix n t was since)
cost_to_go-size unit terms fix lawful sized zero t h was since = grind (arith, ints, more_room, end_cost-size, lawful, sized, h)
cost_to_go-size unit terms fix lawful sized (suc n) t h was since =
    let rest = λ (state : Bool) (from : ℕ). cost_to_go-size unit terms fix lawful sized n (suc t) (omega arith) state from in
    more_room (MAX_MOVE + (MAX_MOVE * n + MAX_MOVE)) _ _ (omega arith)
    (lesser_of-size _ _ (MAX_MOVE + (MAX_MOVE * n + MAX_MOVE)) (way rest true) (way rest false))
  where
    way : ((state : Bool) (from : ℕ) → IsWithin (MAX_MOVE * n + MAX_MOVE) (cost_to_go terms unit fix n (suc t) state from)) → (now : Bool) → IsWithin (MAX_MOVE + (MAX_MOVE * n + MAX_MOVE))
        (total_of (move terms unit fix t was since now) (cost_to_go terms unit fix n (suc t) now (since_after was since now t)))
    way rest now =
        total_of-size _ _ MAX_MOVE (MAX_MOVE * n + MAX_MOVE)
        (move-size unit terms fix lawful sized t (omega arith) was since now)
        (rest now (since_after was since now t))

-- so each cost of the walk is within one limit
pub move-fits : (unit : Thermal) (terms : Terms) (fix : Fix) → IsLawfulThermal unit → AreSizedTerms unit terms → (t : ℕ) → t < period_count terms
    → (was : Bool) (since : ℕ) (now : Bool) → IsWithin MAX_COST_TO_GO (move terms unit fix t was since now)
move-fits unit terms fix lawful sized t h was since now =
    more_room MAX_MOVE MAX_COST_TO_GO _ (omega arith) (move-size unit terms fix lawful sized t h was since now)

pub cost_to_go-fits : (unit : Thermal) (terms : Terms) (fix : Fix) → IsLawfulThermal unit → AreSizedTerms unit terms → (n t : ℕ) → n + t ≤ period_count terms
    → (was : Bool) (since : ℕ) → IsWithin MAX_COST_TO_GO (cost_to_go terms unit fix n t was since)
cost_to_go-fits unit terms fix lawful sized n t h was since =
    more_room (MAX_MOVE * n + MAX_MOVE) MAX_COST_TO_GO _ (omega (arith, sized.periods.1)) (cost_to_go-size unit terms fix lawful sized n t h was since)
