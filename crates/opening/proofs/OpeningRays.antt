-- Rays: one more that leaves a schedule, none where there is one, and what is told of the first that leaves none.
use Rattle.std.proofs.Common.{◌≡◌, ◌⊎◌, ⊎_elim, ℕ, ◌+◌, ◌<◌, Bool, refl, subst, sym, arith, pos, ◌<ℤ◌}
use Rattle.std.proofs.lemmas.Bool.{cases_order}
use Rattle.uc_model.specs.Prelude.{IsLawfulInstance, Obeys, Schedule}
use Rattle.dual_model.specs.Prelude.{ray_table, root}
use Rattle.dual_model.proofs.ValueKinds.{rays_exclude, values_are_unique}
use Rattle.branch_tree.specs.Prelude.{IsOutcome}
use Rattle.branch_tree.specs.declared.found.Outcome.{Outcome}
use Rattle.branch_tree.specs.declared.found.Outcome.TheVariants as outcome
use Rattle.opening_tables.proofs.RayTables.{ray_lawful}
use Rattle.opening.specs.Outcomes.{IsPositive}
use Rattle.opening.specs.Rays.{Instance, HasNoRay, HasNoRayBelow, IsRayPositive}
use Rattle.opening.proofs.Blocked.{not_first_blocked}

-- a ray whose outcome at the root isn't a value above 0 isn't positive
pub not_positive : (exact : Bool) (instance : Instance) (n : ℕ) (o : Outcome) → IsOutcome exact instance root (ray_table instance n) o → ¬ IsPositive o
    → ¬ IsRayPositive exact instance n
not_positive exact instance n (outcome.Value v) value below ray =
    let same : ray.value ≡ v = values_are_unique exact instance root (ray_table instance n) ray.value v ray.is_value value in
    below (subst (λ w. pos 0 <ℤ w) same ray.positive)
not_positive exact instance n (outcome.Empty g) first below ray =
    not_first_blocked exact instance root (ray_table instance n) ray.value g ray.is_value first

pub positive : (exact : Bool) (instance : Instance) (n : ℕ) (o : Outcome) → IsOutcome exact instance root (ray_table instance n) o → IsPositive o
    → IsRayPositive exact instance n
positive exact instance n (outcome.Value v) value above = record { value = v; is_value = value; positive = above }
positive exact instance n (outcome.Empty g) first above = absurd above

pub none_more : (exact : Bool) (instance : Instance) (n : ℕ) → HasNoRayBelow exact instance n → ¬ IsRayPositive exact instance n
    → HasNoRayBelow exact instance (n + 1)
none_more exact instance n none this earlier within =
    ⊎_elim
    (λ (is : earlier ≡ n). subst (λ k. ¬ IsRayPositive exact instance k) (sym is) this)
    (λ (apart : (earlier < n) ⊎ (n < earlier)). ⊎_elim (λ (l : earlier < n). none earlier l) (λ (l : n < earlier). absurd (omega arith)) apart)
    (cases_order earlier n)

-- where there is a schedule no ray is positive, by weak duality
pub no_ray : (exact : Bool) (instance : Instance) (q : ℕ) (x : Schedule) → IsLawfulInstance instance → Obeys instance q x → HasNoRay exact instance
no_ray exact instance q x lawful obeys n within ray =
    let table = ray_lawful instance n lawful within in
    rays_exclude exact instance root (ray_table instance n) ray.value q x lawful (record { size = table.size; signs = table.signs })
    ray.is_value refl ray.positive (record { obeys = obeys; agrees = refl })

-- of numbers of which something holds there is one first
pub one_first : (P : ℕ → Type 0) (m n : ℕ) → P m → P n → ((earlier : ℕ) → earlier < m → ¬ P earlier) → ((earlier : ℕ) → earlier < n → ¬ P earlier)
    → m ≡ n
one_first P m n one other before_one before_other = ⊎_elim
    (λ (e : m ≡ n). e)
    (λ (apart : (m < n) ⊎ (n < m)). ⊎_elim
    (λ (l : m < n). absurd (before_other m l one))
    (λ (l : n < m). absurd (before_one n l other))
    apart)
    (cases_order m n)
