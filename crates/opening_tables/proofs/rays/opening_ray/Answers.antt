-- The parts make the ray's table, which is lawful.
use Rattle.std.proofs.Common.{arith, ◌≡◌, sym, ap, subst, ◌∙◌, length}
use Rattle.std.proofs.lemmas.Result.{IfOk-weaker}
use Rattle.dual_model.specs.Prelude.{HasRayNumbers, ray_table, IsWellFormed}
use Rattle.opening_tables.proofs.RayNumbers.{ray_numbers}
use Rattle.opening_tables.proofs.RayTables.{made_of, ray_lawful, ray_table-made}
use Rattle.opening_tables.proofs.rays.opening_ray.Goals as goal
use Rattle.opening_tables.proofs.rays.opening_ray.Goals.{After-drop-pi-2}

is_ray : (c : After-drop-pi-2)
    → made_of (length c.as_slice.result.now) c.deref.result.now c.deref-2.result.now c.deref-3.result.now ≡ ray_table c.args.instance.now c.args.n
is_ray c = grind arith

pub new-requires : goal.new-requires
new-requires c =
    subst IsWellFormed
    (sym (ray_table-made c.args.instance.now c.args.n c.ray_of-ray.result _ _ _ _ c.ray_of-ray.ensures.ray c.ray_of-ray.ensures.period (ap length c.as_slice.ensures)
    (c.deref.ensures.value ∙ c.in_ok-pi.ensures) (c.deref-2.ensures.value ∙ c.in_ok-mu.ensures) (c.deref-3.ensures.value ∙ c.in_ok-ramps.ensures)))
    (ray_lawful c.args.instance.now c.args.n c.requires.lawful c.requires.number).size.form

pub returns-clause-table : goal.returns-clause-table
returns-clause-table c = grind (arith, c)

pub returns-clause-lawful : goal.returns-clause-lawful
returns-clause-lawful c = grind (arith, IfOk-weaker, made_of, is_ray, ray_lawful, c)

pub returns-clause-numbers : goal.returns-clause-numbers
returns-clause-numbers c =
    IfOk-weaker c.new.result (λ made. made ≡ made_of _ _ _ _) (HasRayNumbers c.args.instance.now c.args.n)
    (λ made same. subst (HasRayNumbers c.args.instance.now c.args.n) (sym (same ∙ is_ray c)) (ray_numbers c.args.instance.now c.args.n c.requires.lawful))
    c.new.ensures
