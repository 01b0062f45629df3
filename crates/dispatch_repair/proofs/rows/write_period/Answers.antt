-- The powers stay as they were written, and each number is set in its period.
use Rattle.std.proofs.Common.{◌≡◌, ℕ, ◌<◌, length, arith, sym, subst, List, ℤ, pos, slice_index_or, slice_set, w64, to_z, of_z}
use Rattle.std.specs.declared.alloc.Global.{Global}
use Rattle.std.specs.declared.vec.Vec.{Vec}
use Rattle.std.proofs.lemmas.Int.{to_z-of_z}
use Rattle.uc_model.specs.Prelude.{IsLawfulInstance, reserve_at}
use Rattle.uc_model.proofs.Common.{narrow}
use Rattle.dispatch_repair.specs.Prelude.{Instance}
use Rattle.dispatch_repair.proofs.rows.write_period.Goals as goal

-- a reserve that is read is the instance's
reserve_read : (instance : Instance) (xs : List ℤ) (t : ℕ) → IsLawfulInstance instance → t < instance.periods → xs ≡ instance.reserves
    → to_z w64 (of_z w64 (slice_index_or xs t (pos 0))) ≡ reserve_at instance t
reserve_read instance xs t lawful within same = grind (arith, lawful, within, same)

pub without-kept-requires : goal.without-kept-requires
without-kept-requires c = grind (arith, c)

pub set_number-requires : goal.set_number-requires
set_number-requires c = subst (λ (v : Vec ℤ Global). c.args.t < length v.items) (sym c.write_powers.ensures.shed) (subst (λ n. c.args.t < n) (sym c.requires.shape.shed) c.requires.period)

pub set_number-requires-2 : goal.set_number-requires-2
set_number-requires-2 c = subst (λ (v : Vec ℤ Global). c.args.t < length v.items) (sym c.write_powers.ensures.short) (subst (λ n. c.args.t < n) (sym c.requires.shape.short) c.requires.period)

pub returns : goal.returns
returns c = grind (arith, to_z-of_z, reserve_read, narrow, slice_set, c)
