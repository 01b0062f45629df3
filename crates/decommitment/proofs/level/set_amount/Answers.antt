-- The sums change by what the amount changes.
use Rattle.std.proofs.Common.{◌≡◌, ◌*◌, ◌∙◌, ◌+ℤ◌, ◌-ℤ◌, arith, length, sym, subst, ap, nat_lt, w64, to_z, of_z, slice_set, if◌then◌else◌}
use Rattle.std.proofs.lemmas.Int.{to_z-of_z}
use Rattle.uc_model.proofs.Common.{narrow}
use Rattle.dispatch_repair.specs.Amounts.{MAX_POWER, amount_at}
use Rattle.decommitment.specs.inside.Fills.{AreGiven}
use Rattle.decommitment.proofs.Givens.{given_set}
use Rattle.decommitment.proofs.level.set_amount.Goals as goal

pub returns-clause-given : goal.returns-clause-given
returns-clause-given c =
    let items = c.args.fill.now.amounts.items in
    let given = c.args.fill.now.given in
    let amount = c.args.amount in
    let old : to_z w64 (of_z w64 c.amount_of-old.result) ≡ amount_at items c.args.n =
    to_z-of_z w64 c.amount_of-old.result (record { sfits = c.amount_of-old.type_inv }) ∙ c.amount_of-old.ensures in
    let new = narrow amount (3 * MAX_POWER) c.requires.amount.size (omega arith) in
    let is_free = nat_lt c.args.n (length c.as_slice.result.now) in
    subst (λ z. AreGiven c.args.instance.now (slice_set items c.args.n z) c.given_with-fill.result)
    (sym new)
    (given_set c.args.instance.now items given c.given_with-fill.result c.args.n amount c.requires.lawful c.requires.source c.requires.given c.requires.amount
    is_free (ap (λ xs. nat_lt c.args.n (length xs)) c.as_slice.ensures)
    (c.given_with-fill.ensures.thermal ∙ (λ i. if is_free then given.thermal else given.thermal +ℤ (new i -ℤ old i)))
    (c.given_with-fill.ensures.renewable ∙ (λ i. if is_free then given.renewable +ℤ (new i -ℤ old i) else given.renewable)))
