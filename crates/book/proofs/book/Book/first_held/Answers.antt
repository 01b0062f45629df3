-- A node that is held is so by one of the claims.
use Rattle.std.proofs.Common.{◌≡◌, ◌+◌, suc, ap, sym, ◌∙◌, subst, arith, Some, None}
use Rattle.std.proofs.lemmas.List.{length-map}
use Rattle.std.proofs.lemmas.Option.{slice_get_within, get_or_from_slice_get}
use Rattle.search_machine.specs.Prelude.{IsHeldIn, holder_in}
use Rattle.book.specs.Prelude.{BookView, holder_of, holders}
use Rattle.book.proofs.book.Book.first_held.Goals as goal

pub returns-clause-none : goal.returns-clause-none
returns-clause-none g c = λ none node held.
    let a = c.self.inside in
    let own = subst (λ (b : BookView). IsHeldIn (holders b.claims) node) (sym c.self.view_is) held in
    let within = slice_get_within (holders a.claims.claims) own.claim _ own.holds in
    let size = length-map a.claims.claims holder_of in
    let unit : own.claim + 1 ≡ suc own.claim = omega arith in
    c.loop-place.invariant own.claim own.worker node (omega (arith, within, size, c.len-place-end.ensures, c.loop-place-test.false))
    (ap (λ (b : BookView). holder_in (holders b.claims) (own.claim + 1)) (sym c.self.view_is)
    ∙ ap (holder_in (holders a.claims.claims)) unit
    ∙ get_or_from_slice_get (holders a.claims.claims) own.claim (Some (record { worker = own.worker; node = node })) None own.holds)
