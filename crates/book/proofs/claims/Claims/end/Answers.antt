-- A claim that ended, by which nobody holds its node any more.
use Rattle.std.proofs.Common.{◌<◌, ◌≡◌, ◌-◌, ◌∙◌, false, length, set, ap, sym, subst, arith, None}
use Rattle.std.proofs.lemmas.List.{get_or_read, length-map}
use Rattle.std.proofs.lemmas.Option.{slice_get_within}
use Rattle.search_machine.specs.declared.holder.Holder.{Holder}
use Rattle.search_machine.proofs.Claims.{holder_place}
use Rattle.book.specs.Prelude.{Claim, IsHeldBy, holder_of, holders, no_claim, claim_of, ended}
use Rattle.book.specs.inside.Kept.{ClaimsView, AreNoted}
use Rattle.book.proofs.Noted.{noted_ended}
use Rattle.book.proofs.Units.{holders_after}
use Rattle.book.proofs.claims.Claims.end.Goals as goal

pub invariant_of-self : goal.invariant_of-self
invariant_of-self c =
    let a = c.self.inside in
    let claims = a.claims.items in
    let unit = c.args.unit in
    let node = c.args.node in
    let status = c.args.status in
    let holder : Holder = record { worker = c.args.worker; node = node } in
    let nodes = subst (λ (v : ClaimsView). node < v.nodes) (sym c.self.view_is) c.requires.node in
    let inside : node < length a.held.items = omega (arith, nodes, a.held.ok.0) in
    let holds = subst (λ (v : ClaimsView). IsHeldBy v.claims c.args.worker unit node) (sym c.self.view_is) c.requires.held in
    let at = holder_place (holders claims) unit holder holds in
    let place : unit - 1 ≡ at.0 = omega (arith, at.1) in
    let within = slice_get_within (holders claims) at.0 _ at.2 in
    let size = length-map claims holder_of in
    let read : c.index_mut.result.now ≡ claim_of claims unit =
    get_or_read claims (unit - 1) c.index_mut.result.now (omega (arith, within, size, place)) c.index_mut.ensures.value no_claim in
    let list = ap (λ (claim : Claim). set claims (unit - 1) (record claim { status = status })) read in (
      subst (λ cs. AreNoted cs (set a.held.items node false)) (sym list)
          (noted_ended claims (ended claims unit status) a.held.items at.0 holder c.self.invariant.0 at.2
          (holders_after claims unit status (λ h. c.requires.ends h.worker h.node) ∙ ap (λ k. set (holders claims) k None) place) inside),
      c.self.invariant.1,
    )
