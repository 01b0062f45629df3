-- One claim more, which is noted at its node.
use Rattle.std.proofs.Common.{◌<◌, true, length, set, refl, sym, subst, arith}
use Rattle.search_machine.specs.Prelude.{IsHeldIn}
use Rattle.book.specs.Prelude.{Claim, Held, holders}
use Rattle.book.specs.inside.Kept.{ClaimsView, AreNoted}
use Rattle.book.proofs.Noted.{noted_push}
use Rattle.book.proofs.claims.Claims.add.Goals as goal

pub invariant_of-self : goal.invariant_of-self
invariant_of-self c =
    let a = c.self.inside in
    let node = c.args.node in
    let next : Claim = record { worker = c.args.worker; node = node; behind = c.args.behind; status = Held } in
    let nodes = subst (λ (v : ClaimsView). node < v.nodes) (sym c.self.view_is) c.requires.node in
    let inside : node < length a.held.items = omega (arith, nodes, a.held.ok.0) in
    let unheld = subst (λ (v : ClaimsView). ¬ IsHeldIn (holders v.claims) node) (sym c.self.view_is) c.requires.unheld in (
      subst (λ cs. AreNoted cs (set a.held.items node true)) (sym c.push_reserved.ensures.items)
          (noted_push a.claims.items a.held.items next refl c.self.invariant.0 inside unheld),
      omega (arith, c.push_reserved.ensures.capacity, c.self.invariant.1),
    )
