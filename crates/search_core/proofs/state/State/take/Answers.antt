-- A ticket moved from one desk to another.
use Rattle.std.proofs.Common.{◌≡◌, ap, sym, subst, ◌∙◌, arith, ◌∷◌, []}
use Rattle.std.proofs.lemmas.List.{get_or_read}
use Rattle.search_machine.specs.declared.event.Event.TheVariants.{Steal}
use Rattle.search_machine.specs.Prelude.{Machine, no_desk, desk_in, IsLegal, first_queued, with_desk, with_tickets, without_first, taken}
use Rattle.search_core.specs.Fields.{view_of}
use Rattle.search_core.proofs.Kept.{kept_by}
use Rattle.search_core.proofs.state.State.take.Goals as goal

pub invariant_of-self-2 : goal.invariant_of-self-2
invariant_of-self-2 c =
    let a = c.self.inside in
    let worker = c.args.worker in
    let victim = c.args.victim in
    let legal = subst (λ (m : Machine). IsLegal m (Steal worker victim)) (sym c.self.view_is) c.requires in
    let read = get_or_read a.desks.items victim c.index.result.now (omega (arith, legal.1)) c.index.ensures no_desk in
    let first : c.first_queued.result ≡ first_queued (desk_in a.desks.items victim) = c.first_queued.ensures ∙ ap first_queued read in
    let desks : c.drop_first.new.desks.items ≡ taken a.desks.items worker victim =
    c.drop_first.ensures
    ∙ ap (λ ds. with_desk ds victim without_first)
    (c.in_ok-take_tickets.ensures.taken ∙ ap (λ f. with_desk a.desks.items worker (λ desk. with_tickets desk (f ∷ []))) first) in
    kept_by a (record a { desks = c.drop_first.new.desks }) c.args.self.now (Steal worker victim) c.self.view_is c.self.invariant
    c.requires (λ i. record (view_of a) { desks = desks i }) c.self.invariant.count
