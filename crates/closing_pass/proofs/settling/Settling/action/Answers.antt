-- The move is that of the desk, and may be made.
use Rattle.std.proofs.Common.{◌∙◌, subst, sym}
use Rattle.std.specs.Int.{w128}
use Rattle.std.proofs.lemmas.Int.{to_z-of_z}
use Rattle.search_machine.specs.Prelude.{IsMoveLegal}
use Rattle.search_machine.specs.declared.event.Move.{Move}
use Rattle.book.specs.Prelude.{state_of}
use Rattle.search_desk.specs.Commits.{move_of}
use Rattle.closing_pass.proofs.Moves.{move_legal}
use Rattle.closing_pass.proofs.settling.Settling.action.Goals as goal

pub returns-clause-legal : goal.returns-clause-legal
returns-clause-legal g c = λ exact.
    let self = c.args.self.now in
    let done = c.args.done.now in
    let book = c.args.progress.now.book in
    let kept = to_z-of_z w128 c.stored_bound-stored.result (record { sfits = c.stored_bound-stored.type_inv }) in
    let stored = kept ∙ c.stored_bound-stored.ensures in
    let action = c.ending.ensures.is ∙ (λ i. move_of c.cost.result (stored i) self.closing.gap done.table.k done.cell done.outcome) in
    subst (λ (move : Move). IsMoveLegal (λ cost. Unit {0}) (state_of book) self.held.node done.table exact done.outcome move) (sym action)
    (move_legal book self.held.node done.table exact self.closing.gap c.args.bound.now c.requires.gap c.requires.stored c.cost.result done.cell done.outcome
    c.requires.cell)
