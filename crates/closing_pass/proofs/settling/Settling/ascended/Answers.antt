-- One of two scales is new at the node.
use Rattle.std.proofs.Common.{◌∙◌, ◌≢◌, ⊎_elim, ◌≡◌, ap, arith, length, subst, sym}
use Rattle.dual_model.specs.Prelude.{IsLawfulTable}
use Rattle.uc_model.proofs.Common.{linear}
use Rattle.branch_tree.specs.declared.found.Entry.{Entry}
use Rattle.search_machine.specs.Prelude.{entries_of}
use Rattle.book.specs.Prelude.{state_of}
use Rattle.uc_model.specs.declared.instance.Instance.{Instance}
use Rattle.closing_pass.proofs.Settled.{fresh_second}
use Rattle.closing_pass.proofs.settling.Settling.ascended.Goals as goal

pub returns : goal.returns
returns g c =
    let self = c.args.self.now in
    let book = c.args.book.now in
    let node = self.held.node in
    let scale = c.in_ok-table_at.ensures.scale in
    record {
      lawful = subst (λ (i : Instance). IsLawfulTable i c.in_ok-table_at.field-0) c.requires.instance c.in_ok-table_at.ensures.lawful;
      fresh = fresh_second (state_of book) self.scale (entries_of book.log node) c.in_ok-table.table c.in_ok-table_at.field-0 self.closing.exact
          c.in_ok-table.ensures.scale scale (c.requires.later node)
          (λ fresh. let differ = sym (c.fresh.ensures.1 fresh) ∙ c.if-fresh.false in absurd (cc));
      first = λ none other free. ⊎_elim
          (λ (root : node ≡ 0). absurd (other root))
          (λ (some : self.held.had ≢ 0). absurd (some (c.requires.count ∙ ap (λ (l : _). length {A = Entry} l) none)))
          c.requires.some;
      later = λ some. omega (arith, linear, scale);
      from = omega arith;
      used = omega arith;
      found = tt;
    }
