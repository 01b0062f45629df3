-- The walk goes from an entry of the node to the one before it.
use Rattle.std.proofs.Common.{◌≡◌, ℕ, ◌-◌, suc, ap, sym, ◌∙◌, subst, arith, Some, slice_get, get_or}
use Rattle.std.proofs.lemmas.Option.{slice_get-get_or}
use Rattle.book.specs.inside.Chains.{LogView, Entry, IsNewest, IsWalked, IsElsewhere}
use Rattle.book.proofs.Links.{entry_of, walk_on, walk_ends}
use Rattle.book.proofs.log.Log.is_fresh.Goals.{After-index}
use Rattle.book.proofs.log.Log.is_fresh.Goals as goal

module _ (c : After-index) where
  abbrev place : ℕ
  place = c.loop-link.link - 1

  walked : IsWalked c.self.inside.entries.items c.args.tables.now c.args.table.now c.args.exact c.args.node c.loop-link.link
  walked = subst (λ (v : LogView). IsWalked v.entries c.args.tables.now c.args.table.now c.args.exact c.args.node c.loop-link.link) (sym c.self.view_is)
      c.loop-link.invariant

  link_is : c.loop-link.link ≡ suc place
  link_is = omega (arith, c.loop-link-test.true)

  here : slice_get c.self.inside.entries.items place ≡ Some c.index.result.now
  here =
      slice_get-get_or c.self.inside.entries.items place c.index.result.now (omega (arith, link_is, walked.within))
      ∙ ap (λ (e : Entry). Some e) (sym c.index.ensures)

  -- the entry before it, to which this link leads
  newest : (link : ℕ) → link ≡ get_or c.self.inside.previous.items place link
      → IsNewest c.self.inside.entries.items place c.index.result.now.node link
  newest link is = c.self.invariant.0.earlier place link c.index.result.now
      (slice_get-get_or c.self.inside.previous.items place link (omega (arith, link_is, walked.within, c.self.invariant.0.linked))
      ∙ ap (λ n. Some n) (sym is))
      here

pub returns-then-is_at : goal.returns-then-is_at
returns-then-is_at c =
    let at = (goal.at.returns-then-is_at c).After-index in (
      (λ h. absurd (cc)),
      (λ all.
          let entry = c.index.result.now in
          let own = (walked at).own (place at) entry (link_is at) (here at) in
          let at_it = c.is_at.ensures.at c.if-is_at.true in
          let now : slice_get c.args.self.now.entries (place at) ≡ Some entry =
          ap (λ (v : LogView). slice_get v.entries (place at)) (sym c.self.view_is) ∙ here at in
          absurd (entry_of (IsElsewhere c.args.tables.now c.args.table.now c.args.exact) c.args.self.now.entries c.args.node (place at) entry all now own
          at_it.0 at_it.1)),
    )

pub loop-link-smaller : goal.loop-link-smaller
loop-link-smaller c =
    let at = (goal.at.loop-link-smaller c).After-index in
    let before = newest at c.index-link.result.now c.index-link.ensures in
    omega (arith, before.within, link_is at)

pub loop-link-preserved : goal.loop-link-preserved
loop-link-preserved c =
    let at = (goal.at.loop-link-preserved c).After-index in
    let entries = c.self.inside.entries.items in
    let link = c.index-link.result.now in
    subst (λ (v : LogView). IsWalked v.entries c.args.tables.now c.args.table.now c.args.exact c.args.node link) c.self.view_is
    (walk_on entries c.args.tables.now c.args.table.now c.args.exact c.args.node (place at) link c.index.result.now
    (subst (IsWalked entries c.args.tables.now c.args.table.now c.args.exact c.args.node) (link_is at) (walked at)) (here at)
    (c.is_at.ensures.elsewhere c.if-is_at.false) (newest at link c.index-link.ensures))

pub returns : goal.returns
returns c = grind (arith, walk_ends, c)
