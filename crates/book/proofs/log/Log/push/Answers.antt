-- The entry is its node's newest, and leads to the one before it.
use Rattle.std.proofs.Common.{◌≡◌, ◌<◌, ◌+◌, suc, ◌∷◌, ◌++◌, [], length, set, ap, sym, ◌∙◌, subst, arith, Some, slice_get}
use Rattle.std.proofs.lemmas.Option.{slice_get-get_or}
use Rattle.book.specs.inside.Chains.{LogView, AreLinked}
use Rattle.book.proofs.Links.{entries_few, linked_push}
use Rattle.book.proofs.log.Log.push.Goals as goal

pub overflow_add-index_mut : goal.overflow_add-index_mut
overflow_add-index_mut c = grind (arith, slice_get-get_or, entries_few, c)

pub invariant_of-self : goal.invariant_of-self
invariant_of-self c =
    let a = c.self.inside in
    let entry = c.args.entry in
    let node = entry.node in
    let link = c.index.result.now in
    let count = c.index_mut-2.result.now in
    let nodes = subst (λ (v : LogView). node < v.nodes) (sym c.self.view_is) c.requires.node in
    let inside : node < length a.newest.items = omega (arith, nodes, a.newest.ok.0) in
    let counted : slice_get a.counts.items node ≡ Some count =
    slice_get-get_or a.counts.items node count (omega (arith, inside, c.self.invariant.0.counted))
    ∙ ap (λ n. Some n) (sym c.index_mut-2.ensures.value) in
    let linked : slice_get a.newest.items node ≡ Some link =
    slice_get-get_or a.newest.items node link inside ∙ ap (λ n. Some n) (sym c.index.ensures) in
    let last : suc (length a.entries.items) ≡ c.len.result =
    omega (arith, c.len.ensures, c.push_reserved-2.ensures.len, a.entries.ok.0) in
    let made = linked_push a.entries.items a.previous.items a.newest.items a.counts.items entry link count c.self.invariant.0 inside linked counted in (
      subst (λ es. AreLinked es c.push_reserved.new.self.items (set a.newest.items node c.len.result) (set a.counts.items node (count + 1)))
          (sym c.push_reserved-2.ensures.items)
          (subst (λ ps. AreLinked (a.entries.items ++ entry ∷ []) ps (set a.newest.items node c.len.result) (set a.counts.items node (count + 1)))
          (sym c.push_reserved.ensures.items)
          (subst (λ n. AreLinked (a.entries.items ++ entry ∷ []) (a.previous.items ++ link ∷ []) (set a.newest.items node n) (set a.counts.items node (count + 1)))
          last made)),
      c.push_reserved.ensures.capacity ∙ c.self.invariant.1 ∙ sym c.push_reserved-2.ensures.capacity,
      omega (arith, c.push_reserved-2.ensures.capacity, c.self.invariant.2),
      c.self.invariant.3,
    )
