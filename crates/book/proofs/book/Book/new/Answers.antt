-- The fields are those of the opening.
use Rattle.std.proofs.Common.{◌≡◌, ◌+◌, ◌*◌, ◌∷◌, [], length, ap, sym, ◌∙◌, subst, arith, refl, false, to_z, of_z, pos}
use Rattle.std.specs.Int.{w128}
use Rattle.std.specs.Vec.{vec_capacity}
use Rattle.std.proofs.lemmas.Int.{to_z-of_z}
use Rattle.std.proofs.lemmas.List.{length-replicate}
use Rattle.uc_model.specs.Prelude.{thermal_count}
use Rattle.uc_model.specs.declared.instance.Instance.{Instance}
use Rattle.branch_tree.specs.Prelude.{EndAt}
use Rattle.branch_tree.specs.declared.tree.Leaf.TheVariants as leaf
use Rattle.search_machine.specs.Prelude.{room_for}
use Rattle.book.specs.BookView.{opened}
use Rattle.book.specs.inside.Chains.{LogView}
use Rattle.book.specs.inside.Kept.{ClaimsView, view_of, rooms_of, IsKept}
use Rattle.book.proofs.Books.{kept_start}
use Rattle.book.proofs.book.Book.new.Goals as goal

pub invariant_of-result : goal.invariant_of-result
invariant_of-result g c =
    let opening = g.C.Case.opening in
    let tree = c.in_ok-tree.tree in
    let tables = c.in_ok-tables.tables in
    let log = c.in_ok-log.log in
    let claims = c.in_ok-log.claims in
    let rooms = rooms_of 1 (vec_capacity tables) log claims in
    let units : length c.as_slice.result.now ≡ thermal_count opening.instance =
    ap length c.as_slice.ensures ∙ ap (λ (it : Instance). thermal_count it) c.requires.instance in
    let value : to_z w128 (of_z w128 c.args.value) ≡ opening.value = to_z-of_z w128 c.args.value c.ranges.value ∙ c.requires.value in
    let tree_is = c.in_ok-tree.ensures ∙ (λ i. record {
      units = units i;
      periods = (c.requires.instance i).periods;
      room = room_for (c.requires.budget i);
      nodes = EndAt 0 (leaf.Live 0 (value i) false);
    }) in
    let tables_are = c.in_ok-tables.ensures.items ∙ ap (λ table. table ∷ []) c.requires.table in
    let log_is = ap (λ (v : LogView). v.entries) c.in_ok-log.ensures.log in
    let claims_are = ap (λ (v : ClaimsView). v.claims) c.in_ok-log.ensures.claims in
    let view : view_of c.args.budget c.args.gap tree tables.items log claims ≡ opened opening = λ i. record {
      budget = c.requires.budget i;
      gap = c.requires.gap i;
      tree = tree_is i;
      tables = tables_are i;
      log = log_is i;
      claims = claims_are i;
    } in
    subst (λ b. IsKept opening b rooms) (sym view)
    (kept_start opening rooms c.requires.opening refl (omega (arith, c.in_ok-tables.ensures.room, c.requires.budget))
    (ap (λ (v : LogView). v.room) c.in_ok-log.ensures.log ∙ c.requires.budget)
    (ap (λ (v : ClaimsView). v.room) c.in_ok-log.ensures.claims ∙ c.requires.budget)
    (ap (λ (v : LogView). v.nodes) c.in_ok-log.ensures.log ∙ ap (λ n. 2 * n + 1) c.requires.budget)
    (ap (λ (v : ClaimsView). v.nodes) c.in_ok-log.ensures.claims ∙ ap (λ n. 2 * n + 1) c.requires.budget)
    (ap (λ (v : LogView). length v.greatest) c.in_ok-log.ensures.log
    ∙ length-replicate (2 * c.args.budget + 1) (pos 0)
    ∙ sym (ap (λ (v : LogView). v.nodes) c.in_ok-log.ensures.log)))
