-- One fixing more, of the unit or of another one.
use Rattle.std.proofs.Common.{arith, ◌≡◌, ℕ, suc, ◌<◌, ◌&&◌, add-one, false, drop, length, sym, subst, Option, Some, None, IfSome}
use Rattle.std.specs.List.{list_all}
use Rattle.uc_model.specs.Prelude.{Commitment}
use Rattle.dual_model.specs.Prelude.{fix_agrees, keeps_of, unit_agrees}
use Rattle.dual_value.specs.inside.Fixes.{Fix, Node, AreBelow, IsFixWith, IsPlain}
use Rattle.dual_value.proofs.FixBits.{fixing-of, fixing-other, fixing_at, none-left, nothing-agrees}
use Rattle.dual_value.proofs.fixes.fix_of.Goals as goal
use Rattle.dual_value.proofs.fixes.fix_of.Goals.{then-fixing-g+in-Some, else-fixing-g}

-- what the fixings before i decide
record AreLeft (node : Node) (g : ℕ) (fix : Fix) (i : ℕ) : Type 0 where
  plain : IsPlain fix
  same : (periods : ℕ) (on : Commitment) → AreBelow periods node
      → unit_agrees node g on ≡ (fix_agrees periods fix on && list_all (keeps_of g on) (drop i node.fixings))

more : (node : Node) (g i : ℕ) (fix next : Fix) (result : Option Fix) → i < length node.fixings → (fixing_at node.fixings i).g ≡ g
    → IsFixWith fix (fixing_at node.fixings i) result → IfSome result IsPlain → result ≡ Some next → AreLeft node g fix i → AreLeft node g next (suc i)
more node g i fix next result h e decided plain is left =
    let with_it = subst (IsFixWith fix (fixing_at node.fixings i)) is decided in
    record {
      plain = subst (λ o. IfSome o IsPlain) is plain;
      same = λ periods on below. grind (arith, fixing-of, node, g, i, periods, fix, on, next, h, e, with_it, below, left);
    }

other : (node : Node) (g i : ℕ) (fix : Fix) → i < length node.fixings → ((fixing_at node.fixings i).g ≡ g → ⊥) → AreLeft node g fix i → AreLeft node g fix (suc i)
other node g i fix h e left = grind (arith, fixing-other, h, e, left)

none : (node : Node) (g i : ℕ) (fix : Fix) (result : Option Fix) → i < length node.fixings → (fixing_at node.fixings i).g ≡ g
    → IsFixWith fix (fixing_at node.fixings i) result → result ≡ None → AreLeft node g fix i
    → (periods : ℕ) → AreBelow periods node → (on : Commitment) → unit_agrees node g on ≡ false
none node g i fix result h e decided is left periods below on =
    let with_it = subst (IsFixWith fix (fixing_at node.fixings i)) is decided in
    fixing-of node g i (fix_agrees periods fix on) false on h e (with_it periods on (below i _ h)) (left.same periods on below)

pub loop-fixing-init : goal.loop-fixing-init
loop-fixing-init c = grind (arith, nothing-agrees, c)

pub loop-fixing-preserved : goal.loop-fixing-preserved
loop-fixing-preserved c =
    let node = c.args.node.now in
    let g = c.args.g in
    let i = c.loop-fixing.fixing-index in
    let items = c.as_slice-fixing-items.ensures in
    let within : i < length node.fixings = subst (λ xs. i < length xs) items c.loop-fixing-test.true in
    let left : AreLeft node g c.loop-fixing.fix i = record { plain = c.loop-fixing.invariant.plain; same = c.loop-fixing.invariant.same } in
    let next : AreLeft node g c.if-fixing-g.fix (suc i) =
    elim c.if-fixing-g.branch [
      | then-fixing-g+in-Some w ↦
          subst (λ fix. AreLeft node g fix (suc i)) (sym w.fix-is)
          (more node g i c.loop-fixing.fix w.in-Some.more w.decided.result within
          (subst (λ xs. (fixing_at xs i).g ≡ g) items w.if-fixing-g.true)
          (subst (λ xs. IsFixWith c.loop-fixing.fix (fixing_at xs i) w.decided.result) items w.decided.ensures.fix)
          w.decided.ensures.plain w.in-Some.is left)
      | else-fixing-g w ↦
          subst (λ fix. AreLeft node g fix (suc i)) (sym w.fix-is)
          (other node g i c.loop-fixing.fix within (λ e. w.if-fixing-g.false (subst (λ xs. (fixing_at xs i).g ≡ g) (sym items) e)) left)
    ] in
    record {
      plain = next.plain;
      same = λ periods on below.
          subst (λ k. unit_agrees node g on ≡ (fix_agrees periods c.if-fixing-g.fix on && list_all (keeps_of g on) (drop k node.fixings)))
          (sym (add-one i)) (next.same periods on below);
    }

pub returns-in-None : goal.returns-in-None
returns-in-None c =
    let node = c.args.node.now in
    let items = c.as_slice-fixing-items.ensures in
    let i = c.loop-fixing.fixing-index in
    none node c.args.g i c.loop-fixing.fix c.decided.result (subst (λ xs. i < length xs) items c.loop-fixing-test.true)
    (subst (λ xs. (fixing_at xs i).g ≡ c.args.g) items c.if-fixing-g.true)
    (subst (λ xs. IsFixWith c.loop-fixing.fix (fixing_at xs i) c.decided.result) items c.decided.ensures.fix)
    c.in-None.is
    (record { plain = c.loop-fixing.invariant.plain; same = c.loop-fixing.invariant.same })

pub returns : goal.returns
returns c = grind (arith, none-left, c)
