-- The length of a segment more, and the reserve.
use Rattle.std.proofs.Common.{◌≡◌, ℕ, ◌∷◌, [], ◌++◌, ap, ◌∙◌, arith}
use Rattle.dispatch_rules.specs.declared.amount.Amount.TheVariants.{Held, Length}
use Rattle.dispatch_rules.specs.Prelude.{listed}
use Rattle.dispatch_table.proofs.Pushed.{push_both, push_listed}
use Rattle.dispatch_table.proofs.amounts.push_cell.Goals as goal

pub loop-k-preserved : goal.loop-k-preserved
loop-k-preserved c =
    push_listed c.args.all.now.items c.loop-k.all.items c.push.new.self.items c.loop-k.k (λ k. Length c.args.g c.args.t k ∷ []) c.loop-k.invariant c.in_ok-push.ensures.items

pub returns : goal.returns
returns c =
    let lengths = λ (k : ℕ). Length c.args.g c.args.t k ∷ [] in
    let whole : c.loop-k.k ≡ c.args.segments = omega arith in
    push_both c.args.all.now.items c.loop-k.all.items c.push-2.new.self.items (listed c.args.segments lengths) (Held c.args.g c.args.t ∷ [])
    (c.loop-k.invariant ∙ ap (λ n. c.args.all.now.items ++ listed n lengths) whole) c.in_ok-push-2.ensures.items
