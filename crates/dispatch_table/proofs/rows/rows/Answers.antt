-- The row of one rule more, and the last two.
use Rattle.std.proofs.Common.{◌≡◌, ℕ, suc, ◌+◌, ◌++◌, arith, ap, sym, subst, ◌∙◌, List, [], ◌∷◌, map, length, ℤ, append_assoc}
use Rattle.std.proofs.lemmas.List.{length-map, map-append}
use Rattle.dispatch_program.specs.Prelude.{Line, RuleLine, SumLine, CostLine, all, columns_of, line_number, picked}
use Rattle.dispatch_rules.specs.Prelude.{limit_of}
use Rattle.dispatch_table.specs.Numbers.{program_of}
use Rattle.dispatch_table.proofs.rows.rows.Goals as goal

one_more : (f : Line → List ℤ) (n : ℕ) (rows old : List (List ℤ)) → old ≡ map f (picked all RuleLine n) → rows ≡ old ++ f (RuleLine n) ∷ []
    → rows ≡ map f (picked all RuleLine (n + 1))
one_more f n rows old before pushed =
    let next : suc n ≡ n + 1 = omega arith in
    subst (λ m. rows ≡ map f (picked all RuleLine m)) next
    (pushed ∙ ap (λ it. it ++ f (RuleLine n) ∷ []) before ∙ sym (map-append f (picked all RuleLine n) (RuleLine n ∷ [])))

-- and those of the sum and of the cost behind them
all_rows : (f : Line → List ℤ) (n : ℕ) (rows two new : List (List ℤ)) → rows ≡ map f (picked all RuleLine n) → two ≡ rows ++ f SumLine ∷ []
    → new ≡ two ++ f CostLine ∷ [] → new ≡ map f (picked all RuleLine n ++ (SumLine ∷ CostLine ∷ []))
all_rows f n rows two new before second third =
    third
    ∙ ap (λ it. it ++ f CostLine ∷ []) second
    ∙ append_assoc rows (f SumLine ∷ []) (f CostLine ∷ [])
    ∙ ap (λ it. it ++ (f SumLine ∷ f CostLine ∷ [])) before
    ∙ sym (map-append f (picked all RuleLine n) (SumLine ∷ CostLine ∷ []))

pub loop-i-preserved : goal.loop-i-preserved
loop-i-preserved c =
    one_more (λ line. map (line_number (program_of c.args.numbers.now) line) (columns_of (program_of c.args.numbers.now))) c.loop-i.i c.push_row.new.rows.items c.loop-i.rows.items
    c.loop-i.invariant c.in_ok-push_row.ensures

pub returns : goal.returns
returns c =
    let p = program_of c.args.numbers.now in
    let f = λ (line : Line). map (line_number p line) (columns_of p) in
    let whole : c.loop-i.i ≡ length (map limit_of c.args.numbers.now.limits.items) = omega (arith, length-map c.args.numbers.now.limits.items limit_of) in
    all_rows f c.loop-i.i c.loop-i.rows.items c.push_row-2.new.rows.items c.push_row-3.new.rows.items c.loop-i.invariant c.in_ok-push_row-2.ensures
    c.in_ok-push_row-3.ensures
    ∙ ap (λ n. map f (picked all RuleLine n ++ (SumLine ∷ CostLine ∷ []))) whole
