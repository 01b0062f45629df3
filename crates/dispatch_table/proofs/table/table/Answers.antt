-- The parts make up the table of the program.
use Rattle.std.proofs.Common.{◌≡◌, ℕ, ◌+◌, arith, ap, sym, subst, ◌∙◌, List, length, map, ℤ}
use Rattle.std.proofs.lemmas.List.{length-map}
use Rattle.pivot_run.specs.Prelude.{IsTable}
use Rattle.dispatch_program.specs.Prelude.{Program, CostLine, RightSide, basic_column, columns_of, line_number, lines_of, place, start_rows, start_table}
use Rattle.dispatch_program.proofs.StartTables.{starts_are_tables}
use Rattle.dispatch_program.proofs.Starts.{columns_long}
use Rattle.dispatch_rules.specs.Prelude.{limit_of}
use Rattle.dispatch_table.specs.Numbers.{program_of}
use Rattle.dispatch_table.proofs.table.table.Goals as goal

parts : (p : Program) (pivot : List ℤ) (rows : List (List ℤ)) (count : ℕ) (basis : List ℕ) → pivot ≡ map (line_number p CostLine) (columns_of p) → rows ≡ start_rows p
    → count ≡ p.rules → basis ≡ map (λ line. place p (basic_column p line)) (lines_of p)
    → record { columns = length pivot; rows = rows; constraints = count; basis = basis } ≡ start_table p
parts p pivot rows count basis one two three four =
    let wide : length pivot ≡ place p RightSide + 1 =
    ap length one ∙ length-map (columns_of p) (line_number p CostLine) ∙ (let long = columns_long p in omega arith) in
    λ j. record { columns = wide j; rows = two j; constraints = three j; basis = four j }

pub joined-requires : goal.joined-requires
joined-requires c =
    subst IsTable
    (sym (parts (program_of c.args.numbers.now) c.in_ok-pivot.pivot c.in_ok-rows.rows.items _ c.in_ok-basis.basis.items c.in_ok-pivot.ensures c.in_ok-rows.ensures
    (ap length c.as_slice-limits.ensures.value ∙ sym (length-map c.args.numbers.now.limits.items limit_of)) c.in_ok-basis.ensures))
    (starts_are_tables (program_of c.args.numbers.now)).table

pub returns : goal.returns
returns c =
    c.joined.ensures
    ∙ parts (program_of c.args.numbers.now) c.in_ok-pivot.pivot c.in_ok-rows.rows.items _ c.in_ok-basis.basis.items c.in_ok-pivot.ensures c.in_ok-rows.ensures
    (ap length c.as_slice-limits.ensures.value ∙ sym (length-map c.args.numbers.now.limits.items limit_of)) c.in_ok-basis.ensures
