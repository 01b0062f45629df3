-- By what a proof tells two books apart: each stands as the tuple of its parts.
use Rattle.std.specs.Prelude.{ℕ, List, refl}
use Rattle.std.specs.Coded.{Coded, code_by, coded_ℕ, coded_list, coded×}
use Rattle.dual_model.specs.contracts.table.Table as table
use Rattle.branch_tree.specs.Prelude.{TreeView, tree_view_code}
use Rattle.branch_tree.specs.contracts.found.Entry as entry
use Rattle.book.specs.contracts.claims.Claim as claim
use Rattle.book.specs.BookView.{Entry, Table, BookView}
use Rattle.book.specs.Claims.{Claim}

abbrev pub BookParts : Type 0
BookParts = ℕ × (ℕ × (TreeView × (List Table × (List Entry × List Claim))))

abbrev pub book_parts_code : Coded BookParts
book_parts_code =
    coded× coded_ℕ (coded× coded_ℕ (coded× tree_view_code (coded× (coded_list table.the_row.coded)
    (coded× (coded_list entry.the_row.coded) (coded_list claim.the_row.coded)))))

abbrev pub book_code : Coded BookView
book_code = code_by BookParts book_parts_code
    (λ b. (b.budget, (b.gap, (b.tree, (b.tables, (b.log, b.claims))))))
    (λ p. record {
      budget = p.0;
      gap = p.1.0;
      tree = p.1.1.0;
      tables = p.1.1.1.0;
      log = p.1.1.1.1.0;
      claims = p.1.1.1.1.1;
    })
    (λ _. refl)
