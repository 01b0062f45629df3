-- By what a proof tells two desks apart: each stands as the tuple of its parts.
use Rattle.std.specs.Prelude.{Bool, ℤ, Option, refl}
use Rattle.std.specs.Coded.{Coded, code_by, coded×, coded_ℤ, coded_option, coded_bool}
use Rattle.book.specs.BookCode.{book_code}
use Rattle.search_desk.specs.Desks.{BookView, DeskView}

abbrev pub DeskParts : Type 0
DeskParts = BookView × (Option ℤ × Bool)

abbrev pub desk_code : Coded DeskView
desk_code = code_by DeskParts (coded× book_code (coded× (coded_option coded_ℤ) coded_bool))
    (λ d. (d.book, (d.seen, d.failed)))
    (λ p. record { book = p.0; seen = p.1.0; failed = p.1.1 })
    (λ _. refl)
