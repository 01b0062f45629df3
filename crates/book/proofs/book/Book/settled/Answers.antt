-- What is open, and what is held.
use Rattle.std.proofs.Common.{refl}
use Rattle.book.specs.Prelude.{state_of}
use Rattle.book.proofs.Books.{held_is}
use Rattle.book.proofs.book.Book.settled.Goals as goal

pub returns-in-Some-first_held : goal.returns-in-Some-first_held
returns-in-Some-first_held g c = (
  (λ h. absurd (cc)),
  (λ settled.
      let found = c.in-Some-first_held.field-0 in
      absurd (settled.none_held found.2
      (held_is (state_of c.args.self.now) found.1 found.0 found.2 c.in-Some-first_held.ensures.some.holds))),
)

pub returns-in-None-first_held : goal.returns-in-None-first_held
returns-in-None-first_held g c = (
  (λ h. record {
    none_open = c.first_open.ensures.none c.in-None.is;
    none_held = c.first_held.ensures.none c.in-None-first_held.is;
  }),
  (λ settled. refl),
)
