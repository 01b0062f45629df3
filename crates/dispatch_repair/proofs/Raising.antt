-- Ranges can be filled in the order of merit.
use Rattle.std.proofs.Common.{◌≡◌, ℕ, zero, suc, ◌<◌, ◌≤◌, ◌⊎◌, inl, inr, refl, sym, subst, ◌∙◌, arith, List, length, ℤ, pos, ◌+ℤ◌, ◌-ℤ◌, ◌≤ℤ◌, ◌<ℤ◌, unsigned_abs, nat_lt, if◌then◌else◌, slice_set, get_or-set_same, get_or-set_other, length-set}
use Rattle.std.specs.Int.{int_min}
use Rattle.std.proofs.lemmas.Int.{ints}
use Rattle.std.proofs.lemmas.Bool.{cases_lt, cond-false, cond-true, cond_both, le-ltb, lt-ltb}
use Rattle.uc_model.specs.Prelude.{renewable_count}
use Rattle.uc_model.proofs.Common.{linear, le_or_lt, int_min_left, int_min_right}
use Rattle.dispatch_repair.specs.Prelude.{Instance, Range, range_at, Left, IsLeft, IsOpen, IsRaise, IsFilledTo, end_of, Segment, AreInMeritOrder, no_segment, segment_at, source_count}
use Rattle.dispatch_repair.specs.Amounts.{amount_at}
use Rattle.dispatch_repair.proofs.Filling.{filled_none, step}
use Rattle.dispatch_repair.specs.inside.Rows.{list_of}
use Rattle.dispatch_repair.proofs.Listed.{listed, listed_length}
use Rattle.dispatch_repair.proofs.SourceSlopes.{next_run}

-- a part of a number that isn't negative is no greater
smaller : (whole part : ℤ) (m : ℕ) → pos 0 ≤ℤ part → part ≤ℤ whole → unsigned_abs whole ≤ m → unsigned_abs part ≤ m
smaller whole part m low high h = grind (arith, ints, low, high, h)

-- ---- one segment's source
-- what a source may take of what is left: a thermal unit within their room
abbrev pub spare_of : ℕ → ℕ → Left → ℤ
spare_of renewables s left = if nat_lt s renewables then left.need else int_min left.need left.room

pub spare_free : (renewables s : ℕ) (left : Left) → s < renewables → spare_of renewables s left ≡ left.need
spare_free renewables s left h = cond-true (nat_lt s renewables) _ _ (lt-ltb s renewables h)

pub spare_thermal : (renewables s : ℕ) (left : Left) → renewables ≤ s → spare_of renewables s left ≡ int_min left.need left.room
spare_thermal renewables s left h = cond-false (nat_lt s renewables) _ _ (le-ltb s renewables h)

-- a part of an amount's way up to an end: all of it, or all that there is
pub record IsPart (amount end more most : ℤ) : Type 0 where
  pub up : pos 0 ≤ℤ more
  pub within : pos 0 <ℤ more → (amount +ℤ more) ≤ℤ end
  pub done : (end ≤ℤ (amount +ℤ more)) ⊎ (more ≡ most)

-- what is left after so much
pub record IsRest (renewables s : ℕ) (more : ℤ) (before after : Left) : Type 0 where
  pub need : after.need ≡ before.need -ℤ more
  pub free : s < renewables → after.room ≡ before.room
  pub thermal : renewables ≤ s → after.room ≡ before.room -ℤ more
  pub left : IsLeft after

-- the lesser of two numbers is one of them
one_of : (a b : ℤ) → (int_min a b ≡ a) ⊎ (int_min a b ≡ b)
one_of a b = cond_both _ b a (λ z. (z ≡ a) ⊎ (z ≡ b)) (λ e. inr refl) (λ e. inl refl)

-- a source that takes a part of what is left is raised
pub is_raise : (renewables : ℕ) (ranges : List Range) (segment : Segment) (old : List ℤ) (before after : Left) (more sum : ℤ) → segment.source < length old
    → sum ≡ amount_at old segment.source +ℤ more
    → IsPart (amount_at old segment.source) (end_of ranges segment) more (spare_of renewables segment.source before) → IsRest renewables segment.source more before after
    → IsRaise renewables ranges segment old (slice_set old segment.source sum) before after
is_raise renewables ranges segment old before after more sum inside is part rest = record {
  more = more;
  up = part.up;
  amount = amount;
  others = λ n apart. get_or-set_other old s n sum (pos 0) apart;
  count = length-set old s sum;
  need = rest.need;
  free = rest.free;
  thermal = rest.thermal;
  left = rest.left;
  within = λ up. subst (λ z. z ≤ℤ end_of ranges segment) (sym amount) (part.within up);
  done = elim part.done [
    | inl full ↦ inl (subst (λ z. end_of ranges segment ≤ℤ z) (sym amount) full)
    | inr all ↦ inr (elim (cases_lt s renewables) [
      | inl free ↦ inl (omega (arith, linear, rest.need, all ∙ spare_free renewables s before free))
      | inr thermal ↦ elim (one_of before.need before.room) [
        | inl need ↦ inl (omega (arith, linear, rest.need, all ∙ spare_thermal renewables s before thermal ∙ need))
        | inr room ↦ inr (thermal, omega (arith, linear, rest.thermal thermal, all ∙ spare_thermal renewables s before thermal ∙ room))
      ]
    ])
  ];
}
  where
    s : ℕ
    s = segment.source

    amount : amount_at (slice_set old s sum) s ≡ amount_at old s +ℤ more
    amount = get_or-set_same old s sum (pos 0) inside ∙ is

-- ---- each source can be raised
record HasRaise (renewables : ℕ) (ranges : List Range) (segment : Segment) (old : List ℤ) (before : Left) : Type 0 where
  new : List ℤ
  after : Left
  is : IsRaise renewables ranges segment old new before after

record HasPart (amount end most : ℤ) : Type 0 where
  more : ℤ
  spare : more ≤ℤ most
  is : IsPart amount end more most

part : (amount end most : ℤ) → pos 0 ≤ℤ most → HasPart amount end most
part amount end most some = elim (le_or_lt end amount) [
  | inl full ↦ record {
    more = pos 0;
    spare = some;
    is = record {
      up = omega (arith, linear);
      within = λ up. absurd (omega (arith, linear, up));
      done = inl (omega (arith, linear, full));
    };
  }
  | inr less ↦ elim (le_or_lt (end -ℤ amount) most) [
    | inl all ↦ record {
      more = end -ℤ amount;
      spare = all;
      is = record { up = omega (arith, linear, less); within = λ up. omega (arith, linear); done = inl (omega (arith, linear)) };
    }
    | inr short ↦ record { more = most; spare = omega (arith, linear); is = record { up = some; within = λ up. omega (arith, linear, short); done = inr refl } }
  ]
]

module _ (renewables : ℕ) (ranges : List Range) (segment : Segment) (old : List ℤ) (before : Left)
    (inside : segment.source < length old) (left : IsLeft before) where
  abbrev s : ℕ
  s = segment.source

  abbrev spare : ℤ
  spare = spare_of renewables s before

  raise_by : (after : Left) (it : HasPart (amount_at old s) (end_of ranges segment) spare) → IsRest renewables s it.more before after
      → HasRaise renewables ranges segment old before
  raise_by after it rest = record {
    new = slice_set old s (amount_at old s +ℤ it.more);
    after = after;
    is = is_raise renewables ranges segment old before after it.more _ inside refl it.is rest;
  }

  raise : HasRaise renewables ranges segment old before
  raise = elim (cases_lt s renewables) [
    | inl free ↦
        let is = spare_free renewables s before free in
        let it = part (amount_at old s) (end_of ranges segment) spare (omega (arith, linear, is, left.need)) in
        raise_by (record { need = before.need -ℤ it.more; room = before.room }) it (record {
          need = refl;
          free = λ h. refl;
          thermal = λ h. absurd (omega (arith, h, free));
          left = record {
            need = omega (arith, linear, it.spare, is);
            room = left.room;
            need_size = smaller before.need (before.need -ℤ it.more) _ (omega (arith, linear, it.spare, is)) (omega (arith, linear, it.is.up)) left.need_size;
            room_size = left.room_size;
          };
        })
    | inr thermal ↦
        let is = spare_thermal renewables s before thermal in
        let to_need = int_min_left before.need before.room in
        let to_room = int_min_right before.need before.room in
        let some : pos 0 ≤ℤ int_min before.need before.room = grind (arith, ints, left.need, left.room) in
        let it = part (amount_at old s) (end_of ranges segment) spare (omega (arith, linear, is, some)) in
        raise_by (record { need = before.need -ℤ it.more; room = before.room -ℤ it.more }) it (record {
          need = refl;
          free = λ h. absurd (omega (arith, h, thermal));
          thermal = λ h. refl;
          left = record {
            need = omega (arith, linear, it.spare, is, to_need);
            room = omega (arith, linear, it.spare, is, to_room);
            need_size = smaller before.need (before.need -ℤ it.more) _ (omega (arith, linear, it.spare, is, to_need)) (omega (arith, linear, it.is.up)) left.need_size;
            room_size = smaller before.room (before.room -ℤ it.more) _ (omega (arith, linear, it.spare, is, to_room)) (omega (arith, linear, it.is.up)) left.room_size;
          };
        })
  ]

-- ---- all segments
pub record HasFilling (instance : Instance) (order : List Segment) (ranges : List Range) (start : Left) (i : ℕ) : Type 0 where
  pub amounts : List ℤ
  pub rest : Left
  pub is : IsFilledTo instance order ranges start i amounts rest

module _ (instance : Instance) (order : List Segment) (ranges : List Range) (start : Left) (are : AreInMeritOrder instance order)
    (opens : (n : ℕ) → n < source_count instance → IsOpen instance n (range_at ranges n)) (left : IsLeft start) where
  abbrev lows : List ℤ
  lows = list_of (source_count instance) (λ n. (range_at ranges n).low)

  -- Cite by `use Rattle.dispatch_repair.proofs.Raising.{filling}`.
  pub filling : (i : ℕ) → i ≤ length order → HasFilling instance order ranges start i
  filling zero h = record {
    amounts = lows;
    rest = start;
    is = filled_none instance order ranges start lows (listed_length (source_count instance) _) opens
        (λ n within. listed (source_count instance) (λ n. (range_at ranges n).low) n (pos 0) within) left;
  }
  filling (suc i) h =
      let was = filling i (omega arith) in
      let source = (are.segments.each i no_segment (omega arith)).source in
      let more = raise (renewable_count instance) ranges (segment_at order i) was.amounts was.rest
      (subst (λ n. (segment_at order i).source < n) (sym was.is.count) source) was.is.left in
      record {
        amounts = more.new;
        rest = more.after;
        is = step instance order ranges start i was.amounts more.new was.rest more.after are (omega arith) opens (next_run instance) was.is more.is;
      }
