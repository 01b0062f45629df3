-- The buffer holds the whole part, the point and the decimals one after the other.
use Rattle.std.proofs.Common.{◌≡◌, ℕ, ◌+◌, ◌-◌, ◌/◌, ◌%◌, ◌^◌, ◌<◌, ◌≤◌, List, ◌∷◌, ◌++◌, length, take, set, decimal, ap, ◌∙◌, arith, append_assoc}
use Rattle.std.proofs.lemmas.List.{length-append, length-take-le, length-drop, length-set, take_more_set}
use Rattle.std.proofs.lemmas.Slice.{take-put_mid}
use borrow.Rule.Slice.PartMut.{put_mid}
use Rattle.uc_model.specs.Decimal.{whole_text}
use Rattle.uc_model.specs.Money.{millionths_text, six_digits}
use Rattle.uc_model.proofs.DecimalText.{decimal-whole_text}
use Rattle.uc_model.proofs.MoneyText.{length-millionths_text, length-six_digits}
use Rattle.uc_model.proofs.money.write_millionths.Goals as goal

-- a write to a part keeps the length
length-put_mid : (at long : ℕ) (bytes part : List ℕ) → at + long ≤ length bytes → length part ≡ long → length (put_mid at long bytes part) ≡ length bytes
length-put_mid at long bytes part room same = grind (arith, length-append, length-take-le, length-drop, room, same)

-- two parts and a byte between them, written behind what stood before
written : (out whole decimals : List ℕ) (start : ℕ) → start + length whole + 7 ≤ length out → length decimals ≡ 6
    → take (start + length whole + 7)
    (put_mid (start + length whole + 1) (start + length whole + 7 - (start + length whole + 1))
    (set (put_mid start (start + length whole - start) out whole) (start + length whole) 46) decimals)
    ≡ take start out ++ (whole ++ 46 ∷ decimals)
written out whole decimals start room six = grind (arith, length-put_mid, length-set, take-put_mid, take_more_set, append_assoc, room, six)

-- the whole part and the decimals, as the two calls wrote them
whole_is : (size million : ℕ) (written : List ℕ) → size < 2 ^ 128 → million ≡ 1000000 → written ≡ decimal (size / million)
    → written ≡ whole_text (size / 1000000)
whole_is size million written small is text = grind (arith, decimal-whole_text, small, is, text)

pub returns-clause-length : goal.returns-clause-length
returns-clause-length c = grind (arith, whole_is, length-millionths_text, c)

pub returns-clause-text : goal.returns-clause-text
unfolding millionths_text
returns-clause-text c =
    let whole = whole_is c.args.size c.from.result c.as_bytes-whole.result.now c.ranges.size.fits c.from.ensures (c.as_bytes-whole.ensures.value ∙ c.format.ensures.text) in
    let digits : c.copy_from_slice-2.new.self ≡ six_digits (c.args.size % 1000000) =
    c.copy_from_slice-2.ensures.after ∙ c.decimals.ensures ∙ ap (λ n. six_digits (c.args.size % n)) c.from-2.ensures in
    rw (c.copy_from_slice.ensures.after, digits)
    (written c.args.out.now c.as_bytes-whole.result.now (six_digits (c.args.size % 1000000)) c.args.start (omega (arith, c.told-out, c.requires, c.format.ensures.short, ap length c.as_bytes-whole.ensures.value)) (length-six_digits (c.args.size % 1000000))
    ∙ ap (λ bytes. take c.args.start c.args.out.now ++ (bytes ++ 46 ∷ six_digits (c.args.size % 1000000))) whole)
