-- The forms of the lines of prices and of a schedule read what they write, and nothing else.
use Rattle.std.proofs.Common.{ℕ, ℤ, ◌≤◌, arith, ◌≡◌, zero, suc, true, false, List, [], ◌∷◌, get_or, sym, ap, ◌∙◌, Bool, ◌++◌, drop, Option, Some, None, refl, subst, append_assoc, cond, inl, inr, ◌⊎◌, nat_eq, IfSome, codes}
use Rattle.std.specs.Bool.{Decides}
use Rattle.std.proofs.lemmas.Bool.Decides.{Decides-and}
use Rattle.std.proofs.lemmas.Bool.{leb-true, le-leb, ne_eqb, false≢true}
use Rattle.std.proofs.lemmas.List.{get_or_append_left}
use Rattle.uc_model.specs.Decimal.{whole_text}
use Rattle.uc_model.specs.Money.{money_text}
use Rattle.uc_model.proofs.MoneyText.{money_text_bytes, money_text_nonempty}
use Rattle.outside.specs.Lines.{line}
use Rattle.cert_text.specs.TextConditions.{IsDenominator}
use Rattle.cert_text.specs.CertificateText.{Version, First, Second, Third}
use Rattle.cert_text.specs.Grammar.{ScheduleHead, IsScheduleHead, schedule_line, PlanLine, Priced, Unpriced, plan_line, IsPenaltyLine, IsPlanLine}
use Rattle.cert_text.specs.inside.Forms.{text_at, after, ended, mapped, passing, whole_at, is_penalty, penalty_at, tells_exact, is_over, denominator_at, head_from, head_at, schedule_at, plan_at}
use Rattle.cert_text.proofs.FormLaws.{IsForm, Anything, IsChosen, NoDigit, text_at-takes, after-form, both-form, form-as, image-form, mapped-form, passing-form, choice-form, empty-form, money-form, last_whole, spaced_whole}

none_from : {A : Type 0} (o : Option A) → ((a : A) → o ≡ Some a → ⊥) → o ≡ None
none_from None h = refl
none_from (Some a) h = absurd (h a refl)

-- money doesn't begin with a letter
money_is_no_word : (z : ℤ) (more rest other : List ℕ) → (money_text z ++ more) ++ rest ≡ 110 ∷ other → ⊥
money_is_no_word z more rest other e =
    let byte = money_text_bytes z 0 0 (money_text_nonempty z) in
    let first = get_or_append_left (money_text z) (more ++ rest) 0 0 (money_text_nonempty z) in
    let same = ap (λ bs. get_or bs 0 0) (sym (append_assoc (money_text z) more rest) ∙ e) in
    omega arith

no_schedule_text : (z : ℤ) (more rest r : List ℕ) → text_at (codes "schedule none\n") ((codes "schedule " ++ (money_text z ++ more)) ++ rest) ≡ Some r → ⊥
no_schedule_text z more rest r e =
    let bytes : List ℕ = (codes "schedule " ++ (money_text z ++ more)) ++ rest in
    let same : bytes ≡ codes "schedule none\n" ++ r = text_at-takes (codes "schedule none\n") bytes r e in
    money_is_no_word z more rest (codes "one\n" ++ r) (ap (drop 9) same)

-- ---- the denominator of a schedule's powers
pub is_third : (version : Version) → tells_exact version ≡ true → version ≡ Third
is_third First e = absurd (false≢true e)
is_third Second e = absurd (false≢true e)
is_third Third e = refl

abbrev over_text : ℕ → List ℕ
over_text d = cond (nat_eq d 1) (codes "\n") (codes " over " ++ (whole_text d ++ codes "\n"))

abbrev IsOver : Version → ℕ → Type 0
IsOver version d = (version ≡ Third) × ((2 ≤ d) × (d ≤ 99))

over_decides : (version : Version) (d : ℕ) → Decides (is_over version d) (IsOver version d)
over_decides version d = Decides-and _ _ (is_third version, λ h. ap tells_exact h) (Decides-and _ _ (leb-true 2 d, le-leb 2 d) (leb-true d 99, le-leb d 99))

denominator-form : (version : Version) → IsForm (denominator_at version) (IsDenominator version) over_text Anything
unfolding denominator_at text_at
denominator-form version =
    form-as (choice-form (empty-form tt) (λ _. 1) second (codes "\n") (λ _ v. refl) apart) (IsDenominator version) over_text there back (λ d v. refl)
  where
    over : IsForm (passing (is_over version) (ended (whole_at 18) (codes "\n"))) (IsOver version) (λ d. whole_text d ++ codes "\n") Anything
    over = passing-form last_whole (is_over version) (IsOver version) (λ d v e. (over_decides version d).0 e) (λ d w. (omega (arith, w.1.1), (over_decides version d).1 w))

    text_is : (d : ℕ) → IsOver version d → codes " over " ++ (whole_text d ++ codes "\n") ≡ over_text d
    text_is d w = rw (ne_eqb d 1 (λ e. omega (arith, w.1.0, e))) refl

    second : IsForm (after (codes " over ") (passing (is_over version) (ended (whole_at 18) (codes "\n")))) (IsOver version) over_text Anything
    second = form-as (after-form over (codes " over ")) (IsOver version) over_text (λ d v. v) (λ d w. w) text_is

    apart : (d : ℕ) (rest : List ℕ) → IsOver version d → text_at (codes "\n") (over_text d ++ rest) ≡ None
    apart d rest w = rw (ne_eqb d 1 (λ e. omega (arith, w.1.0, e))) refl

    there : (d : ℕ) → IsChosen (λ (b : Unit {0}). b ≡ tt) (λ _. 1) (IsOver version) d → IsDenominator version d
    there d (inl v) = subst (IsDenominator version) v.2 (record { least = omega arith; most = omega arith; divided = λ other. absurd (other refl) })
    there d (inr v) = record { least = omega (arith, v.1.0); most = v.1.1; divided = λ other. v.0 }

    back : (d : ℕ) → IsDenominator version d → IsChosen (λ (b : Unit {0}). b ≡ tt) (λ _. 1) (IsOver version) d
    back zero w = absurd (let least = w.least in omega (arith, least))
    back (suc zero) w = inl (tt, refl, refl)
    back (suc (suc d)) w = inr (w.divided (λ e. omega (arith, e)), (omega arith, w.most))

-- ---- the schedule
abbrev head_text : ScheduleHead → List ℕ
head_text head = money_text head.cost ++ over_text head.denominator

head-form : (version : Version) → IsForm (head_at version) (IsScheduleHead version) head_text Anything
unfolding head_at
head-form version =
    mapped-form (both-form money-form (denominator-form version) follows) head_from (λ head. (head.cost, head.denominator)) (IsScheduleHead version) head_text (record {
      there = λ p v. (record { cost = v.0; denominator = v.1 }, refl);
      back = λ head w. ((w.cost, w.denominator), refl);
    })
  where
    follows : (d : ℕ) (rest : List ℕ) → IsDenominator version d → Anything rest → NoDigit (over_text d ++ rest)
    follows d rest v f = by_one (nat_eq d 1)
      where
        by_one : (one : Bool) → NoDigit (cond one (codes "\n") (codes " over " ++ (whole_text d ++ codes "\n")) ++ rest)
        by_one true = refl
        by_one false = refl

-- the line of a head that there is
abbrev IsHeadOf : Version → Option ScheduleHead → Type 0
IsHeadOf version o = (head : ScheduleHead) × IsScheduleHead version head × (Some head ≡ o)

abbrev head_line : Option ScheduleHead → List ℕ
head_line None = []
head_line (Some head) = head_text head

head_is : (head : ScheduleHead) → codes "schedule " ++ head_text head ≡ schedule_line (Some head)
unfolding line
head_is head = by_one (nat_eq head.denominator 1)
  where
    by_one : (one : Bool) → codes "schedule " ++ (money_text head.cost ++ cond one (codes "\n") (codes " over " ++ (whole_text head.denominator ++ codes "\n")))
        ≡ line (codes "schedule") (money_text head.cost ∷ cond one [] (codes "over" ∷ whole_text head.denominator ∷ []))
    by_one true = refl
    by_one false = refl

pub schedule-form : (version : Version) → IsForm (schedule_at version) (λ head. IfSome head (IsScheduleHead version)) schedule_line Anything
unfolding schedule_at line text_at
schedule-form version =
    form-as (choice-form (empty-form tt) (λ _. None) second (codes "schedule none\n") (λ _ v. refl) apart) (λ head. IfSome head (IsScheduleHead version)) schedule_line there back (λ o v. refl)
  where
    second : IsForm (after (codes "schedule ") (mapped Some (head_at version))) (IsHeadOf version) schedule_line Anything
    second = form-as (after-form (image-form (head-form version) Some head_line (λ head v. refl)) (codes "schedule ")) (IsHeadOf version) schedule_line (λ o v. v) (λ o w. w)
        (λ o v. subst (λ (o : Option ScheduleHead). codes "schedule " ++ head_line o ≡ schedule_line o) v.2 (head_is v.0))

    none_there : (head : ScheduleHead) (rest : List ℕ) → text_at (codes "schedule none\n") (schedule_line (Some head) ++ rest) ≡ None
    none_there head rest =
        ap (λ text. text_at (codes "schedule none\n") (text ++ rest)) (sym (head_is head))
        ∙ none_from _ (λ r e. no_schedule_text head.cost (over_text head.denominator) rest r e)

    apart : (o : Option ScheduleHead) (rest : List ℕ) → IsHeadOf version o → text_at (codes "schedule none\n") (schedule_line o ++ rest) ≡ None
    apart o rest v = subst (λ (o : Option ScheduleHead). text_at (codes "schedule none\n") (schedule_line o ++ rest) ≡ None) v.2 (none_there v.0 rest)

    there : (o : Option ScheduleHead) → ((b : Unit {0}) × (b ≡ tt) × (None ≡ o)) ⊎ IsHeadOf version o → IfSome o (IsScheduleHead version)
    there o (inl v) = subst (λ (o : Option ScheduleHead). IfSome o (IsScheduleHead version)) v.2 tt
    there o (inr v) = subst (λ (o : Option ScheduleHead). IfSome o (IsScheduleHead version)) v.2 v.1

    back : (o : Option ScheduleHead) → IfSome o (IsScheduleHead version) → ((b : Unit {0}) × (b ≡ tt) × (None ≡ o)) ⊎ IsHeadOf version o
    back None v = inl (tt, refl, refl)
    back (Some head) v = inr (head, v, refl)

-- ---- prices, or else the schedule
penalties_decide : (p : ℕ × ℕ) → Decides (is_penalty p) (IsPenaltyLine p.0 p.1)
penalties_decide p = grind arith

penalty-form : IsForm penalty_at (λ p. IsPenaltyLine p.0 p.1) (λ p. (whole_text p.0 ++ codes " ") ++ (whole_text p.1 ++ codes "\n")) Anything
unfolding penalty_at
penalty-form =
    passing-form (both-form spaced_whole last_whole (λ b rest v f. tt)) is_penalty (λ p. IsPenaltyLine p.0 p.1)
    (λ p v e. (penalties_decide p).0 e)
    (λ p w. ((omega (arith, w.range.shed), omega (arith, w.range.short)), (penalties_decide p).1 w))

-- made of the line of a schedule, or of none
abbrev IsUnpriced : Version → PlanLine → Type 0
IsUnpriced version first = (head : Option ScheduleHead) × IfSome head (IsScheduleHead version) × (Unpriced head ≡ first)

abbrev IsPricedBy : PlanLine → Type 0
IsPricedBy first = (p : ℕ × ℕ) × IsPenaltyLine p.0 p.1 × (Priced p.0 p.1 ≡ first)

pub plan-form : (version : Version) → IsForm (plan_at version) (IsPlanLine version) plan_line Anything
unfolding plan_at line text_at
plan-form version =
    form-as (choice-form penalty-form (λ p. Priced p.0 p.1) (image-form (schedule-form version) Unpriced plan_line (λ head v. refl)) (codes "penalty ") (λ p v. simp append_assoc) apart)
    (IsPlanLine version) plan_line there back (λ first v. refl)
  where
    no_penalty : (head : Option ScheduleHead) (rest : List ℕ) → text_at (codes "penalty ") (schedule_line head ++ rest) ≡ None
    no_penalty None rest = refl
    no_penalty (Some head) rest = refl

    apart : (first : PlanLine) (rest : List ℕ) → IsUnpriced version first → text_at (codes "penalty ") (plan_line first ++ rest) ≡ None
    apart first rest v = subst (λ (first : PlanLine). text_at (codes "penalty ") (plan_line first ++ rest) ≡ None) v.2 (no_penalty v.0 rest)

    there : (first : PlanLine) → IsPricedBy first ⊎ IsUnpriced version first → IsPlanLine version first
    there first (inl v) = subst (IsPlanLine version) v.2 v.1
    there first (inr v) = subst (IsPlanLine version) v.2 v.1

    back : (first : PlanLine) → IsPlanLine version first → IsPricedBy first ⊎ IsUnpriced version first
    back (Priced a b) w = inl ((a, b), w, refl)
    back (Unpriced head) w = inr (head, w, refl)
