-- Reading things one after the other, as a loop does.
use Rattle.std.proofs.Common.{◌≡◌, ℕ, suc, ◌-◌, ◌+◌, ◌≤◌, ◌<◌, List, [], ◌∷◌, ◌++◌, Option, Some, None, Result, Ok, Err, refl, sym, ap, ◌∙◌, append_assoc, arith, option_and_then, append-nil}
use Rattle.cert_text.specs.inside.Forms.{Form, text_at, after, times, ramp_at}
use Rattle.cert_text.specs.declared.reader.stop.Stop.TheVariants as stops
use Rattle.cert_text.specs.Grammar.{RampRow, Sizes}
use Rattle.cert_text.specs.inside.Parts.{Stop, ◌>>=◌, Part, repeated, ramp_rows_part, StopsAs}

-- ---- a form behind a text
pub after_text : {A : Type 0} (text : List ℕ) (form : Form A) (bytes rest : List ℕ) (read : Option (A × List ℕ))
    → text_at text bytes ≡ Some rest → form rest ≡ read → after text form bytes ≡ read
after_text text form bytes rest read e f = rw e f

pub no_text : {A : Type 0} (text : List ℕ) (form : Form A) (bytes : List ℕ) → text_at text bytes ≡ None → after text form bytes ≡ None
no_text text form bytes e = rw e refl

pub one_left : (count i : ℕ) → i < count → count - i ≡ suc (count - (i + 1))
one_left count i lt = omega arith

pub none_left : (count i : ℕ) → count ≤ i → count - i ≡ 0
none_left count i le = omega arith

-- ---- forms
-- what was read before, and what is still read
abbrev pub behind_words : {A : Type 0} → List A → Option (List A × List ℕ) → Option (List A × List ℕ)
behind_words front read = option_and_then (λ x. Some (front ++ x.0, x.1)) read

regroup_words : {A : Type 0} (front : List A) (a : A) (read : Option (List A × List ℕ))
    → behind_words front (option_and_then (λ x. Some (a ∷ x.0, x.1)) read) ≡ behind_words (front ++ a ∷ []) read
regroup_words front a (Some x) = ap (λ (xs : List _). Some (xs, x.1)) (simp append_assoc)
regroup_words front a None = refl

pub word_more : {A : Type 0} (form : Form A) (front grown : List A) (count i : ℕ) (bytes rest : List ℕ) (a : A) (total : Option (List A × List ℕ))
    → i < count → form bytes ≡ Some (a, rest) → grown ≡ front ++ a ∷ []
    → behind_words front (times (count - i) form bytes) ≡ total → behind_words grown (times (count - (i + 1)) form rest) ≡ total
unfolding times
word_more form front grown count i bytes rest a total lt e g so_far = rw g (sym (regroup_words front a (times (count - (i + 1)) form rest)) ∙ (rw (one_left count i lt, e) at so_far))

pub no_word : {A : Type 0} (form : Form A) (front : List A) (count i : ℕ) (bytes : List ℕ) (total : Option (List A × List ℕ))
    → i < count → form bytes ≡ None → behind_words front (times (count - i) form bytes) ≡ total → total ≡ None
unfolding times
no_word form front count i bytes total lt e so_far = sym (rw (one_left count i lt, e) at so_far)

pub words_done : {A : Type 0} (form : Form A) (front : List A) (count i : ℕ) (bytes : List ℕ) (total : Option (List A × List ℕ))
    → count ≤ i → behind_words front (times (count - i) form bytes) ≡ total → total ≡ Some (front, bytes)
unfolding times
words_done form front count i bytes total le so_far = sym (rw (none_left count i le) at so_far) ∙ (ap (λ (xs : List _). Some (xs, bytes)) (append-nil front))

-- ---- parts
abbrev pub behind_parts : {A : Type 0} → List A → Result (List A × List ℕ) (List ℕ) → Result (List A × List ℕ) (List ℕ)
behind_parts front read = read >>= λ x. Ok (front ++ x.0, x.1)

pub regroup_parts : {A : Type 0} (front : List A) (a : A) (read : Result (List A × List ℕ) (List ℕ))
    → behind_parts front (read >>= λ x. Ok (a ∷ x.0, x.1)) ≡ behind_parts (front ++ a ∷ []) read
regroup_parts front a (Ok x) = ap (λ (xs : List _). Ok (xs, x.1)) (simp append_assoc)
regroup_parts front a (Err rest) = refl

pub part_more : {A : Type 0} (part : Part A) (front grown : List A) (count i : ℕ) (bytes rest : List ℕ) (a : A) (total : Result (List A × List ℕ) (List ℕ))
    → i < count → part bytes ≡ Ok (a, rest) → grown ≡ front ++ a ∷ []
    → behind_parts front (repeated (count - i) part bytes) ≡ total → behind_parts grown (repeated (count - (i + 1)) part rest) ≡ total
unfolding repeated
part_more part front grown count i bytes rest a total lt e g so_far = rw g (sym (regroup_parts front a (repeated (count - (i + 1)) part rest)) ∙ (rw (one_left count i lt, e) at so_far))

pub part_stops : {A : Type 0} (part : Part A) (front : List A) (count i : ℕ) (bytes rest : List ℕ) (total : Result (List A × List ℕ) (List ℕ))
    → i < count → part bytes ≡ Err rest → behind_parts front (repeated (count - i) part bytes) ≡ total → total ≡ Err rest
unfolding repeated
part_stops part front count i bytes rest total lt e so_far = sym (rw (one_left count i lt, e) at so_far)

pub parts_done : {A : Type 0} (part : Part A) (front : List A) (count i : ℕ) (bytes : List ℕ) (total : Result (List A × List ℕ) (List ℕ))
    → count ≤ i → behind_parts front (repeated (count - i) part bytes) ≡ total → total ≡ Ok (front, bytes)
unfolding repeated
parts_done part front count i bytes total le so_far = sym (rw (none_left count i le) at so_far) ∙ (ap (λ (xs : List _). Ok (xs, bytes)) (append-nil front))

-- the same, as what a function returned
pub part_stops_as : {A : Type 0} (part : Part A) (front : List A) (count i : ℕ) (bytes : List ℕ) (stop : Stop) (total : Result (List A × List ℕ) (List ℕ))
    → i < count → StopsAs stop (part bytes) → behind_parts front (repeated (count - i) part bytes) ≡ total → StopsAs stop total
part_stops_as part front count i bytes stops.NoMemory total lt e so_far = tt
part_stops_as part front count i bytes (stops.At rest) total lt e so_far = part_stops part front count i bytes rest.now total lt e so_far

-- ---- ramp rows, each of which is read behind the one before it
pub ramp_more : (size : Sizes) (front grown : List RampRow) (count i : ℕ) (before : Option RampRow) (bytes rest : List ℕ) (row : RampRow) (total : Result (List RampRow × List ℕ) (List ℕ))
    → i < count → ramp_at size before bytes ≡ Some (row, rest) → grown ≡ front ++ row ∷ []
    → behind_parts front (ramp_rows_part size (count - i) before bytes) ≡ total
    → behind_parts grown (ramp_rows_part size (count - (i + 1)) (Some row) rest) ≡ total
unfolding ramp_rows_part
ramp_more size front grown count i before bytes rest row total lt e g so_far = rw g (sym (regroup_parts front row (ramp_rows_part size (count - (i + 1)) (Some row) rest)) ∙ (rw (one_left count i lt, e) at so_far))

pub no_ramp : (size : Sizes) (front : List RampRow) (count i : ℕ) (before : Option RampRow) (bytes : List ℕ) (total : Result (List RampRow × List ℕ) (List ℕ))
    → i < count → ramp_at size before bytes ≡ None → behind_parts front (ramp_rows_part size (count - i) before bytes) ≡ total → total ≡ Err bytes
unfolding ramp_rows_part
no_ramp size front count i before bytes total lt e so_far = sym (rw (one_left count i lt, e) at so_far)

pub ramps_done : (size : Sizes) (front : List RampRow) (count i : ℕ) (before : Option RampRow) (bytes : List ℕ) (total : Result (List RampRow × List ℕ) (List ℕ))
    → count ≤ i → behind_parts front (ramp_rows_part size (count - i) before bytes) ≡ total → total ≡ Ok (front, bytes)
unfolding ramp_rows_part
ramps_done size front count i before bytes total le so_far = sym (rw (none_left count i le) at so_far) ∙ (ap (λ (xs : List _). Ok (xs, bytes)) (append-nil front))
