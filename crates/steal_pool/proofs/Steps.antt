-- Each step of a deque keeps its rule.
use Rattle.std.proofs.Common.{◌≡◌, ◌≢◌, ℕ, zero, suc, ◌+◌, true, false, cond, eqb, List, [], ◌∷◌, ◌++◌, length, set, Some, sym, refl, ap, ◌∙◌, subst, append_assoc, length-append, arith, sum_by, slice_get, All}
use Rattle.std.proofs.lemmas.Bool.Decides.{nat_tests}
use Rattle.std.proofs.lemmas.List.Elements.{All-weaker, All-append, All-cons, All-nil}
use Rattle.std.proofs.lemmas.List.Sums.{sum_by-cons, sum_by-append}
use Rattle.std.proofs.lemmas.Option.{slice_get_within}
use mathlib.Core.Option.{some, some-injective, some-ne-none}
use Rattle.crossbeam_deque.specs.Tasks.{Pushes, Takes, Admits}
use Rattle.crossbeam_deque.proofs.Lists.{at_set, at_snoc}
use lib.ListN.{get_elem?}
use Rattle.steal_pool.specs.Line.{Take, Log, log, take_of, times_taken, once_below, IsLogOf, IsInLine, InLine, IsNext, puts, takes}

module _ {A : Type 0} where
  -- what stands in a list stands there in a longer one
  get_longer : (xs ys : List A) (i : ℕ) (x : A) → slice_get xs i ≡ Some x → slice_get (xs ++ ys) i ≡ Some x
  get_longer [] ys i x e = (cc)
  get_longer (z ∷ xs) ys zero x e = e
  get_longer (z ∷ xs) ys (suc i) x e = get_longer xs ys i x e

  -- behind the first list stands the first of the second
  get_behind : (xs ys : List A) (y : A) → slice_get (xs ++ y ∷ ys) (length xs) ≡ Some y
  get_behind [] ys y = refl
  get_behind (z ∷ xs) ys y = get_behind xs ys y

-- how often a place was taken by all passes
abbrev total : ℕ → List Log → ℕ
total place views = sum_by (λ v. times_taken place v.took) views

-- what a new view changes in that number
total_changes : (place : ℕ) (views : List Log) (port : ℕ) (v w : Log) → get_elem? views port ≡ some v
    → total place (set views port w) + times_taken place v.took ≡ total place views + times_taken place w.took
total_changes place [] port v w at = absurd (some-ne-none v (sym at))
total_changes place (u ∷ views) zero v w at =
    let same : times_taken place u.took ≡ times_taken place v.took = ap (λ (x : Log). times_taken place x.took) (some-injective u v at) in
    let all = sum_by-cons (λ (x : Log). times_taken place x.took) u views in
    let new = sum_by-cons (λ (x : Log). times_taken place x.took) w views in
    omega arith
total_changes place (u ∷ views) (suc port) v w at =
    let rest = total_changes place views port v w at in
    let all = sum_by-cons (λ (x : Log). times_taken place x.took) u views in
    let new = sum_by-cons (λ (x : Log). times_taken place x.took) u (set views port w) in
    omega arith

-- one more take counts where it took the place
times_more : (place : ℕ) (took : List Take) (take : Take) → times_taken place (took ++ take ∷ []) ≡ times_taken place took + cond (eqb take.place place) 1 0
times_more place took take = grind (arith, sum_by-append, sum_by-cons)

-- takes stay right where more was taken
takes_longer : (got more : List ℕ) (took : List Take) → All (λ take. slice_get got take.place ≡ Some take.node) took
    → All (λ take. slice_get (got ++ more) take.place ≡ Some take.node) took
takes_longer got more took right =
    All-weaker (λ take. slice_get got take.place ≡ Some take.node) (λ take. slice_get (got ++ more) take.place ≡ Some take.node)
    (λ take here. get_longer got more take.place take.node here) took right

-- all views stay right where one is replaced
logs_set : (got items : List ℕ) (views : List Log) (port : ℕ) (w : Log) → IsLogOf got items port w
    → ((i : ℕ) (v : Log) → i ≢ port → get_elem? views i ≡ some v → IsLogOf got items i v)
    → (i : ℕ) (v : Log) → get_elem? (set views port w) i ≡ some v → IsLogOf got items i v
logs_set got items views port w mine others i v at = grind (arith, at_set, mine, others, at)

-- a node joins at the back
pub pushes : (port : ℕ) (v : Log) (node : ℕ) → v.owns ≡ true → Pushes InLine port v (node ∷ []) (puts v (node ∷ []))
pushes port v node owns items views kept at = grind (arith, logs_set, append_assoc, total_changes, items, views, kept, at)

-- what a take leaves in line
take_kept : (got items : List ℕ) (views : List Log) (port : ℕ) (v : Log) (node : ℕ) → IsInLine got (node ∷ items) views → get_elem? views port ≡ some v
    → IsInLine (got ++ node ∷ []) items (set views port (log v.owns v.put (v.took ++ take_of (length got) node ∷ [])))
take_kept got items views port v node kept at =
    let w : Log = log v.owns v.put (v.took ++ take_of (length got) node ∷ []) in
    let same_line = append_assoc got (node ∷ []) items in
    let Right : Take → Type 0 = λ take. slice_get (got ++ node ∷ []) take.place ≡ Some take.node in
    let longer = λ (i : ℕ) (u : Log) (there : get_elem? views i ≡ some u). takes_longer got (node ∷ []) u.took (kept.logs i u there).takes in
    record {
      logs = logs_set (got ++ node ∷ []) items views port w
          (record {
            owner = λ owns. (((kept.logs port v at).owner owns).0, ((kept.logs port v at).owner owns).1 ∙ sym same_line);
            takes = All-append Right v.took (take_of (length got) node ∷ []) (longer port v at)
                (All-cons Right (take_of (length got) node) [] (get_behind got [] node) (All-nil Right));
          })
          (λ i u _ there. record {
            owner = λ owns. (((kept.logs i u there).owner owns).0, ((kept.logs i u there).owner owns).1 ∙ sym same_line);
            takes = longer i u there;
          });
      once = λ place.
          let more = total_changes place views port v w at in
          let mine = times_more place v.took (take_of (length got) node) in
          let before = kept.once place in
          let next : once_below place (length got) + cond (eqb (length got) place) 1 0 ≡ once_below place ((length got) + 1) = grind (arith, nat_tests) in
          let len : length (got ++ node ∷ []) ≡ length got + 1 = length-append got (node ∷ []) in
          let sum : total place (set views port w) ≡ once_below place (length got) + cond (eqb (length got) place) 1 0 = omega arith in
          sum ∙ (next ∙ ap (once_below place) (sym len));
    }

-- the node in front stands in the place that comes next
front_next : (got items : List ℕ) (views : List Log) (port : ℕ) (v : Log) (node : ℕ) → IsInLine got (node ∷ items) views → get_elem? views port ≡ some v
    → IsNext v (length got) node
front_next got items views port v node kept at = record {
  moment = (got, items, views, port, kept, at, refl);
  behind = grind (arith, All-weaker, slice_get_within, got, v, kept, port, at);
  put = λ owns. subst (λ l. slice_get l (length got) ≡ Some node) (sym ((kept.logs port v at).owner owns).1) (get_behind got items node);
}

-- the node in front leaves
pub takes_one : (port : ℕ) (v : Log) → Takes InLine port v 1 (takes v)
takes_one port v [] items views some_node few kept at = absurd (omega arith)
takes_one port v (node ∷ []) items views some_node few kept at =
    let got : List ℕ = kept.0 in (
      log v.owns v.put (v.took ++ take_of (length got) node ∷ []),
      (got ++ node ∷ [], take_kept got items views port v node kept.1 at),
      (length got, refl, front_next got items views port v node kept.1 at),
    )
takes_one port v (node ∷ (next ∷ nodes)) items views some_node few kept at = absurd (omega arith)

-- a new pass comes, which has taken nothing
pub admits : Admits InLine (log false [] [])
admits items views kept = grind (arith, All-nil, at_snoc, sum_by-append, items, views, kept)
