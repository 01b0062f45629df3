-- The answer is a search result that can be written, and that keeps to the exact dispatch.
use Rattle.std.proofs.Common.{◌≡◌, subst, IfOk, Result}
use Rattle.std.proofs.lemmas.Result.{IfOk-weaker}
use Rattle.uc_model.specs.declared.instance.Instance.{Instance}
use Rattle.search_answers.specs.Pivoted.{IsPivotedFound}
use Rattle.search_answers.specs.SearchResult.{IsSearchResult}
use Rattle.search_answers.specs.Writable.{IsWritable}
use Rattle.search_answers.specs.Answers.{IsAnswerOf}
use Rattle.workers.proofs.root_search.search.Goals as goal

-- what is found for the worker's instance is found for the one that is searched
answered : {A E : Type 0} (r : Result A E) (P : Instance → A → Type 0) (Q : A → Type 0) (worker instance : Instance)
    → worker ≡ instance → ((found : A) → P instance found → Q found) → IfOk r (P worker) → IfOk r Q
answered r P Q worker instance same law each = IfOk-weaker r (P instance) Q law (subst (λ (i : Instance). IfOk r (P i)) same each)

pub returns-clause-result : goal.returns-clause-result
returns-clause-result g c =
    let asked = c.args.options.now in
    answered c.answered.result (λ i. IsAnswerOf asked.exact_units asked.pivot i asked.budget asked.gap)
    (IsSearchResult asked.exact_units c.args.instance.now asked.budget asked.gap) _ _ c.in_ok-worker.ensures (λ found a. a.result) c.answered.ensures

pub returns-clause-writable : goal.returns-clause-writable
returns-clause-writable g c =
    let asked = c.args.options.now in
    answered c.answered.result (λ i. IsAnswerOf asked.exact_units asked.pivot i asked.budget asked.gap)
    (IsWritable asked.pivot c.args.instance.now) _ _ c.in_ok-worker.ensures (λ found a. a.writable) c.answered.ensures

pub returns-clause-pivoted : goal.returns-clause-pivoted
returns-clause-pivoted g c =
    let asked = c.args.options.now in
    answered c.answered.result (λ i. IsAnswerOf asked.exact_units asked.pivot i asked.budget asked.gap)
    (IsPivotedFound asked.pivot c.args.instance.now asked.budget asked.gap) _ _ c.in_ok-worker.ensures (λ found a. a.pivoted) c.answered.ensures
