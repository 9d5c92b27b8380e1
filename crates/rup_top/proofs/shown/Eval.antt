-- What `eval` must show: its answers are its own, and it writes the results of the model.
use Rattle.std.proofs.Common.{◌≡◌, ℕ, ◌≤◌, List, [], map, Some, Result, Ok, Err, refl, sym, subst, ap, ◌∙◌, arith}
use Rattle.rup_base.specs.Answers.{and_then}
use Rattle.rup_base.specs.declared.arg.Arg.{Arg}
use Rattle.rup_base.specs.declared.refusal.Refusal.{Refusal}
use Rattle.model_syntax.specs.declared.program.Model.{Model}
use Rattle.model_syntax.specs.Types.{kind_of}
use Rattle.model_syntax.specs.Value.{value, results}
use Rattle.run_setup.specs.Arguments.{array_limit}
use Rattle.run_setup.specs.Judging.{judged_size, total_size}
use Rattle.run_setup.specs.Results.{lines_of}
use Rattle.rup_top.specs.declared.answer.Answer.{Answer}
use Rattle.rup_top.specs.Answer.{done}
use Rattle.rup_top.specs.Frame.{Told, Call, IsUndisturbed, Comes, Ends, Writes, exactly}
use Rattle.rup_top.specs.Inputs.{model_limit, typed_model}
use Rattle.rup_top.specs.commands.Eval.{CallsModel, EvalKeeps, evaluated, results_answer, eval_answer, model_script, eval_script}
use Rattle.rup_top.proofs.Ends.{IsProper, proper_done, proper_refused, Leads, leads, Shows, Gives, written}
use Rattle.rup_top.proofs.Held.{comes_behind, comes_allowed}

-- ---- Its answers.

proper_results : (results : Result (List Arg) Refusal) → IsProper (results_answer results)
proper_results (Ok results) = proper_done _ refl
proper_results (Err r) = proper_refused r

proper_model : (texts : List (List ℕ)) (m : Result Model Refusal) → Leads IsProper (model_script texts m)
proper_model texts (Ok m) = λ args a is. subst IsProper (sym is) (proper_results (evaluated m args))
proper_model texts (Err r) = λ a is. subst IsProper (sym is) (proper_refused r)

-- ---- The evaluation of a model.

small_judged : (args : List Arg) → total_size args ≤ array_limit → judged_size args ≡ Ok tt
small_judged args small = grind arith

module _ (files : List (List ℕ × List ℕ)) (model : List ℕ) (texts : List (List ℕ)) (given : CallsModel (Some files) model texts)
  where
    evaluated_is : eval_answer given.m given.args ≡ done (lines_of (results given.m given.args)) []
    evaluated_is =
        let found : value given.m given.args ≡ Ok (results given.m given.args) = rw given.meets refl in
        let judged_so : judged_size given.args ≡ Ok tt = small_judged given.args given.small in
        ap (λ (j : Result (Unit {0}) Refusal). results_answer (and_then j (λ u. value given.m given.args))) judged_so
        ∙ ap results_answer found

    pub eval_gives : (a : Answer) → Comes (Some files) (eval_script model texts) a
        → Gives (lines_of (results given.m given.args)) a
    eval_gives a comes =
        let behind = comes_behind files 1 model model_limit (λ bytes. model_script texts (typed_model bytes)) a given.bytes
        given.model_held given.model_fits comes in
        let Q : Result Model Refusal → Type 0 = λ m. Comes (Some files) (model_script texts m) a in
        let is : a ≡ eval_answer given.m given.args =
        comes_allowed files 2 (map kind_of given.m.params) texts given.args (λ args b. exactly (eval_answer given.m args) b) a
        given.args_taken (subst Q given.model_is behind) in
        let same : a ≡ done (lines_of (results given.m given.args)) [] = is ∙ evaluated_is in
        record { status_is = ap (λ (x : Answer). x.status) same; out_is = ap (λ (x : Answer). x.out) same }

eval_written : (model : List ℕ) (texts : List (List ℕ)) (call : Call) → Ends (eval_script model texts) call
    → (held : List (List ℕ × List ℕ)) → call.files.held ≡ Some held
    → (given : CallsModel call.files.held model texts) → IsUndisturbed call → Writes (lines_of (results given.m given.args)) call
eval_written model texts call ends held told given quiet =
    let P : Told → Type 0 = λ h. (g : CallsModel h model texts) → Writes (lines_of (results g.m g.args)) call in
    subst P (sym told) (λ g. written (eval_script model texts) (lines_of (results g.m g.args)) call held told quiet ends
    (eval_gives held model texts g)) given

pub eval_shows : (model : List ℕ) (texts : List (List ℕ)) → Shows (eval_script model texts) (λ call. EvalKeeps model texts call)
eval_shows model texts =
    record {
      proper = λ held a comes. leads IsProper held (eval_script model texts) proper_refused
          (λ bytes. proper_model texts (typed_model bytes)) a comes;
      keeps = λ call ends. record { evals_good = eval_written model texts call ends };
    }
