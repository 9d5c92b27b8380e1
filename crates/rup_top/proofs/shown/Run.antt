-- What `run` must show: its answers are its own, and the run of an image that is good for a model writes the model's results.
use Rattle.std.proofs.Common.{◌≡◌, ℕ, List, Some, Result, Ok, Err, IfOk, inr, refl, sym, subst, ap, ◌∙◌, arith}
use Rattle.rup_base.specs.Answers.{and_then}
use Rattle.rup_base.specs.declared.arg.Arg.{Arg}
use Rattle.rup_base.specs.declared.no_memory.NoMemory.{NoMemory}
use Rattle.rup_base.specs.declared.refusal.Refusal.{Refusal}
use Rattle.image_layout.specs.declared.image.Image.{Image}
use Rattle.image_layout.specs.Reading.{read}
use Rattle.image_layout.specs.Spelling.{IsWithinLimits}
use Rattle.model_syntax.specs.Value.{results}
use Rattle.rv_machine.specs.declared.running.End.{End}
use Rattle.rv_machine.specs.declared.running.End.TheVariants.{Returned, Trapped, OutOfSteps}
use Rattle.rv_machine.specs.Machines.{IsMachine}
use Rattle.rv_machine.specs.Run.{Ran}
use Rattle.rv_machine.specs.State.{State}
use Rattle.run_setup.specs.Judging.{judged}
use Rattle.run_setup.specs.Laws.{Serves}
use Rattle.run_setup.specs.Loading.{loaded, start_state, return_address}
use Rattle.run_setup.specs.Results.{lines_of}
use Rattle.run_setup.proofs.laws.Meeting.{judged_is_met}
use Rattle.run_setup.proofs.laws.Served.{good_is_served}
use Rattle.rup_top.specs.declared.answer.Answer.{Answer}
use Rattle.rup_top.specs.Frame.{Told, Call, IsUndisturbed, Comes, Ends, Writes}
use Rattle.rup_top.specs.Inputs.{image_limit}
use Rattle.rup_top.specs.commands.Run.{RunEnds, RunsFrom, CallsGood, RunKeeps, budget, run_answer, image_script, run_script}
use Rattle.rup_top.proofs.Ends.{IsProper, proper_done, proper_silent, proper_refused, Leads, leads, Shows, Gives, written}
use Rattle.rup_top.proofs.Held.{comes_behind, comes_allowed}

-- ---- The verdict, from the end of a run.

pub run_ends : (i : Image) (args : List Arg) (s : State) (end : End) (t : State) (steps : ℕ) (result : Result Answer NoMemory)
    → IsWithinLimits i → IsMachine s → steps ≡ budget i args
    → Ran return_address steps s end t → IfOk result (λ a. a ≡ run_answer i args end t) → IfOk result (λ a. RunEnds i args s a)
run_ends i args s end t steps (Err e) limits machine same ran is = is
run_ends i args s end t steps (Ok a) limits machine same ran is =
    let P : ℕ → Type 0 = λ n. Ran return_address n s end t in
    record { limits = limits; machine = machine; end = end; state = t; ran = subst P same ran; answer_is = is }

-- ---- Its answers.

proper_end : (i : Image) (args : List Arg) (end : End) (t : State) → IsProper (run_answer i args end t)
proper_end i args (Returned steps) t = proper_done _ refl
proper_end i args (Trapped cause pc steps) t = proper_silent _ refl (inr (omega arith, omega arith))
proper_end i args (OutOfSteps steps) t = proper_silent _ refl (inr (omega arith, omega arith))

proper_from : (i : Image) (args : List Arg) (s : Result State Refusal) (a : Answer) → RunsFrom i args s a → IsProper a
proper_from i args (Ok s) a ends = subst IsProper (sym ends.answer_is) (proper_end i args ends.end ends.state)
proper_from i args (Err r) a is = subst IsProper (sym is) (proper_refused r)

proper_image : (texts : List (List ℕ)) (i : Result Image Refusal) → Leads IsProper (image_script texts i)
proper_image texts (Ok i) = λ args a from. proper_from i args (loaded i args) a from
proper_image texts (Err r) = λ a is. subst IsProper (sym is) (proper_refused r)

-- ---- The run of a good image.

module _ (files : List (List ℕ × List ℕ)) (image : List ℕ) (texts : List (List ℕ)) (given : CallsGood (Some files) image texts)
  where
    returned_gives : (a : Answer) → RunEnds given.i given.args (start_state given.i given.args) a
        → Gives (lines_of (results given.m given.args)) a
    returned_gives a ends =
        let served : Serves given.m given.i given.args ends.end ends.state =
        good_is_served given.m given.i given.args ends.end ends.state given.well ends.limits given.good given.meets given.small
        ends.machine given.in_time ends.ran in
        let is = ends.answer_is ∙ ap (λ (e : End). run_answer given.i given.args e ends.state) served.returned in
        record { status_is = ap (λ (x : Answer). x.status) is; out_is = ap (λ (x : Answer). x.out) is ∙ served.printed }

    verdict_gives : (a : Answer) → RunsFrom given.i given.args (loaded given.i given.args) a
        → Gives (lines_of (results given.m given.args)) a
    verdict_gives a from =
        let called : judged given.i given.args
        ≡ Ok tt = (judged_is_met given.m given.i given.args given.well given.good.params_are given.good.requires_are).1
        (given.meets, given.small) in
        let P : Result (Unit {0}) Refusal
        → Type 0 = λ j. RunsFrom given.i given.args (and_then j (λ u. Ok (start_state given.i given.args))) a in
        returned_gives a (subst P called from)

    pub run_gives : (a : Answer) → Comes (Some files) (run_script image texts) a → Gives (lines_of (results given.m given.args)) a
    run_gives a comes =
        let behind = comes_behind files 1 image image_limit (λ bytes. image_script texts (read bytes)) a given.bytes
        given.image_held given.image_fits comes in
        let Q : Result Image Refusal → Type 0 = λ i. Comes (Some files) (image_script texts i) a in
        verdict_gives a (comes_allowed files 2 given.i.params texts given.args
        (λ args b. RunsFrom given.i args (loaded given.i args) b) a given.args_taken (subst Q given.image_is behind))

run_written : (image : List ℕ) (texts : List (List ℕ)) (call : Call) → Ends (run_script image texts) call
    → (held : List (List ℕ × List ℕ)) → call.files.held ≡ Some held
    → (given : CallsGood call.files.held image texts) → IsUndisturbed call → Writes (lines_of (results given.m given.args)) call
run_written image texts call ends held told given quiet =
    let P : Told → Type 0 = λ h. (g : CallsGood h image texts) → Writes (lines_of (results g.m g.args)) call in
    subst P (sym told) (λ g. written (run_script image texts) (lines_of (results g.m g.args)) call held told quiet ends
    (run_gives held image texts g)) given

pub run_shows : (image : List ℕ) (texts : List (List ℕ)) → Shows (run_script image texts) (λ call. RunKeeps image texts call)
run_shows image texts =
    record {
      proper = λ held a comes. leads IsProper held (run_script image texts) proper_refused
          (λ bytes. proper_image texts (read bytes)) a comes;
      keeps = λ call ends. record { runs_good = run_written image texts call ends };
    }
