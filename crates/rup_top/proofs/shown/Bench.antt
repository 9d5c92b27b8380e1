-- What `bench` must show: its answers are its own, and it writes the line of what the search finds, with the model's results.
use Rattle.std.proofs.Common.{◌≡◌, ◌≢◌, ℕ, ◌≤◌, List, [], map, Result, Ok, Err, IfOk, ◌⊎◌, inl, inr, refl, sym, subst, ap, ◌∙◌}
use Rattle.std.proofs.Common.{arith}
use Rattle.std.specs.Io.KnownBytes.{Appends}
use Rattle.rup_base.specs.declared.arg.Arg.{Arg}
use Rattle.rup_base.specs.declared.arg.Kind.{Kind}
use Rattle.rup_base.specs.Answers.{Answers as Answered}
use Rattle.rup_base.specs.declared.fail.Fail.{Fail}
use Rattle.rup_base.specs.declared.fail.Fail.TheVariants.{Refused, NoMemory}
use Rattle.rup_base.specs.declared.no_memory.NoMemory as lack
use Rattle.rup_base.specs.declared.refusal.Refusal.{Refusal}
use Rattle.bed_syntax.specs.declared.command.Cmd.{Cmd}
use Rattle.bench_gen.specs.Generator.{model, params, arguments}
use Rattle.bench_gen.proofs.laws.Valid.{well, formed, spellable, met}
use Rattle.cost_poly.specs.declared.term.Term.{Term}
use Rattle.cost_poly.specs.Polynomial.{at}
use Rattle.image_layout.specs.declared.image.Image.{Image}
use Rattle.image_layout.specs.Reading.{read}
use Rattle.image_layout.proofs.laws.Layouts.{is_read}
use Rattle.model_syntax.specs.declared.program.Model.{Model}
use Rattle.model_syntax.specs.Types.{kind_of}
use Rattle.replayer.specs.declared.checked.Checked.{Checked}
use Rattle.run_setup.specs.Arguments.{array_limit}
use Rattle.run_setup.specs.Judging.{symbol_values, total_size, judged}
use Rattle.run_setup.specs.Laws.{Serves}
use Rattle.run_setup.specs.Loading.{start_state, return_address}
use Rattle.run_setup.specs.Results.{results_of}
use Rattle.run_setup.proofs.laws.Meeting.{judged_is_met}
use Rattle.run_setup.proofs.laws.Served.{good_is_served}
use Rattle.rv_machine.specs.declared.running.End.{End}
use Rattle.rv_machine.specs.declared.running.End.TheVariants.{Returned, Trapped, OutOfSteps}
use Rattle.rv_machine.specs.Machines.{IsMachine}
use Rattle.rv_machine.specs.Run.{Ran}
use Rattle.rv_machine.specs.State.{State}
use Rattle.pipeline.specs.Written.{Written}
use Rattle.rup_top.specs.declared.answer.Answer.{Answer}
use Rattle.rup_top.specs.Answer.{done, refused}
use Rattle.rup_top.specs.Steps.{Stops}
use Rattle.rup_top.specs.Stops.{stop_of_fail}
use Rattle.rup_top.specs.Frame.{Call, IsUndisturbed, Writes}
use Rattle.rup_top.specs.commands.Run.{bound_at, budget, most_steps}
use Rattle.rup_top.specs.commands.Bench.{Benches, BenchAnswers, BenchKeeps, BenchEnds, FindsInTime, WritesLine, found, bound_of}
use Rattle.rup_top.specs.commands.Bench.{summary, bench_line, value_line, bench_answer, bench_script}
use Rattle.rup_top.proofs.Ends.{IsProper, proper_done, proper_silent, proper_refused, refused_not_zero, Shows, Gives, Done}
use Rattle.rup_top.proofs.Ends.{Ending, ending, undisturbed}

-- ---- Its arguments.

pub arguments_small : (seed : ℕ) → total_size (arguments seed) ≤ array_limit
arguments_small seed = omega arith

-- an image that is written for the model is called with them
pub called : (seed count : ℕ) (checked : Checked) (bytes : List ℕ) → seed ≤ 4294967295
    → (written : Written (model seed count) checked.command.command checked.command.bound checked.command.weight bytes)
    → judged written.image (arguments seed) ≡ Ok tt
called seed count checked bytes is_word written =
    (judged_is_met (model seed count) written.image (arguments seed) (well seed count) written.good.params_are
    written.good.requires_are).1 (met seed count is_word, arguments_small seed)

-- the image's bound at them is that of what was found
pub same_bound : (seed count : ℕ) (checked : Checked) (bytes : List ℕ)
    (written : Written (model seed count) checked.command.command checked.command.bound checked.command.weight bytes)
    → bound_at written.image (arguments seed) ≡ bound_of seed checked
same_bound seed count checked bytes written =
    ap (λ (kinds : List Kind). at (symbol_values kinds (arguments seed)) written.image.bound) written.good.params_are
    ∙ ap (λ (bound : List Term). at (symbol_values (map kind_of params) (arguments seed)) bound) written.bound_is

-- what is read of the bytes is the image
pub image_is : (m : Model) (command : Cmd) (bound : List Term) (weight : ℕ) (bytes : List ℕ)
    (written : Written m command bound weight bytes) (i : Image) → read bytes ≡ Ok i
    → i ≡ written.image
image_is m command bound weight bytes written i found =
    let other : read bytes ≡ Ok written.image = is_read bytes written.image written.layout in cc

-- the run of what is read of the bytes
pub benches : (seed count : ℕ) (checked : Checked) (bytes : List ℕ) (i : Image) (args : List Arg)
    (result : Result Answer lack.NoMemory) → seed ≤ 4294967295
    → (written : Written (model seed count) checked.command.command checked.command.bound checked.command.weight bytes)
    → read bytes ≡ Ok i → args ≡ arguments seed
    → IfOk result (λ a. BenchEnds (summary seed count checked) i args a) → IfOk result (λ a. Benches seed count checked a)
benches seed count checked bytes i args (Err e) is_word written found args_are ends = ends
benches seed count checked bytes i args (Ok a) is_word written found args_are ends =
    let P : List Arg → Type 0 = λ xs. BenchEnds (summary seed count checked) i xs a in
    let Q : Image → Type 0 = λ x. BenchEnds (summary seed count checked) x (arguments seed) a in
    record {
      is_word = is_word;
      bytes = bytes;
      written = written;
      ends = subst Q (image_is _ _ _ _ bytes written i found) (subst P args_are ends);
    }

-- The same for the bytes of a model that is the generated one, seen as a slice, and for equal arguments.

pub read_called : (seed count : ℕ) (checked : Checked) (m : Model) (bytes seen : List ℕ) (i : Image) (args : List Arg)
    → seed ≤ 4294967295 → m ≡ model seed count
    → Written m checked.command.command checked.command.bound checked.command.weight bytes → seen ≡ bytes → read seen ≡ Ok i
    → args ≡ arguments seed → judged i args ≡ Ok tt
read_called seed count checked m bytes seen i args is_word model_is written seen_is found_is args_are =
    let P : Model → Type 0 = λ x. Written x checked.command.command checked.command.bound checked.command.weight bytes in
    let here : Written (model seed count) checked.command.command checked.command.bound checked.command.weight bytes =
    subst P model_is written in
    let same : i ≡ here.image = image_is _ _ _ _ bytes here i (sym (ap read seen_is) ∙ found_is) in
    let Q : Image → Type 0 = λ x. judged x args ≡ Ok tt in
    let R : List Arg → Type 0 = λ xs. judged here.image xs ≡ Ok tt in
    subst Q (sym same) (subst R (sym args_are) (called seed count checked bytes is_word here))

pub read_bound : (seed count : ℕ) (checked : Checked) (m : Model) (bytes seen : List ℕ) (i : Image) (args : List Arg)
    → m ≡ model seed count
    → Written m checked.command.command checked.command.bound checked.command.weight bytes → seen ≡ bytes → read seen ≡ Ok i
    → args ≡ arguments seed → bound_at i args ≡ bound_of seed checked
read_bound seed count checked m bytes seen i args model_is written seen_is found_is args_are =
    let P : Model → Type 0 = λ x. Written x checked.command.command checked.command.bound checked.command.weight bytes in
    let here : Written (model seed count) checked.command.command checked.command.bound checked.command.weight bytes =
    subst P model_is written in
    let same : i ≡ here.image = image_is _ _ _ _ bytes here i (sym (ap read seen_is) ∙ found_is) in
    ap (λ (x : Image). bound_at x args) same ∙ ap (λ (xs : List Arg). bound_at here.image xs) args_are
    ∙ same_bound seed count checked bytes here

pub read_benches : (seed count : ℕ) (checked : Checked) (m : Model) (bytes seen : List ℕ) (i : Image) (args : List Arg)
    (result : Result Answer lack.NoMemory) → seed ≤ 4294967295 → m ≡ model seed count
    → Written m checked.command.command checked.command.bound checked.command.weight bytes → seen ≡ bytes → read seen ≡ Ok i
    → args ≡ arguments seed
    → IfOk result (λ a. BenchEnds (summary seed count checked) i args a) → IfOk result (λ a. Benches seed count checked a)
read_benches seed count checked m bytes seen i args result is_word model_is written seen_is found_is args_are ends =
    let P : Model → Type 0 = λ x. Written x checked.command.command checked.command.bound checked.command.weight bytes in
    benches seed count checked bytes i args result is_word (subst P model_is written) (sym (ap read seen_is) ∙ found_is) args_are
    ends

-- a model that is the generated one is refused, or found
pub found_refused : (seed count : ℕ) (m : Model) (fail : Fail) → m ≡ model seed count
    → Answered {T = Checked} (Err fail) (found m)
    → Stops (stop_of_fail fail) (λ a. BenchAnswers seed count (found (model seed count)) a)
found_refused seed count m (Refused r) is refusal =
    let P : Model → Type 0 = λ x. found x ≡ Err r in
    let Q : Result Checked Refusal → Type 0 = λ x. BenchAnswers seed count x (refused r) in
    subst Q (sym (subst P is refusal)) refl
found_refused seed count m NoMemory is refusal = tt

pub found_benches : (seed count : ℕ) (m : Model) (checked : Checked) (a : Answer) → m ≡ model seed count → found m ≡ Ok checked
    → Benches seed count checked a
    → BenchAnswers seed count (found (model seed count)) a
found_benches seed count m checked a is found_is runs =
    let P : Model → Type 0 = λ x. found x ≡ Ok checked in
    let Q : Result Checked Refusal → Type 0 = λ x. BenchAnswers seed count x a in
    subst Q (sym (subst P is found_is)) runs

-- the answer of a run that ended
pub bench_ends : (begun wanted : List ℕ) (i : Image) (args : List Arg) (s : State) (steps : ℕ) (end : End) (t : State)
    (result : Result Answer lack.NoMemory) → begun ≡ wanted → s ≡ start_state i args
    → IsMachine s → steps ≡ budget i args → Ran return_address steps s end t
    → IfOk result (λ a. a ≡ bench_answer begun i args end t) → IfOk result (λ a. BenchEnds wanted i args a)
bench_ends begun wanted i args s steps end t (Err e) same starts machine counted ran is = is
bench_ends begun wanted i args s steps end t (Ok a) same starts machine counted ran is =
    let P : ℕ → Type 0 = λ n. Ran return_address n s end t in
    let Q : State → Type 0 = λ x. Ran return_address (budget i args) x end t in
    record {
      machine = subst IsMachine starts machine;
      end = end;
      state = t;
      ran = subst Q starts (subst P counted ran);
      answer_is = is ∙ ap (λ (b : List ℕ). bench_answer b i args end t) same;
    }

-- ---- Its answers.

proper_end : (begun : List ℕ) (i : Image) (args : List Arg) (end : End) (t : State) → IsProper (bench_answer begun i args end t)
proper_end begun i args (Returned steps) t = proper_done _ refl
proper_end begun i args (Trapped cause pc steps) t = proper_silent _ refl (inr (omega arith, omega arith))
proper_end begun i args (OutOfSteps steps) t = proper_silent _ refl (inr (omega arith, omega arith))

proper_bench : (seed count : ℕ) (r : Result Checked Refusal) (a : Answer) → BenchAnswers seed count r a → IsProper a
proper_bench seed count (Ok checked) a runs =
    subst IsProper (sym runs.ends.answer_is)
    (proper_end (summary seed count checked) runs.written.image (arguments seed) runs.ends.end runs.ends.state)
proper_bench seed count (Err r) a is = subst IsProper (sym is) (proper_refused r)

-- ---- The run of what was found.

module _ (seed count : ℕ) (checked : Checked) (a : Answer) (runs : Benches seed count checked a) where
  served : bound_of seed checked ≤ most_steps
      → Serves (model seed count) runs.written.image (arguments seed) runs.ends.end runs.ends.state
  served in_time =
      good_is_served (model seed count) runs.written.image (arguments seed) runs.ends.end runs.ends.state (well seed count)
      runs.written.layout.within runs.written.good (met seed count runs.is_word)
      (arguments_small seed) runs.ends.machine (omega (arith, same_bound seed count checked runs.bytes runs.written, in_time))
      runs.ends.ran

  line_given : bound_of seed checked ≤ most_steps → Gives (value_line seed count checked) a
  line_given in_time =
      let serves = served in_time in
      let is : a ≡ done (bench_line seed count checked (results_of runs.ends.state runs.written.image (arguments seed))) [] =
      runs.ends.answer_is ∙ ap (λ (e : End). bench_answer (summary seed count checked) runs.written.image (arguments seed) e
      runs.ends.state) serves.returned in
      record {
        status_is = ap (λ (x : Answer). x.status) is;
        out_is = ap (λ (x : Answer). x.out) is
            ∙ ap (λ (rs : List Arg). bench_line seed count checked rs) (serves.same (formed seed count) (spellable seed count));
      }

-- ---- What it writes.

module _ (seed count : ℕ) (call : Call) where
  zero_found : (r : Result Checked Refusal) → found (model seed count) ≡ r → (a : Answer) → BenchAnswers seed count r a
      → a.status ≡ 0
      → Appends call.out.taken call.out.taken_now a.out → WritesLine seed count call
  zero_found (Ok checked) is a runs zero takes =
      record {
        checked = checked;
        is_found = is;
        answer = a;
        runs = runs;
        out_takes = takes;
        valued = λ in_time. (line_given seed count checked a runs in_time).out_is;
      }
  zero_found (Err r) is a refusal zero takes = absurd (refused_not_zero r a refusal zero)

  line_written : Ending (bench_script seed count) call → call.status ≡ 0 → WritesLine seed count call
  line_written (inl lack) zero = absurd (omega (arith, lack.status_is, zero))
  line_written (inr (inl done)) zero =
      zero_found (found (model seed count)) refl done.answer done.came.comes (sym done.whole.status_is ∙ zero)
      done.whole.out_takes
  line_written (inr (inr (inl failed))) zero = absurd (omega (arith, failed.whole.status_is, zero))
  line_written (inr (inr (inr cut))) zero = absurd (omega (arith, cut.status_is, zero))

  all_written : Ending (bench_script seed count) call → (given : FindsInTime seed count) → IsUndisturbed call
      → Writes (value_line seed count given.checked) call
  all_written ends given quiet = by_end (undisturbed (bench_script seed count) call quiet ends)
    where
      by_end : Done (bench_script seed count) call ⊎ (call.status ≡ 5) → Writes (value_line seed count given.checked) call
      by_end (inr five) = inr five
      by_end (inl done) =
          let P : Result Checked Refusal → Type 0 = λ r. BenchAnswers seed count r done.answer in
          let gives = line_given seed count given.checked done.answer (subst P given.is_found done.came.comes) given.in_time in
          let Q : List ℕ → Type 0 = λ b. Appends call.out.taken call.out.taken_now b in
          inl (done.whole.status_is ∙ gives.status_is, subst Q gives.out_is done.whole.out_takes)

  no_read_fault : Ending (bench_script seed count) call → call.status ≢ 3
  no_read_fault (inl lack) three = omega (arith, lack.status_is, three)
  no_read_fault (inr (inl done)) three =
      let answered : done.answer.status ≡ 3 = sym done.whole.status_is ∙ three in
      elim (proper_bench seed count (found (model seed count)) done.answer done.came.comes).plain.status_is [
        | inl low ↦ omega (arith, low, answered)
        | inr high ↦ omega (arith, high.0, answered)
      ]
  no_read_fault (inr (inr (inl failed))) three = failed.faulted.reached
  no_read_fault (inr (inr (inr cut))) three = omega (arith, cut.status_is, three)

pub bench_shows : (seed count : ℕ) → Shows (bench_script seed count) (λ call. BenchKeeps seed count call)
bench_shows seed count =
    record {
      proper = λ held a comes. proper_bench seed count (found (model seed count)) a comes;
      keeps = λ call ends.
          let ended = ending (bench_script seed count) call ends in
          record {
            writes_only = line_written seed count call ended;
            writes_all = all_written seed count call ended;
            no_read_fault = no_read_fault seed count call ended;
          };
    }
