-- What the commands that take a model and a derivation show: their answers are their own, and they answer exactly where they
-- accept.
use Rattle.std.proofs.Common.{◌≡◌, ℕ, List, Some, Result, Ok, Err, ◌⊎◌, inl, inr, refl, sym, subst, ◌∙◌, arith}
use Rattle.std.specs.Io.KnownBytes.{Appends}
use Rattle.rup_base.specs.Answers.{Answers as Answered}
use Rattle.rup_base.specs.declared.fail.Fail.{Fail}
use Rattle.rup_base.specs.declared.fail.Fail.TheVariants.{Refused, NoMemory}
use Rattle.rup_base.specs.declared.refusal.Refusal.{Refusal}
use Rattle.rup_base.specs.declared.refusal.Refusal.TheVariants.{TooLong}
use Rattle.deriv_file.proofs.laws.FileOf.{reads_exact, file_is_one}
use Rattle.deriv_file.specs.File.{File, Reads}
use Rattle.deriv_tree.specs.declared.tree.Derivation.{Derivation}
use Rattle.equations.specs.Equations.{turn}
use Rattle.model_syntax.specs.declared.program.Model.{Model}
use Rattle.replayer.specs.Replayed.{replayed}
use Rattle.replayer.specs.declared.checked.Checked.{Checked}
use Rattle.rup_top.specs.declared.answer.Answer.{Answer}
use Rattle.rup_top.specs.Frame.{Told, Call, Comes, IsUndisturbed, Ends, asks, comes_to}
use Rattle.rup_top.specs.Inputs.{model_limit, tree_limit, typed_model}
use Rattle.rup_top.specs.Steps.{Stops, EndsOnDerivation}
use Rattle.rup_top.specs.Stops.{stop_of_fail}
use Rattle.rup_top.specs.commands.Derivations.{Answering, Judged, Refuses, AcceptsFiles, script}
use Rattle.rup_top.proofs.Ends.{IsProper, proper_done, proper_refused, refused_not_zero, leads, Done, Ending, ending, undisturbed}
use Rattle.rup_top.proofs.Held.{comes_behind}

-- ---- The steps of judging.

pub file_refused : (size : ℕ) (model tree : List ℕ) (m : Model) (fail : Fail) → typed_model model ≡ Ok m → Reads tree (Err fail)
    → EndsOnDerivation size model tree fail
file_refused size model tree m (Refused r) is reads = inr (inl (record { m = m; model_is = is; fault = reads }))
file_refused size model tree m NoMemory is reads = tt

pub not_accepted : (size : ℕ) (model tree : List ℕ) (m : Model) (d : Derivation) (fail : Fail) → typed_model model ≡ Ok m
    → File tree d
    → Answered {T = Checked} (Err fail) (replayed turn m d size) → EndsOnDerivation size model tree fail
not_accepted size model tree m d (Refused r) is file first =
    inr (inr (record { m = m; model_is = is; d = d; file = file; first = first }))
not_accepted size model tree m d NoMemory is file first = tt

-- a refusal is one of the verdict
pub refuses : (P : Answering) (size : ℕ) (model tree : List ℕ) (fail : Fail) → EndsOnDerivation size model tree fail
    → Stops (stop_of_fail fail) (λ a. Judged P size model tree a)
refuses P size model tree (Refused r) ends = inr (r, ends, refl)
refuses P size model tree NoMemory ends = tt

module _ (P : Answering) (size : ℕ) (model tree : List ℕ) where
  -- ---- Their answers.

  proper_judged : (m t : List ℕ) (a : Answer) → Judged P size m t a → IsProper a
  proper_judged m t a (inl finished) = proper_done a finished.status_is
  proper_judged m t a (inr (r, refuses, is)) = subst IsProper (sym is) (proper_refused r)

  pub proper : (held : Told) (a : Answer) → Comes held (script P size model tree) a → IsProper a
  proper held a comes = leads IsProper held (script P size model tree) proper_refused (λ m t b judged. proper_judged m t b judged)
      a comes

  -- an outcome of status 0 is an answer to what was accepted
  pub record Came (call : Call) : Type 0 where
    pub files : AcceptsFiles size call.files.held model tree
    pub answer : Answer
    pub answers : P files.m files.checked answer
    pub out_takes : Appends call.out.taken call.out.taken_now answer.out

  zero_comes : (call : Call) (a : Answer) → Comes call.files.held (script P size model tree) a → a.status ≡ 0
      → Appends call.out.taken call.out.taken_now a.out → Came call
  zero_comes call a (bytes, holds, inr (long, is)) zero takes = absurd (refused_not_zero (TooLong 1 model_limit) a is zero)
  zero_comes call a (bytes, holds, inl (fits, (tree_bytes, tree_holds, inr (long, is)))) zero takes =
      absurd (refused_not_zero (TooLong 2 tree_limit) a is zero)
  zero_comes call a (bytes, holds, inl (fits, (tree_bytes, tree_holds, inl (tree_fits, inl finished)))) zero takes =
      record {
        files = record {
          model_bytes = bytes;
          model_held = holds;
          model_fits = fits;
          tree_bytes = tree_bytes;
          tree_held = tree_holds;
          tree_fits = tree_fits;
          m = finished.m;
          checked = finished.checked;
          accepts = finished.accepts;
        };
        answer = a;
        answers = finished.answers;
        out_takes = takes;
      }
  zero_comes call a (bytes, holds, inl (fits, (tree_bytes, tree_holds, inl (tree_fits, inr (r, refuses, is))))) zero takes =
      absurd (refused_not_zero r a is zero)

  by_ending : (call : Call) → Ending (script P size model tree) call → call.status ≡ 0 → Came call
  by_ending call (inl lack) zero = absurd (omega (arith, lack.status_is, zero))
  by_ending call (inr (inl done)) zero =
      zero_comes call done.answer done.came.comes (sym done.whole.status_is ∙ zero) done.whole.out_takes
  by_ending call (inr (inr (inl failed))) zero = absurd (omega (arith, failed.whole.status_is, zero))
  by_ending call (inr (inr (inr cut))) zero = absurd (omega (arith, cut.status_is, zero))

  pub came : (call : Call) → Ends (script P size model tree) call → call.status ≡ 0 → Came call
  came call ends zero = by_ending call (ending (script P size model tree) call ends) zero

-- ---- Files that are accepted.

ok_is_no_err : {A : Type 0} (result : Result A Refusal) (x : A) (r : Refusal) → result ≡ Ok x → result ≡ Err r → ⊥
ok_is_no_err result x r ok err = let bad : ◌≡◌ {A = ℕ} 0 1 = cc in omega (arith, bad)

same_ok : {A : Type 0} (result : Result A Refusal) (x y : A) → result ≡ Ok x → result ≡ Ok y → x ≡ y
same_ok result x y ok other = cc

-- a refusal contradicts them
none_refused : (size : ℕ) (held : Told) (model tree : List ℕ) (given : AcceptsFiles size held model tree) (r : Refusal)
    → Refuses size given.model_bytes given.tree_bytes r → ⊥
none_refused size held model tree given r (inl refused) =
    ok_is_no_err (typed_model given.model_bytes) given.m r given.accepts.model_is refused
none_refused size held model tree given r (inr (inl none)) =
    reads_exact given.tree_bytes (Err (Refused r)) none.fault given.accepts.d given.accepts.file
none_refused size held model tree given r (inr (inr faulty)) =
    let same_model : faulty.m ≡ given.m =
    same_ok (typed_model given.model_bytes) faulty.m given.m faulty.model_is given.accepts.model_is in
    let same_tree : faulty.d ≡ given.accepts.d =
    file_is_one given.tree_bytes faulty.d given.accepts.d faulty.file given.accepts.file in
    let P : Model → Type 0 = λ x. replayed turn x given.accepts.d size ≡ Err r in
    let Q : Derivation → Type 0 = λ x. replayed turn faulty.m x size ≡ Err r in
    ok_is_no_err _ given.checked r given.accepts.is_accepted (subst P same_model (subst Q same_tree faulty.first))

judged_zero : (P : Answering) (size : ℕ) (held : Told) (model tree : List ℕ) (given : AcceptsFiles size held model tree)
    (a : Answer) → Judged P size given.model_bytes given.tree_bytes a
    → a.status ≡ 0
judged_zero P size held model tree given a (inl finished) = finished.status_is
judged_zero P size held model tree given a (inr (r, refuses, is)) = absurd (none_refused size held model tree given r refuses)

-- they come to status 0
comes_zero : (P : Answering) (size : ℕ) (files : List (List ℕ × List ℕ)) (model tree : List ℕ)
    → AcceptsFiles size (Some files) model tree → (a : Answer)
    → Comes (Some files) (script P size model tree) a → a.status ≡ 0
comes_zero P size files model tree given a comes =
    let behind_model = comes_behind files 1 model model_limit
    (λ m. asks 2 tree tree_limit (λ t. comes_to (λ b. Judged P size m t b))) a given.model_bytes given.model_held
    given.model_fits comes in
    let behind_tree = comes_behind files 2 tree tree_limit (λ t. comes_to (λ b. Judged P size given.model_bytes t b)) a
    given.tree_bytes given.tree_held given.tree_fits behind_model in
    judged_zero P size (Some files) model tree given a behind_tree

pub all_done : (P : Answering) (size : ℕ) (model tree : List ℕ) (call : Call) → Ends (script P size model tree) call
    → (held : List (List ℕ × List ℕ)) → call.files.held ≡ Some held
    → AcceptsFiles size call.files.held model tree → IsUndisturbed call → (call.status ≡ 0) ⊎ (call.status ≡ 5)
all_done P size model tree call ends held told given quiet =
    by_end (undisturbed (script P size model tree) call quiet (ending (script P size model tree) call ends))
  where
    by_end : Done (script P size model tree) call ⊎ (call.status ≡ 5) → (call.status ≡ 0) ⊎ (call.status ≡ 5)
    by_end (inr five) = inr five
    by_end (inl done) =
        let R : Told → Type 0 = λ h. Comes h (script P size model tree) done.answer in
        let Q : Told → Type 0 = λ h. AcceptsFiles size h model tree in
        inl (done.whole.status_is ∙ comes_zero P size held model tree (subst Q told given) done.answer
        (subst R told done.came.comes))
