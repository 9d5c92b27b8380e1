-- What `compile` must show: its answers are its own, and it writes the file of the derivation that the search finds, which is
-- that of an instance.
use Rattle.std.proofs.Common.{◌≡◌, ℕ, ◌+◌, ◌≤◌, true, List, [], ◌∷◌, ◌++◌, Some, Result, Ok, Err, IfOk, inl, inr, refl, sym}
use Rattle.std.proofs.Common.{subst, ap, ◌∙◌, arith, append-nil, append_assoc}
use Rattle.std.specs.Io.KnownBytes.{Appends}
use Rattle.rup_base.specs.Answers.{Answers as Answered, and_then}
use Rattle.rup_base.specs.Name.{is_name}
use Rattle.rup_base.specs.declared.fail.Fail.{Fail}
use Rattle.rup_base.specs.declared.refusal.Refusal.{Refusal}
use Rattle.rup_base.specs.declared.refusal.Refusal.TheVariants.{TooLong}
use Rattle.deriv_file.proofs.laws.FileReread.{text_is_file}
use Rattle.deriv_file.specs.FileText.{text_of}
use Rattle.deriv_tree.specs.declared.tree.Derivation.{Derivation}
use Rattle.deriv_tree.specs.Shape.{IsWhole}
use Rattle.lemma_files.specs.declared.terms.Lemma.{Lemma}
use Rattle.derive_search.proofs.laws.Choosing.{left_true}
use Rattle.derive_search.proofs.laws.Found.{derivations_are_instances}
use Rattle.derive_search.specs.Derive.{derived}
use Rattle.equations.specs.Equations.{turn}
use Rattle.model_reader.specs.Reading.{read_model}
use Rattle.model_syntax.proofs.laws.Parameters.{few_params}
use Rattle.model_syntax.specs.Formed.{model_formed}
use Rattle.model_syntax.specs.declared.program.Model.{Model}
use Rattle.rup_top.specs.declared.answer.Answer.{Answer}
use Rattle.rup_top.specs.Answer.{done}
use Rattle.rup_top.specs.Frame.{Told, Script, Call, IsUndisturbed, Comes, Ends, Writes, comes_to, exactly}
use Rattle.rup_top.specs.Inputs.{model_limit, lemma_limit, typed_model}
use Rattle.rup_top.specs.commands.Compile.{IsCompiled, HoldsEach, FindsDerivation, WritesDerivation, CompileKeeps, lemmas_of}
use Rattle.rup_top.specs.commands.Compile.{searched, compile_answer, compile_line, lemmas_script, compile_script}
use Rattle.rup_top.proofs.Reading.{typed_well, typed_within, typed_formed}
use Rattle.rup_top.proofs.Ends.{IsProper, proper_done, proper_refused, refused_not_zero, Leads, leads, Shows, Gives, written}
use Rattle.rup_top.proofs.Ends.{Ending, ending}
use Rattle.rup_top.proofs.Held.{comes_behind}
use Rattle.rup_top.proofs.Over.{instance_over}
use Rattle.rup_top.proofs.Writable.{IsWritable, derivations_are_writable}

-- ---- The derivation.

-- what the search finds is whole
pub found_whole : (lemmas : List Lemma) (m : Model) (result : Result Derivation Fail) → Answered result (derived lemmas turn m)
    → IfOk result (λ d. IsWhole d)
found_whole lemmas m (Ok d) is = (derivations_are_instances lemmas turn m d is).whole
found_whole lemmas m (Err f) is = tt

compiled : (bytes : List ℕ) (lemmas : List Lemma) (m : Model) (d : Derivation) → typed_model bytes ≡ Ok m
    → derived lemmas turn m ≡ Ok d → IsCompiled lemmas m d
compiled bytes lemmas m d typed found =
    let is = derivations_are_instances lemmas turn m d found in
    let formed : model_formed m ≡ true = typed_formed bytes m (read_model 1 bytes) refl typed in
    let named : is_name m.name ≡ true = left_true (is_name m.name) _ formed in
    let fits : IsWritable m d = derivations_are_writable lemmas turn m (few_params m (typed_well m (read_model 1 bytes) typed)) d
    found in
    record {
      instance = is;
      shallow = λ plain. is.shallow plain (typed_within bytes m (read_model 1 bytes) refl typed);
      reads_back = λ shallow. text_is_file d
          (record { name = rw fits.name named; whole = is.whole; shallow = shallow; few = fits.few; numbers = fits.numbers });
      replays = λ most. instance_over turn m d is.out is.after most is.is;
    }

-- ---- Its answers.

proper_compiled : (r : Result Derivation Refusal) → IsProper (compile_answer r)
proper_compiled (Ok d) = proper_done _ refl
proper_compiled (Err r) = proper_refused r

lemmas_lead : (model : List ℕ) (words done : List (List ℕ)) (place : ℕ) → Leads IsProper (lemmas_script model done place words)
lemmas_lead model [] done place = λ a is. subst IsProper (sym is) (proper_compiled (searched model done))
lemmas_lead model (word ∷ words) done place = λ bytes. lemmas_lead model words (done ++ bytes ∷ []) (place + 1)

-- ---- Status 0.

-- what is found for a model's bytes and the files of lemmas
record Finds (bytes : List ℕ) (files : List (List ℕ)) : Type 0 where
  m : Model
  model_is : typed_model bytes ≡ Ok m
  lemmas : List Lemma
  lemmas_are : lemmas_of [] 2 files ≡ Ok lemmas
  d : Derivation
  found : derived lemmas turn m ≡ Ok d

module _ (bytes : List ℕ) (files : List (List ℕ)) (a : Answer) (zero : a.status ≡ 0) where
  zero_derived : (m : Model) (ls : List Lemma) → typed_model bytes ≡ Ok m → lemmas_of [] 2 files ≡ Ok ls
      → (found : Result Derivation Refusal) → derived ls turn m ≡ found → a ≡ compile_answer found
      → (f : Finds bytes files) × (a.out ≡ text_of f.d)
  zero_derived m ls model_is lemmas_are (Err r) found_is is = absurd (refused_not_zero r a is zero)
  zero_derived m ls model_is lemmas_are (Ok d) found_is is = (
    record { m = m; model_is = model_is; lemmas = ls; lemmas_are = lemmas_are; d = d; found = found_is },
    ap
        (λ (x : Answer). x.out) is,
  )

  zero_lemmas : (m : Model) → typed_model bytes ≡ Ok m → (lemmas : Result (List Lemma) Refusal) → lemmas_of [] 2 files ≡ lemmas
      → a ≡ compile_answer (and_then lemmas (λ ls. derived ls turn m))
      → (f : Finds bytes files) × (a.out ≡ text_of f.d)
  zero_lemmas m model_is (Err r) lemmas_are is = absurd (refused_not_zero r a is zero)
  zero_lemmas m model_is (Ok ls) lemmas_are is = zero_derived m ls model_is lemmas_are (derived ls turn m) refl is

  zero_found : (typed : Result Model Refusal) → typed_model bytes ≡ typed
      → a ≡ compile_answer (and_then typed (λ m. and_then (lemmas_of [] 2 files) (λ ls. derived ls turn m)))
      → (f : Finds bytes files) × (a.out ≡ text_of f.d)
  zero_found (Err r) model_is is = absurd (refused_not_zero r a is zero)
  zero_found (Ok m) model_is is = zero_lemmas m model_is (lemmas_of [] 2 files) refl is

-- the files of lemmas that the words name, and the answer to them
record Lemmas (held : Told) (model : List ℕ) (words done : List (List ℕ)) (a : Answer) : Type 0 where
  files : List (List ℕ)
  files_held : HoldsEach held words files
  answer_is : a ≡ compile_answer (searched model (done ++ files))

module _ (held : Told) (model : List ℕ) (a : Answer) (zero : a.status ≡ 0) where
  lemmas_come : (words done : List (List ℕ)) (place : ℕ) → Comes held (lemmas_script model done place words) a
      → Lemmas held model words done a
  lemmas_come [] done place is =
      record {
        files = [];
        files_held = tt;
        answer_is = is ∙ ap (λ (fs : List (List ℕ)). compile_answer (searched model fs)) (sym (append-nil done));
      }
  lemmas_come (word ∷ words) done place (bytes, holds, inr (long, is)) =
      absurd (refused_not_zero (TooLong place lemma_limit) a is zero)
  lemmas_come (word ∷ words) done place (bytes, holds, inl (fits, comes)) =
      let rest = lemmas_come words (done ++ bytes ∷ []) (place + 1) comes in
      record {
        files = bytes ∷ rest.files;
        files_held = (holds, (fits, rest.files_held));
        answer_is = rest.answer_is ∙ ap (λ (fs : List (List ℕ)). compile_answer (searched model fs))
            (append_assoc done (bytes ∷ []) rest.files);
      }

module _ (model : List ℕ) (words : List (List ℕ)) (call : Call) where
  zero_comes : (a : Answer) → Comes call.files.held (compile_script model words) a → a.status ≡ 0
      → Appends call.out.taken call.out.taken_now a.out → WritesDerivation model words call
  zero_comes a (bytes, holds, inr (long, is)) zero takes = absurd (refused_not_zero (TooLong 1 model_limit) a is zero)
  zero_comes a (bytes, holds, inl (fits, comes)) zero takes =
      let ls = lemmas_come call.files.held bytes a zero words [] 2 comes in
      let p = zero_found bytes ls.files a zero (typed_model bytes) refl ls.answer_is in
      let f = p.0 in
      let P : List ℕ → Type 0 = λ out. Appends call.out.taken call.out.taken_now out in
      record {
        finds = record {
          bytes = bytes;
          model_held = holds;
          model_fits = fits;
          files = ls.files;
          files_held = ls.files_held;
          m = f.m;
          model_is = f.model_is;
          lemmas = f.lemmas;
          lemmas_are = f.lemmas_are;
          d = f.d;
          found = f.found;
        };
        out_takes = subst P p.1 takes;
        compiled = compiled bytes f.lemmas f.m f.d f.model_is f.found;
      }

  by_ending : Ending (compile_script model words) call → call.status ≡ 0 → WritesDerivation model words call
  by_ending (inl lack) zero = absurd (omega (arith, lack.status_is, zero))
  by_ending (inr (inl done)) zero = zero_comes done.answer done.came.comes (sym done.whole.status_is ∙ zero) done.whole.out_takes
  by_ending (inr (inr (inl failed))) zero = absurd (omega (arith, failed.whole.status_is, zero))
  by_ending (inr (inr (inr cut))) zero = absurd (omega (arith, cut.status_is, zero))

-- ---- Models for which a derivation is found.

module _ (held : List (List ℕ × List ℕ)) (model : List ℕ) (a : Answer) where
  lemmas_follow : (words files done : List (List ℕ)) (place : ℕ) → HoldsEach (Some held) words files
      → Comes (Some held) (lemmas_script model done place words) a
      → a ≡ compile_answer (searched model (done ++ files))
  lemmas_follow [] [] done place holds is =
      is ∙ ap (λ (fs : List (List ℕ)). compile_answer (searched model fs)) (sym (append-nil done))
  lemmas_follow [] (bytes ∷ files) done place holds is = absurd holds
  lemmas_follow (word ∷ words) [] done place holds is = absurd holds
  lemmas_follow (word ∷ words) (bytes ∷ files) done place holds comes =
      let rest : Comes (Some held) (lemmas_script model (done ++ bytes ∷ []) (place + 1) words) a =
      comes_behind held place word lemma_limit (λ b. lemmas_script model (done ++ b ∷ []) (place + 1) words) a bytes holds.0
      holds.1.0 comes in
      lemmas_follow words files (done ++ bytes ∷ []) (place + 1) holds.1.1 rest
      ∙ ap (λ (fs : List (List ℕ)). compile_answer (searched model fs)) (append_assoc done (bytes ∷ []) files)

found_gives : (files : List (List ℕ × List ℕ)) (model : List ℕ) (words : List (List ℕ))
    (given : FindsDerivation (Some files) model words) (a : Answer) → Comes (Some files) (compile_script model words) a
    → Gives (text_of given.d) a
found_gives files model words given a comes =
    let rest : Comes (Some files) (lemmas_script given.bytes [] 2 words) a =
    comes_behind files 1 model model_limit (λ bytes. lemmas_script bytes [] 2 words) a given.bytes given.model_held
    given.model_fits comes in
    let is : a ≡ compile_answer (searched given.bytes given.files) =
    lemmas_follow files given.bytes a words given.files [] 2 given.files_held rest in
    let found : searched given.bytes given.files ≡ Ok given.d = rw (given.model_is, given.lemmas_are) given.found in
    let same : a ≡ done (text_of given.d) (compile_line given.d) = is ∙ ap compile_answer found in
    record { status_is = ap (λ (x : Answer). x.status) same; out_is = ap (λ (x : Answer). x.out) same }

compile_written : (model : List ℕ) (words : List (List ℕ)) (call : Call) → Ends (compile_script model words) call
    → (held : List (List ℕ × List ℕ)) → call.files.held ≡ Some held
    → (given : FindsDerivation call.files.held model words) → IsUndisturbed call → Writes (text_of given.d) call
compile_written model words call ends held told given quiet =
    let P : Told → Type 0 = λ h. (g : FindsDerivation h model words) → Writes (text_of g.d) call in
    subst P (sym told) (λ g. written (compile_script model words) (text_of g.d) call held told quiet ends
    (found_gives held model words g)) given

pub compile_shows : (model : List ℕ) (words : List (List ℕ))
    → Shows (compile_script model words) (λ call. CompileKeeps model words call)
compile_shows model words =
    record {
      proper = λ held a comes. leads IsProper held (compile_script model words) proper_refused
          (λ bytes. lemmas_lead bytes words [] 2) a comes;
      keeps = λ call ends. record {
        writes_only = by_ending model words call (ending (compile_script model words) call ends);
        writes_all = compile_written model words call ends;
      };
    }
