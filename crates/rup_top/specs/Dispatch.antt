-- The script of each command, and its promise.
use Rattle.std.specs.Prelude.{◌≡◌, ◌≢◌, ℕ, List, Some, ◌⊎◌, ⊤}
use Rattle.rup_top.specs.Answer.{usage_answer}
use Rattle.rup_top.specs.Frame.{Call, IsUndisturbed, Script, comes_to, exactly}
use Rattle.rup_top.specs.Words.{Command, usage, compile, replay, code, run, eval, show, bench}
use Rattle.rup_top.specs.commands.Derivations.{AcceptsFiles}
use Rattle.rup_top.specs.commands.Compile.{compile_script, CompileKeeps, WritesDerivation}
use Rattle.rup_top.specs.commands.Replay.{replay_script, ReplayKeeps, WritesImage}
use Rattle.rup_top.specs.commands.Code.{code_script, CodeKeeps}
use Rattle.rup_top.specs.commands.Run.{run_script, RunKeeps}
use Rattle.rup_top.specs.commands.Eval.{eval_script, EvalKeeps}
use Rattle.rup_top.specs.commands.Show.{show_script, ShowKeeps}
use Rattle.rup_top.specs.commands.Bench.{bench_script, BenchKeeps}

abbrev pub script_of : Command → Script
script_of usage = comes_to (λ a. exactly usage_answer a)
script_of (compile model lemmas) = compile_script model lemmas
script_of (replay model tree size) = replay_script model tree size
script_of (code model tree) = code_script model tree
script_of (run image texts) = run_script image texts
script_of (eval model texts) = eval_script model texts
script_of (show image) = show_script image
script_of (bench seed count) = bench_script seed count

abbrev pub Promise : Command → Call → Type 0
Promise usage call = call.status ≢ 0
Promise (compile model lemmas) call = CompileKeeps model lemmas call
Promise (replay model tree size) call = ReplayKeeps model tree size call
Promise (code model tree) call = CodeKeeps model tree call
Promise (run image texts) call = RunKeeps image texts call
Promise (eval model texts) call = EvalKeeps model texts call
Promise (show image) call = ShowKeeps image call
Promise (bench seed count) call = BenchKeeps seed count call

-- The headline. Status 0 of `replay` comes with an image.
abbrev pub WritesOnly : Command → Call → Type 0
WritesOnly (replay model tree size) call = call.status ≡ 0 → WritesImage model tree size call
WritesOnly usage call = call.status ≢ 0
WritesOnly command call = ⊤

-- files that are accepted are replayed to status 0, or memory runs out
abbrev pub WritesAll : Command → Call → Type 0
WritesAll (replay model tree size) call =
    (held : List (List ℕ × List ℕ)) → call.files.held ≡ Some held → AcceptsFiles size call.files.held model tree
    → IsUndisturbed call → (call.status ≡ 0) ⊎ (call.status ≡ 5)
WritesAll command call = ⊤

-- Compiled. Status 0 of `compile` comes with the file of a derivation that is an instance of the model, which is read back as it
-- unless it is too deep, and which the replayer accepts up to the limits of slots, of the bound and of the size.
abbrev pub Compiled : Command → Call → Type 0
Compiled (compile model lemmas) call = call.status ≡ 0 → WritesDerivation model lemmas call
Compiled command call = ⊤
