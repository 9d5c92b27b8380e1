-- What holds of images and the models whose parameters, requirements and results they have.
use Rattle.std.specs.Prelude.{◌≡◌, true, ℕ, ◌≤◌, ◌↔◌, List, map, min, Ok}
use Rattle.rup_base.specs.declared.arg.Arg.{Arg}
use Rattle.cost_poly.specs.Polynomial.{at}
use Rattle.image_layout.specs.declared.image.Image.{Image}
use Rattle.image_layout.specs.Spelling.{IsWithinLimits}
use Rattle.model_syntax.specs.declared.program.Model.{Model}
use Rattle.model_syntax.specs.Formed.{model_formed}
use Rattle.model_syntax.specs.Spelling.{Spellable}
use Rattle.model_syntax.specs.Types.{Well, kind_of}
use Rattle.model_syntax.specs.Value.{Meets, results}
use Rattle.rv_machine.specs.State.{State}
use Rattle.rv_machine.specs.Run.{Ran}
use Rattle.rv_machine.specs.declared.running.End.{End}
use Rattle.rv_machine.specs.declared.running.End.TheVariants.{Returned}
use Rattle.run_setup.specs.Arguments.{array_limit}
use Rattle.run_setup.specs.Judging.{total_size, symbol_values, judged}
use Rattle.run_setup.specs.Loading.{base, return_address, start_state}
use Rattle.run_setup.specs.Results.{results_of, lines_of}
use Rattle.run_setup.specs.Ready.{Ready}
use Rattle.rv_machine.specs.Machines.{IsMachine}
use Rattle.run_setup.specs.Good.{requirement, Returns, Good}

-- the greatest number of steps of a run
abbrev pub step_limit : ℕ
step_limit = 1_000_000_000

-- an image with the parameters and requirements of a well typed model is called with arguments exactly where they meet
-- the model and their arrays are not too large
abbrev pub JudgedIsMet : Type 0
JudgedIsMet = (m : Model) (i : Image) (args : List Arg) → Well m → i.params ≡ map kind_of m.params
    → i.requires_ ≡ map (requirement m.params) m.requires_
    → (judged i args ≡ Ok tt) ↔ (Meets m args × (total_size args ≤ array_limit))

-- the state from which an image with the parameters of a model is called is ready, where its numbers are words and bytes
abbrev pub LoadedIsReady : Type 0
LoadedIsReady = (m : Model) (i : Image) (args : List Arg) → IsWithinLimits i → i.params ≡ map kind_of m.params → Meets m args
    → total_size args ≤ array_limit
    → IsMachine (start_state i args) → Ready m i args base (start_state i args)

-- a call from a ready state that returned has ended in a machine state
abbrev pub ReturnedIsMachine : Type 0
ReturnedIsMachine = (m : Model) (i : Image) (args : List Arg) (start : ℕ) (s : State) → Ready m i args start s
    → (r : Returns m i args start s) → IsMachine r.end

-- the run ended at the stop address, and its results are printed as those of a model; they are the model's where it is
-- formed, so that its numbers have their ends
pub record Serves (m : Model) (i : Image) (args : List Arg) (end : End) (s : State) : Type 0 where
  pub steps : ℕ
  pub returned : end ≡ Returned steps
  pub printed : lines_of (results_of s i args) ≡ lines_of (results m args)
  pub same : model_formed m ≡ true → Spellable m → results_of s i args ≡ results m args

-- the run of a good image with arguments that meet its model, which is well typed, and give a bound of at most 10^9
-- returns, and its results are printed as the model's
abbrev pub GoodIsServed : Type 0
GoodIsServed = (m : Model) (i : Image) (args : List Arg) (end : End) (s : State) → Well m → IsWithinLimits i → Good m i
    → Meets m args → total_size args ≤ array_limit
    → IsMachine (start_state i args) → at (symbol_values i.params args) i.bound ≤ step_limit
    → Ran return_address (min (at (symbol_values i.params args) i.bound) step_limit) (start_state i args) end s
    → Serves m i args end s
