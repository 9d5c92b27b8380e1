-- How code serves the calls of a model: called with arguments that meet the model, it returns with the model's results.
use Rattle.std.specs.Prelude.{◌≡◌, ℕ, ◌+◌, ◌<◌, ◌≤◌, List, [], ◌∷◌, length, Some, Ok, IsSome, ◌↔◌}
use Rattle.std.specs.FinMap.{get}
use Rattle.rup_base.specs.declared.arg.Arg.{Arg}
use Rattle.cost_poly.specs.Polynomial.{at}
use Rattle.model_syntax.specs.declared.program.Param.{Param}
use Rattle.model_syntax.specs.declared.program.Param.TheVariants as param
use Rattle.model_syntax.specs.declared.program.Model.{Model}
use Rattle.model_syntax.specs.Types.{scalar_results}
use Rattle.model_syntax.specs.Value.{Meets, results}
use Rattle.sym_heap.specs.Fits.{Locals, call_of, entry_numbers, array_bytes}
use Rattle.sym_heap.specs.Arrival.{HasArguments}
use Rattle.model_command.specs.Computes.{HoldsResults, InReturned}
use Rattle.bed_syntax.specs.Shape.{numbers}
use Rattle.model_command.specs.declared.command.ModelCommand.{ModelCommand}
use Rattle.rv_memory.specs.Ranges.{Range, Within}
use Rattle.rv_machine.specs.State.{State, register}
use Rattle.rv_machine.specs.Step.{after}
use Rattle.rv_machine.specs.Machines.{IsSaved}
use Rattle.rv_emit.specs.Ready.{stack_range, Ready}
use Rattle.rv_emit.specs.Returns.{IsUnderWay}

-- registers a0, which is x10, and on as locals
abbrev pub argument_registers : State → Locals
argument_registers s l = Some (register s.regs (10 + l))

-- the ranges of the array parameters from number p on, in their order: the array of parameter p stands at pointers p
abbrev pub array_ranges : ℕ → List Param → List Arg → (ℕ → ℕ) → List Range
array_ranges p (param.Word x ∷ qs) (v ∷ vs) pointers = array_ranges (p + 1) qs vs pointers
array_ranges p (param.Byte x ∷ qs) (v ∷ vs) pointers = array_ranges (p + 1) qs vs pointers
array_ranges p (q ∷ qs) (v ∷ vs) pointers =
    record { start = pointers p; size = length (array_bytes (Some v)) } ∷ array_ranges (p + 1) qs vs pointers
array_ranges p qs vs pointers = []

-- The call that starts in s returns: within the bound at the numbers of the entry symbols; with the scalar results in a0
-- and a1 and the returned arrays where the arguments stand; and with all else outside the stack range as it was.
pub record Gives (m : Model) (c : ModelCommand) (args : List Arg) (pointers : ℕ → ℕ) (words : List ℕ) (stack start : ℕ)
    (s : State) : Type 0 where
  pub steps : ℕ
  pub end : State
  pub ran : after steps s ≡ Ok end
  pub back : end.pc ≡ register s.regs 1
  pub before : (j : ℕ) → j < steps → IsUnderWay words start s j
  pub in_time : steps ≤ at (entry_numbers m.params args) c.bound
  pub has_results : HoldsResults m.params pointers m.rets (results m args) (numbers (scalar_results m.rets)) end.mem
      (argument_registers end)
  pub saved : (r : ℕ) → IsSaved r → register end.regs r ≡ register s.regs r
  pub others : (address : ℕ) → (Within (stack_range stack s) address → ⊥)
      → (InReturned m.params (call_of m args pointers) m.rets address → ⊥) → get end.mem address ≡ get s.mem address
  pub same_addresses : (address : ℕ) → IsSome (get end.mem address) ↔ IsSome (get s.mem address)

-- the code serves every call from a state that is ready and holds arguments that meet the model
abbrev pub Serves : Model → ModelCommand → List ℕ → List ℕ → ℕ → Type 0
Serves m c words tables stack = (args : List Arg) (pointers : ℕ → ℕ) (image : Range) (start : ℕ) (s : State)
    → Meets m args → HasArguments 0 0 m.params args pointers s.mem (argument_registers s)
    → Ready words tables stack image start (array_ranges 0 m.params args pointers) s
    → Gives m c args pointers words stack start s
