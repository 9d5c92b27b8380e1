-- What the command of a model does: started on arguments that meet the model, it ends with the model's value.
use Rattle.std.specs.Prelude.{◌≡◌, ℕ, ◌+◌, ◌<◌, ◌≤◌, ◌⊎◌, ⊤, true, List, [], ◌∷◌, length, map, Some, Ok}
use Rattle.std.specs.FinMap.{get}
use Rattle.rup_base.specs.declared.arg.Arg.{Arg}
use Rattle.rup_base.specs.declared.arg.Arg.TheVariants as arg
use Rattle.rv_memory.specs.Ranges.{Bytes, Within, Stands}
use Rattle.cost_poly.specs.Polynomial.{at}
use Rattle.model_syntax.specs.declared.program.Param.{Param}
use Rattle.model_syntax.specs.declared.program.Ret.{Ret}
use Rattle.model_syntax.specs.declared.program.Ret.TheVariants as ret
use Rattle.model_syntax.specs.declared.program.Model.{Model}
use Rattle.model_syntax.specs.Entries.{param_name, number_among}
use Rattle.model_syntax.specs.Value.{Meets, results}
use Rattle.sym_heap.specs.Fits.{Locals, Call, call_of, entry_numbers, range_of, array_bytes}
use Rattle.sym_heap.specs.Arrival.{HasArguments, AreApart}
use Rattle.bed_syntax.specs.Shape.{cmd_locals, is_known}
use Rattle.bed_syntax.specs.declared.weights.Weights.{Weights}
use Rattle.bed_syntax.specs.declared.command.Cmd.{Cmd}
use Rattle.bed_meaning.specs.Locals.{Vars, local_at}
use Rattle.bed_meaning.specs.Meaning.{exec}
use Rattle.model_command.specs.declared.command.ModelCommand.{ModelCommand}

-- The locals hold the arguments in the order of registers, and there is room for every local of the command. The arrays
-- stand at their pointers, apart from one another; words stand at multiples of 4, and each array ends at or below 2^32.
pub record Starts (m : Model) (command : Cmd) (args : List Arg) (pointers : ℕ → ℕ) (mem : Bytes) (vars : Vars) : Type 0 where
  pub arguments : HasArguments 0 0 m.params args pointers mem (local_at vars)
  pub apart : AreApart (call_of m args pointers)
  pub room : (l : ℕ) → is_known (cmd_locals command []) l ≡ true → l < length vars

-- scalar results are in these locals, in order; a returned array stands where its parameter's argument did
abbrev pub HoldsResults : List Param → (ℕ → ℕ) → List Ret → List Arg → List ℕ → Bytes → Locals → Type 0
HoldsResults ps pointers [] [] [] mem locals = ⊤
HoldsResults ps pointers (ret.Scalar x ∷ rs) (arg.Word n ∷ vs) (l ∷ ls) mem locals =
    (locals l ≡ Some n) × HoldsResults ps pointers rs vs ls mem locals
HoldsResults ps pointers (ret.Array a p ∷ rs) (v ∷ vs) ls mem locals =
    Stands mem (pointers (number_among p (map param_name ps))) (array_bytes (Some v))
    × HoldsResults ps pointers rs vs ls mem locals
HoldsResults ps pointers rs vs ls mem locals = ⊥

-- an address in the range of an array that is returned
abbrev pub InReturned : List Param → Call → List Ret → ℕ → Type 0
InReturned ps call [] address = ⊥
InReturned ps call (ret.Scalar x ∷ rs) address = InReturned ps call rs address
InReturned ps call (ret.Array a p ∷ rs) address =
    Within (range_of call (number_among p (map param_name ps))) address ⊎ InReturned ps call rs address

-- With some fuel the command ends: with the model's value, within the bound by a table of weights, and with all memory
-- outside the returned arrays as before.
pub record Ends (w : Weights) (m : Model) (c : ModelCommand) (args : List Arg) (pointers : ℕ → ℕ) (mem : Bytes) (vars : Vars) :
    Type 0 where
  pub fuel : ℕ
  pub ticks : ℕ
  pub after_mem : Bytes
  pub after_vars : Vars
  pub runs : exec w fuel c.command mem vars ≡ Ok (ticks, after_mem, after_vars)
  pub in_time : ticks + w.entry ≤ at (entry_numbers m.params args) c.bound
  pub has_results : HoldsResults m.params pointers m.rets (results m args) c.rets after_mem (local_at after_vars)
  pub others : (address : ℕ) → (InReturned m.params (call_of m args pointers) m.rets address → ⊥)
      → get after_mem address ≡ get mem address

-- so it is from every start with arguments that meet the model
abbrev pub Computes : Weights → Model → ModelCommand → Type 0
Computes w m c =
    (args : List Arg) → Meets m args → (pointers : ℕ → ℕ) (mem : Bytes) (vars : Vars)
    → Starts m c.command args pointers mem vars → Ends w m c args pointers mem vars
