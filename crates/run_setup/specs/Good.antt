-- The theorem that an image carries for its model: called on any state that is ready, it returns within its stated
-- steps with the model's value, and changes nothing else.
use Rattle.std.specs.Prelude.{◌≡◌, ◌≢◌, ℕ, ◌+◌, ◌≤◌, ◌<◌, List, [], ◌∷◌, map, take, Option, Some, None, Ok, IsSome, IfOk, ◌↔◌}
use Rattle.std.specs.Prelude.{◌⊎◌, pos, sum_by, slice_index_or, if◌then◌else◌, ⊤}
use Rattle.std.specs.FinMap.{get}
use Rattle.rup_base.specs.declared.arg.Kind.{Kind}
use Rattle.rup_base.specs.declared.arg.Arg.{Arg}
use Rattle.rup_base.specs.declared.arg.Arg.TheVariants as arg
use Rattle.side_certs.specs.LinearForm.{LinearForm, symbol}
use Rattle.cost_poly.specs.Polynomial.{at}
use Rattle.image_layout.specs.declared.image.Image.{Image}
use Rattle.image_layout.specs.Spelling.{registers_of}
use Rattle.model_syntax.specs.declared.stmt.Le.{Le}
use Rattle.model_syntax.specs.declared.program.Param.{Param}
use Rattle.model_syntax.specs.declared.program.Model.{Model}
use Rattle.model_syntax.specs.Entries.{entry_names, number_among, result_place}
use Rattle.model_syntax.specs.Names.{Name}
use Rattle.model_syntax.specs.Types.{kind_of}
use Rattle.model_syntax.specs.Value.{value}
use Rattle.sym_heap.specs.Sides.{difference}
use Rattle.rv_machine.specs.State.{State, register}
use Rattle.rv_machine.specs.Machines.{IsSaved}
use Rattle.rv_machine.specs.Step.{after}
use Rattle.run_setup.specs.Judging.{symbol_values}
use Rattle.run_setup.specs.Ready.{array_bytes, image_range, stack_range, array_range, Ready}
use Rattle.rv_memory.specs.Ranges.{Within, Stands}

-- The parameters, requirements and results of a model, as an image has them.

-- the form of an entry: its symbol
abbrev pub entry_form : List Param → Name → LinearForm
entry_form ps x = symbol (number_among x (entry_names ps))

-- a requirement as a form over the entry symbols: the high side less the low one
abbrev pub requirement : List Param → Le → LinearForm
requirement ps r = difference (entry_form ps) r

-- The call.

-- the register that holds the pointer of a parameter
abbrev pub register_of : List Kind → ℕ → ℕ
register_of kinds p = 10 + sum_by registers_of (take p kinds)

-- scalar results are in a0 and a1, in order; a returned array stands where its parameter's did
abbrev pub HasResults : List Kind → List (Option ℕ) → List Arg → ℕ → State → State → Type 0
HasResults kinds [] [] r s u = ⊤
HasResults kinds (None ∷ rets) (arg.Word n ∷ results) r s u = (register u.regs r ≡ n) × HasResults kinds rets results (r + 1) s u
HasResults kinds (Some p ∷ rets) (result ∷ results) r s u =
    Stands u.mem (register s.regs (register_of kinds p)) (array_bytes result) × HasResults kinds rets results r s u
HasResults kinds rets results r s u = ⊥

-- an address in the range of a returned array
abbrev pub Returned : List Kind → List (Option ℕ) → List Arg → State → ℕ → Type 0
Returned kinds [] args s address = ⊥
Returned kinds (None ∷ rets) args s address = Returned kinds rets args s address
Returned kinds (Some p ∷ rets) args s address =
    Within (array_range (register_of kinds p) (slice_index_or args p (arg.Word 0)) s) address ⊎ Returned kinds rets args s address

-- before a step of the call: no step has trapped, the place lies in the image, and is not the one to return to
pub record IsUnderWay (i : Image) (base : ℕ) (s : State) (j : ℕ) : Type 0 where
  pub state : State
  pub ran : after j s ≡ Ok state
  pub in_image : Within (image_range i base) state.pc
  pub not_back : state.pc ≢ register s.regs 1

-- the call that starts in s returns: `steps` is the least number of steps after which pc is the start's ra
pub record Returns (m : Model) (i : Image) (args : List Arg) (base : ℕ) (s : State) : Type 0 where
  pub steps : ℕ
  pub end : State
  pub ran : after steps s ≡ Ok end
  pub back : end.pc ≡ register s.regs 1
  pub before : (j : ℕ) → j < steps → IsUnderWay i base s j
  pub in_time : steps ≤ at (symbol_values i.params args) i.bound
  pub has_results : IfOk (value m args) (λ results. HasResults i.params i.rets results 10 s end)
  pub saved : (r : ℕ) → IsSaved r → register end.regs r ≡ register s.regs r
  pub same_addresses : (address : ℕ) → IsSome (get end.mem address) ↔ IsSome (get s.mem address)
  pub others : (address : ℕ) → (Within (stack_range i s) address → ⊥) → (Returned i.params i.rets args s address → ⊥)
      → get end.mem address ≡ get s.mem address

pub record Good (m : Model) (i : Image) : Type 0 where
  pub params_are : i.params ≡ map kind_of m.params
  pub requires_are : i.requires_ ≡ map (requirement m.params) m.requires_
  pub rets_are : i.rets ≡ map (result_place m.params) m.rets
  pub returns : (args : List Arg) (base : ℕ) (s : State) → Ready m i args base s → Returns m i args base s
