-- How the code of three-address code returns.
use Rattle.std.specs.Prelude.{◌≡◌, ℕ, ◌+◌, ◌*◌, ◌<◌, ◌≤◌, List, length, Some, None, Ok, IsSome, ◌↔◌, slice_get}
use Rattle.std.specs.FinMap.{get}
use Rattle.bed_syntax.specs.declared.weights.Weights.{Weights}
use Rattle.flat_lang.specs.State.{Vars}
use Rattle.flat_lang.specs.declared.flat.Flat.{Flat}
use Rattle.flat_lang.specs.Meaning.{exec}
use Rattle.rv_machine.specs.State.{State, register}
use Rattle.rv_memory.specs.Ranges.{Bytes, Range, Within}
use Rattle.rv_machine.specs.Machines.{IsSaved}
use Rattle.rv_machine.specs.Step.{after}
use Rattle.rv_emit.specs.Ready.{stack_range, Ready, IsPart, arguments}

-- before a step of the call: no step has trapped, and the place lies in the code
pub record IsUnderWay (words : List ℕ) (start : ℕ) (s : State) (j : ℕ) : Type 0 where
  pub state : State
  pub ran : after j s ≡ Ok state
  pub from : start ≤ state.pc
  pub to : state.pc < start + 4 * length words

-- The call that starts in s returns, where the three-address code ends with these ticks, memory and variables: within the
-- ticks and 48; with each result that is set in a0 and a1, which are x10 and x11; with the arrays as the code leaves them;
-- and with all other bytes outside the stack range as they were.
pub record Returns (words : List ℕ) (stack start : ℕ) (rets : List ℕ) (s : State) (ticks : ℕ) (mem : Bytes) (vars : Vars) : Type 0
  where
    pub steps : ℕ
    pub end : State
    pub ran : after steps s ≡ Ok end
    pub back : end.pc ≡ register s.regs 1
    pub before : (j : ℕ) → j < steps → IsUnderWay words start s j
    pub in_time : steps ≤ ticks + 48
    pub results : (q x v : ℕ) → slice_get rets q ≡ Some x → get vars x ≡ Some v → register end.regs (10 + q) ≡ v
    pub saved : (r : ℕ) → IsSaved r → register end.regs r ≡ register s.regs r
    pub arrays : (address b : ℕ) → get mem address ≡ Some b → get end.mem address ≡ Some b
    pub others : (address : ℕ) → (Within (stack_range stack s) address → ⊥) → get mem address ≡ None
        → get end.mem address ≡ get s.mem address
    pub same_addresses : (address : ℕ) → IsSome (get end.mem address) ↔ IsSome (get s.mem address)

-- From every state that is ready, and from whose arguments and arrays the three-address code ends with some fuel, the code
-- returns.
abbrev pub RunsAs : Weights → Flat → List ℕ → List ℕ → ℕ → Type 0
RunsAs w f words tables stack =
    (image : Range) (start : ℕ) (arrays : List Range) (s : State) (fuel : ℕ) (mem : Bytes) (ticks : ℕ) (mem_after : Bytes)
    (vars_after : Vars)
    → Ready words tables stack image start arrays s → IsPart arrays mem s.mem → exec w f fuel mem (arguments s.regs f.args)
    ≡ Ok (ticks, mem_after, vars_after)
    → Returns words stack start f.rets s ticks mem_after vars_after
