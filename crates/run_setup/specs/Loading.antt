-- The state that a run starts from: the image at 0x00010000, then the arrays in order, each at the next multiple of
-- 16, then the stack bytes from the next multiple of 16.
use Rattle.std.specs.Prelude.{◌≡◌, ℕ, ◌+◌, ◌*◌, ◌^◌, ◌<◌, slice_index_or, List, [], ◌∷◌, ◌++◌, length, replicate, Result, Ok, Err}
use Rattle.std.specs.Prelude.{slice_set}
use Rattle.std.specs.Int.{next_multiple_of}
use Rattle.rup_base.specs.declared.arg.Kind.{Kind}
use Rattle.rup_base.specs.declared.arg.Arg.{Arg}
use Rattle.rup_base.specs.declared.arg.Arg.TheVariants as arg
use Rattle.rup_base.specs.declared.fail.Fail.{Fail}
use Rattle.rup_base.specs.declared.fail.Fail.TheVariants.{Refused, NoMemory}
use Rattle.rup_base.specs.declared.refusal.Refusal.{Refusal}
use Rattle.rup_base.specs.Answers.{and_then}
use Rattle.image_layout.specs.declared.image.Image.{Image}
use Rattle.image_layout.specs.Spelling.{spelling}
use Rattle.rv_memory.specs.Bytes.{bytes_of}
use Rattle.rv_machine.specs.declared.machine.Machine.{Machine}
use Rattle.rv_machine.specs.State.{State}
use Rattle.rv_machine.specs.View.{state_of}
use Rattle.run_setup.specs.Arguments.{bytes_of_words}
use Rattle.run_setup.specs.Judging.{length_value, judged}

-- where the image stands
abbrev pub base : ℕ
base = 0x1_0000

-- where the image returns to; no byte of the memory has this address
abbrev pub return_address : ℕ
return_address = 0x1000

abbrev pub aligned : ℕ → ℕ
aligned address = next_multiple_of address 16

-- An argument behind everything that ends at an address: the end with it, its bytes where it is an array, and what
-- its registers hold, which for an array is its address, and then its length where that is named.

abbrev pub end_after : ℕ → Arg → ℕ
end_after end (arg.Word n) = end
end_after end (arg.Bytes bytes) = aligned end + length bytes
end_after end (arg.Words words) = aligned end + 4 * length words

abbrev pub array_region : ℕ → Arg → List (ℕ × List ℕ)
array_region end (arg.Word n) = []
array_region end (arg.Bytes bytes) = (aligned end, bytes) ∷ []
array_region end (arg.Words words) = (aligned end, bytes_of_words words) ∷ []

abbrev pub registers_with : ℕ → Kind → Arg → List ℕ
registers_with end kind (arg.Word n) = n ∷ []
registers_with end kind (arg.Bytes bytes) = aligned end ∷ length_value kind (length bytes)
registers_with end kind (arg.Words words) = aligned end ∷ length_value kind (length words)

-- The same of arguments in order.

abbrev pub end_of : ℕ → List Arg → ℕ
end_of end [] = end
end_of end (a ∷ args) = end_of (end_after end a) args

abbrev pub array_regions : ℕ → List Arg → List (ℕ × List ℕ)
array_regions end [] = []
array_regions end (a ∷ args) = array_region end a ++ array_regions (end_after end a) args

abbrev pub argument_values : ℕ → List Kind → List Arg → List ℕ
argument_values end (kind ∷ kinds) (a ∷ args) = registers_with end kind a ++ argument_values (end_after end a) kinds args
argument_values end kinds args = []

-- The state. x1 is ra, x2 is sp, and the arguments are in x10 on; all other registers are 0.

abbrev pub image_end : Image → ℕ
image_end i = base + length (spelling i)

abbrev pub stack_start : Image → List Arg → ℕ
stack_start i args = aligned (end_of (image_end i) args)

abbrev pub AreBytes : List ℕ → Type 0
AreBytes bytes = (k : ℕ) → slice_index_or bytes k 0 < 2 ^ 8

unfoldable pub regions : Image → List Arg → List (ℕ × List ℕ)
regions i args =
    (base, spelling i) ∷ (array_regions (image_end i) args ++ (stack_start i args, replicate i.stack 0) ∷ [])

-- the registers with these values from a register on
abbrev pub set_from : List ℕ → ℕ → List ℕ → List ℕ
set_from regs r [] = regs
set_from regs r (v ∷ vs) = set_from (slice_set regs r v) (r + 1) vs

unfoldable pub registers : Image → List Arg → List ℕ
registers i args =
    set_from (slice_set (slice_set (replicate 32 0) 1 return_address) 2 (stack_start i args + i.stack))
    10 (argument_values (image_end i) i.params args)

abbrev pub start_state : Image → List Arg → State
start_state i args = record { regs = registers i args; pc = base + i.entry; mem = bytes_of (regions i args) }

-- the state, where the image may be called with the arguments
abbrev pub loaded : Image → List Arg → Result State Refusal
loaded i args = and_then (judged i args) (λ u. Ok (start_state i args))

-- unless memory ran out, the machine is in the state of the answer
abbrev pub AnswersState : Result Machine Fail → Result State Refusal → Type 0
AnswersState (Ok m) answer = answer ≡ Ok (state_of m)
AnswersState (Err (Refused refusal)) answer = answer ≡ Err refusal
AnswersState (Err NoMemory) answer = Unit {0}
