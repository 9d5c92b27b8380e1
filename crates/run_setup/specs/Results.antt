-- The results of a run: those that the machine has at its end, and the lines that print them.
use Rattle.std.specs.Prelude.{ℕ, zero, suc, ◌+◌, ◌*◌, List, [], ◌∷◌, ◌++◌, length, take, Option, Some, None, slice_get}
use Rattle.std.specs.List.{flat_map}
use Rattle.std.specs.FinMap.{get}
use Rattle.rup_base.specs.declared.arg.Arg.{Arg}
use Rattle.rup_base.specs.declared.arg.Arg.TheVariants as arg
use Rattle.image_layout.specs.declared.image.Image.{Image}
use Rattle.rv_machine.specs.State.{State, register}
use Rattle.rv_memory.specs.Ranges.{Bytes}
use Rattle.run_setup.specs.Digits.{two_digits, eight_digits}
use Rattle.run_setup.specs.Arguments.{bytes_of_words, words_of_bytes}
use Rattle.run_setup.specs.Loading.{aligned, end_of, image_end}

-- the byte at an address; outside the memory there is none, and it counts as 0
abbrev pub byte_of : Option ℕ → ℕ
byte_of None = 0
byte_of (Some b) = b

-- so many bytes from an address on
abbrev pub bytes_at : Bytes → ℕ → ℕ → List ℕ
bytes_at mem address zero = []
bytes_at mem address (suc n) = byte_of (get mem address) ∷ bytes_at mem (address + 1) n

-- the array that stands in the place of an argument
abbrev pub array_at : Bytes → ℕ → Option Arg → Arg
array_at mem address (Some (arg.Words words)) = arg.Words (words_of_bytes (bytes_at mem address (4 * length words)))
array_at mem address (Some (arg.Bytes bytes)) = arg.Bytes (bytes_at mem address (length bytes))
array_at mem address (Some (arg.Word n)) = arg.Bytes []
array_at mem address None = arg.Bytes []

-- where the array of parameter p stands
abbrev pub place_of : Image → List Arg → ℕ → ℕ
place_of i args p = aligned (end_of (image_end i) (take p args))

-- scalars are in a0 and a1, which are x10 and x11, in order; a returned array stands where its parameter's did
abbrev pub results_from : State → Image → List Arg → ℕ → List (Option ℕ) → List Arg
results_from s i args r [] = []
results_from s i args r (None ∷ rets) = arg.Word (register s.regs r) ∷ results_from s i args (r + 1) rets
results_from s i args r (Some p ∷ rets) =
    array_at s.mem (place_of i args p) (slice_get args p) ∷ results_from s i args r rets

abbrev pub results_of : State → Image → List Arg → List Arg
results_of s i args = results_from s i args 10 i.rets

-- a scalar is eight digits; an array is two digits for each of its bytes, in the order of memory
abbrev pub digits_of : Arg → List ℕ
digits_of (arg.Word n) = eight_digits n
digits_of (arg.Bytes bytes) = flat_map two_digits bytes
digits_of (arg.Words words) = flat_map two_digits (bytes_of_words words)

-- each on a line of its own
abbrev pub line_of : Arg → List ℕ
line_of a = digits_of a ++ 10 ∷ []

abbrev pub lines_of : List Arg → List ℕ
lines_of results = flat_map line_of results
