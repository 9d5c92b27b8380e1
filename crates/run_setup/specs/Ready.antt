-- When a state of the machine is ready for a call of an image, which is one of a model, at an address.
use Rattle.std.specs.Prelude.{◌≡◌, ℕ, ◌+◌, ◌-◌, ◌%◌, ◌≤◌, List, [], ◌∷◌, length, Option, Some, None, ⊤}
use Rattle.std.specs.List.{AllByRecursion}
use Rattle.rup_base.specs.declared.arg.Kind.{Kind}
use Rattle.rup_base.specs.declared.arg.Kind.TheVariants as kind
use Rattle.rup_base.specs.declared.arg.Arg.{Arg}
use Rattle.rup_base.specs.declared.arg.Arg.TheVariants as arg
use Rattle.image_layout.specs.declared.image.Image.{Image}
use Rattle.image_layout.specs.Spelling.{spelling, registers_of}
use Rattle.model_syntax.specs.declared.program.Model.{Model}
use Rattle.model_syntax.specs.Value.{Meets}
use Rattle.rv_machine.specs.State.{State, register}
use Rattle.rv_memory.specs.Ranges.{Range, Within, IsMapped, AllApart, Stands}
use Rattle.rv_machine.specs.Machines.{IsMachine}
use Rattle.run_setup.specs.Arguments.{bytes_of_words}

abbrev pub image_range : Image → ℕ → Range
image_range i base = record { start = base; size = length (spelling i) }

-- the stack lies directly below sp, which is x2
abbrev pub stack_range : Image → State → Range
stack_range i s = record { start = register s.regs 2 - i.stack; size = i.stack }

-- the bytes of an array in memory: words are little endian; a word or byte argument has none
abbrev pub array_bytes : Arg → List ℕ
array_bytes (arg.Word n) = []
array_bytes (arg.Bytes bytes) = bytes
array_bytes (arg.Words words) = bytes_of_words words

-- the range of an array whose pointer is in a register
abbrev pub array_range : ℕ → Arg → State → Range
array_range r argument s = record { start = register s.regs r; size = length (array_bytes argument) }

-- the arrays' ranges, in order, where the next parameter has register r
abbrev pub array_ranges : List Kind → List Arg → ℕ → State → List Range
array_ranges (kind.Bytes n ∷ kinds) (argument ∷ args) r s =
    array_range r argument s ∷ array_ranges kinds args (r + registers_of (kind.Bytes n)) s
array_ranges (kind.Words n ∷ kinds) (argument ∷ args) r s =
    array_range r argument s ∷ array_ranges kinds args (r + registers_of (kind.Words n)) s
array_ranges (kind.Word ∷ kinds) (argument ∷ args) r s = array_ranges kinds args (r + 1) s
array_ranges (kind.Byte ∷ kinds) (argument ∷ args) r s = array_ranges kinds args (r + 1) s
array_ranges kinds args r s = []

-- a named length is in the register behind the pointer's
abbrev pub HasLengthAt : Option ℕ → ℕ → ℕ → State → Type 0
HasLengthAt None r n s = register s.regs (r + 1) ≡ n
HasLengthAt (Some wanted) r n s = ⊤

-- registers from r on hold an argument: a number, or the place at which an array stands; words stand at multiples of 4
abbrev pub HasArgument : Kind → Arg → ℕ → State → Type 0
HasArgument kind.Word (arg.Word n) r s = register s.regs r ≡ n
HasArgument kind.Byte (arg.Word n) r s = register s.regs r ≡ n
HasArgument (kind.Bytes wanted) (arg.Bytes bytes) r s =
    Stands s.mem (register s.regs r) bytes × HasLengthAt wanted r (length bytes) s
HasArgument (kind.Words wanted) (arg.Words words) r s =
    Stands s.mem (register s.regs r) (bytes_of_words words) × (register s.regs r % 4 ≡ 0) × HasLengthAt wanted r (length words) s
HasArgument kind argument r s = ⊥

abbrev pub HasArguments : List Kind → List Arg → ℕ → State → Type 0
HasArguments [] [] r s = ⊤
HasArguments (kind ∷ kinds) (argument ∷ args) r s =
    HasArgument kind argument r s × HasArguments kinds args (r + registers_of kind) s
HasArguments kinds args r s = ⊥

abbrev pub ranges : Image → List Arg → ℕ → State → List Range
ranges i args base s = image_range i base ∷ stack_range i s ∷ array_ranges i.params args 10 s

-- Registers a0, which is x10, and on hold the arguments; ra, which is x1, is where the image returns to.
pub record Ready (m : Model) (i : Image) (args : List Arg) (base : ℕ) (s : State) : Type 0 where
  pub meets : Meets m args
  pub machine : IsMachine s
  pub base_aligned : base % 16 ≡ 0
  pub image_stands : Stands s.mem base (spelling i)
  pub starts : s.pc ≡ base + i.entry
  pub arguments : HasArguments i.params args 10 s
  pub stack_aligned : register s.regs 2 % 16 ≡ 0
  pub stack_fits : i.stack ≤ register s.regs 2
  pub mapped : AllByRecursion (IsMapped s.mem) (ranges i args base s)
  pub apart : AllApart (ranges i args base s)
  pub return_aligned : register s.regs 1 % 4 ≡ 0
  pub return_outside : Within (image_range i base) (register s.regs 1) → ⊥
