-- Arguments of a call, one for each parameter: what a word of a command line, or the file that it names, says of one.
use Rattle.std.specs.Prelude.{ℕ, ◌%◌, nat_eq, List, [], ◌∷◌, length, Option, Some, None, option_and_then, codes, if◌then◌else◌}
use Rattle.std.specs.List.{flat_map}
use Rattle.std.specs.Int.{w32, to_le_bytes, from_le_bytes}
use Rattle.rup_base.specs.declared.arg.Kind.{Kind}
use Rattle.rup_base.specs.declared.arg.Kind.TheVariants as kind
use Rattle.rup_base.specs.declared.arg.Arg.{Arg}
use Rattle.rup_base.specs.declared.arg.Arg.TheVariants as arg
use Rattle.model_syntax.specs.Kinds.{is_of_kind}
use Rattle.run_setup.specs.declared.arguments.Source.{Source}
use Rattle.run_setup.specs.declared.arguments.Source.TheVariants.{ByItself, ByFile}
use Rattle.rup_base.specs.Number.{number}
use Rattle.run_setup.specs.Digits.{behind, hex_bytes}

-- the greatest number of bytes of a file of an array, and of all arrays of a run
abbrev pub array_limit : ℕ
array_limit = 67108864

-- words in memory, each in little endian
abbrev pub bytes_of_words : List ℕ → List ℕ
bytes_of_words words = flat_map (to_le_bytes w32) words

-- the words that bytes hold, each in little endian
abbrev pub words_of_bytes : List ℕ → List ℕ
words_of_bytes (a ∷ b ∷ c ∷ d ∷ rest) = from_le_bytes w32 (a ∷ b ∷ c ∷ d ∷ []) ∷ words_of_bytes rest
words_of_bytes bytes = []

-- an argument, if it is one of the kind
abbrev pub of_kind : Kind → Arg → Option Arg
of_kind kind a = if is_of_kind kind a then Some a else None

-- the array whose bytes these are
abbrev pub array_of : Kind → List ℕ → Option Arg
array_of kind.Word bytes = None
array_of kind.Byte bytes = None
array_of (kind.Bytes fixed) bytes = of_kind (kind.Bytes fixed) (arg.Bytes bytes)
array_of (kind.Words fixed) bytes =
    if nat_eq (length bytes % 4) 0 then of_kind (kind.Words fixed) (arg.Words (words_of_bytes bytes)) else None

-- a number as an argument
abbrev pub scalar_of : Kind → Option ℕ → Option Arg
scalar_of kind n = option_and_then (λ n. of_kind kind (arg.Word n)) n

-- an array behind `hex:`, or else in a file
abbrev pub array_source : Kind → Option (List ℕ) → Source
array_source kind None = ByFile
array_source kind (Some digits) = ByItself (option_and_then (array_of kind) (hex_bytes digits))

-- a word or byte is a number; an array is `hex:` and digits, or else a file's name
abbrev pub source_of : Kind → List ℕ → Source
source_of kind.Word text = ByItself (scalar_of kind.Word (number text))
source_of kind.Byte text = ByItself (scalar_of kind.Byte (number text))
source_of (kind.Bytes fixed) text = array_source (kind.Bytes fixed) (behind (codes "hex:") text)
source_of (kind.Words fixed) text = array_source (kind.Words fixed) (behind (codes "hex:") text)
