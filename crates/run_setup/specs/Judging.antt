-- When an image may be called with arguments, and the first fault of the others: their count, a parameter, the size
-- of their arrays, a requirement.
use Rattle.std.specs.Prelude.{ℕ, ◌+◌, ◌-◌, ◌*◌, ◌^◌, Bool, nat_eq, nat_le, min, List, [], ◌∷◌, ◌++◌, length, None, Result, Ok}
use Rattle.std.specs.Prelude.{Err, pos, int_le, slice_index_or, if◌then◌else◌}
use Rattle.rup_base.specs.declared.arg.Kind.{Kind}
use Rattle.rup_base.specs.declared.arg.Kind.TheVariants as kind
use Rattle.rup_base.specs.declared.arg.Arg.{Arg}
use Rattle.rup_base.specs.declared.arg.Arg.TheVariants as arg
use Rattle.rup_base.specs.declared.refusal.ArgFault.TheVariants as fault
use Rattle.rup_base.specs.declared.refusal.Refusal.{Refusal}
use Rattle.rup_base.specs.declared.refusal.Refusal.TheVariants.{BadArguments, ArraysTooLarge}
use Rattle.rup_base.specs.Answers.{and_then}
use Rattle.side_certs.specs.LinearForm.{LinearForm, value_at}
use Rattle.image_layout.specs.declared.image.Image.{Image}
use Rattle.model_syntax.specs.Kinds.{is_of_kind}
use Rattle.run_setup.specs.Arguments.{array_limit}

-- there is an argument for each parameter
abbrev pub judged_count : List Kind → List Arg → Result (Unit {0}) Refusal
judged_count kinds args = if nat_eq (length args) (length kinds) then Ok tt else Err (BadArguments fault.Count)

-- the arguments for the parameters from number k on are of their kinds
abbrev pub judged_kinds : ℕ → List Kind → List Arg → Result (Unit {0}) Refusal
judged_kinds k (kind ∷ kinds) (a ∷ args) =
    if is_of_kind kind a then judged_kinds (k + 1) kinds args else Err (BadArguments (fault.Param k))
judged_kinds k kinds args = Ok tt

-- the bytes of an array
abbrev pub size_of : Arg → ℕ
size_of (arg.Word n) = 0
size_of (arg.Bytes bytes) = length bytes
size_of (arg.Words words) = 4 * length words

abbrev pub total_size : List Arg → ℕ
total_size [] = 0
total_size (a ∷ args) = size_of a + total_size args

-- as much of a number as 64 bits hold
abbrev pub capped : ℕ → ℕ
capped n = min n (2 ^ 64 - 1)

abbrev pub judged_size : List Arg → Result (Unit {0}) Refusal
judged_size args = if nat_le (total_size args) array_limit then Ok tt else Err (ArraysTooLarge (capped (total_size args)))

-- the length of an array whose parameter has a name for it
abbrev pub length_value : Kind → ℕ → List ℕ
length_value (kind.Bytes None) n = n ∷ []
length_value (kind.Words None) n = n ∷ []
length_value kind n = []

-- the values of the entry symbols: words, bytes and named lengths, in order
abbrev pub symbols_of : Kind → Arg → List ℕ
symbols_of kind (arg.Word n) = n ∷ []
symbols_of kind (arg.Bytes bytes) = length_value kind (length bytes)
symbols_of kind (arg.Words words) = length_value kind (length words)

abbrev pub symbol_values : List Kind → List Arg → List ℕ
symbol_values (kind ∷ kinds) (a ∷ args) = symbols_of kind a ++ symbol_values kinds args
symbol_values kinds args = []

-- the values by symbol, 0 past their end
abbrev pub by_symbol : List ℕ → ℕ → ℕ
by_symbol values s = slice_index_or values s 0

-- a requirement holds where its form is at least 0
abbrev pub holds : List ℕ → LinearForm → Bool
holds values f = int_le (pos 0) (value_at (by_symbol values) f)

-- the requirements from number k on
abbrev pub judged_requirements : ℕ → List ℕ → List LinearForm → Result (Unit {0}) Refusal
judged_requirements k values [] = Ok tt
judged_requirements k values (f ∷ fs) =
    if holds values f then judged_requirements (k + 1) values fs else Err (BadArguments (fault.Require k))

-- all four, in their order
abbrev pub judged : Image → List Arg → Result (Unit {0}) Refusal
judged i args =
    and_then (judged_count i.params args) (λ u. and_then (judged_kinds 0 i.params args) (λ v. and_then (judged_size args)
    (λ w. judged_requirements 0 (symbol_values i.params args) i.requires_)))
