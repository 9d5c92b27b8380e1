-- Which arguments are of a kind: a word is below 2^32, a byte below 2^8, the elements of an array likewise, and an array
-- has the number of elements that is fixed, or any that a word holds where its length has a name.
use Rattle.std.specs.Prelude.{ℕ, nat_eq, nat_le, Bool, false, ◌&&◌, map, length, Option, Some, None}
use Rattle.rup_base.specs.Gather.{all_true}
use Rattle.rup_base.specs.declared.arg.Kind.{Kind}
use Rattle.rup_base.specs.declared.arg.Kind.TheVariants as kind
use Rattle.rup_base.specs.declared.arg.Arg.{Arg}
use Rattle.rup_base.specs.declared.arg.Arg.TheVariants as arg

-- the number has 32 bits
abbrev pub is_word : ℕ → Bool
is_word n = nat_le n 4294967295

-- the number has 8 bits
abbrev pub is_byte : ℕ → Bool
is_byte n = nat_le n 255

-- an array may have so many elements, of which a number may be fixed
abbrev pub is_length : Option ℕ → ℕ → Bool
is_length (Some fixed) n = nat_eq fixed n
is_length None n = is_word n

abbrev pub is_of_kind : Kind → Arg → Bool
is_of_kind kind.Word (arg.Word n) = is_word n
is_of_kind kind.Byte (arg.Word n) = is_byte n
is_of_kind (kind.Bytes fixed) (arg.Bytes ns) = is_length fixed (length ns) && all_true (map is_byte ns)
is_of_kind (kind.Words fixed) (arg.Words ns) = is_length fixed (length ns) && all_true (map is_word ns)
is_of_kind k a = false
