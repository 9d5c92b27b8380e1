-- Numbers of one, two and four bytes in memory and in tables, the lowest byte first.
use Rattle.std.specs.Prelude.{ℕ, ◌+◌, ◌*◌, ◌/◌, ◌%◌, nat_eq, List, Option, Some, None, slice_get, if◌then◌else◌}
use Rattle.std.specs.Ordering.{nat_cmp}
use Rattle.std.specs.FinMap.{FinMap, get, insert}
use Rattle.rv_memory.specs.Ranges.{Bytes}
use Rattle.bed_syntax.specs.declared.operation.Size.{Size}
use Rattle.bed_syntax.specs.declared.operation.Size.TheVariants as size

abbrev pub width : Size → ℕ
width size.One = 1
width size.Two = 2
width size.Four = 4

-- a byte and what lies behind it as one number
abbrev pub low_high : Option ℕ → Option ℕ → Option ℕ
low_high None high = None
low_high (Some low) None = None
low_high (Some low) (Some high) = Some (low + 256 * high)

-- the number that the bytes from a place on make; none where one of them is missing
abbrev pub word : (ℕ → Option ℕ) → Size → ℕ → Option ℕ
word byte size.One at = byte at
word byte size.Two at = low_high (byte at) (byte (at + 1))
word byte size.Four at = low_high (byte at) (low_high (byte (at + 1)) (low_high (byte (at + 2)) (byte (at + 3))))

-- what lies at an address; none outside the memory, or at no multiple of the size
abbrev pub loaded : Size → Bytes → ℕ → Option ℕ
loaded size mem at = if nat_eq (at % width size) 0 then word (λ a. get mem a) size at else None

-- the same in the bytes of a table
abbrev pub entry : Size → List ℕ → ℕ → Option ℕ
entry size bytes at = if nat_eq (at % width size) 0 then word (λ a. slice_get bytes a) size at else None

-- the memory with the low bytes of a number at an address
abbrev pub stored : Size → Bytes → ℕ → ℕ → Bytes
stored size.One mem at v = insert mem at (v % 256)
stored size.Two mem at v = insert (insert mem at (v % 256)) (at + 1) (v / 256 % 256)
stored size.Four mem at v =
    insert (insert (insert (insert mem at (v % 256)) (at + 1) (v / 256 % 256)) (at + 2) (v / 65536 % 256)) (at + 3) (v / 16777216)

abbrev pub where_some : Option ℕ → Bytes → Option Bytes
where_some None mem = None
where_some (Some n) mem = Some mem

-- a store; none where a load has no answer
abbrev pub store : Size → Bytes → ℕ → ℕ → Option Bytes
store size mem at v = where_some (loaded size mem at) (stored size mem at v)
