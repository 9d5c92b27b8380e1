-- Numbers of several bytes in a memory and in a list of bytes, the lowest byte first
-- (RISC-V Unprivileged ISA 20191213, section 1.4).
use Rattle.std.specs.Prelude.{ℕ, zero, suc, ◌+◌, ◌*◌, ◌/◌, ◌%◌, List, Option, Some, None, slice_get, slice_set}
use Rattle.std.specs.FinMap.{get, insert}
use Rattle.rv_memory.specs.Ranges.{Bytes}

-- a byte and what lies behind it as one number
abbrev pub joined : Option ℕ → Option ℕ → Option ℕ
joined (Some low) (Some high) = Some (low + 256 * high)
joined (Some low) None = None
joined None high = None

-- the number that so many bytes at an address make, the lowest byte first; none where one of them lies outside the memory
unfoldable pub number_at : Bytes → ℕ → ℕ → Option ℕ
number_at mem zero address = Some 0
number_at mem (suc size) address = joined (get mem address) (number_at mem size (address + 1))

-- the memory with so many low bytes of a number stored at an address
unfoldable pub with_number : Bytes → ℕ → ℕ → ℕ → Bytes
with_number mem zero address value = mem
with_number mem (suc size) address value = with_number (insert mem address (value % 256)) size (address + 1) (value / 256)

-- the same two of a list of bytes, from a place on
unfoldable pub number_in : List ℕ → ℕ → ℕ → Option ℕ
number_in bytes zero place = Some 0
number_in bytes (suc size) place = joined (slice_get bytes place) (number_in bytes size (place + 1))

unfoldable pub with_number_in : List ℕ → ℕ → ℕ → ℕ → List ℕ
with_number_in bytes zero place value = bytes
with_number_in bytes (suc size) place value =
    with_number_in (slice_set bytes place (value % 256)) size (place + 1) (value / 256)
