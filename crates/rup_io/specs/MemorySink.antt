-- A sink in memory, of which each answer is known.
use Rattle.std.specs.Prelude.{ℕ, ◌-◌, Bool, List, [], ◌++◌, ◌&&◌, not, take, length, nat_le, if◌then◌else◌}
use Rattle.rup_io.specs.Count.{raised, is_to_fail}

-- how many bytes it may hold, the numbers of the calls that are to fail, how
-- many calls came, how many failed, and the bytes taken so far
pub record MemorySink : Type 0 where
  pub capacity : ℕ
  pub fails : List ℕ
  pub calls : ℕ
  pub faults : ℕ
  pub taken : List ℕ

-- how many more bytes fit
abbrev pub room_of : MemorySink → ℕ
room_of m = m.capacity - length m.taken

-- the bytes that a write takes: none in a call that is to fail, else as many of the first as fit
abbrev pub taken_of : MemorySink → List ℕ → List ℕ
taken_of m bytes = if is_to_fail m.fails m.calls then [] else take (room_of m) bytes

-- a write succeeds where it is not to fail and all of its bytes fit
abbrev pub succeeds : MemorySink → List ℕ → Bool
succeeds m bytes = not (is_to_fail m.fails m.calls) && nat_le (length bytes) (room_of m)

-- the sink after a write
abbrev pub after_write : MemorySink → List ℕ → MemorySink
after_write m bytes = record m {
  calls = raised m.calls;
  faults = (if succeeds m bytes then m.faults else raised m.faults);
  taken = m.taken ++ taken_of m bytes;
}
