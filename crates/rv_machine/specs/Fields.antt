-- The fields of an instruction word, as quotients and remainders of its number
-- (RISC-V Unprivileged ISA 20191213, sections 2.2 and 2.3).
use Rattle.std.specs.Prelude.{ℕ, ◌+◌, ◌-◌, ◌*◌, ◌/◌, ◌%◌, ◌^◌, nat_lt, if◌then◌else◌}

-- bits 6 to 0
abbrev pub opcode : ℕ → ℕ
opcode w = w % 128

-- bits 11 to 7
abbrev pub rd : ℕ → ℕ
rd w = w / 128 % 32

-- bits 14 to 12
abbrev pub funct3 : ℕ → ℕ
funct3 w = w / 4096 % 8

-- bits 19 to 15
abbrev pub rs1 : ℕ → ℕ
rs1 w = w / 32768 % 32

-- bits 24 to 20; of a shift by an immediate, its amount
abbrev pub rs2 : ℕ → ℕ
rs2 w = w / 1048576 % 32

-- bits 31 to 25
abbrev pub funct7 : ℕ → ℕ
funct7 w = w / 33554432

-- a number whose sign bit is worth `half`, extended to 32 bits
abbrev pub extended : ℕ → ℕ → ℕ
extended half n = if nat_lt n half then n else n + 2 ^ 32 - 2 * half

-- imm[11:0] in bits 31 to 20
abbrev pub immediate_i : ℕ → ℕ
immediate_i w = extended 2048 (w / 1048576)

-- imm[11:5] in bits 31 to 25, imm[4:0] in bits 11 to 7
abbrev pub immediate_s : ℕ → ℕ
immediate_s w = extended 2048 (w / 33554432 * 32 + w / 128 % 32)

-- imm[12] in bit 31, imm[10:5] in bits 30 to 25, imm[4:1] in bits 11 to 8, imm[11] in bit 7
abbrev pub immediate_b : ℕ → ℕ
immediate_b w = extended 4096 (w / 2147483648 * 4096 + w / 128 % 2 * 2048 + w / 33554432 % 64 * 32 + w / 256 % 16 * 2)

-- imm[31:12] in bits 31 to 12; the low twelve bits are zeros
abbrev pub immediate_u : ℕ → ℕ
immediate_u w = w / 4096 * 4096

-- imm[20] in bit 31, imm[10:1] in bits 30 to 21, imm[11] in bit 20, imm[19:12] in bits 19 to 12
abbrev pub immediate_j : ℕ → ℕ
immediate_j w = extended 1048576
    (w / 2147483648 * 1048576 + w / 4096 % 256 * 4096 + w / 1048576 % 2 * 2048 + w / 2097152 % 1024 * 2)
