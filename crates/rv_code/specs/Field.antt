-- Fields of given raw bits, for definitions that name instructions.
use Rattle.std.specs.Prelude.{ℕ, ◌%◌}
use Rattle.std.proofs.Common.{lit<}
use Rattle.std.proofs.lemmas.Nat.{mod_below}
use Rattle.rv_code.specs.declared.fields.Reg.{Reg}
use Rattle.rv_code.specs.declared.fields.Imm12.{Imm12}
use Rattle.rv_code.specs.declared.fields.Imm13.{Imm13}
use Rattle.rv_code.specs.declared.fields.Imm20.{Imm20}
use Rattle.rv_code.specs.declared.fields.Imm21.{Imm21}
use Rattle.rv_code.specs.declared.fields.Shamt.{Shamt}
use Rattle.rv_code.specs.declared.fields.Bits12.{Bits12}

-- the register x0 to x31 of a number, by its low five bits
abbrev pub reg : ℕ → Reg
reg n = record { bits = n % 32; ok = mod_below n 32 (lit< tt) }

-- the immediate of the low twelve bits of a number
abbrev pub imm12 : ℕ → Imm12
imm12 n = record { bits = n % 4096; ok = mod_below n 4096 (lit< tt) }

-- the even immediate whose half has these low twelve bits
abbrev pub imm13 : ℕ → Imm13
imm13 half = record { half = half % 4096; ok = mod_below half 4096 (lit< tt) }

-- the immediate of the low twenty bits of a number
abbrev pub imm20 : ℕ → Imm20
imm20 n = record { bits = n % 1048576; ok = mod_below n 1048576 (lit< tt) }

-- the even immediate whose half has these low twenty bits
abbrev pub imm21 : ℕ → Imm21
imm21 half = record { half = half % 1048576; ok = mod_below half 1048576 (lit< tt) }

-- the shift amount of the low five bits of a number
abbrev pub shamt : ℕ → Shamt
shamt n = record { bits = n % 32; ok = mod_below n 32 (lit< tt) }

-- the upper bits of FENCE of the low twelve bits of a number
abbrev pub bits12 : ℕ → Bits12
bits12 n = record { bits = n % 4096; ok = mod_below n 4096 (lit< tt) }
