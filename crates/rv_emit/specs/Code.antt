-- The instructions of three-address code over places. What lives in a register is used there, and made there. What lives in
-- a slot comes into t0 or t1, which are x5 and x6, and goes there from t0; the stack pointer is x2. Code depends on how many
-- instructions follow it, up to the end of the whole code, behind which the text of the tables stands.
use Rattle.std.specs.Prelude.{ℕ, suc, ◌+◌, ◌-◌, ◌*◌, ◌/◌, ◌%◌, ◌^◌, Bool, true, false, nat_lt, List, [], ◌∷◌, ◌++◌, length, map}
use Rattle.std.specs.Prelude.{if◌then◌else◌}
use Rattle.bed_syntax.specs.declared.operation.BOp.{BOp}
use Rattle.bed_syntax.specs.declared.operation.BOp.TheVariants as op
use Rattle.bed_syntax.specs.declared.operation.Size.{Size}
use Rattle.bed_syntax.specs.declared.operation.Size.TheVariants as size
use Rattle.flat_lang.specs.declared.flat.FStmt.{FStmt, FStmt-F, fold-FStmt}
use Rattle.flat_lang.specs.declared.flat.FStmt.TheOpen as f
use Rattle.reg_alloc.specs.declared.plan.At.{At}
use Rattle.reg_alloc.specs.declared.plan.At.TheVariants.{Reg as Register, Slot}
use Rattle.rv_code.specs.Field.{reg, imm12, imm13, imm20, imm21}
use Rattle.rv_code.specs.declared.instruction.Instr.{Instr}
use Rattle.rv_code.specs.declared.instruction.Instr.TheVariants.{Lui, Auipc, Jal, Beq, Bne, Lw, Lbu, Lhu, Sb, Sh, Sw, Addi, Sltiu}
use Rattle.rv_code.specs.declared.instruction.Instr.TheVariants.{Add, Sub, Sll, Slt, Sltu, Xor, Srl, Sra, Or, And, Mul, Mulhu}
use Rattle.rv_code.specs.declared.instruction.Instr.TheVariants.{Divu, Remu}

-- the place of a number: a register's own number is below 32, and the slots' numbers follow
abbrev pub place_of : ℕ → At
place_of n = if nat_lt n 32 then Register n else Slot (n - 32)

-- from a place into a register, and back
abbrev pub fetch : ℕ → At → Instr
fetch r (Register q) = Addi (reg r) (reg q) (imm12 0)
fetch r (Slot j) = Lw (reg r) (reg 2) (imm12 (4 * j))

abbrev pub save : ℕ → At → Instr
save r (Register q) = Addi (reg q) (reg r) (imm12 0)
save r (Slot j) = Sw (reg 2) (reg r) (imm12 (4 * j))

-- the register that is the place, or that stands for a slot
abbrev pub register_of : ℕ → At → ℕ
register_of t (Register r) = r
register_of t (Slot j) = t

-- what brings an operand into the register that stands for its slot, and a result from t0 into its slot
abbrev pub from_slot : ℕ → At → List Instr
from_slot t (Register r) = []
from_slot t (Slot j) = fetch t (Slot j) ∷ []

abbrev pub to_slot : At → List Instr
to_slot (Register r) = []
to_slot (Slot j) = save 5 (Slot j) ∷ []

-- a value goes from one place to another
abbrev pub copied : At → At → List Instr
copied (Register r) from = fetch r from ∷ []
copied (Slot j) from = from_slot 5 from ++ save (register_of 5 from) (Slot j) ∷ []

-- a number whose upper twenty bits and low twelve bits with their sign make the sum n
abbrev pub upper : ℕ → ℕ
upper n = (n + 2048) / 4096

-- whether twelve bits with a sign make a word
abbrev pub is_short : ℕ → Bool
is_short n = nat_lt ((n + 2048) % 2 ^ 32) 4096

-- a register becomes a word
abbrev pub literal_by : Bool → ℕ → ℕ → List Instr
literal_by true r v = Addi (reg r) (reg 0) (imm12 v) ∷ []
literal_by false r v = Lui (reg 5) (imm20 (upper v)) ∷ Addi (reg r) (reg 5) (imm12 v) ∷ []

abbrev pub literal : ℕ → ℕ → List Instr
literal r v = literal_by (is_short v) r v

-- a register becomes the result of an operation at two others; words are equal where their difference is below 1
abbrev pub operation : BOp → ℕ → ℕ → ℕ → List Instr
operation op.Add r a b = Add (reg r) (reg a) (reg b) ∷ []
operation op.Sub r a b = Sub (reg r) (reg a) (reg b) ∷ []
operation op.Mul r a b = Mul (reg r) (reg a) (reg b) ∷ []
operation op.Mulhuu r a b = Mulhu (reg r) (reg a) (reg b) ∷ []
operation op.Divu r a b = Divu (reg r) (reg a) (reg b) ∷ []
operation op.Remu r a b = Remu (reg r) (reg a) (reg b) ∷ []
operation op.And r a b = And (reg r) (reg a) (reg b) ∷ []
operation op.Or r a b = Or (reg r) (reg a) (reg b) ∷ []
operation op.Xor r a b = Xor (reg r) (reg a) (reg b) ∷ []
operation op.Sru r a b = Srl (reg r) (reg a) (reg b) ∷ []
operation op.Slu r a b = Sll (reg r) (reg a) (reg b) ∷ []
operation op.Srs r a b = Sra (reg r) (reg a) (reg b) ∷ []
operation op.Lts r a b = Slt (reg r) (reg a) (reg b) ∷ []
operation op.Ltu r a b = Sltu (reg r) (reg a) (reg b) ∷ []
operation op.Eq r a b = Sub (reg 5) (reg a) (reg b) ∷ Sltiu (reg r) (reg 5) (imm12 1) ∷ []

-- a register becomes what lies so many bytes behind the address in another
abbrev pub load_at : Size → ℕ → ℕ → ℕ → Instr
load_at size.One r a n = Lbu (reg r) (reg a) (imm12 n)
load_at size.Two r a n = Lhu (reg r) (reg a) (imm12 n)
load_at size.Four r a n = Lw (reg r) (reg a) (imm12 n)

-- a register is stored at the address in another
abbrev pub store_to : Size → ℕ → ℕ → Instr
store_to size.One a r = Sb (reg a) (reg r) (imm12 0)
store_to size.Two a r = Sh (reg a) (reg r) (imm12 0)
store_to size.Four a r = Sw (reg a) (reg r) (imm12 0)

-- a jump so many instructions forward, and back
abbrev pub jump : ℕ → Instr
jump n = Jal (reg 0) (imm21 (2 * n))

abbrev pub jump_back : ℕ → Instr
jump_back n = Jal (reg 0) (imm21 (1048576 - 2 * n))

-- a branch over so many instructions where a register is 0, and whether it reaches
abbrev pub branch_over : ℕ → ℕ → Instr
branch_over r n = Beq (reg r) (reg 0) (imm13 (2 * (n + 1)))

abbrev pub is_near : ℕ → Bool
is_near n = nat_lt n 1022

-- over so many instructions where a register is 0: by that branch, or by one over a jump
abbrev pub over_by : Bool → ℕ → ℕ → List Instr
over_by true r n = branch_over r n ∷ []
over_by false r n = Bne (reg r) (reg 0) (imm13 4) ∷ jump (n + 1) ∷ []

abbrev pub over : ℕ → ℕ → List Instr
over r n = over_by (is_near n) r n

-- from an instruction that n others follow to the byte of a number in the text of the tables
abbrev pub ahead : ℕ → ℕ → ℕ
ahead offset n = 4 * (n + 1) + offset

-- instructions that a given number of others follow
abbrev pub Code : Type 0
Code = ℕ → List Instr

abbrev pub in_row : List Code → Code
in_row [] n = []
in_row (code ∷ rest) n = let behind = in_row rest n in code (length behind + n) ++ behind

-- a result that is loaded from a table by the offset of an entry
abbrev pub look_up : Size → At → ℕ → At → Code
look_up size to offset from n =
    let far = ahead offset (2 + length (to_slot to) + n) in
    from_slot 5 from ++ (Auipc (reg 6) (imm20 (upper far)) ∷ Add (reg 5) (reg (register_of 5 from)) (reg 6)
    ∷ load_at size (register_of 5 to) 5 far ∷ to_slot to)

-- a conditional over the place of its test: the first side with a jump over the second, which is where it is left for 0
abbrev pub if_code : At → Code → Code → Code
if_code at a b n =
    let second = b n in
    let first = a (length second + suc n) in
    from_slot 5 at ++ (over (register_of 5 at) (length first + 1) ++ (first ++ jump (length second + 1) ∷ second))

-- a loop: what stands before the test, the test, over the body and the jump back where it is 0, the body
abbrev pub while_code : Code → At → Code → Code
while_code a at b n =
    let body = b (suc n) in
    let turn = from_slot 5 at ++ (over (register_of 5 at) (length body + 1) ++ body) in
    let before = a (length turn + suc n) in
    before ++ (turn ++ jump_back (length before + length turn) ∷ [])

-- a statement, where `place` gives the place of a variable, and `offset` that of a table in the text of the tables
abbrev pub stmt_code_step : (ℕ → At) → (ℕ → ℕ) → FStmt-F Code → Code
stmt_code_step place offset (f.Lit x v) n = literal (register_of 5 (place x)) v ++ to_slot (place x)
stmt_code_step place offset (f.Copy x y) n = copied (place x) (place y)
stmt_code_step place offset (f.Bin op x y z) n =
    from_slot 5 (place y) ++ (from_slot 6 (place z)
    ++ (operation op (register_of 5 (place x)) (register_of 5 (place y)) (register_of 6 (place z)) ++ to_slot (place x)))
stmt_code_step place offset (f.Load size x y) n =
    from_slot 5 (place y) ++ (load_at size (register_of 5 (place x)) (register_of 5 (place y)) 0 ∷ to_slot (place x))
stmt_code_step place offset (f.Table size x k y) n = look_up size (place x) (offset k) (place y) n
stmt_code_step place offset (f.Store size x y) n =
    from_slot 5 (place x) ++ (from_slot 6 (place y) ++ store_to size (register_of 5 (place x)) (register_of 6 (place y)) ∷ [])
stmt_code_step place offset (f.If x a b) n = if_code (place x) (in_row a) (in_row b) n
stmt_code_step place offset (f.While a x b) n = while_code (in_row a) (place x) (in_row b) n

abbrev pub stmt_code : (ℕ → At) → (ℕ → ℕ) → FStmt → Code
stmt_code place offset = fold-FStmt Code (stmt_code_step place offset)

abbrev pub block_code : (ℕ → At) → (ℕ → ℕ) → List FStmt → Code
block_code place offset body = in_row (map (stmt_code place offset) body)
