-- The whole code: the frame is taken, the registers of the caller that hold variables go into it, the arguments that are live
-- go from a0 to a7, which are x10 to x17, into their places, the body runs, the results go into a0 and a1, the registers come
-- back, the frame is given back, and ra, which is x1, is where it returns to.
use Rattle.std.specs.Prelude.{ℕ, ◌+◌, ◌-◌, ◌*◌, ◌/◌, Bool, false, ◌||◌, nat_eq, nat_lt, List, [], ◌∷◌, ◌++◌, length, filter}
use Rattle.std.specs.Prelude.{slice_index_or, if◌then◌else◌}
use Rattle.flat_lang.specs.Paths.{some_takes, flat_ways}
use Rattle.flat_lang.specs.declared.flat.Flat.{Flat}
use Rattle.reg_alloc.specs.Kept.{place_number}
use Rattle.reg_alloc.specs.Marks.{below}
use Rattle.reg_alloc.specs.declared.plan.At.{At}
use Rattle.reg_alloc.specs.declared.plan.At.TheVariants.{Reg as Register, Slot}
use Rattle.reg_alloc.specs.declared.plan.Plan.{Plan}
use Rattle.rv_code.specs.Field.{reg, imm12}
use Rattle.rv_code.specs.declared.instruction.Instr.{Instr}
use Rattle.rv_code.specs.declared.instruction.Instr.TheVariants.{Addi, Jalr}
use Rattle.rv_emit.specs.Code.{place_of, fetch, save, block_code}
use Rattle.rv_emit.specs.Tables.{offsets_from}

-- the place of a variable; one past the last has the slot of its own number
abbrev pub place : Plan → ℕ → At
place plan x = place_of (place_number plan x)

-- a register is one of the places
abbrev pub is_register : At → ℕ → Bool
is_register (Register q) r = nat_eq q r
is_register (Slot j) r = false

abbrev pub uses : List At → ℕ → Bool
uses [] r = false
uses (at ∷ places) r = is_register at r || uses places r

-- the words of the frame that hold variables: up to the last slot among the places
abbrev pub slots_with : At → ℕ → ℕ
slots_with (Register r) n = n
slots_with (Slot j) n = if nat_lt j n then n else j + 1

abbrev pub slots_in : List At → ℕ
slots_in [] = 0
slots_in (at ∷ places) = slots_with at (slots_in places)

-- s0 to s11, which the caller finds unchanged, and those of them that hold variables
abbrev pub callee_saved : List ℕ
callee_saved = 8 ∷ 9 ∷ 18 ∷ 19 ∷ 20 ∷ 21 ∷ 22 ∷ 23 ∷ 24 ∷ 25 ∷ 26 ∷ 27 ∷ []

abbrev pub saved_in : List At → List ℕ
saved_in places = filter (uses places) callee_saved

-- the bytes of a frame of so many words: a multiple of 16
abbrev pub frame_bytes : ℕ → ℕ
frame_bytes words = (4 * words + 15) / 16 * 16

abbrev pub stack_of : List At → ℕ
stack_of places = frame_bytes (slots_in places + length (saved_in places))

-- registers go into the words of the frame from a first one on, and come back
abbrev pub saves : ℕ → List ℕ → List Instr
saves first [] = []
saves first (r ∷ rs) = save r (Slot first) ∷ saves (first + 1) rs

abbrev pub restores : ℕ → List ℕ → List Instr
restores first [] = []
restores first (r ∷ rs) = fetch r (Slot first) ∷ restores (first + 1) rs

-- the arguments that are live at the start: those that some path reads before it writes them
abbrev pub is_live : Flat → ℕ → Bool
is_live f v = some_takes v (flat_ways 1 f) false

abbrev pub live_arguments : Flat → List ℕ
live_arguments f = below f.args (is_live f)

-- arguments go into their places
abbrev pub moves_in : (ℕ → At) → List ℕ → List Instr
moves_in place [] = []
moves_in place (x ∷ xs) = save (10 + x) (place x) ∷ moves_in place xs

-- the results from number q on
abbrev pub moves_out : (ℕ → At) → ℕ → List ℕ → List Instr
moves_out place q [] = []
moves_out place q (x ∷ rets) = fetch (10 + q) (place x) ∷ moves_out place (q + 1) rets

-- where a table begins in the text of the tables
abbrev pub offset_in : Flat → ℕ → ℕ
offset_in f k = slice_index_or (offsets_from 0 f.tables) k 0

abbrev pub entering : Plan → List ℕ → List Instr
entering plan live =
    Addi (reg 2) (reg 2) (imm12 (4096 - stack_of plan.places))
    ∷ (saves (slots_in plan.places) (saved_in plan.places) ++ moves_in (place plan) live)

abbrev pub leaving : Plan → List ℕ → List Instr
leaving plan rets =
    moves_out (place plan) 0 rets
    ++ (restores (slots_in plan.places) (saved_in plan.places)
    ++ (Addi (reg 2) (reg 2) (imm12 (stack_of plan.places)) ∷ Jalr (reg 0) (reg 1) (imm12 0) ∷ []))

abbrev pub enter : Flat → Plan → List Instr
enter f plan = entering plan (live_arguments f)

abbrev pub leave : Flat → Plan → List Instr
leave f plan = leaving plan f.rets

abbrev pub body_of : Flat → Plan → List Instr
body_of f plan = block_code (place plan) (offset_in f) f.body (length (leave f plan))

abbrev pub code_of : Flat → Plan → List Instr
code_of f plan = enter f plan ++ (body_of f plan ++ leave f plan)
