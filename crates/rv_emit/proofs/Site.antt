-- Where code stands, and what holds of the machine while the code runs.
use Rattle.std.proofs.Common.{◌≡◌, ◌≢◌, ℕ, ◌+◌, ◌-◌, ◌*◌, ◌%◌, ◌^◌, ◌<◌, ◌≤◌, Bool, true, false, nat_lt, List, length, Some, None}
use Rattle.std.proofs.Common.{IsSome, slice_get, refl, arith, if◌then◌else◌}
use Rattle.std.proofs.lemmas.Bool.{ltb-false}
use Rattle.std.specs.FinMap.{get}
use Rattle.flat_lang.specs.State.{Vars}
use Rattle.reg_alloc.specs.declared.plan.At.{At}
use Rattle.reg_alloc.specs.declared.plan.At.TheVariants.{Reg as Register, Slot}
use Rattle.rv_code.specs.declared.instruction.Instr.{Instr}
use Rattle.rv_code.specs.Word.{word_of}
use Rattle.rv_machine.specs.State.{State, register, number_at}
use Rattle.rv_memory.specs.Ranges.{Bytes}
use Rattle.rv_emit.specs.Code.{place_of, register_of}

-- The variables are numbers of places. The code begins at `start`, and the text of its tables lies behind it, each table at its
-- offset; the frame's `words` begin at `base`, and the first `slots` of them hold variables; `held` are the registers that are
-- places.
pub record Site : Type 0 where
  pub start : ℕ
  pub code : List Instr
  pub text : List ℕ
  pub tables : List (List ℕ)
  pub base : ℕ
  pub slots : ℕ
  pub words : ℕ
  pub offset : ℕ → ℕ
  pub held : ℕ → Bool

abbrev pub InImage : Site → ℕ → Type 0
InImage l a = (l.start ≤ a) × (a < l.start + 4 * length l.code + length l.text)

abbrev pub InCode : Site → ℕ → Type 0
InCode l pc = (l.start ≤ pc) × (pc < l.start + 4 * length l.code)

abbrev pub InFrame : Site → ℕ → Type 0
InFrame l a = (l.base ≤ a) × (a < l.base + 4 * l.words)

abbrev pub InSlots : Site → ℕ → Type 0
InSlots l a = (l.base ≤ a) × (a < l.base + 4 * l.slots)

abbrev pub IsValid : Site → At → Type 0
IsValid l (Slot j) = j < l.slots
IsValid l (Register r) = l.held r ≡ true

-- a table stands at an offset in the text of the tables
pub record TableAt (l : Site) (m : State) (offset : ℕ) (bytes : List ℕ) : Type 0 where
  pub aligned : offset % 4 ≡ 0
  pub inside : (a b : ℕ) → slice_get bytes a ≡ Some b → offset + a < length l.text
  pub stands : (a b : ℕ) → slice_get bytes a ≡ Some b → get m.mem (l.start + (4 * length l.code + offset) + a) ≡ Some b

-- what is so at the entry m, and never changes
pub record Sound (l : Site) (m : State) : Type 0 where
  pub aligned : l.start % 4 ≡ 0
  pub ends : l.start + 4 * length l.code + length l.text ≤ 2 ^ 32
  pub short : length l.code < 260000
  pub base_aligned : l.base % 4 ≡ 0
  pub frame_ends : l.base + 4 * l.words ≤ 2 ^ 32
  pub few : l.words ≤ 512
  pub fit : l.slots ≤ l.words
  pub apart : (a : ℕ) → InImage l a → InFrame l a → ⊥
  pub stands : (k : ℕ) (i : Instr) → slice_get l.code k ≡ Some i → number_at m.mem 4 (l.start + 4 * k) ≡ Some (word_of i)
  pub table : (k : ℕ) (bytes : List ℕ) → slice_get l.tables k ≡ Some bytes → TableAt l m (l.offset k) bytes
  pub mapped : (a : ℕ) → InFrame l a → IsSome (get m.mem a)
  pub from : (r : ℕ) → l.held r ≡ true → 8 ≤ r
  pub to : (r : ℕ) → l.held r ≡ true → r < 32
  pub not_argument : (r : ℕ) → l.held r ≡ true → 10 ≤ r → 18 ≤ r

-- the machine's memory beside that of the three-address code
pub record Memory (l : Site) (m : State) (flat real : Bytes) : Type 0 where
  pub seen : (a b : ℕ) → get flat a ≡ Some b → get real a ≡ Some b
  pub off_image : (a : ℕ) → IsSome (get flat a) → InImage l a → ⊥
  pub off_frame : (a : ℕ) → IsSome (get flat a) → InFrame l a → ⊥
  pub others : (a : ℕ) → (InSlots l a → ⊥) → get flat a ≡ None → get real a ≡ get m.mem a
  pub stay : (a : ℕ) → IsSome (get m.mem a) → IsSome (get real a)
  pub no_more : (a : ℕ) → IsSome (get real a) → IsSome (get m.mem a)
  pub bytes : (a b : ℕ) → get real a ≡ Some b → b < 256

-- a value is in a place
abbrev pub Holds : Site → State → At → ℕ → Type 0
Holds l s (Slot j) v = number_at s.mem 4 (l.base + 4 * j) ≡ Some v
Holds l s (Register r) v = register s.regs r ≡ v

pub record Held (l : Site) (s : State) (x v : ℕ) : Type 0 where
  pub valid : IsValid l (place_of x)
  pub word : v < 2 ^ 32
  pub there : Holds l s (place_of x) v

-- a register that is no place and no t0 to t2
pub record IsFree (l : Site) (r : ℕ) : Type 0 where
  pub not_sp : r ≢ 2
  pub not_temporary : 5 ≤ r → 8 ≤ r
  pub not_held : l.held r ≡ false

-- the machine, entered at m, stands before instruction k with this memory and these variables
pub record Before (l : Site) (m : State) (mem : Bytes) (vars : Vars) (k : ℕ) (s : State) : Type 0 where
  pub pc : s.pc ≡ l.start + 4 * k
  pub count : length s.regs ≡ 32
  pub sp : register s.regs 2 ≡ l.base
  pub kept : (r : ℕ) → IsFree l r → register s.regs r ≡ register m.regs r
  pub held : (x v : ℕ) → get vars x ≡ Some v → Held l s x v
  pub memory : Memory l m mem s.mem

register_by : (n r : ℕ) (b : Bool) → nat_lt n 32 ≡ b → (if b then Register n else Slot (n - 32)) ≡ Register r → n ≡ r
register_by n r true low is = cc
register_by n r false high is = absurd (cc)

slot_by : (n j : ℕ) (b : Bool) → nat_lt n 32 ≡ b → (if b then Register n else Slot (n - 32)) ≡ Slot j → n ≡ 32 + j
slot_by n j true low is = absurd (cc)
slot_by n j false high is = let same : n - 32 ≡ j = cc in let above = ltb-false n 32 high in omega arith

-- the number of a place
pub register_number : (n r : ℕ) → place_of n ≡ Register r → n ≡ r
register_number n r is = register_by n r (nat_lt n 32) refl is

pub slot_number : (n j : ℕ) → place_of n ≡ Slot j → n ≡ 32 + j
slot_number n j is = slot_by n j (nat_lt n 32) refl is

pub place_slot : (j : ℕ) → place_of (32 + j) ≡ Slot j
place_slot j = let high : nat_lt (32 + j) 32 ≡ false = grind arith in let same : 32 + j - 32 ≡ j = omega arith in
    rw (high, same) refl

-- the register of a valid place, or a temporary one
module _ (l : Site) (m : State) (sound : Sound l m) where
  pub register_small : (t : ℕ) (p : At) → t < 32 → IsValid l p → register_of t p < 32
  register_small t (Slot j) small valid = small
  register_small t (Register r) small valid = sound.to r valid

  pub register_apart : (t q : ℕ) (p : At) → t ≢ q → q < 8 → IsValid l p → register_of t p ≢ q
  register_apart t q (Slot j) other low valid = other
  register_apart t q (Register r) other low valid = λ e. omega (arith, sound.from r valid)
