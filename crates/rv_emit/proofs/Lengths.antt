-- The code of a statement that holds no others is no longer than it weighs, whatever its places are.
use Rattle.std.proofs.Common.{ℕ, ◌+◌, ◌≤◌, Bool, true, false, List, [], ◌∷◌, ◌++◌, length, arith, length-append}
use Rattle.bed_syntax.specs.declared.operation.BOp.{BOp}
use Rattle.bed_syntax.specs.declared.operation.BOp.TheVariants as op
use Rattle.bed_syntax.specs.declared.operation.Size.{Size}
use Rattle.reg_alloc.specs.declared.plan.At.{At}
use Rattle.reg_alloc.specs.declared.plan.At.TheVariants.{Reg as Register, Slot}
use Rattle.rv_code.specs.Field.{reg, imm20}
use Rattle.rv_code.specs.declared.instruction.Instr.{Instr}
use Rattle.rv_code.specs.declared.instruction.Instr.TheVariants.{Auipc, Add}
use Rattle.rv_emit.specs.Code.{register_of, from_slot, to_slot, copied, is_short, literal_by, literal, upper, operation, load_at}
use Rattle.rv_emit.specs.Code.{store_to, ahead, look_up}

pub length-from_slot : (t : ℕ) (p : At) → length (from_slot t p) ≤ 1
length-from_slot t (Register r) = omega arith
length-from_slot t (Slot j) = omega arith

pub length-to_slot : (p : At) → length (to_slot p) ≤ 1
length-to_slot (Register r) = omega arith
length-to_slot (Slot j) = omega arith

literal_two : (r v : ℕ) → length (literal r v) ≤ 2
literal_two r v = by_short (is_short v)
  where
    by_short : (b : Bool) → length (literal_by b r v) ≤ 2
    by_short true = omega arith
    by_short false = omega arith

pub length-copied : (p q : At) → length (copied p q) ≤ 2
length-copied (Register r) q = omega arith
length-copied (Slot j) (Register r) = omega arith
length-copied (Slot j) (Slot k) = omega arith

length-operation : (o : BOp) (r a b : ℕ) → length (operation o r a b) ≤ 2
length-operation op.Add r a b = omega arith
length-operation op.Sub r a b = omega arith
length-operation op.Mul r a b = omega arith
length-operation op.Mulhuu r a b = omega arith
length-operation op.Divu r a b = omega arith
length-operation op.Remu r a b = omega arith
length-operation op.And r a b = omega arith
length-operation op.Or r a b = omega arith
length-operation op.Xor r a b = omega arith
length-operation op.Sru r a b = omega arith
length-operation op.Slu r a b = omega arith
length-operation op.Srs r a b = omega arith
length-operation op.Lts r a b = omega arith
length-operation op.Ltu r a b = omega arith
length-operation op.Eq r a b = omega arith

in_four : (a b c d : List Instr) → length a ≤ 1 → length b ≤ 1 → length c ≤ 2 → length d ≤ 1 → length (a ++ (b ++ (c ++ d))) ≤ 5
in_four a b c d la lb lc ld =
    let s1 = length-append a (b ++ (c ++ d)) in
    let s2 = length-append b (c ++ d) in
    let s3 = length-append c d in
    omega arith

in_two : (a b : List Instr) (m n : ℕ) → length a ≤ m → length b ≤ n → length (a ++ b) ≤ m + n
in_two a b m n la lb = let size = length-append a b in omega arith

pub length-literal : (p : At) (v : ℕ) → length (literal (register_of 5 p) v ++ to_slot p) ≤ 3
length-literal p v = in_two (literal (register_of 5 p) v) (to_slot p) 2 1 (literal_two (register_of 5 p) v) (length-to_slot p)

pub length-bin : (o : BOp) (p q r : At)
    → length (from_slot 5 q ++ (from_slot 6 r
    ++ (operation o (register_of 5 p) (register_of 5 q) (register_of 6 r) ++ to_slot p))) ≤ 5
length-bin o p q r =
    in_four (from_slot 5 q) (from_slot 6 r) (operation o (register_of 5 p) (register_of 5 q) (register_of 6 r)) (to_slot p)
    (length-from_slot 5 q) (length-from_slot 6 r) (length-operation o (register_of 5 p) (register_of 5 q) (register_of 6 r))
    (length-to_slot p)

pub length-load : (z : Size) (p q : At)
    → length (from_slot 5 q ++ (load_at z (register_of 5 p) (register_of 5 q) 0 ∷ to_slot p)) ≤ 3
length-load z p q = let last = length-to_slot p in
    in_two (from_slot 5 q) (load_at z (register_of 5 p) (register_of 5 q) 0 ∷ to_slot p) 1 2 (length-from_slot 5 q) (omega arith)

pub length-table : (z : Size) (p q : At) (offset n : ℕ) → length (look_up z p offset q n) ≤ 6
length-table z p q offset n =
    let far = ahead offset (2 + length (to_slot p) + n) in
    let last = length-to_slot p in
    let all = in_two (from_slot 5 q)
    (Auipc (reg 6) (imm20 (upper far))
    ∷ (Add (reg 5) (reg (register_of 5 q)) (reg 6) ∷ (load_at z (register_of 5 p) 5 far ∷ to_slot p))) 1 4
    (length-from_slot 5 q) (omega arith) in
    omega (arith, all)

pub length-store : (z : Size) (p q : At)
    → length (from_slot 5 p ++ (from_slot 6 q ++ store_to z (register_of 5 p) (register_of 6 q) ∷ [])) ≤ 3
length-store z p q =
    let last = store_to z (register_of 5 p) (register_of 6 q) ∷ [] in
    in_two (from_slot 5 p) (from_slot 6 q ++ last) 1 2 (length-from_slot 5 p)
    (in_two (from_slot 6 q) last 1 1 (length-from_slot 6 q) (omega arith))
