-- The code of statements is no longer than they weigh, and has no more branches and jumps than is said.
use Rattle.std.proofs.Common.{◌≡◌, ℕ, suc, ◌+◌, ◌≤◌, Bool, true, false, nat_lt, if◌then◌else◌, List, [], ◌∷◌, ◌++◌, length, map}
use Rattle.std.proofs.Common.{sum, refl, sym, subst, arith, length-append}
use Rattle.std.proofs.lemmas.Bool.{ltb-false}
use Rattle.std.proofs.lemmas.Grind.{common_steps}
use Rattle.bed_syntax.specs.declared.operation.BOp.{BOp}
use Rattle.bed_syntax.specs.declared.operation.BOp.TheVariants as op
use Rattle.bed_syntax.specs.declared.operation.Size.{Size}
use Rattle.bed_syntax.specs.declared.operation.Size.TheVariants as size
use Rattle.flat_lang.specs.declared.flat.FStmt.{FStmt, FStmt-F, fold-roll-FStmt, map-FStmt, roll-FStmt, ind-FStmt}
use Rattle.flat_lang.specs.declared.flat.FStmt.TheOpen as f
use Rattle.reg_alloc.specs.declared.plan.At.{At}
use Rattle.reg_alloc.specs.declared.plan.At.TheVariants.{Reg as Register, Slot}
use Rattle.rv_code.specs.Field.{reg, imm20}
use Rattle.rv_code.specs.declared.instruction.Instr.{Instr}
use Rattle.rv_code.specs.declared.instruction.Instr.TheVariants.{Auipc, Add}
use Rattle.rv_emit.specs.Branching.{jump_count, jumps_in, Branching, one_if_far, all_weight, all_jumps, branching_step, branching}
use Rattle.rv_emit.specs.Branching.{code_jumps}
use Rattle.rv_emit.specs.Code.{Code, register_of, from_slot, to_slot, copied, is_short, literal_by, literal, operation, load_at}
use Rattle.rv_emit.specs.Code.{store_to, upper, ahead, jump, jump_back, over_by, over, if_code, while_code, in_row}
use Rattle.rv_emit.specs.Code.{stmt_code_step, stmt_code, block_code, is_near}
use Rattle.rv_emit.proofs.Lengths.{length-from_slot, length-literal, length-copied, length-bin, length-load, length-table}
use Rattle.rv_emit.proofs.Lengths.{length-store}

pub jumps-append : (a b : List Instr) → jumps_in (a ++ b) ≡ jumps_in a + jumps_in b
jumps-append [] b = omega arith
jumps-append (i ∷ a) b = let rest = jumps-append a b in omega arith

from_none : (t : ℕ) (p : At) → jumps_in (from_slot t p) ≡ 0
from_none t (Register q) = refl
from_none t (Slot j) = refl

to_none : (p : At) → jumps_in (to_slot p) ≡ 0
to_none (Register q) = refl
to_none (Slot j) = refl

copied_none : (p q : At) → jumps_in (copied p q) ≡ 0
copied_none (Register r) (Register q) = refl
copied_none (Register r) (Slot j) = refl
copied_none (Slot i) (Register q) = refl
copied_none (Slot i) (Slot j) = refl

literal_none : (r v : ℕ) → jumps_in (literal r v) ≡ 0
literal_none r v = by_short (is_short v)
  where
    by_short : (b : Bool) → jumps_in (literal_by b r v) ≡ 0
    by_short true = refl
    by_short false = refl

operation_none : (o : BOp) (r a b : ℕ) → jumps_in (operation o r a b) ≡ 0
operation_none op.Add r a b = refl
operation_none op.Sub r a b = refl
operation_none op.Mul r a b = refl
operation_none op.Mulhuu r a b = refl
operation_none op.Divu r a b = refl
operation_none op.Remu r a b = refl
operation_none op.And r a b = refl
operation_none op.Or r a b = refl
operation_none op.Xor r a b = refl
operation_none op.Sru r a b = refl
operation_none op.Slu r a b = refl
operation_none op.Srs r a b = refl
operation_none op.Lts r a b = refl
operation_none op.Ltu r a b = refl
operation_none op.Eq r a b = refl

load_none : (z : Size) (r a n : ℕ) → jump_count (load_at z r a n) ≡ 0
load_none size.One r a n = refl
load_none size.Two r a n = refl
load_none size.Four r a n = refl

store_none : (z : Size) (a r : ℕ) → jump_count (store_to z a r) ≡ 0
store_none size.One a r = refl
store_none size.Two a r = refl
store_none size.Four a r = refl

sum_cons : (x : ℕ) (xs : List ℕ) → sum (x ∷ xs) ≡ x + sum xs
sum_cons x xs = grind (arith, common_steps)

-- over what weighs so much: one branch where it reaches, else a branch and a jump
over_few : (r n w : ℕ) → n ≤ w + 1 → (jumps_in (over r n) ≤ 1 + one_if_far w) × (length (over r n) ≤ 2)
over_few r n w few = by_test (is_near n) refl (nat_lt 1020 w) refl
  where
    by_test : (b : Bool) → is_near n ≡ b → (t : Bool) → nat_lt 1020 w ≡ t → (jumps_in (over_by b r n) ≤ 1 + (if t then 1 else 0))
        × (length (over_by b r n) ≤ 2)
    by_test true near t is = (omega arith, omega arith)
    by_test false far true is = (omega arith, omega arith)
    by_test false far false is = absurd (let h = ltb-false n 1022 far in let g = ltb-false 1020 w is in omega arith)

module _ (place : ℕ → At) (offset : ℕ → ℕ) where
  -- code within a weight, with so many branches and jumps at most
  abbrev Within : Code → Branching → Type 0
  Within code b = (n : ℕ) → (length (code n) ≤ b.weight) × (jumps_in (code n) ≤ b.jumps)

  abbrev Few : FStmt → Type 0
  Few c = Within (stmt_code place offset c) (branching c)

  abbrev Proved : Type 0
  Proved = (c : FStmt) × Few c

  abbrev bare : FStmt-F Proved → FStmt-F FStmt
  bare y = map-FStmt Proved FStmt (λ p. p.0) y

  abbrev codes : List Proved → List Code
  codes cs = map (stmt_code place offset) (map (λ p. p.0) cs)

  abbrev all_of : List Proved → List Branching
  all_of cs = map branching (map (λ p. p.0) cs)

  then_few : (c : Code) (cs : List Code) (b : Branching) (bs : List Branching) → Within c b
      → ((n : ℕ) → (length (in_row cs n) ≤ all_weight bs) × (jumps_in (in_row cs n) ≤ all_jumps bs)) → (n : ℕ)
      → (length (in_row (c ∷ cs) n) ≤ all_weight (b ∷ bs)) × (jumps_in (in_row (c ∷ cs) n) ≤ all_jumps (b ∷ bs))
  then_few c cs b bs first rest n =
      let behind = in_row cs n in
      let here = c (length behind + n) in
      let size = length-append here behind in
      let count = jumps-append here behind in
      let one = first (length behind + n) in
      let more = rest n in
      let one0 = one.0 in
      let one1 = one.1 in
      let more0 = more.0 in
      let more1 = more.1 in
      let w = sum_cons b.weight (map (λ b. b.weight) bs) in
      let j = sum_cons b.jumps (map (λ b. b.jumps) bs) in
      (omega arith, omega arith)

  row_few : (cs : List Proved) (n : ℕ) → (length (in_row (codes cs) n) ≤ all_weight (all_of cs))
      × (jumps_in (in_row (codes cs) n) ≤ all_jumps (all_of cs))
  row_few [] n = (omega arith, omega arith)
  row_few (c ∷ cs) n = then_few (stmt_code place offset c.0) (codes cs) (branching c.0) (all_of cs) c.1 (row_few cs) n

  if_few : (p : At) (ca cb : Code) (wa ja wb jb : ℕ) → ((n : ℕ) → (length (ca n) ≤ wa) × (jumps_in (ca n) ≤ ja))
      → ((n : ℕ) → (length (cb n) ≤ wb) × (jumps_in (cb n) ≤ jb)) → (n : ℕ)
      → (length (if_code p ca cb n) ≤ 4 + (wa + wb)) × (jumps_in (if_code p ca cb n) ≤ 2 + one_if_far wa + (ja + jb))
  if_few p ca cb wa ja wb jb first second n =
      let b = cb n in
      let a = ca (length b + suc n) in
      let behind = jump (length b + 1) ∷ b in
      let test = over (register_of 5 p) (length a + 1) in
      let front = from_slot 5 p in
      let fa = first (length b + suc n) in
      let fb = second n in
      let fa0 = fa.0 in
      let fa1 = fa.1 in
      let fb0 = fb.0 in
      let fb1 = fb.1 in
      let far = over_few (register_of 5 p) (length a + 1) wa (omega arith) in
      let far0 = far.0 in
      let far1 = far.1 in
      let l1 = length-append front (test ++ (a ++ behind)) in
      let l2 = length-append test (a ++ behind) in
      let l3 = length-append a behind in
      let j1 = jumps-append front (test ++ (a ++ behind)) in
      let j2 = jumps-append test (a ++ behind) in
      let j3 = jumps-append a behind in
      let lf = length-from_slot 5 p in
      let jf = from_none 5 p in
      (omega arith, omega arith)

  while_few : (p : At) (ca cb : Code) (wa ja wb jb : ℕ) → ((n : ℕ) → (length (ca n) ≤ wa) × (jumps_in (ca n) ≤ ja))
      → ((n : ℕ) → (length (cb n) ≤ wb) × (jumps_in (cb n) ≤ jb)) → (n : ℕ)
      → (length (while_code ca p cb n) ≤ wa + (4 + wb)) × (jumps_in (while_code ca p cb n) ≤ 2 + one_if_far wb + (ja + jb))
  while_few p ca cb wa ja wb jb first second n =
      let body = cb (suc n) in
      let test = over (register_of 5 p) (length body + 1) in
      let front = from_slot 5 p in
      let turn = front ++ (test ++ body) in
      let start = ca (length turn + suc n) in
      let back = jump_back (length start + length turn) in
      let fa = first (length turn + suc n) in
      let fb = second (suc n) in
      let fa0 = fa.0 in
      let fa1 = fa.1 in
      let fb0 = fb.0 in
      let fb1 = fb.1 in
      let far = over_few (register_of 5 p) (length body + 1) wb (omega arith) in
      let far0 = far.0 in
      let far1 = far.1 in
      let l1 = length-append start (turn ++ back ∷ []) in
      let l2 = length-append turn (back ∷ []) in
      let l3 = length-append front (test ++ body) in
      let l4 = length-append test body in
      let j1 = jumps-append start (turn ++ back ∷ []) in
      let j2 = jumps-append turn (back ∷ []) in
      let j3 = jumps-append front (test ++ body) in
      let j4 = jumps-append test body in
      let lf = length-from_slot 5 p in
      let jf = from_none 5 p in
      (omega arith, omega arith)

  step_few : (y : FStmt-F Proved) (n : ℕ)
      → (length (stmt_code_step place offset (map-FStmt FStmt Code (stmt_code place offset) (bare y)) n) ≤
      (branching_step (map-FStmt FStmt Branching branching (bare y))).weight)
      × (jumps_in (stmt_code_step place offset (map-FStmt FStmt Code (stmt_code place offset) (bare y)) n) ≤
      (branching_step (map-FStmt FStmt Branching branching (bare y))).jumps)
  step_few (f.Lit x v) n =
      let j = jumps-append (literal (register_of 5 (place x)) v) (to_slot (place x)) in
      let j1 = literal_none (register_of 5 (place x)) v in
      let j2 = to_none (place x) in
      (length-literal (place x) v, omega arith)
  step_few (f.Copy x y) n = let j = copied_none (place x) (place y) in (length-copied (place x) (place y), omega arith)
  step_few (f.Bin o x y z) n =
      let does = operation o (register_of 5 (place x)) (register_of 5 (place y)) (register_of 6 (place z)) in
      let j1 = jumps-append (from_slot 5 (place y)) (from_slot 6 (place z) ++ (does ++ to_slot (place x))) in
      let j2 = jumps-append (from_slot 6 (place z)) (does ++ to_slot (place x)) in
      let j3 = jumps-append does (to_slot (place x)) in
      let j4 = from_none 5 (place y) in
      let j5 = from_none 6 (place z) in
      let j6 = operation_none o (register_of 5 (place x)) (register_of 5 (place y)) (register_of 6 (place z)) in
      let j7 = to_none (place x) in
      (length-bin o (place x) (place y) (place z), omega arith)
  step_few (f.Load z x y) n =
      let does = load_at z (register_of 5 (place x)) (register_of 5 (place y)) 0 in
      let j1 = jumps-append (from_slot 5 (place y)) (does ∷ to_slot (place x)) in
      let j2 = from_none 5 (place y) in
      let j3 = load_none z (register_of 5 (place x)) (register_of 5 (place y)) 0 in
      let j4 = to_none (place x) in
      (length-load z (place x) (place y), omega arith)
  step_few (f.Table z x k y) n =
      let far = ahead (offset k) (2 + length (to_slot (place x)) + n) in
      let does = load_at z (register_of 5 (place x)) 5 far in
      let j1 = jumps-append (from_slot 5 (place y))
      (Auipc (reg 6) (imm20 (upper far))
      ∷ (Add (reg 5) (reg (register_of 5 (place y))) (reg 6) ∷ (does ∷ to_slot (place x)))) in
      let j2 = from_none 5 (place y) in
      let j3 = load_none z (register_of 5 (place x)) 5 far in
      let j4 = to_none (place x) in
      (length-table z (place x) (place y) (offset k) n, omega arith)
  step_few (f.Store z x y) n =
      let does = store_to z (register_of 5 (place x)) (register_of 6 (place y)) in
      let j1 = jumps-append (from_slot 5 (place x)) (from_slot 6 (place y) ++ does ∷ []) in
      let j2 = jumps-append (from_slot 6 (place y)) (does ∷ []) in
      let j3 = from_none 5 (place x) in
      let j4 = from_none 6 (place y) in
      let j5 = store_none z (register_of 5 (place x)) (register_of 6 (place y)) in
      (length-store z (place x) (place y), omega arith)
  step_few (f.If x a b) n = if_few (place x) (in_row (codes a)) (in_row (codes b)) (all_weight (all_of a)) (all_jumps (all_of a))
      (all_weight (all_of b)) (all_jumps (all_of b)) (row_few a) (row_few b) n
  step_few (f.While a x b) n = while_few (place x) (in_row (codes a)) (in_row (codes b)) (all_weight (all_of a))
      (all_jumps (all_of a)) (all_weight (all_of b)) (all_jumps (all_of b)) (row_few a) (row_few b) n

  node_few : (y : FStmt-F Proved) → Few (roll-FStmt (bare y))
  node_few y = λ n.
      subst (λ b. (length (stmt_code place offset (roll-FStmt (bare y)) n) ≤ b.weight)
      × (jumps_in (stmt_code place offset (roll-FStmt (bare y)) n) ≤ b.jumps))
      (sym (fold-roll-FStmt Branching branching_step (bare y)))
      (subst (λ c. (length (c n) ≤ (branching_step (map-FStmt FStmt Branching branching (bare y))).weight)
      × (jumps_in (c n) ≤ (branching_step (map-FStmt FStmt Branching branching (bare y))).jumps))
      (sym (fold-roll-FStmt Code (stmt_code_step place offset) (bare y))) (step_few y n))

  stmt_few : (c : FStmt) → Few c
  stmt_few = ind-FStmt Few (λ x y is. subst (λ z. Few (roll-FStmt z)) is (node_few y))

  block_both : (cs : List FStmt) (n : ℕ) → (length (block_code place offset cs n) ≤ all_weight (map branching cs))
      × (jumps_in (block_code place offset cs n) ≤ all_jumps (map branching cs))
  block_both [] n = (omega arith, omega arith)
  block_both (c ∷ cs) n = then_few (stmt_code place offset c) (map (stmt_code place offset) cs) (branching c) (map branching cs)
      (stmt_few c) (block_both cs) n

  pub block_few : (cs : List FStmt) (n : ℕ) → jumps_in (block_code place offset cs n) ≤ code_jumps cs
  block_few cs n = (block_both cs n).1
