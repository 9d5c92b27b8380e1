-- The code of a statement names the operations that the statement names.
use Rattle.std.proofs.Common.{◌≡◌, ℕ, suc, ◌+◌, Bool, true, false, List, [], ◌∷◌, ◌++◌, length, map, refl, sym, ap, ◌∙◌, subst}
use Rattle.std.proofs.Common.{append_assoc, append-nil}
use Rattle.rup_base.specs.Gather.{joined}
use Rattle.bed_syntax.specs.Named.{Name, op_names, load_names, store_names}
use Rattle.bed_syntax.specs.declared.operation.BOp.{BOp}
use Rattle.bed_syntax.specs.declared.operation.BOp.TheVariants as op
use Rattle.bed_syntax.specs.declared.operation.Size.{Size}
use Rattle.bed_syntax.specs.declared.operation.Size.TheVariants as size
use Rattle.flat_lang.specs.Count.{stmt_names_step, stmt_names, code_names}
use Rattle.flat_lang.specs.declared.flat.FStmt.{FStmt, FStmt-F, fold-roll-FStmt, map-FStmt, roll-FStmt, ind-FStmt}
use Rattle.flat_lang.specs.declared.flat.FStmt.TheOpen as f
use Rattle.reg_alloc.specs.declared.plan.At.{At}
use Rattle.reg_alloc.specs.declared.plan.At.TheVariants.{Reg as Register, Slot}
use Rattle.rv_code.specs.Field.{reg, imm20}
use Rattle.rv_code.specs.declared.instruction.Instr.{Instr}
use Rattle.rv_code.specs.declared.instruction.Instr.TheVariants.{Auipc, Add}
use Rattle.rv_emit.specs.Code.{Code, register_of, fetch, save, from_slot, to_slot, copied, is_short, literal_by, literal, upper}
use Rattle.rv_emit.specs.Code.{ahead, operation, load_at, store_to, jump, jump_back, over_by, over, if_code, while_code, in_row}
use Rattle.rv_emit.specs.Code.{stmt_code_step, stmt_code, block_code, is_near}
use Rattle.rv_emit.specs.Names.{instr_names, named_in}

pub named-append : (a b : List Instr) → named_in (a ++ b) ≡ named_in a ++ named_in b
named-append [] b = refl
named-append (i ∷ a) b = ap (λ x. instr_names i ++ x) (named-append a b)
    ∙ sym (append_assoc (instr_names i) (named_in a) (named_in b))

pub fetch_nameless : (r : ℕ) (p : At) → instr_names (fetch r p) ≡ []
fetch_nameless r (Register q) = refl
fetch_nameless r (Slot j) = refl

pub save_nameless : (r : ℕ) (p : At) → instr_names (save r p) ≡ []
save_nameless r (Register q) = refl
save_nameless r (Slot j) = refl

from_nameless : (t : ℕ) (p : At) → named_in (from_slot t p) ≡ []
from_nameless t (Register q) = refl
from_nameless t (Slot j) = refl

to_nameless : (p : At) → named_in (to_slot p) ≡ []
to_nameless (Register q) = refl
to_nameless (Slot j) = refl

copied_nameless : (p q : At) → named_in (copied p q) ≡ []
copied_nameless (Register r) (Register q) = refl
copied_nameless (Register r) (Slot j) = refl
copied_nameless (Slot i) (Register q) = refl
copied_nameless (Slot i) (Slot j) = refl

literal_nameless : (r v : ℕ) → named_in (literal r v) ≡ []
literal_nameless r v = by_short (is_short v)
  where
    by_short : (b : Bool) → named_in (literal_by b r v) ≡ []
    by_short true = refl
    by_short false = refl

over_nameless : (r n : ℕ) → named_in (over r n) ≡ []
over_nameless r n = by_near (is_near n)
  where
    by_near : (b : Bool) → named_in (over_by b r n) ≡ []
    by_near true = refl
    by_near false = refl

operation_named : (o : BOp) (r a b : ℕ) → named_in (operation o r a b) ≡ op_names o
operation_named op.Add r a b = refl
operation_named op.Sub r a b = refl
operation_named op.Mul r a b = refl
operation_named op.Mulhuu r a b = refl
operation_named op.Divu r a b = refl
operation_named op.Remu r a b = refl
operation_named op.And r a b = refl
operation_named op.Or r a b = refl
operation_named op.Xor r a b = refl
operation_named op.Sru r a b = refl
operation_named op.Slu r a b = refl
operation_named op.Srs r a b = refl
operation_named op.Lts r a b = refl
operation_named op.Ltu r a b = refl
operation_named op.Eq r a b = refl

load_named : (z : Size) (r a n : ℕ) → instr_names (load_at z r a n) ≡ load_names z
load_named size.One r a n = refl
load_named size.Two r a n = refl
load_named size.Four r a n = refl

store_named : (z : Size) (a r : ℕ) → instr_names (store_to z a r) ≡ store_names z
store_named size.One a r = refl
store_named size.Two a r = refl
store_named size.Four a r = refl

-- behind what names nothing
after_none : (a b : List Instr) → named_in a ≡ [] → named_in (a ++ b) ≡ named_in b
after_none a b none = named-append a b ∙ ap (λ x. x ++ named_in b) none

before_none : (a b : List Instr) → named_in b ≡ [] → named_in (a ++ b) ≡ named_in a
before_none a b none = named-append a b ∙ ap (λ x. named_in a ++ x) none ∙ append-nil (named_in a)

module _ (place : ℕ → At) (offset : ℕ → ℕ) where
  abbrev Named : FStmt → Type 0
  Named c = (n : ℕ) → named_in (stmt_code place offset c n) ≡ stmt_names c

  abbrev Proved : Type 0
  Proved = (c : FStmt) × Named c

  abbrev bare : FStmt-F Proved → FStmt-F FStmt
  bare y = map-FStmt Proved FStmt (λ p. p.0) y

  row_named : (cs : List Proved) (n : ℕ) → named_in (in_row (map (stmt_code place offset) (map (λ p. p.0) cs)) n)
      ≡ joined (map stmt_names (map (λ p. p.0) cs))
  row_named [] n = refl
  row_named (c ∷ cs) n =
      let rest = in_row (map (stmt_code place offset) (map (λ p. p.0) cs)) n in
      named-append (stmt_code place offset c.0 (length rest + n)) rest ∙ ap (λ x. x ++ named_in rest) (c.1 (length rest + n))
      ∙ ap (λ x. stmt_names c.0 ++ x) (row_named cs n)

  if_named : (p : At) (ca cb : Code) (na nb : List Name) → ((n : ℕ) → named_in (ca n) ≡ na) → ((n : ℕ) → named_in (cb n) ≡ nb)
      → (n : ℕ) → named_in (if_code p ca cb n) ≡ na ++ nb
  if_named p ca cb na nb first second n =
      let b = cb n in
      let a = ca (length b + suc n) in
      let rest = a ++ jump (length b + 1) ∷ b in
      let test = over (register_of 5 p) (length a + 1) in
      after_none (from_slot 5 p) (test ++ rest) (from_nameless 5 p)
      ∙ after_none test rest (over_nameless (register_of 5 p) (length a + 1))
      ∙ named-append a (jump (length b + 1) ∷ b) ∙ ap (λ x. x ++ named_in b) (first (length b + suc n))
      ∙ ap (λ x. na ++ x) (second n)

  while_named : (p : At) (ca cb : Code) (na nb : List Name) → ((n : ℕ) → named_in (ca n) ≡ na) → ((n : ℕ) → named_in (cb n) ≡ nb)
      → (n : ℕ) → named_in (while_code ca p cb n) ≡ na ++ nb
  while_named p ca cb na nb first second n =
      let body = cb (suc n) in
      let test = over (register_of 5 p) (length body + 1) in
      let turn = from_slot 5 p ++ (test ++ body) in
      let start = ca (length turn + suc n) in
      let back = jump_back (length start + length turn) in
      let turn_named : named_in turn ≡ nb = after_none (from_slot 5 p) (test ++ body) (from_nameless 5 p)
      ∙ after_none test body (over_nameless (register_of 5 p) (length body + 1)) ∙ second (suc n) in
      named-append start (turn ++ back ∷ []) ∙ ap (λ x. x ++ named_in (turn ++ back ∷ [])) (first (length turn + suc n))
      ∙ ap (λ x. na ++ x) (before_none turn (back ∷ []) refl ∙ turn_named)

  step_named : (y : FStmt-F Proved) (n : ℕ)
      → named_in (stmt_code_step place offset (map-FStmt FStmt Code (stmt_code place offset) (bare y)) n)
      ≡ stmt_names_step (map-FStmt FStmt (List Name) stmt_names (bare y))
  step_named (f.Lit x v) n = before_none (literal (register_of 5 (place x)) v) (to_slot (place x)) (to_nameless (place x))
      ∙ literal_nameless (register_of 5 (place x)) v
  step_named (f.Copy x y) n = copied_nameless (place x) (place y)
  step_named (f.Bin o x y z) n =
      let does = operation o (register_of 5 (place x)) (register_of 5 (place y)) (register_of 6 (place z)) in
      let last = to_slot (place x) in
      after_none (from_slot 5 (place y)) (from_slot 6 (place z) ++ (does ++ last)) (from_nameless 5 (place y))
      ∙ after_none (from_slot 6 (place z)) (does ++ last) (from_nameless 6 (place z))
      ∙ before_none does last (to_nameless (place x))
      ∙ operation_named o (register_of 5 (place x)) (register_of 5 (place y)) (register_of 6 (place z))
  step_named (f.Load size x y) n =
      let does = load_at size (register_of 5 (place x)) (register_of 5 (place y)) 0 in
      let last = to_slot (place x) in
      after_none (from_slot 5 (place y)) (does ∷ last) (from_nameless 5 (place y))
      ∙ ap (λ z. instr_names does ++ z) (to_nameless (place x)) ∙ append-nil (instr_names does)
      ∙ load_named size (register_of 5 (place x)) (register_of 5 (place y)) 0
  step_named (f.Table size x k y) n =
      let far = ahead (offset k) (2 + length (to_slot (place x)) + n) in
      let does = load_at size (register_of 5 (place x)) 5 far in
      let last = to_slot (place x) in
      after_none (from_slot 5 (place y))
      (Auipc (reg 6) (imm20 (upper far)) ∷ (Add (reg 5) (reg (register_of 5 (place y))) (reg 6) ∷ (does ∷ last)))
      (from_nameless 5 (place y))
      ∙ ap (λ z. instr_names does ++ z) (to_nameless (place x)) ∙ append-nil (instr_names does)
      ∙ load_named size (register_of 5 (place x)) 5 far
  step_named (f.Store size x y) n =
      let does = store_to size (register_of 5 (place x)) (register_of 6 (place y)) in
      after_none (from_slot 5 (place x)) (from_slot 6 (place y) ++ does ∷ []) (from_nameless 5 (place x))
      ∙ after_none (from_slot 6 (place y)) (does ∷ []) (from_nameless 6 (place y))
      ∙ append-nil (instr_names does) ∙ store_named size (register_of 5 (place x)) (register_of 6 (place y))
  step_named (f.If x a b) n = if_named (place x) (in_row (map (stmt_code place offset) (map (λ p. p.0) a)))
      (in_row (map (stmt_code place offset) (map (λ p. p.0) b))) (joined (map stmt_names (map (λ p. p.0) a)))
      (joined (map stmt_names (map (λ p. p.0) b))) (row_named a) (row_named b) n
  step_named (f.While a x b) n =
      while_named (place x) (in_row (map (stmt_code place offset) (map (λ p. p.0) a)))
      (in_row (map (stmt_code place offset) (map (λ p. p.0) b))) (joined (map stmt_names (map (λ p. p.0) a)))
      (joined (map stmt_names (map (λ p. p.0) b))) (row_named a) (row_named b) n

  node_named : (y : FStmt-F Proved) → Named (roll-FStmt (bare y))
  node_named y = λ n. ap (λ c. named_in (c n)) (fold-roll-FStmt Code (stmt_code_step place offset) (bare y)) ∙ step_named y n
      ∙ sym (fold-roll-FStmt (List Name) stmt_names_step (bare y))

  stmt_named : (c : FStmt) → Named c
  stmt_named = ind-FStmt Named (λ x y is. subst (λ z. Named (roll-FStmt z)) is (node_named y))

  pub block_named : (cs : List FStmt) (n : ℕ) → named_in (block_code place offset cs n) ≡ code_names cs
  block_named [] n = refl
  block_named (c ∷ cs) n =
      let rest = block_code place offset cs n in
      named-append (stmt_code place offset c (length rest + n)) rest
      ∙ ap (λ x. x ++ named_in rest) (stmt_named c (length rest + n)) ∙ ap (λ x. stmt_names c ++ x) (block_named cs n)
