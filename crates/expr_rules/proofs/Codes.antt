-- The values and the locals of code.
use Rattle.std.proofs.Common.{◌≡◌, refl, sym, ◌∙◌, ap, ℕ, Bool, true, List, [], ◌∷◌, ◌++◌, Option, Some, if◌then◌else◌}
use Rattle.rv_memory.specs.Ranges.{Bytes}
use Rattle.model_syntax.specs.Operation as model
use Rattle.model_syntax.specs.declared.expr.Op.{Op}
use Rattle.model_syntax.specs.declared.expr.Op.TheVariants as op
use Rattle.bed_syntax.specs.Operation as bed
use Rattle.bed_syntax.specs.Shape.{is_known, expr_locals, expr_locals_step}
use Rattle.bed_syntax.specs.declared.operation.BOp.{BOp}
use Rattle.bed_syntax.specs.declared.operation.Size.{Size}
use Rattle.bed_syntax.specs.declared.expression.BExpr.{BExpr, BExpr-F, fold-BExpr, fold-roll-BExpr}
use Rattle.bed_syntax.specs.declared.expression.BExpr.TheOpen as o
use Rattle.bed_syntax.specs.declared.expression.BExpr.TheVariants as b
use Rattle.bed_meaning.specs.Access.{loaded, entry}
use Rattle.bed_meaning.specs.Locals.{Vars, local_at}
use Rattle.bed_meaning.specs.Value.{value, value_step, both, then_some}
use Rattle.expr_rules.specs.Operations.{code_of}

-- what a fold makes of each code
module _ {A : Type 0} (step : BExpr-F A → A) where
  fold_lit : (n : ℕ) → fold-BExpr A step (b.Lit n) ≡ step (o.Lit n)
  fold_lit n = ap (fold-BExpr A step) (sym (b.rolls-Lit n)) ∙ fold-roll-BExpr A step (o.Lit n)

  fold_var : (x : ℕ) → fold-BExpr A step (b.Var x) ≡ step (o.Var x)
  fold_var x = ap (fold-BExpr A step) (sym (b.rolls-Var x)) ∙ fold-roll-BExpr A step (o.Var x)

  fold_bin : (op : BOp) (p q : BExpr)
      → fold-BExpr A step (b.Bin op p q) ≡ step (o.Bin op (fold-BExpr A step p) (fold-BExpr A step q))
  fold_bin op p q = ap (fold-BExpr A step) (sym (b.rolls-Bin op p q)) ∙ fold-roll-BExpr A step (o.Bin op p q)

  fold_load : (size : Size) (p : BExpr) → fold-BExpr A step (b.Load size p) ≡ step (o.Load size (fold-BExpr A step p))
  fold_load size p = ap (fold-BExpr A step) (sym (b.rolls-Load size p)) ∙ fold-roll-BExpr A step (o.Load size p)

  fold_table : (size : Size) (bytes : List ℕ) (p : BExpr) → fold-BExpr A step (b.Table size bytes p)
      ≡ step (o.Table size bytes (fold-BExpr A step p))
  fold_table size bytes p = ap (fold-BExpr A step) (sym (b.rolls-Table size bytes p))
      ∙ fold-roll-BExpr A step (o.Table size bytes p)

abbrev Value : Type 0
Value = Bytes → Vars → Option ℕ

abbrev Locals : Type 0
Locals = List ℕ → List ℕ

module _ (mem : Bytes) (vars : Vars) where
  pub value_lit : (n : ℕ) → value (b.Lit n) mem vars ≡ Some n
  value_lit n = ap (λ (f : Value). f mem vars) (fold_lit value_step n)

  pub value_var : (x : ℕ) → value (b.Var x) mem vars ≡ local_at vars x
  value_var x = ap (λ (f : Value). f mem vars) (fold_var value_step x)

  pub value_bin : (op : BOp) (p q : BExpr) (m n : ℕ) → value p mem vars ≡ Some m → value q mem vars ≡ Some n
      → value (b.Bin op p q) mem vars ≡ Some (bed.apply op m n)
  value_bin op p q m n one two =
      ap (λ (f : Value). f mem vars) (fold_bin value_step op p q)
      ∙ ap (λ z. both (bed.apply op) z (value q mem vars)) one
      ∙ ap (λ z. both (bed.apply op) (Some m) z) two

  pub value_load : (size : Size) (p : BExpr) (n : ℕ) → value p mem vars ≡ Some n
      → value (b.Load size p) mem vars ≡ loaded size mem n
  value_load size p n one = ap (λ (f : Value). f mem vars) (fold_load value_step size p)
      ∙ ap (λ z. then_some z (loaded size mem)) one

  pub value_table : (size : Size) (bytes : List ℕ) (p : BExpr) (n : ℕ) → value p mem vars ≡ Some n
      → value (b.Table size bytes p) mem vars ≡ entry size bytes n
  value_table size bytes p n one = ap (λ (f : Value). f mem vars) (fold_table value_step size bytes p)
      ∙ ap (λ z. then_some z (entry size bytes)) one

module _ (xs : List ℕ) where
  pub locals_lit : (n : ℕ) → expr_locals (b.Lit n) xs ≡ xs
  locals_lit n = ap (λ (f : Locals). f xs) (fold_lit expr_locals_step n)

  pub locals_var : (x : ℕ) → is_known xs x ≡ true → expr_locals (b.Var x) xs ≡ xs
  locals_var x known = ap (λ (f : Locals). f xs) (fold_var expr_locals_step x)
      ∙ ap (λ (is : Bool). if is then xs else xs ++ x ∷ []) known

  pub locals_bin : (op : BOp) (p q : BExpr) → expr_locals p xs ≡ xs → expr_locals q xs ≡ xs → expr_locals (b.Bin op p q) xs ≡ xs
  locals_bin op p q one two = ap (λ (f : Locals). f xs) (fold_bin expr_locals_step op p q) ∙ ap (expr_locals q) one ∙ two

  pub locals_load : (size : Size) (p : BExpr) → expr_locals p xs ≡ xs → expr_locals (b.Load size p) xs ≡ xs
  locals_load size p one = ap (λ (f : Locals). f xs) (fold_load expr_locals_step size p) ∙ one

  pub locals_table : (size : Size) (bytes : List ℕ) (p : BExpr) → expr_locals p xs ≡ xs
      → expr_locals (b.Table size bytes p) xs ≡ xs
  locals_table size bytes p one = ap (λ (f : Locals). f xs) (fold_table expr_locals_step size bytes p) ∙ one

-- the operation that stands for a model's is the same on words
pub same_operation : (o : Op) (m n : ℕ) → bed.apply (code_of o) m n ≡ model.apply o m n
same_operation op.Add m n = refl
same_operation op.Sub m n = refl
same_operation op.Mul m n = refl
same_operation op.Mulhuu m n = refl
same_operation op.Divu m n = refl
same_operation op.Remu m n = refl
same_operation op.And m n = refl
same_operation op.Or m n = refl
same_operation op.Xor m n = refl
same_operation op.Shl m n = refl
same_operation op.Shr m n = refl
same_operation op.Sar m n = refl
