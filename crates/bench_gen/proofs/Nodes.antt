-- What a definition over a tree says of a node: its step at what it says of the parts. And the types of a node.
use Rattle.std.proofs.Common.{◌≡◌, refl, sym, ◌∙◌, ap, arith, ℕ, zero, suc, ◌<◌, Some, Ok}
use Rattle.model_syntax.specs.ExprType.{Typing, type_of, type_step}
use Rattle.model_syntax.specs.Names.{Name}
use Rattle.model_syntax.specs.Scope.{Scope, look_up}
use Rattle.model_syntax.specs.declared.expr.Expr.{Expr, Expr-F, fold-Expr, fold-roll-Expr}
use Rattle.model_syntax.specs.declared.expr.Expr.TheOpen as e
use Rattle.model_syntax.specs.declared.expr.Expr.TheVariants as v
use Rattle.model_syntax.specs.declared.expr.Expr.TheVariants.{Lit, Var, Bin, ToWord}
use Rattle.model_syntax.specs.declared.expr.Op.{Op}
use Rattle.model_syntax.specs.declared.expr.Scalar.{Scalar}
use Rattle.model_syntax.specs.declared.expr.Scalar.TheVariants.{Word, Byte}
use Rattle.model_syntax.specs.declared.scope.NameType.TheVariants.{Scalar as One}
use Rattle.model_syntax.specs.declared.stmt.Stmt.{Stmt, Stmt-F, fold-Stmt, map-Stmt, roll-Stmt, fold-roll-Stmt}

-- What holds of each number below 8.
module _ (P : ℕ → Type 0) (p0 : P 0) (p1 : P 1) (p2 : P 2) (p3 : P 3) (p4 : P 4) (p5 : P 5) (p6 : P 6) (p7 : P 7) where
  pub below_eight : (k : ℕ) → k < 8 → P k
  below_eight zero few = p0
  below_eight (suc zero) few = p1
  below_eight (suc (suc zero)) few = p2
  below_eight (suc (suc (suc zero))) few = p3
  below_eight (suc (suc (suc (suc zero)))) few = p4
  below_eight (suc (suc (suc (suc (suc zero))))) few = p5
  below_eight (suc (suc (suc (suc (suc (suc zero)))))) few = p6
  below_eight (suc (suc (suc (suc (suc (suc (suc zero))))))) few = p7
  below_eight (suc (suc (suc (suc (suc (suc (suc (suc k)))))))) few = absurd (omega (arith, few))

-- Folds at a node.

module _ (A : Type 0) (step : Expr-F A → A) where
  abbrev whole : Expr → A
  whole = fold-Expr A step

  pub at_lit : (n : ℕ) → whole (Lit n) ≡ step (e.Lit n)
  at_lit n = ap whole (sym (v.rolls-Lit n)) ∙ fold-roll-Expr A step (e.Lit n)

  pub at_var : (x : Name) → whole (Var x) ≡ step (e.Var x)
  at_var x = ap whole (sym (v.rolls-Var x)) ∙ fold-roll-Expr A step (e.Var x)

  pub at_bin : (o : Op) (p q : Expr) → whole (Bin o p q) ≡ step (e.Bin o (whole p) (whole q))
  at_bin o p q = ap whole (sym (v.rolls-Bin o p q)) ∙ fold-roll-Expr A step (e.Bin o p q)

  pub at_word : (p : Expr) → whole (ToWord p) ≡ step (e.ToWord (whole p))
  at_word p = ap whole (sym (v.rolls-ToWord p)) ∙ fold-roll-Expr A step (e.ToWord p)

pub at_stmt : (A : Type 0) (step : Stmt-F A → A) (y : Stmt-F Stmt) (w : Stmt) → roll-Stmt y ≡ w
    → fold-Stmt A step w ≡ step (map-Stmt Stmt A (fold-Stmt A step) y)
at_stmt A step y w is = ap (fold-Stmt A step) (sym is) ∙ fold-roll-Stmt A step y

-- Types.

abbrev pub IsWord : Expr → Scope → Type 0
IsWord p c = type_of p c ≡ Ok Word

pub lit_typed : (n : ℕ) (c : Scope) → IsWord (Lit n) c
lit_typed n c = ap (λ (g : Scope → Typing). g c) (at_lit (Scope → Typing) type_step n)

pub var_typed : (x : Name) (t : Scalar) (c : Scope) → look_up c x ≡ Some (One t) → type_of (Var x) c ≡ Ok t
var_typed x t c is = ap (λ (g : Scope → Typing). g c) (at_var (Scope → Typing) type_step x) ∙ rw is refl

pub bin_typed : (o : Op) (p q : Expr) (c : Scope) → IsWord p c → IsWord q c → IsWord (Bin o p q) c
bin_typed o p q c one two = ap (λ (g : Scope → Typing). g c) (at_bin (Scope → Typing) type_step o p q) ∙ rw (one, two) refl

pub word_typed : (p : Expr) (c : Scope) → type_of p c ≡ Ok Byte → IsWord (ToWord p) c
word_typed p c is = ap (λ (g : Scope → Typing). g c) (at_word (Scope → Typing) type_step p) ∙ rw is refl
