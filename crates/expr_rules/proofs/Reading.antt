-- Rules whose result is what is read: a further symbol.
use Rattle.std.proofs.Common.{◌≡◌, ℕ, ◌≤◌, List, Some}
use Rattle.rv_memory.specs.Ranges.{Bytes}
use Rattle.model_syntax.specs.declared.expr.Scalar.{Scalar}
use Rattle.model_syntax.specs.declared.program.Param.{Param}
use Rattle.model_syntax.specs.Environment.{Env}
use Rattle.model_syntax.specs.Scope.{Scope}
use Rattle.sym_heap.specs.Context.{Context, top_of}
use Rattle.sym_heap.specs.Fits.{Call, FitsBy}
use Rattle.bed_syntax.specs.Shape.{expr_locals}
use Rattle.bed_syntax.specs.declared.expression.BExpr.{BExpr}
use Rattle.bed_meaning.specs.Locals.{Vars, local_at}
use Rattle.bed_meaning.specs.Value.{value}
use Rattle.expr_rules.specs.Words.{fresh_result}
use Rattle.expr_rules.specs.Sound.{HasLocals, ExprDone, Yields}
use Rattle.expr_rules.proofs.Came.{Fact, Came, Reached, And}
use Rattle.expr_rules.proofs.Fresh.{fresh_done}

-- what is read at this code
abbrev Read : (Env → ℕ) → ℕ → BExpr → Fact
Read sem top code v env mem vars = (value code mem vars ≡ Some (sem env)) × (sem env ≤ top)

pub read_done : (R : Fact) (ps : List Param) (scope : Scope) (before mid : Context) → Came R ps scope before mid
    → (sem : Env → ℕ) (t : Scalar) (at top : ℕ) (code : BExpr) → top ≤ top_of t
    → ((xs : List ℕ) → HasLocals before xs → expr_locals code xs ≡ xs)
    → ((call : Call) (v : ℕ → ℕ) (env : Env) (mem : Bytes) (vars : Vars) → FitsBy call v mid env mem (local_at vars)
    → R v env mem vars → (value code mem vars ≡ Some (sem env)) × (sem env ≤ top))
    → Yields (ExprDone ps scope sem t before) (fresh_result at top code mid)
read_done R ps scope before mid came sem t at top code less locals is =
    fresh_done (And R (Read sem top code)) ps scope before mid read sem t at top code less locals (λ v env mem vars r. r.1)
  where
    read : Came (And R (Read sem top code)) ps scope before mid
    read = record {
      extends = came.extends;
      consistent = came.consistent;
      scoped = came.scoped;
      stays = λ v w env mem vars agree r. (came.stays v w env mem vars agree r.0, r.1);
      runs = λ lengths call numbers env mem vars values fits.
          (let r : Reached R call before mid numbers env mem vars = came.runs lengths call numbers env mem vars values fits in
          record { others = r.others; agree = r.agree; fits = r.fits; is = (r.is, is call r.others env mem vars r.fits r.is) });
    }
