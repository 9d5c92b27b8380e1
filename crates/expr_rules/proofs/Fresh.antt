-- Rules whose result is a further symbol: the code has a number of at most its top.
use Rattle.std.proofs.Common.{◌≡◌, ◌∙◌, ap, arith, ℕ, suc, ◌≤◌, List, [], ◌∷◌, ◌++◌, length, Some, None, pos}
use Rattle.rv_memory.specs.Ranges.{Bytes}
use Rattle.side_certs.specs.LinearForm.{LinearForm, symbol, value_at}
use Rattle.side_certs.proofs.laws.Values.{value_symbol}
use Rattle.model_syntax.specs.declared.expr.Scalar.{Scalar}
use Rattle.model_syntax.specs.declared.program.Param.{Param}
use Rattle.model_syntax.specs.Environment.{Env}
use Rattle.model_syntax.specs.Scope.{Scope}
use Rattle.sym_heap.specs.Context.{Context, top_of, with_top}
use Rattle.sym_heap.specs.Fits.{Known}
use Rattle.sym_heap.proofs.laws.Extending.{longer, known_symbol}
use Rattle.bed_syntax.specs.Shape.{expr_locals}
use Rattle.bed_syntax.specs.declared.expression.BExpr.{BExpr}
use Rattle.bed_meaning.specs.Locals.{Vars}
use Rattle.bed_meaning.specs.Value.{value}
use Rattle.expr_rules.specs.Words.{give, plain, fresh_result}
use Rattle.expr_rules.specs.Sound.{AllKnown, AllHold, HasLocals, ExprDone, Yields}
use Rattle.expr_rules.proofs.laws.Yields.{yields_fresh}
use Rattle.expr_rules.proofs.Came.{Kid, Right, Fact, Came, came_fresh, came_done, WithNumber}

pub none_known : (n : ℕ) → AllKnown n []
none_known n i f at = absurd (let bad : None ≡ Some f = at in cc)

pub none_hold : (v : ℕ → ℕ) → AllHold v []
none_hold v i f at = absurd (let bad : None ≡ Some f = at in cc)

-- the next symbol has a top
pub next_known : (tops : List ℕ) (top : ℕ) → Known (length (tops ++ top ∷ [])) (symbol (length tops))
next_known tops top = known_symbol (length (tops ++ top ∷ [])) (length tops)
    (let one : length (tops ++ top ∷ []) ≡ suc (length tops) = longer tops top in omega (arith, one))

-- code that is no flag
pub plain_kid : (before mid : Context) (code : BExpr) (f : LinearForm) → Known (length mid.tops) f
    → ((xs : List ℕ) → HasLocals before xs → expr_locals code xs ≡ xs) → Kid before mid (plain code f)
plain_kid before mid code f known locals =
    record { known = known; yes_known = none_known (length mid.tops); no_known = none_known (length mid.tops); locals = locals }

pub plain_right : (n : ℕ) (t : Scalar) (code : BExpr) (f : LinearForm) (v : ℕ → ℕ) (mem : Bytes) (vars : Vars)
    → value code mem vars ≡ Some n → n ≤ top_of t → value_at v f ≡ pos n → Right n t (plain code f) v mem vars
plain_right n t code f v mem vars is small form =
    record { value = is; small = small; form = form; yes = λ e. none_hold v; no = λ e. none_hold v }

pub fresh_done : (R : Fact) (ps : List Param) (scope : Scope) (before mid : Context) → Came R ps scope before mid
    → (sem : Env → ℕ) (t : Scalar) (at top : ℕ) (code : BExpr) → top ≤ top_of t
    → ((xs : List ℕ) → HasLocals before xs → expr_locals code xs ≡ xs)
    → ((v : ℕ → ℕ) (env : Env) (mem : Bytes) (vars : Vars) → R v env mem vars → (value code mem vars ≡ Some (sem env))
    × (sem env ≤ top))
    → Yields (ExprDone ps scope sem t before) (fresh_result at top code mid)
fresh_done R ps scope before mid came sem t at top code less locals is =
    yields_fresh (ExprDone ps scope sem t before) mid at top (λ s. give (plain code s))
    (came_done (WithNumber R ps scope before mid came sem) ps scope before (with_top top mid)
    (came_fresh R ps scope before mid came top sem (λ v env mem vars r. (is v env mem vars r).1))
    sem t (plain code (symbol (length mid.tops)))
    (plain_kid before (with_top top mid) code (symbol (length mid.tops)) (next_known mid.tops top) locals)
    (λ call v env mem vars fits r.
    let small : sem env ≤ top = (is v env mem vars r.0).1 in
    plain_right (sem env) t code (symbol (length mid.tops)) v mem vars (is v env mem vars r.0).0 (omega (arith, small, less))
    (value_symbol v (length mid.tops) ∙ ap pos r.1)))
