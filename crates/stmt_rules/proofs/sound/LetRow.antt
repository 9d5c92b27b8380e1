-- Whatever the node of a statement gives is right, so far by s-let alone.
use Rattle.std.proofs.Common.{◌≡◌, refl, sym, subst, ℕ, ◌+◌, Bool, true, false, List, [], ◌∷◌, Option, Some, None, Ok}
use Rattle.rup_base.specs.declared.arg.Arg.TheVariants as arg
use Rattle.model_syntax.specs.declared.expr.Expr.{Expr, out-Expr}
use Rattle.model_syntax.specs.declared.expr.Scalar.{Scalar}
use Rattle.model_syntax.specs.declared.program.Param.{Param}
use Rattle.model_syntax.specs.declared.scope.NameType.TheVariants.{Scalar as OneOf}
use Rattle.model_syntax.specs.Environment.{Env, put}
use Rattle.model_syntax.specs.ExprType.{type_of}
use Rattle.model_syntax.specs.Formed.{expr_formed}
use Rattle.model_syntax.specs.Names.{Name}
use Rattle.model_syntax.specs.Sound.{IsTyped}
use Rattle.model_syntax.specs.Scope.{Scope, look_up, bind, scalar_may_take}
use Rattle.model_syntax.specs.Spelling.{expr_spellable}
use Rattle.model_syntax.specs.Value.{eval}
use Rattle.sym_heap.specs.Context.{Context, is_free}
use Rattle.sym_heap.specs.Fits.{IsConsistent}
use Rattle.sym_heap.specs.Scoped.{IsScoped}
use Rattle.expr_rules.specs.declared.output.ExprOut.{ExprOut}
use Rattle.expr_rules.specs.Sound.{ExprDone, Yields, IsSound}
use Rattle.expr_rules.specs.Words.{◌>>=◌, Judged, one_kid}
use Rattle.stmt_rules.specs.declared.output.StmtOut.{StmtOut}
use Rattle.stmt_rules.specs.Row.{kind}
use Rattle.stmt_rules.specs.Sound.{StmtDone}
use Rattle.stmt_rules.specs.Words.{kind_of}
use Rattle.stmt_rules.specs.rules.Let as let_rule
use Rattle.expr_rules.proofs.laws.Yields.{yields_then}
use Rattle.stmt_rules.proofs.sound.Kinds.{kind_is}
use Rattle.stmt_rules.proofs.sound.Let.{let_done}

module _ (ps : List Param) (scope : Scope) (t : Scalar) (c : Context) (x : Name) (a : Expr) (scoped : IsScoped ps scope c)
    (may : scalar_may_take (look_up scope x) ≡ Ok tt) (typed : type_of a scope ≡ Ok t)
    (kept : (lengths : Name → ℕ) (env : Env) → IsTyped lengths scope env
    → IsTyped lengths (bind x (OneOf t) scope) (put x (arg.Word (eval a env)) env)) (at : ℕ) where
  abbrev Q : StmtOut → Context → Type 0
  Q = StmtDone ps scope (bind x (OneOf t) scope) (λ env. put x (arg.Word (eval a env)) env) c

  after_kid : (l : ℕ) (p : ExprOut) (mid : Context) → ExprDone ps scope (eval a) t c p mid → (b : Bool)
      → is_free mid l (Some x) ≡ b → Yields Q (let_rule.after at x l t p mid)
  after_kid l p mid kid true e = rw e (let_done ps scope (eval a) t c mid p x l kid e may kept)
  after_kid l p mid kid false e = rw e tt

  with_kind : (l : ℕ) (p : ExprOut) (mid : Context) → ExprDone ps scope (eval a) t c p mid → (o : Option Scalar)
      → kind_of mid (out-Expr a) ≡ o
      → Yields Q ((kind at a >>= (λ u. let_rule.after at x l u p)) mid)
  with_kind l p mid kid None e = rw e tt
  with_kind l p mid kid (Some u) e =
      let is : u ≡ t = kind_is ps scope mid a t u kid.scoped typed e in
      rw e (subst (λ (k : Scalar). Yields Q (let_rule.after at x l k p mid)) (sym is)
      (after_kid l p mid kid (is_free mid l (Some x)) refl))

  -- from the kid on
  pub let_yields : IsConsistent c → expr_formed a ≡ true → expr_spellable a ≡ true → (l : ℕ) (k : Judged)
      → ((m : ℕ) (b : Expr) → IsSound b (k.row m b))
      → Yields Q ((one_kid (k ∷ []) at a >>= (λ p. kind at a >>= (λ u. let_rule.after at x l u p))) c)
  let_yields s formed spelled l k sound =
      yields_then Q c (ExprDone ps scope (eval a) t c) (k.row (at + 1) a) (λ p. kind at a >>= (λ u. let_rule.after at x l u p))
      (sound (at + 1) a ps scope t c s scoped formed spelled typed)
      (λ p mid kid. with_kind l p mid kid (kind_of mid (out-Expr a)) refl)
