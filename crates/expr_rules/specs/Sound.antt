-- When what a rule gives is right: in each state that fits the context before, the code has the expression's value, the state
-- fits the context after, the form has the value, and a flag's facts hold. What is said of contexts alone holds whether or not
-- any state fits.
use Rattle.std.specs.Prelude.{◌≡◌, ℕ, ◌≤◌, ◌≤ℤ◌, pos, true, false, List, length, take, Some, Result, Ok, Err, slice_get}
use Rattle.rup_base.specs.declared.refusal.Refusal.{Refusal}
use Rattle.rv_memory.specs.Ranges.{Bytes}
use Rattle.side_certs.specs.LinearForm.{LinearForm, value_at}
use Rattle.model_syntax.specs.declared.expr.Expr.{Expr}
use Rattle.model_syntax.specs.declared.expr.Scalar.{Scalar}
use Rattle.model_syntax.specs.declared.program.Param.{Param}
use Rattle.model_syntax.specs.Environment.{Env}
use Rattle.model_syntax.specs.ExprType.{type_of}
use Rattle.model_syntax.specs.Formed.{expr_formed}
use Rattle.model_syntax.specs.Names.{Name}
use Rattle.model_syntax.specs.Scope.{Scope}
use Rattle.model_syntax.specs.Sound.{IsTyped}
use Rattle.model_syntax.specs.Spelling.{expr_spellable}
use Rattle.model_syntax.specs.Value.{eval, is_true}
use Rattle.sym_heap.specs.declared.parts.Held.{Held}
use Rattle.sym_heap.specs.declared.parts.Clause.{Clause}
use Rattle.sym_heap.specs.Context.{Context, top_of}
use Rattle.sym_heap.specs.Fits.{Call, Known, IsConsistent, FitsBy, Agree}
use Rattle.sym_heap.specs.Scoped.{IsScoped}
use Rattle.equations.specs.Book.{Turn, Laws}
use Rattle.deriv_tree.specs.declared.tree.ExprNode.{ExprNode}
use Rattle.bed_syntax.specs.Shape.{is_known, expr_locals}
use Rattle.bed_meaning.specs.Locals.{Vars, local_at}
use Rattle.bed_meaning.specs.Value.{value}
use Rattle.expr_rules.specs.declared.output.ExprOut.{ExprOut}
use Rattle.expr_rules.specs.Words.{Rule}
use Rattle.expr_rules.specs.Row.{row}

-- facts and symbols are added at the end; all else is as before
pub record Extends (before after : Context) : Type 0 where
  pub scalars : after.scalars ≡ before.scalars
  pub clauses : after.clauses ≡ before.clauses
  pub reserved : after.reserved ≡ before.reserved
  pub entries : after.entries ≡ before.entries
  pub facts : take (length before.facts) after.facts ≡ before.facts
  pub tops : take (length before.tops) after.tops ≡ before.tops

-- each of the forms mentions only the first n symbols
abbrev pub AllKnown : ℕ → List LinearForm → Type 0
AllKnown n fs = (i : ℕ) (f : LinearForm) → slice_get fs i ≡ Some f → Known n f

-- each of the forms is at least 0
abbrev pub AllHold : (ℕ → ℕ) → List LinearForm → Type 0
AllHold numbers fs = (i : ℕ) (f : LinearForm) → slice_get fs i ≡ Some f → pos 0 ≤ℤ value_at numbers f

-- the list has each local of a scalar, and those of the pointers and lengths of arrays
pub record HasLocals (c : Context) (xs : List ℕ) : Type 0 where
  pub scalars : (i : ℕ) (h : Held) → slice_get c.scalars i ≡ Some h → is_known xs h.local ≡ true
  pub pointers : (i : ℕ) (k : Clause) → slice_get c.clauses i ≡ Some k → is_known xs k.pointer ≡ true
  pub lengths : (i l : ℕ) (k : Clause) → slice_get c.clauses i ≡ Some k → k.length_local ≡ Some l → is_known xs l ≡ true

-- what an instance gives in a state that fits: an expression of this type has the value n
pub record ExprRan (call : Call) (n : ℕ) (t : Scalar) (before : Context) (out : ExprOut) (after : Context) (numbers : ℕ → ℕ)
    (env : Env) (mem : Bytes) (vars : Vars) : Type 0 where
  -- each symbol of the context before has the number that it had
  pub others : ℕ → ℕ
  pub agree : Agree (length before.tops) numbers others
  pub fits : FitsBy call others after env mem (local_at vars)
  pub value : value out.code mem vars ≡ Some n
  pub small : n ≤ top_of t
  pub form : value_at others out.form ≡ pos n
  pub yes : is_true n ≡ true → AllHold others out.yes
  pub no : is_true n ≡ false → AllHold others out.no

-- what is right for an expression of this type, whose value in each environment is `sem`
pub record ExprDone (ps : List Param) (scope : Scope) (sem : Env → ℕ) (t : Scalar) (before : Context) (out : ExprOut)
    (after : Context) : Type 0 where
  pub extends : Extends before after
  pub consistent : IsConsistent after
  pub scoped : IsScoped ps scope after
  pub known : Known (length after.tops) out.form
  pub yes_known : AllKnown (length after.tops) out.yes
  pub no_known : AllKnown (length after.tops) out.no
  -- no other local occurs in the code
  pub locals : (xs : List ℕ) → HasLocals before xs → expr_locals out.code xs ≡ xs
  -- where the names in scope have values of their types
  pub runs : (lengths : Name → ℕ) (call : Call) (numbers : ℕ → ℕ) (env : Env) (mem : Bytes) (vars : Vars)
      → IsTyped lengths scope env
      → FitsBy call numbers before env mem (local_at vars) → ExprRan call (sem env) t before out after numbers env mem vars

-- where there is an answer, it is so
abbrev pub Yields : {A : Type 0} → (A → Context → Type 0) → Result (A × Context) Refusal → Type 0
Yields P (Ok p) = P p.0 p.1
Yields P (Err refusal) = Unit {0}

-- a rule for an expression is sound in every context that says of names what a scope does in which the expression is formed,
-- spellable and well typed
abbrev pub IsSound : Expr → Rule ExprOut → Type 0
IsSound e rule =
    (ps : List Param) (scope : Scope) (t : Scalar) (before : Context) → IsConsistent before → IsScoped ps scope before
    → expr_formed e ≡ true → expr_spellable e ≡ true → type_of e scope ≡ Ok t
    → Yields (ExprDone ps scope (eval e) t before) (rule before)

-- with the equations of every book, whatever a derivation gives is right
abbrev pub InstancesAreSound : Type 0
InstancesAreSound = (turn : Turn) → Laws turn → (node : ExprNode) (at : ℕ) (e : Expr) → IsSound e (row turn node at e)
