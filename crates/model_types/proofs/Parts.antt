-- A statement with blocks is checked in parts: before them, the blocks, and behind them.
use Rattle.std.proofs.Common.{ℕ, ◌≡◌, refl, sym, ap, ◌∙◌, List, [], map, Result, Ok, Err}
use Rattle.rup_base.specs.declared.refusal.TypePlace.TheVariants.{Statement}
use Rattle.rup_base.specs.declared.refusal.Refusal.{Refusal}
use Rattle.model_syntax.specs.Answer.{◌>>=◌}
use Rattle.model_syntax.specs.Limits.{next}
use Rattle.model_syntax.specs.Names.{Name}
use Rattle.model_syntax.specs.Scope.{Scope, bind}
use Rattle.model_syntax.specs.ExprType.{type_of, wanted}
use Rattle.model_syntax.specs.Types.{State, Block, at, facts, distinct, distinct_known, counter, in_turn, stmt_step, stmt}
use Rattle.model_syntax.specs.declared.expr.Expr.{Expr}
use Rattle.model_syntax.specs.declared.expr.Scalar.TheVariants.{Word, Flag}
use Rattle.model_syntax.specs.declared.scope.NameType.TheVariants.{Scalar as One}
use Rattle.model_syntax.specs.declared.stmt.Le.{Le}
use Rattle.model_syntax.specs.declared.stmt.Stmt.{Stmt, Stmt-F, map-Stmt, roll-Stmt, fold-roll-Stmt}
use Rattle.model_syntax.specs.declared.stmt.Stmt.TheOpen as s
use Rattle.model_syntax.specs.declared.stmt.Stmt.TheVariants as v
use Rattle.model_types.specs.Placed.{enter_if, leave_if, enter_for, leave_for}

-- questions in turn, then more of them
then_more : {A B C E : Type 0} (first : Result A E) (second : A → Result B E) (more : B → Result C E)
    → (first >>= (λ a. second a >>= more)) ≡ ((first >>= second) >>= more)
then_more (Ok a) second more = refl
then_more (Err fault) second more = refl

-- an `if`, in these parts
unfoldable pub branches : ℕ → Scope → Expr → List Name → List Le → List Block → List Block → Result State Refusal
branches k c test xs keep first second = do
  _ ← enter_if k c test xs
  one ← in_turn first (next k, c)
  two ← in_turn second (one.0, c)
  leave_if k c xs keep one.1 two

-- a `for`, in these parts
unfoldable pub loop : ℕ → Scope → Name → Expr → Expr → List Name → List Le → List Block → Result State Refusal
loop k c x low high xs keep body = do
  inner ← enter_for k c x low high xs keep
  end ← in_turn body (next k, inner)
  leave_for k c xs end

pub if_in_parts : (k : ℕ) (c : Scope) (test : Expr) (xs : List Name) (keep : List Le) (first second : List Block)
    → stmt_step (s.If test xs keep first second) (k, c) ≡ branches k c test xs keep first second
unfolding branches enter_if leave_if
if_in_parts k c test xs keep first second =
    then_more (at (Statement k) (wanted Flag (type_of test c))) (λ _. at (Statement k) (distinct [] xs)) _

-- five questions before the body, then the body
five : {A B C D F G H E : Type 0} (a : Result A E) (b : Result B E) (c : Result C E) (d : Result D E) (f : Result F E) (g : G)
    (more : G → Result H E)
    → (a >>= (λ _. b >>= (λ _. c >>= (λ _. d >>= (λ _. f >>= (λ _. more g))))))
    ≡ ((a >>= (λ _. b >>= (λ _. c >>= (λ _. d >>= (λ _. f >>= (λ _. Ok g)))))) >>= more)
five (Err fault) b c d f g more = refl
five (Ok a) (Err fault) c d f g more = refl
five (Ok a) (Ok b) (Err fault) d f g more = refl
five (Ok a) (Ok b) (Ok c) (Err fault) f g more = refl
five (Ok a) (Ok b) (Ok c) (Ok d) (Err fault) g more = refl
five (Ok a) (Ok b) (Ok c) (Ok d) (Ok f) g more = refl

pub for_in_parts : (k : ℕ) (c : Scope) (x : Name) (low high : Expr) (xs : List Name) (keep : List Le) (body : List Block)
    → stmt_step (s.For x low high xs keep body) (k, c) ≡ loop k c x low high xs keep body
unfolding loop enter_for leave_for
for_in_parts k c x low high xs keep body =
    five (at (Statement k) (counter x xs c)) (at (Statement k) (wanted Word (type_of low c)))
    (at (Statement k) (wanted Word (type_of high c)))
    (at (Statement k) (distinct_known c [] xs)) (at (Statement k) (facts keep (bind x (One Word) c))) (bind x (One Word) c) _

-- the same of a statement of the model

at_stmt : (y : Stmt-F Stmt) (w : Stmt) → roll-Stmt y ≡ w → stmt w ≡ stmt_step (map-Stmt Stmt Block stmt y)
at_stmt y w is = ap stmt (sym is) ∙ fold-roll-Stmt Block stmt_step y

pub if_whole : (w : Stmt) (state : State) (test : Expr) (xs : List Name) (keep : List Le) (first second : List Stmt)
    → w ≡ v.If test xs keep first second
    → branches state.0 state.1 test xs keep (map stmt first) (map stmt second) ≡ stmt w state
if_whole w state test xs keep first second is =
    sym (if_in_parts state.0 state.1 test xs keep (map stmt first) (map stmt second))
    ∙ sym (ap (λ (b : Block). b state)
    (at_stmt (s.If test xs keep first second) w (v.rolls-If test xs keep first second ∙ sym is)))

pub for_whole : (w : Stmt) (state : State) (x : Name) (low high : Expr) (xs : List Name) (keep : List Le) (body : List Stmt)
    → w ≡ v.For x low high xs keep body
    → loop state.0 state.1 x low high xs keep (map stmt body) ≡ stmt w state
for_whole w state x low high xs keep body is =
    sym (for_in_parts state.0 state.1 x low high xs keep (map stmt body))
    ∙ sym (ap (λ (b : Block). b state) (at_stmt (s.For x low high xs keep body) w (v.rolls-For x low high xs keep body ∙ sym is)))
