-- Well typed statements are narrow: typing asks that both sides of each kept fact keep the limits of linear forms over names.
use Rattle.std.proofs.Common.{◌≡◌, refl, subst, ℕ, Bool, true, false, ◌&&◌, List, [], ◌∷◌, map, Ok}
use Rattle.rup_base.specs.declared.refusal.TypePlace.TheVariants.{Params, Statement}
use Rattle.model_syntax.specs.Limits.{next}
use Rattle.model_syntax.specs.Linear.{linear, is_narrow}
use Rattle.model_syntax.specs.Names.{Name}
use Rattle.model_syntax.specs.Scope.{Scope, bind}
use Rattle.model_syntax.specs.ExprType.{type_of, wanted}
use Rattle.model_syntax.specs.Types as types
use Rattle.model_syntax.specs.declared.expr.Expr.{Expr}
use Rattle.model_syntax.specs.declared.expr.Scalar.TheVariants.{Word, Flag}
use Rattle.model_syntax.specs.declared.program.Model.{Model}
use Rattle.model_syntax.specs.declared.scope.NameType.TheVariants.{Scalar as One}
use Rattle.model_syntax.specs.declared.stmt.Le.{Le}
use Rattle.model_syntax.specs.declared.stmt.Stmt.{Stmt, Stmt-F, map-Stmt, roll-Stmt, fold-roll-Stmt, ind-Stmt}
use Rattle.model_syntax.specs.declared.stmt.Stmt.TheOpen as s
use Rattle.model_syntax.proofs.laws.Answered.{first_answered, at_answered}
use Rattle.stmt_rules.specs.Narrow.{all_narrow, narrow_step, narrow, are_narrow}

both : {a b : Bool} → a ≡ true → b ≡ true → (a && b) ≡ true
both {a = true} {b = b} p q = q
both {a = false} {b = b} p q = absurd (cc)

-- Kept facts.

fact_narrow : (r : Le) (c : Scope) → types.fact r c ≡ Ok tt → is_narrow r ≡ true
fact_narrow r c is =
    let one = first_answered (types.names_scalars r.low c) _ tt is in
    let two = first_answered (types.names_scalars r.high c) _ tt one.1.1 in
    let three = first_answered (linear r.low) _ tt two.1.1 in
    let four = first_answered (linear r.high) _ tt three.1.1 in
    rw (three.1.0, four.1.0) refl

facts_narrow : (rs : List Le) (c : Scope) → types.facts rs c ≡ Ok tt → all_narrow rs ≡ true
facts_narrow [] c is = refl
facts_narrow (r ∷ rs) c is =
    let one = first_answered (types.fact r c) (λ u. types.facts rs c) tt is in
    both (fact_narrow r c one.1.0) (facts_narrow rs c one.1.1)

-- Statements.

abbrev IsNarrow : Stmt → Type 0
IsNarrow t = (k : ℕ) (c : Scope) (after : types.State) → types.stmt t (k, c) ≡ Ok after → narrow t ≡ true

abbrev Proved : Type 0
Proved = (t : Stmt) × IsNarrow t

abbrev bare : List Proved → List Stmt
bare ys = map (λ p. p.0) ys

block_narrow : (ys : List Proved) (k : ℕ) (c : Scope) (after : types.State)
    → types.in_turn (map types.stmt (bare ys)) (k, c) ≡ Ok after → are_narrow (bare ys) ≡ true
block_narrow [] k c after is = refl
block_narrow (y ∷ ys) k c after is =
    let one = first_answered (types.stmt y.0 (k, c)) (types.in_turn (map types.stmt (bare ys))) after is in
    both (y.1 k c one.0 one.1.0) (block_narrow ys one.0.0 one.0.1 after one.1.1)

if_narrow : (test : Expr) (xs : List Name) (keep : List Le) (first second : List Proved) (k : ℕ) (c : Scope) (after : types.State)
    → types.stmt_step (s.If test xs keep (map types.stmt (bare first)) (map types.stmt (bare second))) (k, c) ≡ Ok after
    → (all_narrow keep && are_narrow (bare first) && are_narrow (bare second)) ≡ true
if_narrow test xs keep first second k c after is =
    let one = first_answered (types.at (Statement k) (wanted Flag (type_of test c))) _ after is in
    let two = first_answered (types.at (Statement k) (types.distinct [] xs)) _ after one.1.1 in
    let three = first_answered (types.in_turn (map types.stmt (bare first)) (next k, c)) _ after two.1.1 in
    let four = first_answered (types.in_turn (map types.stmt (bare second)) (three.0.0, c)) _ after three.1.1 in
    let five = first_answered (types.at (Statement k) (types.joined xs three.0.1 four.0.1 c)) _ after four.1.1 in
    let six = first_answered (types.at (Statement k) (types.facts keep five.0)) _ after five.1.1 in
    let kept = at_answered (Statement k) (types.facts keep five.0) six.0 six.1.0 in
    both (both (facts_narrow keep five.0 kept) (block_narrow first (next k) c three.0 three.1.0))
    (block_narrow second three.0.0 c four.0 four.1.0)

for_narrow : (x : Name) (low high : Expr) (xs : List Name) (keep : List Le) (body : List Proved) (k : ℕ) (c : Scope)
    (after : types.State)
    → types.stmt_step (s.For x low high xs keep (map types.stmt (bare body))) (k, c) ≡ Ok after
    → (all_narrow keep && are_narrow (bare body)) ≡ true
for_narrow x low high xs keep body k c after is =
    let one = first_answered (types.at (Statement k) (types.counter x xs c)) _ after is in
    let two = first_answered (types.at (Statement k) (wanted Word (type_of low c))) _ after one.1.1 in
    let three = first_answered (types.at (Statement k) (wanted Word (type_of high c))) _ after two.1.1 in
    let four = first_answered (types.at (Statement k) (types.distinct_known c [] xs)) _ after three.1.1 in
    let inside : Scope = bind x (One Word) c in
    let five = first_answered (types.at (Statement k) (types.facts keep inside)) _ after four.1.1 in
    let kept = at_answered (Statement k) (types.facts keep inside) five.0 five.1.0 in
    let six = first_answered (types.in_turn (map types.stmt (bare body)) (next k, inside)) _ after five.1.1 in
    both (facts_narrow keep inside kept) (block_narrow body (next k) inside six.0 six.1.0)

abbrev open_ : Stmt-F Proved → Stmt-F Stmt
open_ y = map-Stmt Proved Stmt (λ p. p.0) y

abbrev StepNarrow : Stmt-F Stmt → Type 0
StepNarrow y =
    (k : ℕ) (c : Scope) (after : types.State) → types.stmt_step (map-Stmt Stmt types.Block types.stmt y) (k, c) ≡ Ok after
    → narrow_step (map-Stmt Stmt Bool narrow y) ≡ true

step_narrow : (y : Stmt-F Proved) → StepNarrow (open_ y)
step_narrow (s.Let x a) k c after is = refl
step_narrow (s.Put a i v) k c after is = refl
step_narrow (s.Move b a i v) k c after is = refl
step_narrow (s.If test xs keep first second) k c after is = if_narrow test xs keep first second k c after is
step_narrow (s.For x low high xs keep body) k c after is = for_narrow x low high xs keep body k c after is
step_narrow (s.Map a x v) k c after is = refl
step_narrow (s.Fold t a x v) k c after is = refl

rolled : (y : Stmt-F Stmt) → StepNarrow y → IsNarrow (roll-Stmt y)
rolled y h = rw (fold-roll-Stmt types.Block types.stmt_step y, fold-roll-Stmt Bool narrow_step y) h

pub statement_narrow : (t : Stmt) → IsNarrow t
statement_narrow = ind-Stmt IsNarrow (λ z y is. subst (λ r. IsNarrow (roll-Stmt r)) is (rolled (open_ y) (step_narrow y)))

-- the statements of a block, one after another
pub statements_narrow : (ts : List Stmt) (k : ℕ) (c : Scope) (after : types.State)
    → types.in_turn (map types.stmt ts) (k, c) ≡ Ok after → are_narrow ts ≡ true
statements_narrow [] k c after is = refl
statements_narrow (t ∷ ts) k c after is =
    let one = first_answered (types.stmt t (k, c)) (types.in_turn (map types.stmt ts)) after is in
    both (statement_narrow t k c one.0 one.1.0) (statements_narrow ts one.0.0 one.0.1 after one.1.1)

-- the statements of a well typed model
pub model_narrow : (m : Model) → types.Well m → are_narrow m.body ≡ true
model_narrow m well =
    let start = first_answered (types.at Params (types.declare_params m.params [])) _ tt well in
    let required = first_answered (types.requirements 0 m.requires_ start.0) _ tt start.1.1 in
    let end_ = first_answered (types.in_turn (map types.stmt m.body) (0, start.0)) _ tt required.1.1 in
    statements_narrow m.body 0 start.0 end_.0 end_.1.0
