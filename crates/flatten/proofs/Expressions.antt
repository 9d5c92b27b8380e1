-- The code of an expression gives its value.
use Rattle.std.proofs.Common.{◌≡◌, refl, sym, ap, subst, ◌∙◌, arith, ℕ, ◌+◌, ◌<◌, ◌≤◌, List, [], ◌∷◌, ◌++◌, length, Option, Some}
use Rattle.std.proofs.Common.{None, slice_get}
use Rattle.std.specs.FinMap.{get, insert}
use Rattle.bed_meaning.specs.Fuelled.{fuelled, given}
use Rattle.rv_memory.specs.Ranges.{Bytes}
use Rattle.bed_syntax.specs.Operation.{apply}
use Rattle.bed_syntax.specs.Shape.{expr_locals, expr_locals_step, noted}
use Rattle.bed_syntax.specs.Weight.{expr_weight, expr_weight_step}
use Rattle.bed_syntax.specs.declared.operation.BOp.{BOp}
use Rattle.bed_syntax.specs.declared.operation.Size.{Size}
use Rattle.bed_syntax.specs.declared.weights.Weights.{Weights}
use Rattle.bed_syntax.specs.declared.expression.BExpr.{BExpr, BExpr-F, map-BExpr, roll-BExpr, fold-roll-BExpr, ind-BExpr}
use Rattle.bed_syntax.specs.declared.expression.BExpr.TheOpen as e
use Rattle.bed_meaning.specs.Access.{loaded, entry}
use Rattle.bed_meaning.specs.Locals as bed
use Rattle.bed_meaning.specs.Value.{value, value_step, both, then_some}
use Rattle.flat_lang.specs.State.{Vars}
use Rattle.flat_lang.specs.Meaning.{Rule, sets, run, run_step}
use Rattle.flat_lang.specs.declared.flat.FStmt.{FStmt, fold-roll-FStmt}
use Rattle.flat_lang.specs.declared.flat.FStmt.TheOpen as o
use Rattle.flat_lang.specs.declared.flat.FStmt.TheVariants as f
use Rattle.flatten.specs.Code.{ExprCode, expr_code, expr_step, place}
use Rattle.flatten.proofs.Goes.{Goes, at, goes_both, goes_one}
use Rattle.flatten.proofs.Growth.{Grows, expr_grows}
use Rattle.flatten.proofs.Places.{Known, Extends, extends_through, known_noted}
use Rattle.flatten.proofs.Readings.{get_set, get_other, Has, has_first, has_second, has_last}

-- each local that is set has its value in the variable of its place
abbrev pub Agrees : List ℕ → bed.Vars → Vars → Type 0
Agrees names l v = (x n : ℕ) → Known names x → bed.local_at l x ≡ Some n → get v (place names x) ≡ Some n

-- variables that change above those of the locals
pub agrees_above : (names : List ℕ) (l : bed.Vars) (v v1 : Vars) (to : ℕ) → length names ≤ to
    → ((q : ℕ) → q < to → get v1 q ≡ get v q) → Agrees names l v → Agrees names l v1
agrees_above names l v v1 to h below agrees x n known is = below (place names x) (omega arith) ∙ agrees x n known is

-- code that puts a value into a variable, and changes none below that
pub record Gives (w : Weights) (tables : List (List ℕ)) (fs : List FStmt) (price to : ℕ) (m : Bytes) (v : Vars) (x : ℕ) : Type 0
  where
    pub vars : Vars
    pub goes : Goes w tables fs m v price m vars
    pub gives : get vars to ≡ Some x
    pub below : (q : ℕ) → q < to → get vars q ≡ get v q

-- a value that is there was made of values that are there
both_some : (g : ℕ → ℕ → ℕ) (a b : Option ℕ) (x : ℕ) → both g a b ≡ Some x
    → (p : ℕ) × ((q : ℕ) × ((a ≡ Some p) × (b ≡ Some q) × (g p q ≡ x)))
both_some g None b x h = absurd (let bad : None ≡ Some x = h in cc)
both_some g (Some p) None x h = absurd (let bad : None ≡ Some x = h in cc)
both_some g (Some p) (Some q) x h = (p, (q, (refl, refl, let is : Some (g p q) ≡ Some x = h in cc)))

then_some_some : (a : Option ℕ) (next : ℕ → Option ℕ) (x : ℕ) → then_some a next ≡ Some x
    → (p : ℕ) × ((a ≡ Some p) × (next p ≡ Some x))
then_some_some None next x h = absurd (let bad : None ≡ Some x = h in cc)
then_some_some (Some p) next x h = (p, (refl, h))

module _ (w : Weights) (tables : List (List ℕ)) (names : List ℕ) where
  run_lit : (x n : ℕ) → run w tables (f.Lit x n) ≡ fuelled (λ s. sets w.literal x n s)
  run_lit x n = ap (run w tables) (sym (f.rolls-Lit x n)) ∙ fold-roll-FStmt Rule (run_step w tables) (o.Lit x n)

  pub run_copy : (x y : ℕ) → run w tables (f.Copy x y) ≡ fuelled (λ s. given (get s.vars y) (λ v. sets w.variable x v s))
  run_copy x y = ap (run w tables) (sym (f.rolls-Copy x y)) ∙ fold-roll-FStmt Rule (run_step w tables) (o.Copy x y)

  run_bin : (op : BOp) (x y z : ℕ)
      → run w tables (f.Bin op x y z)
      ≡ fuelled (λ s. given (get s.vars y) (λ a. given (get s.vars z) (λ b. sets w.operation x (apply op a b) s)))
  run_bin op x y z = ap (run w tables) (sym (f.rolls-Bin op x y z)) ∙ fold-roll-FStmt Rule (run_step w tables) (o.Bin op x y z)

  run_load : (size : Size) (x y : ℕ)
      → run w tables (f.Load size x y)
      ≡ fuelled (λ s. given (get s.vars y) (λ a. given (loaded size s.mem a) (λ v. sets w.load x v s)))
  run_load size x y = ap (run w tables) (sym (f.rolls-Load size x y)) ∙ fold-roll-FStmt Rule (run_step w tables) (o.Load size x y)

  run_table : (size : Size) (x k y : ℕ) → run w tables (f.Table size x k y)
      ≡ fuelled (λ s. given (get s.vars y)
      (λ a. given (slice_get tables k) (λ bytes. given (entry size bytes a) (λ v. sets w.table x v s))))
  run_table size x k y = ap (run w tables) (sym (f.rolls-Table size x k y))
      ∙ fold-roll-FStmt Rule (run_step w tables) (o.Table size x k y)

  -- one statement that sets a variable
  gives_one : (s : FStmt) (rule : Rule) (price to : ℕ) (m : Bytes) (v : Vars) (x : ℕ) → run w tables s ≡ fuelled rule
      → ((j u : ℕ) → rule (at j u m v) ≡ sets price to x (at j u m v))
      → Gives w tables (s ∷ []) price to m v x
  gives_one s rule price to m v x opened does =
      record {
        vars = insert v to x;
        goes = goes_one w tables s rule m m v (insert v to x) price opened does;
        gives = get_set v to x;
        below = λ q h. get_other v to x q (omega arith);
      }

  -- one such statement behind code that gave a value
  gives_then : (fs : List FStmt) (s : FStmt) (rule : Rule) (price last to : ℕ) (m : Bytes) (v : Vars) (x y : ℕ)
      (a : Gives w tables fs price to m v x)
      → run w tables s ≡ fuelled rule → ((j u : ℕ) → rule (at j u m a.vars) ≡ sets last to y (at j u m a.vars))
      → Gives w tables (fs ++ s ∷ []) (price + last) to m v y
  gives_then fs s rule price last to m v x y a opened does =
      let b : Gives w tables (s ∷ []) last to m a.vars y = gives_one s rule last to m a.vars y opened does in
      record {
        vars = b.vars;
        goes = goes_both w tables fs (s ∷ []) m m m v a.vars b.vars price last a.goes b.goes;
        gives = b.gives;
        below = λ q h. b.below q h ∙ a.below q h;
      }

  abbrev pub Right : (Bytes → bed.Vars → Option ℕ) → ℕ → ExprCode → (List ℕ → List ℕ) → Type 0
  Right val price code locals =
      (ms : List ℕ) (to k : ℕ) (m : Bytes) (l : bed.Vars) (v : Vars) (x : ℕ) → val m l ≡ Some x → Extends (locals ms) names
      → length names ≤ to → Agrees names l v
      → Has tables k code.tables → Gives w tables (code.code to k) price to m v x

  lit_right : (n : ℕ) → Right (λ m l. Some n) w.literal (record { tables = []; code = λ to k. f.Lit to n ∷ [] }) (λ ms. ms)
  lit_right n ms to k m l v x is named room agrees has =
      let same : n ≡ x = let given_is : Some n ≡ Some x = is in cc in
      subst (λ r. Gives w tables (f.Lit to n ∷ []) w.literal to m v r) same
      (gives_one (f.Lit to n) (λ s. sets w.literal to n s) w.literal to m v n (run_lit to n) (λ j u. refl))

  var_right : (y : ℕ) → Right (λ m l. bed.local_at l y) w.variable
      (record { tables = []; code = λ to k. f.Copy to (place names y) ∷ [] }) (λ ms. noted y ms)
  var_right y ms to k m l v x is named room agrees has =
      let read : get v (place names y) ≡ Some x = agrees y x (named y (known_noted y ms)).0 is in
      gives_one (f.Copy to (place names y)) (λ s. given (get s.vars (place names y)) (λ a. sets w.variable to a s)) w.variable to
      m v x (run_copy to (place names y))
      (λ j u. ap (λ q. given q (λ a. sets w.variable to a (at j u m v))) read)

  load_right : (size : Size) (va : Bytes → bed.Vars → Option ℕ) (pa : ℕ) (ca : ExprCode) (la : List ℕ → List ℕ)
      → Right va pa ca la
      → Right (λ m l. then_some (va m l) (loaded size m)) (pa + w.load)
      (record { tables = ca.tables; code = λ to k. ca.code to k ++ f.Load size to to ∷ [] }) la
  load_right size va pa ca la right ms to k m l v x is named room agrees has =
      let parts = then_some_some (va m l) (loaded size m) x is in
      let a : Gives w tables (ca.code to k) pa to m v parts.0 = right ms to k m l v parts.0 parts.1.0 named room agrees has in
      gives_then (ca.code to k) (f.Load size to to)
      (λ s. given (get s.vars to) (λ q. given (loaded size s.mem q) (λ r. sets w.load to r s))) pa w.load to m v parts.0 x a
      (run_load size to to)
      (λ j u. ap (λ q. given q (λ r. given (loaded size m r) (λ i. sets w.load to i (at j u m a.vars)))) a.gives
      ∙ ap (λ q. given q (λ i. sets w.load to i (at j u m a.vars))) parts.1.1)

  table_right : (size : Size) (bytes : List ℕ) (va : Bytes → bed.Vars → Option ℕ) (pa : ℕ) (ca : ExprCode) (la : List ℕ → List ℕ)
      → Right va pa ca la
      → Right (λ m l. then_some (va m l) (entry size bytes)) (pa + w.table)
      (record { tables = ca.tables ++ bytes ∷ []; code = λ to k. ca.code to k ++ f.Table size to (k + length ca.tables) to ∷ [] })
      la
  table_right size bytes va pa ca la right ms to k m l v x is named room agrees has =
      let parts = then_some_some (va m l) (entry size bytes) x is in
      let table : slice_get tables (k + length ca.tables) ≡ Some bytes = has_last tables k ca.tables bytes has in
      let a : Gives w tables (ca.code to k) pa to m v parts.0 =
      right ms to k m l v parts.0 parts.1.0 named room agrees (has_first tables k ca.tables (bytes ∷ []) has) in
      gives_then (ca.code to k) (f.Table size to (k + length ca.tables) to)
      (λ s. given (get s.vars to) (λ q. given (slice_get tables (k + length ca.tables))
      (λ t. given (entry size t q) (λ r. sets w.table to r s)))) pa w.table to m v parts.0 x a
      (run_table size to (k + length ca.tables) to)
      (λ j u.
      ap (λ q. given q (λ r. given (slice_get tables (k + length ca.tables))
      (λ t. given (entry size t r) (λ i. sets w.table to i (at j u m a.vars))))) a.gives
      ∙ ap (λ q. given q (λ t. given (entry size t parts.0) (λ i. sets w.table to i (at j u m a.vars)))) table
      ∙ ap (λ q. given q (λ i. sets w.table to i (at j u m a.vars))) parts.1.1)

  bin_right : (op : BOp) (va vb : Bytes → bed.Vars → Option ℕ) (pa pb : ℕ) (ca cb : ExprCode) (la lb : List ℕ → List ℕ)
      → Grows lb → Right va pa ca la → Right vb pb cb lb
      → Right (λ m l. both (apply op) (va m l) (vb m l)) (pa + pb + w.operation)
      (record {
        tables = ca.tables ++ cb.tables;
        code = λ to k. ca.code to k ++ (cb.code (to + 1) (k + length ca.tables) ++ f.Bin op to to (to + 1) ∷ []);
      })
      (λ ms. lb (la ms))
  bin_right op va vb pa pb ca cb la lb grows right_a right_b ms to k m l v x is named room agrees has =
      let parts = both_some (apply op) (va m l) (vb m l) x is in
      let p : ℕ = parts.0 in
      let q : ℕ = parts.1.0 in
      let next : ℕ = k + length ca.tables in
      let a : Gives w tables (ca.code to k) pa to m v p =
      right_a ms to k m l v p parts.1.1.0 (extends_through (la ms) (lb (la ms)) names (grows (la ms)) named) room agrees
      (has_first tables k ca.tables cb.tables has) in
      let b : Gives w tables (cb.code (to + 1) next) pb (to + 1) m a.vars q =
      right_b (la ms) (to + 1) next m l a.vars q parts.1.1.1 named (omega arith)
      (agrees_above names l v a.vars to room a.below agrees) (has_second tables k ca.tables cb.tables has) in
      let first : get b.vars to ≡ Some p = b.below to (omega arith) ∙ a.gives in
      let c : Gives w tables (f.Bin op to to (to + 1) ∷ []) w.operation to m b.vars (apply op p q) =
      gives_one (f.Bin op to to (to + 1))
      (λ s. given (get s.vars to) (λ i. given (get s.vars (to + 1)) (λ j. sets w.operation to (apply op i j) s))) w.operation
      to m b.vars (apply op p q)
      (run_bin op to to (to + 1))
      (λ j u.
      ap (λ r. given r (λ i. given (get b.vars (to + 1)) (λ z. sets w.operation to (apply op i z) (at j u m b.vars)))) first
      ∙ ap (λ r. given r (λ z. sets w.operation to (apply op p z) (at j u m b.vars))) b.gives) in
      let last : List FStmt = f.Bin op to to (to + 1) ∷ [] in
      let goes : Goes w tables (ca.code to k ++ (cb.code (to + 1) next ++ last)) m v (pa + (pb + w.operation)) m c.vars =
      goes_both w tables (ca.code to k) (cb.code (to + 1) next ++ last) m m m v a.vars c.vars pa (pb + w.operation) a.goes
      (goes_both w tables (cb.code (to + 1) next) last m m m a.vars b.vars c.vars pb w.operation b.goes c.goes) in
      let price : pa + (pb + w.operation) ≡ pa + pb + w.operation = omega arith in
      record {
        vars = c.vars;
        goes = subst (λ t. Goes w tables (ca.code to k ++ (cb.code (to + 1) next ++ last)) m v t m c.vars) price goes;
        gives = c.gives ∙ ap (λ r. Some r) parts.1.1.2;
        below = λ z h. c.below z h ∙ b.below z (omega arith) ∙ a.below z h;
      }

  -- the claim of an expression
  abbrev pub ExprRight : BExpr → Type 0
  ExprRight a = Right (value a) (expr_weight w a) (expr_code names a) (expr_locals a)

  abbrev Proved : Type 0
  Proved = (a : BExpr) × ExprRight a

  abbrev bare : BExpr-F Proved → BExpr-F BExpr
  bare y = map-BExpr Proved BExpr (λ p. p.0) y

  abbrev StepRight : BExpr-F BExpr → Type 0
  StepRight y =
      Right (value_step (map-BExpr BExpr (Bytes → bed.Vars → Option ℕ) value y))
      (expr_weight_step w (map-BExpr BExpr ℕ (expr_weight w) y))
      (expr_step names (map-BExpr BExpr ExprCode (expr_code names) y))
      (expr_locals_step (map-BExpr BExpr (List ℕ → List ℕ) expr_locals y))

  step_right : (y : BExpr-F Proved) → StepRight (bare y)
  step_right (e.Lit n) = lit_right n
  step_right (e.Var x) = var_right x
  step_right (e.Bin op a b) =
      bin_right op (value a.0) (value b.0) (expr_weight w a.0) (expr_weight w b.0) (expr_code names a.0) (expr_code names b.0)
      (expr_locals a.0) (expr_locals b.0) (expr_grows b.0) a.1 b.1
  step_right (e.Load size a) = load_right size (value a.0) (expr_weight w a.0) (expr_code names a.0) (expr_locals a.0) a.1
  step_right (e.Table size bytes a) =
      table_right size bytes (value a.0) (expr_weight w a.0) (expr_code names a.0) (expr_locals a.0) a.1

  rolled : (y : BExpr-F BExpr) → StepRight y → ExprRight (roll-BExpr y)
  rolled y h =
      rw (
        fold-roll-BExpr (Bytes → bed.Vars → Option ℕ) value_step y,
        fold-roll-BExpr ℕ (expr_weight_step w) y,
        fold-roll-BExpr ExprCode (expr_step names) y,
        fold-roll-BExpr (List ℕ → List ℕ) expr_locals_step y,
      ) h

  pub expr_right : (a : BExpr) → ExprRight a
  expr_right = ind-BExpr ExprRight (λ z y is. subst (λ r. ExprRight (roll-BExpr r)) is (rolled (bare y) (step_right y)))
