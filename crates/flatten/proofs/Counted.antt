-- The code of a command names what the command names, weighs as much, has no more statements than the command has nodes,
-- and has its tables.
use Rattle.std.proofs.Common.{◌≡◌, refl, sym, ap, subst, ◌∙◌, arith, ℕ, ◌+◌, ◌≤◌, List, [], ◌∷◌, ◌++◌, append_assoc, append-nil}
use Rattle.std.proofs.Common.{length, map, sum}
use Rattle.std.proofs.lemmas.List.{map-append}
use Rattle.std.proofs.lemmas.List.Sums.{sum_by-append}
use Rattle.bed_syntax.specs.Named.{Name, op_names, load_names, expr_names, expr_names_step}
use Rattle.bed_syntax.specs.Shape.{expr_size, expr_size_step}
use Rattle.bed_syntax.specs.Weight.{expr_weight, expr_weight_step}
use Rattle.bed_syntax.specs.declared.weights.Weights.{Weights}
use Rattle.bed_syntax.specs.declared.expression.BExpr.{BExpr, BExpr-F, map-BExpr, roll-BExpr, fold-roll-BExpr, ind-BExpr}
use Rattle.bed_syntax.specs.declared.expression.BExpr.TheOpen as e
use Rattle.flat_lang.specs.Count.{stmt_names, stmt_names_step, code_names, stmt_weight, stmt_weight_step, code_weight, stmt_size}
use Rattle.flat_lang.specs.Count.{stmt_size_step, code_size}
use Rattle.flat_lang.specs.declared.flat.FStmt.{FStmt, FStmt-F, map-FStmt, fold-roll-FStmt, roll-FStmt}
use Rattle.flat_lang.specs.declared.flat.FStmt.TheOpen as o
use Rattle.flat_lang.specs.declared.flat.FStmt.TheVariants as f
use Rattle.flatten.specs.Code.{ExprCode, expr_code, expr_step, CmdCode, place}
use Rattle.bed_syntax.specs.Tables.{expr_tables, expr_tables_step}

code_names_joined : (a b : List FStmt) → code_names (a ++ b) ≡ code_names a ++ code_names b
code_names_joined [] b = refl
code_names_joined (s ∷ a) b = ap (λ r. stmt_names s ++ r) (code_names_joined a b)
    ∙ sym (append_assoc (stmt_names s) (code_names a) (code_names b))

code_size_joined : (a b : List FStmt) → code_size (a ++ b) ≡ code_size a + code_size b
code_size_joined a b = ap sum (map-append stmt_size a b) ∙ sum_by-append (λ n. n) (map stmt_size a) (map stmt_size b)

module _ (w : Weights) (same : w.variable ≡ w.set) where
  code_weight_joined : (a b : List FStmt) → code_weight w (a ++ b) ≡ code_weight w a + code_weight w b
  code_weight_joined a b = ap sum (map-append (stmt_weight w) a b)
      ∙ sum_by-append (λ n. n) (map (stmt_weight w) a) (map (stmt_weight w) b)

  -- what is counted of statements
  pub record Counts (fs : List FStmt) (named : List Name) (heavy many : ℕ) : Type 0 where
    pub names : code_names fs ≡ named
    pub weight : code_weight w fs ≡ heavy
    pub size : code_size fs ≤ many

  pub none_counts : Counts [] [] 0 0
  none_counts = record { names = refl; weight = refl; size = omega arith }

  pub both_count : (a b : List FStmt) (na nb : List Name) (wa wb sa sb : ℕ) → Counts a na wa sa → Counts b nb wb sb
      → Counts (a ++ b) (na ++ nb) (wa + wb) (sa + sb)
  both_count a b na nb wa wb sa sb x y =
      let n : code_names (a ++ b) ≡ code_names a ++ code_names b = code_names_joined a b in
      let h : code_weight w (a ++ b) ≡ code_weight w a + code_weight w b = code_weight_joined a b in
      let s : code_size (a ++ b) ≡ code_size a + code_size b = code_size_joined a b in
      let nx = x.names in
      let ny = y.names in
      let hx = x.weight in
      let hy = y.weight in
      let sx = x.size in
      let sy = y.size in
      record { names = cc; weight = omega arith; size = omega arith }

  -- a statement by its layer
  one_counts : (s : FStmt) (y : FStmt-F FStmt) (named : List Name) (heavy many : ℕ) → roll-FStmt y ≡ s
      → stmt_names (roll-FStmt y) ≡ named → stmt_weight w (roll-FStmt y) ≡ heavy
      → stmt_size (roll-FStmt y) ≤ many → Counts (s ∷ []) named heavy many
  one_counts s y named heavy many is n h m =
      subst (λ r. Counts (r ∷ []) named heavy many) is
      (let e : 0 + stmt_weight w (roll-FStmt y) ≡ heavy = omega arith in
      let l : 0 + stmt_size (roll-FStmt y) ≤ many = omega arith in
      record { names = append-nil (stmt_names (roll-FStmt y)) ∙ n; weight = e; size = l })

  pub leaf_counts : (s : FStmt) (y : FStmt-F FStmt) (named : List Name) (heavy : ℕ) → roll-FStmt y ≡ s
      → stmt_names_step (map-FStmt FStmt (List Name) stmt_names y) ≡ named
      → stmt_weight_step w (map-FStmt FStmt ℕ (stmt_weight w) y) ≡ heavy
      → stmt_size_step (map-FStmt FStmt ℕ stmt_size y) ≡ 1 → Counts (s ∷ []) named heavy 1
  leaf_counts s y named heavy is n h m =
      let size : stmt_size (roll-FStmt y) ≡ 1 = fold-roll-FStmt ℕ stmt_size_step y ∙ m in
      one_counts s y named heavy 1 is (fold-roll-FStmt (List Name) stmt_names_step y ∙ n)
      (fold-roll-FStmt ℕ (stmt_weight_step w) y ∙ h) (omega arith)

  pub if_counts : (x : ℕ) (a b : List FStmt) (na nb : List Name) (wa wb sa sb : ℕ) → Counts a na wa sa → Counts b nb wb sb
      → Counts (f.If x a b ∷ []) (na ++ nb) (w.test + (wa + wb)) (1 + (sa + sb))
  if_counts x a b na nb wa wb sa sb p q =
      let n : code_names a ++ code_names b ≡ na ++ nb = ap (λ r. r ++ code_names b) p.names ∙ ap (λ r. na ++ r) q.names in
      let h : w.test + (code_weight w a + code_weight w b) ≡ w.test + (wa + wb) = let e = p.weight in let l = q.weight in cc in
      let s : stmt_size (roll-FStmt (o.If x a b)) ≡ 1 + (code_size a + code_size b) =
      fold-roll-FStmt ℕ stmt_size_step (o.If x a b) in
      let e : code_size a ≤ sa = p.size in
      let l : code_size b ≤ sb = q.size in
      one_counts (f.If x a b) (o.If x a b) (na ++ nb) (w.test + (wa + wb)) (1 + (sa + sb)) (f.rolls-If x a b)
      (fold-roll-FStmt (List Name) stmt_names_step (o.If x a b) ∙ n)
      (fold-roll-FStmt ℕ (stmt_weight_step w) (o.If x a b) ∙ h) (omega arith)

  pub while_counts : (x : ℕ) (a b : List FStmt) (na nb : List Name) (wa wb sa sb : ℕ) → Counts a na wa sa → Counts b nb wb sb
      → Counts (f.While a x b ∷ []) (na ++ nb) (wa + (w.turn + wb)) (1 + (sa + sb))
  while_counts x a b na nb wa wb sa sb p q =
      let n : code_names a ++ code_names b ≡ na ++ nb = ap (λ r. r ++ code_names b) p.names ∙ ap (λ r. na ++ r) q.names in
      let h : code_weight w a + (w.turn + code_weight w b) ≡ wa + (w.turn + wb) = let e = p.weight in let l = q.weight in cc in
      let s : stmt_size (roll-FStmt (o.While a x b)) ≡ 1 + (code_size a + code_size b) =
      fold-roll-FStmt ℕ stmt_size_step (o.While a x b) in
      let e : code_size a ≤ sa = p.size in
      let l : code_size b ≤ sb = q.size in
      one_counts (f.While a x b) (o.While a x b) (na ++ nb) (wa + (w.turn + wb)) (1 + (sa + sb)) (f.rolls-While a x b)
      (fold-roll-FStmt (List Name) stmt_names_step (o.While a x b) ∙ n)
      (fold-roll-FStmt ℕ (stmt_weight_step w) (o.While a x b) ∙ h) (omega arith)

  -- the same numbers in another order
  pub recounted : (fs : List FStmt) (na nb : List Name) (wa wb sa sb : ℕ) → na ≡ nb → wa ≡ wb → sa ≤ sb → Counts fs na wa sa
      → Counts fs nb wb sb
  recounted fs na nb wa wb sa sb n h s x =
      let e : code_size fs ≤ sa = x.size in
      record { names = x.names ∙ n; weight = x.weight ∙ h; size = omega arith }

  -- one more statement behind the code of an expression
  pub then_one : (fs : List FStmt) (s : FStmt) (named last : List Name) (heavy price many : ℕ) → Counts fs named heavy many
      → Counts (s ∷ []) last price 1
      → Counts (fs ++ s ∷ []) (named ++ last) (heavy + price) (1 + many)
  then_one fs s named last heavy price many a b =
      recounted (fs ++ s ∷ []) (named ++ last) (named ++ last) (heavy + price) (heavy + price) (many + 1) (1 + many) refl refl
      (omega arith)
      (both_count fs (s ∷ []) named last heavy price many 1 a b)

  pub record ExprCounts (code : ExprCode) (named : List Name) (heavy many : ℕ) (listed : List (List ℕ)) : Type 0 where
    pub counts : (to k : ℕ) → Counts (code.code to k) named heavy many
    pub tables : code.tables ≡ listed

  pub record CmdCounts (code : CmdCode) (named : List Name) (heavy many : ℕ) (listed : List (List ℕ)) : Type 0 where
    pub counts : (k : ℕ) → Counts (code.code k) named heavy many
    pub tables : code.tables ≡ listed

  module _ (names : List ℕ) where
    abbrev ExprSame : BExpr → Type 0
    ExprSame a = ExprCounts (expr_code names a) (expr_names a) (expr_weight w a) (expr_size a) (expr_tables a)

    abbrev ExprProved : Type 0
    ExprProved = (a : BExpr) × ExprSame a

    abbrev bare_expr : BExpr-F ExprProved → BExpr-F BExpr
    bare_expr y = map-BExpr ExprProved BExpr (λ p. p.0) y

    abbrev ExprStepSame : BExpr-F BExpr → Type 0
    ExprStepSame y =
        ExprCounts (expr_step names (map-BExpr BExpr ExprCode (expr_code names) y))
        (expr_names_step (map-BExpr BExpr (List Name) expr_names y))
        (expr_weight_step w (map-BExpr BExpr ℕ (expr_weight w) y)) (expr_size_step (map-BExpr BExpr ℕ expr_size y))
        (expr_tables_step (map-BExpr BExpr (List (List ℕ)) expr_tables y))

    expr_step_same : (y : BExpr-F ExprProved) → ExprStepSame (bare_expr y)
    expr_step_same (e.Lit n) = record
        { counts = λ to k. leaf_counts (f.Lit to n) (o.Lit to n) [] w.literal (f.rolls-Lit to n) refl refl refl; tables = refl }
    expr_step_same (e.Var x) =
        record {
          counts = λ to k. leaf_counts (f.Copy to (place names x)) (o.Copy to (place names x)) [] w.variable
              (f.rolls-Copy to (place names x)) refl refl refl;
          tables = refl;
        }
    expr_step_same (e.Bin op a b) =
        record {
          counts = λ to k.
              let next : ℕ = k + length (expr_code names a.0).tables in
              let fs : List FStmt = (expr_code names a.0).code to k in
              let gs : List FStmt = (expr_code names b.0).code (to + 1) next in
              let last : List FStmt = f.Bin op to to (to + 1) ∷ [] in
              let rest : Counts (gs ++ last) (expr_names b.0 ++ op_names op) (expr_weight w b.0 + w.operation)
              (1 + expr_size b.0) =
              then_one gs (f.Bin op to to (to + 1)) (expr_names b.0) (op_names op) (expr_weight w b.0) w.operation (expr_size b.0)
              (b.1.counts (to + 1) next)
              (leaf_counts (f.Bin op to to (to + 1)) (o.Bin op to to (to + 1)) (op_names op) w.operation
              (f.rolls-Bin op to to (to + 1)) refl refl refl) in
              recounted (fs ++ (gs ++ last)) (expr_names a.0 ++ (expr_names b.0 ++ op_names op))
              (expr_names a.0 ++ (expr_names b.0 ++ op_names op))
              (expr_weight w a.0 + (expr_weight w b.0 + w.operation)) (expr_weight w a.0 + expr_weight w b.0 + w.operation)
              (expr_size a.0 + (1 + expr_size b.0)) (1 + (expr_size a.0 + expr_size b.0)) refl
              (omega arith) (omega arith)
              (both_count fs (gs ++ last) (expr_names a.0) (expr_names b.0 ++ op_names op) (expr_weight w a.0)
              (expr_weight w b.0 + w.operation) (expr_size a.0) (1 + expr_size b.0) (a.1.counts to k)
              rest);
          tables = ap (λ r. r ++ (expr_code names b.0).tables) a.1.tables ∙ ap (λ r. expr_tables a.0 ++ r) b.1.tables;
        }
    expr_step_same (e.Load size a) =
        record {
          counts = λ to k.
              then_one ((expr_code names a.0).code to k) (f.Load size to to) (expr_names a.0) (load_names size)
              (expr_weight w a.0) w.load (expr_size a.0) (a.1.counts to k)
              (leaf_counts (f.Load size to to) (o.Load size to to) (load_names size) w.load (f.rolls-Load size to to) refl refl
              refl);
          tables = a.1.tables;
        }
    expr_step_same (e.Table size bytes a) =
        record {
          counts = λ to k.
              let number : ℕ = k + length (expr_code names a.0).tables in
              then_one ((expr_code names a.0).code to k) (f.Table size to number to) (expr_names a.0) (load_names size)
              (expr_weight w a.0) w.table (expr_size a.0) (a.1.counts to k)
              (leaf_counts (f.Table size to number to) (o.Table size to number to) (load_names size) w.table
              (f.rolls-Table size to number to) refl refl refl);
          tables = ap (λ r. r ++ bytes ∷ []) a.1.tables;
        }

    expr_rolled : (y : BExpr-F BExpr) → ExprStepSame y → ExprSame (roll-BExpr y)
    expr_rolled y h =
        rw (
          fold-roll-BExpr ExprCode (expr_step names) y,
          fold-roll-BExpr (List Name) expr_names_step y,
          fold-roll-BExpr ℕ (expr_weight_step w) y,
          fold-roll-BExpr ℕ expr_size_step y,
          fold-roll-BExpr (List (List ℕ)) expr_tables_step y,
        ) h

    pub expr_same : (a : BExpr) → ExprSame a
    expr_same = ind-BExpr ExprSame
        (λ z y is. subst (λ r. ExprSame (roll-BExpr r)) is (expr_rolled (bare_expr y) (expr_step_same y)))
