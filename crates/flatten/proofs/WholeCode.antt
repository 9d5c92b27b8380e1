-- The code of a command is whole.
use Rattle.std.proofs.Common.{◌≡◌, refl, ap, subst, ◌∙◌, sym, arith, ℕ, ◌+◌, ◌≤◌, max, Bool, true, false, ◌&&◌, nat_lt, List, []}
use Rattle.std.proofs.Common.{◌∷◌, ◌++◌, length, length-append, map}
use Rattle.std.proofs.lemmas.Bool.{lt-ltb}
use Rattle.rup_base.specs.Gather.{greatest}
use Rattle.bed_syntax.specs.Shape.{noted, expr_depth, expr_depth_step, cmd_depth, cmd_depth_step, expr_locals, expr_locals_step}
use Rattle.bed_syntax.specs.Shape.{cmd_locals, cmd_locals_step, all_noted, cmd_size}
use Rattle.bed_syntax.specs.Shape as shape
use Rattle.bed_syntax.specs.declared.expression.BExpr.{BExpr, BExpr-F, map-BExpr, roll-BExpr, fold-roll-BExpr, ind-BExpr}
use Rattle.bed_syntax.specs.declared.expression.BExpr.TheOpen as e
use Rattle.bed_syntax.specs.declared.command.Cmd.{Cmd, Cmd-F, map-Cmd, roll-Cmd, fold-roll-Cmd, ind-Cmd}
use Rattle.bed_syntax.specs.declared.command.Cmd.TheOpen as c
use Rattle.flat_lang.specs.Whole.{whole_step, is_whole, all_whole}
use Rattle.flat_lang.specs.declared.flat.FStmt.{FStmt, FStmt-F, map-FStmt, roll-FStmt, fold-roll-FStmt}
use Rattle.flat_lang.specs.declared.flat.FStmt.TheOpen as o
use Rattle.flat_lang.specs.declared.flat.FStmt.TheVariants as f
use Rattle.flatten.specs.Code.{ExprCode, expr_code, expr_step, CmdCode, cmd_code, cmd_step, then_code, in_turn, place}
use Rattle.flatten.proofs.Growth.{Grows, expr_grows, cmd_grows, all_locals_grow}
use Rattle.flatten.proofs.Places.{Known, Extends, extends_through, extends_noted, known_noted}

and_true : (a b : Bool) → a ≡ true → b ≡ true → (a && b) ≡ true
and_true true b p q = q
and_true false b p q = p

and_parts : (a b : Bool) → (a && b) ≡ true → (a ≡ true) × (b ≡ true)
and_parts true b h = (refl, h)
and_parts false b h = absurd (let bad : false ≡ true = h in cc)

module _ (vars tables : ℕ) (names : List ℕ) where
  all_both : (a b : List FStmt) → all_whole vars tables a ≡ true → all_whole vars tables b ≡ true
      → all_whole vars tables (a ++ b) ≡ true
  all_both [] b p q = q
  all_both (s ∷ a) b p q =
      let parts = and_parts (is_whole vars tables s) (all_whole vars tables a) p in
      and_true (is_whole vars tables s) (all_whole vars tables (a ++ b)) parts.0 (all_both a b parts.1 q)

  -- a statement by its layer
  one_whole : (s : FStmt) (y : FStmt-F FStmt) → roll-FStmt y ≡ s
      → whole_step vars tables (map-FStmt FStmt Bool (is_whole vars tables) y) ≡ true → all_whole vars tables (s ∷ []) ≡ true
  one_whole s y is h = and_true (is_whole vars tables s) true
      (ap (is_whole vars tables) (sym is) ∙ fold-roll-FStmt Bool (whole_step vars tables) y ∙ h) refl

  abbrev WholeExpr : ExprCode → ℕ → (List ℕ → List ℕ) → Type 0
  WholeExpr code depth locals =
      (1 ≤ depth)
      × ((ms : List ℕ) (to k : ℕ) → Extends (locals ms) names → length names ≤ to → to + depth ≤ vars
      → k + length code.tables ≤ tables → all_whole vars tables (code.code to k) ≡ true)

  lit_whole : (n : ℕ) → WholeExpr (expr_step names (e.Lit n)) 1 (λ ms. ms)
  lit_whole n = (
    omega arith,
    λ ms to k named above room few. one_whole (f.Lit to n) (o.Lit to n) (f.rolls-Lit to n)
        (lt-ltb to vars (omega arith)),
  )

  var_whole : (x : ℕ) → WholeExpr (expr_step names (e.Var x)) 1 (λ ms. noted x ms)
  var_whole x = (
    omega arith,
    λ ms to k named above room few.
        let known : Known names x = (named x (known_noted x ms)).0 in
        one_whole (f.Copy to (place names x)) (o.Copy to (place names x)) (f.rolls-Copy to (place names x))
        (and_true (nat_lt to vars) (nat_lt (place names x) vars) (lt-ltb to vars (omega arith))
        (lt-ltb (place names x) vars (omega arith))),
  )

  bin_whole : (op : _) (ca cb : ExprCode) (da db : ℕ) (la lb : List ℕ → List ℕ) → Grows lb → WholeExpr ca da la
      → WholeExpr cb db lb
      → WholeExpr (expr_step names (e.Bin op ca cb)) (1 + max da db) (λ ms. lb (la ms))
  bin_whole op ca cb da db la lb grows a b = (
    omega arith,
    λ ms to k named above room few.
        let n : length (ca.tables ++ cb.tables) ≡ length ca.tables + length cb.tables = length-append ca.tables cb.tables in
        let some : 1 ≤ da = a.0 in
        let next : ℕ = k + length ca.tables in
        let last : List FStmt = f.Bin op to to (to + 1) ∷ [] in
        let here : nat_lt to vars ≡ true = lt-ltb to vars (omega arith) in
        let first = a.1 ms to k (extends_through (la ms) (lb (la ms)) names (grows (la ms)) named) above (omega arith)
        (omega arith) in
        let second = b.1 (la ms) (to + 1) next named (omega arith) (omega arith) (omega arith) in
        let third : all_whole vars tables last ≡ true =
        one_whole (f.Bin op to to (to + 1)) (o.Bin op to to (to + 1)) (f.rolls-Bin op to to (to + 1))
        (and_true (nat_lt to vars) (nat_lt to vars && nat_lt (to + 1) vars) here
        (and_true (nat_lt to vars) (nat_lt (to + 1) vars) here (lt-ltb (to + 1) vars (omega arith)))) in
        all_both (ca.code to k) (cb.code (to + 1) next ++ last) first (all_both (cb.code (to + 1) next) last second third),
  )

  load_whole : (size : _) (ca : ExprCode) (da : ℕ) (la : List ℕ → List ℕ) → WholeExpr ca da la
      → WholeExpr (expr_step names (e.Load size ca)) (1 + da) la
  load_whole size ca da la a = (
    omega arith,
    λ ms to k named above room few.
        let here : nat_lt to vars ≡ true = lt-ltb to vars (omega arith) in
        all_both (ca.code to k) (f.Load size to to ∷ []) (a.1 ms to k named above (omega arith) few)
        (one_whole (f.Load size to to) (o.Load size to to) (f.rolls-Load size to to)
        (and_true (nat_lt to vars) (nat_lt to vars) here here)),
  )

  table_whole : (size : _) (bytes : List ℕ) (ca : ExprCode) (da : ℕ) (la : List ℕ → List ℕ) → WholeExpr ca da la
      → WholeExpr (expr_step names (e.Table size bytes ca)) (1 + da) la
  table_whole size bytes ca da la a = (
    omega arith,
    λ ms to k named above room few.
        let n : length (ca.tables ++ bytes ∷ []) ≡ length ca.tables + 1 = length-append ca.tables (bytes ∷ []) in
        let number : ℕ = k + length ca.tables in
        let here : nat_lt to vars ≡ true = lt-ltb to vars (omega arith) in
        let listed : nat_lt number tables ≡ true = lt-ltb number tables (omega arith) in
        all_both (ca.code to k) (f.Table size to number to ∷ []) (a.1 ms to k named above (omega arith) (omega arith))
        (one_whole (f.Table size to number to) (o.Table size to number to) (f.rolls-Table size to number to)
        (and_true (nat_lt to vars) (nat_lt number tables && nat_lt to vars) here
        (and_true (nat_lt number tables) (nat_lt to vars) listed here))),
  )

  abbrev ExprWhole : BExpr → Type 0
  ExprWhole a = WholeExpr (expr_code names a) (expr_depth a) (expr_locals a)

  abbrev ExprProved : Type 0
  ExprProved = (a : BExpr) × ExprWhole a

  abbrev bare_expr : BExpr-F ExprProved → BExpr-F BExpr
  bare_expr y = map-BExpr ExprProved BExpr (λ p. p.0) y

  abbrev ExprStepWhole : BExpr-F BExpr → Type 0
  ExprStepWhole y =
      WholeExpr (expr_step names (map-BExpr BExpr ExprCode (expr_code names) y))
      (expr_depth_step (map-BExpr BExpr ℕ expr_depth y))
      (expr_locals_step (map-BExpr BExpr (List ℕ → List ℕ) expr_locals y))

  expr_step_whole : (y : BExpr-F ExprProved) → ExprStepWhole (bare_expr y)
  expr_step_whole (e.Lit n) = lit_whole n
  expr_step_whole (e.Var x) = var_whole x
  expr_step_whole (e.Bin op a b) =
      bin_whole op (expr_code names a.0) (expr_code names b.0) (expr_depth a.0) (expr_depth b.0) (expr_locals a.0)
      (expr_locals b.0) (expr_grows b.0) a.1 b.1
  expr_step_whole (e.Load size a) = load_whole size (expr_code names a.0) (expr_depth a.0) (expr_locals a.0) a.1
  expr_step_whole (e.Table size bytes a) = table_whole size bytes (expr_code names a.0) (expr_depth a.0) (expr_locals a.0) a.1

  expr_rolled : (y : BExpr-F BExpr) → ExprStepWhole y → ExprWhole (roll-BExpr y)
  expr_rolled y h =
      rw (
        fold-roll-BExpr ExprCode (expr_step names) y,
        fold-roll-BExpr ℕ expr_depth_step y,
        fold-roll-BExpr (List ℕ → List ℕ)
            expr_locals_step y,
      ) h

  expr_whole : (a : BExpr) → ExprWhole a
  expr_whole = ind-BExpr ExprWhole
      (λ z y is. subst (λ r. ExprWhole (roll-BExpr r)) is (expr_rolled (bare_expr y) (expr_step_whole y)))

  abbrev WholeCmd : CmdCode → ℕ → (List ℕ → List ℕ) → Type 0
  WholeCmd code depth locals =
      (ms : List ℕ) (k : ℕ) → Extends (locals ms) names → length names + depth ≤ vars → k + length code.tables ≤ tables
      → all_whole vars tables (code.code k) ≡ true

  abbrev CmdWhole : Cmd → Type 0
  CmdWhole a = WholeCmd (cmd_code names a) (cmd_depth a) (cmd_locals a)

  abbrev CmdProved : Type 0
  CmdProved = (a : Cmd) × CmdWhole a

  abbrev bare_cmd : Cmd-F CmdProved → Cmd-F Cmd
  bare_cmd y = map-Cmd CmdProved Cmd (λ p. p.0) y

  abbrev CmdStepWhole : Cmd-F Cmd → Type 0
  CmdStepWhole y =
      WholeCmd (cmd_step names (map-Cmd Cmd CmdCode (cmd_code names) y)) (cmd_depth_step (map-Cmd Cmd ℕ cmd_depth y))
      (cmd_locals_step (map-Cmd Cmd (List ℕ → List ℕ) cmd_locals y))

  then_whole : (a b : CmdCode) (da db : ℕ) (la lb : List ℕ → List ℕ) → Grows lb → WholeCmd a da la → WholeCmd b db lb
      → WholeCmd (then_code a b) (max da db) (λ ms. lb (la ms))
  then_whole a b da db la lb grows x y ms k named room few =
      let n : length (a.tables ++ b.tables) ≡ length a.tables + length b.tables = length-append a.tables b.tables in
      all_both (a.code k) (b.code (k + length a.tables))
      (x ms k (extends_through (la ms) (lb (la ms)) names (grows (la ms)) named) (omega arith) (omega arith))
      (y (la ms) (k + length a.tables) named (omega arith) (omega arith))

  all_cmds_whole : (cs : List CmdProved)
      → WholeCmd (in_turn (map (cmd_code names) (map (λ p. p.0) cs))) (greatest (map cmd_depth (map (λ p. p.0) cs)))
      (shape.in_turn (map cmd_locals (map (λ p. p.0) cs)))
  all_cmds_whole [] = λ ms k named room few. refl
  all_cmds_whole (a ∷ cs) =
      let rest : List Cmd = map (λ p. p.0) cs in
      then_whole (cmd_code names a.0) (in_turn (map (cmd_code names) rest)) (cmd_depth a.0) (greatest (map cmd_depth rest))
      (cmd_locals a.0) (shape.in_turn (map cmd_locals rest)) (all_locals_grow rest)
      a.1 (all_cmds_whole cs)

  set_whole : (x : ℕ) (a : BExpr) → CmdStepWhole (c.Set x a)
  set_whole x a ms k named room few =
      let some : 1 ≤ expr_depth a = (expr_whole a).0 in
      let to : ℕ = length names in
      let known : Known names x = (named x (known_noted x (expr_locals a ms))).0 in
      all_both ((expr_code names a).code to k) (f.Copy (place names x) to ∷ [])
      ((expr_whole a).1 ms to k (extends_through (expr_locals a ms) (noted x (expr_locals a ms)) names
      (extends_noted x (expr_locals a ms)) named) (omega arith) room few)
      (one_whole (f.Copy (place names x) to) (o.Copy (place names x) to) (f.rolls-Copy (place names x) to)
      (and_true (nat_lt (place names x) vars) (nat_lt to vars) (lt-ltb (place names x) vars (omega arith))
      (lt-ltb to vars (omega arith))))

  store_whole : (size : _) (a b : BExpr) → CmdStepWhole (c.Store size a b)
  store_whole size a b ms k named room few =
      let some : 1 ≤ expr_depth a = (expr_whole a).0 in
      let n : length ((expr_code names a).tables ++ (expr_code names b).tables)
      ≡ length (expr_code names a).tables + length (expr_code names b).tables =
      length-append (expr_code names a).tables (expr_code names b).tables in
      let to : ℕ = length names in
      let next : ℕ = k + length (expr_code names a).tables in
      let named_a = extends_through (expr_locals a ms) (expr_locals b (expr_locals a ms)) names (expr_grows b (expr_locals a ms))
      named in
      let first = (expr_whole a).1 ms to k named_a (omega arith) (omega arith) (omega arith) in
      let second = (expr_whole b).1 (expr_locals a ms) (to + 1) next named (omega arith) (omega arith) (omega arith) in
      let third =
      one_whole (f.Store size to (to + 1)) (o.Store size to (to + 1)) (f.rolls-Store size to (to + 1))
      (and_true (nat_lt to vars) (nat_lt (to + 1) vars) (lt-ltb to vars (omega arith)) (lt-ltb (to + 1) vars (omega arith))) in
      all_both ((expr_code names a).code to k) ((expr_code names b).code (to + 1) next ++ f.Store size to (to + 1) ∷ []) first
      (all_both ((expr_code names b).code (to + 1) next) (f.Store size to (to + 1) ∷ []) second third)

  -- a test, and the variable that it is in
  test_whole : (a : BExpr) (ms : List ℕ) (k : ℕ) → Extends (expr_locals a ms) names → length names + expr_depth a ≤ vars
      → k + length (expr_code names a).tables ≤ tables
      → (all_whole vars tables ((expr_code names a).code (length names) k) ≡ true) × (nat_lt (length names) vars ≡ true)
  test_whole a ms k named room few =
      let some : 1 ≤ expr_depth a = (expr_whole a).0 in
      ((expr_whole a).1 ms (length names) k named (omega arith) room few, lt-ltb (length names) vars (omega arith))

  cond_whole : (a : BExpr) (p q : CmdProved) → CmdStepWhole (c.Cond a p.0 q.0)
  cond_whole a p q ms k named room few =
      let test_tables : List (List ℕ) = (expr_code names a).tables in
      let first_tables : List (List ℕ) = (cmd_code names p.0).tables in
      let second_tables : List (List ℕ) = (cmd_code names q.0).tables in
      let n : length (test_tables ++ (first_tables ++ second_tables))
      ≡ length test_tables + length (first_tables ++ second_tables) =
      length-append test_tables (first_tables ++ second_tables) in
      let i : length (first_tables ++ second_tables) ≡ length first_tables + length second_tables =
      length-append first_tables second_tables in
      let to : ℕ = length names in
      let next : ℕ = k + length test_tables in
      let last : ℕ = next + length first_tables in
      let ks : List ℕ = expr_locals a ms in
      let named_p = extends_through (cmd_locals p.0 ks) (cmd_locals q.0 (cmd_locals p.0 ks)) names
      (cmd_grows q.0 (cmd_locals p.0 ks)) named in
      let test = test_whole a ms k (extends_through ks (cmd_locals p.0 ks) names (cmd_grows p.0 ks) named_p) (omega arith)
      (omega arith) in
      let fs : List FStmt = (cmd_code names p.0).code next in
      let gs : List FStmt = (cmd_code names q.0).code last in
      let first : all_whole vars tables fs ≡ true = p.1 ks next named_p (omega arith) (omega arith) in
      let second : all_whole vars tables gs ≡ true = q.1 (cmd_locals p.0 ks) last named (omega arith) (omega arith) in
      all_both ((expr_code names a).code to k) (f.If to fs gs ∷ []) test.0
      (one_whole (f.If to fs gs) (o.If to fs gs) (f.rolls-If to fs gs)
      (and_true (nat_lt to vars) (all_whole vars tables fs && all_whole vars tables gs) test.1
      (and_true (all_whole vars tables fs) (all_whole vars tables gs) first second)))

  while_whole : (a : BExpr) (p : CmdProved) → CmdStepWhole (c.While a p.0)
  while_whole a p ms k named room few =
      let test_tables : List (List ℕ) = (expr_code names a).tables in
      let n : length (test_tables ++ (cmd_code names p.0).tables) ≡ length test_tables + length (cmd_code names p.0).tables =
      length-append test_tables (cmd_code names p.0).tables in
      let to : ℕ = length names in
      let next : ℕ = k + length test_tables in
      let ks : List ℕ = expr_locals a ms in
      let test = test_whole a ms k (extends_through ks (cmd_locals p.0 ks) names (cmd_grows p.0 ks) named) (omega arith)
      (omega arith) in
      let fs : List FStmt = (expr_code names a).code to k in
      let gs : List FStmt = (cmd_code names p.0).code next in
      let body : all_whole vars tables gs ≡ true = p.1 ks next named (omega arith) (omega arith) in
      one_whole (f.While fs to gs) (o.While fs to gs) (f.rolls-While fs to gs)
      (and_true (all_whole vars tables fs) (nat_lt to vars && all_whole vars tables gs) test.0
      (and_true (nat_lt to vars) (all_whole vars tables gs) test.1 body))

  cmd_step_whole : (y : Cmd-F CmdProved) → CmdStepWhole (bare_cmd y)
  cmd_step_whole (c.Set x a) = set_whole x a
  cmd_step_whole (c.Store size a b) = store_whole size a b
  cmd_step_whole (c.Cond a p q) = cond_whole a p q
  cmd_step_whole (c.Seq cs) = all_cmds_whole cs
  cmd_step_whole (c.While a p) = while_whole a p

  cmd_rolled : (y : Cmd-F Cmd) → CmdStepWhole y → CmdWhole (roll-Cmd y)
  cmd_rolled y h = rw (
    fold-roll-Cmd CmdCode (cmd_step names) y,
    fold-roll-Cmd ℕ cmd_depth_step y,
    fold-roll-Cmd (List ℕ → List ℕ)
        cmd_locals_step y,
  ) h

  pub cmd_whole : (a : Cmd) → CmdWhole a
  cmd_whole = ind-Cmd CmdWhole (λ z y is. subst (λ r. CmdWhole (roll-Cmd r)) is (cmd_rolled (bare_cmd y) (cmd_step_whole y)))
