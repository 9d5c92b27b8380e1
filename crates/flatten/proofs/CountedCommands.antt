-- What is counted of the code of a command.
use Rattle.std.proofs.Common.{◌≡◌, refl, sym, ap, subst, ◌∙◌, arith, ℕ, ◌+◌, List, [], ◌∷◌, ◌++◌, append-nil, length, map, sum}
use Rattle.std.proofs.lemmas.List.Sums.{sum_by-cons}
use Rattle.rup_base.specs.Gather.{joined}
use Rattle.bed_syntax.specs.Named.{Name, store_names, expr_names, cmd_names, cmd_names_step}
use Rattle.bed_syntax.specs.Shape.{expr_size, cmd_size, cmd_size_step}
use Rattle.bed_syntax.specs.Weight.{expr_weight, cmd_weight, cmd_weight_step}
use Rattle.bed_syntax.specs.declared.weights.Weights.{Weights}
use Rattle.bed_syntax.specs.declared.command.Cmd.{Cmd, Cmd-F, map-Cmd, roll-Cmd, fold-roll-Cmd, ind-Cmd}
use Rattle.bed_syntax.specs.declared.command.Cmd.TheOpen as c
use Rattle.flat_lang.specs.declared.flat.FStmt.{FStmt}
use Rattle.flat_lang.specs.declared.flat.FStmt.TheOpen as o
use Rattle.flat_lang.specs.declared.flat.FStmt.TheVariants as f
use Rattle.flatten.specs.Code.{expr_code, CmdCode, cmd_code, cmd_step, in_turn, place}
use Rattle.bed_syntax.specs.Tables.{expr_tables, cmd_tables, cmd_tables_step}
use Rattle.flatten.proofs.Counted.{CmdCounts, none_counts, both_count, leaf_counts, if_counts, while_counts, then_one, recounted}
use Rattle.flatten.proofs.Counted.{expr_same}

module _ (w : Weights) (same : w.variable ≡ w.set) (names : List ℕ) where
  abbrev pub CmdSame : Cmd → Type 0
  CmdSame a = CmdCounts w same (cmd_code names a) (cmd_names a) (cmd_weight w a) (cmd_size a) (cmd_tables a)

  abbrev Proved : Type 0
  Proved = (a : Cmd) × CmdSame a

  abbrev bare : Cmd-F Proved → Cmd-F Cmd
  bare y = map-Cmd Proved Cmd (λ p. p.0) y

  abbrev StepSame : Cmd-F Cmd → Type 0
  StepSame y =
      CmdCounts w same (cmd_step names (map-Cmd Cmd CmdCode (cmd_code names) y))
      (cmd_names_step (map-Cmd Cmd (List Name) cmd_names y)) (cmd_weight_step w (map-Cmd Cmd ℕ (cmd_weight w) y))
      (cmd_size_step (map-Cmd Cmd ℕ cmd_size y)) (cmd_tables_step (map-Cmd Cmd (List (List ℕ)) cmd_tables y))

  abbrev Each : (Cmd → ℕ) → List Proved → ℕ
  Each of cs = sum (map of (map (λ p. p.0) cs))

  all_same : (cs : List Proved)
      → CmdCounts w same (in_turn (map (cmd_code names) (map (λ p. p.0) cs))) (joined (map cmd_names (map (λ p. p.0) cs)))
      (Each (cmd_weight w) cs) (Each cmd_size cs)
      (joined (map cmd_tables (map (λ p. p.0) cs)))
  all_same [] = record { counts = λ k. none_counts w same; tables = refl }
  all_same (a ∷ cs) =
      let rest = all_same cs in
      let heavy : Each (cmd_weight w) (a ∷ cs) ≡ cmd_weight w a.0 + Each (cmd_weight w) cs =
      sum_by-cons (λ n. n) (cmd_weight w a.0) (map (cmd_weight w) (map (λ p. p.0) cs)) in
      let many : Each cmd_size (a ∷ cs) ≡ cmd_size a.0 + Each cmd_size cs =
      sum_by-cons (λ n. n) (cmd_size a.0) (map cmd_size (map (λ p. p.0) cs)) in
      let others : CmdCode = in_turn (map (cmd_code names) (map (λ p. p.0) cs)) in
      let named : List Name = joined (map cmd_names (map (λ p. p.0) cs)) in
      record {
        counts = λ k.
            let next : ℕ = k + length (cmd_code names a.0).tables in
            let fs : List FStmt = (cmd_code names a.0).code k in
            let gs : List FStmt = others.code next in
            recounted w same (fs ++ gs) (cmd_names a.0 ++ named) (cmd_names a.0 ++ named)
            (cmd_weight w a.0 + Each (cmd_weight w) cs) (Each (cmd_weight w) (a ∷ cs)) (cmd_size a.0 + Each cmd_size cs)
            (Each cmd_size (a ∷ cs)) refl (sym heavy) (omega arith)
            (both_count w same fs gs (cmd_names a.0) named (cmd_weight w a.0) (Each (cmd_weight w) cs) (cmd_size a.0)
            (Each cmd_size cs) (a.1.counts k) (rest.counts next));
        tables = ap (λ r. r ++ others.tables) a.1.tables ∙ ap (λ r. cmd_tables a.0 ++ r) rest.tables;
      }

  step_same : (y : Cmd-F Proved) → StepSame (bare y)
  step_same (c.Set x e) =
      let a = expr_same w same names e in
      record {
        counts = λ k.
            let fs : List FStmt = (expr_code names e).code (length names) k in
            let last : FStmt = f.Copy (place names x) (length names) in
            recounted w same (fs ++ last ∷ []) (expr_names e ++ []) (expr_names e) (expr_weight w e + w.variable)
            (expr_weight w e + w.set) (1 + expr_size e) (1 + expr_size e)
            (append-nil (expr_names e)) (omega arith) (omega arith)
            (then_one w same fs last (expr_names e) [] (expr_weight w e) w.variable (expr_size e) (a.counts (length names) k)
            (leaf_counts w same last (o.Copy (place names x) (length names)) [] w.variable
            (f.rolls-Copy (place names x) (length names)) refl refl refl));
        tables = a.tables;
      }
  step_same (c.Store size d e) =
      let a = expr_same w same names d in
      let b = expr_same w same names e in
      record {
        counts = λ k.
            let next : ℕ = k + length (expr_code names d).tables in
            let fs : List FStmt = (expr_code names d).code (length names) k in
            let gs : List FStmt = (expr_code names e).code (length names + 1) next in
            let last : FStmt = f.Store size (length names) (length names + 1) in
            recounted w same (fs ++ (gs ++ last ∷ [])) (expr_names d ++ (expr_names e ++ store_names size))
            (expr_names d ++ (expr_names e ++ store_names size))
            (expr_weight w d + (expr_weight w e + w.store)) (expr_weight w d + expr_weight w e + w.store)
            (expr_size d + (1 + expr_size e)) (1 + (expr_size d + expr_size e)) refl (omega arith)
            (omega arith)
            (both_count w same fs (gs ++ last ∷ []) (expr_names d) (expr_names e ++ store_names size) (expr_weight w d)
            (expr_weight w e + w.store) (expr_size d) (1 + expr_size e)
            (a.counts (length names) k)
            (then_one w same gs last (expr_names e) (store_names size) (expr_weight w e) w.store (expr_size e)
            (b.counts (length names + 1) next)
            (leaf_counts w same last (o.Store size (length names) (length names + 1)) (store_names size) w.store
            (f.rolls-Store size (length names) (length names + 1)) refl refl refl)));
        tables = ap (λ r. r ++ (expr_code names e).tables) a.tables ∙ ap (λ r. expr_tables d ++ r) b.tables;
      }
  step_same (c.Cond e p q) =
      let a = expr_same w same names e in
      record {
        counts = λ k.
            let next : ℕ = k + length (expr_code names e).tables in
            let last : ℕ = next + length (cmd_code names p.0).tables in
            let fs : List FStmt = (expr_code names e).code (length names) k in
            let sides : List FStmt = f.If (length names) ((cmd_code names p.0).code next) ((cmd_code names q.0).code last) ∷ [] in
            let named : List Name = cmd_names p.0 ++ cmd_names q.0 in
            recounted w same (fs ++ sides) (expr_names e ++ named) (expr_names e ++ named)
            (expr_weight w e + (w.test + (cmd_weight w p.0 + cmd_weight w q.0)))
            (expr_weight w e + w.test + cmd_weight w p.0 + cmd_weight w q.0) (expr_size e + (1 + (cmd_size p.0 + cmd_size q.0)))
            (1 + (expr_size e + (cmd_size p.0 + cmd_size q.0))) refl (omega arith)
            (omega arith)
            (both_count w same fs sides (expr_names e) named (expr_weight w e) (w.test + (cmd_weight w p.0 + cmd_weight w q.0))
            (expr_size e) (1 + (cmd_size p.0 + cmd_size q.0))
            (a.counts (length names) k)
            (if_counts w same (length names) ((cmd_code names p.0).code next) ((cmd_code names q.0).code last) (cmd_names p.0)
            (cmd_names q.0) (cmd_weight w p.0) (cmd_weight w q.0) (cmd_size p.0)
            (cmd_size q.0) (p.1.counts next) (q.1.counts last)));
        tables = ap (λ r. r ++ ((cmd_code names p.0).tables ++ (cmd_code names q.0).tables)) a.tables
            ∙ ap (λ r. expr_tables e ++ (r ++ (cmd_code names q.0).tables)) p.1.tables
            ∙ ap (λ r. expr_tables e ++ (cmd_tables p.0 ++ r)) q.1.tables;
      }
  step_same (c.Seq cs) =
      let all = all_same cs in
      let many : ℕ = Each cmd_size cs in
      record {
        counts = λ k.
            recounted w same ((in_turn (map (cmd_code names) (map (λ p. p.0) cs))).code k)
            (joined (map cmd_names (map (λ p. p.0) cs))) (joined (map cmd_names (map (λ p. p.0) cs)))
            (Each (cmd_weight w) cs) (Each (cmd_weight w) cs) many (1 + many) refl refl (omega arith) (all.counts k);
        tables = all.tables;
      }
  step_same (c.While e p) =
      let a = expr_same w same names e in
      record {
        counts = λ k.
            let next : ℕ = k + length (expr_code names e).tables in
            let fs : List FStmt = (expr_code names e).code (length names) k in
            let gs : List FStmt = (cmd_code names p.0).code next in
            recounted w same (f.While fs (length names) gs ∷ []) (expr_names e ++ cmd_names p.0) (expr_names e ++ cmd_names p.0)
            (expr_weight w e + (w.turn + cmd_weight w p.0))
            (expr_weight w e + w.turn + cmd_weight w p.0) (1 + (expr_size e + cmd_size p.0)) (1 + (expr_size e + cmd_size p.0))
            refl (omega arith) (omega arith)
            (while_counts w same (length names) fs gs (expr_names e) (cmd_names p.0) (expr_weight w e) (cmd_weight w p.0)
            (expr_size e) (cmd_size p.0) (a.counts (length names) k) (p.1.counts next));
        tables = ap (λ r. r ++ (cmd_code names p.0).tables) a.tables ∙ ap (λ r. expr_tables e ++ r) p.1.tables;
      }

  rolled : (y : Cmd-F Cmd) → StepSame y → CmdSame (roll-Cmd y)
  rolled y h =
      rw (
        fold-roll-Cmd CmdCode (cmd_step names) y,
        fold-roll-Cmd (List Name) cmd_names_step y,
        fold-roll-Cmd ℕ (cmd_weight_step w) y,
        fold-roll-Cmd ℕ cmd_size_step y,
        fold-roll-Cmd (List (List ℕ)) cmd_tables_step y,
      ) h

  pub cmd_same : (a : Cmd) → CmdSame a
  cmd_same = ind-Cmd CmdSame (λ z y is. subst (λ r. CmdSame (roll-Cmd r)) is (rolled (bare y) (step_same y)))
