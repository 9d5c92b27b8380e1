-- The code of statements runs as they mean over places.
use Rattle.std.proofs.Common.{◌≡◌, ℕ, ◌+◌, ◌<◌, ◌^◌, Bool, true, false, ◌&&◌, List, [], ◌∷◌, ◌++◌, length, map, Ok, refl, sym, ap}
use Rattle.std.proofs.Common.{◌∙◌, subst, arith, length-append}
use Rattle.std.proofs.lemmas.Bool.{ltb-true}
use Rattle.bed_meaning.specs.Fuelled.{in_turn}
use Rattle.rup_base.specs.Gather.{all_true}
use Rattle.bed_syntax.specs.declared.weights.Weights.{Weights}
use Rattle.flat_lang.specs.Meaning.{Rule, run_step, run, run_all}
use Rattle.flat_lang.specs.Renamed.{renamed_step, renamed, code_renamed}
use Rattle.flat_lang.specs.Whole.{whole_step, is_whole, all_whole}
use Rattle.flat_lang.specs.declared.flat.FStmt.{FStmt, FStmt-F, fold-roll-FStmt, map-FStmt, roll-FStmt, ind-FStmt}
use Rattle.flat_lang.specs.declared.flat.FStmt.TheOpen as f
use Rattle.rv_machine.specs.State.{State}
use Rattle.rv_emit.specs.Code.{Code, place_of, in_row, stmt_code_step, stmt_code, block_code}
use Rattle.rv_emit.specs.Fit.{fits_step, fits, all_fit}
use Rattle.rv_emit.proofs.Site.{Site, IsValid, Sound}
use Rattle.rv_emit.proofs.Runs.{has_front, has_back, at_place, ends_at, then_reach}
use Rattle.rv_emit.proofs.Straight.{Enough, literal_reach, copy_reach, bin_reach}
use Rattle.rv_emit.proofs.Accesses.{load_reach, table_reach, store_reach}
use Rattle.rv_emit.proofs.Branches.{Runs, if_reach}
use Rattle.rv_emit.proofs.Loops.{while_reach}

record Both (a b : Bool) : Type 0 where
  first : a ≡ true
  second : b ≡ true

both : (a b : Bool) → (a && b) ≡ true → Both a b
both true b h = record { first = refl; second = h }
both false b h = absurd (cc)

-- the numbers of the variables' places are given by p, and those of a code's variables are valid
module _ (l : Site) (m : State) (sound : Sound l m) (w : Weights) (enough : Enough w l) (p : ℕ → ℕ) (vars : ℕ)
    (valid : (x : ℕ) → x < vars → IsValid l (place_of (p x))) where
  abbrev code : FStmt → Code
  code = stmt_code (λ x. place_of (p x)) l.offset

  abbrev meaning : FStmt → Rule
  meaning c = run w l.tables (renamed p c)

  abbrev Good : FStmt → Type 0
  Good c = is_whole vars (length l.tables) c ≡ true → fits c ≡ true → Runs l m sound (code c) (meaning c)

  abbrev Proved : Type 0
  Proved = (c : FStmt) × Good c

  abbrev bare : FStmt-F Proved → FStmt-F FStmt
  bare y = map-FStmt Proved FStmt (λ q. q.0) y

  abbrev rules_of : List Proved → List Rule
  rules_of cs = map (run w l.tables) (map (renamed p) (map (λ q. q.0) cs))

  abbrev codes_of : List Proved → List Code
  codes_of cs = map code (map (λ q. q.0) cs)

  none_runs : Runs l m sound (in_row []) (in_turn [])
  none_runs k n f s has last_are before =
      let none : k ≡ k + 0 = omega arith in
      at_place l m sound f.ticks k (k + 0) s (Ok f) none (ends_at l m sound f.ticks k s f (omega arith) before)

  then_runs : (c : Code) (cs : List Code) (r : Rule) (rs : List Rule) → Runs l m sound c r
      → Runs l m sound (in_row cs) (in_turn rs) → Runs l m sound (in_row (c ∷ cs)) (in_turn (r ∷ rs))
  then_runs c cs r rs first rest k n f s has last_are before =
      let behind = in_row cs n in
      let here = c (length behind + n) in
      let size = length-append here behind in
      let end : k + length here + length behind ≡ k + length (here ++ behind) = omega arith in
      let runs = first k (length behind + n) f s (has_front l.code k here behind has) (omega arith) before in
      then_reach l m sound f.ticks (k + length here) (k + length (here ++ behind)) s (r f) (in_turn rs) runs (λ g u stands.
      at_place l m sound g.ticks (k + length here + length behind) (k + length (here ++ behind)) u (in_turn rs g) end
      (rest (k + length here) n g u (has_back l.code k here behind has) (omega arith) stands))

  row_runs : (cs : List Proved) → all_true (map (is_whole vars (length l.tables)) (map (λ q. q.0) cs)) ≡ true
      → all_true (map fits (map (λ q. q.0) cs)) ≡ true → Runs l m sound (in_row (codes_of cs)) (in_turn (rules_of cs))
  row_runs [] whole fit = none_runs
  row_runs (c ∷ cs) whole fit =
      let w1 = both _ _ whole in
      let f1 = both _ _ fit in
      then_runs (code c.0) (codes_of cs) (meaning c.0) (rules_of cs) (c.1 w1.first f1.first) (row_runs cs w1.second f1.second)

  step_runs : (y : FStmt-F Proved)
      → whole_step vars (length l.tables) (map-FStmt FStmt Bool (is_whole vars (length l.tables)) (bare y)) ≡ true
      → fits_step (map-FStmt FStmt Bool fits (bare y)) ≡ true
      → Runs l m sound (stmt_code_step (λ x. place_of (p x)) l.offset (map-FStmt FStmt Code code (bare y)))
      (run_step w l.tables (map-FStmt FStmt Rule (run w l.tables)
      (renamed_step p (map-FStmt FStmt FStmt (renamed p) (bare y)))))
  step_runs (f.Lit x v) whole fit =
      λ k n f s has last_are before. literal_reach l m sound w enough k f s (p x) v before has (valid x (ltb-true x vars whole))
      (ltb-true v (2 ^ 32) fit)
  step_runs (f.Copy x y) whole fit =
      λ k n f s has last_are before. copy_reach l m sound w enough k f s (p x) (p y) before has
      (valid x (ltb-true x vars (both _ _ whole).first))
  step_runs (f.Bin o x y z) whole fit =
      λ k n f s has last_are before. bin_reach l m sound w enough k f s o (p x) (p y) (p z) before has
      (valid x (ltb-true x vars (both _ _ whole).first))
  step_runs (f.Load size x y) whole fit =
      λ k n f s has last_are before. load_reach l m sound w enough k f s size (p x) (p y) before has
      (valid x (ltb-true x vars (both _ _ whole).first))
  step_runs (f.Table size x i y) whole fit =
      λ k n f s has last_are before. table_reach l m sound w enough k n f s size (p x) i (p y) before has last_are
      (valid x (ltb-true x vars (both _ _ whole).first))
  step_runs (f.Store size x y) whole fit =
      λ k n f s has last_are before. store_reach l m sound w enough k f s size (p x) (p y) before has
  step_runs (f.If x a b) whole fit =
      let w1 = both _ _ whole in
      let w2 = both _ _ w1.second in
      let f1 = both _ _ fit in
      if_reach l m sound w enough (p x) (in_row (codes_of a)) (in_row (codes_of b)) (in_turn (rules_of a)) (in_turn (rules_of b))
      (row_runs a w2.first f1.first) (row_runs b w2.second f1.second)
  step_runs (f.While a x b) whole fit =
      let w1 = both _ _ whole in
      let w2 = both _ _ w1.second in
      let f1 = both _ _ fit in
      while_reach l m sound w enough (p x) (in_row (codes_of a)) (in_row (codes_of b)) (in_turn (rules_of a))
      (in_turn (rules_of b)) (row_runs a w1.first f1.first) (row_runs b w2.second f1.second)

  node_runs : (y : FStmt-F Proved) → Good (roll-FStmt (bare y))
  node_runs y = λ whole fit.
      let w1 : whole_step vars (length l.tables) (map-FStmt FStmt Bool (is_whole vars (length l.tables)) (bare y))
      ≡ true = subst (λ b. b ≡ true) (fold-roll-FStmt Bool (whole_step vars (length l.tables)) (bare y)) whole in
      let f1 : fits_step (map-FStmt FStmt Bool fits (bare y))
      ≡ true = subst (λ b. b ≡ true) (fold-roll-FStmt Bool fits_step (bare y)) fit in
      let names = fold-roll-FStmt FStmt (λ s. roll-FStmt (renamed_step p s)) (bare y) in
      let means = ap (run w l.tables) names
      ∙ fold-roll-FStmt Rule (run_step w l.tables) (renamed_step p (map-FStmt FStmt FStmt (renamed p) (bare y))) in
      let run1 = subst (λ c. Runs l m sound c
      (run_step w l.tables (map-FStmt FStmt Rule (run w l.tables)
      (renamed_step p (map-FStmt FStmt FStmt (renamed p) (bare y))))))
      (sym (fold-roll-FStmt Code (stmt_code_step (λ x. place_of (p x)) l.offset) (bare y))) (step_runs y w1 f1) in
      subst (λ r. Runs l m sound (code (roll-FStmt (bare y))) r) (sym means) run1

  stmt_runs : (c : FStmt) → Good c
  stmt_runs = ind-FStmt Good (λ x y is. subst (λ z. Good (roll-FStmt z)) is (node_runs y))

  pub block_runs : (cs : List FStmt) → all_whole vars (length l.tables) cs ≡ true → all_fit cs ≡ true
      → Runs l m sound (block_code (λ x. place_of (p x)) l.offset cs) (run_all w l.tables (code_renamed p cs))
  block_runs [] whole fit = none_runs
  block_runs (c ∷ cs) whole fit =
      let w1 = both _ _ whole in
      let f1 = both _ _ fit in
      then_runs (code c) (map code cs) (meaning c) (map (run w l.tables) (map (renamed p) cs)) (stmt_runs c w1.first f1.first)
      (block_runs cs w1.second f1.second)
