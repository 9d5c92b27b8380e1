-- What the code of a command keeps of it, from the start to the end.
use Rattle.std.proofs.Common.{◌≡◌, sym, ap, subst, ◌∙◌, arith, ℕ, ◌+◌, ◌-◌, ◌<◌, min, List, [], ◌∷◌, length, map, Ok, option_map}
use Rattle.std.proofs.Common.{slice_get}
use Rattle.std.proofs.lemmas.Option.{slice_get-map}
use Rattle.std.specs.FinMap.{get}
use Rattle.bed_meaning.specs.Fuelled.{finish}
use Rattle.bed_meaning.specs.Fuelled as meaning
use Rattle.bed_syntax.specs.Shape.{expr_locals, cmd_locals, cmd_locals_step, all_noted, numbers, locals_of}
use Rattle.bed_syntax.specs.Shape as shape
use Rattle.bed_syntax.specs.Weight.{expr_weight}
use Rattle.bed_syntax.specs.declared.weights.Weights.{Weights}
use Rattle.bed_syntax.specs.declared.command.Cmd.{Cmd, Cmd-F, map-Cmd, roll-Cmd, fold-roll-Cmd, ind-Cmd}
use Rattle.bed_syntax.specs.declared.command.Cmd.TheOpen as c
use Rattle.bed_meaning.specs.Locals as bed
use Rattle.bed_meaning.specs.Value.{value}
use Rattle.bed_meaning.specs.State as state
use Rattle.bed_meaning.specs.Meaning as source
use Rattle.flat_lang.specs.State.{Vars}
use Rattle.flat_lang.specs.Meaning.{run_all}
use Rattle.flat_lang.specs.declared.flat.Flat.{Flat}
use Rattle.flatten.specs.Code.{expr_code, CmdCode, cmd_code, cmd_step, in_turn, place, flat_of}
use Rattle.flatten.specs.Keeps.{Starts, Returns, Keeps}
use Rattle.flatten.proofs.Commands.{Comes, Follows, fuelled_follows, set_follows, store_follows, cond_follows, none_follows}
use Rattle.flatten.proofs.Commands.{then_follows}
use Rattle.flatten.proofs.Expressions.{Agrees, expr_right}
use Rattle.flatten.proofs.Goes.{at}
use Rattle.flatten.proofs.Growth.{expr_grows, cmd_grows, all_locals_grow}
use Rattle.flatten.proofs.Loops.{while_follows}
use Rattle.flatten.proofs.Outcomes.{finished}
use Rattle.flatten.proofs.Places.{Known, Extends, extends_through, extends_all_noted, known_all_noted, length-numbers}
use Rattle.flatten.proofs.Places.{place-numbers}

module _ (w : Weights) (same : w.variable ≡ w.set) (tables : List (List ℕ)) (names : List ℕ) where
  abbrev CmdRight : Cmd → Type 0
  CmdRight a = Follows w same tables names (source.run w a) (cmd_code names a) (cmd_locals a)

  abbrev Proved : Type 0
  Proved = (a : Cmd) × CmdRight a

  abbrev bare : Cmd-F Proved → Cmd-F Cmd
  bare y = map-Cmd Proved Cmd (λ p. p.0) y

  abbrev StepRight : Cmd-F Cmd → Type 0
  StepRight y =
      Follows w same tables names (source.run_step w (map-Cmd Cmd source.Rule (source.run w) y))
      (cmd_step names (map-Cmd Cmd CmdCode (cmd_code names) y))
      (cmd_locals_step (map-Cmd Cmd (List ℕ → List ℕ) cmd_locals y))

  all_right : (cs : List Proved)
      → Follows w same tables names (meaning.in_turn (map (source.run w) (map (λ p. p.0) cs)))
      (in_turn (map (cmd_code names) (map (λ p. p.0) cs)))
      (shape.in_turn (map cmd_locals (map (λ p. p.0) cs)))
  all_right [] = none_follows w same tables names
  all_right (a ∷ cs) =
      let rest : List Cmd = map (λ p. p.0) cs in
      then_follows w same tables names (source.run w a.0) (meaning.in_turn (map (source.run w) rest)) (cmd_code names a.0)
      (in_turn (map (cmd_code names) rest)) (cmd_locals a.0)
      (shape.in_turn (map cmd_locals rest)) (all_locals_grow rest) a.1 (all_right cs)

  step_right : (y : Cmd-F Proved) → StepRight (bare y)
  step_right (c.Set x e) =
      fuelled_follows w same tables names _ _ _
      (set_follows w same tables names x (value e) (expr_weight w e) (expr_code names e) (expr_locals e)
      (expr_right w tables names e))
  step_right (c.Store size a e) =
      fuelled_follows w same tables names _ _ _
      (store_follows w same tables names size (value a) (value e) (expr_weight w a) (expr_weight w e) (expr_code names a)
      (expr_code names e) (expr_locals a) (expr_locals e) (expr_grows e)
      (expr_right w tables names a) (expr_right w tables names e))
  step_right (c.Cond e p q) =
      fuelled_follows w same tables names _ _ _
      (cond_follows w same tables names (value e) (expr_weight w e) (expr_code names e) (expr_locals e) (source.run w p.0)
      (source.run w q.0) (cmd_code names p.0) (cmd_code names q.0) (cmd_locals p.0)
      (cmd_locals q.0) (cmd_grows p.0) (cmd_grows q.0) (expr_right w tables names e) p.1 q.1)
  step_right (c.Seq cs) = fuelled_follows w same tables names _ _ _ (all_right cs)
  step_right (c.While e p) =
      while_follows w same tables names (value e) (expr_weight w e) (expr_code names e) (expr_locals e) (source.run w p.0)
      (cmd_code names p.0) (cmd_locals p.0) (cmd_grows p.0)
      (expr_right w tables names e) p.1

  rolled : (y : Cmd-F Cmd) → StepRight y → CmdRight (roll-Cmd y)
  rolled y h =
      rw (
        fold-roll-Cmd source.Rule (source.run_step w) y,
        fold-roll-Cmd CmdCode (cmd_step names) y,
        fold-roll-Cmd (List ℕ → List ℕ) cmd_locals_step y,
      ) h

  cmd_right : (a : Cmd) → CmdRight a
  cmd_right = ind-Cmd CmdRight (λ z y is. subst (λ r. CmdRight (roll-Cmd r)) is (rolled (bare y) (step_right y)))

-- the arguments stand first
pub arguments_first : (args x : ℕ) (names : List ℕ) → Extends (numbers args) names → x < args
    → (Known names x) × (place names x ≡ x)
arguments_first args x names first below =
    let p : place (numbers args) x ≡ min x args = place-numbers args x in
    let n : length (numbers args) ≡ args = length-numbers args in
    let h = first x (omega arith) in
    let e : place names x ≡ place (numbers args) x = h.1 in
    (h.0, omega arith)

module _ (cmd : Cmd) (args : ℕ) (rets : List ℕ) where
  abbrev names : List ℕ
  names = locals_of cmd args rets

  abbrev flat : Flat
  flat = flat_of cmd args rets

  starts_agree : (locals : bed.Vars) (vars : Vars) → Starts args locals vars → Agrees names locals vars
  starts_agree locals vars starts x n known is =
      let first : Extends (numbers args) names =
      extends_through (numbers args) (cmd_locals cmd (numbers args)) names (cmd_grows cmd (numbers args))
      (extends_all_noted rets (cmd_locals cmd (numbers args))) in
      let at_start = starts x n is in
      ap (get vars) (arguments_first args x names first at_start.0).1 ∙ at_start.1

  returned : (locals : bed.Vars) (vars : Vars) → Agrees names locals vars → Returns rets flat.rets locals vars
  returned locals vars agrees i x n is set =
      let y : ℕ = place names x in (
        y,
        slice_get-map (place names) rets i
            ∙ ap (option_map (place names)) is,
        agrees x n (known_all_noted rets (cmd_locals cmd (numbers args)) i x is) set,
      )

  pub keeps : Keeps cmd args rets flat
  keeps w same fuel mem locals vars starts ticks mem1 locals1 ends =
      let start : state.State = record { fuel = fuel; ticks = 0; mem = mem; vars = locals } in
      let right = cmd_right w same flat.tables names cmd in
      let last = finished (source.run w cmd start) ticks mem1 locals1 ends in
      let t : state.State = last.0 in
      let comes : Comes w flat.tables names flat.body 0 mem vars t =
      right (numbers args) 0 start t vars last.1.0 (extends_all_noted rets (cmd_locals cmd (numbers args)))
      (starts_agree locals vars starts)
      (λ i b is. let e : 0 + i ≡ i = omega arith in ap (slice_get flat.tables) e ∙ is) in
      record {
        fuel = comes.goes.0;
        vars1 = comes.vars;
        runs = λ k enough.
            let e : k ≡ comes.goes.0 + (k - comes.goes.0) = omega arith in
            ap (λ n. finish (run_all w flat.tables flat.body (at n 0 mem vars))) e
            ∙ ap finish (comes.goes.1 (k - comes.goes.0) 0)
            ∙ ap (λ n. Ok (n, t.mem, comes.vars)) (sym comes.ticks ∙ last.1.1)
            ∙ ap (λ m. Ok (ticks, m, comes.vars)) last.1.2;
        returns = subst (λ l. Returns rets flat.rets l comes.vars) last.1.3 (returned t.vars comes.vars comes.agrees);
      }
