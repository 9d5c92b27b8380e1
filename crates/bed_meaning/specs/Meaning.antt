-- The meaning of commands (Bedrock2's commands without interaction and calls), with fuel and ticks.
use Rattle.std.specs.Prelude.{ℕ, zero, suc, ◌+◌, List, [], ◌∷◌, Option, Some, None, Result, Ok, Err}
use Rattle.bed_meaning.specs.Fuelled.{and_then, given, fuelled, choose, in_turn, finish, Doing, Ended}
use Rattle.rv_memory.specs.Ranges.{Bytes}
use Rattle.bed_syntax.specs.Weight.{expr_weight}
use Rattle.bed_syntax.specs.declared.weights.Weights.{Weights}
use Rattle.bed_syntax.specs.declared.expression.BExpr.{BExpr}
use Rattle.bed_syntax.specs.declared.command.Cmd.{Cmd, Cmd-F, fold-Cmd}
use Rattle.bed_syntax.specs.declared.command.Cmd.TheOpen as c
use Rattle.bed_meaning.specs.declared.halt.Halt.{Halt}
use Rattle.bed_meaning.specs.declared.halt.Halt.TheVariants.{Stuck, OutOfFuel}
use Rattle.bed_meaning.specs.Access.{store}
use Rattle.bed_meaning.specs.Locals.{Vars, assigned}
use Rattle.bed_meaning.specs.Value.{value}
use Rattle.bed_meaning.specs.State.{State, spend, with_vars, with_mem}

-- what a command does: the state after it, or why there is none
abbrev pub Rule : Type 0
Rule = Doing Vars

-- a loop with at most so many tests: a test costs its price, and a turn takes one from the fuel
abbrev pub turns : ℕ → (State → Option ℕ) → ℕ → Rule → Rule
turns zero test price body s = Err OutOfFuel
turns (suc n) test price body s =
    given (test s) (λ v. choose v (fuelled (λ t. and_then (body t) (turns n test price body))) (λ t. Ok t) (spend price s))

-- the loop of an expression and a body
abbrev pub loop_of : Weights → ℕ → BExpr → Rule → Rule
loop_of w n e body = turns n (λ s. value e s.mem s.vars) (expr_weight w e + w.turn) body

-- the number of tests of a loop is at most the fuel, so that it never ends a loop before the fuel does
abbrev pub run_step : Weights → Cmd-F Rule → Rule
run_step w (c.Set x e) =
    fuelled (λ s. given (value e s.mem s.vars)
    (λ v. given (assigned x v s.vars) (λ vars. Ok (with_vars vars (spend (expr_weight w e + w.set) s)))))
run_step w (c.Store size a e) =
    fuelled (λ s. given (value a s.mem s.vars)
    (λ at. given (value e s.mem s.vars)
    (λ v. given (store size s.mem at v) (λ mem. Ok (with_mem mem (spend (expr_weight w a + expr_weight w e + w.store) s))))))
run_step w (c.Cond e p q) =
    fuelled (λ s. given (value e s.mem s.vars) (λ v. choose v p q (spend (expr_weight w e + w.test) s)))
run_step w (c.Seq cs) = fuelled (in_turn cs)
run_step w (c.While e p) = λ s. fuelled (loop_of w s.fuel e p) s

abbrev pub run : Weights → Cmd → Rule
run w = fold-Cmd Rule (run_step w)

-- the ticks, the memory and the locals at the end
abbrev pub End : Type 0
End = Ended Vars

-- the whole run of a command
abbrev pub exec : Weights → ℕ → Cmd → Bytes → Vars → End
exec w fuel c mem vars = finish (run w c (record { fuel = fuel; ticks = 0; mem = mem; vars = vars }))
