-- The meaning of three-address code, with fuel and ticks: each statement and each turn of a loop takes one from the fuel,
-- and each statement costs its own weight.
use Rattle.std.specs.Prelude.{ℕ, zero, suc, List, [], ◌∷◌, map, Option, Some, None, Result, Ok, Err, slice_get}
use Rattle.std.specs.Ordering.{nat_cmp}
use Rattle.std.specs.FinMap.{FinMap, get}
use Rattle.bed_meaning.specs.Fuelled.{and_then, given, fuelled, choose, in_turn, finish, Doing, Ended}
use Rattle.bed_meaning.specs.State.{spend, with_mem}
use Rattle.rv_memory.specs.Ranges.{Bytes}
use Rattle.bed_syntax.specs.Operation.{apply}
use Rattle.bed_syntax.specs.declared.weights.Weights.{Weights}
use Rattle.bed_meaning.specs.declared.halt.Halt.{Halt}
use Rattle.bed_meaning.specs.declared.halt.Halt.TheVariants.{Stuck, OutOfFuel}
use Rattle.bed_meaning.specs.Access.{loaded, entry, store}
use Rattle.flat_lang.specs.declared.flat.FStmt.{FStmt, FStmt-F, fold-FStmt}
use Rattle.flat_lang.specs.declared.flat.FStmt.TheOpen as f
use Rattle.flat_lang.specs.declared.flat.Flat.{Flat}
use Rattle.flat_lang.specs.State.{State, Vars, with_var}

-- what a statement does: the state after it, or why there is none
abbrev pub Rule : Type 0
Rule = Doing (FinMap nat_cmp ℕ)

-- a variable is set, at a price
abbrev pub sets : ℕ → ℕ → ℕ → Rule
sets price x v s = Ok (with_var x v (spend price s))

-- a loop with at most so many tests: what is done before a test, the variable that is tested, its price, and the body
abbrev pub turns : ℕ → Rule → ℕ → ℕ → Rule → Rule
turns zero before x price body s = Err OutOfFuel
turns (suc n) before x price body s =
    and_then (before s) (λ t. given (get t.vars x)
    (λ v. choose v (fuelled (λ u. and_then (body u) (turns n before x price body))) (λ u. Ok u) (spend price t)))

-- a statement over the bytes of the tables
abbrev pub run_step : Weights → List (List ℕ) → FStmt-F Rule → Rule
run_step w tables (f.Lit x n) = fuelled (λ s. sets w.literal x n s)
run_step w tables (f.Copy x y) = fuelled (λ s. given (get s.vars y) (λ v. sets w.variable x v s))
run_step w tables (f.Bin op x y z) =
    fuelled (λ s. given (get s.vars y) (λ a. given (get s.vars z) (λ b. sets w.operation x (apply op a b) s)))
run_step w tables (f.Load size x y) =
    fuelled (λ s. given (get s.vars y) (λ at. given (loaded size s.mem at) (λ v. sets w.load x v s)))
run_step w tables (f.Table size x k y) =
    fuelled (λ s. given (get s.vars y)
    (λ at. given (slice_get tables k) (λ bytes. given (entry size bytes at) (λ v. sets w.table x v s))))
run_step w tables (f.Store size x y) =
    fuelled (λ s. given (get s.vars x)
    (λ at. given (get s.vars y) (λ v. given (store size s.mem at v) (λ mem. Ok (with_mem mem (spend w.store s))))))
run_step w tables (f.If x a b) = fuelled (λ s. given (get s.vars x) (λ v. choose v (in_turn a) (in_turn b) (spend w.test s)))
run_step w tables (f.While a x b) = λ s. fuelled (turns s.fuel (in_turn a) x w.turn (in_turn b)) s

abbrev pub run : Weights → List (List ℕ) → FStmt → Rule
run w tables = fold-FStmt Rule (run_step w tables)

-- statements one after another
abbrev pub run_all : Weights → List (List ℕ) → List FStmt → Rule
run_all w tables body = in_turn (map (run w tables) body)

-- the ticks, the memory and the variables at the end
abbrev pub End : Type 0
End = Ended (FinMap nat_cmp ℕ)

-- the whole run of a code
abbrev pub exec : Weights → Flat → ℕ → Bytes → Vars → End
exec w flat fuel mem vars = finish (run_all w flat.tables flat.body (record { fuel = fuel; ticks = 0; mem = mem; vars = vars }))
