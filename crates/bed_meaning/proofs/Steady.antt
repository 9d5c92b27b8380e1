-- A run with more fuel ends as the run with less does, with so much more left, unless that ran out of it.
use Rattle.std.proofs.Common.{◌≡◌, refl, sym, ap, subst, arith, ℕ, zero, suc, ◌+◌, List, [], ◌∷◌, map, Option, Some, None, Result}
use Rattle.std.proofs.Common.{Ok, Err}
use Rattle.bed_meaning.specs.Fuelled.{and_then, given, take_one, fuelled, choose, in_turn, finish}
use Rattle.rv_memory.specs.Ranges.{Bytes}
use Rattle.bed_syntax.specs.Weight.{expr_weight}
use Rattle.bed_syntax.specs.declared.weights.Weights.{Weights}
use Rattle.bed_syntax.specs.declared.command.Cmd.{Cmd, Cmd-F, fold-roll-Cmd, map-Cmd, roll-Cmd, ind-Cmd}
use Rattle.bed_syntax.specs.declared.command.Cmd.TheOpen as c
use Rattle.bed_meaning.specs.declared.halt.Halt.{Halt}
use Rattle.bed_meaning.specs.declared.halt.Halt.TheVariants.{Stuck, OutOfFuel}
use Rattle.bed_meaning.specs.Access.{store}
use Rattle.bed_meaning.specs.Locals.{Vars, assigned}
use Rattle.bed_meaning.specs.Value.{value}
use Rattle.bed_meaning.specs.State.{State, spend}
use Rattle.bed_meaning.specs.Meaning.{Rule, turns, run_step, run}
use Rattle.bed_meaning.specs.MoreFuel.{Keeps, KeepsWithMoreFuel}

abbrev plus : ℕ → State → State
plus k s = record { fuel = s.fuel + k; ticks = s.ticks; mem = s.mem; vars = s.vars }

-- the second answer is the first with k more fuel left, unless the first ran out
abbrev Same : ℕ → Result State Halt → Result State Halt → Type 0
Same k (Ok s) answer = answer ≡ Ok (plus k s)
Same k (Err Stuck) answer = answer ≡ Err Stuck
Same k (Err OutOfFuel) answer = Unit {0}

-- the second rule does with more fuel what the first does
abbrev Follows : Rule → Rule → Type 0
Follows first second = (k : ℕ) (s : State) → Same k (first s) (second (plus k s))

then_same : (k : ℕ) (a b : Result State Halt) (first second : Rule) → Same k a b → Follows first second
    → Same k (and_then a first) (and_then b second)
then_same k (Ok s) b first second h follows = subst (λ r. Same k (first s) (and_then r second)) (sym h) (follows k s)
then_same k (Err Stuck) b first second h follows = ap (λ r. and_then r second) h
then_same k (Err OutOfFuel) b first second h follows = tt

given_same : {A : Type 0} (k : ℕ) (o : Option A) (first second : A → Result State Halt) → ((x : A) → Same k (first x) (second x))
    → Same k (given o first) (given o second)
given_same k None first second h = refl
given_same k (Some x) first second h = h x

took_same : (k n : ℕ) (s : State) (first second : Rule) → Follows first second
    → Same k (take_one n s first) (take_one (n + k) (plus k s) second)
took_same k zero s first second follows = tt
took_same k (suc n) s first second follows =
    let e : suc (n + k) ≡ suc n + k = omega arith in
    let rest : State = record { fuel = n; ticks = s.ticks; mem = s.mem; vars = s.vars } in
    subst (λ m. Same k (first rest) (take_one m (plus k s) second)) e (follows k rest)

fuelled_same : (first second : Rule) → Follows first second → Follows (fuelled first) (fuelled second)
fuelled_same first second follows = λ k s. took_same k s.fuel s first second follows

choose_same : (v : ℕ) (a b p q : Rule) → Follows a b → Follows p q → Follows (choose v a p) (choose v b q)
choose_same zero a b p q f g = g
choose_same (suc v) a b p q f g = f

turns_same : (n d : ℕ) (test : Bytes → Vars → Option ℕ) (price : ℕ) (body : Rule) → Follows body body
    → Follows (turns n (λ s. test s.mem s.vars) price body) (turns (n + d) (λ s. test s.mem s.vars) price body)
turns_same zero d test price body follows = λ k s. tt
turns_same (suc n) d test price body follows = λ k s.
    let e : suc (n + d) ≡ suc n + d = omega arith in
    let next : Follows (λ t. and_then (body t) (turns n (λ u. test u.mem u.vars) price body))
    (λ t. and_then (body t) (turns (n + d) (λ u. test u.mem u.vars) price body)) =
    λ j t. then_same j (body t) (body (plus j t)) _ _ (follows j t) (turns_same n d test price body follows) in
    subst (λ m. Same k (turns (suc n) (λ u. test u.mem u.vars) price body s)
    (turns m (λ u. test u.mem u.vars) price body (plus k s))) e
    (given_same k (test s.mem s.vars) _ _ (λ v. choose_same v _ _ _ _ (fuelled_same _ _ next) (λ j t. refl) k (spend price s)))

abbrev Proved : Weights → Type 0
Proved w = (c : Cmd) × Follows (run w c) (run w c)

abbrev bare : (w : Weights) → Cmd-F (Proved w) → Cmd-F Cmd
bare w y = map-Cmd (Proved w) Cmd (λ p. p.0) y

all_same : (w : Weights) (cs : List (Proved w))
    → Follows (in_turn (map (run w) (map (λ p. p.0) cs))) (in_turn (map (run w) (map (λ p. p.0) cs)))
all_same w [] = λ k s. refl
all_same w (c ∷ cs) = λ k s. then_same k _ _ _ _ (c.1 k s) (all_same w cs)

step_same : (w : Weights) (y : Cmd-F (Proved w))
    → Follows (run_step w (map-Cmd Cmd Rule (run w) (bare w y))) (run_step w (map-Cmd Cmd Rule (run w) (bare w y)))
step_same w (c.Set x e) =
    fuelled_same _ _ (λ k s. given_same k (value e s.mem s.vars) _ _ (λ v. given_same k (assigned x v s.vars) _ _ (λ vars. refl)))
step_same w (c.Store size a e) =
    fuelled_same _ _ (λ k s. given_same k (value a s.mem s.vars) _ _
    (λ at. given_same k (value e s.mem s.vars) _ _ (λ v. given_same k (store size s.mem at v) _ _ (λ mem. refl))))
step_same w (c.Cond e p q) =
    fuelled_same _ _ (λ k s. given_same k (value e s.mem s.vars) _ _
    (λ v. choose_same v _ _ _ _ p.1 q.1 k (spend (expr_weight w e + w.test) s)))
step_same w (c.Seq cs) = fuelled_same _ _ (all_same w cs)
step_same w (c.While e p) = λ k s.
    took_same k s.fuel s _ _ (turns_same s.fuel k (value e) (expr_weight w e + w.turn) (run w p.0) p.1)

node_same : (w : Weights) (y : Cmd-F (Proved w)) → Follows (run w (roll-Cmd (bare w y))) (run w (roll-Cmd (bare w y)))
node_same w y = subst (λ r. Follows r r) (sym (fold-roll-Cmd Rule (run_step w) (bare w y))) (step_same w y)

run_same : (w : Weights) (c : Cmd) → Follows (run w c) (run w c)
run_same w = ind-Cmd (λ c. Follows (run w c) (run w c))
    (λ x y is. subst (λ z. Follows (run w (roll-Cmd z)) (run w (roll-Cmd z))) is (node_same w y))

finish_same : (k : ℕ) (a b : Result State Halt) → Same k a b → Keeps (finish a) (finish b)
finish_same k (Ok s) b h = ap finish h
finish_same k (Err Stuck) b h = ap finish h
finish_same k (Err OutOfFuel) b h = tt

pub more_fuel : (w : Weights) (c : Cmd) → KeepsWithMoreFuel w c
more_fuel w c fuel more mem vars =
    let start : State = record { fuel = fuel; ticks = 0; mem = mem; vars = vars } in
    finish_same more (run w c start) (run w c (plus more start)) (run_same w c more start)
