-- One turn of a loop.
use Rattle.std.proofs.Common.{◌≡◌, refl, sym, ap, ◌∙◌, arith, ℕ, zero, suc, ◌+◌, ◌-◌, ◌<◌, Option, Some}
use Rattle.bed_syntax.specs.Weight.{expr_weight}
use Rattle.bed_syntax.specs.declared.weights.Weights.{Weights}
use Rattle.bed_syntax.specs.declared.expression.BExpr.{BExpr}
use Rattle.bed_meaning.specs.Value.{value}
use Rattle.bed_meaning.specs.State.{State, spend}
use Rattle.bed_meaning.specs.Meaning.{Rule, turns, loop_of}
use Rattle.std.specs.Prelude.{Ok}
use Rattle.bed_meaning.specs.Fuelled.{and_then, given, take_one, fuelled, choose}

abbrev pub left : State → ℕ → ℕ → State
left s fuel ticks = record { fuel = fuel; ticks = ticks; mem = s.mem; vars = s.vars }

turned : (m : ℕ) (test : State → Option ℕ) (price : ℕ) (body : Rule) (s : State) (v f : ℕ) → test s ≡ Some (suc v)
    → s.fuel ≡ suc f
    → turns (suc m) test price body s ≡ and_then (body (left s f (s.ticks + price))) (turns m test price body)
turned m test price body s v f is some =
    ap (λ o. given o (λ n. choose n (fuelled (λ t. and_then (body t) (turns m test price body))) (λ t. Ok t) (spend price s))) is
    ∙ ap (λ n. take_one n (spend price s) (λ t. and_then (body t) (turns m test price body))) some

-- a test that is not 0 is followed by a turn
pub goes_round : (w : Weights) (n c : ℕ) (e : BExpr) (body : Rule) (s : State) (v f t : ℕ)
    → c < n → value e s.mem s.vars ≡ Some v → (v ≡ 0 → ⊥) → s.fuel ≡ suc f → t ≡ s.ticks + (expr_weight w e + w.turn)
    → loop_of w (n - c) e body s ≡ and_then (body (left s f t)) (loop_of w (n - (c + 1)) e body)
goes_round w n c e body s zero f t below is some_turn fuel ticks = absurd (some_turn refl)
goes_round w n c e body s (suc v) f t below is some_turn fuel ticks =
    let k : n - c ≡ suc (n - (c + 1)) = omega arith in
    ap (λ i. loop_of w i e body s) k
    ∙ turned (n - (c + 1)) (λ u. value e u.mem u.vars) (expr_weight w e + w.turn) body s v f is fuel
    ∙ ap (λ i. and_then (body (left s f i)) (loop_of w (n - (c + 1)) e body)) (sym ticks)

-- a test that is 0 ends the loop
pub goes_on : (w : Weights) (n c : ℕ) (e : BExpr) (body : Rule) (s : State) (v t : ℕ)
    → c < n → value e s.mem s.vars ≡ Some v → v ≡ 0 → t ≡ s.ticks + (expr_weight w e + w.turn)
    → loop_of w (n - c) e body s ≡ Ok (left s s.fuel t)
goes_on w n c e body s v t below is no_turn ticks =
    let k : n - c ≡ suc (n - (c + 1)) = omega arith in
    let zeroed : value e s.mem s.vars ≡ Some 0 = is ∙ ap (λ i. Some i) no_turn in
    ap (λ i. loop_of w i e body s) k
    ∙ ap (λ o. given o (λ i. choose i (fuelled (λ u. and_then (body u) (loop_of w (n - (c + 1)) e body))) (λ u. Ok u)
    (spend (expr_weight w e + w.turn) s))) zeroed
    ∙ ap (λ i. Ok (left s s.fuel i)) (sym ticks)
