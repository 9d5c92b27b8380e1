-- A derivation that is an instance is accepted, or over a limit: of slots, of the bound or of the size.
use Rattle.std.proofs.Common.{◌≡◌, refl, subst, ℕ, ◌+◌, ◌*◌, Bool, true, false, nat_le, List, [], ◌∷◌, map, Option, Some, None}
use Rattle.std.proofs.Common.{Result, Ok, Err, if◌then◌else◌}
use Rattle.rup_base.specs.Answers.{and_then, and_then_with}
use Rattle.rup_base.specs.declared.refusal.Refusal.{Refusal}
use Rattle.cost_poly.specs.declared.wide.Wide.{Wide}
use Rattle.cost_poly.specs.Polynomial as poly
use Rattle.cost_poly.specs.Polynomial.{term}
use Rattle.side_certs.specs.LinearForm.{LinearForm}
use Rattle.sym_heap.specs.Context.{Context}
use Rattle.sym_heap.specs.Start.{start}
use Rattle.deriv_tree.specs.Measure.{stmt_size, size}
use Rattle.deriv_tree.specs.declared.rule.Rule as deriv
use Rattle.deriv_tree.specs.declared.tree.StmtNode.{StmtNode, out-StmtNode}
use Rattle.deriv_tree.specs.declared.tree.Block.{out-Block}
use Rattle.deriv_tree.specs.declared.tree.Derivation.{Derivation}
use Rattle.bed_syntax.specs.Weight.{expr_weight}
use Rattle.bed_syntax.specs.declared.weights.TheConstants as weights
use Rattle.bed_syntax.specs.declared.weights.Weights.{Weights}
use Rattle.bed_syntax.specs.declared.command.Cmd.{Cmd, Cmd-F, map-Cmd, roll-Cmd, fold-roll-Cmd, ind-Cmd}
use Rattle.bed_syntax.specs.declared.command.Cmd.TheOpen as c
use Rattle.equations.specs.Book.{Turn}
use Rattle.model_syntax.specs.declared.program.Model.{Model}
use Rattle.stmt_rules.specs.declared.output.StmtOut.{StmtOut}
use Rattle.replayer.specs.Bounds.{Poly, Trips, Inside, Priced, sets_on, sets, begun, last_bound, limited_at, constant_of}
use Rattle.replayer.specs.Bounds.{constant_at, sum_at, with_constant, product_at, turned, added, leaving, nodes_of, inside}
use Rattle.replayer.specs.Bounds.{others, gives, is_loop, behind, own_on, own, in_order, choice, loop, priced_step, priced, whole}
use Rattle.replayer.specs.Bounds.{bound}
use Rattle.replayer.specs.Replayed.{few_slots, sized, weight_of, slots_of, limited, replayed, instance}
use Rattle.rup_top.specs.commands.Compile.{AcceptedOrOver}

-- ---- What is no refusal, or over a limit.

abbrev Over : {A : Type 0} → Result A Refusal → Type 0
Over r = AcceptedOrOver r

then_over : {A B : Type 0} (first : Result A Refusal) (next : A → Result B Refusal) → Over first → ((a : A) → Over (next a))
    → Over (and_then first next)
then_over (Ok a) next one two = two a
then_over (Err r) next one two = one

with_over : {A B S : Type 0} (first : Result (A × S) Refusal) (next : A → S → Result (B × S) Refusal) → Over first
    → ((a : A) (s : S) → Over (next a s)) → Over (and_then_with first next)
with_over (Ok both) next one two = two both.0 both.1
with_over (Err r) next one two = one

-- ---- Sums and products.

at_over : (at : ℕ) (r : Result Poly Wide) → Over (limited_at at r)
at_over at (Ok p) = tt
at_over at (Err wide) = tt

number_over : (at n : ℕ) (o : Option Poly) → Over (constant_of at n o)
number_over at n (Some p) = tt
number_over at n None = tt

constant_over : (at n : ℕ) → Over (constant_at at n)
constant_over at n = number_over at n (term None None n)

sum_over : (at : ℕ) (p q : Poly) → Over (sum_at at p q)
sum_over at p q = at_over at (poly.within (poly.sum p q))

more_over : (at : ℕ) (p : Poly) (n : ℕ) → Over (with_constant at p n)
more_over at p n = then_over (constant_at at n) (λ q. sum_at at p q) (constant_over at n) (λ q. sum_over at p q)

turned_over : (at : ℕ) (p : Poly) (t : LinearForm) (n : ℕ) → Over (turned at p t n)
turned_over at p t n = then_over (product_at at p t) (λ turns. with_constant at turns n) (at_over at (poly.scaled p t))
    (λ turns. more_over at turns n)

added_over : (at : ℕ) (so_far : Result Poly Refusal) (p : Poly) → Over so_far → Over (added at so_far p)
added_over at so_far p is = then_over so_far (λ s. sum_at at s p) is (λ s. sum_over at s p)

leaving_over : (ts : Trips) (made : Result Poly Refusal) → Over made → Over (leaving ts made)
leaving_over ts made is = then_over made (λ p. Ok (p, ts)) is (λ p. tt)

-- ---- Commands.

abbrev Bounded : Priced → Type 0
Bounded p = (at more : ℕ) (within : Inside) (ts : Trips) → Over (p.bound at more within ts)

abbrev All : List Priced → Type 0
All [] = Unit {0}
All (p ∷ cs) = Bounded p × All cs

sets_on_all : (o : Option ℕ) (rest : ℕ → ℕ × List Priced) (cs : List Priced) (held : ℕ) → ((n : ℕ) → All (rest n).1) → All cs
    → All (sets_on o rest cs held).1
sets_on_all (Some n) rest cs held more all = more (held + n)
sets_on_all None rest cs held more all = all

sets_all : (cs : List Priced) (held : ℕ) → All cs → All (sets cs held).1
sets_all [] held all = tt
sets_all (p ∷ cs) held all = sets_on_all p.weight (sets cs) (p ∷ cs) held (λ n. sets_all cs n all.1) all

begun_by : (b : Bool) (cs : List Priced) → All cs → All (if b then sets cs 0 else (0, cs)).1
begun_by true cs all = sets_all cs 0 all
begun_by false cs all = all

begun_all : (r : deriv.Rule) (cs : List Priced) → All cs → All (begun r cs).1
begun_all r cs all = begun_by (is_loop r) cs all

behind_all : (cs : List Priced) → All cs → All (behind cs)
behind_all [] all = tt
behind_all (p ∷ cs) all = all.1

last_over : (at : ℕ) (within : Inside) (held : ℕ) (cs : List Priced) (ts : Trips) → All cs
    → Over (last_bound at within (held, cs) ts)
last_over at within held [] ts all = leaving_over ts (constant_at at held) (constant_over at held)
last_over at within held (p ∷ cs) ts all = all.0 at held within ts

own_on_over : (at : ℕ) (o : Option ℕ) (p : Priced) (cs : List Priced) → Bounded p → All cs
    → (more : ℕ) (so_far : Result Poly Refusal) (ts : Trips) → Over so_far
    → ((m : ℕ) (s : Result Poly Refusal) (us : Trips) → Over s → Over (own at cs m s us))
    → Over (own_on o (own at cs) p at more so_far ts)
own_on_over at (Some n) p cs one all more so_far ts is rest = rest (more + n) so_far ts is
own_on_over at None p cs one all more so_far ts is rest =
    with_over (p.bound at 0 (0, []) ts) (λ q left. own at cs more (added at so_far q) left) (one at 0 (0, []) ts)
    (λ q left. rest more (added at so_far q) left (added_over at so_far q is))

own_over : (at : ℕ) (cs : List Priced) → All cs → (more : ℕ) (so_far : Result Poly Refusal) (ts : Trips) → Over so_far
    → Over (own at cs more so_far ts)
own_over at [] all more so_far ts is =
    leaving_over ts (and_then so_far (λ s. with_constant at s more))
    (then_over so_far (λ s. with_constant at s more) is (λ s. more_over at s more))
own_over at (p ∷ cs) all more so_far ts is =
    own_on_over at p.weight p cs all.0 all.1 more so_far ts is (λ m s us h. own_over at cs all.1 m s us h)

nodes_over : (at more : ℕ) (ns : List StmtNode) (k : ℕ) (cs : List Priced) → All cs → (so_far : Result Poly Refusal) (ts : Trips)
    → Over so_far → Over (in_order at more k ns cs so_far ts)
nodes_over at more [] k cs all so_far ts is = own_over at cs all more so_far ts is
nodes_over at more (n ∷ ns) k cs all so_far ts is =
    by (gives (out-StmtNode n).step.rule) refl (λ ds each s us h. nodes_over at more ns (k + stmt_size n) ds each s us h)
  where
    by : (b : Bool) → gives (out-StmtNode n).step.rule ≡ b
        → ((ds : List Priced) → All ds → (s : Result Poly Refusal) (us : Trips) → Over s
        → Over (in_order at more (k + stmt_size n) ns ds s us))
        → Over (in_order at more k (n ∷ ns) cs so_far ts)
    by true e rest =
        let split = begun_all (out-StmtNode n).step.rule cs all in
        rw e (with_over (last_bound k (inside k n) (begun (out-StmtNode n).step.rule cs) ts)
        (λ p left. in_order at more (k + stmt_size n) ns (behind (begun (out-StmtNode n).step.rule cs).1) (added at so_far p)
        left)
        (last_over k (inside k n) (begun (out-StmtNode n).step.rule cs).0 (begun (out-StmtNode n).step.rule cs).1 ts split)
        (λ p left. rest (behind (begun (out-StmtNode n).step.rule cs).1)
        (behind_all (begun (out-StmtNode n).step.rule cs).1 split) (added at so_far p) left (added_over at so_far p is)))
    by false e rest = rw e (rest cs all so_far ts is)

choice_over : (test : ℕ) (p q : Priced) → Bounded p → Bounded q → (at more : ℕ) (within : Inside) (ts : Trips)
    → Over (choice test p q at more within ts)
choice_over test p q one two at more within ts =
    with_over (p.bound at 0 within ts) _ (one at 0 within ts)
    (λ a left. with_over (q.bound at 0 (others within) left) _ (two at 0 (others within) left)
    (λ b rest. leaving_over rest _ (more_over at _ (more + test))))

loop_over : (test : ℕ) (p : Priced) → Bounded p → (at more : ℕ) (within : Inside) (ts : Trips)
    → Over (loop test p at more within ts)
loop_over test p one at more within [] = leaving_over [] (constant_at at more) (constant_over at more)
loop_over test p one at more within (t ∷ ts) =
    with_over (p.bound at test within ts) _ (one at test within ts)
    (λ body left. leaving_over left _ (turned_over at body t (more + test)))

module _ (w : Weights) where
  abbrev Right : Cmd → Type 0
  Right a = Bounded (priced w a)

  abbrev Proved : Type 0
  Proved = (a : Cmd) × Right a

  abbrev bare : Cmd-F Proved → Cmd-F Cmd
  bare y = map-Cmd Proved Cmd (λ p. p.0) y

  all_right : (cs : List Proved) → All (map (priced w) (map (λ p. p.0) cs))
  all_right [] = tt
  all_right (a ∷ cs) = (a.1, all_right cs)

  step_right : (y : Cmd-F Proved) → Bounded (priced_step w (map-Cmd Cmd Priced (priced w) (bare y)))
  step_right (c.Set x e) at more within ts = leaving_over ts _ (constant_over at _)
  step_right (c.Store size a e) at more within ts = leaving_over ts _ (constant_over at _)
  step_right (c.Cond e p q) at more within ts =
      choice_over (expr_weight w e + w.test) (priced w p.0) (priced w q.0) p.1 q.1 at more within ts
  step_right (c.Seq cs) at more within ts =
      nodes_over at more (nodes_of within.1) within.0 (map (priced w) (map (λ p. p.0) cs)) (all_right cs) (Ok []) ts tt
  step_right (c.While e p) at more within ts = loop_over (expr_weight w e + w.turn) (priced w p.0) p.1 at more within ts

  rolled : (y : Cmd-F Cmd) → Bounded (priced_step w (map-Cmd Cmd Priced (priced w) y)) → Right (roll-Cmd y)
  rolled y h = rw (fold-roll-Cmd Priced (priced_step w) y) h

  right : (a : Cmd) → Right a
  right = ind-Cmd Right (λ z y is. subst (λ r. Right (roll-Cmd r)) is (rolled (bare y) (step_right y)))

  are_right : (cs : List Cmd) → All (map (priced w) cs)
  are_right [] = tt
  are_right (a ∷ cs) = (right a, are_right cs)

  bound_over : (d : Derivation) (cs : List Cmd) (ts : Trips) → Over (bound w d cs ts)
  bound_over d cs ts =
      then_over (whole w d cs ts) (λ made. Ok made.0)
      (nodes_over (size d) 0 (out-Block d.body).nodes 0 (map (priced w) cs) (are_right cs) (constant_at (size d) w.entry) ts
      (constant_over (size d) w.entry)) (λ made. tt)

-- ---- The limits.

slots_over : (n : ℕ) → Over (few_slots n)
slots_over n = by (nat_le n 400) refl
  where
    by : (b : Bool) → nat_le n 400 ≡ b → Over (few_slots n)
    by true e = rw e tt
    by false e = rw e tt

sized_over : (weight most : ℕ) → Over (sized weight most)
sized_over weight most = by (nat_le (4 * weight) most) refl
  where
    by : (b : Bool) → nat_le (4 * weight) most ≡ b → Over (sized weight most)
    by true e = rw e tt
    by false e = rw e tt

limited_over : (m : Model) (d : Derivation) (most : ℕ) (out : StmtOut) (after : Context) → Over (limited m d most out after)
limited_over m d most out after =
    then_over (few_slots (slots_of m out after)) _ (slots_over (slots_of m out after)) (λ few.
    then_over (bound weights.Weights.LARGE d out.cmds out.trips) _ (bound_over weights.Weights.LARGE d out.cmds out.trips)
    (λ steps.
    then_over (sized (weight_of out) most) _ (sized_over (weight_of out) most) (λ small. tt)))

pub instance_over : (turn : Turn) (m : Model) (d : Derivation) (out : StmtOut) (after : Context) (most : ℕ)
    → instance turn m d (start m) ≡ Ok (out, after) → AcceptedOrOver (replayed turn m d most)
instance_over turn m d out after most is = rw is (limited_over m d most out after)
