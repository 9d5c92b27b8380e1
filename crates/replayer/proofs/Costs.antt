-- Commands cost at most the value of their bound, for whichever nodes it
-- was made, where each trip form is over the entry symbols.
use Rattle.std.proofs.Common.{◌≡◌, refl, sym, ◌∙◌, ap, subst, arith, ℕ, ◌+◌, ◌*◌, ◌≤◌, mul-le-mul, Bool, true, false, List, []}
use Rattle.std.proofs.Common.{◌∷◌, map, Option, Some, None, Result, Ok, Err, ℤ, pos, negsuc, ◌*ℤ◌, slice_index_or}
use Rattle.std.specs.List.{list_all}
use Rattle.std.proofs.lemmas.Int.{ints}
use Rattle.rup_base.specs.Answers.{and_then, and_then_with}
use Rattle.rup_base.specs.declared.refusal.Refusal.{Refusal}
use Rattle.rup_base.specs.declared.refusal.Refusal.TheVariants.{OverBound}
use Rattle.side_certs.specs.LinearForm.{LinearForm, value_at}
use Rattle.cost_poly.specs.declared.wide.Wide.{Wide}
use Rattle.cost_poly.specs.Polynomial as poly
use Rattle.cost_poly.specs.Polynomial.{BoundFrom, at, term}
use Rattle.cost_poly.proofs.laws.Operations.{is_entry_form_of, sum_made, greater_made, product_made, number_made}
use Rattle.cost_poly.proofs.laws.Places.{and_parts}
use Rattle.sym_heap.specs.Fits.{Call}
use Rattle.deriv_tree.specs.Measure.{stmt_size, size}
use Rattle.deriv_tree.specs.declared.rule.Rule as deriv
use Rattle.deriv_tree.specs.declared.tree.StmtNode.{StmtNode, out-StmtNode}
use Rattle.deriv_tree.specs.declared.tree.Block.{out-Block}
use Rattle.deriv_tree.specs.declared.tree.Derivation.{Derivation}
use Rattle.bed_syntax.specs.Weight.{expr_weight}
use Rattle.bed_syntax.specs.declared.weights.Weights.{Weights}
use Rattle.bed_syntax.specs.declared.command.Cmd.{Cmd, Cmd-F, map-Cmd, roll-Cmd, fold-roll-Cmd, ind-Cmd}
use Rattle.bed_syntax.specs.declared.command.Cmd.TheOpen as c
use Rattle.stmt_rules.specs.Bound.{Cost, cost, cost_step, cost_all, sides, loop, nat_of, trip_at}
use Rattle.replayer.specs.Bounds as bounds
use Rattle.replayer.specs.Bounds.{Poly, Trips, Made, Inside, Priced, sets_on, limited_at, sum_at, constant_of, constant_at}
use Rattle.replayer.specs.Bounds.{with_constant, turned, added, leaving, nodes_of, inside, others, gives, is_loop, plain, sets}
use Rattle.replayer.specs.Bounds.{begun, last_bound, behind, own, in_order, choice, priced_step, priced, whole, bound}
use Rattle.replayer.proofs.Answered.{both_answered}

-- each trip form is over the first entry symbols, with no negative number
abbrev pub are_entries : ℕ → Trips → Bool
are_entries count ts = list_all (is_entry_form_of count) ts

-- What was made.

record Went {A B S : Type 0} (r : Result (A × S) Refusal) (next : A → S → Result B Refusal) (end_ : B) : Type 0 where
  value : A
  state : S
  first : r ≡ Ok (value, state)
  rest : next value state ≡ Ok end_

went : {A B S : Type 0} (r : Result (A × S) Refusal) (next : A → S → Result (B × S) Refusal) (end_ : B × S)
    → and_then_with r next ≡ Ok end_ → Went r next end_
went (Ok both) next end_ is = record { value = both.0; state = both.1; first = refl; rest = is }
went (Err refusal) next end_ is = absurd (let bad : Err refusal ≡ Ok end_ = is in cc)

limited_ok : (node : ℕ) (r : Result Poly Wide) (p : Poly) → limited_at node r ≡ Ok p → r ≡ Ok p
limited_ok node (Ok q) p is = let same_one : q ≡ p = cc in ap Ok same_one
limited_ok node (Err wide) p is = absurd (let bad : Err (OverBound node wide.degree wide.coefficient) ≡ Ok p = is in cc)

number_ok : (node n : ℕ) (o : Option Poly) (p : Poly) → constant_of node n o ≡ Ok p → o ≡ Some p
number_ok node n (Some q) p is = let same_one : q ≡ p = cc in ap Some same_one
number_ok node n None p is = absurd (let bad : Err (OverBound node 0 n) ≡ Ok p = is in cc)

left_ok : (ts : Trips) (r : Result Poly Refusal) (p : Poly) (left : Trips) → leaving ts r ≡ Ok (p, left)
    → (r ≡ Ok p) × (ts ≡ left)
left_ok ts (Ok q) p left is =
    let pair : (q, ts) ≡ (p, left) = cc in
    (ap (λ (z : Poly × Trips). Ok z.0) pair, ap (λ (z : Poly × Trips). z.1) pair)
left_ok ts (Err refusal) p left is = absurd (let bad : Err refusal ≡ Ok (p, left) = is in cc)

-- a number of trips times what a turn takes is at most the product
trips_below : (z : ℤ) (a b k : ℕ) → pos b ≡ pos a *ℤ z → k ≤ a → nat_of z * k ≤ b
trips_below (pos n) a b k is less =
    let whole : b ≡ a * n = omega (arith, ints, is) in
    let same_one : n ≤ n = omega arith in
    let more : n * k ≤ n * a = mul-le-mul same_one less in
    omega (arith, whole, more)
trips_below (negsuc n) a b k is less = omega arith

module _ (w : Weights) (call : Call) (count : ℕ) (few : count ≤ 8) where
  abbrev values : List ℕ
  values = call.entries

  abbrev value : Poly → ℕ
  value p = at values p

  -- Sums and products.

  constant_value : (node n : ℕ) (p : Poly) → constant_at node n ≡ Ok p → BoundFrom 0 count p × (value p ≡ n)
  constant_value node n p is = let made = number_made count n p (number_ok node n (term None None n) p is) in
      (made.0, made.1 values)

  sum_value : (node : ℕ) (p q s : Poly) → BoundFrom 0 count p → BoundFrom 0 count q → sum_at node p q ≡ Ok s
      → BoundFrom 0 count s × (value s ≡ value p + value q)
  sum_value node p q s one two is = let made =
      sum_made count p q s few one two (limited_ok node (poly.within (poly.sum p q)) s is) in (made.0, made.1 values)

  with_value : (node n : ℕ) (p s : Poly) → BoundFrom 0 count p → with_constant node p n ≡ Ok s
      → BoundFrom 0 count s × (value s ≡ value p + n)
  with_value node n p s over is =
      let q = both_answered (constant_at node n) (λ q. sum_at node p q) s is in
      let number = constant_value node n q.0 q.1.0 in
      let all = sum_value node p q.0 s over number.0 q.1.1 in
      (all.0, omega (arith, all.1, number.1))

  turned_value : (node n k : ℕ) (p s : Poly) (t : LinearForm) → BoundFrom 0 count p → is_entry_form_of count t ≡ true
      → k ≤ value p → turned node p t n ≡ Ok s
      → BoundFrom 0 count s × (trip_at call t * k + n ≤ value s)
  turned_value node n k p s t over entry less is =
      let q = both_answered (bounds.product_at node p t) (λ turns. with_constant node turns n) s is in
      let made = product_made count p t q.0 few over entry (limited_ok node (poly.scaled p t) q.0 q.1.0) in
      let all = with_value node n q.0 s made.0 q.1.1 in
      let turns = trips_below (value_at (λ s. slice_index_or call.entries s 0) t) (value p) (value q.0) k (made.1 values) less in
      (all.0, omega (arith, all.1, turns))

  -- What is right.

  -- a cost and a further number are at most a bound, and both leave the same trip forms
  record Holds (k : ℕ × Trips) (more : ℕ) (p : Poly) (left : Trips) : Type 0 where
    most : more + k.0 ≤ value p
    left_is : k.1 ≡ left
    over : BoundFrom 0 count p
    entries : are_entries count left ≡ true

  abbrev Bounds : Cost → bounds.Bound → Type 0
  Bounds k b =
      (node more : ℕ) (within : Inside) (ts : Trips) (p : Poly) (left : Trips) → are_entries count ts ≡ true
      → b node more within ts ≡ Ok (p, left) → Holds (k ts) more p left

  record IsRight (k : Cost) (p : Priced) : Type 0 where
    weight : (n : ℕ) → p.weight ≡ Some n → (ts : Trips) → k ts ≡ (n, ts)
    bound : Bounds k p.bound

  abbrev Right : Cmd → Type 0
  Right a = IsRight (cost w call a) (priced w a)

  abbrev AreRight : List Cmd → Type 0
  AreRight [] = Unit {0}
  AreRight (a ∷ cs) = Right a × AreRight cs

  -- a sum so far, of what costs this
  abbrev SoFar : Result Poly Refusal → ℕ → Type 0
  SoFar so_far n = (s : Poly) → so_far ≡ Ok s → BoundFrom 0 count s × (n ≤ value s)

  -- One bound more, and the end.

  more_so_far : (node n k : ℕ) (so_far : Result Poly Refusal) (p : Poly) → SoFar so_far n → BoundFrom 0 count p → k ≤ value p
      → SoFar (added node so_far p) (n + k)
  more_so_far node n k so_far p holds over less s is =
      let first = both_answered so_far (λ q. sum_at node q p) s is in
      let before = holds first.0 first.1.0 in
      let all = sum_value node first.0 p s before.0 over first.1.1 in
      (all.0, omega (arith, all.1, before.1, less))

  -- a cost that leaves what it found
  ended : (n : ℕ) (ts : Trips) (p : Poly) (left : Trips) → are_entries count ts ≡ true → ts ≡ left → BoundFrom 0 count p
      → n ≤ value p
      → Holds (0, ts) n p left
  ended n ts p left entries is over less = record {
    most = omega (arith, less);
    left_is = is;
    over = over;
    entries = subst (λ z. are_entries count z ≡ true) is entries;
  }

  -- another cost and number that come to no more
  instead : (k l : ℕ × Trips) (m n : ℕ) (p : Poly) (left : Trips) → Holds k m p left → n + l.0 ≤ m + k.0 → l.1 ≡ k.1
      → Holds l n p left
  instead k l m n p left all less same_one = record {
    most = (let most = all.most in omega (arith, most, less));
    left_is = same_one ∙ all.left_is;
    over = all.over;
    entries = all.entries;
  }

  nothing_holds : (node n : ℕ) (ts : Trips) (p : Poly) (left : Trips) → are_entries count ts ≡ true
      → leaving ts (constant_at node n) ≡ Ok (p, left) → Holds (0, ts) n p left
  nothing_holds node n ts p left entries is =
      let end_ = left_ok ts (constant_at node n) p left is in
      let number = constant_value node n p end_.0 in
      ended n ts p left entries end_.1 number.0 (omega (arith, number.1))

  -- The rule's own commands.

  abbrev OwnRight : List Cmd → Type 0
  OwnRight cs =
      (node more n : ℕ) (so_far : Result Poly Refusal) (ts : Trips) (p : Poly) (left : Trips) → SoFar so_far n
      → are_entries count ts ≡ true → own node (map (priced w) cs) more so_far ts ≡ Ok (p, left)
      → Holds (cost_all w call cs ts) (n + more) p left

  own_none : OwnRight []
  own_none node more n so_far ts p left holds entries is =
      let end_ = left_ok ts (and_then so_far (λ s. with_constant node s more)) p left is in
      let sum = both_answered so_far (λ s. with_constant node s more) p end_.0 in
      let before = holds sum.0 sum.1.0 in
      let all = with_value node more sum.0 p before.0 sum.1.1 in
      ended (n + more) ts p left entries end_.1 all.0 (omega (arith, all.1, before.1))

  own_more : (a : Cmd) (cs : List Cmd) → Right a → OwnRight cs → OwnRight (a ∷ cs)
  own_more a cs right rest node more n so_far ts p left holds entries is = by (priced w a).weight refl
    where
      by : (o : Option ℕ) → (priced w a).weight ≡ o → Holds (cost_all w call (a ∷ cs) ts) (n + more) p left
      by (Some m) e =
          let here : own node (map (priced w) cs) (more + m) so_far ts ≡ Ok (p, left) = rw e at is in
          let all = rest node (more + m) n so_far ts p left holds entries here in
          let one : cost w call a ts ≡ (m, ts) = right.weight m e ts in
          rw one (instead (cost_all w call cs ts) (m + (cost_all w call cs ts).0, (cost_all w call cs ts).1) (n + (more + m))
          (n + more) p left
          all (omega arith) refl)
      by None e =
          let next : Poly → Trips → Made = λ q left. own node (map (priced w) cs) more (added node so_far q) left in
          let here : and_then_with ((priced w a).bound node 0 (0, []) ts) next ≡ Ok (p, left) = rw e at is in
          let step = went ((priced w a).bound node 0 (0, []) ts) next (p, left) here in
          let one = right.bound node 0 (0, []) ts step.value step.state entries step.first in
          let spent : ℕ = (cost w call a ts).0 in
          let less : spent ≤ value step.value = (let most = one.most in omega (arith, most)) in
          let all = rest node more (n + spent) (added node so_far step.value) step.state p left
          (more_so_far node n spent so_far step.value holds one.over less) one.entries step.rest in
          let after : Trips → ℕ × Trips = cost_all w call cs in
          rw one.left_is (instead (after step.state) (spent + (after step.state).0, (after step.state).1) (n + spent + more)
          (n + more) p left
          all (omega arith) refl)

  own_right : (cs : List Cmd) → AreRight cs → OwnRight cs
  own_right [] right = own_none
  own_right (a ∷ cs) right = own_more a cs right.0 (own_right cs right.1)

  -- What a node's sets weigh, and its last command.

  record Taken (cs : List Cmd) (taken : ℕ × List Priced) : Type 0 where
    held : ℕ
    rest : List Cmd
    right : AreRight rest
    is : taken ≡ (held, map (priced w) rest)
    spent : (ts : Trips) → (cost_all w call cs ts).0 ≡ held + (cost_all w call rest ts).0
    left : (ts : Trips) → (cost_all w call cs ts).1 ≡ (cost_all w call rest ts).1

  taken_none : (cs : List Cmd) → AreRight cs → Taken cs (0, map (priced w) cs)
  taken_none cs right = record { held = 0; rest = cs; right = right; is = refl; spent = λ ts. omega arith; left = λ ts. refl }

  record Held (cs : List Cmd) (before : ℕ) (taken : ℕ × List Priced) : Type 0 where
    held : ℕ
    rest : List Cmd
    right : AreRight rest
    is : taken ≡ (before + held, map (priced w) rest)
    spent : (ts : Trips) → (cost_all w call cs ts).0 ≡ held + (cost_all w call rest ts).0
    left : (ts : Trips) → (cost_all w call cs ts).1 ≡ (cost_all w call rest ts).1

  held_none : (cs : List Cmd) → AreRight cs → (before : ℕ) → Held cs before (before, map (priced w) cs)
  held_none cs right before = record {
    held = 0;
    rest = cs;
    right = right;
    is = (let none : before ≡ before + 0 = omega arith in ap (λ (n : ℕ). (n, map (priced w) cs)) none);
    spent = λ ts. omega arith;
    left = λ ts. refl;
  }

  held_more : (a : Cmd) (cs : List Cmd) (before m : ℕ) (taken : ℕ × List Priced) → ((ts : Trips) → cost w call a ts ≡ (m, ts))
      → Held cs (before + m) taken → Held (a ∷ cs) before taken
  held_more a cs before m taken costs more = record {
    held = m + more.held;
    rest = more.rest;
    right = more.right;
    is = (let here : before + m + more.held ≡ before + (m + more.held) = omega arith in
        more.is ∙ ap (λ (n : ℕ). (n, map (priced w) more.rest)) here);
    spent = λ ts. rw (costs ts) (let rest = more.spent ts in omega (arith, rest));
    left = λ ts. rw (costs ts) (more.left ts);
  }

  sets_held : (cs : List Cmd) → AreRight cs → (before : ℕ) → Held cs before (sets (map (priced w) cs) before)
  sets_held [] right before = held_none [] right before
  sets_held (a ∷ cs) right before = by (λ m. sets_held cs right.1 m) (priced w a).weight refl where
    by : ((m : ℕ) → Held cs m (sets (map (priced w) cs) m)) → (o : Option ℕ) → (priced w a).weight ≡ o
        → Held (a ∷ cs) before (sets_on (priced w a).weight (sets (map (priced w) cs)) (map (priced w) (a ∷ cs)) before)
    by rest (Some m) e =
        subst (λ (o : Option ℕ). Held (a ∷ cs) before (sets_on o (sets (map (priced w) cs)) (map (priced w) (a ∷ cs)) before))
        (sym e)
        (held_more a cs before m (sets (map (priced w) cs) (before + m)) (right.0.weight m e) (rest (before + m)))
    by rest None e =
        subst (λ (o : Option ℕ). Held (a ∷ cs) before (sets_on o (sets (map (priced w) cs)) (map (priced w) (a ∷ cs)) before))
        (sym e) (held_none (a ∷ cs) right before)

  begun_taken : (r : deriv.Rule) (cs : List Cmd) → AreRight cs → Taken cs (begun r (map (priced w) cs))
  begun_taken r cs right = by (is_loop r) refl where
    by : (b : Bool) → is_loop r ≡ b → Taken cs (begun r (map (priced w) cs))
    by true e =
        let all = sets_held cs right 0 in
        let same_one : 0 + all.held ≡ all.held = omega arith in
        let is : sets (map (priced w) cs) 0 ≡ (all.held, map (priced w) all.rest) =
        all.is ∙ ap (λ (n : ℕ). (n, map (priced w) all.rest)) same_one in
        rw e (record { held = all.held; rest = all.rest; right = all.right; is = is; spent = all.spent; left = all.left })
    by false e = rw e (taken_none cs right)

  -- Nodes in order.

  abbrev Sums : List StmtNode → Type 0
  Sums ns =
      (cs : List Cmd) → AreRight cs → (node more k n : ℕ) (so_far : Result Poly Refusal) (ts : Trips) (p : Poly) (left : Trips)
      → SoFar so_far n → are_entries count ts ≡ true → in_order node more k ns (map (priced w) cs) so_far ts ≡ Ok (p, left)
      → Holds (cost_all w call cs ts) (n + more) p left

  -- the node that makes the next bound has commands that cost at most it
  record Next (cs : List Cmd) (ts : Trips) (q : Poly) (state : Trips) (others : List Priced) : Type 0 where
    spent : ℕ
    rest : List Cmd
    right : AreRight rest
    is : others ≡ map (priced w) rest
    less : spent ≤ value q
    over : BoundFrom 0 count q
    entries : are_entries count state ≡ true
    costs : (cost_all w call cs ts).0 ≡ spent + (cost_all w call rest state).0
    left : (cost_all w call cs ts).1 ≡ (cost_all w call rest state).1

  next_of : (cs : List Cmd) (taken : ℕ × List Priced) → Taken cs taken
      → (node : ℕ) (within : Inside) (ts : Trips) (q : Poly) (state : Trips) → are_entries count ts ≡ true
      → last_bound node within taken ts ≡ Ok (q, state) → Next cs ts q state (behind taken.1)
  next_of cs taken had node within ts q state entries is =
      let here : last_bound node within (had.held, map (priced w) had.rest) ts ≡ Ok (q, state) =
      subst (λ (t : ℕ × List Priced). last_bound node within t ts ≡ Ok (q, state)) had.is is in
      subst (λ (t : ℕ × List Priced). Next cs ts q state (behind t.1)) (sym had.is)
      (by had.rest had.right (had.spent ts) (had.left ts) here)
    where
      by : (rest : List Cmd) → AreRight rest → (cost_all w call cs ts).0 ≡ had.held + (cost_all w call rest ts).0
          → (cost_all w call cs ts).1 ≡ (cost_all w call rest ts).1
          → last_bound node within (had.held, map (priced w) rest) ts ≡ Ok (q, state)
          → Next cs ts q state (behind (map (priced w) rest))
      by [] right spent left is =
          let all = nothing_holds node had.held ts q state entries is in
          record {
            spent = had.held;
            rest = [];
            right = tt;
            is = refl;
            less = (let most = all.most in omega (arith, most));
            over = all.over;
            entries = all.entries;
            costs = spent;
            left = left ∙ all.left_is;
          }
      by (a ∷ rest) right spent left is =
          let all = right.0.bound node had.held within ts q state entries is in
          let after : (cost w call a ts).1 ≡ state = all.left_is in
          let costs : (cost_all w call rest (cost w call a ts).1).0
          ≡ (cost_all w call rest state).0 = ap (λ z. (cost_all w call rest z).0) after in
          record {
            spent = had.held + (cost w call a ts).0;
            rest = rest;
            right = right.1;
            is = refl;
            less = all.most;
            over = all.over;
            entries = all.entries;
            costs = omega (arith, spent, costs);
            left = left ∙ ap (λ z. (cost_all w call rest z).1) after;
          }

  -- a node whose sets and last command were taken, and the nodes after it
  next_sums : (ns : List StmtNode) → Sums ns → (cs : List Cmd) (taken : ℕ × List Priced) → Taken cs taken
      → (node more at_node after n : ℕ) (within : Inside) (so_far : Result Poly Refusal) (ts : Trips) (p : Poly) (left : Trips)
      → SoFar so_far n → are_entries count ts ≡ true
      → and_then_with (last_bound at_node within taken ts)
      (λ q state. in_order node more after ns (behind taken.1) (added node so_far q) state)
      ≡ Ok (p, left)
      → Holds (cost_all w call cs ts) (n + more) p left
  next_sums ns rest cs taken had node more at_node after n within so_far ts p left holds entries is =
      let next : Poly → Trips → Made = λ q state. in_order node more after ns (behind taken.1) (added node so_far q) state in
      let step = went (last_bound at_node within taken ts) next (p, left) is in
      let one = next_of cs taken had at_node within ts step.value step.state entries step.first in
      let here : in_order node more after ns (map (priced w) one.rest) (added node so_far step.value) step.state ≡ Ok (p, left) =
      subst (λ (l : List Priced). in_order node more after ns l (added node so_far step.value) step.state ≡ Ok (p, left)) one.is
      step.rest in
      let all = rest one.rest one.right node more after (n + one.spent) (added node so_far step.value) step.state p left
      (more_so_far node n one.spent so_far step.value holds one.over one.less) one.entries here in
      instead (cost_all w call one.rest step.state) (cost_all w call cs ts) (n + one.spent + more) (n + more) p left
      all (let costs = one.costs in omega (arith, costs)) one.left

  sums : (ns : List StmtNode) → Sums ns
  sums [] cs right node more k n so_far ts p left holds entries is =
      own_right cs right node more n so_far ts p left holds entries is
  sums (d ∷ ns) cs right node more k n so_far ts p left holds entries is = by (sums ns) (gives (out-StmtNode d).step.rule) refl
    where
      by : Sums ns → (b : Bool) → gives (out-StmtNode d).step.rule ≡ b → Holds (cost_all w call cs ts) (n + more) p left
      by rest true e =
          next_sums ns rest cs (begun (out-StmtNode d).step.rule (map (priced w) cs))
          (begun_taken (out-StmtNode d).step.rule cs right)
          node more k (k + stmt_size d) n (inside k d) so_far ts p left holds entries (rw e at is)
      by rest false e =
          let here : in_order node more (k + stmt_size d) ns (map (priced w) cs) so_far ts ≡ Ok (p, left) = rw e at is in
          rest cs right node more (k + stmt_size d) n so_far ts p left holds entries here

  -- Commands.

  plain_right : (n : ℕ) → IsRight (λ ts. (n, ts)) (plain n)
  plain_right n = record {
    weight = λ m is ts. (let same_one : n ≡ m = cc in ap (λ (k : ℕ). (k, ts)) same_one);
    bound = λ node more within ts p left entries is.
        instead (0, ts) (n, ts) (more + n) more p left (nothing_holds node (more + n) ts p left entries is) (omega arith) refl;
  }

  choice_right : (test : ℕ) (k l : Cost) (p q : Priced) → IsRight k p → IsRight l q
      → Bounds (λ ts. sides test l (k ts)) (choice test p q)
  choice_right test k l p q one two node more within ts s left entries is =
      let both_of : Poly → Poly → Poly = λ a b. poly.listed (poly.greater a b) poly.product_count in
      let second : Poly → Poly → Trips → Made = λ a b left. leaving left (with_constant node (both_of a b) (more + test)) in
      let next : Poly → Trips → Made = λ a left. and_then_with (q.bound node 0 (others within) left) (second a) in
      let step = went (p.bound node 0 within ts) next (s, left) is in
      let first = one.bound node 0 within ts step.value step.state entries step.first in
      let last = went (q.bound node 0 (others within) step.state) (second step.value) (s, left) step.rest in
      let other = two.bound node 0 (others within) step.state last.value last.state first.entries last.first in
      let end_ = left_ok last.state (with_constant node (both_of step.value last.value) (more + test)) s left last.rest in
      let both = greater_made count step.value last.value few first.over other.over in
      let all = with_value node (more + test) (both_of step.value last.value) s both.0 end_.0 in
      let here : (k ts).1 ≡ step.state = first.left_is in
      rw here (record {
        most = (let a = first.most in let b = other.most in let c = both.1 values in omega (arith, a, b, c.0, c.1, all.1));
        left_is = other.left_is ∙ end_.1;
        over = all.0;
        entries = subst (λ z. are_entries count z ≡ true) end_.1 other.entries;
      })

  loop_right : (test : ℕ) (k : Cost) (p : Priced) → IsRight k p → Bounds (loop call test k) (bounds.loop test p)
  loop_right test k p one node more within [] s left entries is = nothing_holds node more [] s left entries is
  loop_right test k p one node more within (t ∷ ts) s left entries is =
      let forms = and_parts (is_entry_form_of count t) (list_all (is_entry_form_of count) ts) entries in
      let next : Poly → Trips → Made = λ body left. leaving left (turned node body t (more + test)) in
      let step = went (p.bound node test within ts) next (s, left) is in
      let body = one.bound node test within ts step.value step.state forms.1 step.first in
      let end_ = left_ok step.state (turned node step.value t (more + test)) s left step.rest in
      let all = turned_value node (more + test) (test + (k ts).0) step.value s t body.over forms.0 body.most end_.0 in
      record {
        most = (let a = all.1 in omega (arith, a));
        left_is = body.left_is ∙ end_.1;
        over = all.0;
        entries = subst (λ z. are_entries count z ≡ true) end_.1 body.entries;
      }

  none_yet : SoFar (Ok []) 0
  none_yet s is =
      let same_one : [] ≡ s = cc in
      subst (λ (z : Poly). BoundFrom 0 count z × (0 ≤ value z)) same_one (tt, omega arith)

  seq_right : (cs : List Cmd) → AreRight cs
      → Bounds (cost_all w call cs) (λ node more within ts. in_order node more within.0 (nodes_of within.1) (map (priced w) cs)
      (Ok []) ts)
  seq_right cs right node more within ts p left entries is =
      let all = sums (nodes_of within.1) cs right node more within.0 0 (Ok []) ts p left none_yet entries is in
      instead (cost_all w call cs ts) (cost_all w call cs ts) (0 + more) more p left all (omega arith) refl

  abbrev Proved : Type 0
  Proved = (a : Cmd) × Right a

  abbrev bare : Cmd-F Proved → Cmd-F Cmd
  bare y = map-Cmd Proved Cmd (λ p. p.0) y

  abbrev StepRight : Cmd-F Cmd → Type 0
  StepRight y = IsRight (cost_step w call (map-Cmd Cmd Cost (cost w call) y)) (priced_step w (map-Cmd Cmd Priced (priced w) y))

  all_right : (cs : List Proved) → AreRight (map (λ p. p.0) cs)
  all_right [] = tt
  all_right (a ∷ cs) = (a.1, all_right cs)

  step_right : (y : Cmd-F Proved) → StepRight (bare y)
  step_right (c.Set x e) = plain_right (expr_weight w e + w.set)
  step_right (c.Store size a e) = plain_right (expr_weight w a + expr_weight w e + w.store)
  step_right (c.Cond e p q) = record {
    weight = λ n is ts. absurd (cc);
    bound = choice_right (expr_weight w e + w.test) (cost w call p.0) (cost w call q.0) (priced w p.0) (priced w q.0) p.1 q.1;
  }
  step_right (c.Seq cs) = record { weight = λ n is ts. absurd (cc); bound = seq_right (map (λ p. p.0) cs) (all_right cs) }
  step_right (c.While e p) = record {
    weight = λ n is ts. absurd (cc);
    bound = loop_right (expr_weight w e + w.turn) (cost w call p.0) (priced w p.0) p.1;
  }

  rolled : (y : Cmd-F Cmd) → StepRight y → Right (roll-Cmd y)
  rolled y h = rw (fold-roll-Cmd Cost (cost_step w call) y, fold-roll-Cmd Priced (priced_step w) y) h

  right : (a : Cmd) → Right a
  right = ind-Cmd Right (λ z y is. subst (λ r. Right (roll-Cmd r)) is (rolled (bare y) (step_right y)))

  are_right : (cs : List Cmd) → AreRight cs
  are_right [] = tt
  are_right (a ∷ cs) = (right a, are_right cs)

  -- the bound of a derivation
  pub bound_above : (d : Derivation) (cs : List Cmd) (ts : Trips) (p : Poly) → are_entries count ts ≡ true
      → bound w d cs ts ≡ Ok p
      → BoundFrom 0 count p × ((cost_all w call cs ts).0 + w.entry ≤ value p)
  bound_above d cs ts p entries is =
      let made = both_answered (whole w d cs ts) (λ made. Ok made.0) p is in
      let same_one : made.0.0 ≡ p = (let both : Ok made.0.0 ≡ Ok p = made.1.1 in cc) in
      let first : Result Poly Refusal = constant_at (size d) w.entry in
      let entry : SoFar first w.entry =
      λ s at. (let number = constant_value (size d) w.entry s at in (number.0, omega (arith, number.1))) in
      let all = sums (out-Block d.body).nodes cs (are_right cs) (size d) 0 0 w.entry first ts made.0.0 made.0.1 entry entries
      made.1.0 in
      rw (← same_one) (all.over, (let most = all.most in omega (arith, most)))
