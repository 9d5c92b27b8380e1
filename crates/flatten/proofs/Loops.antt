-- The code of a loop does what the loop does.
use Rattle.std.proofs.Common.{◌≡◌, sym, ap, subst, ◌∙◌, arith, ℕ, zero, suc, ◌+◌, ◌<◌, List, [], ◌∷◌, ◌++◌, length, Option, Some}
use Rattle.std.proofs.Common.{Ok, Err, Result}
use Rattle.std.specs.FinMap.{get}
use Rattle.bed_meaning.specs.State.{spend}
use Rattle.bed_meaning.specs.Fuelled.{and_then, fuelled, given, choose, take_one, in_turn}
use Rattle.bed_meaning.specs.Fuelled as meaning
use Rattle.rv_memory.specs.Ranges.{Bytes}
use Rattle.bed_syntax.specs.declared.weights.Weights.{Weights}
use Rattle.bed_meaning.specs.declared.halt.Halt.{Halt}
use Rattle.bed_meaning.specs.declared.halt.Halt.TheVariants as halt
use Rattle.bed_meaning.specs.Locals as bed
use Rattle.bed_meaning.specs.State as state
use Rattle.bed_meaning.specs.Meaning as source
use Rattle.flat_lang.specs.State.{Vars}
use Rattle.flat_lang.specs.Meaning.{Rule, turns, run, run_step, run_all}
use Rattle.flat_lang.specs.declared.flat.FStmt.{FStmt, fold-roll-FStmt}
use Rattle.flat_lang.specs.declared.flat.FStmt.TheOpen as o
use Rattle.flat_lang.specs.declared.flat.FStmt.TheVariants as f
use Rattle.flatten.specs.Code.{ExprCode, CmdCode}
use Rattle.flatten.proofs.Commands.{Comes, Follows}
use Rattle.flatten.proofs.Expressions.{Agrees, agrees_above, Gives, Right}
use Rattle.flatten.proofs.Goes.{Goes, at}
use Rattle.flatten.proofs.Growth.{Grows}
use Rattle.flatten.proofs.Outcomes.{done, same_done, left, took, given_some, then_done}
use Rattle.flatten.proofs.Places.{Extends, extends_through}
use Rattle.flatten.proofs.Readings.{Has, has_first, has_second}

module _ (w : Weights) (same : w.variable ≡ w.set) (tables : List (List ℕ)) (names : List ℕ) where
  run_while : (fs : List FStmt) (x : ℕ) (gs : List FStmt)
      → run w tables (f.While fs x gs) ≡ (λ s. fuelled (turns s.fuel (run_all w tables fs) x w.turn (run_all w tables gs)) s)
  run_while fs x gs = ap (run w tables) (sym (f.rolls-While fs x gs)) ∙ fold-roll-FStmt Rule (run_step w tables) (o.While fs x gs)

  -- the code of a loop that comes to an end, for each bound on its tests that is more than its fuel
  record Loops (fs gs : List FStmt) (before : ℕ) (m : Bytes) (v : Vars) (t : state.State) : Type 0 where
    fuel : ℕ
    spent : ℕ
    vars : Vars
    ticks : t.ticks ≡ before + spent
    runs : (b j u : ℕ) → fuel < b → turns b (run_all w tables fs) (length names) w.turn (run_all w tables gs)
        (at (fuel + j) u m v) ≡ Ok (at j (u + spent) t.mem vars)
    agrees : Agrees names t.vars vars

  -- what follows a test
  abbrev after_test : ℕ → List FStmt → List FStmt → ℕ → Rule
  after_test b fs gs n s =
      choose n (fuelled (λ r. and_then (run_all w tables gs r)
      (turns b (run_all w tables fs) (length names) w.turn (run_all w tables gs)))) (λ r. Ok r) (spend w.turn s)

  tested : (fs gs : List FStmt) (b k pa n j u : ℕ) (m : Bytes) (v v1 : Vars) → run_all w tables fs (at (k + j) u m v)
      ≡ Ok (at j (u + pa) m v1) → get v1 (length names) ≡ Some n
      → turns (suc b) (run_all w tables fs) (length names) w.turn (run_all w tables gs) (at (k + j) u m v)
      ≡ after_test b fs gs n (at j (u + pa) m v1)
  tested fs gs b k pa n j u m v v1 goes gives =
      ap (λ r. and_then r (λ s. given (get s.vars (length names)) (λ i. after_test b fs gs i s))) goes
      ∙ ap (λ r. given r (λ i. after_test b fs gs i (at j (u + pa) m v1))) gives

  last_turn : (fs gs : List FStmt) (pa before : ℕ) (m : Bytes) (v : Vars) (t : state.State)
      (a : Gives w tables fs pa (length names) m v 0)
      → t.ticks ≡ before + (pa + w.turn) → t.mem ≡ m → Agrees names t.vars a.vars → Loops fs gs before m v t
  last_turn fs gs pa before m v t a ticks memory agrees =
      record {
        fuel = a.goes.0;
        spent = pa + w.turn;
        vars = a.vars;
        ticks = ticks;
        runs = λ b j u below. last b j u below;
        agrees = agrees;
      }
    where
      last : (b j u : ℕ) → a.goes.0 < b
          → turns b (run_all w tables fs) (length names) w.turn (run_all w tables gs) (at (a.goes.0 + j) u m v)
          ≡ Ok (at j (u + (pa + w.turn)) t.mem a.vars)
      last zero j u below = absurd (omega arith)
      last (suc b) j u below =
          let e : u + pa + w.turn ≡ u + (pa + w.turn) = omega arith in
          tested fs gs b a.goes.0 pa 0 j u m v a.vars (a.goes.1 j u) a.gives ∙ ap (λ i. Ok (at j i m a.vars)) e
          ∙ ap (λ i. Ok (at j (u + (pa + w.turn)) i a.vars)) (sym memory)

  next_turn : (fs gs : List FStmt) (pa n before : ℕ) (m : Bytes) (v : Vars) (s t : state.State)
      (a : Gives w tables fs pa (length names) m v (suc n))
      → (x : Comes w tables names gs (before + (pa + w.turn)) m a.vars s) → Loops fs gs s.ticks s.mem x.vars t
      → Loops fs gs before m v t
  next_turn fs gs pa n before m v s t a x rest =
      let e1 : s.ticks ≡ before + (pa + w.turn) + x.spent = x.ticks in
      let e2 : t.ticks ≡ s.ticks + rest.spent = rest.ticks in
      record {
        fuel = a.goes.0 + suc (x.goes.0 + rest.fuel);
        spent = pa + w.turn + x.spent + rest.spent;
        vars = rest.vars;
        ticks = omega arith;
        runs = λ b j u below. next b j u below;
        agrees = rest.agrees;
      }
    where
      next : (b j u : ℕ) → a.goes.0 + suc (x.goes.0 + rest.fuel) < b
          → turns b (run_all w tables fs) (length names) w.turn (run_all w tables gs)
          (at (a.goes.0 + suc (x.goes.0 + rest.fuel) + j) u m v)
          ≡ Ok (at j (u + (pa + w.turn + x.spent + rest.spent)) t.mem rest.vars)
      next zero j u below = absurd (omega arith)
      next (suc b) j u below =
          let again : Rule = turns b (run_all w tables fs) (length names) w.turn (run_all w tables gs) in
          let k1 : a.goes.0 + suc (x.goes.0 + rest.fuel) + j ≡ a.goes.0 + suc (x.goes.0 + (rest.fuel + j)) = omega arith in
          let e : u + pa + w.turn + x.spent + rest.spent ≡ u + (pa + w.turn + x.spent + rest.spent) = omega arith in
          let h : rest.fuel < b = omega arith in
          ap (λ i. turns (suc b) (run_all w tables fs) (length names) w.turn (run_all w tables gs) (at i u m v)) k1
          ∙ tested fs gs b a.goes.0 pa (suc n) (suc (x.goes.0 + (rest.fuel + j))) u m v a.vars
          (a.goes.1 (suc (x.goes.0 + (rest.fuel + j))) u) a.gives
          ∙ ap (λ r. and_then r again) (x.goes.1 (rest.fuel + j) (u + pa + w.turn))
          ∙ rest.runs b j (u + pa + w.turn + x.spent) h
          ∙ ap (λ i. Ok (at j i t.mem rest.vars)) e

  module _ (va : Bytes → bed.Vars → Option ℕ) (pa : ℕ) (ca : ExprCode) (la : List ℕ → List ℕ) (body : source.Rule) (cb : CmdCode)
      (lb : List ℕ → List ℕ)
      (grows : Grows lb) (right : Right w tables names va pa ca la) (follows : Follows w same tables names body cb lb)
      (ms : List ℕ) (k : ℕ) (named : Extends (lb (la ms)) names) (has : Has tables k (ca.tables ++ cb.tables)) where
    abbrev test_code : List FStmt
    test_code = ca.code (length names) k

    abbrev body_code : List FStmt
    body_code = cb.code (k + length ca.tables)

    abbrev loop : ℕ → source.Rule
    loop n = source.turns n (λ s. va s.mem s.vars) (pa + w.turn) body

    tests : (s : state.State) (v : Vars) (x : ℕ) → va s.mem s.vars ≡ Some x → Agrees names s.vars v
        → Gives w tables test_code pa (length names) s.mem v x
    tests s v x is agrees =
        right ms (length names) k s.mem s.vars v x is (extends_through (la ms) (lb (la ms)) names (grows (la ms)) named)
        (omega arith) agrees (has_first tables k ca.tables cb.tables has)

    turned : (n x : ℕ) (s t : state.State) (v : Vars) → va s.mem s.vars ≡ Some x
        → meaning.choose x (meaning.fuelled (λ r. meaning.and_then (body r) (loop n))) (λ r. done r) (state.spend (pa + w.turn) s)
        ≡ done t → Agrees names s.vars v
        → ((s1 : state.State) (v1 : Vars) → loop n s1 ≡ done t → Agrees names s1.vars v1
        → Loops test_code body_code s1.ticks s1.mem v1 t)
        → Loops test_code body_code s.ticks s.mem v t
    turned n zero s t v is ends agrees again =
        let a = tests s v 0 is agrees in
        let end : state.spend (pa + w.turn) s ≡ t = same_done _ t ends in
        let kept : Agrees names s.vars a.vars = agrees_above names s.vars v a.vars (length names) (omega arith) a.below agrees in
        last_turn test_code body_code pa s.ticks s.mem v t a (ap (λ r. r.ticks) (sym end)) (ap (λ r. r.mem) (sym end))
        (subst (λ r. Agrees names r.vars a.vars) end kept)
    turned n (suc x) s t v is ends agrees again =
        let a = tests s v (suc x) is agrees in
        let taken = took s.fuel (state.spend (pa + w.turn) s) t _ ends in
        let parts = then_done (body (left taken.0 (state.spend (pa + w.turn) s))) (loop n) t taken.1 in
        let kept : Agrees names s.vars a.vars = agrees_above names s.vars v a.vars (length names) (omega arith) a.below agrees in
        let y =
        follows (la ms) (k + length ca.tables) (left taken.0 (state.spend (pa + w.turn) s)) parts.0 a.vars parts.1.0 named kept
        (has_second tables k ca.tables cb.tables has) in
        next_turn test_code body_code pa x s.ticks s.mem v parts.0 t a y (again parts.0 y.vars parts.1.1 y.agrees)

    loops : (n : ℕ) (s t : state.State) (v : Vars) → loop n s ≡ done t → Agrees names s.vars v
        → Loops test_code body_code s.ticks s.mem v t
    loops zero s t v is agrees = absurd (let bad : ◌≡◌ {A = Result state.State Halt} (Err halt.OutOfFuel) (Ok t) = is in cc)
    loops (suc n) s t v is agrees =
        let parts = given_some (va s.mem s.vars) _ t is in
        turned n parts.0 s t v parts.1.0 parts.1.1 agrees (λ s1 v1 h g. loops n s1 t v1 h g)

    -- the statement of a loop takes one from the fuel, and no more tests than there is fuel
    loop_goes : (m : Bytes) (v : Vars) (before : ℕ) (t : state.State) (r : Loops test_code body_code before m v t)
        → Goes w tables (f.While test_code (length names) body_code ∷ []) m v r.spent t.mem r.vars
    loop_goes m v before t r = (
      suc r.fuel,
      λ j u.
          let n : suc r.fuel + j ≡ suc (r.fuel + j) = omega arith in
          let below : r.fuel < suc r.fuel + j = omega arith in
          let rule : Rule = turns (suc r.fuel + j) (run_all w tables test_code) (length names) w.turn (run_all w tables body_code)
          in
          ap (λ q. and_then (q (at (suc r.fuel + j) u m v)) (in_turn [])) (run_while test_code (length names) body_code)
          ∙ ap (λ i. and_then (take_one i (at (suc r.fuel + j) u m v) rule) (in_turn [])) n
          ∙ ap (λ q. and_then q (in_turn [])) (r.runs (suc r.fuel + j) j u below),
    )

  pub while_follows : (va : Bytes → bed.Vars → Option ℕ) (pa : ℕ) (ca : ExprCode) (la : List ℕ → List ℕ) (body : source.Rule)
      (cb : CmdCode) (lb : List ℕ → List ℕ)
      → Grows lb → Right w tables names va pa ca la → Follows w same tables names body cb lb
      → Follows w same tables names (λ s. meaning.fuelled (source.turns s.fuel (λ r. va r.mem r.vars) (pa + w.turn) body) s)
      (record {
        tables = ca.tables ++ cb.tables;
        code = λ k. f.While (ca.code (length names) k) (length names) (cb.code (k + length ca.tables)) ∷ [];
      })
      (λ ms. lb (la ms))
  while_follows va pa ca la body cb lb grows right follows ms k s t v is named agrees has =
      let taken = took s.fuel s t _ is in
      let r = loops va pa ca la body cb lb grows right follows ms k named has s.fuel (left taken.0 s) t v taken.1 agrees in
      record {
        spent = r.spent;
        vars = r.vars;
        ticks = r.ticks;
        goes = loop_goes va pa ca la body cb lb grows right follows ms k named has s.mem v s.ticks t r;
        agrees = r.agrees;
      }
