-- The code of a command does what the command does.
use Rattle.std.proofs.Common.{◌≡◌, sym, ap, subst, ◌∙◌, arith, ℕ, zero, suc, ◌+◌, List, [], ◌∷◌, ◌++◌, length, Option, Some, Ok}
use Rattle.std.proofs.Common.{⊎_elim}
use Rattle.std.specs.FinMap.{get, insert}
use Rattle.bed_meaning.specs.State.{spend, with_mem}
use Rattle.bed_meaning.specs.Fuelled.{fuelled, given, choose}
use Rattle.bed_meaning.specs.Fuelled as meaning
use Rattle.rv_memory.specs.Ranges.{Bytes}
use Rattle.bed_syntax.specs.Shape.{noted}
use Rattle.bed_syntax.specs.declared.operation.Size.{Size}
use Rattle.bed_syntax.specs.declared.weights.Weights.{Weights}
use Rattle.bed_meaning.specs.Access.{store}
use Rattle.bed_meaning.specs.Locals as bed
use Rattle.bed_meaning.specs.State as state
use Rattle.bed_meaning.specs.Meaning as source
use Rattle.flat_lang.specs.State.{Vars}
use Rattle.flat_lang.specs.Meaning.{Rule, sets, run, run_step, run_all}
use Rattle.flat_lang.specs.declared.flat.FStmt.{FStmt, fold-roll-FStmt}
use Rattle.flat_lang.specs.declared.flat.FStmt.TheOpen as o
use Rattle.flat_lang.specs.declared.flat.FStmt.TheVariants as f
use Rattle.flatten.specs.Code.{ExprCode, CmdCode, then_code, in_turn, place}
use Rattle.flatten.proofs.Expressions.{Agrees, agrees_above, Gives, Right, run_copy}
use Rattle.flatten.proofs.Goes.{Goes, at, goes_none, goes_both, goes_one, goes_inside}
use Rattle.flatten.proofs.Growth.{Grows}
use Rattle.flatten.proofs.Outcomes.{done, same_done, left, took, given_some, then_done}
use Rattle.flatten.proofs.Places.{Known, Extends, extends_through, extends_noted, known_noted, same_place}
use Rattle.flatten.proofs.Readings.{get_set, get_other, local_set, Has, has_first, has_second}

-- code that comes from a memory and variables to the memory and the locals of a state
pub record Comes (w : Weights) (tables : List (List ℕ)) (names : List ℕ) (fs : List FStmt) (before : ℕ) (m : Bytes) (v : Vars)
    (t : state.State) : Type 0 where
  pub spent : ℕ
  pub vars : Vars
  pub ticks : t.ticks ≡ before + spent
  pub goes : Goes w tables fs m v spent t.mem vars
  pub agrees : Agrees names t.vars vars

-- a set local in its variable
pub set_agrees : (names : List ℕ) (l l1 : bed.Vars) (x n : ℕ) (v : Vars) → Known names x → bed.assigned x n l ≡ Some l1
    → Agrees names l v → Agrees names l1 (insert v (place names x) n)
set_agrees names l l1 x n v known is agrees y i known_y is_y =
    ⊎_elim
    (λ p. ap (λ z. get (insert v (place names x) n) (place names z)) p.0 ∙ get_set v (place names x) n
    ∙ ap (λ z. Some z) (sym p.1))
    (λ p. get_other v (place names x) n (place names y) (λ e. p.0 (same_place names y x known_y e)) ∙ agrees y i known_y p.1)
    (local_set l l1 x n y i is is_y)

module _ (w : Weights) (same : w.variable ≡ w.set) (tables : List (List ℕ)) (names : List ℕ) where
  run_store : (size : Size) (x y : ℕ) → run w tables (f.Store size x y)
      ≡ fuelled (λ s. given (get s.vars x)
      (λ a. given (get s.vars y) (λ v. given (store size s.mem a v) (λ mem. Ok (with_mem mem (spend w.store s))))))
  run_store size x y = ap (run w tables) (sym (f.rolls-Store size x y))
      ∙ fold-roll-FStmt Rule (run_step w tables) (o.Store size x y)

  run_if : (x : ℕ) (a b : List FStmt)
      → run w tables (f.If x a b) ≡ fuelled
      (λ s. given (get s.vars x) (λ v. choose v (run_all w tables a) (run_all w tables b) (spend w.test s)))
  run_if x a b = ap (run w tables) (sym (f.rolls-If x a b)) ∙ fold-roll-FStmt Rule (run_step w tables) (o.If x a b)

  abbrev pub Follows : source.Rule → CmdCode → (List ℕ → List ℕ) → Type 0
  Follows rule code locals =
      (ms : List ℕ) (k : ℕ) (s t : state.State) (v : Vars) → rule s ≡ done t → Extends (locals ms) names → Agrees names s.vars v
      → Has tables k code.tables
      → Comes w tables names (code.code k) s.ticks s.mem v t

  -- the fuel of a command changes nothing else
  pub fuelled_follows : (rule : source.Rule) (code : CmdCode) (locals : List ℕ → List ℕ) → Follows rule code locals
      → Follows (meaning.fuelled rule) code locals
  fuelled_follows rule code locals follows ms k s t v is named agrees has =
      let taken = took s.fuel s t rule is in
      follows ms k (left taken.0 s) t v taken.1 named agrees has

  pub set_follows : (x : ℕ) (va : Bytes → bed.Vars → Option ℕ) (pa : ℕ) (ca : ExprCode) (la : List ℕ → List ℕ)
      → Right w tables names va pa ca la
      → Follows (λ s. meaning.given (va s.mem s.vars)
      (λ n. meaning.given (bed.assigned x n s.vars) (λ vars. done (state.with_vars vars (state.spend (pa + w.set) s)))))
      (record { tables = ca.tables; code = λ k. ca.code (length names) k ++ f.Copy (place names x) (length names) ∷ [] })
      (λ ms. noted x (la ms))
  set_follows x va pa ca la right ms k s t v is named agrees has =
      let valued = given_some (va s.mem s.vars) _ t is in
      let n : ℕ = valued.0 in
      let changed = given_some (bed.assigned x n s.vars) _ t valued.1.1 in
      let l1 : bed.Vars = changed.0 in
      let end : state.with_vars l1 (state.spend (pa + w.set) s) ≡ t = same_done _ t changed.1.1 in
      let known : Known names x = (named x (known_noted x (la ms))).0 in
      let fs : List FStmt = ca.code (length names) k in
      let a : Gives w tables fs pa (length names) s.mem v n =
      right ms (length names) k s.mem s.vars v n valued.1.0
      (extends_through (la ms) (noted x (la ms)) names (extends_noted x (la ms)) named) (omega arith) agrees has in
      let after : Vars = insert a.vars (place names x) n in
      let copies : Goes w tables (f.Copy (place names x) (length names) ∷ []) s.mem a.vars w.variable s.mem after =
      goes_one w tables (f.Copy (place names x) (length names))
      (λ q. given (get q.vars (length names)) (λ i. sets w.variable (place names x) i q)) s.mem s.mem a.vars after w.variable
      (run_copy w tables names (place names x) (length names))
      (λ j u. ap (λ r. given r (λ i. sets w.variable (place names x) i (at j u s.mem a.vars))) a.gives) in
      let price : s.ticks + (pa + w.set) ≡ s.ticks + (pa + w.variable) = omega arith in
      subst (λ r. Comes w tables names (fs ++ f.Copy (place names x) (length names) ∷ []) s.ticks s.mem v r) end
      (record {
        spent = pa + w.variable;
        vars = after;
        ticks = price;
        goes = goes_both w tables fs (f.Copy (place names x) (length names) ∷ []) s.mem s.mem s.mem v a.vars after pa w.variable
            a.goes copies;
        agrees = set_agrees names s.vars l1 x n a.vars known changed.1.0
            (agrees_above names s.vars v a.vars (length names) (omega arith) a.below agrees);
      })

  pub store_follows : (size : Size) (va vb : Bytes → bed.Vars → Option ℕ) (pa pb : ℕ) (ca cb : ExprCode) (la lb : List ℕ → List ℕ)
      → Grows lb → Right w tables names va pa ca la → Right w tables names vb pb cb lb
      → Follows
      (λ s. meaning.given (va s.mem s.vars)
      (λ p. meaning.given (vb s.mem s.vars)
      (λ n. meaning.given (store size s.mem p n) (λ mem. done (state.with_mem mem (state.spend (pa + pb + w.store) s))))))
      (record {
        tables = ca.tables ++ cb.tables;
        code = λ k. ca.code (length names) k
            ++ (cb.code (length names + 1) (k + length ca.tables) ++ f.Store size (length names) (length names + 1) ∷ []);
      })
      (λ ms. lb (la ms))
  store_follows size va vb pa pb ca cb la lb grows right_a right_b ms k s t v is named agrees has =
      let first = given_some (va s.mem s.vars) _ t is in
      let p : ℕ = first.0 in
      let second = given_some (vb s.mem s.vars) _ t first.1.1 in
      let n : ℕ = second.0 in
      let changed = given_some (store size s.mem p n) _ t second.1.1 in
      let m1 : Bytes = changed.0 in
      let end : state.with_mem m1 (state.spend (pa + pb + w.store) s) ≡ t = same_done _ t changed.1.1 in
      let to : ℕ = length names in
      let next : ℕ = k + length ca.tables in
      let fs : List FStmt = ca.code (length names) k in
      let gs : List FStmt = cb.code (length names + 1) (k + length ca.tables) in
      let last : List FStmt = f.Store size (length names) (length names + 1) ∷ [] in
      let a : Gives w tables fs pa to s.mem v p =
      right_a ms to k s.mem s.vars v p first.1.0 (extends_through (la ms) (lb (la ms)) names (grows (la ms)) named) (omega arith)
      agrees (has_first tables k ca.tables cb.tables has) in
      let agrees_a : Agrees names s.vars a.vars = agrees_above names s.vars v a.vars to (omega arith) a.below agrees in
      let b : Gives w tables gs pb (to + 1) s.mem a.vars n =
      right_b (la ms) (to + 1) next s.mem s.vars a.vars n second.1.0 named (omega arith) agrees_a
      (has_second tables k ca.tables cb.tables has) in
      let address : get b.vars to ≡ Some p = b.below to (omega arith) ∙ a.gives in
      let stores : Goes w tables last s.mem b.vars w.store m1 b.vars =
      goes_one w tables (f.Store size to (to + 1))
      (λ q. given (get q.vars to) (λ i.
      given (get q.vars (to + 1)) (λ j. given (store size q.mem i j) (λ mem. Ok (with_mem mem (spend w.store q)))))) s.mem m1
      b.vars b.vars w.store
      (run_store size to (to + 1))
      (λ j u.
      ap (λ r. given r (λ i. given (get b.vars (to + 1))
      (λ z. given (store size s.mem i z) (λ mem. Ok (with_mem mem (spend w.store (at j u s.mem b.vars))))))) address
      ∙ ap (λ r. given r (λ z. given (store size s.mem p z) (λ mem. Ok (with_mem mem (spend w.store (at j u s.mem b.vars))))))
      b.gives
      ∙ ap (λ r. given r (λ mem. Ok (with_mem mem (spend w.store (at j u s.mem b.vars))))) changed.1.0) in
      let price : s.ticks + (pa + pb + w.store) ≡ s.ticks + (pa + (pb + w.store)) = omega arith in
      subst (λ r. Comes w tables names (fs ++ (gs ++ last)) s.ticks s.mem v r) end
      (record {
        spent = pa + (pb + w.store);
        vars = b.vars;
        ticks = price;
        goes = goes_both w tables fs (gs ++ last) s.mem s.mem m1 v a.vars b.vars pa (pb + w.store) a.goes
            (goes_both w tables gs last s.mem s.mem m1 a.vars b.vars b.vars pb w.store b.goes stores);
        agrees = agrees_above names s.vars a.vars b.vars to (omega arith) (λ q h. b.below q (omega arith)) agrees_a;
      })

  pub none_follows : Follows (meaning.in_turn []) (in_turn []) (λ ms. ms)
  none_follows ms k s t v is named agrees has =
      let end : s ≡ t = same_done s t is in
      let price : s.ticks ≡ s.ticks + 0 = omega arith in
      subst (λ r. Comes w tables names [] s.ticks s.mem v r) end
      (record { spent = 0; vars = v; ticks = price; goes = goes_none w tables s.mem v; agrees = agrees })

  pub then_follows : (first rest : source.Rule) (a b : CmdCode) (la lb : List ℕ → List ℕ) → Grows lb → Follows first a la
      → Follows rest b lb
      → Follows (λ s. meaning.and_then (first s) rest) (then_code a b) (λ ms. lb (la ms))
  then_follows first rest a b la lb grows follows_a follows_b ms k s t v is named agrees has =
      let parts = then_done (first s) rest t is in
      let s1 : state.State = parts.0 in
      let x : Comes w tables names (a.code k) s.ticks s.mem v s1 =
      follows_a ms k s s1 v parts.1.0 (extends_through (la ms) (lb (la ms)) names (grows (la ms)) named) agrees
      (has_first tables k a.tables b.tables has) in
      let y : Comes w tables names (b.code (k + length a.tables)) s1.ticks s1.mem x.vars t =
      follows_b (la ms) (k + length a.tables) s1 t x.vars parts.1.1 named x.agrees (has_second tables k a.tables b.tables has) in
      let e1 : s1.ticks ≡ s.ticks + x.spent = x.ticks in
      let e2 : t.ticks ≡ s1.ticks + y.spent = y.ticks in
      record {
        spent = x.spent + y.spent;
        vars = y.vars;
        ticks = omega arith;
        goes = goes_both w tables (a.code k) (b.code (k + length a.tables)) s.mem s1.mem t.mem v x.vars y.vars x.spent y.spent
            x.goes y.goes;
        agrees = y.agrees;
      }

  -- one side of a conditional
  side_goes : (x n : ℕ) (fs gs : List FStmt) (m m1 : Bytes) (v v1 : Vars) (spent : ℕ) → get v x ≡ Some n
      → ((k : ℕ) × ((j u : ℕ) → choose n (run_all w tables fs) (run_all w tables gs) (at (k + j) u m v)
      ≡ Ok (at j (u + spent) m1 v1)))
      → Goes w tables (f.If x fs gs ∷ []) m v (w.test + spent) m1 v1
  side_goes x n fs gs m m1 v v1 spent is side =
      goes_inside w tables (f.If x fs gs)
      (λ s. given (get s.vars x) (λ i. choose i (run_all w tables fs) (run_all w tables gs) (spend w.test s))) m m1 v v1
      (w.test + spent) (run_if x fs gs) (
        side.0,
        λ j u.
            let e : u + w.test + spent ≡ u + (w.test + spent) = omega arith in
            ap (λ r. given r (λ i. choose i (run_all w tables fs) (run_all w tables gs) (spend w.test (at (side.0 + j) u m v))))
            is ∙ side.1 j (u + w.test) ∙ ap (λ i. Ok (at j i m1 v1)) e,
      )

  -- the side that a test chooses
  record Side (n : ℕ) (fs gs : List FStmt) (before : ℕ) (m : Bytes) (v : Vars) (t : state.State) : Type 0 where
    spent : ℕ
    vars : Vars
    ticks : t.ticks ≡ before + spent
    goes : (k : ℕ) × ((j u : ℕ) → choose n (run_all w tables fs) (run_all w tables gs) (at (k + j) u m v)
        ≡ Ok (at j (u + spent) t.mem vars))
    agrees : Agrees names t.vars vars

  side_follows : (n : ℕ) (p q : source.Rule) (a b : CmdCode) (la lb : List ℕ → List ℕ) → Grows lb → Follows p a la
      → Follows q b lb
      → (ms : List ℕ) (k : ℕ) (s t : state.State) (v : Vars) → meaning.choose n p q s ≡ done t → Extends (lb (la ms)) names
      → Agrees names s.vars v → Has tables k (a.tables ++ b.tables)
      → Side n (a.code k) (b.code (k + length a.tables)) s.ticks s.mem v t
  side_follows zero p q a b la lb grows follows_a follows_b ms k s t v is named agrees has =
      let y = follows_b (la ms) (k + length a.tables) s t v is named agrees (has_second tables k a.tables b.tables has) in
      record { spent = y.spent; vars = y.vars; ticks = y.ticks; goes = y.goes; agrees = y.agrees }
  side_follows (suc n) p q a b la lb grows follows_a follows_b ms k s t v is named agrees has =
      let x = follows_a ms k s t v is (extends_through (la ms) (lb (la ms)) names (grows (la ms)) named) agrees
      (has_first tables k a.tables b.tables has) in
      record { spent = x.spent; vars = x.vars; ticks = x.ticks; goes = x.goes; agrees = x.agrees }

  pub cond_follows : (va : Bytes → bed.Vars → Option ℕ) (pa : ℕ) (ca : ExprCode) (la : List ℕ → List ℕ) (p q : source.Rule)
      (cp cq : CmdCode) (lp lq : List ℕ → List ℕ)
      → Grows lp → Grows lq → Right w tables names va pa ca la → Follows p cp lp → Follows q cq lq
      → Follows (λ s. meaning.given (va s.mem s.vars) (λ n. meaning.choose n p q (state.spend (pa + w.test) s)))
      (record {
        tables = ca.tables ++ (cp.tables ++ cq.tables);
        code = λ k. ca.code (length names) k
            ++ f.If (length names) (cp.code (k + length ca.tables)) (cq.code (k + length ca.tables + length cp.tables)) ∷ [];
      })
      (λ ms. lq (lp (la ms)))
  cond_follows va pa ca la p q cp cq lp lq grows_p grows_q right follows_p follows_q ms k s t v is named agrees has =
      let valued = given_some (va s.mem s.vars) _ t is in
      let n : ℕ = valued.0 in
      let to : ℕ = length names in
      let next : ℕ = k + length ca.tables in
      let fs : List FStmt = ca.code (length names) k in
      let named_a : Extends (la ms) names =
      extends_through (la ms) (lq (lp (la ms))) names
      (extends_through (la ms) (lp (la ms)) (lq (lp (la ms))) (grows_p (la ms)) (grows_q (lp (la ms)))) named in
      let a : Gives w tables fs pa to s.mem v n =
      right ms to k s.mem s.vars v n valued.1.0 named_a (omega arith) agrees
      (has_first tables k ca.tables (cp.tables ++ cq.tables) has) in
      let side =
      side_follows n p q cp cq lp lq grows_q follows_p follows_q (la ms) next (state.spend (pa + w.test) s) t a.vars valued.1.1
      named (agrees_above names s.vars v a.vars to (omega arith) a.below agrees)
      (has_second tables k ca.tables (cp.tables ++ cq.tables) has) in
      let e : t.ticks ≡ s.ticks + (pa + w.test) + side.spent = side.ticks in
      record {
        spent = pa + (w.test + side.spent);
        vars = side.vars;
        ticks = omega arith;
        goes = goes_both w tables fs (f.If to (cp.code next) (cq.code (next + length cp.tables)) ∷ []) s.mem s.mem t.mem v a.vars
            side.vars pa (w.test + side.spent) a.goes
            (side_goes to n (cp.code next) (cq.code (next + length cp.tables)) s.mem t.mem a.vars side.vars side.spent a.gives
            side.goes);
        agrees = side.agrees;
      }
