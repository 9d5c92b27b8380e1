-- Statements one after another.
use Rattle.std.proofs.Common.{◌≡◌, refl, sym, ◌∙◌, ap, subst, arith, ℕ, ◌+◌, Bool, true, false, ◌&&◌, List, [], ◌∷◌, ◌++◌, length}
use Rattle.std.proofs.Common.{Some, append_assoc}
use Rattle.std.proofs.lemmas.List.{append-nil}
use Rattle.rv_memory.specs.Ranges.{Bytes, Within}
use Rattle.side_certs.specs.LinearForm.{LinearForm}
use Rattle.model_syntax.specs.declared.program.Param.{Param}
use Rattle.model_syntax.specs.Environment.{Env}
use Rattle.model_syntax.specs.Scope.{Scope}
use Rattle.sym_heap.specs.declared.parts.Clause.{Clause}
use Rattle.sym_heap.specs.Context.{Context, has}
use Rattle.sym_heap.specs.Fits.{Call, range_of}
use Rattle.sym_heap.proofs.laws.EndScopes.{later, earlier}
use Rattle.sym_heap.proofs.laws.Moves.{moves_on}
use Rattle.sym_heap.proofs.laws.States.{agree_on, taken_length}
use Rattle.bed_syntax.specs.declared.weights.Weights.{Weights}
use Rattle.bed_syntax.specs.declared.command.Cmd.{Cmd}
use Rattle.bed_meaning.specs.Locals.{Vars}
use Rattle.bed_meaning.specs.Runs.{All}
use Rattle.bed_meaning.proofs.laws.Running.{runs_append, shape_of_run}
use Rattle.stmt_rules.specs.declared.output.StmtOut.{StmtOut}
use Rattle.stmt_rules.specs.Bound.{cost, cost_all, all_below, sets_below}
use Rattle.stmt_rules.specs.Sound.{IsOutside, StmtRan, StmtDone}
use Rattle.stmt_rules.specs.Words.{joined}

-- Lists.

-- what a list costs before another
pub costs_append : (w : Weights) (call : Call) (cs ds : List Cmd) (ts : List LinearForm)
    → cost_all w call (cs ++ ds) ts
    ≡ (
      (cost_all w call cs ts).0 + (cost_all w call ds (cost_all w call cs ts).1).0,
      (cost_all w call ds (cost_all w call cs ts).1).1,
    )
costs_append w call [] ds ts =
    let none : 0 + (cost_all w call ds ts).0 ≡ (cost_all w call ds ts).0 = omega arith in
    ap (λ n. (n, (cost_all w call ds ts).1)) (sym none)
costs_append w call (k ∷ ks) ds ts =
    let one = cost w call k ts in
    let rest = costs_append w call ks ds one.1 in
    let sum : one.0 + ((cost_all w call ks one.1).0 + (cost_all w call ds (cost_all w call ks one.1).1).0)
    ≡ one.0 + (cost_all w call ks one.1).0 + (cost_all w call ds (cost_all w call ks one.1).1).0 = omega arith in
    ap (λ p. (one.0 + p.0, p.1)) rest ∙ ap (λ n. (n, (cost_all w call ds (cost_all w call ks one.1).1).1)) sum

pub and_parts : (a b : Bool) → (a && b) ≡ true → (a ≡ true) × (b ≡ true)
and_parts true b e = (refl, e)
and_parts false b e = absurd (let bad : false ≡ true = e in cc)

pub below_parts : (n : ℕ) (cs ds : List Cmd) → all_below n (cs ++ ds) ≡ true → (all_below n cs ≡ true) × (all_below n ds ≡ true)
below_parts n [] ds e = (refl, e)
below_parts n (c ∷ cs) ds e =
    let p = and_parts (sets_below n c) (all_below n (cs ++ ds)) e in
    let q = below_parts n cs ds p.1 in
    (rw (p.0, q.0) refl, q.1)

-- The part after a first part.

module _ (ps : List Param) (start one two : Scope) (f g : Env → Env) (before mid after : Context) (p q : StmtOut)
    (first : StmtDone ps start one f before p mid) (second : StmtDone ps one two g mid q after) where
  many : (w : Weights) (call : Call) (rest : List LinearForm)
      → cost_all w call (p.cmds ++ q.cmds) (p.trips ++ (q.trips ++ rest))
      ≡ ((cost_all w call p.cmds p.trips).0 + (cost_all w call q.cmds q.trips).0, rest)
  many w call rest =
      costs_append w call p.cmds q.cmds (p.trips ++ (q.trips ++ rest))
      ∙ ap (λ r. (r.0 + (cost_all w call q.cmds r.1).0, (cost_all w call q.cmds r.1).1)) (first.trips w call (q.trips ++ rest))
      ∙ ap (λ r. ((cost_all w call p.cmds p.trips).0 + r.0, r.1)) (second.trips w call rest)

  -- what both cost
  both_cost : (w : Weights) (call : Call) → (cost_all w call (p.cmds ++ q.cmds) (p.trips ++ q.trips)).0
      ≡ (cost_all w call p.cmds p.trips).0 + (cost_all w call q.cmds q.trips).0
  both_cost w call =
      let whole = many w call [] in
      let no_more : p.trips ++ (q.trips ++ []) ≡ p.trips ++ q.trips = ap (λ l. p.trips ++ l) (append-nil q.trips) in
      ap (λ l. (cost_all w call (p.cmds ++ q.cmds) l).0) (sym no_more) ∙ ap (λ (r : ℕ × List LinearForm). r.0) whole

  ran : (w : Weights) (call : Call) (numbers : ℕ → ℕ) (env : Env) (mem : Bytes) (vars : Vars)
      → (a : StmtRan w call f before p mid numbers env mem vars)
      → StmtRan w call g mid q after a.others (f env) a.left_mem a.left
      → StmtRan w call (λ e. g (f e)) before (joined p q) after numbers env mem vars
  ran w call numbers env mem vars a b = record {
    others = b.others;
    agree = agree_on (length before.tops) (length mid.tops) numbers a.others b.others
        (taken_length before.tops mid.tops first.moves.tops) a.agree b.agree;
    left_mem = b.left_mem;
    left = b.left;
    ticks = a.ticks + b.ticks;
    runs = runs_append w p.cmds q.cmds mem a.left_mem b.left_mem vars a.left b.left a.ticks b.ticks a.runs b.runs;
    fits = b.fits;
    kept = λ l is. b.kept l (ap (has l) first.moves.reserved ∙ is) ∙ a.kept l is;
    unwritten = λ i k l at_k at_l same_writes. (
        let m = later before.clauses mid.clauses i k first.moves.arrays at_k in
        let n = later mid.clauses after.clauses i m.clause second.moves.arrays m.at in
        let both : Some n.clause ≡ Some l = sym n.at ∙ at_l in
        let is : n.clause ≡ l = cc in
        let last : l.writes ≡ n.clause.writes = ap (λ (z : Clause). z.writes) (sym is) in
        let more = m.same_one.writes in
        let yet = n.same_one.writes in
        let writes_one : m.clause.writes ≡ k.writes = omega (arith, more, yet, last, same_writes) in
        let writes_two : l.writes ≡ m.clause.writes = omega (arith, more, yet, last, same_writes) in
        b.unwritten i m.clause l m.at at_l writes_two ∙ a.unwritten i k m.clause at_k m.at writes_one);
    outside = λ address out. b.outside address (beyond address out) ∙ a.outside address out;
    time = (let t = a.time in let u = b.time in let sum = both_cost w call in omega (arith, t, u, sum));
  } where
    beyond : (address : ℕ) → IsOutside call before.clauses address → IsOutside call mid.clauses address
    beyond address out i k at within =
        let m = earlier before.clauses mid.clauses i k first.moves.arrays at in
        out i m.clause m.at (subst (λ (n : ℕ). Within (range_of call n) address) m.same_one.param within)

  -- one after the other, what is right stays so
  pub seq_done : StmtDone ps start two (λ env. g (f env)) before (joined p q) after
  seq_done = record {
    moves = moves_on before mid after first.moves second.moves;
    consistent = second.consistent;
    scoped = second.scoped;
    typed = λ lengths env is. second.typed lengths (f env) (first.typed lengths env is);
    trips = λ w call rest. (let shape : p.trips ++ q.trips ++ rest
        ≡ p.trips ++ (q.trips ++ rest) = append_assoc p.trips q.trips rest in
        ap (cost_all w call (p.cmds ++ q.cmds)) shape ∙ many w call rest ∙ ap (λ n. (n, rest)) (sym (both_cost w call)));
    runs = λ lengths w call numbers env mem vars is fits room. (
        let parts = below_parts (length vars) p.cmds q.cmds room in
        let a = first.runs lengths w call numbers env mem vars is fits parts.0 in
        let count = (shape_of_run w (All p.cmds) mem vars a.left_mem a.left a.ticks a.runs).count in
        let b = second.runs lengths w call a.others (f env) a.left_mem a.left (first.typed lengths env is) a.fits
        (ap (λ n. all_below n q.cmds) count ∙ parts.1) in
        ran w call numbers env mem vars a b);
  }
