-- s-if is sound. c is the context before the node and mid that after the test, at which both blocks begin; the second one has the
-- symbols of the first block too. What the ends of both blocks make of
-- mid is in sound/Meeting, and what the block that ran leaves
-- in sound/Ended; here are the order of the parts, the run and the bound.
use Rattle.std.proofs.Common.{◌≡◌, refl, sym, ◌∙◌, ap, subst, arith, ℕ, ◌+◌, ◌≤◌, max, Bool, true, false, List, ◌++◌, length}
use Rattle.std.proofs.Common.{drop, map, Option, Some}
use Rattle.std.specs.FinMap.{get}
use Rattle.std.specs.List.{list_all}
use Rattle.std.proofs.Math.Nat.{le-max_left, le-max_right}
use Rattle.rup_base.specs.Word.{counted}
use Rattle.model_syntax.specs.declared.expr.Expr.{Expr}
use Rattle.model_syntax.specs.declared.expr.Scalar.TheVariants.{Flag}
use Rattle.model_syntax.specs.declared.program.Param.{Param}
use Rattle.model_syntax.specs.declared.stmt.Le.{Le}
use Rattle.model_syntax.specs.declared.stmt.Stmt.{Stmt}
use Rattle.model_syntax.specs.Environment.{Env, carry}
use Rattle.rv_memory.specs.Ranges.{Bytes}
use Rattle.model_syntax.specs.Limits.{next}
use Rattle.model_syntax.specs.Names.{Name, listed}
use Rattle.model_syntax.specs.Scope.{Scope}
use Rattle.model_syntax.specs.Sound.{IsTyped}
use Rattle.model_syntax.specs.Types as types
use Rattle.model_syntax.specs.Value.{Turn, run, in_turn, eval, is_true}
use Rattle.sym_heap.specs.declared.parts.Held.{Held}
use Rattle.sym_heap.specs.declared.parts.Clause.{Clause}
use Rattle.sym_heap.specs.Context.{Context, scalar, has, back_to}
use Rattle.sym_heap.specs.Ends.{standing}
use Rattle.sym_heap.specs.Fits.{Call, IsConsistent, FitsBy}
use Rattle.sym_heap.specs.Moves.{Moves}
use Rattle.sym_heap.specs.Scoped.{IsScoped}
use Rattle.sym_heap.specs.Settle.{or_nothing, settle}
use Rattle.sym_heap.specs.Sides.{form_in}
use Rattle.sym_heap.specs.Start.{with_facts}
use Rattle.sym_heap.specs.Turns.{unlisted_locals}
use Rattle.sym_heap.proofs.laws.Lookups.{scalar_stands}
use Rattle.sym_heap.proofs.laws.Moves.{moves_on, params_once}
use Rattle.sym_heap.proofs.laws.Scopes.{back_scoped}
use Rattle.bed_syntax.specs.Weight.{expr_weight}
use Rattle.bed_syntax.specs.declared.weights.Weights.{Weights}
use Rattle.bed_meaning.specs.Locals.{Vars, local_at}
use Rattle.bed_meaning.specs.Runs.{All, Runs}
use Rattle.sym_heap.proofs.laws.States.{MoreTops, agree_on, wider_consistent, known_more, known_same, taken_length}
use Rattle.sym_heap.proofs.laws.States.{nothing_agrees, fits_after_block}
use Rattle.side_certs.specs.LinearForm.{LinearForm}
use Rattle.side_certs.specs.declared.certificate.Cert.{Cert}
use Rattle.expr_rules.specs.declared.output.ExprOut.{ExprOut}
use Rattle.expr_rules.specs.Sound.{AllHold, ExprRan, ExprDone, Yields}
use Rattle.expr_rules.specs.Words.{Rule, ◌>>=◌, need, give}
use Rattle.expr_rules.proofs.laws.Yields.{yields_then, yields_need, yields_more}
use Rattle.stmt_rules.specs.declared.output.StmtOut.{StmtOut}
use Rattle.stmt_rules.specs.Nesting.{stands_alike, is_array_alike, taken, all_renewed, all_kept}
use Rattle.stmt_rules.specs.Bound.{cost_all, all_below}
use Rattle.stmt_rules.specs.Sound.{UnwrittenKept, IsOutside, StmtRan, StmtDone, AreSound}
use Rattle.stmt_rules.specs.rules.If as if_rule
use Rattle.stmt_rules.proofs.Scopes.{scalars_stay}
use Rattle.stmt_rules.proofs.sound.After.{more_tops, moves_after}
use Rattle.stmt_rules.proofs.sound.Begun.{begun, begun_fits, facts_consistent, facts_scoped, more_reserved}
use Rattle.stmt_rules.proofs.sound.Choosing.{choosing_bound, choosing_trips, first_chosen, second_chosen, sides_below}
use Rattle.stmt_rules.proofs.sound.Ended.{IsEnd, HasRun, first_end, second_end, unwritten_after, ended_fits}
use Rattle.stmt_rules.proofs.sound.IfTyped.{IfFormed, IfTyped, branched}
use Rattle.stmt_rules.proofs.sound.Let.{extends_moves}
use Rattle.stmt_rules.proofs.sound.Joined.{forms_of, all_kept_are, all_renewed_are}
use Rattle.stmt_rules.proofs.sound.Meeting.{over, Meeting, has_right, unlisted_has, lost, settled_good, settled_scoped}
use Rattle.stmt_rules.proofs.sound.Meeting.{kept_known}
use Rattle.stmt_rules.proofs.sound.Side.{SideDone, side_yields}

-- The contexts after both blocks.

abbrev pub settled : List Name → Context → Context → Context → Context
settled names mid one two = settle names one (over names mid one two)

abbrev pub after : List Name → List Le → Context → Context → Context → Context
after names keep mid one two =
    with_facts (forms_of (form_in (settled names mid one two).scalars) keep) (settled names mid one two)

-- what the conditions after both blocks say
pub record EndsMeet (names : List Name) (keep : List Le) (mid one two d : Context) : Type 0 where
  pub places : list_all (stands_alike (standing one) (standing two)) names ≡ true
  pub arrays : list_all (is_array_alike (standing one) (standing two)) names ≡ true
  pub after_is : d ≡ after names keep mid one two

joins_yield : (at : ℕ) (names : List Name) (keep : List Le) (mid one two : Context)
    → Yields (λ _ d. EndsMeet names keep mid one two d)
    (if_rule.joins at names keep (standing one) (standing two) (back_to mid two))
joins_yield at names keep mid one two =
    yields_need Q (back_to mid two) (list_all (stands_alike (standing one) (standing two)) names) at 7
    (λ _. need (list_all (is_array_alike (standing one) (standing two)) names) at 8 >>= rest)
    (λ places. yields_need Q (back_to mid two) (list_all (is_array_alike (standing one) (standing two)) names) at 8 rest
    (λ arrays. yields_then Q (over names mid one two) (λ _ d. d ≡ settled names mid one two) (all_renewed at names one.scalars)
    (λ _. all_kept at keep)
    (all_renewed_are at names one (over names mid one two))
    (λ u d is. subst (λ (z : Context). Yields Q (all_kept at keep z)) (sym is)
    (yields_more (λ _ e. e ≡ after names keep mid one two) Q
    (λ v e same. record { places = places; arrays = arrays; after_is = same })
    (all_kept at keep (settled names mid one two)) (all_kept_are at keep (settled names mid one two))))))
  where
    Q : Unit {0} → Context → Type 0
    Q u d = EndsMeet names keep mid one two d

    rest : Unit {0} → Rule (Unit {0})
    rest u = taken names (standing one) (standing two) >>= (λ _. all_renewed at names one.scalars >>= (λ _. all_kept at keep))

back_consistent : (mid end_ : Context) → MoreTops mid end_.tops → end_.entries ≡ mid.entries → IsConsistent mid
    → IsConsistent (back_to mid end_)
back_consistent mid end_ more entries good =
    subst (λ (n : ℕ). IsConsistent (record mid { tops = end_.tops; entries = n })) (sym entries)
    (wider_consistent mid end_.tops more good)

-- the locals of scalars that are not listed are as they were, where those that a block reserved are
unlisted_kept : (names : List Name) (mid : Context) (before after : ℕ → Option ℕ)
    → ((l : ℕ) → has l (mid.reserved ++ unlisted_locals names mid.scalars) ≡ true → after l ≡ before l)
    → (x : Name) (h : Held) → scalar mid x ≡ Some h → listed x names ≡ false → after h.local ≡ before h.local
unlisted_kept names mid before after kept x h at out =
    let p = scalar_stands mid x h at in
    kept h.local (has_right h.local mid.reserved (unlisted_locals names mid.scalars)
    (unlisted_has names mid.scalars p.place h p.at (ap (λ y. listed y names) p.named ∙ out)))

-- From the test on: the blocks are rules that are sound for their statements.
module _ (ps : List Param) (scope : Scope) (k : ℕ) (state : types.State) (c mid : Context) (test : Expr) (p : ExprOut)
    (names : List Name) (keep : List Le)
    (first second : List Stmt) (at : ℕ) (certs : List Cert) (one two : Rule StmtOut)
    (kid : ExprDone ps scope (eval test) Flag c p mid) (formed : IfFormed test names keep first second)
    (typed : IfTyped test names keep first second k scope state)
    (one_sound : AreSound first one) (two_sound : AreSound second two)
    (kept : (lengths : Name → ℕ) (env : Env) → IsTyped lengths scope env
    → IsTyped lengths typed.joined (branched test names first second env)) where
  abbrev IfDone : StmtOut → Context → Type 0
  IfDone = StmtDone ps scope typed.joined (branched test names first second) c

  abbrev first_turn : Turn
  first_turn = in_turn (map run first)

  abbrev second_turn : Turn
  second_turn = in_turn (map run second)

  abbrev FirstDone : if_rule.Side → Context → Type 0
  FirstDone = SideDone ps scope typed.one.1 first_turn names keep p.yes mid

  abbrev SecondDone : Context → if_rule.Side → Context → Type 0
  SecondDone e = SideDone ps scope typed.two.1 second_turn names keep p.no (back_to mid e)

  -- Both blocks are done, and their ends meet.
  module _ (r1 r2 : if_rule.Side) (d1 d2 d3 : Context) (s1 : FirstDone r1 d1) (s2 : SecondDone s1.end_ r2 d2)
      (meet : EndsMeet names keep mid s1.end_ s2.end_ d3) where
    abbrev last : Context
    last = settled names mid s1.end_ s2.end_

    abbrev fs : List LinearForm
    fs = forms_of (form_in last.scalars) keep

    abbrev out : StmtOut
    out = if_rule.choosing p.code r1.0 r2.0

    meeting : Meeting ps scope typed.one.1 typed.two.1 typed.joined names mid s1.end_ s2.end_
    meeting = record {
      good = kid.consistent;
      scoped = kid.scoped;
      one_good = s1.done.consistent;
      one_scoped = s1.done.scoped;
      one_follow = s1.done.moves.arrays;
      one_kept = s1.kept;
      two_good = s2.done.consistent;
      two_scoped = s2.done.scoped;
      two_follow = s2.done.moves.arrays;
      two_kept = s2.kept;
      places = meet.places;
      arrays = meet.arrays;
      came = s1.done.moves.locals;
      tops = more_tops names mid s1.end_ s2.end_ p.yes p.no s1.done.moves s2.done.moves;
      entries = s2.done.moves.entries ∙ s1.done.moves.entries;
      joined = typed.joined_is;
      stays = λ x scalar. scalars_stay first (next k) scope typed.one typed.first_typed x scalar;
    }

    -- The state.
    module _ (lengths : Name → ℕ) (w : Weights) (call : Call) (numbers : ℕ → ℕ) (env : Env) (mem : Bytes) (vars : Vars)
        (is_typed : IsTyped lengths scope env)
        (r : ExprRan call (eval test env) Flag c p mid numbers env mem vars) where
      -- the block that ran: from its end the whole fits
      abbrev Left : Context → Env → (ℕ → ℕ) → Bytes → Vars → Type 0
      Left end_ end_env others left_mem left =
          HasRun names keep call r.others others mid end_ env end_env mem left_mem (local_at vars) (local_at left)

      finish : (end_ : Context) (end_env : Env) (others : ℕ → ℕ) (left_mem : Bytes) (left : Vars) (ticks : ℕ)
          → IsEnd names mid s1.end_ s2.end_ end_
          → Left end_ end_env others left_mem left → carry names end_env env ≡ branched test names first second env
          → Runs w (All out.cmds) mem vars left_mem left (expr_weight w p.code + w.test + ticks)
          → ((l : ℕ) → has l (mid.reserved ++ unlisted_locals names mid.scalars) ≡ true → local_at left l ≡ local_at vars l)
          → ((address : ℕ) → IsOutside call mid.clauses address → get left_mem address ≡ get mem address)
          → ticks ≤ max (cost_all w call r1.0.cmds r1.0.trips).0 (cost_all w call r2.0.cmds r2.0.trips).0
          → StmtRan w call (branched test names first second) c out d3 numbers env mem vars
      finish end_ end_env others left_mem left ticks is_end ran sem runs stays outside time =
          let o = ended_fits ps scope typed.one.1 typed.two.1 typed.joined names keep mid s1.end_ s2.end_ meeting call r.others
          others end_ env end_env mem left_mem (local_at vars) (local_at left) is_end ran
          (kept_known ps scope typed.one.1 typed.two.1 typed.joined names mid s1.end_ s2.end_ meeting keep) in
          let unwritten = unwritten_after ps scope typed.one.1 typed.two.1 typed.joined names keep mid s1.end_ s2.end_ meeting
          call r.others others end_ env end_env mem left_mem (local_at vars) (local_at left) is_end ran in
          subst (λ (z : Context). StmtRan w call (branched test names first second) c out z numbers env mem vars)
          (sym meet.after_is) (record {
            others = o.0;
            agree = agree_on (length c.tops) (length mid.tops) numbers r.others o.0
                (taken_length c.tops mid.tops kid.extends.tops) r.agree o.1;
            left_mem = left_mem;
            left = left;
            ticks = expr_weight w p.code + w.test + ticks;
            runs = runs;
            fits = subst (λ (e : Env). FitsBy call o.0 (after names keep mid s1.end_ s2.end_) e left_mem (local_at left)) sem o.2;
            kept = λ l is. stays l (more_reserved l mid.reserved (unlisted_locals names mid.scalars)
                (ap (has l) kid.extends.reserved ∙ is));
            unwritten = subst (λ (e : Env). UnwrittenKept c.clauses last.clauses env e) sem
                (subst (λ (ks : List Clause). UnwrittenKept ks last.clauses env (carry names end_env env)) kid.extends.clauses
                unwritten);
            outside = λ address far. outside address
                (subst (λ (ks : List Clause). IsOutside call ks address) (sym kid.extends.clauses) far);
            time = (let cost = choosing_bound w call p.code r1.0 r2.0 (s1.done.trips w call) (s2.done.trips w call) in
                omega (arith, cost, time));
          })

      first_ran : is_true (eval test env) ≡ true → all_below (length vars) r1.0.cmds ≡ true
          → StmtRan w call (branched test names first second) c out d3 numbers env mem vars
      first_ran e room = after_block
          (s1.done.runs lengths w call r.others env mem vars is_typed
          (begun_fits call r.others env mem (local_at vars) names p.yes mid kid.yes_known (r.yes e) r.fits) room) where
            after_block : StmtRan w call first_turn (begun names p.yes mid) r1.0 s1.end_ r.others env mem vars
                → StmtRan w call (branched test names first second) c out d3 numbers env mem vars
            after_block a =
                finish s1.end_ (first_turn env) a.others a.left_mem a.left a.ticks
                (first_end ps scope typed.one.1 typed.two.1 typed.joined names mid s1.end_ s2.end_ meeting)
                (record {
                  began = r.fits;
                  fits = a.fits;
                  agree = a.agree;
                  unwritten = a.unwritten;
                  locals_kept = unlisted_kept names mid (local_at vars) (local_at a.left) a.kept;
                  hold = s1.hold a.others a.fits.holds;
                })
                (rw e refl)
                (first_chosen w p.code r1.0 r2.0 mem a.left_mem vars a.left a.ticks (eval test env) r.value e a.runs) a.kept
                a.outside
                (let t = a.time in let m = le-max_left (cost_all w call r1.0.cmds r1.0.trips).0
                (cost_all w call r2.0.cmds r2.0.trips).0 in omega (arith, t, m))

      -- the symbols of the first block have the number 0
      abbrev zeroed : ℕ → ℕ
      zeroed = or_nothing (length mid.tops) r.others

      abbrev back : Context
      back = back_to mid s1.end_

      no_holds : AllHold r.others p.no → AllHold zeroed p.no
      no_holds hold i f there = rw (known_same (length mid.tops) f r.others zeroed (kid.no_known i f there)
          (nothing_agrees (length mid.tops) r.others)) (hold i f there)

      second_ran : is_true (eval test env) ≡ false → all_below (length vars) r2.0.cmds ≡ true
          → StmtRan w call (branched test names first second) c out d3 numbers env mem vars
      second_ran e room = after_block
          (s2.done.runs lengths w call zeroed env mem vars is_typed
          (begun_fits call zeroed env mem (local_at vars) names p.no back
          (λ i f there. known_more (length mid.tops) (length s1.end_.tops) f
          (taken_length mid.tops s1.end_.tops s1.done.moves.tops) (kid.no_known i f there)) (no_holds (r.no e))
          (fits_after_block call r.others mid s1.end_ env mem (local_at vars) s1.done.moves.tops s1.done.moves.entries r.fits))
          room)
        where
          after_block : StmtRan w call second_turn (begun names p.no back) r2.0 s2.end_ zeroed env mem vars
              → StmtRan w call (branched test names first second) c out d3 numbers env mem vars
          after_block a =
              finish s2.end_ (second_turn env) a.others a.left_mem a.left a.ticks
              (second_end ps scope typed.one.1 typed.two.1 typed.joined names mid s1.end_ s2.end_ meeting)
              (record {
                began = r.fits;
                fits = a.fits;
                agree = agree_on (length mid.tops) (length s1.end_.tops) r.others zeroed a.others
                    (taken_length mid.tops s1.end_.tops s1.done.moves.tops) (nothing_agrees (length mid.tops) r.others) a.agree;
                unwritten = a.unwritten;
                locals_kept = unlisted_kept names mid (local_at vars) (local_at a.left) a.kept;
                hold = s2.hold a.others a.fits.holds;
              })
              (rw e refl)
              (second_chosen w p.code r1.0 r2.0 mem a.left_mem vars a.left a.ticks (eval test env) r.value e a.runs) a.kept
              a.outside
              (let t = a.time in let m = le-max_right (cost_all w call r1.0.cmds r1.0.trips).0
              (cost_all w call r2.0.cmds r2.0.trips).0 in omega (arith, t, m))

      ran : all_below (length vars) out.cmds ≡ true
          → StmtRan w call (branched test names first second) c out d3 numbers env mem vars
      ran room = by (is_true (eval test env)) refl where
        below : (all_below (length vars) r1.0.cmds ≡ true) × (all_below (length vars) r2.0.cmds ≡ true)
        below = sides_below (length vars) p.code r1.0 r2.0 room

        by : (b : Bool) → is_true (eval test env) ≡ b
            → StmtRan w call (branched test names first second) c out d3 numbers env mem vars
        by true e = first_ran e below.0
        by false e = second_ran e below.1

    finished : IfDone out d3
    finished = record {
      moves = moves_on c mid d3 (extends_moves c mid kid.extends) (subst (λ (z : Context). Moves mid z) (sym meet.after_is)
          (moves_after names mid s1.end_ s2.end_ p.yes p.no s1.done.moves s2.done.moves fs
          (lost ps scope typed.one.1 typed.two.1 typed.joined names mid s1.end_ s2.end_ meeting)
          (params_once mid kid.consistent)));
      consistent = subst IsConsistent (sym meet.after_is)
          (facts_consistent fs last (kept_known ps scope typed.one.1 typed.two.1 typed.joined names mid s1.end_ s2.end_ meeting
          keep)
          (settled_good ps scope typed.one.1 typed.two.1 typed.joined names mid s1.end_ s2.end_ meeting));
      scoped = subst (λ (z : Context). IsScoped ps typed.joined z) (sym meet.after_is)
          (facts_scoped ps typed.joined fs last
          (settled_scoped ps scope typed.one.1 typed.two.1 typed.joined names mid s1.end_ s2.end_ meeting));
      typed = kept;
      trips = λ w call. choosing_trips w call p.code r1.0 r2.0 (s1.done.trips w call) (s2.done.trips w call);
      runs = λ lengths w call numbers env mem vars is_typed fits room. ran lengths w call numbers env mem vars is_typed
          (kid.runs lengths call numbers env mem vars is_typed fits) room;
    }

  abbrev second_side : Rule if_rule.Side
  second_side = if_rule.side at names keep (counted (length keep)) (drop (length keep) certs) p.no two

  abbrev joining : if_rule.Side → if_rule.Side → Rule StmtOut
  joining r1 r2 = if_rule.joins at names keep r1.1 r2.1 >>= (λ _. give (if_rule.choosing p.code r1.0 r2.0))

  joined : (r1 r2 : if_rule.Side) (d1 d2 : Context) (s1 : FirstDone r1 d1) (s2 : SecondDone s1.end_ r2 d2)
      → Yields IfDone (joining r1 r2 d2)
  joined r1 r2 d1 d2 s1 s2 =
      rw (s2.after_is, s1.stood, s2.stood)
      (yields_then IfDone (back_to mid s2.end_) (λ _ d. EndsMeet names keep mid s1.end_ s2.end_ d)
      (if_rule.joins at names keep (standing s1.end_) (standing s2.end_))
      (λ _. give (if_rule.choosing p.code r1.0 r2.0)) (joins_yield at names keep mid s1.end_ s2.end_)
      (λ u d3 meet. finished r1 r2 d1 d2 d3 s1 s2 meet))

  with_second : (r1 : if_rule.Side) (d1 : Context) (s1 : FirstDone r1 d1) → Yields IfDone ((second_side >>= joining r1) d1)
  with_second r1 d1 s1 =
      let m = s1.done.moves in
      let back = back_to mid s1.end_ in
      subst (λ (z : Context). Yields IfDone ((second_side >>= joining r1) z)) (sym s1.after_is)
      (yields_then IfDone back (SecondDone s1.end_) second_side (joining r1)
      (side_yields ps scope typed.one.0 typed.two at (counted (length keep)) names keep (drop (length keep) certs) p.no second two
      back two_sound
      (back_consistent mid s1.end_ m.tops m.entries kid.consistent) (back_scoped ps scope mid s1.end_ kid.scoped m.entries)
      (λ i f there. known_more (length mid.tops) (length s1.end_.tops) f (taken_length mid.tops s1.end_.tops m.tops)
      (kid.no_known i f there))
      formed.second_formed formed.second_spelled typed.second_typed)
      (λ r2 d2 s2. joined r1 r2 d1 d2 s1 s2))

  pub if_yields : Yields IfDone (if_rule.after at names keep certs p one two mid)
  if_yields =
      yields_then IfDone mid FirstDone (if_rule.side at names keep 0 certs p.yes one) (λ r1. second_side >>= joining r1)
      (side_yields ps scope (next k) typed.one at 0 names keep certs p.yes first one mid one_sound kid.consistent kid.scoped
      kid.yes_known
      formed.first_formed formed.first_spelled typed.first_typed)
      (λ r1 d1 s1. with_second r1 d1 s1)
