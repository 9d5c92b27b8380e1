-- s-let is sound.
use Rattle.std.proofs.Common.{◌≡◌, refl, sym, ◌∙◌, ap, subst, arith, ℕ, zero, suc, ◌+◌, ◌<◌, Bool, true, false, ◌&&◌, List, []}
use Rattle.std.proofs.Common.{◌∷◌, length, Option, Some, None, slice_get, slice_set, nat_lt, Ok, Err}
use Rattle.std.proofs.lemmas.Bool.{ltb-true, lt-ltb}
use Rattle.rup_base.specs.declared.arg.Arg.TheVariants as arg
use Rattle.rup_base.specs.declared.refusal.TypeWhy.TheVariants.{NameTaken}
use Rattle.rv_memory.specs.Ranges.{Bytes}
use Rattle.side_certs.specs.LinearForm.{LinearForm}
use Rattle.model_syntax.specs.declared.expr.Scalar.{Scalar}
use Rattle.model_syntax.specs.declared.program.Param.{Param}
use Rattle.model_syntax.specs.declared.scope.NameType.TheVariants.{Scalar as One, Array as Many}
use Rattle.model_syntax.specs.Environment.{Env, value_of, put}
use Rattle.model_syntax.specs.Names.{Name, same}
use Rattle.model_syntax.specs.Sound.{IsTyped}
use Rattle.model_syntax.specs.Scope.{Scope, look_up, bind, scalar_may_take}
use Rattle.model_syntax.proofs.laws.Bindings.{same_is, value_else}
use Rattle.sym_heap.specs.declared.parts.Held.{Held}
use Rattle.sym_heap.specs.declared.parts.Clause.{Clause}
use Rattle.sym_heap.specs.Context.{Context, scalar, own, has, held, is_free, with_scalar}
use Rattle.sym_heap.specs.Fits.{Call}
use Rattle.sym_heap.specs.Moves.{Moves, Follow, local_of}
use Rattle.sym_heap.specs.Scoped.{IsScoped}
use Rattle.sym_heap.proofs.laws.Lookups.{clause_stands, clause_found}
use Rattle.sym_heap.proofs.laws.Moves.{moves_on, bound_moves, follow_self}
use Rattle.sym_heap.proofs.laws.Scopes.{bound_scoped}
use Rattle.sym_heap.proofs.laws.States.{SetAt, bound_consistent, bind_fits, locals_set, free_reserved}
use Rattle.bed_syntax.specs.Weight.{expr_weight}
use Rattle.bed_syntax.specs.declared.weights.Weights.{Weights}
use Rattle.bed_syntax.specs.declared.command.Cmd.{Cmd, roll-Cmd, map-Cmd, fold-roll-Cmd}
use Rattle.bed_syntax.specs.declared.command.Cmd.TheOpen as c
use Rattle.bed_meaning.specs.Locals.{Vars, local_at, assigned}
use Rattle.bed_meaning.specs.Locals as locals
use Rattle.bed_meaning.specs.Runs.{sets, done, next}
use Rattle.expr_rules.specs.declared.output.ExprOut.{ExprOut}
use Rattle.expr_rules.specs.Sound.{Extends, ExprRan, ExprDone}
use Rattle.stmt_rules.specs.Bound.{Cost, cost, cost_step, cost_all, all_below, sets_below, sets_below_step}
use Rattle.stmt_rules.specs.Sound.{StmtRan, StmtDone}
use Rattle.stmt_rules.specs.rules.Let.{setting}

-- Locals.

pub set_other : (vars : Vars) (x y : ℕ) (a : Option ℕ) → (y ≡ x → ⊥) → slice_get (slice_set vars x a) y ≡ slice_get vars y
set_other [] x y a h = refl
set_other (b ∷ l) zero zero a h = absurd (h refl)
set_other (b ∷ l) zero (suc y) a h = refl
set_other (b ∷ l) (suc x) zero a h = refl
set_other (b ∷ l) (suc x) (suc y) a h = set_other l x y a (λ e. h (ap suc e))

pub set_here : (vars : Vars) (x : ℕ) (a : Option ℕ) → x < length vars → slice_get (slice_set vars x a) x ≡ Some a
set_here [] x a h = absurd (omega (arith, h))
set_here (b ∷ l) zero a h = refl
set_here (b ∷ l) (suc x) a h = set_here l x a (omega (arith, h))

-- Contexts.

pub extends_moves : (before after : Context) → Extends before after → Moves before after
extends_moves before after e = record {
  arrays = subst (λ (ks : List Clause). Follow before.clauses ks) (sym e.clauses) (follow_self before.clauses);
  locals = λ x h at r. ap local_of (ap (λ hs. scalar (record before { scalars = hs }) x) (sym e.scalars) ∙ at);
  reserved = e.reserved;
  facts = e.facts;
  tops = e.tops;
  entries = e.entries;
}

-- a name that a scalar may take is no array's
pub no_array : (ps : List Param) (scope : Scope) (c : Context) (x : Name) → scalar_may_take (look_up scope x) ≡ Ok tt
    → IsScoped ps scope c → own c x ≡ None
no_array ps scope c x free s = by (own c x) refl where
  by : (o : Option Clause) → own c x ≡ o → own c x ≡ None
  by None e = e
  by (Some k) e =
      let p = clause_stands c x k e in
      let a = s.clauses p.place k p.at in
      let type : look_up scope x ≡ Some (Many a.element a.len) = ap (look_up scope) (sym p.named) ∙ a.type in
      absurd (let bad : Err NameTaken ≡ Ok tt = sym (ap scalar_may_take type) ∙ free in cc)

module _ (ps : List Param) (scope : Scope) (f : Env → ℕ) (t : Scalar) (before mid : Context) (p : ExprOut) (x : Name) (l : ℕ)
    (kid : ExprDone ps scope f t before p mid) (free : is_free mid l (Some x) ≡ true)
    (may : scalar_may_take (look_up scope x) ≡ Ok tt)
    (kept : (lengths : Name → ℕ) (env : Env) → IsTyped lengths scope env
    → IsTyped lengths (bind x (One t) scope) (put x (arg.Word (f env)) env)) where
  abbrev new : Held
  new = held x l p.form t

  abbrev after : Context
  after = with_scalar new mid

  abbrev cmd : Cmd
  cmd = roll-Cmd (c.Set l p.code)

  cost_is : (w : Weights) (call : Call) (rest : List LinearForm)
      → cost_all w call (cmd ∷ []) rest ≡ (expr_weight w p.code + w.set, rest)
  cost_is w call rest =
      let one : cost w call cmd ≡ cost_step w call (map-Cmd Cmd Cost (cost w call) (c.Set l p.code)) =
      fold-roll-Cmd Cost (cost_step w call) (c.Set l p.code) in
      let sum : expr_weight w p.code + w.set + 0 ≡ expr_weight w p.code + w.set = omega arith in
      ap (λ (k : Cost). ((k rest).0 + 0, (k rest).1)) one ∙ ap (λ n. (n, rest)) sum

  room_is : (n : ℕ) → all_below n (cmd ∷ []) ≡ true → l < n
  room_is n room = by (nat_lt l n) refl where
    one : sets_below n cmd ≡ nat_lt l n
    one = fold-roll-Cmd Bool (sets_below_step n) (c.Set l p.code)

    by : (b : Bool) → nat_lt l n ≡ b → l < n
    by true e = ltb-true l n e
    by false e = absurd (let bad : (nat_lt l n && true) ≡ true = ap (λ b. b && true) (sym one) ∙ room in
        let worse : (false && true) ≡ true = rw e at bad in cc)

  far : (a : Name) (k : Clause) → own mid a ≡ Some k → (b : Bool) → same x a ≡ b → same x a ≡ false
  far a k at true e = absurd (let bad : None
      ≡ Some k = sym (no_array ps scope mid x may kid.scoped) ∙ ap (own mid) (same_is x a e) ∙ at in cc)
  far a k at false e = e

  set_at : (vars : Vars) (n : ℕ) → SetAt l (local_at vars) (local_at (slice_set vars l (Some n)))
  set_at vars n j apart = ap locals.value_of (set_other vars l j (Some n) apart)

  ran : (w : Weights) (call : Call) (numbers : ℕ → ℕ) (env : Env) (mem : Bytes) (vars : Vars) → l < length vars
      → ExprRan call (f env) t before p mid numbers env mem vars
      → StmtRan w call (λ e. put x (arg.Word (f e)) e) before (setting l p.code) after numbers env mem vars
  ran w call numbers env mem vars room r =
      let left : Vars = slice_set vars l (Some (f env)) in
      let here : local_at left l ≡ Some (f env) = ap locals.value_of (set_here vars l (Some (f env)) room) in
      record {
        others = r.others;
        agree = r.agree;
        left_mem = mem;
        left = left;
        ticks = expr_weight w p.code + w.set + 0;
        runs = next cmd [] (expr_weight w p.code + w.set) 0 mem mem mem vars left left
            (sets l p.code (f env) mem vars left r.value put_in) (done mem left);
        fits = bind_fits call r.others mid new (f env) env mem (local_at vars) (local_at left) r.fits kid.known free
            (no_array ps scope mid x may kid.scoped) r.small r.form here
            (locals_set mid l x (local_at vars) (local_at left) kid.consistent free (set_at vars (f env)));
        kept = λ j is. set_at vars (f env) j
            (λ same_one. absurd (let bad : true ≡ false = sym is ∙ ap (λ ls. has j ls) (sym kid.extends.reserved)
            ∙ ap (λ m. has m mid.reserved) same_one ∙ free_reserved mid l (Some x) free in cc));
        unwritten = λ i k m at_k at_m writes. (
            let both : Some m ≡ Some k = sym at_m ∙ ap (λ ks. slice_get ks i) kid.extends.clauses ∙ at_k in
            let one : m ≡ k = cc in
            ap (λ (z : Clause). value_of (put x (arg.Word (f env)) env) z.name) one
            ∙ value_else x k.name (arg.Word (f env)) env
            (far k.name k (clause_found mid kid.consistent i k (ap (λ ks. slice_get ks i) kid.extends.clauses ∙ at_k))
            (same x k.name) refl));
        outside = λ address out. refl;
        time = (let c_is : (cost_all w call (cmd ∷ []) []).0
            ≡ expr_weight w p.code + w.set = ap (λ (q : ℕ × List LinearForm). q.0) (cost_is w call []) in omega (arith, c_is));
      }
    where
      put_in : assigned l (f env) vars ≡ Some (slice_set vars l (Some (f env)))
      put_in = let test : nat_lt l (length vars) ≡ true = lt-ltb l (length vars) room in rw test refl

  pub let_done : StmtDone ps scope (bind x (One t) scope) (λ env. put x (arg.Word (f env)) env) before (setting l p.code) after
  let_done = record {
    moves = moves_on before mid after (extends_moves before mid kid.extends) (bound_moves mid new free);
    consistent = bound_consistent mid new kid.known free kid.consistent;
    scoped = bound_scoped ps scope mid new may kid.scoped;
    typed = kept;
    trips = λ w call rest. cost_is w call rest
        ∙ ap (λ (n : ℕ). (n, rest)) (ap (λ (q : ℕ × List LinearForm). q.0) (sym (cost_is w call [])));
    runs = λ lengths w call numbers env mem vars is fits room. ran w call numbers env mem vars (room_is (length vars) room)
        (kid.runs lengths call numbers env mem vars is fits);
  }
