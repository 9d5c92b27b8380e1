-- s-put and s-move are sound.
use Rattle.std.proofs.Common.{◌≡◌, refl, sym, ◌∙◌, ap, subst, arith, ℕ, suc, ◌+◌, ◌*◌, ◌%◌, ◌<◌, ◌≤◌, ◌≤ℤ◌, inl, inr, Bool, true}
use Rattle.std.proofs.Common.{false, List, [], ◌∷◌, length, get_or, Option, Some, None, slice_get, pos, negsuc, set}
use Rattle.std.proofs.Common.{mul-le-mul_left}
use Rattle.std.specs.FinMap.{get}
use Rattle.std.proofs.lemmas.Int.{ints}
use Rattle.std.proofs.lemmas.Option.{slice_get-get_or}
use Rattle.rup_base.specs.declared.arg.Arg.{Arg}
use Rattle.rup_base.specs.declared.arg.Arg.TheVariants as arg
use Rattle.rv_memory.specs.Ranges.{Bytes, Stands, Within}
use Rattle.side_certs.specs.Closes.{Holds}
use Rattle.side_certs.specs.LinearForm.{LinearForm, constant, plus, times, value_at}
use Rattle.side_certs.proofs.laws.Values.{value_plus, value_times, value_constant}
use Rattle.model_syntax.specs.declared.expr.Scalar.{Scalar}
use Rattle.model_syntax.specs.declared.expr.Scalar.TheVariants.{Word, Byte, Flag}
use Rattle.model_syntax.specs.declared.program.Len.{Len}
use Rattle.model_syntax.specs.declared.program.Param.{Param}
use Rattle.model_syntax.specs.declared.scope.NameType.TheVariants.{Scalar as One, Array as Many}
use Rattle.model_syntax.specs.Environment.{Env, value_of, elements, with_element, put_some}
use Rattle.model_syntax.specs.Names.{Name, same}
use Rattle.model_syntax.specs.Sound.{IsTyped}
use Rattle.model_syntax.specs.Scope.{Scope, look_up, bind}
use Rattle.model_syntax.proofs.laws.Bindings.{same_is, same_self, value_here, value_else}
use Rattle.sym_heap.specs.declared.parts.Held.{Held}
use Rattle.sym_heap.specs.declared.parts.Clause.{Clause}
use Rattle.sym_heap.specs.Context.{Context, scalar, own, can_move, with_clause, written, renamed, top_of}
use Rattle.sym_heap.specs.Elements.{element_bytes, element_top}
use Rattle.sym_heap.specs.Fits.{Call, IsArray, array_bytes, range_of, ClauseFits, FitsBy, IsConsistent, Agree, Locals}
use Rattle.sym_heap.specs.Moves.{Moves}
use Rattle.sym_heap.specs.Scoped.{IsScoped, element_size}
use Rattle.sym_heap.specs.Writes.{element_range}
use Rattle.sym_heap.proofs.laws.Elements.{element_read}
use Rattle.sym_heap.proofs.laws.EndScopes.{later}
use Rattle.sym_heap.proofs.laws.Lookups.{IsNew, clause_stands, scalar_stands, clause_found, own_counted, own_renamed}
use Rattle.sym_heap.proofs.laws.Moves.{moves_on, written_moves, renamed_moves}
use Rattle.sym_heap.proofs.laws.Moving.{renamed_consistent, moved_fits}
use Rattle.sym_heap.proofs.laws.Scopes.{written_scoped, moved_scoped}
use Rattle.sym_heap.proofs.laws.States.{agree_on, known_same, taken_length}
use Rattle.sym_heap.proofs.laws.Writes.{bytes_length, written_fits, counted_fits, counted_consistent}
use Rattle.bed_syntax.specs.Weight.{expr_weight}
use Rattle.bed_syntax.specs.declared.weights.Weights.{Weights}
use Rattle.bed_syntax.specs.declared.command.Cmd.{Cmd, roll-Cmd, fold-roll-Cmd}
use Rattle.bed_syntax.specs.declared.command.Cmd.TheOpen as c
use Rattle.bed_meaning.specs.Locals.{Vars, local_at}
use Rattle.bed_meaning.specs.Runs.{All, Runs, stores, done, next}
use Rattle.expr_rules.specs.declared.output.ExprOut.{ExprOut}
use Rattle.expr_rules.specs.Elements.{size_of, address}
use Rattle.expr_rules.specs.Sound.{ExprDone}
use Rattle.expr_rules.specs.Words.{sum_of}
use Rattle.stmt_rules.specs.Bound.{Cost, cost_step, cost_all}
use Rattle.stmt_rules.specs.Sound.{UnwrittenKept, StmtRan, StmtDone}
use Rattle.stmt_rules.specs.rules.Put.{storing}
use Rattle.stmt_rules.proofs.sound.Let.{extends_moves}
use Rattle.expr_rules.proofs.laws.Addresses.{IsSize, size_is, value_address}
use Rattle.stmt_rules.proofs.sound.Stores.{Placed, placed, element_stored}

-- Values.

-- an array with an element put is there
pub there : (size i n : ℕ) (found : Option Arg) → IsArray size found → (v : Arg) × (with_element i n found ≡ Some v)
there size i n None is = absurd is
there size i n (Some (arg.Word m)) is = absurd is
there size i n (Some (arg.Bytes ns)) is = (arg.Bytes (set ns i (n % 256)), refl)
there size i n (Some (arg.Words ns)) is = (arg.Words (set ns i n), refl)

pub put_here : (b : Name) (o : Option Arg) (v : Arg) (env : Env) → o ≡ Some v → value_of (put_some b o env) b ≡ o
put_here b o v env is = rw is (value_here b v env)

pub put_else : (b x : Name) (o : Option Arg) (env : Env) → same b x ≡ false → value_of (put_some b o env) x ≡ value_of env x
put_else b x None env apart = refl
put_else b x (Some v) env apart = value_else b x v env apart

-- a number of a type has room in an element of it
top_fits : (t : Scalar) (bytes : ℕ) → element_size t ≡ Some bytes → top_of t ≤ element_top bytes
top_fits Word bytes is = let four : 4 ≡ bytes = cc in subst (λ (n : ℕ). 4294967295 ≤ element_top n) four (omega arith)
top_fits Byte bytes is = let one : 1 ≡ bytes = cc in subst (λ (n : ℕ). 255 ≤ element_top n) one (omega arith)
top_fits Flag bytes is = absurd (cc)

-- the length less the index and 1
abbrev pub room : LinearForm → LinearForm → LinearForm
room l f = sum_of (negsuc 0) ((pos 1, l) ∷ (negsuc 0, f) ∷ [])

room_is : (v : ℕ → ℕ) (l f : LinearForm) (n i : ℕ) → value_at v l ≡ pos n → value_at v f ≡ pos i → pos 0 ≤ℤ value_at v (room l f)
    → i < n
room_is v l f n i length_is index_is not_below =
    let whole = value_plus v (times (pos 1) l) (plus (times (negsuc 0) f) (constant (negsuc 0))) in
    let rest = value_plus v (times (negsuc 0) f) (constant (negsuc 0)) in
    let one = value_times v (pos 1) l in
    let two = value_times v (negsuc 0) f in
    let three = value_constant v (negsuc 0) in
    omega (arith, ints, whole, rest, one, two, three, length_is, index_is, not_below)

-- the range of an element is inside the range of its array
pub element_inside : (call : Call) (v : ℕ → ℕ) (k : Clause) (i : ℕ) (found : Option Arg) (mem : Bytes) (locals : Locals)
    → ClauseFits call v k found mem locals → i < length (elements found)
    → (address : ℕ) → Within (element_range call k i) address → Within (range_of call k.param) address
element_inside call v k i found mem locals f less address at =
    let long = bytes_length k.size found f.array in
    let size : length (array_bytes found) ≡ call.sizes k.param = f.parameter in
    let next_one : suc i ≤ length (elements found) = omega (arith, less) in
    let product : k.size * suc i ≤ k.size * length (elements found) = mul-le-mul_left k.size next_one in
    let low = at.0 in
    let high = at.1 in
    (omega (arith, low), omega (arith, high, long, size, product))

module _ (ps : List Param) (scope : Scope) (f g : Env → ℕ) (t : Scalar) (before mid after : Context) (p q : ExprOut)
    (one : ExprDone ps scope f Word before p mid) (two : ExprDone ps scope g t mid q after) (a : Name) (k : Clause)
    (owned : own after a ≡ Some k) (size : element_size t ≡ Some k.size)
    (shown : (v : ℕ → ℕ) → Holds v after.facts after.tops → pos 0 ≤ℤ value_at v (room k.length p.form)) where
  abbrev cmd : Cmd
  cmd = roll-Cmd (c.Store (size_of k.size) (address k p.code) q.code)

  abbrev weight : Weights → ℕ
  weight w = expr_weight w (address k p.code) + expr_weight w q.code + w.store

  cost_is : (w : Weights) (call : Call) (rest : List LinearForm) → cost_all w call (cmd ∷ []) rest ≡ (weight w, rest)
  cost_is w call rest =
      let alone = fold-roll-Cmd Cost (cost_step w call) (c.Store (size_of k.size) (address k p.code) q.code) in
      let sum : weight w + 0 ≡ weight w = omega arith in
      ap (λ (n : Cost). ((n rest).0 + 0, (n rest).1)) alone ∙ ap (λ n. (n, rest)) sum

  -- the clauses are those of before
  clauses_same : after.clauses ≡ before.clauses
  clauses_same = two.extends.clauses ∙ one.extends.clauses

  moves : Moves before after
  moves = moves_on before mid after (extends_moves before mid one.extends) (extends_moves mid after two.extends)

  -- after index and value the element is stored
  record Stored (w : Weights) (call : Call) (numbers : ℕ → ℕ) (env : Env) (mem : Bytes) (vars : Vars) : Type 0 where
    others : ℕ → ℕ
    agree : Agree (length before.tops) numbers others
    fits : FitsBy call others after env mem (local_at vars)
    left_mem : Bytes
    runs : Runs w (All (cmd ∷ [])) mem vars left_mem vars (weight w + 0)
    inside : f env < length (elements (value_of env a))
    small : g env ≤ element_top k.size
    bytes : Stands left_mem (call.pointers k.param + k.size * f env) (element_bytes k.size (g env))
    kept : (address : ℕ) → (Within (element_range call k (f env)) address → ⊥) → get left_mem address ≡ get mem address

  stored : (lengths : Name → ℕ) (w : Weights) (call : Call) (numbers : ℕ → ℕ) (env : Env) (mem : Bytes) (vars : Vars)
      → IsTyped lengths scope env → FitsBy call numbers before env mem (local_at vars) → Stored w call numbers env mem vars
  stored lengths w call numbers env mem vars typed fits =
      let r = one.runs lengths call numbers env mem vars typed fits in
      let s = two.runs lengths call r.others env mem vars typed r.fits in
      let here : ClauseFits call s.others k (value_of env a) mem (local_at vars) = s.fits.clauses a k owned in
      let start : ℕ = call.pointers k.param in
      let index : value_at s.others p.form ≡ pos (f env) = known_same (length mid.tops) p.form r.others s.others one.known s.agree
      ∙ r.form in
      let inside = room_is s.others k.length p.form (length (elements (value_of env a))) (f env) here.form index
      (shown s.others s.fits.holds) in
      let sized : IsSize k.size = size_is k.size (value_of env a) here.array in
      let place : Placed start k.size (f env) =
      placed start k.size (f env) (length (elements (value_of env a))) (length (array_bytes (value_of env a))) sized
      here.aligned (bytes_length k.size (value_of env a) here.array) here.ends inside in
      let old : ℕ = get_or (elements (value_of env a)) (f env) 0 in
      let stands = element_read k.size (value_of env a) mem start (f env) old here.array here.stands
      (slice_get-get_or (elements (value_of env a)) (f env) 0 inside) in
      let top = top_fits t k.size size in
      let number = s.small in
      let small : g env ≤ element_top k.size = omega (arith, top, number) in
      let st = element_stored k.size (start + k.size * f env) old (g env) mem sized place.aligned small stands.0 in
      record {
        others = s.others;
        agree = agree_on (length before.tops) (length mid.tops) numbers r.others s.others
            (taken_length before.tops mid.tops one.extends.tops) r.agree s.agree;
        fits = s.fits;
        left_mem = st.0;
        runs = next cmd [] (weight w) 0 mem st.0 st.0 vars vars vars
            (stores (size_of k.size) (address k p.code) q.code (start + k.size * f env) (g env) mem st.0 vars
            (value_address mem vars k start (f env) p.code sized here.pointer place.small r.value) s.value st.1.store)
            (done st.0 vars);
        inside = inside;
        small = small;
        bytes = st.1.stands;
        kept = st.1.others;
      }

  module _ (final : Context) (sem : Env → Env)
      (fits_after : (w : Weights) (call : Call) (numbers : ℕ → ℕ) (env : Env) (mem : Bytes) (vars : Vars)
      → (s : Stored w call numbers env mem vars) → FitsBy call s.others final (sem env) s.left_mem (local_at vars))
      (unwritten : (env : Env) → UnwrittenKept before.clauses final.clauses env (sem env)) where
    ran : (w : Weights) (call : Call) (numbers : ℕ → ℕ) (env : Env) (mem : Bytes) (vars : Vars)
        → Stored w call numbers env mem vars
        → StmtRan w call sem before (storing k p.code q.code) final numbers env mem vars
    ran w call numbers env mem vars s = record {
      others = s.others;
      agree = s.agree;
      left_mem = s.left_mem;
      left = vars;
      ticks = weight w + 0;
      runs = s.runs;
      fits = fits_after w call numbers env mem vars s;
      kept = λ l is. refl;
      unwritten = unwritten env;
      outside = λ address out. s.kept address (λ within.
          let here = clause_stands after a k owned in
          out here.place k (ap (λ ks. slice_get ks here.place) (sym clauses_same) ∙ here.at)
          (element_inside call s.others k (f env) (value_of env a) mem (local_at vars) (s.fits.clauses a k owned) s.inside address
          within));
      time = (let is : (cost_all w call (cmd ∷ []) []).0 ≡ weight w = ap (λ (n : ℕ × List LinearForm). n.0) (cost_is w call []) in
          omega (arith, is));
    }

    completed : (end_scope : Scope) → Moves before final → IsConsistent final → IsScoped ps end_scope final
        → ((lengths : Name → ℕ) (env : Env) → IsTyped lengths scope env → IsTyped lengths end_scope (sem env))
        → StmtDone ps scope end_scope sem before (storing k p.code q.code) final
    completed end_scope moved consistent scoped kept = record {
      moves = moved;
      consistent = consistent;
      scoped = scoped;
      typed = kept;
      trips = λ w call rest. cost_is w call rest
          ∙ ap (λ (n : ℕ). (n, rest)) (ap (λ (n : ℕ × List LinearForm). n.0) (sym (cost_is w call [])));
      runs = λ lengths w call numbers env mem vars is fits below. ran w call numbers env mem vars
          (stored lengths w call numbers env mem vars is fits);
    }

  -- s-put

  abbrev counted : Context
  counted = with_clause a written after

  abbrev pub put_values : Env → Env
  put_values env = put_some a (with_element (f env) (g env) (value_of env a)) env

  put_fits : (w : Weights) (call : Call) (numbers : ℕ → ℕ) (env : Env) (mem : Bytes) (vars : Vars)
      → (s : Stored w call numbers env mem vars) → FitsBy call s.others counted (put_values env) s.left_mem (local_at vars)
  put_fits w call numbers env mem vars s =
      let new = there k.size (f env) (g env) (value_of env a) (s.fits.clauses a k owned).array in
      counted_fits call s.others after a (put_values env) s.left_mem (local_at vars)
      (written_fits call s.others after a k (f env) (g env) env (put_values env) mem s.left_mem (local_at vars) s.fits owned
      (record {
        inside = s.inside;
        small = s.small;
        value = put_here a (with_element (f env) (g env) (value_of env a)) new.0 env new.1;
        values = λ b apart. put_else a b (with_element (f env) (g env) (value_of env a)) env apart;
        bytes = s.bytes;
        others = s.kept;
      }))

  -- an array with as many writes is another one
  put_unwritten : (env : Env) → UnwrittenKept before.clauses counted.clauses env (put_values env)
  put_unwritten env i j l at_j at_l writes = by (same a j.name) refl where
    at : slice_get after.clauses i ≡ Some j
    at = ap (λ ks. slice_get ks i) clauses_same ∙ at_j

    name : l.name ≡ j.name
    name =
        let m = later after.clauses counted.clauses i j (written_moves after a).arrays at in
        let both : Some m.clause ≡ Some l = sym m.at ∙ at_l in
        let is : m.clause ≡ l = cc in
        subst (λ (z : Clause). z.writes ≡ j.writes → z.name ≡ j.name) is m.same_one.name writes

    by : (b : Bool) → same a j.name ≡ b → value_of (put_values env) l.name ≡ value_of env j.name
    by false e = ap (value_of (put_values env)) name ∙ put_else a j.name (with_element (f env) (g env) (value_of env a)) env e
    by true e =
        let found : own counted j.name
        ≡ Some l = ap (own counted) (sym name) ∙ clause_found counted (counted_consistent after a two.consistent) i l at_l
        in
        let mine : own after j.name ≡ Some j = clause_found after two.consistent i j at in
        let both : Some (written j) ≡ Some l = sym (own_counted after a j.name ∙ rw (e, mine) refl) ∙ found in
        let is : written j ≡ l = cc in
        let more : l.writes ≡ j.writes + 1 = ap (λ (z : Clause). z.writes) (sym is) in
        absurd (omega (arith, more, writes))

  pub put_done : ((lengths : Name → ℕ) (env : Env) → IsTyped lengths scope env → IsTyped lengths scope (put_values env))
      → StmtDone ps scope scope put_values before (storing k p.code q.code) counted
  put_done = completed counted put_values put_fits put_unwritten scope
      (moves_on before after counted moves (written_moves after a)) (counted_consistent after a two.consistent)
      (written_scoped ps scope after a two.scoped)

  -- s-move

  module _ (b : Name) (u : Scalar) (n : Len) (may : can_move counted a b ≡ true) (array : look_up scope a ≡ Some (Many u n))
      (free : look_up scope b ≡ None) where
    abbrev moved : Context
    moved = with_clause a (renamed b) counted

    abbrev pub move_values : Env → Env
    move_values env = put_some b (with_element (f env) (g env) (value_of env a)) env

    counted_owned : own counted a ≡ Some (written k)
    counted_owned = own_counted after a a ∙ rw (same_self a, owned) refl

    new_counted : IsNew a b counted.clauses
    new_counted = by (same a b) refl (own counted b) refl where
      by : (e : Bool) → same a b ≡ e → (o : Option Clause) → own counted b ≡ o → IsNew a b counted.clauses
      by true e o at = inl e
      by false e None at = inr at
      by false e (Some z) at = absurd (let bad : false ≡ true = rw (counted_owned, e, at) at may in cc)

    new : IsNew a b after.clauses
    new = by new_counted where
      none : (e : Bool) → same a b ≡ e → (o : Option Clause) → own after b ≡ o → own counted b ≡ None → IsNew a b after.clauses
      none e at None found is = inr found
      none true at (Some z) found is = inl at
      none false at (Some z) found is =
          absurd (let bad : Some z ≡ None = sym (own_counted after a b ∙ rw (at, found) refl) ∙ is in cc)

      by : IsNew a b counted.clauses → IsNew a b after.clauses
      by (inl e) = inl e
      by (inr is) = none (same a b) refl (own after b) refl is

    no_scalar : scalar after b ≡ None
    no_scalar = by (scalar after b) refl where
      by : (o : Option Held) → scalar after b ≡ o → scalar after b ≡ None
      by None e = e
      by (Some h) e =
          let s = scalar_stands after b h e in
          absurd (let bad : None ≡ Some (One h.kind) = sym free ∙ ap (look_up scope) (sym s.named)
          ∙ two.scoped.scalars s.place h s.at in cc)

    move_fits : (w : Weights) (call : Call) (numbers : ℕ → ℕ) (env : Env) (mem : Bytes) (vars : Vars)
        → (s : Stored w call numbers env mem vars) → FitsBy call s.others moved (move_values env) s.left_mem (local_at vars)
    move_fits w call numbers env mem vars s =
        let made = there k.size (f env) (g env) (value_of env a) (s.fits.clauses a k owned).array in
        moved_fits call s.others after a b k (f env) (g env) env (move_values env) mem s.left_mem (local_at vars) s.fits owned new
        no_scalar (record {
          inside = s.inside;
          small = s.small;
          value = put_here b (with_element (f env) (g env) (value_of env a)) made.0 env made.1;
          values = λ x apart. put_else b x (with_element (f env) (g env) (value_of env a)) env apart;
          bytes = s.bytes;
          others = s.kept;
        })

    moved_consistent : IsConsistent moved
    moved_consistent = renamed_consistent counted a b new_counted (counted_consistent after a two.consistent)

    -- b is not the name of an array that was there, unless it is a
    no_array : (i : ℕ) (j : Clause) → slice_get after.clauses i ≡ Some j → same b j.name ≡ true → same a b ≡ true
    no_array i j at is = by new where
      by : IsNew a b after.clauses → same a b ≡ true
      by (inl e) = e
      by (inr none) = absurd (let bad : None
          ≡ Some j = sym none ∙ ap (own after) (same_is b j.name is) ∙ clause_found after two.consistent i j at in cc)

    move_unwritten : (env : Env) → UnwrittenKept before.clauses moved.clauses env (move_values env)
    move_unwritten env i j l at_j at_l writes = by (same b j.name) refl (same a j.name) refl where
      at : slice_get after.clauses i ≡ Some j
      at = ap (λ ks. slice_get ks i) clauses_same ∙ at_j

      name : l.name ≡ j.name
      name =
          let m = later after.clauses moved.clauses i j (renamed_moves after a b).arrays at in
          let both : Some m.clause ≡ Some l = sym m.at ∙ at_l in
          let is : m.clause ≡ l = cc in
          subst (λ (z : Clause). z.writes ≡ j.writes → z.name ≡ j.name) is m.same_one.name writes

      found : own moved j.name ≡ Some l
      found = ap (own moved) (sym name) ∙ clause_found moved moved_consistent i l at_l

      -- the array that was written has more writes
      mine : same a j.name ≡ true → k ≡ j
      mine e =
          let both : Some k ≡ Some j = sym owned ∙ ap (own after) (same_is a j.name e) ∙ clause_found after two.consistent i j at
          in
          cc

      by : (e : Bool) → same b j.name ≡ e → (d : Bool) → same a j.name ≡ d
          → value_of (move_values env) l.name ≡ value_of env j.name
      by false e false d = ap (value_of (move_values env)) name
          ∙ put_else b j.name (with_element (f env) (g env) (value_of env a)) env e
      by false e true d =
          absurd (let bad : None ≡ Some l = sym
          (own_renamed counted a b (written k) (counted_consistent after a two.consistent) counted_owned new_counted j.name
          ∙ rw (e, d) refl) ∙ found in cc)
      by true e d at_d =
          let both : Some (renamed b (written k))
          ≡ Some l = sym (own_renamed counted a b (written k) (counted_consistent after a two.consistent) counted_owned
          new_counted j.name ∙ rw e refl) ∙ found in
          let is : renamed b (written k) ≡ l = cc in
          let same_one : same a j.name ≡ true = ap (λ x. same x j.name) (same_is a b (no_array i j at e)) ∙ e in
          let old : k.writes ≡ j.writes = ap (λ (z : Clause). z.writes) (mine same_one) in
          let more : l.writes ≡ k.writes + 1 = ap (λ (z : Clause). z.writes) (sym is) in
          absurd (omega (arith, more, writes, old))

    pub move_done : ((lengths : Name → ℕ) (env : Env) → IsTyped lengths scope env
        → IsTyped lengths (bind b (Many u n) scope) (move_values env))
        → StmtDone ps scope (bind b (Many u n) scope) move_values before (storing k p.code q.code) moved
    move_done = completed moved move_values move_fits move_unwritten (bind b (Many u n) scope)
        (moves_on before after moved moves (renamed_moves after a b)) moved_consistent
        (moved_scoped ps scope counted a b u n array free (written_scoped ps scope after a two.scoped))
