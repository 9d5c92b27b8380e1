-- The context at the start fits: the arguments have arrived, their locals are reserved, and each requirement holds.
use Rattle.std.proofs.Common.{◌≡◌, refl, sym, ◌∙◌, ap, subst, arith, ℕ, zero, suc, ◌+◌, ◌*◌, ◌<◌, ◌≤◌, ◌||◌, inl, inr, ◌⊎◌, Bool}
use Rattle.std.proofs.Common.{true, false, List, [], ◌∷◌, ◌++◌, length, map, Option, Some, None, Result, Ok, Err, ℤ, pos, negsuc}
use Rattle.std.proofs.Common.{neg_ℤ, ◌+ℤ◌, ◌*ℤ◌, ◌≤ℤ◌, slice_get, nat_eq, nat_lt, if◌then◌else◌}
use Rattle.std.specs.List.{find}
use Rattle.std.proofs.lemmas.Bool.{leb-true}
use Rattle.std.proofs.lemmas.Bool.Decides.{nat_tests}
use Rattle.std.proofs.lemmas.Int.{ints}
use Rattle.std.proofs.lemmas.List.Folds.{list_any-append}
use Rattle.std.proofs.lemmas.Option.{slice_get_within, get_or_from_slice_get}
use Rattle.std.proofs.lemmas.Slice.Eq.{bytes_eq-Decides as bytes_decides}
use Rattle.rup_base.specs.declared.arg.Arg.{Arg}
use Rattle.rup_base.specs.declared.refusal.Refusal.{Refusal}
use Rattle.rup_base.specs.declared.refusal.Refusal.TheVariants.{BadArguments}
use Rattle.rup_base.specs.declared.refusal.ArgFault.TheVariants.{Require as OfRequire}
use Rattle.rup_base.specs.declared.refusal.TypePlace.TheVariants.{Require}
use Rattle.rup_base.specs.declared.refusal.TypeWhy.TheVariants as why
use Rattle.side_certs.specs.LinearForm.{LinearForm, constant, symbol, value_at}
use Rattle.model_syntax.specs.declared.stmt.Lin.{Lin, Lin-F, map-Lin, roll-Lin, fold-roll-Lin, ind-Lin}
use Rattle.model_syntax.specs.declared.stmt.Lin.TheOpen as l
use Rattle.model_syntax.specs.declared.stmt.Le.{Le}
use Rattle.model_syntax.specs.declared.program.Len.{Len}
use Rattle.model_syntax.specs.declared.program.Len.TheVariants.{Fixed, Named}
use Rattle.model_syntax.specs.declared.program.Param.{Param}
use Rattle.model_syntax.specs.declared.program.Param.TheVariants as param
use Rattle.model_syntax.specs.declared.program.Model.{Model}
use Rattle.model_syntax.specs.declared.scope.NameType.{NameType}
use Rattle.model_syntax.specs.declared.scope.NameType.TheVariants.{Scalar as One, Array as Many}
use Rattle.model_syntax.specs.Answer.{◌>>=◌}
use Rattle.model_syntax.specs.Environment.{Env, value_of, number}
use Rattle.model_syntax.specs.Limits.{next}
use Rattle.model_syntax.specs.Names.{Name}
use Rattle.model_syntax.specs.Scope.{Scope, look_up, scalar_in}
use Rattle.model_syntax.specs.Types as types
use Rattle.model_syntax.specs.Value as value
use Rattle.sym_heap.specs.declared.parts.Held.{Held}
use Rattle.sym_heap.specs.declared.parts.Clause.{Clause}
use Rattle.sym_heap.specs.Arrival.{HasArguments, AreApart, numbers_of, StartFits}
use Rattle.sym_heap.specs.Context.{Context, is_scalar, is_clause, has}
use Rattle.rv_memory.specs.Ranges.{Bytes}
use Rattle.sym_heap.specs.Fits.{Locals, call_of, Known, IsConsistent, ScalarFits, ClauseFits, FitsBy, ArgsHeld}
use Rattle.sym_heap.specs.Sides.{form_in, side, side_step, difference}
use Rattle.sym_heap.specs.Start.{empty, next_local, clause, with_array, with_param, with_params, start}
use Rattle.sym_heap.proofs.Arriving.{at_end, Arrived}
use Rattle.sym_heap.proofs.Arrivals.{AllHere, params_arrived}
use Rattle.side_certs.proofs.laws.Coefficients.{Below, below_merge, below_times}
use Rattle.sym_heap.proofs.Declared.{Answered, answered, at_place, start_scope}
use Rattle.sym_heap.proofs.Formed.{Found, Knows, start_kept}
use Rattle.sym_heap.proofs.Starting.{params_facts}
use Rattle.side_certs.proofs.laws.Values.{value_plus, value_times, value_minus}

-- Reserved locals.

has_more : (l : ℕ) (xs ys : List ℕ) → has l xs ≡ true → has l (xs ++ ys) ≡ true
has_more l xs ys is = list_any-append _ xs ys ∙ rw is refl

has_last : (l : ℕ) (xs : List ℕ) → has l (xs ++ l ∷ []) ≡ true
has_last l xs = list_any-append _ xs (l ∷ []) ∙ by (has l xs) where
  self : nat_eq l l ≡ true
  self = grind (arith, nat_tests)

  by : (b : Bool) → (b || (nat_eq l l || false)) ≡ true
  by true = refl
  by false = rw self refl

abbrev Reserved : List ℕ → Clause → Type 0
Reserved locals k = (has k.pointer locals ≡ true) × ((l : ℕ) → k.length_local ≡ Some l → has l locals ≡ true)

abbrev AllReserved : Context → Type 0
AllReserved c = (i : ℕ) (k : Clause) → slice_get c.clauses i ≡ Some k → Reserved c.reserved k

array_reserved : (p : ℕ) (a : Name) (size : ℕ) (n : Len) (c : Context) → AllReserved c → AllReserved (with_array p a size n c)
array_reserved p a size (Fixed m) c all i k at = by (at_end c.clauses _ i k at) where
  by : (slice_get c.clauses i ≡ Some k) ⊎ ((i ≡ length c.clauses) × (clause a p size (next_local c) (constant (pos m)) None ≡ k))
      → Reserved (c.reserved ++ next_local c ∷ []) k
  by (inl before) = let r = all i k before in (has_more k.pointer c.reserved _ r.0, λ l is. has_more l c.reserved _ (r.1 l is))
  by (inr last) = subst (λ (g : Clause). Reserved (c.reserved ++ next_local c ∷ []) g) last.1
      (has_last (next_local c) c.reserved, λ l bad. absurd (let worse : None ≡ Some l = bad in cc))
array_reserved p a size (Named x) c all i k at = by (at_end c.clauses _ i k at) where
  locals : List ℕ
  locals = (c.reserved ++ next_local c ∷ []) ++ (next_local c + 1) ∷ []

  by : (slice_get c.clauses i ≡ Some k)
      ⊎ ((i ≡ length c.clauses) × (clause a p size (next_local c) (symbol (length c.scalars)) (Some (next_local c + 1)) ≡ k))
      → Reserved locals k
  by (inl before) = let r = all i k before in
      (has_more k.pointer _ _ (has_more k.pointer c.reserved _ r.0), λ l is. has_more l _ _ (has_more l c.reserved _ (r.1 l is)))
  by (inr last) = subst (λ (g : Clause). Reserved locals g) last.1 (
    has_more (next_local c) _ _ (has_last (next_local c) c.reserved),
    λ l is. let same : next_local c + 1 ≡ l = cc in
        subst (λ (j : ℕ). has j locals ≡ true) same (has_last (next_local c + 1) (c.reserved ++ next_local c ∷ [])),
  )

param_reserved : (p : ℕ) (q : Param) (c : Context) → AllReserved c → AllReserved (with_param p q c)
param_reserved p (param.Word x) c all = all
param_reserved p (param.Byte x) c all = all
param_reserved p (param.Bytes a n) c all = array_reserved p a 1 n c all
param_reserved p (param.Words a n) c all = array_reserved p a 4 n c all

params_reserved : (qs : List Param) (p : ℕ) (c : Context) → AllReserved c → AllReserved (with_params p qs c)
params_reserved [] p c all = all
params_reserved (q ∷ qs) p c all = params_reserved qs (p + 1) (with_param p q c) (param_reserved p q c all)

-- What is found stands somewhere.

pub record Somewhere {A : Type 0} (test : A → Bool) (xs : List A) (x : A) : Type 0 where
  pub place : ℕ
  pub at : slice_get xs place ≡ Some x
  pub passes : test x ≡ true

pub somewhere : {A : Type 0} (test : A → Bool) (xs : List A) (x : A) → find test xs ≡ Some x → Somewhere test xs x
somewhere test [] x is = absurd (let bad : None ≡ Some x = is in cc)
somewhere {A} test (y ∷ ys) x is = by (test y) refl (λ r. somewhere test ys x r) where
  by : (b : Bool) → test y ≡ b → (find test ys ≡ Some x → Somewhere test ys x) → Somewhere test (y ∷ ys) x
  by true e more = let here : Some y ≡ Some x = rw e at is in let same : y ≡ x = cc in
      record { place = 0; at = here; passes = subst (λ (z : A). test z ≡ true) same e }
  by false e more = let s : Somewhere test ys x = more (rw e at is) in
      record { place = suc s.place; at = s.at; passes = s.passes }

below_known : (n : ℕ) (ts : List (ℕ × ℤ)) → Below n ts → (i : ℕ) (t : ℕ × ℤ) → slice_get ts i ≡ Some t → t.0 < n
below_known n [] all i t at = absurd (let bad : None ≡ Some t = at in cc)
below_known n (u ∷ us) all zero t at = let same : u ≡ t = cc in subst (λ (w : ℕ × ℤ). w.0 < n) same all.0
below_known n (u ∷ us) all (suc i) t at = below_known n us all.1 i t at

-- Requirements.

module _ (c : Scope) (hs : List Held) (knows : Knows c hs) (env : Env) (numbers : ℕ → ℕ) (n : ℕ)
    (valued : (x : Name) → Found hs x → (value_at numbers (form_in hs x) ≡ pos (number (value_of env x)))
    × Below n (form_in hs x).terms) where
  abbrev Valued : LinearForm → (Env → ℕ) → Type 0
  Valued f whole = (value_at numbers f ≡ pos (whole env)) × Below n f.terms

  abbrev Claim : LinearForm → (Env → ℕ) → (Scope → types.Rule) → Type 0
  Claim f whole names = names c ≡ Ok tt → Valued f whole

  scalar_found : (x : Name) → (o : Option NameType) → look_up c x ≡ o
      → ◌≡◌ {A = types.Rule} (scalar_in o >>= (λ t. Ok tt)) (Ok tt) → Found hs x
  scalar_found x None at is = absurd (let bad : ◌≡◌ {A = types.Rule} (Err why.Unknown) (Ok tt) = is in cc)
  scalar_found x (Some (One t)) at is = knows x t at
  scalar_found x (Some (Many t m)) at is = absurd (let bad : ◌≡◌ {A = types.Rule} (Err why.NotScalar) (Ok tt) = is in cc)

  abbrev IsValued : Lin → Type 0
  IsValued a = Claim (side (form_in hs) a) (value.whole a) (types.names_scalars a)

  abbrev Proved : Type 0
  Proved = (a : Lin) × IsValued a

  abbrev bare : Lin-F Proved → Lin-F Lin
  bare y = map-Lin Proved Lin (λ p. p.0) y

  abbrev StepValued : Lin-F Lin → Type 0
  StepValued y =
      Claim (side_step (form_in hs) (map-Lin Lin LinearForm (side (form_in hs)) y))
      (value.whole_step (map-Lin Lin (Env → ℕ) value.whole y))
      (types.names_step (map-Lin Lin (Scope → types.Rule) types.names_scalars y))

  step_valued : (y : Lin-F Proved) → StepValued (bare y)
  step_valued (l.Const k) names = (omega (arith, ints), tt)
  step_valued (l.Var x) names = valued x (scalar_found x (look_up c x) refl names)
  step_valued (l.Sum a b) names =
      let both : Answered (types.names_scalars a.0 c) (λ u. types.names_scalars b.0 c) tt = answered _ _ tt names in
      let one = a.1 both.one in
      let two = b.1 both.two in
      let sum = value_plus numbers (side (form_in hs) a.0) (side (form_in hs) b.0) in
      let left = one.0 in
      let right = two.0 in
      (omega (arith, ints, sum, left, right), below_merge n _ _ one.1 two.1)
  step_valued (l.Scale k a) names =
      let one = a.1 names in
      let product = value_times numbers (pos k) (side (form_in hs) a.0) in
      (product ∙ times_is k (value.whole a.0 env) _ one.0, below_times n (pos k) _ one.1)
    where
      times_is : (k m : ℕ) (z : ℤ) → z ≡ pos m → (pos k *ℤ z) ≡ pos (k * m)
      times_is k m z is = rw is (omega (arith, ints))

  rolled : (y : Lin-F Lin) → StepValued y → IsValued (roll-Lin y)
  rolled y h =
      rw (
        fold-roll-Lin LinearForm (side_step (form_in hs)) y,
        fold-roll-Lin (Env → ℕ) value.whole_step y,
        fold-roll-Lin (Scope → types.Rule) types.names_step y,
      ) h

  side_valued : (a : Lin) → IsValued a
  side_valued = ind-Lin IsValued (λ z y is. subst (λ r. IsValued (roll-Lin r)) is (rolled (bare y) (step_valued y)))

  pub fact_holds : (r : Le) → types.fact r c ≡ Ok tt → value.met r env ≡ true
      → (pos 0 ≤ℤ value_at numbers (difference (form_in hs) r)) × Known n (difference (form_in hs) r)
  fact_holds r is met =
      let names_low : Answered (types.names_scalars r.low c) _ tt = answered _ _ tt is in
      let names_high : Answered (types.names_scalars r.high c) _ tt = answered _ _ tt names_low.two in
      let low = side_valued r.low names_low.one in
      let high = side_valued r.high names_high.one in
      let less : value.whole r.low env ≤ value.whole r.high env = leb-true _ _ met in
      let whole = value_minus numbers (side (form_in hs) r.high) (side (form_in hs) r.low) in
      let low_is = low.0 in
      let high_is = high.0 in (
        not_negative _ _ _ (value.whole r.high env) (value.whole r.low env) whole high_is low_is less,
        below_known n _ (below_merge n _ _ high.1 (below_times n (negsuc 0) _ low.1)),
      )
    where
      not_negative : (z x y : ℤ) (a b : ℕ) → z ≡ x +ℤ neg_ℤ y → x ≡ pos a → y ≡ pos b → b ≤ a → pos 0 ≤ℤ z
      not_negative z x y a b at is_x is_y less = let at_numbers : z ≡ pos a +ℤ neg_ℤ (pos b) = rw (at, is_x, is_y) refl in
          omega (arith, ints, at_numbers, less)

-- the rule of a requirement, and that it holds
facts_of : (c : Scope) (k : ℕ) (rs : List Le) → types.requirements k rs c ≡ Ok tt → (i : ℕ) (r : Le) → slice_get rs i ≡ Some r
    → types.fact r c ≡ Ok tt
facts_of c k [] is i r at = absurd (let bad : None ≡ Some r = at in cc)
facts_of c k (s ∷ rs) is i r at = by i at (λ j there. facts_of c (next k) rs parts.two j r there) where
  parts : Answered (types.at (Require k) (types.requirement k s c)) (λ u. types.requirements (next k) rs c) tt
  parts = answered _ _ tt is

  first : (few : Bool) → nat_lt k 4096 ≡ few → types.fact s c ≡ Ok tt
  first true e = subst (λ (b : Bool). ◌≡◌ {A = types.Rule} (if b then types.fact s c else Err why.WideForm) (Ok tt)) e
      (at_place (Require k) _ tt parts.one)
  first false e = absurd (let bad : ◌≡◌ {A = types.Rule} (Err why.WideForm) (Ok tt) = subst
      (λ (b : Bool). ◌≡◌ {A = types.Rule} (if b then types.fact s c else Err why.WideForm) (Ok tt)) e
      (at_place (Require k) _ tt parts.one) in cc)

  by : (j : ℕ) → slice_get (s ∷ rs) j ≡ Some r → ((j : ℕ) → slice_get rs j ≡ Some r → types.fact r c ≡ Ok tt)
      → types.fact r c ≡ Ok tt
  by zero here more = let same : s ≡ r = cc in subst (λ (q : Le). types.fact q c ≡ Ok tt) same (first (nat_lt k 4096) refl)
  by (suc j) there more = more j there

abbrev Judged : Type 0
Judged = Result (Unit {0}) Refusal

met_of : (env : Env) (k : ℕ) (rs : List Le) → value.all_met k rs env ≡ Ok tt → (i : ℕ) (r : Le) → slice_get rs i ≡ Some r
    → value.met r env ≡ true
met_of env k [] is i r at = absurd (let bad : None ≡ Some r = at in cc)
met_of env k (s ∷ rs) is i r at = by (value.met s env) refl i at (λ rest j there. met_of env (next k) rs rest j r there) where
  by : (b : Bool) → value.met s env ≡ b → (j : ℕ) → slice_get (s ∷ rs) j ≡ Some r
      → (value.all_met (next k) rs env ≡ Ok tt → (j : ℕ) → slice_get rs j ≡ Some r → value.met r env ≡ true)
      → value.met r env ≡ true
  by false e j here more = absurd
      (let bad : ◌≡◌ {A = Judged} (Err (BadArguments (OfRequire k))) (Ok tt) = subst
      (λ (b : Bool). ◌≡◌ {A = Judged} (if b then value.all_met (next k) rs env else Err (BadArguments (OfRequire k))) (Ok tt)) e
      is in cc)
  by true e zero here more = let same : s ≡ r = cc in subst (λ (q : Le). value.met q env ≡ true) same e
  by true e (suc j) there more =
      more (subst (λ (b : Bool). ◌≡◌ {A = Judged} (if b then value.all_met (next k) rs env else Err (BadArguments (OfRequire k)))
      (Ok tt)) e is) j there

-- an element of a mapped list
record Mapped {A B : Type 0} (f : A → B) (xs : List A) (i : ℕ) (y : B) : Type 0 where
  pub from : A
  pub at : slice_get xs i ≡ Some from
  pub is : f from ≡ y

mapped : {A B : Type 0} (f : A → B) (xs : List A) (i : ℕ) (y : B) → slice_get (map f xs) i ≡ Some y → Mapped f xs i y
mapped f [] i y at = absurd (let bad : None ≡ Some y = at in cc)
mapped f (x ∷ xs) zero y at = record { from = x; at = refl; is = cc }
mapped f (x ∷ xs) (suc i) y at = let m = mapped f xs i y at in record { from = m.from; at = m.at; is = m.is }

module _ (m : Model) (well : types.Well m) (args : List Arg) (meets : value.Meets m args) (pointers : ℕ → ℕ) (mem : Bytes)
    (locals : Locals)
    (has_arguments : HasArguments 0 0 m.params args pointers mem locals) (are_apart : AreApart (call_of m args pointers)) where
  nothing_yet : Arrived args (call_of m args pointers) mem locals (numbers_of (call_of m args pointers)) [] empty [] 0
  nothing_yet = record {
    scalars = λ i h bad. absurd (let worse : None ≡ Some h = bad in cc);
    scalars_apart = λ i j h k bad. absurd (let worse : None ≡ Some h = bad in cc);
    clauses = λ i k bad. absurd (let worse : None ≡ Some k = bad in cc);
    clauses_apart = λ i j k o bad. absurd (let worse : None ≡ Some k = bad in cc);
    tops = refl;
    below = λ s top bad. absurd (let worse : None ≡ Some top = bad in cc);
  }

  all : AllHere args (call_of m args pointers) (λ p. refl) mem locals (start_scope m well).scope (with_params 0 m.params empty)
      (value.start m.params args [])
  all = params_arrived args (call_of m args pointers) (λ p. refl) mem locals m.params args [] (start_scope m well).scope empty []
      0 nothing_yet (start_scope m well).declares has_arguments
      (record { entries = refl; count = omega arith; args = refl })

  here : Arrived args (call_of m args pointers) mem locals (numbers_of (call_of m args pointers)) (start_scope m well).scope
      (with_params 0 m.params empty) (value.start m.params args []) all.params
  here = all.here

  symbols : length (with_params 0 m.params empty).tops ≡ length (with_params 0 m.params empty).scalars
  symbols = all.here.tops

  scalar_known : (i : ℕ) (h : Held) → slice_get (with_params 0 m.params empty).scalars i ≡ Some h
      → Below (length (with_params 0 m.params empty).tops) h.form.terms
  scalar_known i h stands =
      let less = slice_get_within (with_params 0 m.params empty).scalars i h stands in
      let enough = symbols in
      subst (λ (f : LinearForm). Below (length (with_params 0 m.params empty).tops) f.terms) (sym (here.scalars i h stands).form)
      (omega (arith, less, enough), tt)

  -- the scalar of a name fits
  scalar_fits : (x : Name) (h : Held) → find (is_scalar x) (with_params 0 m.params empty).scalars ≡ Some h
      → ScalarFits (numbers_of (call_of m args pointers)) h (value_of (value.start m.params args []) x) locals
  scalar_fits x h found =
      let s : Somewhere (is_scalar x) (with_params 0 m.params empty).scalars h = somewhere _ _ h found in
      subst (λ (y : Name). ScalarFits (numbers_of (call_of m args pointers)) h (value_of (value.start m.params args []) y) locals)
      ((bytes_decides h.name x).0 s.passes) (here.scalars s.place h s.at).fits

  clause_fits : (a : Name) (k : Clause) → find (is_clause a) (with_params 0 m.params empty).clauses ≡ Some k
      → ClauseFits (call_of m args pointers) (numbers_of (call_of m args pointers)) k (value_of (value.start m.params args []) a)
      mem locals
  clause_fits a k found =
      let s : Somewhere (is_clause a) (with_params 0 m.params empty).clauses k = somewhere _ _ k found in
      subst (λ (y : Name). ClauseFits (call_of m args pointers) (numbers_of (call_of m args pointers)) k
      (value_of (value.start m.params args []) y) mem locals) ((bytes_decides k.name a).0 s.passes)
      (here.clauses s.place k s.at).fits

  name_valued : (x : Name) → Found (with_params 0 m.params empty).scalars x
      → (value_at (numbers_of (call_of m args pointers)) (form_in (with_params 0 m.params empty).scalars x)
      ≡ pos (number (value_of (value.start m.params args []) x)))
      × Below (length (with_params 0 m.params empty).tops) (form_in (with_params 0 m.params empty).scalars x).terms
  name_valued x f =
      let fits = scalar_fits x f.scalar f.is in
      let s : Somewhere (is_scalar x) (with_params 0 m.params empty).scalars f.scalar = somewhere _ _ f.scalar f.is in
      let form : form_in (with_params 0 m.params empty).scalars x ≡ f.scalar.form = rw (f.is) refl in
      let value_is : number (value_of (value.start m.params args []) x) ≡ fits.number = ap number fits.value in (
        ap (value_at (numbers_of (call_of m args pointers))) form ∙ fits.form
            ∙ ap pos (sym value_is),
        subst (λ (g : LinearForm). Below (length (with_params 0 m.params empty).tops) g.terms)
            (sym form) (scalar_known s.place f.scalar s.at),
      )

  all_met : value.all_met 0 m.requires_ (value.start m.params args []) ≡ Ok tt
  all_met =
      let counts : Answered (value.counts m.params args) _ tt = answered _ _ tt meets in
      let fit : Answered (value.fit 0 m.params args) _ tt = answered _ _ tt counts.two in
      fit.two

  fact_fits : (i : ℕ) (f : LinearForm) → slice_get (start m).facts i ≡ Some f
      → (pos 0 ≤ℤ value_at (numbers_of (call_of m args pointers)) f) × Known (length (with_params 0 m.params empty).tops) f
  fact_fits i f stands =
      let q : Mapped (difference (form_in (with_params 0 m.params empty).scalars)) m.requires_ i f =
      mapped (difference (form_in (with_params 0 m.params empty).scalars)) m.requires_ i f
      (subst (λ (fs : List LinearForm).
      slice_get (fs ++ map (difference (form_in (with_params 0 m.params empty).scalars)) m.requires_) i ≡ Some f)
      (params_facts 0 m.params empty) stands) in
      subst (λ (g : LinearForm). (pos 0 ≤ℤ value_at (numbers_of (call_of m args pointers)) g)
      × Known (length (with_params 0 m.params empty).tops) g) q.is
      (fact_holds (start_scope m well).scope (with_params 0 m.params empty).scalars (start_kept m (start_scope m well)).knows
      (value.start m.params args []) (numbers_of (call_of m args pointers))
      (length (with_params 0 m.params empty).tops) name_valued q.from
      (facts_of (start_scope m well).scope 0 m.requires_ (start_scope m well).requires_ i q.from q.at)
      (met_of (value.start m.params args []) 0 m.requires_ all_met i q.from q.at))

  reserved : AllReserved (with_params 0 m.params empty)
  reserved = params_reserved m.params 0 empty (λ i k bad. absurd (let worse : None ≡ Some k = bad in cc))

  consistent : IsConsistent (start m)
  consistent = record {
    entries_known = (let enough = symbols in omega (arith, enough));
    scalars_known = λ i h stands. below_known _ _ (scalar_known i h stands);
    lengths_known = λ i k stands. (let same : length (call_of m args pointers).entries
        ≡ length (with_params 0 m.params empty).tops = sym (symbols ∙ all.count) in
        subst (λ (n : ℕ). Known n k.length) same (here.clauses i k stands).length_known);
    facts_known = λ i f stands. (fact_fits i f stands).1;
    scalars_apart = here.scalars_apart;
    clauses_apart = here.clauses_apart;
    pointers_reserved = λ i k stands. (reserved i k stands).0;
    lengths_reserved = λ i k l stands is. (reserved i k stands).1 l is;
  }

  fits_at_start : FitsBy (call_of m args pointers) (numbers_of (call_of m args pointers)) (start m) (value.start m.params args [])
      mem locals
  fits_at_start = record {
    consistent = consistent;
    entry_count = all.count;
    entries = λ s n stands. get_or_from_slice_get (call_of m args pointers).entries s n 0 stands;
    holds = ((λ i f stands. (fact_fits i f stands).0), here.below);
    scalars = scalar_fits;
    clauses = clause_fits;
    ranges = λ i j k l at_i at_j differ. are_apart k.param l.param (here.clauses_apart i j k l at_i at_j differ).1;
  }

  args_at_start : ArgsHeld args (start m) (value.start m.params args [])
  args_at_start a k found never =
      let s : Somewhere (is_clause a) (with_params 0 m.params empty).clauses k = somewhere _ _ k found in
      subst (λ (y : Name). value_of (value.start m.params args []) y ≡ slice_get args k.param)
      ((bytes_decides k.name a).0 s.passes) (here.clauses s.place k s.at).given

pub start_fits : StartFits
start_fits m well args meets pointers mem locals has_arguments are_apart = (
  fits_at_start m well args meets pointers mem locals has_arguments are_apart,
  args_at_start m well args meets pointers mem
      locals has_arguments are_apart,
)
