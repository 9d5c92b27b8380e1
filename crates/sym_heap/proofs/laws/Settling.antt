-- Listed scalars get fresh symbols in the locals where another context has them.
use Rattle.std.proofs.Common.{◌≡◌, ◌≢◌, refl, sym, ◌∙◌, ap, subst, arith, ℕ, zero, suc, ◌+◌, ◌≤◌, inl, inr, ◌⊎◌, Bool, true}
use Rattle.std.proofs.Common.{false, ◌||◌, List, [], ◌∷◌, ◌++◌, length, Option, Some, None, pos, ℤ, slice_get, nat_eq}
use Rattle.std.proofs.Common.{if◌then◌else◌, length-append}
use Rattle.std.proofs.lemmas.Bool.Decides.{nat_tests}
use Rattle.std.proofs.lemmas.Option.{slice_get_within}
use Rattle.rup_base.specs.declared.arg.Arg.TheVariants as arg
use Rattle.rv_memory.specs.Ranges.{Bytes}
use Rattle.side_certs.specs.LinearForm.{symbol}
use Rattle.side_certs.proofs.laws.Values.{value_symbol}
use Rattle.model_syntax.specs.declared.expr.Scalar.{Scalar}
use Rattle.model_syntax.specs.Environment.{Env, value_of}
use Rattle.model_syntax.specs.Names.{Name, same, listed}
use Rattle.model_syntax.proofs.laws.Bindings.{same_is, same_self}
use Rattle.sym_heap.specs.declared.parts.Held.{Held}
use Rattle.sym_heap.specs.Context.{Context, scalar, has, held, top_of, with_top, with_scalar}
use Rattle.sym_heap.specs.Moves.{local_of}
use Rattle.sym_heap.specs.Fits.{Call, Locals, Known, IsConsistent, ScalarFits, Agree, FitsOn}
use Rattle.sym_heap.specs.Settle.{IsKnown, FitsRest, none, among, given, settled, settle, target, Stood, AllStood}
use Rattle.sym_heap.proofs.Arriving.{at_end}
use Rattle.sym_heap.proofs.laws.Lookups.{scalar_bound, scalar_stands, found_at, name_of_scalar, names_differ, differ_back}
use Rattle.sym_heap.proofs.laws.Moves.{take_front, take_on, take_all}
use Rattle.sym_heap.proofs.laws.States.{agree_on, consistent_of, fits_of_rest, wider_known, wider_rest, bound_known, rest_bound}
use Rattle.sym_heap.proofs.laws.States.{MoreTops}

-- Lists of names.

listed_parts : (x y : Name) (ys : List Name) → same y x ≡ false → listed x ys ≡ false → listed x (y ∷ ys) ≡ false
listed_parts x y ys apart rest = rw (differ_back y x apart, rest) refl

-- A fresh symbol.

-- the number of a fresh symbol, and the others theirs
pub given_here : (n m : ℕ) (v : ℕ → ℕ) → given n m v n ≡ m
given_here n m v = let self : nat_eq n n ≡ true = grind (arith, nat_tests) in rw self refl

pub given_agrees : (n m : ℕ) (v : ℕ → ℕ) → Agree n v (given n m v)
given_agrees n m v s less = let test : nat_eq s n ≡ false = grind (arith, nat_tests, less) in rw test refl

given_below : (tops : List ℕ) (top m : ℕ) (v : ℕ → ℕ) → m ≤ top → ((s t : ℕ) → slice_get tops s ≡ Some t → v s ≤ t)
    → (s t : ℕ) → slice_get (tops ++ top ∷ []) s ≡ Some t → given (length tops) m v s ≤ t
given_below tops top m v small below s t at = by (at_end tops top s t at) (nat_eq s (length tops)) refl where
  by : (slice_get tops s ≡ Some t) ⊎ ((s ≡ length tops) × (top ≡ t)) → (b : Bool) → nat_eq s (length tops) ≡ b
      → given (length tops) m v s ≤ t
  by (inl before) false e = rw e (below s t before)
  by (inl before) true e = absurd (inside before (grind (arith, nat_tests, e))) where
    inside : slice_get tops s ≡ Some t → s ≡ length tops → ⊥
    inside here is = absurd (let less = slice_get_within tops s t here in omega (arith, less, is))
  by (inr last) true e = rw e (let is = last.1 in omega (arith, small, is))
  by (inr last) false e = absurd
      (let is = last.0 in let bad : nat_eq s (length tops) ≡ true = grind (arith, nat_tests, is) in let worse : true
      ≡ false = sym bad ∙ e in cc)

symbol_known : (tops : List ℕ) (top : ℕ) → Known (length (tops ++ top ∷ [])) (symbol (length tops))
symbol_known tops top zero t at =
    let long : length (tops ++ top ∷ []) ≡ length tops + 1 = length-append tops (top ∷ []) in
    let is : (length tops, pos 1) ≡ t = cc in
    let place : length tops ≡ t.0 = ap (λ (u : ℕ × ℤ). u.0) is in
    omega (arith, long, place)
symbol_known tops top (suc i) t at = absurd (let bad : None ≡ Some t = at in cc)

pub settled_known : (y : Name) (o : Option Held) (c : Context) → IsKnown c → IsKnown (settled y o c)
settled_known y None c s = s
settled_known y (Some h) c s =
    bound_known (with_top (top_of h.kind) c) (held y h.local (symbol (length c.tops)) h.kind)
    (symbol_known c.tops (top_of h.kind))
    (wider_known c (c.tops ++ top_of h.kind ∷ []) (take_front c.tops (top_of h.kind ∷ [])) s)

-- one scalar settles: its number is in the local, and one fewer is spared
pub settled_rest : (spared left : Name → Bool) (call : Call) (v : ℕ → ℕ) (c : Context) (y : Name) (h : Held) (n : ℕ) (env : Env)
    (mem : Bytes) (locals : Locals)
    → FitsRest spared call v c env mem locals → value_of env y ≡ Some (arg.Word n) → n ≤ top_of h.kind → locals h.local ≡ Some n
    → ((x : Name) → same y x ≡ false → left x ≡ false → spared x ≡ false)
    → FitsRest left call (given (length c.tops) n v) (settled y (Some h) c) env mem locals
settled_rest spared left call v c y h n env mem locals fits value small local fewer =
    let w = given (length c.tops) n v in
    let wide : FitsRest spared call w (with_top (top_of h.kind) c) env mem locals =
    wider_rest spared call v w c (c.tops ++ top_of h.kind ∷ []) env mem locals (take_front c.tops (top_of h.kind ∷ []))
    (given_agrees (length c.tops) n v)
    (given_below c.tops (top_of h.kind) n v small fits.holds.1) fits in
    rest_bound spared left call w (with_top (top_of h.kind) c) (held y h.local (symbol (length c.tops)) h.kind) env env mem locals
    locals wide (symbol_known c.tops (top_of h.kind))
    (record {
      number = n;
      value = value;
      kind = small;
      form = value_symbol w (length c.tops) ∙ ap pos (given_here (length c.tops) n v);
      local = local;
    })
    fewer (λ x apart. refl) (λ a k at. refl)
    (record { scalars = λ i k at free. refl; pointers = λ i k at. refl; lengths = λ i k l at is. refl })

-- What a settled context is.

-- the local and the type of a scalar
abbrev pub place_in : Option Held → Option (ℕ × Scalar)
place_in None = None
place_in (Some h) = Some (h.local, h.kind)

pub record IsSettled (ys : List Name) (end_ c after : Context) : Type 0 where
  pub clauses : after.clauses ≡ c.clauses
  pub facts : after.facts ≡ c.facts
  pub entries : after.entries ≡ c.entries
  pub reserved : after.reserved ≡ c.reserved
  pub tops : MoreTops c after.tops
  pub places : (x : Name) → place_in (scalar after x) ≡ place_in (target ys end_ c x)
  pub unlisted : (x : Name) → listed x ys ≡ false → scalar after x ≡ scalar c x

-- a listed name that the other context has no scalar for is none
abbrev pub NoneLost : List Name → Context → Context → Type 0
NoneLost ys end_ c = (y : Name) → listed y ys ≡ true → scalar end_ y ≡ None → scalar c y ≡ None

settled_else : (y : Name) (o : Option Held) (c : Context) (x : Name) → same y x ≡ false → scalar (settled y o c) x ≡ scalar c x
settled_else y None c x apart = refl
settled_else y (Some h) c x apart = scalar_bound (with_top (top_of h.kind) c) (held y h.local (symbol (length c.tops)) h.kind) x
    ∙ rw apart refl

settled_here : (y : Name) (o : Option Held) (c : Context) → (o ≡ None → scalar c y ≡ None)
    → place_in (scalar (settled y o c) y) ≡ place_in o
settled_here y None c lost = ap place_in (lost refl)
settled_here y (Some h) c lost =
    let new : Held = held y h.local (symbol (length c.tops)) h.kind in
    let found : scalar (with_scalar new (with_top (top_of h.kind) c)) y ≡ (if same y y then Some new else scalar c y) =
    scalar_bound (with_top (top_of h.kind) c) new y in
    ap place_in (rw (same_self y) at found)

settled_tops : (y : Name) (o : Option Held) (c : Context) → MoreTops c (settled y o c).tops
settled_tops y None c = take_all c.tops
settled_tops y (Some h) c = take_front c.tops (top_of h.kind ∷ [])

none_lost_on : (y : Name) (ys : List Name) (end_ c : Context) → NoneLost (y ∷ ys) end_ c
    → NoneLost ys end_ (settled y (scalar end_ y) c)
none_lost_on y ys end_ c lost z in_list gone = by (same y z) refl where
  later : listed z (y ∷ ys) ≡ true
  later = rw in_list (or_true (same z y)) where
    or_true : (b : Bool) → (b || true) ≡ true
    or_true true = refl
    or_true false = refl

  by : (b : Bool) → same y z ≡ b → scalar (settled y (scalar end_ y) c) z ≡ None
  by false e = settled_else y (scalar end_ y) c z e ∙ lost z later gone
  by true e =
      let is : y ≡ z = same_is y z e in
      let none_there : scalar end_ y ≡ None = ap (scalar end_) is ∙ gone in
      ap (λ o. scalar (settled y o c) z) none_there ∙ lost z later gone

same_rest : (ys : List Name) (end_ c after : Context) (y : Name) → NoneLost (y ∷ ys) end_ c
    → IsSettled ys end_ (settled y (scalar end_ y) c) after → IsSettled (y ∷ ys) end_ c after
same_rest ys end_ c after y lost s = record {
  clauses = s.clauses ∙ (kept (scalar end_ y)).0;
  facts = s.facts ∙ (kept (scalar end_ y)).1;
  entries = s.entries ∙ (kept (scalar end_ y)).2;
  reserved = s.reserved ∙ (kept (scalar end_ y)).3;
  tops = take_on c.tops (settled y (scalar end_ y) c).tops after.tops (settled_tops y (scalar end_ y) c) s.tops;
  places = λ x. s.places x ∙ place x (listed x ys) refl (same x y) refl;
  unlisted = λ x out. other x out;
} where
  kept : (o : Option Held) → ((settled y o c).clauses ≡ c.clauses) × ((settled y o c).facts ≡ c.facts)
      × ((settled y o c).entries ≡ c.entries) × ((settled y o c).reserved ≡ c.reserved)
  kept None = (refl, refl, refl, refl)
  kept (Some h) = (refl, refl, refl, refl)

  here : listed y (y ∷ ys) ≡ true
  here = rw (same_self y) refl

  place : (x : Name) (in_rest : Bool) → listed x ys ≡ in_rest → (is : Bool) → same x y ≡ is
      → place_in (target ys end_ (settled y (scalar end_ y) c) x) ≡ place_in (target (y ∷ ys) end_ c x)
  place x true e true f = rw (e, f) refl
  place x true e false f = rw (e, f) refl
  place x false e true f = rw (e, f)
      (subst (λ (z : Name). place_in (scalar (settled y (scalar end_ y) c) z) ≡ place_in (scalar end_ z)) (sym (same_is x y f))
      (settled_here y (scalar end_ y) c (lost y here)))
  place x false e false f = rw (e, f) (ap place_in (settled_else y (scalar end_ y) c x (differ_back x y f)))

  split : (p q : Bool) → (p || q) ≡ false → (p ≡ false) × (q ≡ false)
  split true q is = absurd (let bad : true ≡ false = is in cc)
  split false q is = (refl, is)

  other : (x : Name) → listed x (y ∷ ys) ≡ false → scalar after x ≡ scalar c x
  other x out =
      let p = split (same x y) (listed x ys) out in
      s.unlisted x p.1 ∙ settled_else y (scalar end_ y) c x (differ_back x y p.0)

pub settle_static : (ys : List Name) (end_ c : Context) → NoneLost ys end_ c → IsSettled ys end_ c (settle ys end_ c)
settle_static [] end_ c lost =
    record {
      clauses = refl;
      facts = refl;
      entries = refl;
      reserved = refl;
      tops = take_all c.tops;
      places = λ x. refl;
      unlisted = λ x out. refl;
    }
settle_static (y ∷ ys) end_ c lost =
    same_rest ys end_ c (settle (y ∷ ys) end_ c) y lost
    (settle_static ys end_ (settled y (scalar end_ y) c) (none_lost_on y ys end_ c lost))

pub settle_known : (ys : List Name) (end_ c : Context) → IsKnown c → IsKnown (settle ys end_ c)
settle_known [] end_ c s = s
settle_known (y ∷ ys) end_ c s = settle_known ys end_ (settled y (scalar end_ y) c) (settled_known y (scalar end_ y) c s)

-- the scalars after it have locals of their own
abbrev pub TargetsApart : List Name → Context → Context → Type 0
TargetsApart ys end_ c = (x y : Name) (h k : Held) → target ys end_ c x ≡ Some h → target ys end_ c y ≡ Some k → same x y ≡ false
    → h.local ≢ k.local

-- the scalar that stands where another one does
pub record Beside (o : Option Held) (h : Held) : Type 0 where
  pub scalar_there : Held
  pub is : o ≡ Some scalar_there
  pub local : h.local ≡ scalar_there.local

pub beside : (o p : Option Held) (h : Held) → o ≡ Some h → place_in o ≡ place_in p → Beside p h
beside o None h is places = absurd (let bad : Some (h.local, h.kind) ≡ None = sym (ap place_in is) ∙ places in cc)
beside o (Some k) h is places =
    let both : Some (h.local, h.kind) ≡ Some (k.local, k.kind) = sym (ap place_in is) ∙ places in
    let pair : (h.local, h.kind) ≡ (k.local, k.kind) = cc in
    record { scalar_there = k; is = refl; local = ap (λ (q : ℕ × Scalar). q.0) pair }

pub settle_consistent : (ys : List Name) (end_ c : Context) → IsKnown c → NoneLost ys end_ c → TargetsApart ys end_ c
    → IsConsistent (settle ys end_ c)
settle_consistent ys end_ c s lost apart = consistent_of (settle ys end_ c) known (λ i j h k at_i at_j differ is.
    let one = beside (scalar (settle ys end_ c) h.name) (target ys end_ c h.name) h (found i h at_i) (all.places h.name) in
    let two = beside (scalar (settle ys end_ c) k.name) (target ys end_ c k.name) k (found j k at_j) (all.places k.name) in
    apart h.name k.name one.scalar_there two.scalar_there one.is two.is (known.scalars_once i j h k at_i at_j differ)
    (sym one.local ∙ is ∙ two.local))
  where
    known : IsKnown (settle ys end_ c)
    known = settle_known ys end_ c s

    all : IsSettled ys end_ c (settle ys end_ c)
    all = settle_static ys end_ c lost

    found : (i : ℕ) (h : Held) → slice_get (settle ys end_ c).scalars i ≡ Some h → scalar (settle ys end_ c) h.name ≡ Some h
    found i h at = found_at name_of_scalar (settle ys end_ c).scalars known.scalars_once i h at

-- where the locals of scalars that are not listed were reserved for a block, and what stands in them at its end was there before,
-- the scalars have locals of their own
pub targets_apart : (ys : List Name) (end_ c : Context) (reserved : List ℕ) → IsConsistent c → IsConsistent end_
    → ((y : Name) (k : Held) → scalar c y ≡ Some k → listed y ys ≡ false → has k.local reserved ≡ true)
    → ((x : Name) (h : Held) → scalar end_ x ≡ Some h → has h.local reserved ≡ true → local_of (scalar c x) ≡ Some h.local)
    → TargetsApart ys end_ c
targets_apart ys end_ c reserved s e kept came x y h k at_x at_y differ is = by (listed x ys) refl (listed y ys) refl where
  in_one : (d : Context) → IsConsistent d → (p q : Name) (g o : Held) → same p q ≡ false → scalar d p ≡ Some g
      → scalar d q ≡ Some o → g.local ≡ o.local → ⊥
  in_one d t p q g o apart at_p at_q one_local =
      let one = scalar_stands d p g at_p in
      let two = scalar_stands d q o at_q in
      (t.scalars_apart one.place two.place g o one.at two.at (λ place.
      let both : Some g ≡ Some o = sym one.at ∙ ap (slice_get d.scalars) place ∙ two.at in
      let one_scalar : g ≡ o = cc in
      names_differ p q apart (sym one.named ∙ ap name_of_scalar one_scalar ∙ two.named))).1 one_local

  mixed : (p q : Name) (g o : Held) → same p q ≡ false → scalar end_ p ≡ Some g → scalar c q ≡ Some o → listed q ys ≡ false
      → g.local ≡ o.local → ⊥
  mixed p q g o apart at_p at_q out one_local =
      before (scalar c p) refl (came p g at_p (ap (λ l. has l reserved) one_local ∙ kept q o at_q out)) where
        before : (found : Option Held) → scalar c p ≡ found → local_of (scalar c p) ≡ Some g.local → ⊥
        before None at there = absurd (let bad : None ≡ Some g.local = sym (ap local_of at) ∙ there in cc)
        before (Some m) at there =
            let both : Some m.local ≡ Some g.local = sym (ap local_of at) ∙ there in
            let one : m.local ≡ g.local = cc in
            in_one c s p q m o apart at at_q (one ∙ one_local)

  by : (p : Bool) → listed x ys ≡ p → (q : Bool) → listed y ys ≡ q → ⊥
  by true f true g = in_one end_ e x y h k differ (rw f at at_x) (rw g at at_y) is
  by true f false g = mixed x y h k differ (rw f at at_x) (rw g at at_y) g is
  by false f true g = mixed y x k h (differ_back x y differ) (rw g at at_y) (rw f at at_x) f (sym is)
  by false f false g = in_one c s x y h k differ (rw f at at_x) (rw g at at_y) is

-- The state.

-- all that were spared have settled
abbrev pub RestOn : Call → ℕ → (ℕ → ℕ) → Context → Env → Bytes → Locals → Type 0
RestOn call symbols numbers after env mem locals = (others : ℕ → ℕ) × Agree symbols numbers others
    × FitsRest none call others after env mem locals

fewer_spared : (y : Name) (ys : List Name) (call : Call) (v : ℕ → ℕ) (c : Context) (env : Env) (mem : Bytes) (locals : Locals)
    → scalar c y ≡ None
    → FitsRest (among (y ∷ ys)) call v c env mem locals → FitsRest (among ys) call v c env mem locals
fewer_spared y ys call v c env mem locals gone fits = record {
  known = fits.known;
  entry_count = fits.entry_count;
  entries = fits.entries;
  holds = fits.holds;
  scalars = λ x h at free. by x h at free (same y x) refl;
  clauses = fits.clauses;
  ranges = fits.ranges;
} where
  by : (x : Name) (h : Held) → scalar c x ≡ Some h → listed x ys ≡ false → (b : Bool) → same y x ≡ b
      → ScalarFits v h (value_of env x) locals
  by x h at free true e = absurd (let bad : None ≡ Some h = sym gone ∙ ap (scalar c) (same_is y x e) ∙ at in cc)
  by x h at free false e = fits.scalars x h at (listed_parts x y ys e free)

stood_on : (y : Name) (ys : List Name) (end_ c : Context) (env : Env) (locals : Locals) → AllStood (y ∷ ys) end_ c env locals
    → AllStood ys end_ (settled y (scalar end_ y) c) env locals
stood_on y ys end_ c env locals stood z in_list = by (scalar end_ z) refl (stood z later) where
  or_true : (b : Bool) → (b || true) ≡ true
  or_true true = refl
  or_true false = refl

  later : listed z (y ∷ ys) ≡ true
  later = rw in_list (or_true (same z y))

  lost : scalar end_ z ≡ None → scalar c z ≡ None → scalar (settled y (scalar end_ y) c) z ≡ None
  lost gone none_here = by_name (same y z) refl where
    by_name : (b : Bool) → same y z ≡ b → scalar (settled y (scalar end_ y) c) z ≡ None
    by_name false e = settled_else y (scalar end_ y) c z e ∙ none_here
    by_name true e = ap (λ o. scalar (settled y o c) z) (ap (scalar end_) (same_is y z e) ∙ gone) ∙ none_here

  by : (o : Option Held) → scalar end_ z ≡ o → Stood (scalar end_ z) (scalar c z) (value_of env z) locals
      → Stood (scalar end_ z) (scalar (settled y (scalar end_ y) c) z) (value_of env z) locals
  by None at s = rw at (lost at (rw at at s))
  by (Some h) at s = rw at (rw at at s)

pub settle_rest : (ys : List Name) (end_ : Context) (call : Call) (v : ℕ → ℕ) (c : Context) (env : Env) (mem : Bytes)
    (locals : Locals) → AllStood ys end_ c env locals
    → FitsRest (among ys) call v c env mem locals → RestOn call (length c.tops) v (settle ys end_ c) env mem locals
settle_rest [] end_ call v c env mem locals stood fits = (v, λ s less. refl, fits)
settle_rest (y ∷ ys) end_ call v c env mem locals stood fits =
    by (scalar end_ y) refl (stood y (rw (same_self y) refl)) (settle_rest ys end_ call)
    (stood_on y ys end_ c env locals stood)
  where
    on : (o : Option Held) (w : ℕ → ℕ) → Agree (length c.tops) v w
        → RestOn call (length (settled y o c).tops) w (settle ys end_ (settled y o c)) env mem locals
        → length c.tops ≤ length (settled y o c).tops
        → RestOn call (length c.tops) v (settle ys end_ (settled y o c)) env mem locals
    on o w agree rest longer = (
      rest.0,
      agree_on (length c.tops) (length (settled y o c).tops) v w rest.0 longer agree rest.1,
      rest.2,
    )

    by : (o : Option Held) → scalar end_ y ≡ o → Stood (scalar end_ y) (scalar c y) (value_of env y) locals
        → ((w : ℕ → ℕ) (d : Context) (env : Env) (mem : Bytes) (locals : Locals) → AllStood ys end_ d env locals
        → FitsRest (among ys) call w d env mem locals → RestOn call (length d.tops) w (settle ys end_ d) env mem locals)
        → AllStood ys end_ (settled y (scalar end_ y) c) env locals
        → RestOn call (length c.tops) v (settle ys end_ (settled y (scalar end_ y) c)) env mem locals
    by None at here more rest = rw at
        (more v c env mem locals (rw at at rest) (fewer_spared y ys call v c env mem locals (rw at at here) fits))
    by (Some h) at here more rest =
        let s : (n : ℕ) × (value_of env y ≡ Some (arg.Word n)) × (n ≤ top_of h.kind)
        × (locals h.local ≡ Some n) = rw at at here in
        let one = settled_rest (among (y ∷ ys)) (among ys) call v c y h s.0 env mem locals fits s.1 s.2 s.3
        (λ x apart free. listed_parts x y ys apart free) in
        let long : length (c.tops ++ top_of h.kind ∷ []) ≡ length c.tops + 1 = length-append c.tops (top_of h.kind ∷ []) in
        rw at (on (Some h) (given (length c.tops) s.0 v) (given_agrees (length c.tops) s.0 v)
        (more (given (length c.tops) s.0 v) (settled y (Some h) c) env mem locals (rw at at rest) one) (omega (arith, long)))

-- a state that fits but for the listed scalars, which stand where the other context has them, fits where they have settled
pub settle_fits : (ys : List Name) (end_ : Context) (call : Call) (v : ℕ → ℕ) (c : Context) (env : Env) (mem : Bytes)
    (locals : Locals) → AllStood ys end_ c env locals
    → TargetsApart ys end_ c → FitsRest (among ys) call v c env mem locals
    → FitsOn call (length c.tops) v (settle ys end_ c) env mem locals
settle_fits ys end_ call v c env mem locals stood apart fits =
    let r = settle_rest ys end_ call v c env mem locals stood fits in
    (r.0, r.1, fits_of_rest call r.0 (settle ys end_ c) env mem locals (settle_consistent ys end_ c fits.known lost apart) r.2)
  where
    lost : NoneLost ys end_ c
    lost y in_list gone = (let s : Stood None (scalar c y) (value_of env y) locals = rw gone at (stood y in_list) in s)
