-- The requirements of a well typed model have forms over the entry symbols.
use Rattle.std.proofs.Common.{◌≡◌, refl, sym, ◌∙◌, ap, subst, arith, ℕ, suc, ◌+◌, ◌<◌, ◌≤◌, ◌^◌, Bool, true, false, List, [], ◌∷◌}
use Rattle.std.proofs.Common.{◌++◌, length, Option, Some, None, Result, Ok, Err, ℤ, pos, negsuc, neg_ℤ, ◌+ℤ◌, ◌*ℤ◌, nat_eq}
use Rattle.std.proofs.Common.{nat_lt, nat_abs, ◌≤ℤ◌, if◌then◌else◌}
use Rattle.std.specs.List.{find}
use Rattle.std.specs.Option.{option_or}
use Rattle.std.proofs.lemmas.Bool.{le-leb}
use Rattle.std.proofs.lemmas.Int.{ints}
use Rattle.std.proofs.lemmas.List.Folds.{find-append}
use Rattle.std.proofs.lemmas.Slice.Eq.{bytes_eq-Decides as bytes_decides}
use Rattle.rup_base.specs.declared.refusal.TypePlace.TheVariants.{Require}
use Rattle.rup_base.specs.declared.refusal.TypeWhy.{TypeWhy}
use Rattle.rup_base.specs.declared.refusal.TypeWhy.TheVariants as why
use Rattle.side_certs.specs.LinearForm.{LinearForm, constant, symbol, is_small, is_within, rises_from, coefficient, share}
use Rattle.side_certs.specs.LinearForm as linear
use Rattle.side_certs.proofs.laws.Limits.{merge_rises, times_rise, rises_made}
use Rattle.model_syntax.specs.declared.expr.Scalar.{Scalar}
use Rattle.model_syntax.specs.declared.expr.Scalar.TheVariants.{Word, Byte}
use Rattle.model_syntax.specs.declared.stmt.Lin.{Lin, Lin-F, map-Lin, roll-Lin, fold-roll-Lin, ind-Lin}
use Rattle.model_syntax.specs.declared.stmt.Lin.TheOpen as l
use Rattle.model_syntax.specs.declared.stmt.Le.{Le}
use Rattle.model_syntax.specs.declared.program.Len.{Len}
use Rattle.model_syntax.specs.declared.program.Len.TheVariants.{Fixed, Named}
use Rattle.model_syntax.specs.declared.program.Param.{Param}
use Rattle.model_syntax.specs.declared.program.Param.TheVariants as param
use Rattle.model_syntax.specs.declared.program.Model.{Model}
use Rattle.model_syntax.specs.declared.scope.NameType.{NameType}
use Rattle.model_syntax.specs.declared.scope.NameType.TheVariants.{Scalar as One, Array as Many}
use Rattle.model_syntax.specs.declared.scope.Linear.{Linear}
use Rattle.model_syntax.specs.Answer.{◌>>=◌}
use Rattle.model_syntax.specs.Limits.{next}
use Rattle.model_syntax.specs.Linear as model
use Rattle.model_syntax.specs.Names.{Name, same}
use Rattle.model_syntax.specs.Scope.{Scope, look_up, bind, scalar_in}
use Rattle.model_syntax.specs.Types as types
use Rattle.sym_heap.specs.declared.parts.Held.{Held}
use Rattle.sym_heap.specs.Context.{Context, held, is_scalar}
use Rattle.sym_heap.specs.Sides.{form_in, side, side_step, Formed, AllFormed}
use Rattle.sym_heap.specs.Start.{empty, next_local, with_argument, with_pointer, with_array, with_param, with_params}
use Rattle.side_certs.proofs.laws.Coefficients.{coefficient_merge, coefficient_times, below_merge, below_times, keeps_limits}
use Rattle.sym_heap.proofs.Declared.{Answered, answered, at_place, declared, Declared, declared_parts, StartScope, start_scope}
use Rattle.sym_heap.proofs.Declared.{few_registers}
use Rattle.sym_heap.proofs.Limits as limits
use Rattle.sym_heap.proofs.Starting.{after_params}

same_is : (x y : Name) → same x y ≡ true → x ≡ y
same_is x y = (bytes_decides x y).0

-- Scalars whose forms are symbols, from a number on.

abbrev pub Numbered : ℕ → List Held → Type 0
Numbered k [] = Unit {0}
Numbered k (h ∷ hs) = (h.form ≡ symbol k) × Numbered (k + 1) hs

numbered_last : (k : ℕ) (hs : List Held) (h : Held) → Numbered k hs → h.form ≡ symbol (k + length hs) → Numbered k (hs ++ h ∷ [])
numbered_last k [] h all is = (let at : k + 0 ≡ k = omega arith in is ∙ ap symbol at, tt)
numbered_last k (g ∷ hs) h all is = (
  all.0,
  numbered_last (k + 1) hs h all.1
      (let at : k + suc (length hs) ≡ k + 1 + length hs = omega arith in is ∙ ap symbol at),
)

-- a name of a scalar
pub record Found (hs : List Held) (x : Name) : Type 0 where
  pub scalar : Held
  pub is : find (is_scalar x) hs ≡ Some scalar

abbrev pub place : ℕ → List Held → Name → ℕ
place k [] x = k
place k (h ∷ hs) x = if same h.name x then k else place (k + 1) hs x

nothing_found : {A : Type 0} (x : Name) → Found [] x → A
nothing_found x f = absurd (let bad : None ≡ Some f.scalar = f.is in cc)

further : (h : Held) (hs : List Held) (x : Name) → same h.name x ≡ false → Found (h ∷ hs) x → Found hs x
further h hs x apart f = record { scalar = f.scalar; is = rw apart at f.is }

not_before : (k : ℕ) (hs : List Held) (x : Name) → k ≤ place k hs x
not_before k [] x = omega arith
not_before k (h ∷ hs) x = by (same h.name x) (not_before (k + 1) hs x) where
  by : (b : Bool) → k + 1 ≤ place (k + 1) hs x → k ≤ (if b then k else place (k + 1) hs x)
  by true more = omega arith
  by false more = omega (arith, more)

inside : (k : ℕ) (hs : List Held) (x : Name) → Found hs x → place k hs x < k + length hs
inside k [] x f = nothing_found x f
inside k (h ∷ hs) x f = by (same h.name x) refl (λ g. inside (k + 1) hs x g) where
  by : (b : Bool) → same h.name x ≡ b → (Found hs x → place (k + 1) hs x < k + 1 + length hs)
      → place k (h ∷ hs) x < k + length (h ∷ hs)
  by true e more = rw e (omega arith)
  by false e more = let rest = more (further h hs x e f) in rw e (omega (arith, rest))

form_is : (k : ℕ) (hs : List Held) (x : Name) → Numbered k hs → Found hs x → form_in hs x ≡ symbol (place k hs x)
form_is k [] x all f = nothing_found x f
form_is k (h ∷ hs) x all f = by (same h.name x) refl (λ g. form_is (k + 1) hs x all.1 g) where
  by : (b : Bool) → same h.name x ≡ b → (Found hs x → form_in hs x ≡ symbol (place (k + 1) hs x))
      → form_in (h ∷ hs) x ≡ symbol (place k (h ∷ hs) x)
  by true e more = rw e all.0
  by false e more = rw e (more (further h hs x e f))

pub apart : (k : ℕ) (hs : List Held) (x y : Name) → Found hs x → Found hs y → place k hs x ≡ place k hs y → x ≡ y
apart k [] x y f g equal = nothing_found x f
apart k (h ∷ hs) x y f g equal = by (same h.name x) refl (same h.name y) refl (λ f g e. apart (k + 1) hs x y f g e) where
  by : (a : Bool) → same h.name x ≡ a → (b : Bool) → same h.name y ≡ b
      → (Found hs x → Found hs y → place (k + 1) hs x ≡ place (k + 1) hs y → x ≡ y) → x ≡ y
  by true p true q more = sym (same_is h.name x p) ∙ same_is h.name y q
  by true p false q more = absurd
      (let one : place k (h ∷ hs) x ≡ k = rw p refl in let two : place k (h ∷ hs) y ≡ place (k + 1) hs y = rw q refl in
      let least = not_before (k + 1) hs y in omega (arith, equal, one, two, least))
  by false p true q more = absurd
      (let one : place k (h ∷ hs) y ≡ k = rw q refl in let two : place k (h ∷ hs) x ≡ place (k + 1) hs x = rw p refl in
      let least = not_before (k + 1) hs x in omega (arith, equal, one, two, least))
  by false p false q more =
      let one : place k (h ∷ hs) x ≡ place (k + 1) hs x = rw p refl in
      let two : place k (h ∷ hs) y ≡ place (k + 1) hs y = rw q refl in
      more (further h hs x p f) (further h hs y q g) (sym one ∙ equal ∙ two)

-- Scopes: each scalar in scope is one of the context.

abbrev pub Knows : Scope → List Held → Type 0
Knows c hs = (x : Name) (t : Scalar) → look_up c x ≡ Some (One t) → Found hs x

pub look_bound : (y : Name) (t : NameType) (c : Scope) (x : Name)
    → look_up (bind y t c) x ≡ (if same y x then Some t else look_up c x)
look_bound y t [] x = by (same y x) where
  by : (b : Bool) → option_or None (if b then Some t else None) ≡ (if b then Some t else None)
  by true = refl
  by false = refl
look_bound y t (b ∷ bs) x = ap (λ o. option_or o (if same b.name x then Some b.shape else None)) (look_bound y t bs x)
    ∙ by (same y x) where
      by : (is : Bool) → option_or (if is then Some t else look_up bs x) (if same b.name x then Some b.shape else None)
          ≡ (if is then Some t else look_up (b ∷ bs) x)
      by true = refl
      by false = refl

found_before : (hs gs : List Held) (x : Name) → Found hs x → Found (hs ++ gs) x
found_before hs gs x f = record { scalar = f.scalar; is = find-append (is_scalar x) hs gs ∙ rw (f.is) refl }

found_last : (hs : List Held) (h : Held) (x : Name) → same h.name x ≡ true → Found (hs ++ h ∷ []) x
found_last hs h x is = by (find (is_scalar x) hs) refl where
  by : (o : Option Held) → find (is_scalar x) hs ≡ o → Found (hs ++ h ∷ []) x
  by (Some g) e = found_before hs (h ∷ []) x (record { scalar = g; is = e })
  by None e = record { scalar = h; is = find-append (is_scalar x) hs (h ∷ []) ∙ rw (e, is) refl }

knows_scalar : (c d : Scope) (hs : List Held) (h : Held) (t : Scalar) → Knows c hs → types.declare h.name (One t) c ≡ Ok d
    → Knows d (hs ++ h ∷ [])
knows_scalar c d hs h t knows is x u at = by (same h.name x) refl where
  bound : look_up (bind h.name (One t) c) x ≡ Some (One u)
  bound = ap (λ (s : Scope). look_up s x) (sym (declared h.name (One t) c d is).1) ∙ at

  by : (b : Bool) → same h.name x ≡ b → Found (hs ++ h ∷ []) x
  by true e = found_last hs h x e
  by false e = found_before hs (h ∷ []) x (knows x u (sym (look_bound h.name (One t) c x ∙ rw e refl) ∙ bound))

knows_array : (c d : Scope) (hs : List Held) (a : Name) (t : Scalar) (n : Len) → Knows c hs → types.declare a (Many t n) c ≡ Ok d
    → Knows d hs
knows_array c d hs a t n knows is x u at = by (same a x) refl where
  bound : look_up (bind a (Many t n) c) x ≡ Some (One u)
  bound = ap (λ (s : Scope). look_up s x) (sym (declared a (Many t n) c d is).1) ∙ at

  by : (b : Bool) → same a x ≡ b → Found hs x
  by true e = absurd (let bad : Some (Many t n) ≡ Some (One u) = sym (look_bound a (Many t n) c x ∙ rw e refl) ∙ bound in cc)
  by false e = knows x u (sym (look_bound a (Many t n) c x ∙ rw e refl) ∙ bound)

-- Each parameter keeps both.

pub record Kept (c : Scope) (hs : List Held) : Type 0 where
  pub knows : Knows c hs
  pub numbered : Numbered 0 hs

argument_kept : (c d : Scope) (k : Context) (x : Name) (t : Scalar) → Kept c k.scalars → types.declare x (One t) c ≡ Ok d
    → Kept d (with_argument x t k).scalars
argument_kept c d k x t kept is = record {
  knows = knows_scalar c d k.scalars (held x (next_local k) (symbol (length k.scalars)) t) t kept.knows is;
  numbered = numbered_last 0 k.scalars (held x (next_local k) (symbol (length k.scalars)) t) kept.numbered
      (let at : length k.scalars ≡ 0 + length k.scalars = omega arith in ap symbol at);
}

array_kept : (c d : Scope) (k : Context) (p : ℕ) (a : Name) (size : ℕ) (t : Scalar) (n : Len) → Kept c k.scalars
    → (types.declare a (Many t n) c >>= types.declare_length n) ≡ Ok d → Kept d (with_array p a size n k).scalars
array_kept c d k p a size t n kept is =
    by n (parts.value) parts.two (record
    { knows = knows_array c parts.value k.scalars a t n kept.knows parts.one; numbered = kept.numbered }) where
      parts : Answered (types.declare a (Many t n) c) (types.declare_length n) d
      parts = answered _ _ d is

      by : (m : Len) (e : Scope) → types.declare_length m e ≡ Ok d → Kept e k.scalars → Kept d (with_array p a size m k).scalars
      by (Fixed j) e same_d kept_e = let one : e ≡ d = cc in subst (λ (s : Scope). Kept s k.scalars) one kept_e
      by (Named x) e more kept_e = argument_kept e d
          (with_pointer p a size (symbol (length k.scalars)) (Some (next_local k + 1)) k) x
          Word kept_e more

param_kept : (c d : Scope) (k : Context) (p : ℕ) (q : Param) → Kept c k.scalars → types.declare_param q c ≡ Ok d
    → Kept d (with_param p q k).scalars
param_kept c d k p (param.Word x) kept is = argument_kept c d k x Word kept is
param_kept c d k p (param.Byte x) kept is = argument_kept c d k x Byte kept is
param_kept c d k p (param.Bytes a n) kept is = array_kept c d k p a 1 Byte n kept is
param_kept c d k p (param.Words a n) kept is = array_kept c d k p a 4 Word n kept is

pub params_kept : (qs : List Param) (c d : Scope) (k : Context) (p : ℕ) → Kept c k.scalars → types.declare_params qs c ≡ Ok d
    → Kept d (with_params p qs k).scalars
params_kept [] c d k p kept is = let one : c ≡ d = cc in subst (λ (s : Scope). Kept s k.scalars) one kept
params_kept (q ∷ qs) c d k p kept is =
    let parts : Declared q qs c d = declared_parts q qs c d is in
    params_kept qs parts.between d (with_param p q k) (p + 1) (param_kept c parts.between k p q kept parts.first) parts.rest

-- Sides.

module _ (c : Scope) (hs : List Held) (kept : Kept c hs) (few : length hs ≤ 8) where
  abbrev Like : Linear → LinearForm → Type 0
  Like = limits.Like (place 0 hs) (Found hs) (apart 0 hs)

  -- a side whose names are known scalars, and that has a linear form
  abbrev Claim : Result Linear TypeWhy → LinearForm → (Scope → types.Rule) → Type 0
  Claim found f names = names c ≡ Ok tt → (p : Linear) → found ≡ Ok p → Like p f

  const_like : (n : ℕ) → Like (model.form n []) (constant (pos n))
  const_like n = record {
    good = record { all = tt; once = λ s. refl };
    constant_is = refl;
    coefficient_is = λ s. refl;
    rises = refl;
    below = tt;
  }

  var_like : (x : Name) → Found hs x → Like (model.form 0 (model.term x 1 ∷ [])) (form_in hs x)
  var_like x f =
      let like : Like (model.form 0 (model.term x 1 ∷ [])) (symbol (place 0 hs x)) = record {
        good = record { all = (f, omega arith, tt); once = λ s. one (nat_eq (place 0 hs x) s) };
        constant_is = refl;
        coefficient_is = λ s. two (nat_eq (place 0 hs x) s);
        rises = rises_made 0 (place 0 hs x, pos 1) [] (omega arith) refl refl;
        below = (let less = inside 0 hs x f in omega (arith, less, few), tt);
      } in
      subst (λ (g : LinearForm). Like (model.form 0 (model.term x 1 ∷ [])) g) (sym (form_is 0 hs x kept.numbered f)) like
    where
      one : (b : Bool) → (if b then 1 else 0) + 0 ≡ (if b then 1 else 0)
      one true = refl
      one false = refl

      two : (b : Bool) → (if b then pos 1 else pos 0) +ℤ pos 0 ≡ pos ((if b then 1 else 0) + 0)
      two true = refl
      two false = refl

  scalar_known : (x : Name) → (o : Option NameType) → look_up c x ≡ o
      → ◌≡◌ {A = types.Rule} (scalar_in o >>= (λ t. Ok tt)) (Ok tt) → Found hs x
  scalar_known x None at is = absurd (let bad : ◌≡◌ {A = types.Rule} (Err why.Unknown) (Ok tt) = is in cc)
  scalar_known x (Some (One t)) at is = kept.knows x t at
  scalar_known x (Some (Many t n)) at is = absurd (let bad : ◌≡◌ {A = types.Rule} (Err why.NotScalar) (Ok tt) = is in cc)

  abbrev IsSided : Lin → Type 0
  IsSided a = Claim (model.linear a) (side (form_in hs) a) (types.names_scalars a)

  abbrev Proved : Type 0
  Proved = (a : Lin) × IsSided a

  abbrev bare : Lin-F Proved → Lin-F Lin
  bare y = map-Lin Proved Lin (λ p. p.0) y

  abbrev StepSided : Lin-F Lin → Type 0
  StepSided y =
      Claim (model.linear_step (map-Lin Lin (Result Linear TypeWhy) model.linear y))
      (side_step (form_in hs) (map-Lin Lin LinearForm (side (form_in hs)) y))
      (types.names_step (map-Lin Lin (Scope → types.Rule) types.names_scalars y))

  step_sided : (y : Lin-F Proved) → StepSided (bare y)
  step_sided (l.Const n) names p is = let one : model.form n [] ≡ p = cc in
      subst (λ (q : Linear). Like q (constant (pos n))) one (const_like n)
  step_sided (l.Var x) names p is =
      let one : model.form 0 (model.term x 1 ∷ []) ≡ p = cc in
      subst (λ (q : Linear). Like q (form_in hs x)) one (var_like x (scalar_known x (look_up c x) refl names))
  step_sided (l.Sum a b) names p is =
      let both : Answered (types.names_scalars a.0 c) (λ u. types.names_scalars b.0 c) tt = answered _ _ tt names in
      let left : Answered (model.linear a.0) (λ x. model.linear b.0 >>= (λ y. model.plus x y)) p = answered _ _ p is in
      let right : Answered (model.linear b.0) (λ y. model.plus left.value y) p = answered _ _ p left.two in
      limits.sum_like (place 0 hs) (Found hs) (apart 0 hs) left.value right.value p _ _
      (a.1 (unit_is (types.names_scalars a.0 c) both.value both.one) left.value left.one) (b.1 both.two right.value right.one)
      right.two
    where
      unit_is : (r : types.Rule) (u : Unit {0}) → r ≡ Ok u → r ≡ Ok tt
      unit_is r u e = e
  step_sided (l.Scale k a) names p is =
      let inner : Answered (model.linear a.0) (λ x. model.times k x) p = answered _ _ p is in
      limits.times_like (place 0 hs) (Found hs) (apart 0 hs) k inner.value p _ (a.1 names inner.value inner.one) inner.two

  rolled : (y : Lin-F Lin) → StepSided y → IsSided (roll-Lin y)
  rolled y h =
      rw (
        fold-roll-Lin (Result Linear TypeWhy) model.linear_step y,
        fold-roll-Lin LinearForm (side_step (form_in hs)) y,
        fold-roll-Lin (Scope → types.Rule) types.names_step y,
      ) h

  pub sided : (a : Lin) → IsSided a
  sided = ind-Lin IsSided (λ z y is. subst (λ r. IsSided (roll-Lin r)) is (rolled (bare y) (step_sided y)))

  near_small : (z : ℤ) (n : ℕ) → neg_ℤ (pos n) ≤ℤ z → z ≤ℤ pos n → nat_abs z ≤ n
  near_small (pos m) n least most = omega (arith, ints, most)
  near_small (negsuc m) n least most = omega (arith, ints, least)

  small_difference : (x y z : ℤ) (a b : ℕ) → z ≡ x +ℤ (negsuc 0 *ℤ y) → x ≡ pos a → y ≡ pos b → a ≤ 2 ^ 40 → b ≤ 2 ^ 40
      → is_small z ≡ true
  small_difference x y z a b at is_x is_y few_a few_b =
      let whole : z ≡ pos a +ℤ (negsuc 0 *ℤ pos b) = rw (at, is_x, is_y) refl in
      le-leb _ _ (near_small z (2 ^ 40) (omega (arith, ints, whole, few_a, few_b)) (omega (arith, ints, whole, few_a, few_b)))

  -- the sides' numbers are from 0 to 2^40, and so their differences keep the limit
  difference_within : (p q : Linear) (f g : LinearForm) → Like p f → Like q g → p.constant ≤ 2 ^ 40 → q.constant ≤ 2 ^ 40
      → is_within (linear.minus f g) ≡ true
  difference_within p q f g one two small_p small_q = keeps_limits (linear.minus f g)
      (small_difference f.constant g.constant _ p.constant q.constant refl one.constant_is two.constant_is small_p small_q)
      (merge_rises f.terms _ 0 one.rises (times_rise (negsuc 0) 0 g.terms two.rises))
      (below_merge 8 f.terms _ one.below (below_times 8 (negsuc 0) g.terms two.below))
      (λ s. small_difference (coefficient s f.terms) (coefficient s g.terms) _ _ _
      (coefficient_merge s f.terms (linear.terms_times (negsuc 0) g.terms)
      ∙ ap (λ z. coefficient s f.terms +ℤ z) (coefficient_times s (negsuc 0) g.terms))
      (one.coefficient_is s) (two.coefficient_is s)
      (limits.total_small (place 0 hs) (Found hs) (apart 0 hs) s p.terms one.good)
      (limits.total_small (place 0 hs) (Found hs) (apart 0 hs) s q.terms two.good))

  one_formed : (r : Le) → types.fact r c ≡ Ok tt → Formed (form_in hs) r
  one_formed r is =
      let names_low : Answered (types.names_scalars r.low c)
      (λ u. types.names_scalars r.high c >>= (λ u. model.linear r.low >>= (λ p. model.linear r.high >>= (λ q. Ok tt)))) tt =
      answered _ _ tt is in
      let names_high : Answered (types.names_scalars r.high c)
      (λ u. model.linear r.low >>= (λ p. model.linear r.high >>= (λ q. Ok tt))) tt = answered _ _ tt names_low.two in
      let low : Answered (model.linear r.low) (λ p. model.linear r.high >>= (λ q. Ok tt)) tt = answered _ _ tt names_high.two in
      let high : Answered (model.linear r.high) (λ q. Ok tt) tt = answered _ _ tt low.two in
      let low_like = sided r.low names_low.one low.value low.one in
      let high_like = sided r.high names_high.one high.value high.one in
      record {
        narrow = record { low = rw (low.one) refl; high = rw (high.one) refl };
        keeps = λ small_low small_high. difference_within high.value low.value _ _ high_like low_like
            (small_high high.value high.one) (small_low low.value low.one);
      }

  pub all_formed : (k : ℕ) (rs : List Le) → types.requirements k rs c ≡ Ok tt → AllFormed (form_in hs) rs
  all_formed k [] is = tt
  all_formed k (r ∷ rs) is = (one_formed r (by (nat_lt k 4096) refl), all_formed (next k) rs parts.two) where
    parts : Answered (types.at (Require k) (types.requirement k r c)) (λ u. types.requirements (next k) rs c) tt
    parts = answered _ _ tt is

    by : (few_so_far : Bool) → nat_lt k 4096 ≡ few_so_far → types.fact r c ≡ Ok tt
    by true e = subst (λ (b : Bool). ◌≡◌ {A = types.Rule} (if b then types.fact r c else Err why.WideForm) (Ok tt)) e
        (at_place (Require k) _ tt parts.one)
    by false e = absurd (let bad : ◌≡◌ {A = types.Rule} (Err why.WideForm) (Ok tt) = subst
        (λ (b : Bool). ◌≡◌ {A = types.Rule} (if b then types.fact r c else Err why.WideForm) (Ok tt)) e
        (at_place (Require k) _ tt parts.one) in cc)

-- the scalars of the start, and the scope
pub start_kept : (m : Model) (at : StartScope m) → Kept at.scope (with_params 0 m.params empty).scalars
start_kept m at = params_kept m.params [] at.scope empty 0
    (record { knows = λ x t bad. absurd (let none : None ≡ Some (One t) = bad in cc); numbered = tt }) at.declares

pub requirements_formed : (m : Model) → types.Well m → AllFormed (form_in (with_params 0 m.params empty).scalars) m.requires_
requirements_formed m well =
    let at : StartScope m = start_scope m well in
    let few = few_registers m well in
    let all = after_params 0 m.params empty in
    all_formed at.scope (with_params 0 m.params empty).scalars (start_kept m at) (omega (arith, few, all)) 0 m.requires_
    at.requires_
