-- All arguments: the context of the parameters is true of the values, the memory and the locals at the start.
use Rattle.std.proofs.Common.{◌≡◌, refl, sym, ◌∙◌, ap, subst, arith, ℕ, zero, suc, ◌+◌, ◌<◌, ◌≤◌, List, [], ◌∷◌, drop, length}
use Rattle.std.proofs.Common.{Option, Some, None, Ok, pos, ℤ, slice_get, slice_index_or, length-append}
use Rattle.std.proofs.lemmas.Int.{ints}
use Rattle.rup_base.specs.declared.arg.Arg.{Arg}
use Rattle.rup_base.specs.declared.arg.Arg.TheVariants as arg
use Rattle.side_certs.specs.LinearForm.{LinearForm, constant, symbol, value_at}
use Rattle.model_syntax.specs.declared.expr.Scalar.{Scalar}
use Rattle.model_syntax.specs.declared.expr.Scalar.TheVariants.{Word, Byte}
use Rattle.model_syntax.specs.declared.program.Len.{Len}
use Rattle.model_syntax.specs.declared.program.Len.TheVariants.{Fixed, Named}
use Rattle.model_syntax.specs.declared.program.Param.{Param}
use Rattle.model_syntax.specs.declared.program.Param.TheVariants as param
use Rattle.model_syntax.specs.declared.scope.NameType.TheVariants.{Scalar as One, Array as Many}
use Rattle.model_syntax.specs.Answer.{◌>>=◌}
use Rattle.model_syntax.specs.Environment.{Env, put, elements, size}
use Rattle.model_syntax.specs.Names.{Name}
use Rattle.model_syntax.specs.Scope.{Scope, look_up, bind}
use Rattle.model_syntax.specs.Types as types
use Rattle.model_syntax.specs.Value as value
use Rattle.sym_heap.specs.Arrival.{HasArray, HasLength, HasArgument, HasArguments, numbers_of}
use Rattle.sym_heap.specs.Context.{Context, top_of}
use Rattle.rv_memory.specs.Ranges.{Bytes}
use Rattle.sym_heap.specs.Fits.{Locals, Call, Known, ClauseFits, array_bytes, entry_numbers}
use Rattle.sym_heap.specs.Start.{next_local, with_argument, clause, with_pointer, with_array, with_param, with_params}
use Rattle.sym_heap.proofs.Arriving.{Arrived, argument_arrived, pointer_arrived, reserved_arrived}
use Rattle.sym_heap.proofs.Declared.{Answered, answered, declared, Declared, declared_parts}
use Rattle.sym_heap.proofs.Starting.{after_pointer, after_param}

-- the first of what is left of a list
record First {A : Type 0} (xs : List A) (k : ℕ) (y : A) (ys : List A) : Type 0 where
  pub is : (d : A) → slice_index_or xs k d ≡ y
  pub got : slice_get xs k ≡ Some y
  pub rest : drop (k + 1) xs ≡ ys
  pub inside : k < length xs

first_of : {A : Type 0} (xs : List A) (k : ℕ) (y : A) (ys : List A) → drop k xs ≡ y ∷ ys → First xs k y ys
first_of [] zero y ys is = absurd (cc)
first_of [] (suc k) y ys is = absurd (cc)
first_of (x ∷ xs) zero y ys is = let head : x ≡ y = cc in let tail : xs ≡ ys = cc in
    record { is = λ d. head; got = ap Some head; rest = tail; inside = omega arith }
first_of (x ∷ xs) (suc k) y ys is = let f = first_of xs k y ys is in
    record {
      is = f.is;
      got = f.got;
      rest = (let next_place : suc k + 1 ≡ suc (k + 1) = omega arith in
          subst (λ (j : ℕ). drop j (x ∷ xs) ≡ ys) (sym next_place) f.rest);
      inside = (let less = f.inside in omega (arith, less));
    }

module _ (arguments : List Arg) (call : Call) (sized : (p : ℕ) → call.sizes p ≡ length (array_bytes (slice_get arguments p)))
    (mem : Bytes) (locals : Locals) where
  abbrev Here : Scope → Context → Env → ℕ → Type 0
  Here = Arrived arguments call mem locals (numbers_of call)

  later : (scope : Scope) (c : Context) (env : Env) (p : ℕ) → Here scope c env p → Here scope c env (p + 1)
  later scope c env p a = record {
    scalars = a.scalars;
    scalars_apart = a.scalars_apart;
    clauses = λ i k at. (let s = a.clauses i k at in
        record {
          length_known = s.length_known;
          param = (let less = s.param in omega (arith, less));
          known = s.known;
          fits = s.fits;
          given = s.given;
        });
    clauses_apart = a.clauses_apart;
    tops = a.tops;
    below = a.below;
  }

  size_is : (v : Arg) → length (elements (Some v)) ≤ 4294967295 → size (elements (Some v)) ≡ length (elements (Some v))
  size_is v few = omega (arith, few)

  scalar_arrived : (scope d : Scope) (c : Context) (env : Env) (p : ℕ) (x : Name) (t : Scalar) (n : ℕ) (rest : List ℕ)
      → Here scope c env p → types.declare x (One t) scope ≡ Ok d
      → drop (length c.scalars) call.entries ≡ n ∷ rest → n ≤ top_of t → locals (next_local c) ≡ Some n
      → Here d (with_argument x t c) (put x (arg.Word n) env) p
  scalar_arrived scope d c env p x t n rest a is next small local =
      let new = declared x (One t) scope d is in
      let f = first_of call.entries (length c.scalars) n rest next in
      subst (λ (s : Scope). Here s (with_argument x t c) (put x (arg.Word n) env) p) (sym new.1)
      (argument_arrived arguments call mem locals (numbers_of call) scope c env p x t (One t) n a new.0 (f.is 0) small local)

  array_arrived : (scope d : Scope) (c : Context) (env : Env) (p : ℕ) (a : Name) (size_ : ℕ) (t : Scalar) (n : Len) (v : Arg)
      → Here scope c env p
      → (types.declare a (Many t n) scope >>= types.declare_length n) ≡ Ok d
      → HasArray size_ n v (call.pointers p) (next_local c) mem locals → slice_get arguments p ≡ Some v
      → (rest : List ℕ) → ((x : Name) → n ≡ Named x → drop (length c.scalars) call.entries ≡ length (elements (Some v)) ∷ rest)
      → Here d (with_array p a size_ n c) (value.bind_length n (size (elements (Some v))) (put a v env)) (p + 1)
  array_arrived scope d c env p a size_ t n v arrived is has given rest next = by n refl parts.two has.has_length where
    parts : Answered (types.declare a (Many t n) scope) (types.declare_length n) d
    parts = answered _ _ d is

    new : (look_up scope a ≡ None) × (parts.value ≡ bind a (Many t n) scope)
    new = declared a (Many t n) scope parts.value parts.one

    fits : (f : LinearForm) (l : Option ℕ) → value_at (numbers_of call) f ≡ pos (length (elements (Some v)))
        → ((k : ℕ) → l ≡ Some k → locals k ≡ Some (length (elements (Some v))))
        → ClauseFits call (numbers_of call) (clause a p size_ (next_local c) f l) (Some v) mem locals
    fits f l form local = record {
      array = has.array;
      form = form;
      length_local = local;
      parameter = ap (λ (o : Option Arg). length (array_bytes o)) (sym given) ∙ sym (sized p);
      pointer = has.pointer;
      stands = has.stands;
      few = has.few;
      aligned = has.aligned;
      ends = has.ends;
    }

    pointed : (f : LinearForm) (l : Option ℕ) → Known (length call.entries) f
        → value_at (numbers_of call) f ≡ pos (length (elements (Some v)))
        → ((k : ℕ) → l ≡ Some k → locals k ≡ Some (length (elements (Some v))))
        → Here parts.value (with_pointer p a size_ f l c) (put a v env) (p + 1)
    pointed f l known form local =
        subst (λ (s : Scope). Here s (with_pointer p a size_ f l c) (put a v env) (p + 1)) (sym new.1)
        (pointer_arrived arguments call mem locals (numbers_of call) scope c env p a size_ f l (Many t n) v arrived new.0 known
        (fits f l form local) given)

    by : (m : Len) → n ≡ m → types.declare_length m parts.value ≡ Ok d
        → HasLength m (length (elements (Some v))) (next_local c + 1) locals
        → Here d (with_array p a size_ m c) (value.bind_length m (size (elements (Some v))) (put a v env)) (p + 1)
    by (Fixed k) which rest_is long =
        let same_scope : parts.value ≡ d = cc in
        subst (λ (s : Scope). Here s (with_array p a size_ (Fixed k) c) (put a v env) (p + 1)) same_scope
        (pointed (constant (pos k)) None (λ i u at. absurd (let bad : None ≡ Some u = at in cc)) (omega (arith, ints, long))
        (λ l bad. absurd (let worse : None ≡ Some l = bad in cc)))
    by (Named x) which rest_is long =
        let f = first_of call.entries (length c.scalars) (length (elements (Some v))) rest (next x which) in
        let number : numbers_of call (length c.scalars) ≡ length (elements (Some v)) = f.is 0 in
        let s = symbol (length c.scalars) in
        let pointed_here : Here parts.value (with_pointer p a size_ s (Some (next_local c + 1)) c) (put a v env) (p + 1) =
        pointed s (Some (next_local c + 1)) (known_symbol f.inside) (rw number (omega (arith, ints)))
        (λ l at. let same_local : next_local c + 1 ≡ l = cc in
        subst (λ (m : ℕ). locals m ≡ Some (length (elements (Some v)))) same_local long) in
        let few : length (elements (Some v)) ≤ 4294967295 = has.few in
        let length_local : locals (next_local (with_pointer p a size_ s (Some (next_local c + 1)) c))
        ≡ Some (length (elements (Some v))) =
        ap locals (after_pointer p a size_ s (Some (next_local c + 1)) c) ∙ long in
        subst (λ (m : ℕ). Here d (with_array p a size_ (Named x) c) (put x (arg.Word m) (put a v env)) (p + 1))
        (sym (size_is v few))
        (reserved_arrived arguments call mem locals (numbers_of call) d _ _ (p + 1) (next_local c + 1)
        (scalar_arrived parts.value d (with_pointer p a size_ s (Some (next_local c + 1)) c) (put a v env) (p + 1) x Word
        (length (elements (Some v))) rest pointed_here rest_is (next x which) few length_local))
      where
        known_symbol : length c.scalars < length call.entries → Known (length call.entries) (symbol (length c.scalars))
        known_symbol less zero u at = let same_symbol : (length c.scalars, pos 1) ≡ u = cc in
            subst (λ (w : ℕ × ℤ). w.0 < length call.entries) same_symbol less
        known_symbol less (suc i) u at = absurd (let bad : None ≡ Some u = at in cc)

  -- what is left of the entry symbols' numbers and of the arguments
  pub record Left (c : Context) (p : ℕ) (qs : List Param) (vs : List Arg) : Type 0 where
    pub entries : drop (length c.scalars) call.entries ≡ entry_numbers qs vs
    pub count : length c.scalars + length (entry_numbers qs vs) ≡ length call.entries
    pub args : drop p arguments ≡ vs

  record Step (d : Scope) (c : Context) (env : Env) (p : ℕ) (qs : List Param) (vs : List Arg) : Type 0 where
    pub here : Here d c env p
    pub left : Left c p qs vs

  number_step : (scope d : Scope) (c : Context) (env : Env) (p : ℕ) (x : Name) (t : Scalar) (n : ℕ) (qs : List Param)
      (vs : List Arg) → Here scope c env p → types.declare x (One t) scope ≡ Ok d
      → drop (length c.scalars) call.entries ≡ n ∷ entry_numbers qs vs → length c.scalars + suc (length (entry_numbers qs vs))
      ≡ length call.entries → drop p arguments ≡ arg.Word n ∷ vs
      → n ≤ top_of t → locals (next_local c) ≡ Some n → Step d (with_argument x t c) (put x (arg.Word n) env) (p + 1) qs vs
  number_step scope d c env p x t n qs vs a is next count left_args small local =
      let longer : length (with_argument x t c).scalars ≡ length c.scalars + 1 = length-append c.scalars _ in
      record {
        here = later d (with_argument x t c) (put x (arg.Word n) env) p
            (scalar_arrived scope d c env p x t n (entry_numbers qs vs) a is next small local);
        left = record {
          entries = ap (λ (k : ℕ). drop k call.entries) longer
              ∙ (first_of call.entries (length c.scalars) n (entry_numbers qs vs) next).rest;
          count = omega (arith, longer, count);
          args = (first_of arguments p (arg.Word n) vs left_args).rest;
        };
      }

  array_step : (scope d : Scope) (c : Context) (env : Env) (p : ℕ) (a : Name) (size_ : ℕ) (t : Scalar) (n : Len) (q : Param)
      (v : Arg) (qs : List Param) (vs : List Arg) → Here scope c env p
      → (types.declare a (Many t n) scope >>= types.declare_length n) ≡ Ok d
      → HasArray size_ n v (call.pointers p) (next_local c) mem locals
      → ((k : ℕ) → n ≡ Fixed k → entry_numbers (q ∷ qs) (v ∷ vs) ≡ entry_numbers qs vs)
      → ((x : Name) → n ≡ Named x → entry_numbers (q ∷ qs) (v ∷ vs) ≡ length (elements (Some v)) ∷ entry_numbers qs vs)
      → Left c p (q ∷ qs) (v ∷ vs) → Step d (with_array p a size_ n c)
      (value.bind_length n (size (elements (Some v))) (put a v env)) (p + 1) qs vs
  array_step scope d c env p a size_ t n q v qs vs arrived is has fixed named left = record {
    here = array_arrived scope d c env p a size_ t n v arrived is has first_arg.got (entry_numbers qs vs)
        (λ x which. left.entries ∙ named x which);
    left = by n refl;
  } where
    first_arg : First arguments p v vs
    first_arg = first_of arguments p v vs left.args

    by : (m : Len) → n ≡ m → Left (with_array p a size_ m c) (p + 1) qs vs
    by (Fixed k) which = record {
      entries = left.entries ∙ fixed k which;
      count = (let one = left.count in let two = ap length (fixed k which) in omega (arith, one, two));
      args = first_arg.rest;
    }
    by (Named x) which =
        let longer : length (with_array p a size_ (Named x) c).scalars ≡ length c.scalars + 1 = length-append c.scalars _ in
        record {
          entries = ap (λ (k : ℕ). drop k call.entries) longer
              ∙ (first_of call.entries (length c.scalars) _ (entry_numbers qs vs) (left.entries ∙ named x which)).rest;
          count = (let one = left.count in let two = ap length (named x which) in omega (arith, one, two, longer));
          args = first_arg.rest;
        }

  param_step : (scope d : Scope) (c : Context) (env : Env) (p : ℕ) (q : Param) (v : Arg) (qs : List Param) (vs : List Arg)
      → Here scope c env p → types.declare_param q scope ≡ Ok d
      → HasArgument q v (call.pointers p) (next_local c) mem locals → Left c p (q ∷ qs) (v ∷ vs)
      → Step d (with_param p q c) (value.bind_argument q v env) (p + 1) qs vs
  param_step scope d c env p (param.Word x) (arg.Word n) qs vs a is has left =
      number_step scope d c env p x Word n qs vs a is left.entries left.count left.args has.1 has.0
  param_step scope d c env p (param.Word x) (arg.Bytes ns) qs vs a is has left = absurd has
  param_step scope d c env p (param.Word x) (arg.Words ns) qs vs a is has left = absurd has
  param_step scope d c env p (param.Byte x) (arg.Word n) qs vs a is has left =
      number_step scope d c env p x Byte n qs vs a is left.entries left.count left.args has.1 has.0
  param_step scope d c env p (param.Byte x) (arg.Bytes ns) qs vs a is has left = absurd has
  param_step scope d c env p (param.Byte x) (arg.Words ns) qs vs a is has left = absurd has
  param_step scope d c env p (param.Bytes a (Fixed k)) v qs vs arrived is has left =
      array_step scope d c env p a 1 Byte (Fixed k) (param.Bytes a (Fixed k)) v qs vs arrived is has (λ j e. refl)
      (λ x bad. absurd (let worse : Fixed k ≡ Named x = bad in cc)) left
  param_step scope d c env p (param.Bytes a (Named y)) v qs vs arrived is has left =
      array_step scope d c env p a 1 Byte (Named y) (param.Bytes a (Named y)) v qs vs arrived is has
      (λ j bad. absurd (let worse : Named y ≡ Fixed j = bad in cc)) (λ x e. refl) left
  param_step scope d c env p (param.Words a (Fixed k)) v qs vs arrived is has left =
      array_step scope d c env p a 4 Word (Fixed k) (param.Words a (Fixed k)) v qs vs arrived is has (λ j e. refl)
      (λ x bad. absurd (let worse : Fixed k ≡ Named x = bad in cc)) left
  param_step scope d c env p (param.Words a (Named y)) v qs vs arrived is has left =
      array_step scope d c env p a 4 Word (Named y) (param.Words a (Named y)) v qs vs arrived is has
      (λ j bad. absurd (let worse : Named y ≡ Fixed j = bad in cc)) (λ x e. refl) left

  pub record AllHere (d : Scope) (c : Context) (env : Env) : Type 0 where
    pub params : ℕ
    pub here : Here d c env params
    pub count : length c.scalars ≡ length call.entries

  pub params_arrived : (qs : List Param) (vs : List Arg) (scope d : Scope) (c : Context) (env : Env) (p : ℕ) → Here scope c env p
      → types.declare_params qs scope ≡ Ok d
      → HasArguments p (next_local c) qs vs call.pointers mem locals → Left c p qs vs
      → AllHere d (with_params p qs c) (value.start qs vs env)
  params_arrived [] [] scope d c env p a is has left =
      let same_scope : scope ≡ d = cc in
      record {
        params = p;
        here = subst (λ (s : Scope). Here s c env p) same_scope a;
        count = (let one = left.count in omega (arith, one));
      }
  params_arrived [] (v ∷ vs) scope d c env p a is has left = absurd has
  params_arrived (q ∷ qs) [] scope d c env p a is has left = absurd has
  params_arrived (q ∷ qs) (v ∷ vs) scope d c env p a is has left =
      let parts : Declared q qs scope d = declared_parts q qs scope d is in
      let step : Step parts.between (with_param p q c) (value.bind_argument q v env) (p + 1) qs vs =
      param_step scope parts.between c env p q v qs vs a parts.first has.0 left in
      let more : HasArguments (p + 1) (next_local (with_param p q c)) qs vs call.pointers mem locals =
      subst (λ (l : ℕ). HasArguments (p + 1) l qs vs call.pointers mem locals) (sym (after_param p q c)) has.1 in
      params_arrived qs vs parts.between d (with_param p q c) (value.bind_argument q v env) (p + 1) step.here parts.rest more
      step.left
