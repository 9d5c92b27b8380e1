-- The context at the start says of names what the scope of the parameters does.
use Rattle.std.proofs.Common.{◌≡◌, ◌≢◌, refl, sym, ◌∙◌, ap, subst, arith, ℕ, zero, suc, ◌+◌, ◌≤◌, ◌⊎◌, inl, inr, Bool, true}
use Rattle.std.proofs.Common.{false, List, [], ◌∷◌, ◌++◌, length, map, Option, Some, None, Ok, pos, slice_get, append_assoc}
use Rattle.std.specs.Prelude.{is_some}
use Rattle.std.specs.List.{find}
use Rattle.std.proofs.lemmas.List.{append-nil}
use Rattle.side_certs.specs.LinearForm.{LinearForm, constant, symbol}
use Rattle.model_syntax.specs.declared.expr.Scalar.{Scalar}
use Rattle.model_syntax.specs.declared.expr.Scalar.TheVariants.{Word, Byte}
use Rattle.model_syntax.specs.declared.program.Len.{Len}
use Rattle.model_syntax.specs.declared.program.Len.TheVariants.{Fixed, Named}
use Rattle.model_syntax.specs.declared.program.Param.{Param}
use Rattle.model_syntax.specs.declared.program.Param.TheVariants as param
use Rattle.model_syntax.specs.declared.scope.NameType.{NameType}
use Rattle.model_syntax.specs.declared.scope.NameType.TheVariants.{Scalar as One, Array as Many}
use Rattle.model_syntax.specs.Answer.{◌>>=◌}
use Rattle.model_syntax.specs.Names.{Name, same}
use Rattle.model_syntax.specs.Scope.{Scope, look_up, bind}
use Rattle.model_syntax.specs.Types as types
use Rattle.model_syntax.proofs.laws.Bindings.{same_self}
use Rattle.model_syntax.specs.Entries.{entry_names}
use Rattle.sym_heap.specs.declared.parts.Held.{Held}
use Rattle.sym_heap.specs.declared.parts.Clause.{Clause}
use Rattle.sym_heap.specs.Context.{Context, held, is_scalar}
use Rattle.sym_heap.specs.Scoped.{element_size, IsLength, IsEntryLength, IsArrayOf, StartIsScoped}
use Rattle.sym_heap.specs.Start.{empty, next_local, with_argument, clause, with_pointer, with_array, with_param, with_params}
use Rattle.sym_heap.specs.Start.{registers}
use Rattle.sym_heap.proofs.Arriving.{at_end}
use Rattle.sym_heap.proofs.Declared.{Answered, answered, declared, Declared, declared_parts, few_registers}
use Rattle.sym_heap.proofs.Formed.{look_bound}
use Rattle.sym_heap.proofs.Named.{differs}
use Rattle.sym_heap.proofs.Starting.{after_params}

-- Lists.

some_before : {A : Type 0} (test : A → Bool) (xs ys : List A) → is_some (find test xs) ≡ true
    → is_some (find test (xs ++ ys)) ≡ true
some_before test [] ys is = absurd (let bad : false ≡ true = is in cc)
some_before test (x ∷ xs) ys is = by (test x) refl (λ more. some_before test xs ys more) where
  by : (b : Bool) → test x ≡ b → (is_some (find test xs) ≡ true → is_some (find test (xs ++ ys)) ≡ true)
      → is_some (find test (x ∷ xs ++ ys)) ≡ true
  by true e next = rw e refl
  by false e next = rw e (next (rw e at is))

some_last : {A : Type 0} (test : A → Bool) (xs : List A) (y : A) → test y ≡ true → is_some (find test (xs ++ y ∷ [])) ≡ true
some_last test [] y is = rw is refl
some_last test (x ∷ xs) y is = by (test x) refl (some_last test xs y is) where
  by : (b : Bool) → test x ≡ b → is_some (find test (xs ++ y ∷ [])) ≡ true → is_some (find test (x ∷ xs ++ y ∷ [])) ≡ true
  by true e next = rw e refl
  by false e next = rw e next

slice_front : {A : Type 0} (xs ys : List A) (i : ℕ) (x : A) → slice_get xs i ≡ Some x → slice_get (xs ++ ys) i ≡ Some x
slice_front [] ys i x is = absurd (let bad : None ≡ Some x = is in cc)
slice_front (y ∷ xs) ys zero x is = is
slice_front (y ∷ xs) ys (suc i) x is = slice_front xs ys i x is

slice_last : {A : Type 0} (xs : List A) (y : A) → slice_get (xs ++ y ∷ []) (length xs) ≡ Some y
slice_last [] y = refl
slice_last (x ∷ xs) y = slice_last xs y

map_length : {A B : Type 0} (f : A → B) (xs : List A) → length (map f xs) ≡ length xs
map_length f [] = refl
map_length f (x ∷ xs) = ap suc (map_length f xs)

map_last : {A B : Type 0} (f : A → B) (xs : List A) (y : A) → map f (xs ++ y ∷ []) ≡ map f xs ++ f y ∷ []
map_last f [] y = refl
map_last f (x ∷ xs) y = ap (λ ys. f x ∷ ys) (map_last f xs y)

-- Names.

-- a name of the scope and a new one
apart : (scope : Scope) (x y : Name) (u : NameType) → look_up scope x ≡ None → look_up scope y ≡ Some u → x ≡ y → ⊥
apart scope x y u new known is = let bad : None ≡ Some u = sym new ∙ ap (look_up scope) is ∙ known in absurd (cc)

bound_before : (scope : Scope) (x : Name) (t : NameType) (y : Name) (u : NameType) → look_up scope x ≡ None
    → look_up scope y ≡ Some u → look_up (bind x t scope) y ≡ Some u
bound_before scope x t y u new known = look_bound x t scope y ∙ rw (differs x y (apart scope x y u new known)) known

bound_last : (scope : Scope) (x : Name) (t : NameType) → look_up (bind x t scope) x ≡ Some t
bound_last scope x t = look_bound x t scope x ∙ rw (same_self x) refl

-- The context of the first parameters.

abbrev scalar_names : Context → List Name
scalar_names c = map (λ (h : Held). h.name) c.scalars

record Stage (names : List Name) (scope : Scope) (c : Context) : Type 0 where
  pub scalars : (i : ℕ) (h : Held) → slice_get c.scalars i ≡ Some h → look_up scope h.name ≡ Some (One h.kind)
  pub every_scalar : (x : Name) (t : Scalar) → look_up scope x ≡ Some (One t) → is_some (find (is_scalar x) c.scalars) ≡ true
  pub clauses : (i : ℕ) (k : Clause) → slice_get c.clauses i ≡ Some k → IsArrayOf names scope k
  pub scalars_once : (i j : ℕ) (h k : Held) → slice_get c.scalars i ≡ Some h → slice_get c.scalars j ≡ Some k → i ≢ j
      → same h.name k.name ≡ false
  pub clauses_once : (i j : ℕ) (k l : Clause) → slice_get c.clauses i ≡ Some k → slice_get c.clauses j ≡ Some l → i ≢ j
      → same k.name l.name ≡ false

wider_length : (names more : List Name) (n : Len) (f : LinearForm) (l : Option ℕ) → IsLength names n f l
    → IsLength (names ++ more) n f l
wider_length names more (Fixed k) f l is = is
wider_length names more (Named x) f l is =
    record { place = is.place; name = slice_front names more is.place x is.name; form = is.form; local = is.local }

wider : (names more : List Name) (scope : Scope) (c : Context) → Stage names scope c → Stage (names ++ more) scope c
wider names more scope c s = record {
  scalars = s.scalars;
  every_scalar = s.every_scalar;
  clauses = λ i k at. (let a = s.clauses i k at in
      record {
        element = a.element;
        len = a.len;
        type = a.type;
        size = a.size;
        length_is = wider_length names more a.len k.length k.length_local a.length_is;
      });
  scalars_once = s.scalars_once;
  clauses_once = s.clauses_once;
}

argument_stage : (names : List Name) (scope : Scope) (c : Context) (x : Name) (t : Scalar) → Stage names scope c
    → look_up scope x ≡ None → Stage names (bind x (One t) scope) (with_argument x t c)
argument_stage names scope c x t s new = record {
  scalars = λ i h at. in_scalars h (at_end c.scalars new_one i h at);
  every_scalar = λ y u at. found y u (same x y) refl at;
  clauses = λ i k at. (let a = s.clauses i k at in
      record {
        element = a.element;
        len = a.len;
        type = bound_before scope x (One t) k.name (Many a.element a.len) new a.type;
        size = a.size;
        length_is = a.length_is;
      });
  scalars_once = λ i j h k at_i at_j differ. once i j h k (at_end c.scalars new_one i h at_i) (at_end c.scalars new_one j k at_j)
      differ;
  clauses_once = s.clauses_once;
} where
  new_one : Held
  new_one = held x (next_local c) (symbol (length c.scalars)) t

  in_scalars : {i : ℕ} (h : Held) → (slice_get c.scalars i ≡ Some h) ⊎ ((i ≡ length c.scalars) × (new_one ≡ h))
      → look_up (bind x (One t) scope) h.name ≡ Some (One h.kind)
  in_scalars {i} h (inl before) = bound_before scope x (One t) h.name (One h.kind) new (s.scalars i h before)
  in_scalars h (inr at) = subst (λ (g : Held). look_up (bind x (One t) scope) g.name ≡ Some (One g.kind)) at.1
      (bound_last scope x (One t))

  found : (y : Name) (u : Scalar) (b : Bool) → same x y ≡ b → look_up (bind x (One t) scope) y ≡ Some (One u)
      → is_some (find (is_scalar y) (c.scalars ++ new_one ∷ [])) ≡ true
  found y u true e at = some_last (is_scalar y) c.scalars new_one e
  found y u false e at = some_before (is_scalar y) c.scalars (new_one ∷ [])
      (s.every_scalar y u (sym (look_bound x (One t) scope y ∙ rw e refl) ∙ at))

  other : (i : ℕ) (h : Held) → slice_get c.scalars i ≡ Some h → (same h.name x ≡ false) × (same x h.name ≡ false)
  other i h at =
      let unlike = apart scope x h.name (One h.kind) new (s.scalars i h at) in
      (differs h.name x (λ e. unlike (sym e)), differs x h.name unlike)

  once : (i j : ℕ) (h k : Held) → (slice_get c.scalars i ≡ Some h) ⊎ ((i ≡ length c.scalars) × (new_one ≡ h))
      → (slice_get c.scalars j ≡ Some k) ⊎ ((j ≡ length c.scalars) × (new_one ≡ k)) → i ≢ j → same h.name k.name ≡ false
  once i j h k (inl at_i) (inl at_j) differ = s.scalars_once i j h k at_i at_j differ
  once i j h k (inl at_i) (inr at_j) differ = subst (λ (g : Held). same h.name g.name ≡ false) at_j.1 (other i h at_i).0
  once i j h k (inr at_i) (inl at_j) differ = subst (λ (g : Held). same g.name k.name ≡ false) at_i.1 (other j k at_j).1
  once i j h k (inr at_i) (inr at_j) differ = absurd (differ (at_i.0 ∙ sym at_j.0))

pointer_stage : (names : List Name) (scope : Scope) (c : Context) (p : ℕ) (a : Name) (size : ℕ) (t : Scalar) (n : Len)
    (f : LinearForm) (l : Option ℕ) → Stage names scope c → look_up scope a ≡ None
    → element_size t ≡ Some size → IsLength names n f l → Stage names (bind a (Many t n) scope) (with_pointer p a size f l c)
pointer_stage names scope c p a size t n f l s new size_is length_is = record {
  scalars = λ i h at. bound_before scope a (Many t n) h.name (One h.kind) new (s.scalars i h at);
  every_scalar = λ y u at. scalar y u (same a y) refl at;
  clauses = λ i k at. in_clauses i k (at_end c.clauses new_one i k at);
  scalars_once = s.scalars_once;
  clauses_once = λ i j k o at_i at_j differ. once i j k o (at_end c.clauses new_one i k at_i) (at_end c.clauses new_one j o at_j)
      differ;
} where
  new_one : Clause
  new_one = clause a p size (next_local c) f l

  scalar : (y : Name) (u : Scalar) (b : Bool) → same a y ≡ b → look_up (bind a (Many t n) scope) y ≡ Some (One u)
      → is_some (find (is_scalar y) c.scalars) ≡ true
  scalar y u true e at = absurd (let bad : Some (Many t n) ≡ Some (One u) = sym (look_bound a (Many t n) scope y ∙ rw e refl) ∙ at
      in cc)
  scalar y u false e at = s.every_scalar y u (sym (look_bound a (Many t n) scope y ∙ rw e refl) ∙ at)

  last : IsArrayOf names (bind a (Many t n) scope) new_one
  last = record { element = t; len = n; type = bound_last scope a (Many t n); size = size_is; length_is = length_is }

  in_clauses : (i : ℕ) (k : Clause) → (slice_get c.clauses i ≡ Some k) ⊎ ((i ≡ length c.clauses) × (new_one ≡ k))
      → IsArrayOf names (bind a (Many t n) scope) k
  in_clauses i k (inl before) = let o = s.clauses i k before in
      record {
        element = o.element;
        len = o.len;
        type = bound_before scope a (Many t n) k.name (Many o.element o.len) new o.type;
        size = o.size;
        length_is = o.length_is;
      }
  in_clauses i k (inr at) = subst (λ (g : Clause). IsArrayOf names (bind a (Many t n) scope) g) at.1 last

  other : (i : ℕ) (k : Clause) → slice_get c.clauses i ≡ Some k → (same k.name a ≡ false) × (same a k.name ≡ false)
  other i k at =
      let o = s.clauses i k at in
      let unlike = apart scope a k.name (Many o.element o.len) new o.type in
      (differs k.name a (λ e. unlike (sym e)), differs a k.name unlike)

  once : (i j : ℕ) (k o : Clause) → (slice_get c.clauses i ≡ Some k) ⊎ ((i ≡ length c.clauses) × (new_one ≡ k))
      → (slice_get c.clauses j ≡ Some o) ⊎ ((j ≡ length c.clauses) × (new_one ≡ o)) → i ≢ j → same k.name o.name ≡ false
  once i j k o (inl at_i) (inl at_j) differ = s.clauses_once i j k o at_i at_j differ
  once i j k o (inl at_i) (inr at_j) differ = subst (λ (g : Clause). same k.name g.name ≡ false) at_j.1 (other i k at_i).0
  once i j k o (inr at_i) (inl at_j) differ = subst (λ (g : Clause). same g.name o.name ≡ false) at_i.1 (other j o at_j).1
  once i j k o (inr at_i) (inr at_j) differ = absurd (differ (at_i.0 ∙ sym at_j.0))

-- One parameter after another.

abbrev Here : Scope → Context → Type 0
Here scope c = Stage (scalar_names c) scope c

argument_here : (scope d : Scope) (c : Context) (x : Name) (t : Scalar) → Stage (scalar_names c ++ x ∷ []) scope c
    → types.declare x (One t) scope ≡ Ok d → Here d (with_argument x t c)
argument_here scope d c x t s is =
    let new = declared x (One t) scope d is in
    subst (λ (e : Scope). Here e (with_argument x t c)) (sym new.1)
    (subst (λ (names : List Name). Stage names (bind x (One t) scope) (with_argument x t c))
    (sym (map_last (λ (h : Held). h.name) c.scalars (held x (next_local c) (symbol (length c.scalars)) t)))
    (argument_stage (scalar_names c ++ x ∷ []) scope c x t s new.0))

array_here : (scope d : Scope) (c : Context) (p : ℕ) (a : Name) (size : ℕ) (t : Scalar) (n : Len) → Here scope c
    → (types.declare a (Many t n) scope >>= types.declare_length n) ≡ Ok d → element_size t ≡ Some size
    → Here d (with_array p a size n c)
array_here scope d c p a size t n s is size_is = by n refl parts.two where
  parts : Answered (types.declare a (Many t n) scope) (types.declare_length n) d
  parts = answered _ _ d is

  new : (look_up scope a ≡ None) × (parts.value ≡ bind a (Many t n) scope)
  new = declared a (Many t n) scope parts.value parts.one

  pointed : (names : List Name) (f : LinearForm) (l : Option ℕ) → Stage names scope c → IsLength names n f l
      → Stage names parts.value (with_pointer p a size f l c)
  pointed names f l stage length_is =
      subst (λ (e : Scope). Stage names e (with_pointer p a size f l c)) (sym new.1)
      (pointer_stage names scope c p a size t n f l stage new.0 size_is length_is)

  by : (m : Len) → n ≡ m → types.declare_length m parts.value ≡ Ok d → Here d (with_array p a size m c)
  by (Fixed k) which rest =
      let same_scope : parts.value ≡ d = cc in
      subst (λ (e : Scope). Here e (with_array p a size (Fixed k) c)) same_scope
      (pointed (scalar_names c) (constant (pos k)) None s
      (subst (λ (m : Len). IsLength (scalar_names c) m (constant (pos k)) None) (sym which) (refl, refl)))
  by (Named x) which rest =
      let f = symbol (length c.scalars) in
      let l = Some (next_local c + 1) in
      let names = scalar_names c ++ x ∷ [] in
      let size_of_names : length (scalar_names c) ≡ length c.scalars = map_length (λ (h : Held). h.name) c.scalars in
      let entry : IsEntryLength names x f l = record {
        place = length c.scalars;
        name = subst (λ (i : ℕ). slice_get names i ≡ Some x) size_of_names (slice_last (scalar_names c) x);
        form = refl;
        local = refl;
      } in
      let stage = pointed names f l (wider (scalar_names c) (x ∷ []) scope c s)
      (subst (λ (m : Len). IsLength names m f l) (sym which) entry) in
      let argument = argument_here parts.value d (with_pointer p a size f l c) x Word stage rest in
      record {
        scalars = argument.scalars;
        every_scalar = argument.every_scalar;
        clauses = argument.clauses;
        scalars_once = argument.scalars_once;
        clauses_once = argument.clauses_once;
      }

param_here : (scope d : Scope) (c : Context) (p : ℕ) (q : Param) → Here scope c → types.declare_param q scope ≡ Ok d
    → Here d (with_param p q c)
param_here scope d c p (param.Word x) s is = argument_here scope d c x Word (wider (scalar_names c) (x ∷ []) scope c s) is
param_here scope d c p (param.Byte x) s is = argument_here scope d c x Byte (wider (scalar_names c) (x ∷ []) scope c s) is
param_here scope d c p (param.Bytes a n) s is = array_here scope d c p a 1 Byte n s is refl
param_here scope d c p (param.Words a n) s is = array_here scope d c p a 4 Word n s is refl

params_here : (qs : List Param) (scope d : Scope) (c : Context) (p : ℕ) → Here scope c → types.declare_params qs scope ≡ Ok d
    → Here d (with_params p qs c)
params_here [] scope d c p s is = let one : scope ≡ d = cc in subst (λ (e : Scope). Here e c) one s
params_here (q ∷ qs) scope d c p s is =
    let parts : Declared q qs scope d = declared_parts q qs scope d is in
    params_here qs parts.between d (with_param p q c) (p + 1) (param_here scope parts.between c p q s parts.first) parts.rest

-- the scalars' names are the entry names
last_name : (c : Context) (x : Name) (t : Scalar) → scalar_names (with_argument x t c) ≡ scalar_names c ++ x ∷ []
last_name c x t = map_last (λ (h : Held). h.name) c.scalars (held x (next_local c) (symbol (length c.scalars)) t)

abbrev pointed : ℕ → Name → ℕ → Context → Context
pointed p a size c = with_pointer p a size (symbol (length c.scalars)) (Some (next_local c + 1)) c

one_name : (c e : Context) (x : Name) (qs : List Param) → scalar_names e ≡ scalar_names c ++ x ∷ []
    → scalar_names e ++ entry_names qs ≡ scalar_names c ++ x ∷ entry_names qs
one_name c e x qs is = ap (λ (l : List Name). l ++ entry_names qs) is ∙ append_assoc (scalar_names c) (x ∷ []) (entry_names qs)

names_after : (qs : List Param) (p : ℕ) (c : Context) → scalar_names (with_params p qs c) ≡ scalar_names c ++ entry_names qs
names_after [] p c = sym (append-nil (scalar_names c))
names_after (param.Word x ∷ qs) p c = names_after qs (p + 1) (with_param p (param.Word x) c)
    ∙ one_name c (with_param p (param.Word x) c) x qs (last_name c x Word)
names_after (param.Byte x ∷ qs) p c = names_after qs (p + 1) (with_param p (param.Byte x) c)
    ∙ one_name c (with_param p (param.Byte x) c) x qs (last_name c x Byte)
names_after (param.Bytes a (Fixed n) ∷ qs) p c = names_after qs (p + 1) (with_param p (param.Bytes a (Fixed n)) c)
names_after (param.Words a (Fixed n) ∷ qs) p c = names_after qs (p + 1) (with_param p (param.Words a (Fixed n)) c)
names_after (param.Bytes a (Named x) ∷ qs) p c = names_after qs (p + 1) (with_param p (param.Bytes a (Named x)) c)
    ∙ one_name c (with_param p (param.Bytes a (Named x)) c) x qs (last_name (pointed p a 1 c) x Word)
names_after (param.Words a (Named x) ∷ qs) p c = names_after qs (p + 1) (with_param p (param.Words a (Named x)) c)
    ∙ one_name c (with_param p (param.Words a (Named x)) c) x qs (last_name (pointed p a 4 c) x Word)

nothing_yet : Here [] empty
nothing_yet = record {
  scalars = λ i h bad. absurd (let worse : None ≡ Some h = bad in cc);
  every_scalar = λ x t bad. absurd (let worse : None ≡ Some (One t) = bad in cc);
  clauses = λ i k bad. absurd (let worse : None ≡ Some k = bad in cc);
  scalars_once = λ i j h k bad. absurd (let worse : None ≡ Some h = bad in cc);
  clauses_once = λ i j k l bad. absurd (let worse : None ≡ Some k = bad in cc);
}

pub start_is_scoped : StartIsScoped
start_is_scoped m well scope is =
    let names : scalar_names (with_params 0 m.params empty) ≡ entry_names m.params = names_after m.params 0 empty in
    let s = subst (λ (ns : List Name). Stage ns scope (with_params 0 m.params empty)) names
    (params_here m.params [] scope empty 0 nothing_yet is) in
    let count : length (scalar_names (with_params 0 m.params empty)) ≡ length (with_params 0 m.params empty).scalars =
    map_length (λ (h : Held). h.name) (with_params 0 m.params empty).scalars in
    let same_count = ap length names in
    let few : registers m.params ≤ 8 = few_registers m well in
    let all = after_params 0 m.params empty in
    record {
      scalars = s.scalars;
      every_scalar = s.every_scalar;
      clauses = s.clauses;
      scalars_once = s.scalars_once;
      clauses_once = s.clauses_once;
      entries = sym count ∙ same_count;
      few = omega (arith, few, all);
    }
