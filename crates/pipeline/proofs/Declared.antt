-- What the declarations of parameters say of the names in scope: a scalar has an entry symbol, and an array is that of an
-- array parameter.
use Rattle.std.proofs.Common.{◌≡◌, refl, sym, ◌∙◌, ap, subst, arith, ℕ, suc, ◌+◌, ◌<◌, ◌⊎◌, inl, inr, Bool, true, false, List, []}
use Rattle.std.proofs.Common.{◌∷◌, ◌++◌, length, map, Option, Some, None, Ok, slice_get, if◌then◌else◌}
use Rattle.rup_base.specs.declared.arg.Kind.{Kind}
use Rattle.image_layout.specs.Spelling.{is_array}
use Rattle.model_syntax.specs.declared.expr.Scalar.{Scalar}
use Rattle.model_syntax.specs.declared.expr.Scalar.TheVariants.{Word, Byte}
use Rattle.model_syntax.specs.declared.program.Len.{Len}
use Rattle.model_syntax.specs.declared.program.Len.TheVariants.{Fixed, Named}
use Rattle.model_syntax.specs.declared.program.Param.{Param}
use Rattle.model_syntax.specs.declared.program.Param.TheVariants as param
use Rattle.model_syntax.specs.declared.scope.NameType.{NameType}
use Rattle.model_syntax.specs.declared.scope.NameType.TheVariants.{Scalar as One, Array as Many}
use Rattle.model_syntax.specs.Entries.{entry_names, number_among, param_name}
use Rattle.model_syntax.specs.Names.{Name, same, length_names}
use Rattle.model_syntax.specs.Scope.{Scope, look_up, bind}
use Rattle.model_syntax.specs.Types as types
use Rattle.model_syntax.specs.Types.{kind_of}
use Rattle.model_syntax.proofs.laws.Answered.{first_answered, answer_is}
use Rattle.model_syntax.proofs.laws.Arguments.{declare_is, registers_is}
use Rattle.model_syntax.proofs.laws.Bindings.{same_is, up_here, up_else}

-- One name.

some_is : (t u : NameType) → Some t ≡ Some u → t ≡ u
some_is t u is = cc

back_one : (c : Scope) (x y : Name) (u t : NameType) → look_up (bind x u c) y ≡ Some t
    → ((same x y ≡ true) × (u ≡ t)) ⊎ (look_up c y ≡ Some t)
back_one c x y u t at = by (same x y) refl where
  by : (b : Bool) → same x y ≡ b → ((same x y ≡ true) × (u ≡ t)) ⊎ (look_up c y ≡ Some t)
  by true e = inl (e, some_is u t (sym (up_here c x y u e) ∙ at))
  by false e = inr (sym (up_else c x y u e) ∙ at)

kept_one : (c : Scope) (x y : Name) (u t : NameType) → look_up c x ≡ None → look_up c y ≡ Some t → look_up (bind x u c) y ≡ Some t
kept_one c x y u t fresh at = by (same x y) refl where
  by : (b : Bool) → same x y ≡ b → look_up (bind x u c) y ≡ Some t
  by true e = absurd (let bad : None ≡ Some t = sym fresh ∙ ap (look_up c) (same_is x y e) ∙ at in cc)
  by false e = up_else c x y u e ∙ at

-- One parameter: its own name, and then that of its length where it has one.

abbrev type_of : Param → NameType
type_of (param.Word x) = One Word
type_of (param.Byte x) = One Byte
type_of (param.Bytes a n) = Many Byte n
type_of (param.Words a n) = Many Word n

abbrev lengths : Param → List Name
lengths (param.Word x) = []
lengths (param.Byte x) = []
lengths (param.Bytes a n) = length_names n
lengths (param.Words a n) = length_names n

abbrev Lengthened : List Name → Scope → Scope → Type 0
Lengthened [] c d = c ≡ d
Lengthened (x ∷ xs) c d = (xs ≡ []) × (look_up c x ≡ None) × (bind x (One Word) c ≡ d)

record Declares (q : Param) (c d : Scope) : Type 0 where
  middle : Scope
  fresh : look_up c (param_name q) ≡ None
  own : bind (param_name q) (type_of q) c ≡ middle
  rest : Lengthened (lengths q) middle d

lengthened : (n : Len) (c d : Scope) → types.declare_length n c ≡ Ok d → Lengthened (length_names n) c d
lengthened (Fixed k) c d is = answer_is c d is
lengthened (Named x) c d is = let p = declare_is x (One Word) c d is in (refl, p.0, p.1)

declares : (q : Param) (c d : Scope) → types.declare_param q c ≡ Ok d → Declares q c d
declares (param.Word x) c d is = let p = declare_is x (One Word) c d is in
    record { middle = d; fresh = p.0; own = p.1; rest = refl }
declares (param.Byte x) c d is = let p = declare_is x (One Byte) c d is in
    record { middle = d; fresh = p.0; own = p.1; rest = refl }
declares (param.Bytes a n) c d is =
    let first = first_answered (types.declare a (Many Byte n) c) (types.declare_length n) d is in
    let p = declare_is a (Many Byte n) c first.0 first.1.0 in
    record { middle = first.0; fresh = p.0; own = p.1; rest = lengthened n first.0 d first.1.1 }
declares (param.Words a n) c d is =
    let first = first_answered (types.declare a (Many Word n) c) (types.declare_length n) d is in
    let p = declare_is a (Many Word n) c first.0 first.1.0 in
    record { middle = first.0; fresh = p.0; own = p.1; rest = lengthened n first.0 d first.1.1 }

kept_length : (xs : List Name) (c d : Scope) (y : Name) (t : NameType) → Lengthened xs c d → look_up c y ≡ Some t
    → look_up d y ≡ Some t
kept_length [] c d y t is at = ap (λ (s : Scope). look_up s y) (sym is) ∙ at
kept_length (x ∷ xs) c d y t is at = ap (λ (s : Scope). look_up s y) (sym is.2) ∙ kept_one c x y (One Word) t is.1 at

kept_param : (q : Param) (c d : Scope) (y : Name) (t : NameType) → Declares q c d → look_up c y ≡ Some t → look_up d y ≡ Some t
kept_param q c d y t is at =
    kept_length (lengths q) is.middle d y t is.rest
    (ap (λ (s : Scope). look_up s y) (sym is.own) ∙ kept_one c (param_name q) y (type_of q) t is.fresh at)

-- the name of a length, which is a word
record IsLengthName (xs : List Name) (y : Name) (t : NameType) : Type 0 where
  name : Name
  alone : xs ≡ name ∷ []
  is : same name y ≡ true
  word : t ≡ One Word

back_length : (xs : List Name) (c d : Scope) (y : Name) (t : NameType) → Lengthened xs c d → look_up d y ≡ Some t
    → IsLengthName xs y t ⊎ (look_up c y ≡ Some t)
back_length [] c d y t is at = inr (ap (λ (s : Scope). look_up s y) is ∙ at)
back_length (x ∷ xs) c d y t is at = by (back_one c x y (One Word) t (ap (λ (s : Scope). look_up s y) is.2 ∙ at)) where
  by : ((same x y ≡ true) × (One Word ≡ t)) ⊎ (look_up c y ≡ Some t) → IsLengthName (x ∷ xs) y t ⊎ (look_up c y ≡ Some t)
  by (inl new) = inl (record { name = x; alone = ap (λ (zs : List Name). x ∷ zs) is.0; is = new.0; word = sym new.1 })
  by (inr old) = inr old

-- a name after a parameter is its own, that of its length, or was there
data Back (q : Param) (c : Scope) (y : Name) (t : NameType) : Type 0 where
  own : same (param_name q) y ≡ true → type_of q ≡ t → Back q c y t
  of_length : IsLengthName (lengths q) y t → Back q c y t
  old : look_up c y ≡ Some t → Back q c y t

back_param : (q : Param) (c d : Scope) (y : Name) (t : NameType) → Declares q c d → look_up d y ≡ Some t → Back q c y t
back_param q c d y t is at = by (back_length (lengths q) is.middle d y t is.rest at) where
  by_own : ((same (param_name q) y ≡ true) × (type_of q ≡ t)) ⊎ (look_up c y ≡ Some t) → Back q c y t
  by_own (inl new) = own new.0 new.1
  by_own (inr before) = old before

  by : IsLengthName (lengths q) y t ⊎ (look_up is.middle y ≡ Some t) → Back q c y t
  by (inl name) = of_length name
  by (inr before) = by_own (back_one c (param_name q) y (type_of q) t (ap (λ (s : Scope). look_up s y) is.own ∙ before))

-- All parameters.

record Step (q : Param) (qs : List Param) (c d : Scope) : Type 0 where
  between : Scope
  one : Declares q c between
  rest : types.declare_params qs between ≡ Ok d

step : (q : Param) (qs : List Param) (c d : Scope) → types.declare_params (q ∷ qs) c ≡ Ok d → Step q qs c d
step q qs c d is =
    let first = first_answered (types.declare_param q c) _ d is in
    let room = first_answered (types.registers first.0) _ d first.1.1 in
    let same_scope : first.0 ≡ room.0 = registers_is first.0 room.0 room.1.0 in
    record { between = room.0; one = declares q c room.0 (first.1.0 ∙ ap Ok same_scope); rest = room.1.1 }

kept_params : (qs : List Param) (c d : Scope) (y : Name) (t : NameType) → types.declare_params qs c ≡ Ok d → look_up c y ≡ Some t
    → look_up d y ≡ Some t
kept_params [] c d y t is at = ap (λ (s : Scope). look_up s y) (sym (answer_is c d is)) ∙ at
kept_params (q ∷ qs) c d y t is at =
    let s = step q qs c d is in
    kept_params qs s.between d y t s.rest (kept_param q c s.between y t s.one at)

-- Arrays.

pub record IsArrayParam (ps : List Param) (p : Name) : Type 0 where
  pub kind : Kind
  pub at : slice_get (map kind_of ps) (number_among p (map param_name ps)) ≡ Some kind
  pub array : is_array kind ≡ true
  pub inside : number_among p (map param_name ps) < length (map param_name ps)

is_many : (q : Param) (t : Scalar) (n : Len) → type_of q ≡ Many t n → is_array (kind_of q) ≡ true
is_many (param.Word x) t n is = absurd (let bad : One Word ≡ Many t n = is in cc)
is_many (param.Byte x) t n is = absurd (let bad : One Byte ≡ Many t n = is in cc)
is_many (param.Bytes a (Fixed k)) t n is = refl
is_many (param.Bytes a (Named x)) t n is = refl
is_many (param.Words a (Fixed k)) t n is = refl
is_many (param.Words a (Named x)) t n is = refl

here : (q : Param) (qs : List Param) (p : Name) (t : Scalar) (n : Len) → same (param_name q) p ≡ true → type_of q ≡ Many t n
    → IsArrayParam (q ∷ qs) p
here q qs p t n e is = record { kind = kind_of q; at = rw e refl; array = is_many q t n is; inside = rw e (omega arith) }

there : (q : Param) (qs : List Param) (p : Name) → same (param_name q) p ≡ false → IsArrayParam qs p → IsArrayParam (q ∷ qs) p
there q qs p e found =
    let place : 1 + number_among p (map param_name qs) ≡ suc (number_among p (map param_name qs)) = omega arith in
    record { kind = found.kind; at = rw (e, place) found.at; array = found.array; inside = rw e (omega (arith, found.inside)) }

array_among : (ps : List Param) (c d : Scope) (p : Name) (t : Scalar) (n : Len) → types.declare_params ps c ≡ Ok d
    → look_up d p ≡ Some (Many t n)
    → (look_up c p ≡ Some (Many t n)) ⊎ IsArrayParam ps p
array_among [] c d p t n is at = inl (ap (λ (s : Scope). look_up s p) (answer_is c d is) ∙ at)
array_among (q ∷ qs) c d p t n is at = by (same (param_name q) p) refl (array_among qs s.between d p t n s.rest at) where
  s : Step q qs c d
  s = step q qs c d is

  -- a parameter's own name keeps its type
  own_type : same (param_name q) p ≡ true → type_of q ≡ Many t n
  own_type e =
      let new : look_up s.one.middle p ≡ Some (type_of q) = ap (λ (z : Scope). look_up z p) (sym s.one.own)
      ∙ up_here c (param_name q) p (type_of q) e in
      let kept : look_up s.between p
      ≡ Some (type_of q) = kept_length (lengths q) s.one.middle s.between p (type_of q) s.one.rest new in
      some_is (type_of q) (Many t n) (sym (kept_params qs s.between d p (type_of q) s.rest kept) ∙ at)

  back : same (param_name q) p ≡ false → Back q c p (Many t n) → (look_up c p ≡ Some (Many t n)) ⊎ IsArrayParam (q ∷ qs) p
  back e (own is_own type) = absurd (let bad : true ≡ false = sym is_own ∙ e in cc)
  back e (of_length name) = absurd (let bad : Many t n ≡ One Word = name.word in cc)
  back e (old before) = inl before

  further : same (param_name q) p ≡ false → (look_up s.between p ≡ Some (Many t n)) ⊎ IsArrayParam qs p
      → (look_up c p ≡ Some (Many t n)) ⊎ IsArrayParam (q ∷ qs) p
  further e (inl before) = back e (back_param q c s.between p (Many t n) s.one before)
  further e (inr found) = inr (there q qs p e found)

  by : (b : Bool) → same (param_name q) p ≡ b → (look_up s.between p ≡ Some (Many t n)) ⊎ IsArrayParam qs p
      → (look_up c p ≡ Some (Many t n)) ⊎ IsArrayParam (q ∷ qs) p
  by true e among = inr (here q qs p t n e (own_type e))
  by false e among = further e among

pub array_param : (ps : List Param) (d : Scope) (p : Name) (t : Scalar) (n : Len) → types.declare_params ps [] ≡ Ok d
    → look_up d p ≡ Some (Many t n) → IsArrayParam ps p
array_param ps d p t n is at = by (array_among ps [] d p t n is at) where
  by : (look_up [] p ≡ Some (Many t n)) ⊎ IsArrayParam ps p → IsArrayParam ps p
  by (inl bad) = absurd (let none : None ≡ Some (Many t n) = bad in cc)
  by (inr found) = found

-- Scalars.

-- the name is among the names
abbrev pub Inside : Name → List Name → Type 0
Inside x names = number_among x names < length names

inside_behind : (x : Name) (ys names : List Name) → Inside x names → Inside x (ys ++ names)
inside_behind x [] names inside = inside
inside_behind x (y ∷ ys) names inside = by (same y x) (inside_behind x ys names inside) where
  by : (b : Bool) → Inside x (ys ++ names) → (if b then 0 else 1 + number_among x (ys ++ names)) < length (y ∷ (ys ++ names))
  by true more = omega arith
  by false more = omega (arith, more)

inside_first : (x y : Name) (names : List Name) → same y x ≡ true → Inside x (y ∷ names)
inside_first x y names e = rw e (omega arith)

abbrev own_entries : Param → List Name
own_entries (param.Word x) = x ∷ []
own_entries (param.Byte x) = x ∷ []
own_entries (param.Bytes a n) = length_names n
own_entries (param.Words a n) = length_names n

pub entries_step : (q : Param) (qs : List Param) → entry_names (q ∷ qs) ≡ own_entries q ++ entry_names qs
entries_step (param.Word x) qs = refl
entries_step (param.Byte x) qs = refl
entries_step (param.Bytes a (Fixed n)) qs = refl
entries_step (param.Bytes a (Named x)) qs = refl
entries_step (param.Words a (Fixed n)) qs = refl
entries_step (param.Words a (Named x)) qs = refl

own_inside : (q : Param) (y : Name) (t : Scalar) (names : List Name) → same (param_name q) y ≡ true → type_of q ≡ One t
    → Inside y (own_entries q ++ names)
own_inside (param.Word x) y t names e is = inside_first y x names e
own_inside (param.Byte x) y t names e is = inside_first y x names e
own_inside (param.Bytes a n) y t names e is = absurd (let bad : Many Byte n ≡ One t = is in cc)
own_inside (param.Words a n) y t names e is = absurd (let bad : Many Word n ≡ One t = is in cc)

length_inside : (q : Param) (y : Name) (t : NameType) (names : List Name) → IsLengthName (lengths q) y t
    → Inside y (own_entries q ++ names)
length_inside (param.Word x) y t names is = absurd (let bad : [] ≡ is.name ∷ [] = is.alone in cc)
length_inside (param.Byte x) y t names is = absurd (let bad : [] ≡ is.name ∷ [] = is.alone in cc)
length_inside (param.Bytes a n) y t names is = rw (is.alone) (inside_first y is.name names is.is)
length_inside (param.Words a n) y t names is = rw (is.alone) (inside_first y is.name names is.is)

scalar_among : (ps : List Param) (c d : Scope) (y : Name) (t : Scalar) → types.declare_params ps c ≡ Ok d
    → look_up d y ≡ Some (One t)
    → (look_up c y ≡ Some (One t)) ⊎ Inside y (entry_names ps)
scalar_among [] c d y t is at = inl (ap (λ (s : Scope). look_up s y) (answer_is c d is) ∙ at)
scalar_among (q ∷ qs) c d y t is at = by (scalar_among qs s.between d y t s.rest at) where
  s : Step q qs c d
  s = step q qs c d is

  entries : Inside y (own_entries q ++ entry_names qs) → Inside y (entry_names (q ∷ qs))
  entries inside = subst (λ (names : List Name). Inside y names) (sym (entries_step q qs)) inside

  back : Back q c y (One t) → (look_up c y ≡ Some (One t)) ⊎ Inside y (entry_names (q ∷ qs))
  back (own e type) = inr (entries (own_inside q y t (entry_names qs) e type))
  back (of_length name) = inr (entries (length_inside q y (One t) (entry_names qs) name))
  back (old before) = inl before

  by : (look_up s.between y ≡ Some (One t)) ⊎ Inside y (entry_names qs)
      → (look_up c y ≡ Some (One t)) ⊎ Inside y (entry_names (q ∷ qs))
  by (inl before) = back (back_param q c s.between y (One t) s.one before)
  by (inr inside) = inr (entries (inside_behind y (own_entries q) (entry_names qs) inside))

pub scalar_inside : (ps : List Param) (d : Scope) (y : Name) (t : Scalar) → types.declare_params ps [] ≡ Ok d
    → look_up d y ≡ Some (One t) → Inside y (entry_names ps)
scalar_inside ps d y t is at = by (scalar_among ps [] d y t is at) where
  by : (look_up [] y ≡ Some (One t)) ⊎ Inside y (entry_names ps) → Inside y (entry_names ps)
  by (inl bad) = absurd (let none : None ≡ Some (One t) = bad in cc)
  by (inr inside) = inside
