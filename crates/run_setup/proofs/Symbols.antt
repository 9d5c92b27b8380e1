-- At the start of a call the entry symbols have the values of the names that they stand for.
use Rattle.std.proofs.Common.{◌≡◌, refl, sym, ◌∙◌, ap, arith, ℕ, ◌+◌, ◌<◌, ◌≤◌, nat_le, Bool, true, false, List, [], ◌∷◌, ◌++◌}
use Rattle.std.proofs.Common.{length, map, get_or, Option, Some, None, Result, Ok, Err, if◌then◌else◌, append_assoc}
use Rattle.std.proofs.Common.{length-append}
use Rattle.std.proofs.lemmas.List.{append-nil, get_or_append_left}
use Rattle.std.proofs.Math.Seq.{get_or-append_seam}
use Rattle.rup_base.specs.declared.arg.Arg.{Arg}
use Rattle.rup_base.specs.declared.arg.Arg.TheVariants as arg
use Rattle.rup_base.specs.declared.refusal.TypeWhy.{TypeWhy}
use Rattle.rup_base.specs.declared.refusal.TypeWhy.TheVariants as why
use Rattle.model_syntax.specs.Environment.{Env, value_of, put, size}
use Rattle.model_syntax.specs.Names.{Name, same}
use Rattle.model_syntax.specs.Scope.{Scope, look_up, bind}
use Rattle.model_syntax.specs.Types as types
use Rattle.model_syntax.specs.Types.{kind_of}
use Rattle.model_syntax.specs.Value as model
use Rattle.model_syntax.specs.declared.expr.Scalar.{Scalar}
use Rattle.model_syntax.specs.declared.expr.Scalar.TheVariants.{Word, Byte}
use Rattle.model_syntax.specs.declared.scope.NameType.{NameType}
use Rattle.model_syntax.specs.declared.scope.NameType.TheVariants.{Scalar as One, Array as Many}
use Rattle.model_syntax.specs.declared.program.Len.{Len}
use Rattle.model_syntax.specs.declared.program.Len.TheVariants.{Fixed, Named}
use Rattle.model_syntax.specs.declared.program.Param.{Param}
use Rattle.model_syntax.specs.declared.program.Param.TheVariants as param
use Rattle.model_syntax.proofs.laws.Answered.{first_answered, answer_is}
use Rattle.model_syntax.proofs.laws.Bindings.{same_is, value_here, value_else, up_else, up_here}
use Rattle.run_setup.specs.Arguments.{array_limit}
use Rattle.run_setup.specs.Judging.{size_of, total_size, symbols_of, symbol_values}
use Rattle.model_syntax.specs.Entries.{entry_names, number_among}

-- the number of a name among more names
pub among_before : (x y : Name) (names : List Name) → number_among x names < length names
    → number_among x (names ++ y ∷ []) ≡ number_among x names
among_before x y [] here = absurd (omega (arith, here))
among_before x y (n ∷ names) here = by (same n x) refl here (among_before x y names)
  where
    by : (is : Bool) → same n x ≡ is → number_among x (n ∷ names) < length (n ∷ names)
        → (number_among x names < length names → number_among x (names ++ y ∷ []) ≡ number_among x names)
        → number_among x (n ∷ (names ++ y ∷ [])) ≡ number_among x (n ∷ names)
    by true is in_all more = rw is refl
    by false is in_all more =
        let below : 1 + number_among x names < length (n ∷ names) = rw is at in_all in
        rw is (ap (λ k. 1 + k) (more (omega (arith, below))))

pub among_last : (x y : Name) (names : List Name) → number_among x names ≡ length names → same y x ≡ true
    → number_among x (names ++ y ∷ []) ≡ length names
among_last x y [] none at = rw at refl
among_last x y (n ∷ names) none at = by (same n x) refl none (λ fewer. among_last x y names fewer at)
  where
    by : (is : Bool) → same n x ≡ is → number_among x (n ∷ names) ≡ length (n ∷ names)
        → (number_among x names ≡ length names → number_among x (names ++ y ∷ []) ≡ length names)
        → number_among x (n ∷ (names ++ y ∷ [])) ≡ length (n ∷ names)
    by true is in_all more = absurd (let bad : 0 ≡ length (n ∷ names) = rw is at in_all in omega (arith, bad))
    by false is in_all more =
        let fewer : 1 + number_among x names ≡ length (n ∷ names) = rw is at in_all in
        let rest = more (omega (arith, fewer)) in
        rw is (omega (arith, rest))

pub among_none : (x y : Name) (names : List Name) → number_among x names ≡ length names → same y x ≡ false
    → number_among x (names ++ y ∷ []) ≡ length (names ++ y ∷ [])
among_none x y [] none at = rw at refl
among_none x y (n ∷ names) none at = by (same n x) refl none (λ fewer. among_none x y names fewer at)
  where
    by : (is : Bool) → same n x ≡ is → number_among x (n ∷ names) ≡ length (n ∷ names)
        → (number_among x names ≡ length names → number_among x (names ++ y ∷ []) ≡ length (names ++ y ∷ []))
        → number_among x (n ∷ (names ++ y ∷ [])) ≡ length (n ∷ (names ++ y ∷ []))
    by true is in_all more = absurd (let bad : 0 ≡ length (n ∷ names) = rw is at in_all in omega (arith, bad))
    by false is in_all more =
        let fewer : 1 + number_among x names ≡ length (n ∷ names) = rw is at in_all in
        let rest = more (omega (arith, fewer)) in
        rw is (omega (arith, rest))

-- a scalar in scope has a symbol, whose value is its own
pub record HasSymbol (env : Env) (names : List Name) (values : List ℕ) (x : Name) : Type 0 where
  pub number : ℕ
  pub held : value_of env x ≡ Some (arg.Word number)
  pub listed : number_among x names < length names
  pub value : get_or values (number_among x names) 0 ≡ number

-- the names in scope that are scalars have symbols, and names that are not in scope have none
pub record Stand (c : Scope) (env : Env) (names : List Name) (values : List ℕ) : Type 0 where
  pub sizes : length values ≡ length names
  pub scalars : (x : Name) (t : Scalar) → look_up c x ≡ Some (One t) → HasSymbol env names values x
  pub others : (x : Name) → look_up c x ≡ None → number_among x names ≡ length names

pub none_before : (c : Scope) (x y : Name) (t : NameType) → look_up (bind x t c) y ≡ None
    → (same x y ≡ false) × (look_up c y ≡ None)
none_before c x y t none = by (same x y) refl
  where
    by : (is : Bool) → same x y ≡ is → (same x y ≡ false) × (look_up c y ≡ None)
    by true is = absurd (let bad : Some t ≡ None = sym (up_here c x y t is) ∙ none in cc)
    by false is = (is, sym (up_else c x y t is) ∙ none)

one_is : (s t : Scalar) → Some (One s) ≡ Some (One t) → s ≡ t
one_is s t is = cc

scalar_stands : (c : Scope) (env : Env) (names : List Name) (values : List ℕ) (x : Name) (t : Scalar) (n : ℕ) → look_up c x ≡ None
    → Stand c env names values → Stand (bind x (One t) c) (put x (arg.Word n) env) (names ++ x ∷ []) (values ++ n ∷ [])
scalar_stands c env names values x t n new s =
    record {
      sizes = omega (arith, length-append values (n ∷ []), length-append names (x ∷ []), s.sizes);
      scalars = λ y u found. by y u found (same x y) refl;
      others = λ y none. let p = none_before c x y (One t) none in among_none y x names (s.others y p.1) p.0;
    }
  where
    by : (y : Name) (u : Scalar) → look_up (bind x (One t) c) y ≡ Some (One u) → (is : Bool) → same x y ≡ is
        → HasSymbol (put x (arg.Word n) env) (names ++ x ∷ []) (values ++ n ∷ []) y
    by y u found true is =
        let name : x ≡ y = same_is x y is in
        let absent : look_up c y ≡ None = ap (look_up c) (sym name) ∙ new in
        let place : number_among y (names ++ x ∷ []) ≡ length names = among_last y x names (s.others y absent) is in
        let last : number_among y (names ++ x ∷ []) ≡ length values = place ∙ sym s.sizes in
        record {
          number = n;
          held = ap (value_of (put x (arg.Word n) env)) (sym name) ∙ value_here x (arg.Word n) env;
          listed = omega (arith, place, length-append names (x ∷ []));
          value = ap (λ k. get_or (values ++ n ∷ []) k 0) last ∙ get_or-append_seam values n [] 0;
        }
    by y u found false is =
        let old = s.scalars y u (sym (up_else c x y (One t) is) ∙ found) in
        let place : number_among y (names ++ x ∷ []) ≡ number_among y names = among_before y x names old.listed in
        record {
          number = old.number;
          held = value_else x y (arg.Word n) env is ∙ old.held;
          listed = omega (arith, place, old.listed, length-append names (x ∷ []));
          value = ap (λ k. get_or (values ++ n ∷ []) k 0) place
              ∙ get_or_append_left values (n ∷ []) 0 (number_among y names) (omega (arith, old.listed, s.sizes)) ∙ old.value;
        }

array_stands : (c : Scope) (env : Env) (names : List Name) (values : List ℕ) (a : Name) (t : Scalar) (k : Len) (v : Arg)
    → look_up c a ≡ None
    → Stand c env names values → Stand (bind a (Many t k) c) (put a v env) names values
array_stands c env names values a t k v new s =
    record {
      sizes = s.sizes;
      scalars = λ y u found. by y u found (same a y) refl;
      others = λ y none. s.others y (none_before c a y (Many t k) none).1;
    }
  where
    by : (y : Name) (u : Scalar) → look_up (bind a (Many t k) c) y ≡ Some (One u) → (is : Bool) → same a y ≡ is
        → HasSymbol (put a v env) names values y
    by y u found true is = absurd (let bad : Some (Many t k) ≡ Some (One u) = sym (up_here c a y (Many t k) is) ∙ found in cc)
    by y u found false is =
        let old = s.scalars y u (sym (up_else c a y (Many t k) is) ∙ found) in
        record { number = old.number; held = value_else a y v env is ∙ old.held; listed = old.listed; value = old.value }

-- Declarations.

abbrev declared : Option NameType → Name → NameType → Scope → Result Scope TypeWhy
declared found x t c = elim found [ None ↦ Ok (bind x t c) | Some u ↦ Err why.Repeated ]

declared_is : (found : Option NameType) (x : Name) (t : NameType) (c end : Scope) → declared found x t c ≡ Ok end
    → (found ≡ None) × (bind x t c ≡ end)
declared_is None x t c end is = (refl, answer_is (bind x t c) end is)
declared_is (Some u) x t c end is = absurd (let bad : Err why.Repeated ≡ Ok end = is in cc)

pub declare_is : (x : Name) (t : NameType) (c end : Scope) → types.declare x t c ≡ Ok end
    → (look_up c x ≡ None) × (bind x t c ≡ end)
declare_is x t c end is = declared_is (look_up c x) x t c end is

pub registers_is : (c end : Scope) → types.registers c ≡ Ok end → c ≡ end
registers_is c end is = by (nat_le (length c) 8) refl is where
  by : (b : Bool) → nat_le (length c) 8 ≡ b → types.registers c ≡ Ok end → c ≡ end
  by true few is = answer_is c end (let here : (if true then Ok c else Err why.Registers) ≡ Ok end = rw few at is in here)
  by false few is = absurd (let bad : (if false then Ok c else Err why.Registers) ≡ Ok end = rw few at is in
      let worse : Err why.Registers ≡ Ok end = bad in cc)

-- what a length's name adds
length_stands : (k : Len) (ns : List ℕ) (c end : Scope) (env : Env) (names : List Name) (values more : List ℕ) (new : List Name)
    → types.declare_length k c ≡ Ok end → length ns ≤ array_limit → Stand c env names values
    → new ≡ elim k [ Fixed n ↦ [] | Named x ↦ x ∷ [] ] → more ≡ elim k [ Fixed n ↦ [] | Named x ↦ length ns ∷ [] ]
    → Stand end (model.bind_length k (size ns) env) (names ++ new) (values ++ more)
length_stands (Fixed n) ns c end env names values more new is small s new_is more_is =
    let same_scope : c ≡ end = answer_is c end is in
    rw (new_is, more_is, append-nil names, append-nil values, ← same_scope) s
length_stands (Named x) ns c end env names values more new is small s new_is more_is =
    let parts = declare_is x (One Word) c end is in
    let word : size ns ≡ length ns = omega (arith, small) in
    rw (new_is, more_is, word, ← parts.1) (scalar_stands c env names values x Word (length ns) parts.0 s)

-- a parameter adds its names and its argument's values
param_stands : (p : Param) (a : Arg) (c end : Scope) (env : Env) (names : List Name) (values : List ℕ)
    → types.declare_param p c ≡ Ok end → model.fits p a ≡ true → size_of a ≤ array_limit → Stand c env names values
    → Stand end (model.bind_argument p a env) (names ++ entry_names (p ∷ [])) (values ++ symbols_of (kind_of p) a)
param_stands (param.Word x) (arg.Word n) c end env names values is fits small s =
    let parts = declare_is x (One Word) c end is in
    rw (← parts.1) (scalar_stands c env names values x Word n parts.0 s)
param_stands (param.Byte x) (arg.Word n) c end env names values is fits small s =
    let parts = declare_is x (One Byte) c end is in
    rw (← parts.1) (scalar_stands c env names values x Byte n parts.0 s)
param_stands (param.Bytes a k) (arg.Bytes ns) c end env names values is fits small s =
    let first = first_answered (types.declare a (Many Byte k) c) _ end is in
    let parts = declare_is a (Many Byte k) c first.0 first.1.0 in
    let middle : Stand first.0 (put a (arg.Bytes ns) env) names values =
    rw (← parts.1) (array_stands c env names values a Byte k (arg.Bytes ns) parts.0 s) in
    length_stands k ns first.0 end (put a (arg.Bytes ns) env) names values (symbols_of (kind_of (param.Bytes a k)) (arg.Bytes ns))
    (entry_names (param.Bytes a k ∷ [])) first.1.1 small middle (names_are k) (values_are k)
  where
    names_are : (k : Len) → entry_names (param.Bytes a k ∷ []) ≡ elim k [ Fixed n ↦ [] | Named x ↦ x ∷ [] ]
    names_are (Fixed n) = refl
    names_are (Named x) = refl

    values_are : (k : Len) → symbols_of (kind_of (param.Bytes a k)) (arg.Bytes ns)
        ≡ elim k [ Fixed n ↦ [] | Named x ↦ length ns ∷ [] ]
    values_are (Fixed n) = refl
    values_are (Named x) = refl
param_stands (param.Words a k) (arg.Words ns) c end env names values is fits small s =
    let first = first_answered (types.declare a (Many Word k) c) _ end is in
    let parts = declare_is a (Many Word k) c first.0 first.1.0 in
    let middle : Stand first.0 (put a (arg.Words ns) env) names values =
    rw (← parts.1) (array_stands c env names values a Word k (arg.Words ns) parts.0 s) in
    let few : length ns ≤ array_limit = omega (arith, small) in
    length_stands k ns first.0 end (put a (arg.Words ns) env) names values (symbols_of (kind_of (param.Words a k)) (arg.Words ns))
    (entry_names (param.Words a k ∷ [])) first.1.1 few middle (names_are k) (values_are k)
  where
    names_are : (k : Len) → entry_names (param.Words a k ∷ []) ≡ elim k [ Fixed n ↦ [] | Named x ↦ x ∷ [] ]
    names_are (Fixed n) = refl
    names_are (Named x) = refl

    values_are : (k : Len) → symbols_of (kind_of (param.Words a k)) (arg.Words ns)
        ≡ elim k [ Fixed n ↦ [] | Named x ↦ length ns ∷ [] ]
    values_are (Fixed n) = refl
    values_are (Named x) = refl
param_stands (param.Word x) (arg.Bytes ns) c end env names values is fits small s = absurd (let bad : false ≡ true = fits in cc)
param_stands (param.Word x) (arg.Words ns) c end env names values is fits small s = absurd (let bad : false ≡ true = fits in cc)
param_stands (param.Byte x) (arg.Bytes ns) c end env names values is fits small s = absurd (let bad : false ≡ true = fits in cc)
param_stands (param.Byte x) (arg.Words ns) c end env names values is fits small s = absurd (let bad : false ≡ true = fits in cc)
param_stands (param.Bytes a (Fixed m)) (arg.Word n) c end env names values is fits small s =
    absurd (let bad : false ≡ true = fits in cc)
param_stands (param.Bytes a (Named x)) (arg.Word n) c end env names values is fits small s =
    absurd (let bad : false ≡ true = fits in cc)
param_stands (param.Bytes a (Fixed m)) (arg.Words ns) c end env names values is fits small s =
    absurd (let bad : false ≡ true = fits in cc)
param_stands (param.Bytes a (Named x)) (arg.Words ns) c end env names values is fits small s =
    absurd (let bad : false ≡ true = fits in cc)
param_stands (param.Words a (Fixed m)) (arg.Word n) c end env names values is fits small s =
    absurd (let bad : false ≡ true = fits in cc)
param_stands (param.Words a (Named x)) (arg.Word n) c end env names values is fits small s =
    absurd (let bad : false ≡ true = fits in cc)
param_stands (param.Words a (Fixed m)) (arg.Bytes ns) c end env names values is fits small s =
    absurd (let bad : false ≡ true = fits in cc)
param_stands (param.Words a (Named x)) (arg.Bytes ns) c end env names values is fits small s =
    absurd (let bad : false ≡ true = fits in cc)

names_first : (p : Param) (ps : List Param) → entry_names (p ∷ ps) ≡ entry_names (p ∷ []) ++ entry_names ps
names_first (param.Word x) ps = refl
names_first (param.Byte x) ps = refl
names_first (param.Bytes a (Fixed n)) ps = refl
names_first (param.Bytes a (Named x)) ps = refl
names_first (param.Words a (Fixed n)) ps = refl
names_first (param.Words a (Named x)) ps = refl

-- each argument fits its parameter
abbrev pub AllFit : List Param → List Arg → Type 0
AllFit [] [] = Unit {0}
AllFit (p ∷ ps) (a ∷ args) = (model.fits p a ≡ true) × AllFit ps args
AllFit ps args = ⊥

pub params_stand : (ps : List Param) (args : List Arg) (c end : Scope) (env : Env) (names : List Name) (values : List ℕ)
    → types.declare_params ps c ≡ Ok end → AllFit ps args → total_size args ≤ array_limit → Stand c env names values
    → Stand end (model.start ps args env) (names ++ entry_names ps) (values ++ symbol_values (map kind_of ps) args)
params_stand [] [] c end env names values is fit small s =
    let same_scope : c ≡ end = answer_is c end is in
    rw (append-nil names, append-nil values, ← same_scope) s
params_stand (p ∷ ps) (a ∷ args) c end env names values is fit small s =
    let one = first_answered (types.declare_param p c) _ end is in
    let room = first_answered (types.registers one.0) _ end one.1.1 in
    let kept : one.0 ≡ room.0 = registers_is one.0 room.0 room.1.0 in
    let here : Stand one.0 (model.bind_argument p a env) (names ++ entry_names (p ∷ [])) (values ++ symbols_of (kind_of p) a) =
    param_stands p a c one.0 env names values one.1.0 fit.0 (omega (arith, small)) s in
    let all = params_stand ps args room.0 end (model.bind_argument p a env) (names ++ entry_names (p ∷ []))
    (values ++ symbols_of (kind_of p) a) room.1.1 fit.1 (omega (arith, small)) (rw (← kept) here) in
    let names_are : names ++ entry_names (p ∷ ps) ≡ (names ++ entry_names (p ∷ [])) ++ entry_names ps =
    ap (λ l. names ++ l) (names_first p ps) ∙ sym (append_assoc names (entry_names (p ∷ [])) (entry_names ps)) in
    let values_are : values ++ (symbols_of (kind_of p) a ++ symbol_values (map kind_of ps) args)
    ≡ (values ++ symbols_of (kind_of p) a) ++ symbol_values (map kind_of ps) args =
    sym (append_assoc values (symbols_of (kind_of p) a) (symbol_values (map kind_of ps) args)) in
    rw (names_are, values_are) all
params_stand [] (a ∷ args) c end env names values is fit small s = absurd fit
params_stand (p ∷ ps) [] c end env names values is fit small s = absurd fit

none_stand : Stand [] [] [] []
none_stand =
    record {
      sizes = refl;
      scalars = λ x t found. absurd (let bad : None ≡ Some (One t) = found in cc);
      others = λ x none. refl;
    }

-- the names of the parameters, at the start of a call
pub start_stands : (ps : List Param) (args : List Arg) (end : Scope) → types.declare_params ps [] ≡ Ok end → AllFit ps args
    → total_size args ≤ array_limit
    → Stand end (model.start ps args []) (entry_names ps) (symbol_values (map kind_of ps) args)
start_stands ps args end is fit small = params_stand ps args [] end [] [] [] is fit small none_stand
