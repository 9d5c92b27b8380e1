-- The kept facts of s-for as numbers, from turn to turn: each name has the number that its value is, and x that of the count.
use Rattle.std.proofs.Common.{◌≡◌, refl, sym, ◌∙◌, ap, arith, ℕ, ◌+◌, pos, Bool, true, false, List, [], ◌∷◌, length, Option, Some}
use Rattle.std.proofs.Common.{None, if◌then◌else◌}
use Rattle.std.specs.List.{list_any}
use Rattle.std.proofs.lemmas.Int.{ints}
use Rattle.rup_base.specs.declared.arg.Arg.TheVariants as arg
use Rattle.rv_memory.specs.Ranges.{Bytes}
use Rattle.side_certs.specs.LinearForm.{LinearForm, constant, symbol, value_at}
use Rattle.side_certs.proofs.laws.Values.{value_plus, value_constant, value_symbol}
use Rattle.model_syntax.specs.declared.expr.Scalar.TheVariants.{Word}
use Rattle.model_syntax.specs.Environment.{Env, value_of, number, put, carry}
use Rattle.model_syntax.specs.Names.{Name, same, listed}
use Rattle.model_syntax.proofs.laws.Bindings.{same_is, same_self, value_here, value_else}
use Rattle.sym_heap.specs.declared.parts.Held.{Held}
use Rattle.sym_heap.specs.Context.{Context, scalar, held, top_of, with_top}
use Rattle.sym_heap.specs.Fits.{Call, Locals, Known, IsConsistent, FitsBy, Agree}
use Rattle.sym_heap.specs.Moves.{local_of}
use Rattle.sym_heap.specs.Settle.{settle}
use Rattle.sym_heap.specs.Sides.{form_in, form_or_nothing}
use Rattle.sym_heap.specs.Turns.{block_start, EndsLike}
use Rattle.sym_heap.proofs.laws.Extending.{known_constant}
use Rattle.sym_heap.proofs.laws.Lookups.{scalar_stands, scalar_bound}
use Rattle.sym_heap.proofs.laws.Settling.{place_in}
use Rattle.sym_heap.proofs.laws.States.{known_same}
use Rattle.sym_heap.proofs.laws.Turns.{carried, carried_else}
use Rattle.stmt_rules.specs.Loops.{given_first, one_more}
use Rattle.stmt_rules.specs.Nesting.{end_form}
use Rattle.stmt_rules.proofs.sound.ForEnd.{last_forms}
use Rattle.stmt_rules.proofs.sound.ForStart.{settles_places}

-- Numbers of names.

-- what is no scalar counts as 0
abbrev pub num_of : Option Held → ℕ → ℕ
num_of None n = 0
num_of (Some h) n = n

pub num_place : (o p : Option Held) (n : ℕ) → place_in o ≡ place_in p → num_of o n ≡ num_of p n
num_place None None n is = refl
num_place (Some h) (Some k) n is = refl
num_place None (Some h) n is = absurd (let bad : None ≡ Some (h.local, h.kind) = is in cc)
num_place (Some h) None n is = absurd (let bad : Some (h.local, h.kind) ≡ None = is in cc)

num_local : (o p : Option Held) (n : ℕ) → local_of o ≡ local_of p → num_of o n ≡ num_of p n
num_local None None n is = refl
num_local (Some h) (Some k) n is = refl
num_local None (Some h) n is = absurd (let bad : None ≡ Some h.local = is in cc)
num_local (Some h) None n is = absurd (let bad : Some h.local ≡ None = is in cc)

-- the number of a name in a turn at the count k, in scalars that stand where c has them
abbrev pub num_at : Context → Name → ℕ → Env → Name → ℕ
num_at c x k env y = if same x y then k else num_of (scalar c y) (number (value_of env y))

abbrev pub nums : Context → Name → ℕ → Env → Name → LinearForm
nums c x k env y = constant (pos (num_at c x k env y))

-- a form in a state that fits
pub fits_num : (call : Call) (u : ℕ → ℕ) (d : Context) (env : Env) (mem : Bytes) (locals : Locals)
    → FitsBy call u d env mem locals
    → (y : Name) → value_at u (form_in d.scalars y) ≡ pos (num_of (scalar d y) (number (value_of env y)))
fits_num call u d env mem locals fits y = by (scalar d y) refl where
  by : (o : Option Held) → scalar d y ≡ o → value_at u (form_or_nothing (scalar d y))
      ≡ pos (num_of (scalar d y) (number (value_of env y)))
  by None at = rw at (value_constant u (pos 0))
  by (Some h) at =
      let f = fits.scalars y h at in
      rw at (f.form ∙ ap pos (sym (ap number f.value)))

-- the start's own order of names
listed_either : (y : Name) (xs : List Name) → list_any (λ z. same z y) xs ≡ listed y xs
listed_either y [] = refl
listed_either y (x ∷ xs) = by (same y x) refl (same x y) refl (listed_either y xs) where
  by : (p : Bool) → same y x ≡ p → (q : Bool) → same x y ≡ q → list_any (λ z. same z y) xs ≡ listed y xs
      → list_any (λ z. same z y) (x ∷ xs) ≡ listed y (x ∷ xs)
  by true e true f more = rw (e, f) refl
  by false e false f more = rw (e, f) more
  by true e false f more = absurd (let bad : false ≡ true = sym f ∙ ap (λ z. same x z) (same_is y x e) ∙ same_self x in cc)
  by false e true f more = absurd (let bad : false ≡ true = sym e ∙ ap (λ z. same y z) (same_is x y f) ∙ same_self y in cc)

given_here : (x y : Name) (f : LinearForm) (others : Name → LinearForm) → same x y ≡ true → given_first x f others y ≡ f
given_here x y f others is = rw is refl

given_else : (x y : Name) (f : LinearForm) (others : Name → LinearForm) → same x y ≡ false → given_first x f others y ≡ others y
given_else x y f others is = rw is refl

num_here : (c : Context) (x : Name) (k : ℕ) (env : Env) (y : Name) → same x y ≡ true → num_at c x k env y ≡ k
num_here c x k env y is = rw is refl

num_else : (c : Context) (x : Name) (k : ℕ) (env : Env) (y : Name) → same x y ≡ false
    → num_at c x k env y ≡ num_of (scalar c y) (number (value_of env y))
num_else c x k env y is = rw is refl

-- Before the block.

pub start_nums : (call : Call) (v w : ℕ → ℕ) (c : Context) (x : Name) (low : LinearForm) (k : ℕ) (env : Env) (mem : Bytes)
    (locals : Locals) → FitsBy call v c env mem locals → value_at v low ≡ pos k
    → (y : Name) → value_at w (nums c x k env y) ≡ value_at v (given_first x low (form_in c.scalars) y)
start_nums call v w c x low k env mem locals fits low_is y = value_constant w (pos (num_at c x k env y))
    ∙ by (same x y) refl where
      by : (b : Bool) → same x y ≡ b → pos (num_at c x k env y) ≡ value_at v (given_first x low (form_in c.scalars) y)
      by true e = ap pos (num_here c x k env y e) ∙ sym low_is ∙ ap (value_at v) (sym (given_here x y low (form_in c.scalars) e))
      by false e = ap pos (num_else c x k env y e) ∙ sym (fits_num call v c env mem locals fits y)
          ∙ ap (value_at v) (sym (given_else x y low (form_in c.scalars) e))

-- At its start.

module _ (call : Call) (names : List Name) (x : Name) (li lh k : ℕ) (c : Context) (u : ℕ → ℕ) (env : Env) (mem : Bytes)
    (locals : Locals)
    (fits : FitsBy call u (block_start names x li lh c) (put x (arg.Word k) env) mem locals) where
  abbrev start : Context
  start = block_start names x li lh c

  abbrev listed_new : Context
  listed_new = settle names c c

  scalar_here : (y : Name) → same x y ≡ true → scalar start y ≡ Some (held x li (symbol (length listed_new.tops)) Word)
  scalar_here y is = scalar_bound (with_top (top_of Word) listed_new) (held x li (symbol (length listed_new.tops)) Word) y
      ∙ rw is refl

  scalar_else : (y : Name) → same x y ≡ false → scalar start y ≡ scalar listed_new y
  scalar_else y is = scalar_bound (with_top (top_of Word) listed_new) (held x li (symbol (length listed_new.tops)) Word) y
      ∙ rw is refl

  put_here : (y : Name) → same x y ≡ true → number (value_of (put x (arg.Word k) env) y) ≡ k
  put_here y is = ap number (ap (value_of (put x (arg.Word k) env)) (sym (same_is x y is)) ∙ value_here x (arg.Word k) env)

  pub block_num : (y : Name) → value_at u (form_in start.scalars y) ≡ pos (num_at c x k env y)
  block_num y = fits_num call u start (put x (arg.Word k) env) mem locals fits y ∙ ap pos (by (same x y) refl) where
    by : (b : Bool) → same x y ≡ b → num_of (scalar start y) (number (value_of (put x (arg.Word k) env) y)) ≡ num_at c x k env y
    by true e = ap (λ o. num_of o (number (value_of (put x (arg.Word k) env) y))) (scalar_here y e) ∙ put_here y e
        ∙ sym (num_here c x k env y e)
    by false e =
        ap (λ o. num_of o (number (value_of (put x (arg.Word k) env) y))) (scalar_else y e)
        ∙ ap (λ v. num_of (scalar listed_new y) (number v)) (value_else x y (arg.Word k) env e)
        ∙ num_place (scalar listed_new y) (scalar c y) (number (value_of env y)) (settles_places names c c refl y)
        ∙ sym (num_else c x k env y e)

  -- the symbol of x has the count
  pub block_symbol : u (length listed_new.tops) ≡ k
  block_symbol =
      let at = scalar_here x (same_self x) in
      let f = fits.scalars x (held x li (symbol (length listed_new.tops)) Word) at in
      let number_is : f.number ≡ k = ap number (sym f.value) ∙ put_here x (same_self x) in
      let form : pos (u (length listed_new.tops)) ≡ pos f.number = sym (value_symbol u (length listed_new.tops)) ∙ f.form in
      omega (arith, ints, form, number_is)

  pub block_nums : (w : ℕ → ℕ) (y : Name) → value_at u (form_in start.scalars y) ≡ value_at w (nums c x k env y)
  block_nums w y = block_num y ∙ sym (value_constant w (pos (num_at c x k env y)))

  -- At the end of the block.

  module _ (good : IsConsistent start) (e : Context) (o : ℕ → ℕ) (end_env : Env) (end_mem : Bytes) (end_locals : Locals)
      (end_fits : FitsBy call o e end_env end_mem end_locals)
      (agree : Agree (length start.tops) u o) (like : EndsLike names c e) where
    form_known : (y : Name) → Known (length start.tops) (form_in start.scalars y)
    form_known y = by (scalar start y) refl where
      by : (p : Option Held) → scalar start y ≡ p → Known (length start.tops) (form_or_nothing (scalar start y))
      by None at = rw at (known_constant (length start.tops) (pos 0))
      by (Some h) at = rw at (let p = scalar_stands start y h at in good.scalars_known p.place h p.at)

    still : (y : Name) → value_at o (form_in start.scalars y) ≡ pos (num_at c x k env y)
    still y = known_same (length start.tops) (form_in start.scalars y) u o (form_known y) agree ∙ block_num y

    abbrev after : Env
    after = carry names end_env env

    listed_value : (y : Name) → listed y names ≡ true → num_of (scalar e y) (number (value_of end_env y))
        ≡ num_of (scalar c y) (number (value_of after y))
    listed_value y in_list = by (scalar e y) refl where
      by : (p : Option Held) → scalar e y ≡ p → num_of (scalar e y) (number (value_of end_env y))
          ≡ num_of (scalar c y) (number (value_of after y))
      by None at = ap (λ q. num_of q (number (value_of end_env y))) at
          ∙ sym (num_local (scalar c y) None (number (value_of after y)) (sym (like.places y in_list) ∙ ap local_of at))
      by (Some h) at =
          let f = end_fits.scalars y h at in
          let new : value_of after y ≡ Some (arg.Word f.number) = carried names end_env env y (arg.Word f.number) in_list f.value
          in
          ap (λ v. num_of (scalar e y) (number v)) (f.value ∙ sym new)
          ∙ num_local (scalar e y) (scalar c y) (number (value_of after y)) (like.places y in_list)

    end_of_listed : (y : Name) → listed y names ≡ true → end_form names e.scalars start.scalars y ≡ form_in e.scalars y
    end_of_listed y in_list = let test : list_any (λ z. same z y) names ≡ true = listed_either y names ∙ in_list in rw test refl

    end_of_other : (y : Name) → listed y names ≡ false → end_form names e.scalars start.scalars y ≡ form_in start.scalars y
    end_of_other y out = let test : list_any (λ z. same z y) names ≡ false = listed_either y names ∙ out in rw test refl

    one_further : (y : Name) → same x y ≡ true → value_at o (one_more (form_in start.scalars x)) ≡ pos (k + 1)
    one_further y is =
        let here : value_at o (form_in start.scalars x) ≡ pos k = still x ∙ ap pos (num_here c x k env x (same_self x)) in
        let one = value_constant o (pos 1) in
        let sum = value_plus o (constant (pos 1)) (form_in start.scalars x) in
        omega (arith, ints, here, one, sum)

    pub end_num : (y : Name) → value_at o (last_forms x names start.scalars e y) ≡ pos (num_at c x (k + 1) after y)
    end_num y = by (same x y) refl (listed y names) refl where
      form : LinearForm
      form = one_more (form_in start.scalars x)

      others : Name → LinearForm
      others = end_form names e.scalars start.scalars

      by : (b : Bool) → same x y ≡ b → (l : Bool) → listed y names ≡ l → value_at o (last_forms x names start.scalars e y)
          ≡ pos (num_at c x (k + 1) after y)
      by true e_is l at = ap (value_at o) (given_here x y form others e_is) ∙ one_further y e_is
          ∙ ap pos (sym (num_here c x (k + 1) after y e_is))
      by false e_is true in_list =
          ap (value_at o) (given_else x y form others e_is ∙ end_of_listed y in_list)
          ∙ fits_num call o e end_env end_mem end_locals end_fits y
          ∙ ap pos (listed_value y in_list ∙ sym (num_else c x (k + 1) after y e_is))
      by false e_is false out =
          ap (value_at o) (given_else x y form others e_is ∙ end_of_other y out) ∙ still y
          ∙ ap pos (num_else c x k env y e_is
          ∙ ap (λ v. num_of (scalar c y) (number v)) (sym (carried_else names end_env env y out))
          ∙ sym (num_else c x (k + 1) after y e_is))

    pub end_nums : (w : ℕ → ℕ) (y : Name)
        → value_at w (nums c x (k + 1) after y) ≡ value_at o (last_forms x names start.scalars e y)
    end_nums w y = value_constant w (pos (num_at c x (k + 1) after y)) ∙ sym (end_num y)

-- After the loop.

pub left_nums : (call : Call) (w v : ℕ → ℕ) (names : List Name) (c d : Context) (x : Name) (k : ℕ) (env : Env) (mem : Bytes)
    (locals : Locals) → FitsBy call w (settle names c d) env mem locals → d.scalars ≡ c.scalars
    → (y : Name) → same x y ≡ false → value_at w (form_in (settle names c d).scalars y) ≡ value_at v (nums c x k env y)
left_nums call w v names c d x k env mem locals fits stood y apart =
    fits_num call w (settle names c d) env mem locals fits y
    ∙ ap pos (num_place (scalar (settle names c d) y) (scalar c y) (number (value_of env y)) (settles_places names c d stood y)
    ∙ sym (num_else c x k env y apart))
    ∙ sym (value_constant v (pos (num_at c x k env y)))
