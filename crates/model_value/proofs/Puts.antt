-- What an environment tells after a put, and puts into environments that tell the same.
use Rattle.std.proofs.Common.{◌≡◌, refl, sym, ◌∙◌, ap, arith, ◌≤◌, ◌-◌, Bool, true, false, List, [], ◌∷◌, length, take, drop}
use Rattle.std.proofs.Common.{get_or, Option, Some, None, if◌then◌else◌}
use Rattle.rup_base.specs.declared.arg.Arg.{Arg}
use Rattle.rup_base.specs.declared.arg.Arg.TheVariants.{Word}
use Rattle.model_syntax.specs.Environment.{Env, value_of, put, put_some, carry}
use Rattle.model_syntax.specs.Names.{Name, same}
use Rattle.model_syntax.proofs.laws.Bindings.{same_is, value_here, value_else}
use Rattle.model_value.specs.Bindings.{SameValues, Assigns, behind_locals}
use Rattle.model_value.specs.declared.evaluation.Local.{Local}

pub value_put : (x y : Name) (v : Arg) (env : Env) → value_of (put x v env) y ≡ (if same x y then Some v else value_of env y)
value_put x y v env = by (same x y) refl
  where
    by : (is : Bool) → same x y ≡ is → value_of (put x v env) y ≡ (if same x y then Some v else value_of env y)
    by true is = rw is (ap (value_of (put x v env)) (sym (same_is x y is)) ∙ value_here x v env)
    by false is = rw is (value_else x y v env is)

pub put_assigns : (x : Name) (v : Arg) (before after : Env) → after ≡ put x v before → Assigns x (Some v) before after
put_assigns x v before after is = λ y. ap (λ e. value_of e y) is ∙ value_put x y v before

-- names are the same both ways
pub same_back : (x y : Name) → same x y ≡ same y x
same_back x y = by (same x y) refl (same y x) refl
  where
    by : (is : Bool) → same x y ≡ is → (of : Bool) → same y x ≡ of → same x y ≡ same y x
    by true is true of = is ∙ sym of
    by true is false of = let one : x ≡ y = same_is x y is in ap (λ z. same z y) one ∙ ap (same y) (sym one)
    by false is true of = let one : y ≡ x = same_is y x of in ap (λ z. same z y) (sym one) ∙ ap (same y) one
    by false is false of = is ∙ sym of

pub put_alike : (x : Name) (v w : Arg) (one two : Env) → v ≡ w → SameValues one two → SameValues (put x v one) (put x w two)
put_alike x v w one two is alike = λ y. value_put x y v one ∙ (λ j. if same x y then Some (is j) else alike y j)
    ∙ sym (value_put x y w two)

pub some_alike : (x : Name) (v w : Option Arg) (one two : Env) → v ≡ w → SameValues one two
    → SameValues (put_some x v one) (put_some x w two)
some_alike x v w one two is alike = λ y. (λ j. value_of (put_some x (is j) one) y) ∙ by w y
  where
    by : (o : Option Arg) → SameValues (put_some x o one) (put_some x o two)
    by None = alike
    by (Some u) = put_alike x u u one two refl alike

pub carry_alike : (xs : List Name) (inner end one two : Env) → SameValues inner end → SameValues one two
    → SameValues (carry xs inner one) (carry xs end two)
carry_alike [] inner end one two within around = around
carry_alike (x ∷ xs) inner end one two within around =
    carry_alike xs inner end (put_some x (value_of inner x) one) (put_some x (value_of end x) two) within
    (some_alike x (value_of inner x) (value_of end x) one two (within x) around)

take_all : {A : Type 0} (xs : List A) → take (length xs) xs ≡ xs
take_all [] = refl
take_all (x ∷ xs) = ap (λ l. x ∷ l) (take_all xs)

-- behind a local of another name
pub past_local : (ls : List Local) (l : Local) (env : Env) (x : Name) → 1 ≤ length ls → l ≡ get_or ls 0 l
    → same l.name.now x ≡ false
    → value_of (behind_locals ls env) x ≡ value_of (behind_locals (take (length ls - 1) (drop 1 ls)) env) x
past_local [] l env x some is apart = absurd (omega arith)
past_local (k ∷ ks) l env x some is apart =
    let fewer : length (k ∷ ks) - 1 ≡ length ks = omega arith in
    value_else k.name.now x (Word k.number) (behind_locals ks env) (ap (λ (n : Local). same n.name.now x) (sym is) ∙ apart)
    ∙ ap (λ rest. value_of (behind_locals rest env) x) (sym (ap (λ n. take n ks) fewer ∙ take_all ks))
