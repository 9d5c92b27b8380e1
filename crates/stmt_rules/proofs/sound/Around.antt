-- What loops over an array share: locals that are set in them, names that they bind, and types.
use Rattle.std.proofs.Common.{◌≡◌, ◌≢◌, refl, sym, ◌∙◌, ap, subst, arith, ℕ, zero, suc, ◌≤◌, Bool, true, false, not, nat_eq, pos}
use Rattle.std.proofs.Common.{List, [], ◌∷◌, drop, length, Option, Some, None}
use Rattle.std.specs.List.{list_all}
use Rattle.std.proofs.lemmas.Bool.{le-leb}
use Rattle.std.proofs.lemmas.Bool.Decides.{nat_tests}
use Rattle.side_certs.specs.LinearForm.{LinearForm}
use Rattle.model_syntax.specs.declared.expr.Scalar.{Scalar}
use Rattle.model_syntax.specs.declared.expr.Scalar.TheVariants.{Word, Byte, Flag}
use Rattle.model_syntax.specs.declared.program.Len.{Len}
use Rattle.model_syntax.specs.declared.program.Len.TheVariants.{Fixed, Named}
use Rattle.model_syntax.specs.declared.program.Param.{Param}
use Rattle.model_syntax.specs.declared.scope.NameType.{NameType}
use Rattle.model_syntax.specs.declared.scope.NameType.TheVariants.{Scalar as One, Array as Many}
use Rattle.model_syntax.specs.Entries.{entry_names}
use Rattle.model_syntax.specs.Names.{Name, same}
use Rattle.model_syntax.specs.Scope.{Scope, look_up, bind, scalar_may_take}
use Rattle.model_syntax.specs.Sound.{is_number}
use Rattle.model_syntax.proofs.laws.Bindings.{same_is, up_here, up_else}
use Rattle.sym_heap.specs.declared.parts.Held.{Held}
use Rattle.sym_heap.specs.declared.parts.Clause.{Clause}
use Rattle.sym_heap.specs.Context.{Context, scalar, own, has, is_free, is_scalar, leaves_free, put_first, top_of, with_scalar}
use Rattle.sym_heap.specs.Fits.{Known}
use Rattle.sym_heap.specs.Scoped.{IsScoped, IsLength, element_size}
use Rattle.sym_heap.proofs.laws.EndScopes.{alike_scoped}
use Rattle.sym_heap.proofs.laws.Extending.{known_constant, known_symbol}
use Rattle.sym_heap.proofs.laws.Lookups.{clause_stands, scalar_stands}
use Rattle.sym_heap.proofs.laws.Scopes.{bound_scoped}
use Rattle.sym_heap.proofs.laws.States.{free_reserved}
use Rattle.std.proofs.lemmas.Option.{slice_get_within}
use Rattle.stmt_rules.proofs.Sequence.{and_parts}

-- Locals.

-- what is kept is none of the free ones
pub reserved_apart : (c : Context) (l : ℕ) (x : Option Name) → is_free c l x ≡ true → (p : ℕ) → has p c.reserved ≡ true → p ≢ l
reserved_apart c l x free p is same_one =
    absurd (let bad : true ≡ false = sym is ∙ ap (λ j. has j c.reserved) same_one ∙ free_reserved c l x free in cc)

-- a local that is free, and not that of a new scalar, is free after it for any name
pub free_bound : (c : Context) (h : Held) (l : ℕ) (x : Name) → is_free c l None ≡ true → h.local ≢ l
    → is_free (with_scalar h c) l (Some x) ≡ true
free_bound c h l x free apart =
    let parts = and_parts (not (has l c.reserved)) (list_all (leaves_free l None) c.scalars) free in
    rw parts.0 (all c.scalars parts.1)
  where
    new : (b : Bool) → nat_eq h.local l ≡ b → leaves_free l (Some x) h ≡ true
    new true e = absurd (apart (grind (arith, nat_tests, e)))
    new false e = rw e refl

    old : (g : Held) → leaves_free l None g ≡ true → leaves_free l (Some x) g ≡ true
    old g is = rw is refl

    all : (hs : List Held) → list_all (leaves_free l None) hs ≡ true
        → list_all (leaves_free l (Some x)) (put_first (is_scalar h.name) h hs) ≡ true
    all [] is = rw (new (nat_eq h.local l) refl) refl
    all (g ∷ gs) is = by (is_scalar h.name g) refl (all gs parts.1) where
      parts : (leaves_free l None g ≡ true) × (list_all (leaves_free l None) gs ≡ true)
      parts = and_parts (leaves_free l None g) (list_all (leaves_free l None) gs) is

      rest : (ks : List Held) → list_all (leaves_free l None) ks ≡ true → list_all (leaves_free l (Some x)) ks ≡ true
      rest [] each = refl
      rest (k ∷ ks) each =
          let both = and_parts (leaves_free l None k) (list_all (leaves_free l None) ks) each in
          rw (old k both.0) (rest ks both.1)

      by : (b : Bool) → is_scalar h.name g ≡ b → list_all (leaves_free l (Some x)) (put_first (is_scalar h.name) h gs) ≡ true
          → list_all (leaves_free l (Some x)) (put_first (is_scalar h.name) h (g ∷ gs)) ≡ true
      by true e more = rw e (rw (new (nat_eq h.local l) refl) (rest gs parts.1))
      by false e more = rw e (rw (old g parts.0) more)

-- Names.

-- a scalar that is bound to its own type leaves the scope as it was
pub rebound : (scope : Scope) (x : Name) (t : NameType) → look_up scope x ≡ Some t → (y : Name)
    → look_up (bind x t scope) y ≡ look_up scope y
rebound scope x t is y = by (same x y) refl where
  by : (b : Bool) → same x y ≡ b → look_up (bind x t scope) y ≡ look_up scope y
  by true e = up_here scope x y t e ∙ sym is ∙ ap (look_up scope) (same_is x y e)
  by false e = up_else scope x y t e

-- its new place is one of the same scope
pub rebound_scoped : (ps : List Param) (scope : Scope) (c : Context) (h : Held) → look_up scope h.name ≡ Some (One h.kind)
    → IsScoped ps scope c → IsScoped ps scope (with_scalar h c)
rebound_scoped ps scope c h is scoped =
    alike_scoped ps (bind h.name (One h.kind) scope) scope (with_scalar h c) (λ y. sym (rebound scope h.name (One h.kind) is y))
    (bound_scoped ps scope c h (ap scalar_may_take is) scoped)

-- the type of a scalar that stands
pub type_of_scalar : (ps : List Param) (scope : Scope) (c : Context) → IsScoped ps scope c → (x : Name) (h : Held)
    → scalar c x ≡ Some h → look_up scope x ≡ Some (One h.kind)
type_of_scalar ps scope c scoped x h at = let p = scalar_stands c x h at in
    ap (look_up scope) (sym p.named) ∙ scoped.scalars p.place h p.at

-- the elements and the length of an array that has a clause
pub record ArrayIs (ps : List Param) (w : Scalar) (k : Clause) (entries : ℕ) : Type 0 where
  pub size : element_size w ≡ Some k.size
  pub known : Known entries k.length

pub array_is : (ps : List Param) (scope : Scope) (c : Context) (a : Name) (k : Clause) (w : Scalar) (len : Len)
    → IsScoped ps scope c → own c a ≡ Some k → look_up scope a ≡ Some (Many w len) → ArrayIs ps w k c.entries
array_is ps scope c a k w len scoped owned typed =
    let p = clause_stands c a k owned in
    let is = scoped.clauses p.place k p.at in
    let both : Some (Many is.element is.len) ≡ Some (Many w len) = sym is.type ∙ ap (look_up scope) p.named ∙ typed in
    let one : is.element ≡ w = cc in
    record {
      size = subst (λ (u : Scalar). element_size u ≡ Some k.size) one is.size;
      known = length_known is.len k.length k.length_local is.length_is;
    }
  where
    length_known : (n : Len) (f : LinearForm) (l : Option ℕ) → IsLength (entry_names ps) n f l → Known c.entries f
    length_known (Fixed n) f l is = subst (λ (g : LinearForm). Known c.entries g) (sym is.0) (known_constant c.entries (pos n))
    length_known (Named x) f l is =
        let less = slice_get_within (entry_names ps) is.place x is.name in
        let count = scoped.entries in
        subst (λ (g : LinearForm). Known c.entries g) (sym is.form) (known_symbol c.entries is.place (omega (arith, less, count)))

-- Numbers.

pub number_is : (t : Scalar) (n : ℕ) → n ≤ top_of t → is_number t n ≡ true
number_is Word n small = le-leb n 4294967295 small
number_is Byte n small = le-leb n 255 small
number_is Flag n small = le-leb n 1 small

pub drop_all : {A : Type 0} (xs : List A) (n : ℕ) → length xs ≤ n → drop n xs ≡ []
drop_all [] zero many = refl
drop_all [] (suc n) many = refl
drop_all (x ∷ xs) zero many = absurd (omega (arith, many))
drop_all (x ∷ xs) (suc n) many = drop_all xs n (omega (arith, many))
