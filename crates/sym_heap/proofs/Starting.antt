-- The context of the arguments: how many locals a parameter takes.
use Rattle.std.proofs.Common.{◌≡◌, refl, ◌∙◌, ap, append_assoc, arith, ℕ, ◌+◌, ◌≤◌, Some, List, [], ◌∷◌, length, Option}
use Rattle.std.proofs.Common.{length-append}
use Rattle.side_certs.specs.LinearForm.{LinearForm, symbol}
use Rattle.model_syntax.specs.declared.expr.Scalar.{Scalar}
use Rattle.model_syntax.specs.declared.expr.Scalar.TheVariants.{Word, Byte}
use Rattle.model_syntax.specs.declared.program.Len.{Len}
use Rattle.model_syntax.specs.declared.program.Len.TheVariants.{Fixed, Named}
use Rattle.model_syntax.specs.declared.program.Param.{Param}
use Rattle.model_syntax.specs.declared.program.Param.TheVariants as param
use Rattle.model_syntax.specs.Names.{Name}
use Rattle.sym_heap.specs.Context.{Context, held, with_fact}
use Rattle.sym_heap.specs.Start.{next_local, with_argument, clause, with_pointer, with_array, with_param, with_params, with_facts}
use Rattle.sym_heap.specs.Start.{length_registers, registers_of, registers}

pub after_argument : (x : Name) (t : Scalar) (c : Context) → next_local (with_argument x t c) ≡ next_local c + 1
after_argument x t c = omega (arith, length-append c.scalars (held x (next_local c) (symbol (length c.scalars)) t ∷ []))

pub after_pointer : (p : ℕ) (a : Name) (size : ℕ) (f : LinearForm) (l : Option ℕ) (c : Context)
    → next_local (with_pointer p a size f l c) ≡ next_local c + 1
after_pointer p a size f l c = omega (arith, length-append c.clauses (clause a p size (next_local c) f l ∷ []))

after_array : (p : ℕ) (a : Name) (size : ℕ) (n : Len) (c : Context)
    → next_local (with_array p a size n c) ≡ next_local c + (1 + length_registers n)
after_array p a size (Fixed n) c = after_pointer p a size _ _ c
after_array p a size (Named x) c =
    let pointed : Context = with_pointer p a size (symbol (length c.scalars)) (Some (next_local c + 1)) c in
    omega (arith, after_argument x Word pointed, after_pointer p a size (symbol (length c.scalars)) (Some (next_local c + 1)) c)

-- each register of a parameter is a local
pub after_param : (p : ℕ) (q : Param) (c : Context) → next_local (with_param p q c) ≡ next_local c + registers_of q
after_param p (param.Word x) c = after_argument x _ c
after_param p (param.Byte x) c = after_argument x _ c
after_param p (param.Bytes a n) c = after_array p a 1 n c
after_param p (param.Words a n) c = after_array p a 4 n c

pub takes_one : (q : Param) → 1 ≤ registers_of q
takes_one (param.Word x) = omega arith
takes_one (param.Byte x) = omega arith
takes_one (param.Bytes a n) = omega arith
takes_one (param.Words a n) = omega arith

pub after_params : (p : ℕ) (qs : List Param) (c : Context) → next_local (with_params p qs c) ≡ next_local c + registers qs
after_params p [] c = omega arith
after_params p (q ∷ qs) c = omega (arith, after_param p q c, after_params (p + 1) qs (with_param p q c))

-- a fact before further ones
pub one_before : (f : LinearForm) (fs : List LinearForm) (c : Context) → with_facts fs (with_fact f c) ≡ with_facts (f ∷ fs) c
one_before f fs c = ap (λ (l : List LinearForm). with_facts l (record c { facts = [] })) (append_assoc c.facts (f ∷ []) fs)

array_facts : (p : ℕ) (a : Name) (size : ℕ) (n : Len) (c : Context) → (with_array p a size n c).facts ≡ c.facts
array_facts p a size (Fixed n) c = refl
array_facts p a size (Named x) c = refl

-- parameters make no facts
pub params_facts : (p : ℕ) (qs : List Param) (c : Context) → (with_params p qs c).facts ≡ c.facts
params_facts p [] c = refl
params_facts p (param.Word x ∷ qs) c = params_facts (p + 1) qs (with_argument x Word c)
params_facts p (param.Byte x ∷ qs) c = params_facts (p + 1) qs (with_argument x Byte c)
params_facts p (param.Bytes a n ∷ qs) c = params_facts (p + 1) qs (with_array p a 1 n c) ∙ array_facts p a 1 n c
params_facts p (param.Words a n ∷ qs) c = params_facts (p + 1) qs (with_array p a 4 n c) ∙ array_facts p a 4 n c
