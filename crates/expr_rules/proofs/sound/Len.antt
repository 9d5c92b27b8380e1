-- e-len is sound.
use Rattle.std.proofs.Common.{◌≡◌, refl, sym, ◌∙◌, ap, arith, ℕ, ◌≤◌, List, length, Option, Some, None, pos}
use Rattle.std.specs.Prelude.{option_map}
use Rattle.std.proofs.lemmas.Int.{ints}
use Rattle.side_certs.specs.LinearForm.{value_at}
use Rattle.model_syntax.specs.declared.expr.Scalar.TheVariants.{Word}
use Rattle.model_syntax.specs.declared.program.Param.{Param}
use Rattle.model_syntax.specs.Environment.{Env, value_of, elements, size}
use Rattle.model_syntax.specs.Names.{Name}
use Rattle.model_syntax.specs.Scope.{Scope}
use Rattle.sym_heap.specs.declared.parts.Clause.{Clause}
use Rattle.sym_heap.specs.Context.{Context, own, is_clause}
use Rattle.sym_heap.specs.Fits.{ClauseFits}
use Rattle.sym_heap.proofs.laws.Extending.{Standing, standing}
use Rattle.bed_syntax.specs.declared.expression.BExpr.{BExpr}
use Rattle.bed_syntax.specs.declared.expression.BExpr.TheVariants as b
use Rattle.bed_meaning.specs.Locals.{local_at}
use Rattle.expr_rules.specs.Words.{most, number_in, give, plain}
use Rattle.expr_rules.specs.Sound.{ExprDone, Yields}
use Rattle.expr_rules.specs.rules.Len.{code, after}
use Rattle.expr_rules.proofs.Codes.{value_lit, value_var, locals_lit, locals_var}
use Rattle.expr_rules.proofs.Came.{Nothing, Came, came_done}
use Rattle.expr_rules.proofs.Fresh.{plain_kid, plain_right}
use Rattle.expr_rules.proofs.Sums.{NumberIn, number_in_is}
use Rattle.expr_rules.proofs.laws.Yields.{yields_found}

-- the code is the local of the length, or its number
data IsLengthCode (k : Clause) (e : BExpr) : Type 0 where
  local : (l : ℕ) → k.length_local ≡ Some l → e ≡ b.Var l → IsLengthCode k e
  number : (n : ℕ) → NumberIn 0 most n k.length → e ≡ b.Lit n → IsLengthCode k e

length_code : (k : Clause) (e : BExpr) → code k ≡ Some e → IsLengthCode k e
length_code k e is = by k.length_local refl where
  literal : (o : Option ℕ) → number_in 0 most k.length ≡ o → option_map b.Lit o ≡ Some e → IsLengthCode k e
  literal None n made = absurd (let bad : None ≡ Some e = made in cc)
  literal (Some m) n made = number m (number_in_is 0 most m k.length n) (let here : Some (b.Lit m) ≡ Some e = made in sym (cc))

  by : (o : Option ℕ) → k.length_local ≡ o → IsLengthCode k e
  by None none = literal (number_in 0 most k.length) refl (rw none at is)
  by (Some l) some = local l some (let here : Some (b.Var l) ≡ Some e = rw some at is in sym (cc))

size_is : (ns : List ℕ) → length ns ≤ 4294967295 → size ns ≡ length ns
size_is ns few = omega (arith, few)

pub sound : (ps : List Param) (scope : Scope) (c : Context) → Came Nothing ps scope c c → (at : ℕ) (a : Name) (k : Clause)
    → own c a ≡ Some k
    → Yields (ExprDone ps scope (λ env. size (elements (value_of env a))) Word c) (after at k c)
sound ps scope c came at a k owned =
    yields_found (ExprDone ps scope sem Word c) c (code k) at 4 (λ e. give (plain e k.length)) (λ e is. by e (length_code k e is))
  where
    sem : Env → ℕ
    sem env = size (elements (value_of env a))

    stands : Standing (is_clause a) c.clauses k
    stands = standing (is_clause a) c.clauses k owned

    by : (e : BExpr) → IsLengthCode k e → ExprDone ps scope sem Word c (plain e k.length) c
    by e (local l is made) =
        rw made
        (came_done Nothing ps scope c c came sem Word (plain (b.Var l) k.length)
        (plain_kid c c (b.Var l) k.length (came.consistent.lengths_known stands.place k stands.at)
        (λ xs has. locals_var xs l (has.lengths stands.place l k stands.at is)))
        (λ call v env mem vars fits r.
        let here : ClauseFits call v k (value_of env a) mem (local_at vars) = fits.clauses a k owned in
        let many : size (elements (value_of env a)) ≡ length (elements (value_of env a)) =
        size_is (elements (value_of env a)) here.few in
        let few = here.few in
        plain_right (sem env) Word (b.Var l) k.length v mem vars
        (value_var mem vars l ∙ here.length_local l is ∙ ap Some (sym many)) (omega (arith, few, many))
        (here.form ∙ ap pos (sym many))))
    by e (number n range made) =
        rw made
        (came_done Nothing ps scope c c came sem Word (plain (b.Lit n) k.length)
        (plain_kid c c (b.Lit n) k.length (came.consistent.lengths_known stands.place k stands.at) (λ xs has. locals_lit xs n))
        (λ call v env mem vars fits r.
        let here : ClauseFits call v k (value_of env a) mem (local_at vars) = fits.clauses a k owned in
        let many : size (elements (value_of env a)) ≡ length (elements (value_of env a)) =
        size_is (elements (value_of env a)) here.few in
        let few = here.few in
        let value_is : value_at v k.length ≡ pos n = range.value_is v in
        let form = here.form in
        let same : n ≡ size (elements (value_of env a)) = omega (arith, ints, value_is, form, many) in
        plain_right (sem env) Word (b.Lit n) k.length v mem vars (value_lit mem vars n ∙ ap Some same) (omega (arith, few, many))
        (here.form ∙ ap pos (sym many))))
