-- e-shift is sound: a shift to the left multiplies.
use Rattle.std.proofs.Common.{◌≡◌, refl, ◌∙◌, ap, arith, ℕ, ◌*◌, ◌%◌, ◌^◌, ◌<◌, ◌≤◌, List, Option, Some, None, pos}
use Rattle.std.proofs.lemmas.Int.{ints}
use Rattle.std.proofs.lemmas.Nat.{pow_pos}
use Rattle.side_certs.specs.declared.certificate.Cert.{Cert}
use Rattle.side_certs.specs.LinearForm.{LinearForm, value_at}
use Rattle.model_syntax.specs.declared.expr.Op.TheVariants as op
use Rattle.model_syntax.specs.declared.expr.Scalar.TheVariants.{Word}
use Rattle.model_syntax.specs.declared.program.Param.{Param}
use Rattle.model_syntax.specs.Environment.{Env}
use Rattle.model_syntax.specs.Operation.{apply}
use Rattle.model_syntax.specs.Scope.{Scope}
use Rattle.sym_heap.specs.Context.{Context}
use Rattle.bed_syntax.specs.declared.operation.BOp.TheVariants as bop
use Rattle.expr_rules.specs.declared.output.ExprOut.{ExprOut}
use Rattle.expr_rules.specs.Words.{number_in}
use Rattle.expr_rules.specs.Sound.{ExprDone, Yields}
use Rattle.expr_rules.specs.rules.Mulk.{multiple}
use Rattle.expr_rules.specs.rules.Shift.{power, after}
use Rattle.expr_rules.proofs.Kids.{Pair}
use Rattle.expr_rules.proofs.Sums.{NumberIn, number_in_is}
use Rattle.expr_rules.proofs.laws.Yields.{yields_found}
use Rattle.expr_rules.proofs.sound.Mulk.{multiple_sound}

-- 2 to the power of a shift by the form
pub record IsPower (f : LinearForm) (n : ℕ) : Type 0 where
  pub some : 1 ≤ n
  pub shift_is : (v : ℕ → ℕ) (shift : ℕ) → value_at v f ≡ pos shift → 2 ^ (shift % 32) ≡ n

pub power_is : (f : LinearForm) (n : ℕ) → power f ≡ Some n → IsPower f n
power_is f n is = by (number_in 0 31 f) refl where
  by : (o : Option ℕ) → number_in 0 31 f ≡ o → IsPower f n
  by None e = absurd (let bad : None ≡ Some n = rw e at is in cc)
  by (Some k) e =
      let number : NumberIn 0 31 k f = number_in_is 0 31 k f e in
      let here : Some (2 ^ k) ≡ Some n = rw e at is in
      let same : 2 ^ k ≡ n = cc in
      record {
        some = (let positive : 0 < 2 ^ k = pow_pos k in omega (arith, positive, same));
        shift_is = λ v shift form.
            (let value_is = number.value_is v in
            let small = number.greatest in
            let low : shift % 32 ≡ k = omega (arith, ints, form, value_is, small) in
            ap (λ (z : ℕ). 2 ^ z) low ∙ same);
      }

pub sound : (ps : List Param) (scope : Scope) (f g : Env → ℕ) (before : Context) (pq : ExprOut × ExprOut) (mid : Context)
    → Pair ps scope f g Word Word before pq mid → (certs : List Cert) (at : ℕ)
    → Yields (ExprDone ps scope (λ env. apply op.Shl (f env) (g env)) Word before) (after certs at pq.0 pq.1 mid)
sound ps scope f g before pq mid k certs at =
    yields_found (ExprDone ps scope sem Word before) mid (power pq.1.form) at 4 (λ n. multiple certs at (pos n) bop.Slu pq.0 pq.1)
    (λ n is. multiple_sound ps scope f g before pq mid k certs at (pos n) bop.Slu sem (λ v env form. record {
      number = n;
      factor_is = refl;
      wraps = ap (λ (z : ℕ). f env * z % 2 ^ 32) ((power_is pq.1.form n is).shift_is v (g env) form);
      operation_is = refl;
    }))
  where
    sem : Env → ℕ
    sem env = apply op.Shl (f env) (g env)
