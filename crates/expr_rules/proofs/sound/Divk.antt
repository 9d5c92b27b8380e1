-- e-divk is sound: the divisor times the quotient is at most the dividend, and what is left is less than the divisor.
use Rattle.std.proofs.Common.{◌≡◌, refl, ◌∙◌, ap, arith, ℕ, ◌-◌, ◌*◌, ◌/◌, ◌≤◌, Bool, true, false, List, [], ◌∷◌, length, Option}
use Rattle.std.proofs.Common.{Some, None, nat_abs, ℤ, pos, negsuc, neg_ℤ, ◌*ℤ◌, ◌≤ℤ◌}
use Rattle.std.specs.Int.Signed.{le_z}
use Rattle.std.proofs.lemmas.Int.{ints}
use Rattle.rup_base.specs.Word.{quotient}
use Rattle.side_certs.specs.LinearForm.{LinearForm, symbol, times, plus, constant, value_at}
use Rattle.side_certs.proofs.laws.Values.{value_symbol}
use Rattle.model_syntax.specs.declared.expr.Op.{Op}
use Rattle.model_syntax.specs.declared.expr.Op.TheVariants as op
use Rattle.model_syntax.specs.declared.expr.Scalar.TheVariants.{Word}
use Rattle.model_syntax.specs.declared.program.Param.{Param}
use Rattle.model_syntax.specs.Environment.{Env}
use Rattle.model_syntax.specs.Operation.{apply}
use Rattle.model_syntax.specs.Scope.{Scope}
use Rattle.sym_heap.specs.Context.{Context, with_top, with_fact}
use Rattle.sym_heap.specs.Fits.{Known}
use Rattle.sym_heap.proofs.laws.Extending.{known_more, known_plus, known_times, known_constant}
use Rattle.bed_syntax.specs.declared.expression.BExpr.{BExpr}
use Rattle.bed_syntax.specs.declared.expression.BExpr.TheVariants as b
use Rattle.expr_rules.specs.declared.output.ExprOut.{ExprOut}
use Rattle.expr_rules.specs.Operations.{code_of}
use Rattle.expr_rules.specs.Words.{◌>>=◌, most, number_of, sum_of, fresh, fact, give, plain}
use Rattle.expr_rules.specs.Sound.{ExprDone, Yields}
use Rattle.expr_rules.specs.rules.Divk.{from_one, divisor, after}
use Rattle.expr_rules.proofs.Codes.{value_bin, locals_bin, same_operation}
use Rattle.expr_rules.proofs.Came.{Of, And, Fact, Came, WithNumber, came_fresh, came_fact, came_done, extends_top, more_tops}
use Rattle.expr_rules.proofs.Division.{quotient_is, quotient_less, quotient_times, quotient_room, quotient_most}
use Rattle.expr_rules.proofs.Fresh.{next_known, plain_kid, plain_right}
use Rattle.expr_rules.proofs.Kids.{Pair}
use Rattle.expr_rules.proofs.Sums.{value_sum, number_value}
use Rattle.expr_rules.proofs.Times.{pos_product, neg_product}
use Rattle.expr_rules.proofs.laws.Yields.{yields_found, yields_fresh, yields_fact}
use Rattle.expr_rules.proofs.sound.Shift.{IsPower, power_is}

-- by the form as second part, the operation divides by n
record Divides (o : Op) (f : LinearForm) (n : ℕ) : Type 0 where
  pub some : 1 ≤ n
  pub quotient_of : (v : ℕ → ℕ) (a b : ℕ) → value_at v f ≡ pos b → apply o a b ≡ a / n

from_one_is : (k : ℤ) (n : ℕ) → from_one k ≡ Some n → (1 ≤ n) × (k ≡ pos n)
from_one_is k n is = by (le_z (pos 1) k) refl where
  whole : (z : ℤ) → nat_abs z ≡ n → pos 1 ≤ℤ z → (1 ≤ n) × (z ≡ pos n)
  whole (pos m) size least = let same : m ≡ n = size in (omega (arith, ints, least, same), ap pos same)
  whole (negsuc m) size least = absurd (omega (arith, ints, least))

  by : (b : Bool) → le_z (pos 1) k ≡ b → (1 ≤ n) × (k ≡ pos n)
  by true e =
      let least : pos 1 ≤ℤ k = omega (arith, ints, e) in
      let here : Some (nat_abs k) ≡ Some n = rw e at is in
      let size : nat_abs k ≡ n = cc in
      whole k size least
  by false e = absurd (let bad : None ≡ Some n = rw e at is in cc)

by_number : (f : LinearForm) (n : ℕ) → divisor op.Divu f ≡ Some n → Divides op.Divu f n
by_number f n is = by (number_of f) refl where
  by : (o : Option ℤ) → number_of f ≡ o → Divides op.Divu f n
  by None e = absurd (let bad : None ≡ Some n = rw e at is in cc)
  by (Some k) e =
      let number = from_one_is k n (rw e at is) in
      record {
        some = number.0;
        quotient_of = λ v a b form.
            (let value_is = number_value f k e v in
            let k_is = number.1 in
            let same : b ≡ n = omega (arith, ints, value_is, k_is, form) in
            ap (quotient a) same ∙ quotient_is a n number.0);
      }

by_shift : (f : LinearForm) (n : ℕ) → divisor op.Shr f ≡ Some n → Divides op.Shr f n
by_shift f n is = let shift : IsPower f n = power_is f n is in
    record { some = shift.some; quotient_of = λ v a b form. ap (λ (z : ℕ). a / z) (shift.shift_is v b form) }

none : {A : Type 0} {n : ℕ} → ◌≡◌ {A = Option ℕ} None (Some n) → A
none bad = absurd (cc)

divides : (o : Op) (f : LinearForm) (n : ℕ) → divisor o f ≡ Some n → Divides o f n
divides op.Divu f n is = by_number f n is
divides op.Shr f n is = by_shift f n is
divides op.Add f n is = none is
divides op.Sub f n is = none is
divides op.Mul f n is = none is
divides op.Mulhuu f n is = none is
divides op.Remu f n is = none is
divides op.And f n is = none is
divides op.Or f n is = none is
divides op.Xor f n is = none is
divides op.Shl f n is = none is
divides op.Sar f n is = none is

-- the facts, as forms of the dividend and the quotient
abbrev remainder : ℕ → LinearForm → LinearForm → LinearForm
remainder n f s = sum_of (pos 0) ((pos 1, f) ∷ (neg_ℤ (pos n), s) ∷ [])

abbrev room : ℕ → LinearForm → LinearForm → LinearForm
room n f s = sum_of (pos (n - 1)) ((pos n, s) ∷ (negsuc 0, f) ∷ [])

known_sum : (top : ℕ) (c j k : ℤ) (f g : LinearForm) → Known top f → Known top g → Known top (sum_of c ((j, f) ∷ (k, g) ∷ []))
known_sum top c j k f g one two =
    known_plus top (times j f) (plus (times k g) (constant c)) (known_times top j f one)
    (known_plus top (times k g) (constant c) (known_times top k g two) (known_constant top c))

module _ (v : ℕ → ℕ) (f s : LinearForm) (m n : ℕ) (some : 1 ≤ n) (first : value_at v f ≡ pos m)
    (second : value_at v s ≡ pos (m / n)) where
  remainder_holds : pos 0 ≤ℤ value_at v (remainder n f s)
  remainder_holds =
      let whole = value_sum v (pos 0) ((pos 1, f) ∷ (neg_ℤ (pos n), s) ∷ []) in
      let product : neg_ℤ (pos n) *ℤ value_at v s ≡ neg_ℤ (pos (n * (m / n))) = ap (λ (z : ℤ). neg_ℤ (pos n) *ℤ z) second
      ∙ neg_product n (m / n) in
      let less = quotient_times m n some in
      omega (arith, ints, whole, product, first, less)

  room_holds : pos 0 ≤ℤ value_at v (room n f s)
  room_holds =
      let whole = value_sum v (pos (n - 1)) ((pos n, s) ∷ (negsuc 0, f) ∷ []) in
      let product : pos n *ℤ value_at v s ≡ pos (n * (m / n)) = ap (λ (z : ℤ). pos n *ℤ z) second ∙ pos_product n (m / n) in
      let less = quotient_room m n some in
      omega (arith, ints, whole, product, first, less)

module _ (ps : List Param) (scope : Scope) (f g : Env → ℕ) (before : Context) (pq : ExprOut × ExprOut) (mid : Context)
    (k : Pair ps scope f g Word Word before pq mid) (at : ℕ) (o : Op) where
  abbrev R : Fact
  R = And (Of f Word pq.0) (Of g Word pq.1)

  abbrev sem : Env → ℕ
  sem env = apply o (f env) (g env)

  abbrev Numbered : Fact
  Numbered = WithNumber R ps scope before mid k.came sem

  abbrev code : BExpr
  code = b.Bin (code_of o) pq.0.code pq.1.code

  abbrev s : LinearForm
  s = symbol (length mid.tops)

  module _ (n : ℕ) (d : Divides o pq.1.form n) where
    abbrev top : ℕ
    top = length (with_top (most / n) mid).tops

    -- the value is the quotient
    is : (v : ℕ → ℕ) (env : Env) → value_at v pq.1.form ≡ pos (g env) → sem env ≡ f env / n
    is v env form = d.quotient_of v (f env) (g env) form

    abbrev with_remainder : Context
    with_remainder = with_fact (remainder n pq.0.form s) (with_top (most / n) mid)

    abbrev with_room : Context
    with_room = with_fact (room n pq.0.form s) with_remainder

    dividend_known : Known top pq.0.form
    dividend_known = known_more (length mid.tops) top pq.0.form
        (more_tops mid (with_top (most / n) mid) (extends_top mid (most / n))) k.one.known

    quotient_known : Known top s
    quotient_known = next_known mid.tops (most / n)

    one : Came Numbered ps scope before (with_top (most / n) mid)
    one = came_fresh R ps scope before mid k.came (most / n) sem
        (λ v env mem vars r. (let same = is v env r.1.form in let small = quotient_most (f env) n d.some most r.0.small in
        omega (arith, same, small)))

    two : Came Numbered ps scope before with_remainder
    two = came_fact Numbered ps scope before (with_top (most / n) mid) one (remainder n pq.0.form s)
        (known_sum top (pos 0) (pos 1) (neg_ℤ (pos n)) pq.0.form s dividend_known quotient_known)
        (λ v env mem vars r. remainder_holds v pq.0.form s (f env) n d.some r.0.0.form
        (value_symbol v (length mid.tops) ∙ ap pos (r.1 ∙ is v env r.0.1.form)))

    three : Came Numbered ps scope before with_room
    three = came_fact Numbered ps scope before with_remainder two (room n pq.0.form s)
        (known_sum top (pos (n - 1)) (pos n) (negsuc 0) s pq.0.form quotient_known dividend_known)
        (λ v env mem vars r. room_holds v pq.0.form s (f env) n d.some r.0.0.form
        (value_symbol v (length mid.tops) ∙ ap pos (r.1 ∙ is v env r.0.1.form)))

    divided : Yields (ExprDone ps scope sem Word before)
        ((fresh at (most / n) >>= (λ s. fact at (remainder n pq.0.form s)
        >>= (λ _. fact at (room n pq.0.form s) >>= (λ _. give (plain code s))))) mid)
    divided =
        yields_fresh (ExprDone ps scope sem Word before) mid at (most / n)
        (λ s. fact at (remainder n pq.0.form s) >>= (λ _. fact at (room n pq.0.form s) >>= (λ _. give (plain code s))))
        (yields_fact (ExprDone ps scope sem Word before) (with_top (most / n) mid) at (remainder n pq.0.form s)
        (λ _. fact at (room n pq.0.form s) >>= (λ _. give (plain code s)))
        (yields_fact (ExprDone ps scope sem Word before) with_remainder at (room n pq.0.form s) (λ _. give (plain code s))
        (came_done Numbered ps scope before with_room three sem Word (plain code s)
        (plain_kid before with_room code s quotient_known
        (λ xs has. locals_bin xs (code_of o) pq.0.code pq.1.code (k.one.locals xs has) (k.two.locals xs has)))
        (λ call v env mem vars fits r.
        let same = is v env r.0.1.form in
        let less = quotient_less (f env) n d.some in
        let small = r.0.0.small in
        plain_right (sem env) Word code s v mem vars
        (value_bin mem vars (code_of o) pq.0.code pq.1.code (f env) (g env) r.0.0.value r.0.1.value
        ∙ ap Some (same_operation o (f env) (g env)))
        (omega (arith, same, less, small)) (value_symbol v (length mid.tops) ∙ ap pos r.1)))))

  pub sound : Yields (ExprDone ps scope sem Word before) (after at o pq.0 pq.1 mid)
  sound =
      yields_found (ExprDone ps scope sem Word before) mid (divisor o pq.1.form) at 4
      (λ n. fresh at (most / n) >>= (λ s. fact at (remainder n pq.0.form s)
      >>= (λ _. fact at (room n pq.0.form s) >>= (λ _. give (plain code s)))))
      (λ n is. divided n (divides o pq.1.form n is))
