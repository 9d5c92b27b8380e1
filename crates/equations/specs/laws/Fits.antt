-- What an expression is where a left side fits it.
use Rattle.std.proofs.Common.{◌≡◌, refl, sym, ◌∙◌, ap, ℕ, ◌^◌, ◌<◌, Bool, true, false, Option, Some, None, if◌then◌else◌}
use Rattle.std.specs.Option.{option_and_then, option_map}
use Rattle.std.proofs.lemmas.Bool.{eqb-true}
use Rattle.std.proofs.lemmas.Option.{none-some, same_Some}
use Rattle.equations.specs.Equations.{any, at_any, among, sides, same_op, literal, at_literal, is_literal, is, exponent, power}
use Rattle.equations.specs.Equations.{byte, at_byte, word, at_word}
use Rattle.equations.specs.laws.Powers.{exponent_is}
use Rattle.model_syntax.specs.declared.expr.Expr.{Expr, Expr-F, out-Expr, roll-Expr, roll-out-Expr}
use Rattle.model_syntax.specs.declared.expr.Expr.TheOpen as e
use Rattle.model_syntax.specs.declared.expr.Expr.TheVariants as v
use Rattle.model_syntax.specs.declared.expr.Expr.TheVariants.{Lit, Bin, ToWord, ToByte}
use Rattle.model_syntax.specs.declared.expr.Op.{Op}
use Rattle.model_syntax.specs.declared.expr.Op.TheVariants as op

pub same_is : (a b : Op) → same_op a b ≡ true → a ≡ b
same_is op.Add op.Add is = refl
same_is op.Sub op.Sub is = refl
same_is op.Mul op.Mul is = refl
same_is op.Mulhuu op.Mulhuu is = refl
same_is op.Divu op.Divu is = refl
same_is op.Remu op.Remu is = refl
same_is op.And op.And is = refl
same_is op.Or op.Or is = refl
same_is op.Xor op.Xor is = refl
same_is op.Shl op.Shl is = refl
same_is op.Shr op.Shr is = refl
same_is op.Sar op.Sar is = refl
same_is a b is = absurd (cc)

opened : (x : Expr) (l : Expr-F Expr) → out-Expr x ≡ l → x ≡ roll-Expr l
opened x l at = sym (roll-out-Expr x) ∙ ap roll-Expr at

pub guarded : (b : Bool) (o : Option Expr) (y : Expr) → (if b then o else None) ≡ Some y → (b ≡ true) × (o ≡ Some y)
guarded true o y fits = (refl, fits)
guarded false o y fits = absurd (none-some y fits)

pub any_is : (next : Op → Expr → Expr → Option Expr) (x y : Expr) → any next x ≡ Some y
    → (o : Op) × (p : Expr) × (q : Expr) × ((x ≡ Bin o p q) × (next o p q ≡ Some y))
any_is next x y fits = by (out-Expr x) refl fits
  where
    by : (l : Expr-F Expr) → out-Expr x ≡ l → at_any next l ≡ Some y
        → (o : Op) × (p : Expr) × (q : Expr) × ((x ≡ Bin o p q) × (next o p q ≡ Some y))
    by (e.Bin o p q) at some = (o, p, q, (opened x (e.Bin o p q) at ∙ v.rolls-Bin o p q, some))
    by l at some = absurd (none-some y some)

pub among_is : (fits : Op → Bool) (next : Expr → Expr → Option Expr) (x y : Expr) → among fits next x ≡ Some y
    → (o : Op) × (p : Expr) × (q : Expr) × ((x ≡ Bin o p q) × ((fits o ≡ true) × (next p q ≡ Some y)))
among_is fits next x y some =
    let h = any_is (λ o p q. if fits o then next p q else None) x y some in
    (h.0, h.1, h.2, (h.3.0, guarded (fits h.0) (next h.1 h.2) y h.3.1))

pub sides_are : (wanted : Op) (next : Expr → Expr → Option Expr) (x y : Expr) → sides wanted next x ≡ Some y
    → (p : Expr) × (q : Expr) × ((x ≡ Bin wanted p q) × (next p q ≡ Some y))
sides_are wanted next x y some =
    let h = among_is (same_op wanted) next x y some in
    (h.1, h.2, (h.3.0 ∙ ap (λ o. Bin o h.1 h.2) (sym (same_is wanted h.0 h.3.1.0)), h.3.1.1))

pub byte_is : (next : Expr → Option Expr) (x y : Expr) → byte next x ≡ Some y → (p : Expr) × ((x ≡ ToByte p) × (next p ≡ Some y))
byte_is next x y fits = by (out-Expr x) refl fits
  where
    by : (l : Expr-F Expr) → out-Expr x ≡ l → at_byte next l ≡ Some y → (p : Expr) × ((x ≡ ToByte p) × (next p ≡ Some y))
    by (e.ToByte p) at some = (p, (opened x (e.ToByte p) at ∙ v.rolls-ToByte p, some))
    by l at some = absurd (none-some y some)

pub word_is : (next : Expr → Option Expr) (x y : Expr) → word next x ≡ Some y → (p : Expr) × ((x ≡ ToWord p) × (next p ≡ Some y))
word_is next x y fits = by (out-Expr x) refl fits
  where
    by : (l : Expr-F Expr) → out-Expr x ≡ l → at_word next l ≡ Some y → (p : Expr) × ((x ≡ ToWord p) × (next p ≡ Some y))
    by (e.ToWord p) at some = (p, (opened x (e.ToWord p) at ∙ v.rolls-ToWord p, some))
    by l at some = absurd (none-some y some)

pub literal_of : (x : Expr) (n : ℕ) → literal x ≡ Some n → x ≡ Lit n
literal_of x n fits = by (out-Expr x) refl fits
  where
    by : (l : Expr-F Expr) → out-Expr x ≡ l → at_literal l ≡ Some n → x ≡ Lit n
    by (e.Lit k) at some = opened x (e.Lit k) at ∙ v.rolls-Lit k ∙ ap Lit (same_Some k n some)
    by l at some = absurd (none-some n some)

pub literal_is : (n : ℕ) (x : Expr) → is_literal n x ≡ true → x ≡ Lit n
literal_is n x fits = by (literal x) refl fits
  where
    by : (o : Option ℕ) → literal x ≡ o → is n o ≡ true → x ≡ Lit n
    by None at wrong = absurd (cc)
    by (Some k) at same = literal_of x k at ∙ ap Lit (eqb-true k n same)

-- what is made of a number, where there is one
pub mapped : (f : ℕ → Expr) (o : Option ℕ) (y : Expr) → option_map f o ≡ Some y → (k : ℕ) × ((o ≡ Some k) × (f k ≡ y))
mapped f None y some = absurd (none-some y some)
mapped f (Some k) y some = (k, (refl, same_Some (f k) y some))

pub power_is : (x : Expr) (k : ℕ) → power x ≡ Some k → (n : ℕ) × ((x ≡ Lit n) × ((2 ^ k ≡ n) × (k < 32)))
power_is x k fits = by (literal x) refl fits
  where
    by : (o : Option ℕ) → literal x ≡ o → option_and_then exponent o ≡ Some k
        → (n : ℕ) × ((x ≡ Lit n) × ((2 ^ k ≡ n) × (k < 32)))
    by None at wrong = absurd (none-some k wrong)
    by (Some n) at some = (n, (literal_of x n at, exponent_is n k some))
