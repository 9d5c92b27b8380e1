-- The equations of `WordBook`. Each rewrites the root of an expression alone. In the comments e, f, g are expressions and
-- N, K are literals.
use Rattle.std.specs.Prelude.{ℕ, ◌-◌, ◌^◌, nat_eq, Bool, true, false, List, [], ◌∷◌, find, slice_get, Option, Some, None}
use Rattle.std.specs.Prelude.{option_map, option_and_then, if◌then◌else◌}
use Rattle.std.specs.List.{range_with_len}
use Rattle.model_syntax.specs.Operation.{apply}
use Rattle.model_syntax.specs.declared.expr.Op.{Op}
use Rattle.model_syntax.specs.declared.expr.Op.TheVariants as op
use Rattle.model_syntax.specs.declared.expr.Expr.{Expr, Expr-F, out-Expr}
use Rattle.model_syntax.specs.declared.expr.Expr.TheOpen as e
use Rattle.model_syntax.specs.declared.expr.Expr.TheVariants.{Lit, Bin, ToByte}

-- what an equation makes of an expression, or none where its left side does not fit
abbrev pub Equation : Type 0
Equation = Expr → Option Expr

-- Left sides.

-- the operations are one
abbrev pub same_op : Op → Op → Bool
same_op op.Add op.Add = true
same_op op.Sub op.Sub = true
same_op op.Mul op.Mul = true
same_op op.Mulhuu op.Mulhuu = true
same_op op.Divu op.Divu = true
same_op op.Remu op.Remu = true
same_op op.And op.And = true
same_op op.Or op.Or = true
same_op op.Xor op.Xor = true
same_op op.Shl op.Shl = true
same_op op.Shr op.Shr = true
same_op op.Sar op.Sar = true
same_op a b = false

abbrev pub at_any : (Op → Expr → Expr → Option Expr) → Expr-F Expr → Option Expr
at_any next (e.Bin o p q) = next o p q
at_any next y = None

-- an operation and its two sides
abbrev pub any : (Op → Expr → Expr → Option Expr) → Equation
any next x = at_any next (out-Expr x)

-- the two sides of an operation that passes a test
abbrev pub among : (Op → Bool) → (Expr → Expr → Option Expr) → Equation
among fits next = any (λ o p q. if fits o then next p q else None)

-- the two sides of this operation
abbrev pub sides : Op → (Expr → Expr → Option Expr) → Equation
sides wanted = among (same_op wanted)

abbrev pub at_literal : Expr-F Expr → Option ℕ
at_literal (e.Lit n) = Some n
at_literal y = None

-- the number of a literal
abbrev pub literal : Expr → Option ℕ
literal x = at_literal (out-Expr x)

-- there is a number, and it is this one
abbrev pub is : ℕ → Option ℕ → Bool
is n None = false
is n (Some k) = nat_eq k n

-- the literal of this number
abbrev pub is_literal : ℕ → Expr → Bool
is_literal n x = is n (literal x)

-- K, where N = 2^K
unfoldable pub exponent : ℕ → Option ℕ
exponent n = find (λ k. nat_eq (2 ^ k) n) (range_with_len 0 32)

-- K, where the expression is the literal of 2^K
abbrev pub power : Expr → Option ℕ
power x = option_and_then exponent (literal x)

abbrev pub at_byte : (Expr → Option Expr) → Expr-F Expr → Option Expr
at_byte next (e.ToByte p) = next p
at_byte next y = None

-- the word whose lowest byte is taken
abbrev pub byte : (Expr → Option Expr) → Equation
byte next x = at_byte next (out-Expr x)

abbrev pub at_word : (Expr → Option Expr) → Expr-F Expr → Option Expr
at_word next (e.ToWord p) = next p
at_word next y = None

-- the byte or flag that is made a word
abbrev pub word : (Expr → Option Expr) → Equation
word next x = at_word next (out-Expr x)

-- the number changes nothing on the right of the operation
abbrev pub is_neutral : Op → ℕ → Bool
is_neutral op.Add n = nat_eq n 0
is_neutral op.Sub n = nat_eq n 0
is_neutral op.Or n = nat_eq n 0
is_neutral op.Xor n = nat_eq n 0
is_neutral op.Shl n = nat_eq n 0
is_neutral op.Shr n = nat_eq n 0
is_neutral op.Mul n = nat_eq n 1
is_neutral op.Divu n = nat_eq n 1
is_neutral op.And n = nat_eq n 4294967295
is_neutral op.Mulhuu n = false
is_neutral op.Remu n = false
is_neutral op.Sar n = false

-- Equations.

-- steps 0 to 4: (OP e f) = (OP f e)
abbrev pub exchanged : Op → Equation
exchanged o = sides o (λ e f. Some (Bin o f e))

-- steps 5, 7, 8: (OP (OP e f) g) = (OP e (OP f g))
abbrev pub grouped_right : Op → Equation
grouped_right o = sides o (λ ef g. sides o (λ e f. Some (Bin o e (Bin o f g))) ef)

-- step 6: (OP e (OP f g)) = (OP (OP e f) g)
abbrev pub grouped_left : Op → Equation
grouped_left o = sides o (λ e fg. sides o (λ f g. Some (Bin o (Bin o e f) g)) fg)

-- steps 9, 10: (OP e N) = (SHIFT e K), where N = 2^K
abbrev pub shifted : Op → Op → Equation
shifted o shift = sides o (λ e n. option_map (λ k. Bin shift e (Lit k)) (power n))

-- step 11: (remu e N) = (and e N-1), where N = 2^K
abbrev pub masked : Equation
masked = sides op.Remu (λ e n. option_map (λ k. Bin op.And e (Lit (2 ^ k - 1))) (power n))

-- steps 12 to 14, for 0, 1, 4294967295: (OP e N) = e, where N changes nothing on the right of OP
abbrev pub left_alone : ℕ → Equation
left_alone n = among (λ o. is_neutral o n) (λ e m. if is_literal n m then Some e else None)

-- step 15: (OP N K) = the literal of the value
abbrev pub computed : Equation
computed = any (λ o a b. option_and_then (λ n. option_map (λ k. Lit (apply o n k)) (literal b)) (literal a))

-- (and e 255) to (byte e)
abbrev pub unmasked : Equation
unmasked = sides op.And (λ e n. if is_literal 255 n then Some (ToByte e) else None)

-- step 16: (byte (and e 255)) = (byte e)
abbrev pub byte_of_masked : Equation
byte_of_masked = byte unmasked

-- (byte e) to (and e 255)
abbrev pub with_mask : Equation
with_mask = byte (λ e. Some (Bin op.And e (Lit 255)))

-- step 17: (word (byte e)) = (and e 255)
abbrev pub word_of_byte : Equation
word_of_byte = word with_mask

-- The book.

-- the equations in the order of their steps
abbrev pub equations : List Equation
equations =
    exchanged op.Add
    ∷ exchanged op.Mul
    ∷ exchanged op.And
    ∷ exchanged op.Or
    ∷ exchanged op.Xor
    ∷ grouped_right op.Add
    ∷ grouped_left op.Add
    ∷ grouped_right op.Mul
    ∷ grouped_right op.Xor
    ∷ shifted op.Mul op.Shl
    ∷ shifted op.Divu op.Shr
    ∷ masked
    ∷ left_alone 0
    ∷ left_alone 1
    ∷ left_alone 4294967295
    ∷ computed
    ∷ byte_of_masked
    ∷ word_of_byte
    ∷ []

-- what a step makes of an expression
abbrev pub turn : ℕ → Expr → Option Expr
turn step x = option_and_then (λ equation. equation x) (slice_get equations step)
