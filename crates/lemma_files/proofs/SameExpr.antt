-- The test of expressions tells equal ones from others.
use Rattle.std.proofs.Common.{◌≡◌, refl, sym, ◌∙◌, ap, subst, ℕ, nat_eq, Bool, true, false, ◌&&◌, ◌↔◌, arith}
use Rattle.std.proofs.lemmas.Bool.Decides.{nat_tests}
use Rattle.model_syntax.specs.Names.{same}
use Rattle.model_syntax.proofs.laws.Bindings.{same_is, same_self}
use Rattle.model_syntax.specs.declared.expr.Op.{Op}
use Rattle.model_syntax.specs.declared.expr.Op.TheVariants as op
use Rattle.model_syntax.specs.declared.expr.Cmp.{Cmp}
use Rattle.model_syntax.specs.declared.expr.Cmp.TheVariants as cmp
use Rattle.model_syntax.specs.declared.expr.Scalar.{Scalar}
use Rattle.model_syntax.specs.declared.expr.Scalar.TheVariants as scalar
use Rattle.model_syntax.specs.declared.expr.Expr.{Expr, Expr-F, map-Expr, roll-Expr, out-Expr, out-roll-Expr, roll-out-Expr}
use Rattle.model_syntax.specs.declared.expr.Expr.{fold-roll-Expr, ind-Expr}
use Rattle.model_syntax.specs.declared.expr.Expr.TheOpen as e
use Rattle.lemma_files.specs.Same.{same_op, same_cmp, same_scalar, same_layer, same_step, same_expr}

pub both_true : (p q : Bool) → p && q ≡ true → (p ≡ true) × (q ≡ true)
both_true true true h = (refl, refl)
both_true true false h = absurd cc
both_true false q h = absurd cc

pub number_is : (m n : ℕ) → nat_eq m n ≡ true → m ≡ n
number_is m n h = grind (arith, nat_tests)

pub number_self : (n : ℕ) → nat_eq n n ≡ true
number_self n = grind (arith, nat_tests)

pub op_is : (o p : Op) → same_op o p ≡ true → o ≡ p
op_is op.Add op.Add h = refl
op_is op.Sub op.Sub h = refl
op_is op.Mul op.Mul h = refl
op_is op.Mulhuu op.Mulhuu h = refl
op_is op.Divu op.Divu h = refl
op_is op.Remu op.Remu h = refl
op_is op.And op.And h = refl
op_is op.Or op.Or h = refl
op_is op.Xor op.Xor h = refl
op_is op.Shl op.Shl h = refl
op_is op.Shr op.Shr h = refl
op_is op.Sar op.Sar h = refl
op_is o p h = absurd cc

pub op_self : (o : Op) → same_op o o ≡ true
op_self op.Add = refl
op_self op.Sub = refl
op_self op.Mul = refl
op_self op.Mulhuu = refl
op_self op.Divu = refl
op_self op.Remu = refl
op_self op.And = refl
op_self op.Or = refl
op_self op.Xor = refl
op_self op.Shl = refl
op_self op.Shr = refl
op_self op.Sar = refl

pub cmp_is : (o p : Cmp) → same_cmp o p ≡ true → o ≡ p
cmp_is cmp.Eq cmp.Eq h = refl
cmp_is cmp.Lt cmp.Lt h = refl
cmp_is cmp.Slt cmp.Slt h = refl
cmp_is o p h = absurd cc

pub cmp_self : (o : Cmp) → same_cmp o o ≡ true
cmp_self cmp.Eq = refl
cmp_self cmp.Lt = refl
cmp_self cmp.Slt = refl

pub scalar_is : (s t : Scalar) → same_scalar s t ≡ true → s ≡ t
scalar_is scalar.Word scalar.Word h = refl
scalar_is scalar.Byte scalar.Byte h = refl
scalar_is scalar.Flag scalar.Flag h = refl
scalar_is s t h = absurd cc

pub scalar_self : (s : Scalar) → same_scalar s s ≡ true
scalar_self scalar.Word = refl
scalar_self scalar.Byte = refl
scalar_self scalar.Flag = refl

-- equal by the test
abbrev Is : Expr → Type 0
Is a = (b : Expr) → same_expr a b ≡ true → a ≡ b

abbrev Told : Type 0
Told = (a : Expr) × Is a

abbrev plain : Expr-F Told → Expr-F Expr
plain y = map-Expr Told Expr (λ k. k.0) y

abbrev tests : Expr-F Expr → Expr-F (Expr → Bool)
tests y = map-Expr Expr (Expr → Bool) same_expr y

layer_is : (y : Expr-F Told) (z : Expr-F Expr) → same_layer (tests (plain y)) z ≡ true → plain y ≡ z
layer_is (e.Lit m) (e.Lit n) h = let is : m ≡ n = number_is m n h in rw is refl
layer_is (e.Var x) (e.Var y) h = let is : x ≡ y = same_is x y h in rw is refl
layer_is (e.Length x) (e.Length y) h = let is : x ≡ y = same_is x y h in rw is refl
layer_is (e.Bin o a b) (e.Bin p c d) h =
    let k = both_true (same_op o p && same_expr a.0 c) (same_expr b.0 d) h in
    let l = both_true (same_op o p) (same_expr a.0 c) k.0 in
    rw (op_is o p l.0, a.1 c l.1, b.1 d k.1) refl
layer_is (e.Test o a b) (e.Test p c d) h =
    let k = both_true (same_cmp o p && same_expr a.0 c) (same_expr b.0 d) h in
    let l = both_true (same_cmp o p) (same_expr a.0 c) k.0 in
    rw (cmp_is o p l.0, a.1 c l.1, b.1 d k.1) refl
layer_is (e.Not a) (e.Not c) h = rw (a.1 c h) refl
layer_is (e.Both a b) (e.Both c d) h =
    let k = both_true (same_expr a.0 c) (same_expr b.0 d) h in rw (a.1 c k.0, b.1 d k.1) refl
layer_is (e.Either a b) (e.Either c d) h =
    let k = both_true (same_expr a.0 c) (same_expr b.0 d) h in rw (a.1 c k.0, b.1 d k.1) refl
layer_is (e.ToWord a) (e.ToWord c) h = rw (a.1 c h) refl
layer_is (e.ToByte a) (e.ToByte c) h = rw (a.1 c h) refl
layer_is (e.Get x a) (e.Get y c) h =
    let k = both_true (same x y) (same_expr a.0 c) h in rw (same_is x y k.0, a.1 c k.1) refl
layer_is (e.Tab s ms a) (e.Tab t ns c) h =
    let k = both_true (same_scalar s t && same ms ns) (same_expr a.0 c) h in
    let l = both_true (same_scalar s t) (same ms ns) k.0 in
    rw (scalar_is s t l.0, same_is ms ns l.1, a.1 c k.1) refl
layer_is y z h = absurd cc

opened : (y : Expr-F Expr) (b : Expr) → same_expr (roll-Expr y) b ≡ same_layer (tests y) (out-Expr b)
opened y b = ap (λ (f : Expr → Bool). f b) (fold-roll-Expr (Expr → Bool) same_step y)

node_is : (y : Expr-F Told) → Is (roll-Expr (plain y))
node_is y b h = ap roll-Expr (layer_is y (out-Expr b) (sym (opened (plain y) b) ∙ h)) ∙ roll-out-Expr b

pub expr_is : (a b : Expr) → same_expr a b ≡ true → a ≡ b
expr_is = ind-Expr Is (λ z y is. subst (λ r. Is (roll-Expr r)) is (node_is y))

-- every expression equals itself by the test
abbrev Self : Expr → Type 0
Self a = same_expr a a ≡ true

abbrev Known : Type 0
Known = (a : Expr) × Self a

abbrev bare : Expr-F Known → Expr-F Expr
bare y = map-Expr Known Expr (λ k. k.0) y

layer_self : (y : Expr-F Known) → same_layer (tests (bare y)) (bare y) ≡ true
layer_self (e.Lit n) = number_self n
layer_self (e.Var x) = same_self x
layer_self (e.Length x) = same_self x
layer_self (e.Bin o a b) = rw (op_self o, a.1, b.1) refl
layer_self (e.Test o a b) = rw (cmp_self o, a.1, b.1) refl
layer_self (e.Not a) = a.1
layer_self (e.Both a b) = rw (a.1, b.1) refl
layer_self (e.Either a b) = rw (a.1, b.1) refl
layer_self (e.ToWord a) = a.1
layer_self (e.ToByte a) = a.1
layer_self (e.Get x a) = rw (same_self x, a.1) refl
layer_self (e.Tab s ns a) = rw (scalar_self s, same_self ns, a.1) refl

node_self : (y : Expr-F Known) → Self (roll-Expr (bare y))
node_self y =
    opened (bare y) (roll-Expr (bare y))
    ∙ ap (same_layer (tests (bare y))) (out-roll-Expr (bare y))
    ∙ layer_self y

pub expr_self : (a : Expr) → same_expr a a ≡ true
expr_self = ind-Expr Self (λ z y is. subst (λ r. Self (roll-Expr r)) is (node_self y))

pub expr_same : (a b : Expr) → a ≡ b → same_expr a b ≡ true
expr_same a b h = subst (λ c. same_expr a c ≡ true) h (expr_self a)
