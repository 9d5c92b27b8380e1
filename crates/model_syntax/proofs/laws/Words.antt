-- The value of a well typed expression is a word, whatever its tables are.
use Rattle.std.proofs.Common.{◌≡◌, refl, sym, ◌∙◌, ap, subst, ℕ, ◌%◌, Bool, true, false, not, ◌&&◌, ◌||◌, map, get_or, Ok}
use Rattle.rup_base.specs.Gather.{all_true}
use Rattle.model_syntax.specs.Environment.{Env, value_of, number, elements}
use Rattle.model_syntax.specs.ExprType.{Typing, type_of, type_step, no_word}
use Rattle.model_syntax.specs.Formed.{expr_formed, expr_formed_step}
use Rattle.model_syntax.specs.Kinds.{is_word}
use Rattle.model_syntax.specs.Names.{Name}
use Rattle.model_syntax.specs.Operation.{holds}
use Rattle.model_syntax.specs.Scope.{Scope, look_up, element_in}
use Rattle.model_syntax.specs.Sound.{is_number, IsTyped}
use Rattle.model_syntax.specs.Value.{eval, eval_step, flag, is_true}
use Rattle.model_syntax.specs.declared.expr.Expr.{Expr, Expr-F, ind-Expr, map-Expr, roll-Expr, fold-roll-Expr}
use Rattle.model_syntax.specs.declared.expr.Expr.TheOpen as e
use Rattle.model_syntax.specs.declared.expr.Scalar.{Scalar}
use Rattle.model_syntax.specs.declared.expr.Scalar.TheVariants.{Word, Byte, Flag}
use Rattle.model_syntax.proofs.laws.Answered.{first_answered}
use Rattle.model_syntax.proofs.laws.Arrays.{and_parts, all_at}
use Rattle.model_syntax.proofs.laws.Expressions.{both_are, scalar_value, length_value, element_value}
use Rattle.model_syntax.proofs.laws.Numbers.{apply_word, byte_word, flag_word, low_byte}

-- a number of a type is a word
pub number_word : (t : Scalar) (n : ℕ) → is_number t n ≡ true → is_word n ≡ true
number_word Word n is = is
number_word Byte n is = byte_word n is
number_word Flag n is = flag_word n is

flag_is_word : (b : Bool) → is_word (flag b) ≡ true
flag_is_word true = refl
flag_is_word false = refl

module _ (numbers : Name → ℕ) (c : Scope) (env : Env) (typed : IsTyped numbers c env) where
  abbrev IsOk : Expr → Type 0
  IsOk w = expr_formed w ≡ true → (t : Scalar) → type_of w c ≡ Ok t → is_word (eval w env) ≡ true

  abbrev Proved : Type 0
  Proved = (w : Expr) × IsOk w

  at_layer : (y : Expr-F Expr)
      → (expr_formed_step (map-Expr Expr Bool expr_formed y) ≡ true → (t : Scalar)
      → type_step (map-Expr Expr (Scope → Typing) type_of y) c ≡ Ok t
      → is_word (eval_step (map-Expr Expr (Env → ℕ) eval y) env) ≡ true)
      → IsOk (roll-Expr y)
  at_layer y f formed t is =
      ap (λ (g : Env → ℕ). is_word (g env)) (fold-roll-Expr (Env → ℕ) eval_step y)
      ∙ f (sym (fold-roll-Expr Bool expr_formed_step y) ∙ formed) t
      (sym (ap (λ (g : Scope → Typing). g c) (fold-roll-Expr (Scope → Typing) type_step y)) ∙ is)

  node : (y : Expr-F Proved) → IsOk (roll-Expr (map-Expr Proved Expr (λ k. k.0) y))
  node (e.Lit n) = at_layer (e.Lit n) (λ formed t is. formed)
  node (e.Var x) = at_layer (e.Var x)
      (λ formed t is. number_word t (number (value_of env x)) (scalar_value numbers c env typed x t is))
  node (e.Length a) =
      at_layer (e.Length a) (λ formed t is.
      let found = first_answered (element_in (look_up c a)) _ t is in
      length_value numbers c env typed a found.0 found.1.0)
  node (e.Bin op k m) =
      at_layer (e.Bin op k.0 m.0) (λ formed t is.
      let both = both_are Word (type_of k.0 c) (type_of m.0 c) t is in
      let f = and_parts (expr_formed k.0) (expr_formed m.0) formed in
      apply_word op (eval k.0 env) (eval m.0 env) (k.1 f.0 Word both.0) (m.1 f.1 Word both.1.0))
  node (e.Test cmp k m) = at_layer (e.Test cmp k.0 m.0) (λ formed t is. flag_is_word (holds cmp (eval k.0 env) (eval m.0 env)))
  node (e.Not k) = at_layer (e.Not k.0) (λ formed t is. flag_is_word (not (is_true (eval k.0 env))))
  node (e.Both k m) = at_layer (e.Both k.0 m.0) (λ formed t is. flag_is_word (is_true (eval k.0 env) && is_true (eval m.0 env)))
  node (e.Either k m) = at_layer (e.Either k.0 m.0)
      (λ formed t is. flag_is_word (is_true (eval k.0 env) || is_true (eval m.0 env)))
  node (e.ToWord k) =
      at_layer (e.ToWord k.0) (λ formed t is.
      let narrow = first_answered (no_word (type_of k.0 c)) _ t is in
      let found = first_answered (type_of k.0 c) _ narrow.0 narrow.1.0 in
      k.1 formed found.0 found.1.0)
  node (e.ToByte k) = at_layer (e.ToByte k.0) (λ formed t is. byte_word (eval k.0 env % 256) (low_byte (eval k.0 env)))
  node (e.Get a k) =
      at_layer (e.Get a k.0) (λ formed t is.
      let found = first_answered (element_in (look_up c a)) _ t is in
      number_word found.0 (get_or (elements (value_of env a)) (eval k.0 env) 0)
      (element_value numbers c env typed a found.0 (eval k.0 env) found.1.0))
  node (e.Tab u ns k) =
      at_layer (e.Tab u ns k.0) (λ formed t is.
      all_at is_word ns (eval k.0 env) refl (and_parts (all_true (map is_word ns)) (expr_formed k.0) formed).0)

  -- a well typed expression that is formed has a word as its value
  pub word_value : (w : Expr) → IsOk w
  word_value = ind-Expr IsOk (λ z y is. subst (λ w. IsOk (roll-Expr w)) is (node y))
