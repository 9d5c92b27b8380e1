-- Folds at the nodes of expressions and of sides of facts: what a definition by recursion says of a node is its step at what
-- it says of the parts. Then what types, values and counts say of literals, operations and conversions by this.
use Rattle.std.proofs.Common.{◌≡◌, refl, sym, ◌∙◌, ap, ℕ, ◌+◌, ◌%◌, Bool, true, ◌&&◌, Ok}
use Rattle.model_syntax.specs.Answer.{◌>>=◌}
use Rattle.model_syntax.specs.Environment.{Env}
use Rattle.model_syntax.specs.ExprType.{Typing, type_of, type_step, wanted, both_wanted, no_word}
use Rattle.model_syntax.specs.Formed.{expr_formed_step}
use Rattle.model_syntax.specs.Kinds.{is_word}
use Rattle.model_syntax.specs.Limits.{expr_tables, expr_tables_step}
use Rattle.model_syntax.specs.Operation.{apply}
use Rattle.model_syntax.specs.Scope.{Scope}
use Rattle.model_syntax.specs.Spelling.{expr_spellable_step}
use Rattle.model_syntax.specs.Value.{eval, eval_step}
use Rattle.model_syntax.specs.declared.expr.Expr.{Expr, Expr-F, fold-Expr, fold-roll-Expr}
use Rattle.model_syntax.specs.declared.expr.Expr.TheOpen as e
use Rattle.model_syntax.specs.declared.expr.Expr.TheVariants as v
use Rattle.model_syntax.specs.declared.expr.Expr.TheVariants.{Lit, Bin, ToWord, ToByte}
use Rattle.model_syntax.specs.declared.expr.Op.{Op}
use Rattle.model_syntax.specs.declared.expr.Scalar.{Scalar}
use Rattle.model_syntax.specs.declared.expr.Scalar.TheVariants.{Word, Byte}
use Rattle.model_syntax.specs.declared.stmt.Lin.{Lin, Lin-F, fold-Lin, fold-roll-Lin}
use Rattle.model_syntax.specs.declared.stmt.Lin.TheOpen as l
use Rattle.model_syntax.specs.declared.stmt.Lin.TheVariants as side
use Rattle.model_syntax.specs.declared.stmt.Lin.TheVariants.{Sum, Scale}
use Rattle.model_syntax.proofs.laws.Answered.{first_answered, answer_is}
use Rattle.model_syntax.proofs.laws.Arrays.{and_parts, and_both}
use Rattle.model_syntax.proofs.laws.Expressions.{both_are, wanted_is}

-- Folds.

module _ (A : Type 0) (step : Expr-F A → A) where
  abbrev whole : Expr → A
  whole = fold-Expr A step

  pub fold_lit : (n : ℕ) → whole (Lit n) ≡ step (e.Lit n)
  fold_lit n = ap whole (sym (v.rolls-Lit n)) ∙ fold-roll-Expr A step (e.Lit n)

  pub fold_bin : (o : Op) (p q : Expr) → whole (Bin o p q) ≡ step (e.Bin o (whole p) (whole q))
  fold_bin o p q = ap whole (sym (v.rolls-Bin o p q)) ∙ fold-roll-Expr A step (e.Bin o p q)

  pub fold_to_word : (p : Expr) → whole (ToWord p) ≡ step (e.ToWord (whole p))
  fold_to_word p = ap whole (sym (v.rolls-ToWord p)) ∙ fold-roll-Expr A step (e.ToWord p)

  pub fold_to_byte : (p : Expr) → whole (ToByte p) ≡ step (e.ToByte (whole p))
  fold_to_byte p = ap whole (sym (v.rolls-ToByte p)) ∙ fold-roll-Expr A step (e.ToByte p)

module _ (A : Type 0) (step : Lin-F A → A) where
  abbrev whole_side : Lin → A
  whole_side = fold-Lin A step

  pub fold_sum : (p q : Lin) → whole_side (Sum p q) ≡ step (l.Sum (whole_side p) (whole_side q))
  fold_sum p q = ap whole_side (sym (side.rolls-Sum p q)) ∙ fold-roll-Lin A step (l.Sum p q)

  pub fold_scale : (k : ℕ) (p : Lin) → whole_side (Scale k p) ≡ step (l.Scale k (whole_side p))
  fold_scale k p = ap whole_side (sym (side.rolls-Scale k p)) ∙ fold-roll-Lin A step (l.Scale k p)

-- Types.

-- an expression of type word
abbrev pub IsWord : Expr → Scope → Type 0
IsWord p c = type_of p c ≡ Ok Word

type_bin : (o : Op) (p q : Expr) (c : Scope) → type_of (Bin o p q) c ≡ both_wanted Word (type_of p c) (type_of q c)
type_bin o p q c = ap (λ (g : Scope → Typing). g c) (fold_bin (Scope → Typing) type_step o p q)

type_byte : (p : Expr) (c : Scope) → type_of (ToByte p) c ≡ (wanted Word (type_of p c) >>= (λ _. Ok Byte))
type_byte p c = ap (λ (g : Scope → Typing). g c) (fold_to_byte (Scope → Typing) type_step p)

type_word : (p : Expr) (c : Scope) → type_of (ToWord p) c ≡ (no_word (type_of p c) >>= (λ _. Ok Word))
type_word p c = ap (λ (g : Scope → Typing). g c) (fold_to_word (Scope → Typing) type_step p)

pub lit_typed : (n : ℕ) (c : Scope) → IsWord (Lit n) c
lit_typed n c = ap (λ (g : Scope → Typing). g c) (fold_lit (Scope → Typing) type_step n)

pub bin_typed : (o : Op) (p q : Expr) (c : Scope) → IsWord p c → IsWord q c → IsWord (Bin o p q) c
bin_typed o p q c one two = type_bin o p q c ∙ rw (one, two) refl

pub bin_parts : (o : Op) (p q : Expr) (c : Scope) (t : Scalar) → type_of (Bin o p q) c ≡ Ok t
    → IsWord p c × (IsWord q c × (t ≡ Word))
bin_parts o p q c t is = both_are Word (type_of p c) (type_of q c) t (sym (type_bin o p q c) ∙ is)

pub byte_typed : (p : Expr) (c : Scope) → IsWord p c → type_of (ToByte p) c ≡ Ok Byte
byte_typed p c is = type_byte p c ∙ rw is refl

pub byte_parts : (p : Expr) (c : Scope) (t : Scalar) → type_of (ToByte p) c ≡ Ok t → IsWord p c × (t ≡ Byte)
byte_parts p c t is =
    let found = first_answered (wanted Word (type_of p c)) _ t (sym (type_byte p c) ∙ is) in
    ((wanted_is Word (type_of p c) found.0 found.1.0).0, sym (answer_is Byte t found.1.1))

pub word_parts : (p : Expr) (c : Scope) (t : Scalar) → type_of (ToWord p) c ≡ Ok t
    → (u : Scalar) × ((type_of p c ≡ Ok u) × (t ≡ Word))
word_parts p c t is =
    let found = first_answered (no_word (type_of p c)) _ t (sym (type_word p c) ∙ is) in
    let inner = first_answered (type_of p c) _ found.0 found.1.0 in
    (inner.0, (inner.1.0, sym (answer_is Word t found.1.1)))

-- Values.

pub eval_lit : (n : ℕ) (env : Env) → eval (Lit n) env ≡ n
eval_lit n env = ap (λ (g : Env → ℕ). g env) (fold_lit (Env → ℕ) eval_step n)

pub eval_bin : (o : Op) (p q : Expr) (env : Env) → eval (Bin o p q) env ≡ apply o (eval p env) (eval q env)
eval_bin o p q env = ap (λ (g : Env → ℕ). g env) (fold_bin (Env → ℕ) eval_step o p q)

pub eval_word : (p : Expr) (env : Env) → eval (ToWord p) env ≡ eval p env
eval_word p env = ap (λ (g : Env → ℕ). g env) (fold_to_word (Env → ℕ) eval_step p)

pub eval_byte : (p : Expr) (env : Env) → eval (ToByte p) env ≡ eval p env % 256
eval_byte p env = ap (λ (g : Env → ℕ). g env) (fold_to_byte (Env → ℕ) eval_step p)

-- Tables.

pub tables_lit : (n : ℕ) → expr_tables (Lit n) ≡ 0
tables_lit = fold_lit ℕ expr_tables_step

pub tables_bin : (o : Op) (p q : Expr) → expr_tables (Bin o p q) ≡ expr_tables p + expr_tables q
tables_bin = fold_bin ℕ expr_tables_step

pub tables_word : (p : Expr) → expr_tables (ToWord p) ≡ expr_tables p
tables_word = fold_to_word ℕ expr_tables_step

pub tables_byte : (p : Expr) → expr_tables (ToByte p) ≡ expr_tables p
tables_byte = fold_to_byte ℕ expr_tables_step

-- What holds of an expression where it holds of what is in it: that it is formed, and that it is spellable.

pub record IsOfParts (step : Expr-F Bool → Bool) : Type 0 where
  pub bin : (o : Op) (a b : Bool) → step (e.Bin o a b) ≡ (a && b)
  pub word : (a : Bool) → step (e.ToWord a) ≡ a
  pub byte : (a : Bool) → step (e.ToByte a) ≡ a
  pub lit : (n : ℕ) → is_word n ≡ true → step (e.Lit n) ≡ true

pub formed_of_parts : IsOfParts expr_formed_step
formed_of_parts = record { bin = λ o a b. refl; word = λ a. refl; byte = λ a. refl; lit = λ n is. is }

pub spellable_of_parts : IsOfParts expr_spellable_step
spellable_of_parts = record { bin = λ o a b. refl; word = λ a. refl; byte = λ a. refl; lit = λ n is. refl }

module _ (step : Expr-F Bool → Bool) (w : IsOfParts step) where
  abbrev pub Holds : Expr → Type 0
  Holds x = fold-Expr Bool step x ≡ true

  pub sides_hold : (o : Op) (p q : Expr) → Holds (Bin o p q) → Holds p × Holds q
  sides_hold o p q is =
      and_parts (fold-Expr Bool step p) (fold-Expr Bool step q) (sym (w.bin o _ _) ∙ sym (fold_bin Bool step o p q) ∙ is)

  pub bin_holds : (o : Op) (p q : Expr) → Holds p → Holds q → Holds (Bin o p q)
  bin_holds o p q one two = fold_bin Bool step o p q ∙ w.bin o _ _
      ∙ and_both (fold-Expr Bool step p) (fold-Expr Bool step q) one two

  pub lit_holds : (n : ℕ) → is_word n ≡ true → Holds (Lit n)
  lit_holds n is = fold_lit Bool step n ∙ w.lit n is

  pub byte_holds : (p : Expr) → fold-Expr Bool step (ToByte p) ≡ fold-Expr Bool step p
  byte_holds p = fold_to_byte Bool step p ∙ w.byte _

  pub word_holds : (p : Expr) → fold-Expr Bool step (ToWord p) ≡ fold-Expr Bool step p
  word_holds p = fold_to_word Bool step p ∙ w.word _
