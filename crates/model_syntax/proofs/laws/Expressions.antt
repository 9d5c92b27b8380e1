-- A well typed expression has a value of its type.
use Rattle.std.proofs.Common.{◌≡◌, refl, sym, ◌∙◌, ap, subst, ℕ, ◌%◌, nat_le, Bool, true, false, not, ◌&&◌, ◌||◌, List, [], ◌∷◌}
use Rattle.std.proofs.Common.{map, get_or, Option, Some, None, Ok, Err}
use Rattle.std.specs.List.{list_all}
use Rattle.rup_base.specs.Gather.{all_true}
use Rattle.rup_base.specs.declared.arg.Arg.{Arg}
use Rattle.rup_base.specs.declared.arg.Arg.TheVariants as arg
use Rattle.model_syntax.specs.Environment.{Env, value_of, number, elements, size}
use Rattle.model_syntax.specs.ExprType.{Typing, type_of, type_step, wanted, both_wanted, no_word}
use Rattle.model_syntax.specs.Formed.{expr_formed, expr_formed_step}
use Rattle.model_syntax.specs.Kinds.{is_word, is_byte}
use Rattle.model_syntax.specs.Names.{Name}
use Rattle.model_syntax.specs.Operation.{apply, holds}
use Rattle.model_syntax.specs.Scope.{Scope, look_up, scalar_in, element_in}
use Rattle.model_syntax.specs.Sound.{is_number, is_array, is_of_type, length_of, IsTyped, ExpressionLaw}
use Rattle.model_syntax.specs.Spelling.{expr_spellable, expr_spellable_step, is_table, has_entry}
use Rattle.model_syntax.specs.Value.{eval, eval_step, flag, is_true}
use Rattle.model_syntax.specs.declared.expr.Expr.{Expr, Expr-F, ind-Expr, map-Expr, roll-Expr, fold-roll-Expr}
use Rattle.model_syntax.specs.declared.expr.Expr.TheOpen as e
use Rattle.model_syntax.specs.declared.expr.Scalar.{Scalar}
use Rattle.model_syntax.specs.declared.expr.Scalar.TheVariants.{Word, Byte, Flag}
use Rattle.model_syntax.specs.declared.scope.NameType.{NameType}
use Rattle.model_syntax.specs.declared.scope.NameType.TheVariants.{Scalar as One, Array as Many}
use Rattle.model_syntax.specs.declared.program.Len.{Len}
use Rattle.model_syntax.proofs.laws.Answered.{first_answered, answer_is}
use Rattle.model_syntax.proofs.laws.Arrays.{and_parts, zero_number, all_at, array_parts, size_whole}
use Rattle.model_syntax.proofs.laws.Numbers.{apply_word, byte_word, flag_word, low_byte}

-- What rules of types say.

pub scalar_is : (o : Option NameType) (t : Scalar) → scalar_in o ≡ Ok t → o ≡ Some (One t)
scalar_is None t is = absurd (cc)
scalar_is (Some (One u)) t is = cc
scalar_is (Some (Many u k)) t is = absurd (cc)

pub element_is : (o : Option NameType) (t : Scalar) → element_in o ≡ Ok t → (k : Len) × (o ≡ Some (Many t k))
element_is None t is = absurd (cc)
element_is (Some (One u)) t is = absurd (cc)
element_is (Some (Many u k)) t is = (k, (let same : u ≡ t = cc in ap (λ (v : Scalar). Some (Many v k)) same))

-- an expression of the wanted type
pub wanted_is : (t : Scalar) (found : Typing) (u : Scalar) → wanted t found ≡ Ok u → (found ≡ Ok t) × (u ≡ t)
wanted_is t (Err why) u is = absurd (cc)
wanted_is Word (Ok Word) u is = (refl, cc)
wanted_is Byte (Ok Byte) u is = (refl, cc)
wanted_is Flag (Ok Flag) u is = (refl, cc)
wanted_is Word (Ok Byte) u is = absurd (cc)
wanted_is Word (Ok Flag) u is = absurd (cc)
wanted_is Byte (Ok Word) u is = absurd (cc)
wanted_is Byte (Ok Flag) u is = absurd (cc)
wanted_is Flag (Ok Word) u is = absurd (cc)
wanted_is Flag (Ok Byte) u is = absurd (cc)

pub both_are : (t : Scalar) (one two : Typing) (u : Scalar) → both_wanted t one two ≡ Ok u
    → (one ≡ Ok t) × ((two ≡ Ok t) × (u ≡ t))
both_are t one two u is =
    let first = first_answered (wanted t one) _ u is in
    let second = wanted_is t two u first.1.1 in
    ((wanted_is t one first.0 first.1.0).0, second)

-- Values.

flag_number : (b : Bool) → is_number Flag (flag b) ≡ true
flag_number true = refl
flag_number false = refl

table_entries : (t : Scalar) (ns : List ℕ) → all_true (map is_word ns) ≡ true → is_table t ns ≡ true
    → all_true (map (is_number t) ns) ≡ true
table_entries Word ns formed spelled = formed
table_entries Byte ns formed spelled = bytes ns (and_parts (has_entry ns) (list_all (λ n. nat_le n 255) ns) spelled).1
  where
    bytes : (ms : List ℕ) → list_all (λ n. nat_le n 255) ms ≡ true → all_true (map is_byte ms) ≡ true
    bytes [] all = refl
    bytes (m ∷ ms) all =
        let parts = and_parts (nat_le m 255) (list_all (λ n. nat_le n 255) ms) all in
        rw (parts.0, bytes ms parts.1) refl
table_entries Flag ns formed spelled = absurd (cc)

module _ (numbers : Name → ℕ) (c : Scope) (env : Env) (typed : IsTyped numbers c env) where
  -- a scalar in scope
  pub scalar_value : (x : Name) (t : Scalar) → scalar_in (look_up c x) ≡ Ok t → is_number t (number (value_of env x)) ≡ true
  scalar_value x t found =
      let h = typed x (One t) (scalar_is (look_up c x) t found) in
      of_value h.value h.held h.typed
    where
      of_value : (v : Arg) → value_of env x ≡ Some v → is_of_type numbers (One t) v ≡ true
          → is_number t (number (value_of env x)) ≡ true
      of_value (arg.Word n) held is = rw held is
      of_value (arg.Bytes ns) held is = absurd (cc)
      of_value (arg.Words ns) held is = absurd (cc)

  -- an array in scope
  pub array_value : (a : Name) (t : Scalar) → element_in (look_up c a) ≡ Ok t
      → (n : ℕ) × (v : Arg) × ((value_of env a ≡ Some v) × (is_array t n v ≡ true))
  array_value a t found =
      let k = element_is (look_up c a) t found in
      let h = typed a (Many t k.0) k.1 in
      (length_of numbers k.0, h.value, (h.held, h.typed))

  pub length_value : (a : Name) (t : Scalar) → element_in (look_up c a) ≡ Ok t → is_word (size (elements (value_of env a))) ≡ true
  length_value a t found =
      let h = array_value a t found in
      rw h.2.0 (size_whole t h.0 h.1 h.2.1).1

  pub element_value : (a : Name) (t : Scalar) (i : ℕ) → element_in (look_up c a) ≡ Ok t
      → is_number t (get_or (elements (value_of env a)) i 0) ≡ true
  element_value a t i found =
      let h = array_value a t found in
      rw h.2.0 (all_at (is_number t) (elements (Some h.1)) i (zero_number t) (array_parts t h.0 h.1 h.2.1).all)

  abbrev IsOk : Expr → Type 0
  IsOk w = expr_formed w ≡ true → expr_spellable w ≡ true → (t : Scalar) → type_of w c ≡ Ok t → is_number t (eval w env) ≡ true

  abbrev Proved : Type 0
  Proved = (w : Expr) × IsOk w

  at_layer : (y : Expr-F Expr)
      → (expr_formed_step (map-Expr Expr Bool expr_formed y) ≡ true → expr_spellable_step (map-Expr Expr Bool expr_spellable y)
      ≡ true
      → (t : Scalar) → type_step (map-Expr Expr (Scope → Typing) type_of y) c ≡ Ok t
      → is_number t (eval_step (map-Expr Expr (Env → ℕ) eval y) env) ≡ true)
      → IsOk (roll-Expr y)
  at_layer y f formed spelled t is =
      ap (λ (g : Env → ℕ). is_number t (g env)) (fold-roll-Expr (Env → ℕ) eval_step y)
      ∙ f (sym (fold-roll-Expr Bool expr_formed_step y) ∙ formed) (sym (fold-roll-Expr Bool expr_spellable_step y) ∙ spelled) t
      (sym (ap (λ (g : Scope → Typing). g c) (fold-roll-Expr (Scope → Typing) type_step y)) ∙ is)

  -- of two expressions that are formed and spelled
  of_both : (t : Scalar) (k m : Proved) → (expr_formed k.0 && expr_formed m.0) ≡ true → (expr_spellable k.0 && expr_spellable m.0)
      ≡ true
      → type_of k.0 c ≡ Ok t → type_of m.0 c ≡ Ok t → (is_number t (eval k.0 env) ≡ true) × (is_number t (eval m.0 env) ≡ true)
  of_both t k m formed spelled one two =
      let f = and_parts (expr_formed k.0) (expr_formed m.0) formed in
      let s = and_parts (expr_spellable k.0) (expr_spellable m.0) spelled in
      (k.1 f.0 s.0 t one, m.1 f.1 s.1 t two)

  as_type : (t u : Scalar) (n : ℕ) → u ≡ t → is_number t n ≡ true → is_number u n ≡ true
  as_type t u n same is = subst (λ (w : Scalar). is_number w n ≡ true) (sym same) is

  -- a byte or a flag as a word
  word_value : (found : Typing) (t : Scalar) (n : ℕ) → no_word found ≡ Ok t → ((u : Scalar) → found ≡ Ok u → is_number u n ≡ true)
      → is_word n ≡ true
  word_value (Err why) t n is known = absurd (cc)
  word_value (Ok Word) t n is known = absurd (cc)
  word_value (Ok Byte) t n is known = byte_word n (known Byte refl)
  word_value (Ok Flag) t n is known = flag_word n (known Flag refl)

  node : (y : Expr-F Proved) → IsOk (roll-Expr (map-Expr Proved Expr (λ k. k.0) y))
  node (e.Lit n) = at_layer (e.Lit n) (λ formed spelled t is. as_type Word t n (sym (answer_is Word t is)) formed)
  node (e.Var x) = at_layer (e.Var x) (λ formed spelled t is. scalar_value x t is)
  node (e.Length a) =
      at_layer (e.Length a) (λ formed spelled t is.
      let found = first_answered (element_in (look_up c a)) _ t is in
      as_type Word t (size (elements (value_of env a))) (sym (answer_is Word t found.1.1)) (length_value a found.0 found.1.0))
  node (e.Bin op k m) =
      at_layer (e.Bin op k.0 m.0) (λ formed spelled t is.
      let both = both_are Word (type_of k.0 c) (type_of m.0 c) t is in
      let values = of_both Word k m formed spelled both.0 both.1.0 in
      as_type Word t (apply op (eval k.0 env) (eval m.0 env)) both.1.1
      (apply_word op (eval k.0 env) (eval m.0 env) values.0 values.1))
  node (e.Test cmp k m) =
      at_layer (e.Test cmp k.0 m.0) (λ formed spelled t is.
      let both = first_answered (both_wanted Word (type_of k.0 c) (type_of m.0 c)) _ t is in
      as_type Flag t (flag (holds cmp (eval k.0 env) (eval m.0 env))) (sym (answer_is Flag t both.1.1))
      (flag_number (holds cmp (eval k.0 env) (eval m.0 env))))
  node (e.Not k) =
      at_layer (e.Not k.0) (λ formed spelled t is.
      as_type Flag t (flag (not (is_true (eval k.0 env)))) (wanted_is Flag (type_of k.0 c) t is).1
      (flag_number (not (is_true (eval k.0 env)))))
  node (e.Both k m) =
      at_layer (e.Both k.0 m.0) (λ formed spelled t is.
      as_type Flag t (flag (is_true (eval k.0 env) && is_true (eval m.0 env)))
      (both_are Flag (type_of k.0 c) (type_of m.0 c) t is).1.1
      (flag_number (is_true (eval k.0 env) && is_true (eval m.0 env))))
  node (e.Either k m) =
      at_layer (e.Either k.0 m.0) (λ formed spelled t is.
      as_type Flag t (flag (is_true (eval k.0 env) || is_true (eval m.0 env)))
      (both_are Flag (type_of k.0 c) (type_of m.0 c) t is).1.1
      (flag_number (is_true (eval k.0 env) || is_true (eval m.0 env))))
  node (e.ToWord k) =
      at_layer (e.ToWord k.0) (λ formed spelled t is.
      let found = first_answered (no_word (type_of k.0 c)) _ t is in
      as_type Word t (eval k.0 env) (sym (answer_is Word t found.1.1))
      (word_value (type_of k.0 c) found.0 (eval k.0 env) found.1.0 (λ u of_type. k.1 formed spelled u of_type)))
  node (e.ToByte k) =
      at_layer (e.ToByte k.0) (λ formed spelled t is.
      let found = first_answered (wanted Word (type_of k.0 c)) _ t is in
      as_type Byte t (eval k.0 env % 256) (sym (answer_is Byte t found.1.1)) (low_byte (eval k.0 env)))
  node (e.Get a k) =
      at_layer (e.Get a k.0) (λ formed spelled t is.
      let found = first_answered (element_in (look_up c a)) _ t is in
      let index = first_answered (wanted Word (type_of k.0 c)) _ t found.1.1 in
      as_type found.0 t (get_or (elements (value_of env a)) (eval k.0 env) 0) (sym (answer_is found.0 t index.1.1))
      (element_value a found.0 (eval k.0 env) found.1.0))
  node (e.Tab u ns k) =
      at_layer (e.Tab u ns k.0) (λ formed spelled t is.
      let index = first_answered (wanted Word (type_of k.0 c)) _ t is in
      let entries_formed = and_parts (all_true (map is_word ns)) (expr_formed k.0) formed in
      let entries_spelled = and_parts (is_table u ns) (expr_spellable k.0) spelled in
      as_type u t (get_or ns (eval k.0 env) 0) (sym (answer_is u t index.1.1))
      (all_at (is_number u) ns (eval k.0 env) (zero_number u) (table_entries u ns entries_formed.0 entries_spelled.0)))

  sound : (w : Expr) → IsOk w
  sound = ind-Expr IsOk (λ z y is. subst (λ w. IsOk (roll-Expr w)) is (node y))

pub expressions_sound : ExpressionLaw
expressions_sound numbers c env typed w formed spelled t is = sound numbers c env typed w formed spelled t is
