-- Each equation keeps both laws, and so does a book of such equations. The laws of a trait are proved by what stands in
-- `specs`, and so are these.
use Rattle.std.proofs.Common.{◌≡◌, refl, sym, ◌∙◌, ap, subst, arith, ℕ, zero, suc, ◌%◌, ◌^◌, ◌<◌, ◌≤◌, Bool, true, List, [], ◌∷◌}
use Rattle.std.proofs.Common.{Option, Some, None, Ok, if◌then◌else◌}
use Rattle.std.specs.List.{slice_get}
use Rattle.std.specs.Option.{option_and_then, option_map}
use Rattle.std.proofs.lemmas.Option.{none-some, same_Some}
use Rattle.equations.specs.Book.{SameMeaning, NoWorse, Laws}
use Rattle.equations.specs.Equations.{Equation, sides, is_neutral, is_literal, literal, power, exchanged, grouped_right}
use Rattle.equations.specs.Equations.{grouped_left, left_alone, computed, unmasked, byte_of_masked, with_mask, word_of_byte}
use Rattle.equations.specs.laws.Fits.{any_is, among_is, sides_are, byte_is, word_is, literal_of, literal_is, mapped, power_is}
use Rattle.equations.specs.laws.Fits.{guarded}
use Rattle.equations.specs.laws.Words.{Commutes, Associates, neutral_word, byte_masks}
use Rattle.model_syntax.specs.Environment.{Env}
use Rattle.model_syntax.specs.Formed.{expr_formed, expr_formed_step}
use Rattle.model_syntax.specs.Kinds.{is_word}
use Rattle.model_syntax.specs.Limits.{expr_tables}
use Rattle.model_syntax.specs.Operation.{apply}
use Rattle.model_syntax.specs.Scope.{Scope}
use Rattle.model_syntax.specs.Spelling.{expr_spellable_step}
use Rattle.model_syntax.specs.Value.{eval}
use Rattle.model_syntax.specs.declared.expr.Expr.{Expr, Expr-F}
use Rattle.model_syntax.specs.declared.expr.Expr.TheVariants.{Lit, Bin, ToWord, ToByte}
use Rattle.model_syntax.specs.declared.expr.Op.{Op}
use Rattle.model_syntax.specs.declared.expr.Op.TheVariants as op
use Rattle.model_syntax.specs.declared.expr.Scalar.TheVariants.{Word}
use Rattle.model_syntax.proofs.laws.Nodes.{fold_lit, IsWord, lit_typed, bin_typed, bin_parts, byte_typed, byte_parts, word_parts}
use Rattle.model_syntax.proofs.laws.Nodes.{eval_lit, eval_bin, eval_word, eval_byte, tables_lit, tables_bin, tables_word}
use Rattle.model_syntax.proofs.laws.Nodes.{tables_byte, IsOfParts, formed_of_parts, spellable_of_parts, Holds, sides_hold}
use Rattle.model_syntax.proofs.laws.Nodes.{bin_holds, lit_holds, byte_holds, word_holds}
use Rattle.model_syntax.proofs.laws.Numbers.{apply_word}
use Rattle.model_syntax.proofs.laws.Words.{word_value}

-- both laws of one left side and its right side
pub record Keeps (left right : Expr) : Type 0 where
  pub meaning : expr_formed left ≡ true → SameMeaning left right
  pub no_worse : NoWorse left right

-- both laws of an equation
abbrev pub Lawful : Equation → Type 0
Lawful equation = (left right : Expr) → equation left ≡ Some right → Keeps left right

-- Meaning, where the left side is an operation.

-- the right side is a word where the sides of the operation are, and has the operation's value where theirs are words
same_bin : (o : Op) (p q right : Expr)
    → ((c : Scope) → IsWord p c → IsWord q c → IsWord right c)
    → ((env : Env) → is_word (eval p env) ≡ true → eval right env ≡ apply o (eval p env) (eval q env))
    → expr_formed (Bin o p q) ≡ true → SameMeaning (Bin o p q) right
same_bin o p q right typed valued formed = record {
  type = λ c t is.
      let h = bin_parts o p q c t is in
      typed c h.0 h.1.0 ∙ ap Ok (sym h.1.1);
  value = λ numbers c env has t is.
      let h = bin_parts o p q c t is in
      let f = sides_hold expr_formed_step formed_of_parts o p q formed in
      valued env (word_value numbers c env has p f.0 Word h.0) ∙ sym (eval_bin o p q env);
}

-- No worse.

no_worse_by : (left right : Expr) → expr_tables right ≤ expr_tables left
    → ((step : Expr-F Bool → Bool) (w : IsOfParts step) → Holds step w left → Holds step w right) → NoWorse left right
no_worse_by left right few holds = record {
  tables = few;
  spellable = holds expr_spellable_step spellable_of_parts;
  formed = holds expr_formed_step formed_of_parts;
}

carried : (left right l r : Expr) → left ≡ l → r ≡ right → Keeps l r → Keeps left right
carried left right l r from to keeps = subst (λ x. Keeps x right) (sym from) (subst (λ y. Keeps l y) to keeps)

-- The equations.

exchanged_keeps : (o : Op) (p q : Expr) → Commutes o → Keeps (Bin o p q) (Bin o q p)
exchanged_keeps o p q commutes = record {
  meaning = same_bin o p q (Bin o q p) (λ c one two. bin_typed o q p c two one)
      (λ env word. eval_bin o q p env ∙ commutes (eval p env) (eval q env));
  no_worse = no_worse_by (Bin o p q) (Bin o q p) (omega (arith, tables_bin o p q, tables_bin o q p))
      (λ step w holds. let h = sides_hold step w o p q holds in bin_holds step w o q p h.1 h.0);
}

pub exchanged_lawful : (o : Op) → Commutes o → Lawful (exchanged o)
exchanged_lawful o commutes left right is =
    let h = sides_are o _ left right is in
    carried left right _ _ h.2.0 (same_Some _ right h.2.1) (exchanged_keeps o h.0 h.1 commutes)

right_value : (o : Op) (p q r : Expr) (env : Env)
    → eval (Bin o p (Bin o q r)) env ≡ apply o (eval p env) (apply o (eval q env) (eval r env))
right_value o p q r env = eval_bin o p (Bin o q r) env ∙ ap (λ n. apply o (eval p env) n) (eval_bin o q r env)

left_value : (o : Op) (p q r : Expr) (env : Env)
    → eval (Bin o (Bin o p q) r) env ≡ apply o (apply o (eval p env) (eval q env)) (eval r env)
left_value o p q r env = eval_bin o (Bin o p q) r env ∙ ap (λ n. apply o n (eval r env)) (eval_bin o p q env)

grouped_tables : (o : Op) (p q r : Expr) → expr_tables (Bin o (Bin o p q) r) ≡ expr_tables (Bin o p (Bin o q r))
grouped_tables o p q r =
    omega (arith, tables_bin o (Bin o p q) r, tables_bin o p q, tables_bin o p (Bin o q r), tables_bin o q r)

right_keeps : (o : Op) (p q r : Expr) → Associates o → Keeps (Bin o (Bin o p q) r) (Bin o p (Bin o q r))
right_keeps o p q r associates = record {
  meaning = same_bin o (Bin o p q) r (Bin o p (Bin o q r))
      (λ c one two. let h = bin_parts o p q c Word one in bin_typed o p (Bin o q r) c h.0 (bin_typed o q r c h.1.0 two))
      (λ env word.
      right_value o p q r env
      ∙ associates (eval p env) (eval q env) (eval r env)
      ∙ ap (λ n. apply o n (eval r env)) (sym (eval_bin o p q env)));
  no_worse = no_worse_by (Bin o (Bin o p q) r) (Bin o p (Bin o q r)) (omega (arith, grouped_tables o p q r))
      (λ step w holds.
      let h = sides_hold step w o (Bin o p q) r holds in
      let k = sides_hold step w o p q h.0 in
      bin_holds step w o p (Bin o q r) k.0 (bin_holds step w o q r k.1 h.1));
}

left_keeps : (o : Op) (p q r : Expr) → Associates o → Keeps (Bin o p (Bin o q r)) (Bin o (Bin o p q) r)
left_keeps o p q r associates = record {
  meaning = same_bin o p (Bin o q r) (Bin o (Bin o p q) r)
      (λ c one two. let h = bin_parts o q r c Word two in bin_typed o (Bin o p q) r c (bin_typed o p q c one h.0) h.1.0)
      (λ env word.
      left_value o p q r env
      ∙ sym (associates (eval p env) (eval q env) (eval r env))
      ∙ ap (λ n. apply o (eval p env) n) (sym (eval_bin o q r env)));
  no_worse = no_worse_by (Bin o p (Bin o q r)) (Bin o (Bin o p q) r) (omega (arith, grouped_tables o p q r))
      (λ step w holds.
      let h = sides_hold step w o p (Bin o q r) holds in
      let k = sides_hold step w o q r h.1 in
      bin_holds step w o (Bin o p q) r (bin_holds step w o p q h.0 k.0) k.1);
}

pub right_lawful : (o : Op) → Associates o → Lawful (grouped_right o)
right_lawful o associates left right is =
    let h = sides_are o _ left right is in
    let k = sides_are o _ h.0 right h.2.1 in
    let at : left ≡ Bin o (Bin o k.0 k.1) h.1 = h.2.0 ∙ ap (λ x. Bin o x h.1) k.2.0 in
    carried left right _ _ at (same_Some _ right k.2.1) (right_keeps o k.0 k.1 h.1 associates)

pub left_lawful : (o : Op) → Associates o → Lawful (grouped_left o)
left_lawful o associates left right is =
    let h = sides_are o _ left right is in
    let k = sides_are o _ h.1 right h.2.1 in
    let at : left ≡ Bin o h.0 (Bin o k.0 k.1) = h.2.0 ∙ ap (λ x. Bin o h.0 x) k.2.0 in
    carried left right _ _ at (same_Some _ right k.2.1) (left_keeps o h.0 k.0 k.1 associates)

-- an operation by a number is another operation by another number
by_number : (o : Op) (e : Expr) (n : ℕ) (to : Op) (k : ℕ) → is_word k ≡ true → ((a : ℕ) → apply to a k ≡ apply o a n)
    → Keeps (Bin o e (Lit n)) (Bin to e (Lit k))
by_number o e n to k small same = record {
  meaning = same_bin o e (Lit n) (Bin to e (Lit k)) (λ c one two. bin_typed to e (Lit k) c one (lit_typed k c))
      (λ env word.
      eval_bin to e (Lit k) env
      ∙ ap (λ m. apply to (eval e env) m) (eval_lit k env)
      ∙ same (eval e env)
      ∙ ap (λ m. apply o (eval e env) m) (sym (eval_lit n env)));
  no_worse = no_worse_by (Bin o e (Lit n)) (Bin to e (Lit k))
      (omega (arith, tables_bin o e (Lit n), tables_bin to e (Lit k), tables_lit n, tables_lit k))
      (λ step w holds. bin_holds step w to e (Lit k) (sides_hold step w o e (Lit n) holds).0 (lit_holds step w k small));
}

-- the same of an equation for the numbers that are powers of two
pub power_lawful : (o to : Op) (f : ℕ → ℕ) → ((k : ℕ) → k < 32 → is_word (f k) ≡ true)
    → ((a k : ℕ) → k < 32 → apply to a (f k) ≡ apply o a (2 ^ k))
    → Lawful (sides o (λ e n. option_map (λ k. Bin to e (Lit (f k))) (power n)))
power_lawful o to f small same left right is =
    let h = sides_are o _ left right is in
    let m = mapped (λ k. Bin to h.0 (Lit (f k))) (power h.1) right h.2.1 in
    let p = power_is h.1 m.0 m.1.0 in
    let at : left ≡ Bin o h.0 (Lit p.0) = h.2.0 ∙ ap (λ x. Bin o h.0 x) p.1.0 in
    let keeps : Keeps (Bin o h.0 (Lit p.0)) (Bin to h.0 (Lit (f m.0))) =
    by_number o h.0 p.0 to (f m.0) (small m.0 p.1.1.1) (λ a. same a m.0 p.1.1.1 ∙ ap (λ n. apply o a n) p.1.1.0) in
    carried left right _ _ at m.1.1 keeps

alone_keeps : (o : Op) (e : Expr) (n : ℕ) → is_neutral o n ≡ true → Keeps (Bin o e (Lit n)) e
alone_keeps o e n neutral = record {
  meaning = same_bin o e (Lit n) e (λ c one two. one)
      (λ env word. sym (ap (λ m. apply o (eval e env) m) (eval_lit n env) ∙ neutral_word o (eval e env) n neutral word));
  no_worse = no_worse_by (Bin o e (Lit n)) e (omega (arith, tables_bin o e (Lit n)))
      (λ step w holds. (sides_hold step w o e (Lit n) holds).0);
}

pub alone_lawful : (n : ℕ) → Lawful (left_alone n)
alone_lawful n left right is =
    let h = among_is (λ o. is_neutral o n) (λ e m. if is_literal n m then Some e else None) left right is in
    let g = guarded (is_literal n h.2) (Some h.1) right h.3.1.1 in
    let at : left ≡ Bin h.0 h.1 (Lit n) = h.3.0 ∙ ap (λ x. Bin h.0 h.1 x) (literal_is n h.2 g.0) in
    carried left right _ _ at (same_Some h.1 right g.1) (alone_keeps h.0 h.1 n h.3.1.0)

word_of_lit : (n : ℕ) → expr_formed (Lit n) ≡ true → is_word n ≡ true
word_of_lit n formed = sym (fold_lit Bool expr_formed_step n) ∙ formed

computed_keeps : (o : Op) (n k : ℕ) → Keeps (Bin o (Lit n) (Lit k)) (Lit (apply o n k))
computed_keeps o n k = record {
  meaning = same_bin o (Lit n) (Lit k) (Lit (apply o n k)) (λ c one two. lit_typed (apply o n k) c)
      (λ env word.
      eval_lit (apply o n k) env
      ∙ ap (λ m. apply o m k) (sym (eval_lit n env))
      ∙ ap (λ m. apply o (eval (Lit n) env) m) (sym (eval_lit k env)));
  no_worse = record {
    tables = omega (arith, tables_lit (apply o n k));
    spellable = λ is. fold_lit Bool expr_spellable_step (apply o n k);
    formed = λ is.
        let h = sides_hold expr_formed_step formed_of_parts o (Lit n) (Lit k) is in
        lit_holds expr_formed_step formed_of_parts (apply o n k) (apply_word o n k (word_of_lit n h.0) (word_of_lit k h.1));
  };
}

pub computed_lawful : Lawful computed
computed_lawful left right is =
    let h = any_is (λ o a b. option_and_then (λ n. option_map (λ k. Lit (apply o n k)) (literal b)) (literal a)) left right is in
    by h.0 h.1 h.2 h.3.0 (literal h.1) refl h.3.1
  where
    by : (o : Op) (a b : Expr) → left ≡ Bin o a b → (found : Option ℕ) → literal a ≡ found
        → option_and_then (λ n. option_map (λ k. Lit (apply o n k)) (literal b)) found ≡ Some right → Keeps left right
    by o a b at None is_none some = absurd (none-some right some)
    by o a b at (Some n) is_some some =
        let m = mapped (λ k. Lit (apply o n k)) (literal b) right some in
        let whole : left ≡ Bin o (Lit n) (Lit m.0) = at
        ∙ ap (λ x. Bin o x b) (literal_of a n is_some)
        ∙ ap (λ x. Bin o (Lit n) x) (literal_of b m.0 m.1.0) in
        carried left right _ _ whole m.1.1 (computed_keeps o n m.0)

masked_value : (e : Expr) (env : Env) → eval (Bin op.And e (Lit 255)) env ≡ eval e env % 256
masked_value e env =
    eval_bin op.And e (Lit 255) env ∙ ap (λ m. apply op.And (eval e env) m) (eval_lit 255 env) ∙ byte_masks (eval e env)

byte_keeps : (e : Expr) → Keeps (ToByte (Bin op.And e (Lit 255))) (ToByte e)
byte_keeps e = record {
  meaning = λ formed. record {
    type = λ c t is.
        let h = byte_parts (Bin op.And e (Lit 255)) c t is in
        byte_typed e c (bin_parts op.And e (Lit 255) c Word h.0).0 ∙ ap Ok (sym h.1);
    value = λ numbers c env has t is.
        eval_byte e env
        ∙ sym (eval_byte (Bin op.And e (Lit 255)) env ∙ ap (λ m. m % 256) (masked_value e env) ∙ twice (eval e env));
  };
  no_worse = no_worse_by (ToByte (Bin op.And e (Lit 255))) (ToByte e)
      (omega (arith, tables_byte (Bin op.And e (Lit 255)), tables_bin op.And e (Lit 255), tables_byte e))
      (λ step w holds.
      byte_holds step w e ∙ (sides_hold step w op.And e (Lit 255) (sym (byte_holds step w (Bin op.And e (Lit 255))) ∙ holds)).0);
}
  where
    twice : (a : ℕ) → a % 256 % 256 ≡ a % 256
    twice a = omega arith

pub byte_lawful : Lawful byte_of_masked
byte_lawful left right is =
    let b = byte_is unmasked left right is in
    let h = sides_are op.And (λ e n. if is_literal 255 n then Some (ToByte e) else None) b.0 right b.1.1 in
    let g = guarded (is_literal 255 h.1) (Some (ToByte h.0)) right h.2.1 in
    let at : left ≡ ToByte (Bin op.And h.0 (Lit 255)) = b.1.0
    ∙ ap ToByte (h.2.0 ∙ ap (λ x. Bin op.And h.0 x) (literal_is 255 h.1 g.0)) in
    carried left right _ _ at (same_Some (ToByte h.0) right g.1) (byte_keeps h.0)

word_keeps : (e : Expr) → Keeps (ToWord (ToByte e)) (Bin op.And e (Lit 255))
word_keeps e = record {
  meaning = λ formed. record {
    type = λ c t is.
        let h = word_parts (ToByte e) c t is in
        bin_typed op.And e (Lit 255) c (byte_parts e c h.0 h.1.0).0 (lit_typed 255 c) ∙ ap Ok (sym h.1.1);
    value = λ numbers c env has t is. masked_value e env ∙ sym (eval_word (ToByte e) env ∙ eval_byte e env);
  };
  no_worse = no_worse_by (ToWord (ToByte e)) (Bin op.And e (Lit 255))
      (omega (arith, tables_word (ToByte e), tables_byte e, tables_bin op.And e (Lit 255), tables_lit 255))
      (λ step w holds.
      bin_holds step w op.And e (Lit 255) (sym (byte_holds step w e) ∙ sym (word_holds step w (ToByte e)) ∙ holds)
      (lit_holds step w 255 refl));
}

pub word_lawful : Lawful word_of_byte
word_lawful left right is =
    let h = word_is with_mask left right is in
    let b = byte_is (λ e. Some (Bin op.And e (Lit 255))) h.0 right h.1.1 in
    let at : left ≡ ToWord (ToByte b.0) = h.1.0 ∙ ap ToWord b.1.0 in
    carried left right _ _ at (same_Some _ right b.1.1) (word_keeps b.0)

-- The book.

abbrev pub Each : List Equation → Type 0
Each [] = Unit {0}
Each (e ∷ es) = Lawful e × Each es

-- each equation of a list is lawful
pub record AllLawful (es : List Equation) : Type 0 where
  pub each : Each es

infixr 10 ◌and◌
-- one lawful equation and more
pub ◌and◌ : {e : Equation} {es : List Equation} → Lawful e → AllLawful es → AllLawful (e ∷ es)
one and more = record { each = (one, more.each) }

pub no_more : AllLawful []
no_more = record { each = tt }

step_lawful : (es : List Equation) → Each es → (step : ℕ) (left right : Expr)
    → option_and_then (λ equation. equation left) (slice_get es step) ≡ Some right → Keeps left right
step_lawful [] all step left right is = absurd (none-some right is)
step_lawful (e ∷ es) all zero left right is = all.0 left right is
step_lawful (e ∷ es) all (suc step) left right is = step_lawful es all.1 step left right is

-- a book of lawful equations keeps both laws
pub book_lawful : (es : List Equation) → AllLawful es
    → Laws (λ step left. option_and_then (λ equation. equation left) (slice_get es step))
book_lawful es all = record {
  keeps_meaning = λ step left right is formed. (step_lawful es all.each step left right is).meaning formed;
  makes_nothing_worse = λ step left right is. (step_lawful es all.each step left right is).no_worse;
}
