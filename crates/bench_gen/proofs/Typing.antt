-- The generated statements are well typed: each keeps eight words, the word and the array in scope.
use Rattle.std.proofs.Common.{◌≡◌, refl, ◌∙◌, ap, arith, ℕ, zero, suc, ◌%◌, ◌<◌, nat_eq, Bool, true, false, List, ◌∷◌, map, Some}
use Rattle.std.proofs.Common.{None, Ok, if◌then◌else◌}
use Rattle.model_syntax.specs.Limits as limits
use Rattle.model_syntax.specs.Names.{Name, same}
use Rattle.model_syntax.specs.Scope.{Scope, look_up, bind, scalar_may_take}
use Rattle.model_syntax.specs.Types.{Block, stmt, stmt_step, in_turn}
use Rattle.model_syntax.specs.declared.expr.Expr.{Expr}
use Rattle.model_syntax.specs.declared.expr.Expr.TheVariants as e
use Rattle.model_syntax.specs.declared.expr.Op.TheVariants as op
use Rattle.model_syntax.specs.declared.expr.Scalar.TheVariants.{Word, Byte}
use Rattle.model_syntax.specs.declared.program.Len.TheVariants.{Named}
use Rattle.model_syntax.specs.declared.scope.NameType.TheVariants.{Scalar as One, Array as Many}
use Rattle.model_syntax.specs.declared.stmt.Stmt.{Stmt}
use Rattle.model_syntax.specs.declared.stmt.Stmt.TheOpen as s
use Rattle.model_syntax.specs.declared.stmt.Stmt.TheVariants as w
use Rattle.model_syntax.proofs.laws.Bindings.{up_here, up_else}
use Rattle.bench_gen.specs.Generator.{next, after_four, drawn, scalar, word_name, array_name, length_name, element_name, var}
use Rattle.bench_gen.specs.Generator.{first, sum, mix, shift, hash, of_kind, statement, statements}
use Rattle.bench_gen.proofs.Nodes.{IsWord, lit_typed, var_typed, bin_typed, word_typed, at_stmt}

-- what is in scope at each drawn statement
pub record Stands (c : Scope) : Type 0 where
  pub word : look_up c word_name ≡ Some (One Word)
  pub array : look_up c array_name ≡ Some (Many Byte (Named length_name))
  pub element : look_up c element_name ≡ None
  pub scalars : (k : ℕ) → k < 8 → look_up c (scalar k) ≡ Some (One Word)

bound_stands : (c : Scope) (a : ℕ) → Stands c → Stands (bind (scalar a) (One Word) c)
bound_stands c a is = record {
  word = up_else c (scalar a) word_name (One Word) refl ∙ is.word;
  array = up_else c (scalar a) array_name (One Word) refl ∙ is.array;
  element = up_else c (scalar a) element_name (One Word) refl ∙ is.element;
  scalars = λ k few. by k few (same (scalar a) (scalar k)) refl;
}
  where
    by : (k : ℕ) → k < 8 → (here : Bool) → same (scalar a) (scalar k) ≡ here → look_up (bind (scalar a) (One Word) c) (scalar k)
        ≡ Some (One Word)
    by k few true here = up_here c (scalar a) (scalar k) (One Word) here
    by k few false here = up_else c (scalar a) (scalar k) (One Word) here ∙ is.scalars k few

-- a statement leads from a scope to another
abbrev pub Leads : Stmt → Scope → Scope → Type 0
Leads x c d = (k : ℕ) → stmt x (k, c) ≡ Ok (limits.next k, d)

let_leads : (x : Name) (p : Expr) (c : Scope) → scalar_may_take (look_up c x) ≡ Ok tt → IsWord p c
    → Leads (w.Let x p) c (bind x (One Word) c)
let_leads x p c may is k =
    ap (λ (b : Block). b (k, c)) (at_stmt Block stmt_step (s.Let x p) _ (w.rolls-Let x p)) ∙ rw (may, is) refl

-- the statements that bind the scalars
pub first_leads : (k : ℕ) (c : Scope) → look_up c word_name ≡ Some (One Word) → scalar_may_take (look_up c (scalar k)) ≡ Ok tt
    → Leads (first k) c (bind (scalar k) (One Word) c)
first_leads k c word may = let_leads (scalar k) _ c may (bin_typed op.Add _ _ c (var_typed word_name Word c word) (lit_typed k c))

module _ (c : Scope) (is : Stands c) where
  var_word : (k : ℕ) → k < 8 → IsWord (var k) c
  var_word k few = var_typed (scalar k) Word c (is.scalars k few)

  scalar_leads : (a : ℕ) (p : Expr) → a < 8 → IsWord p c → Leads (w.Let (scalar a) p) c (bind (scalar a) (One Word) c)
  scalar_leads a p few word = let_leads (scalar a) p c (rw (is.scalars a few) refl) word

  sum_leads : (a b d : ℕ) → a < 8 → b < 8 → d < 8 → Leads (sum a b d) c (bind (scalar a) (One Word) c)
  sum_leads a b d i j k = scalar_leads a _ i (bin_typed op.Add _ _ c (var_word b j) (var_word d k))

  mix_leads : (a b d : ℕ) → a < 8 → b < 8 → d < 8 → Leads (mix a b d) c (bind (scalar a) (One Word) c)
  mix_leads a b d i j k = scalar_leads a _ i
      (bin_typed op.Xor _ _ c (var_word b j) (bin_typed op.Mul _ _ c (var_word d k) (lit_typed 31 c)))

  shift_leads : (a b d : ℕ) → a < 8 → b < 8 → d < 8 → Leads (shift a b d) c (bind (scalar a) (One Word) c)
  shift_leads a b d i j k = scalar_leads a _ i
      (bin_typed op.Sub _ _ c (bin_typed op.Shr _ _ c (var_word b j) (lit_typed 3 c)) (var_word d k))

  -- a fold leaves the scope
  hash_leads : (a : ℕ) → a < 8 → Leads (hash a) c c
  hash_leads a few k =
      ap (λ (b : Block). b (k, c)) (at_stmt Block stmt_step (s.Fold (scalar a) array_name element_name value) _
      (w.rolls-Fold (scalar a) array_name element_name value))
      ∙ rw (is.scalars a few, is.array, is.element, inside) refl
    where
      value : Expr
      value = e.Bin op.Add (e.Bin op.Mul (var a) (e.Lit 31)) (e.ToWord (e.Var element_name))

      inner : Scope
      inner = bind element_name (One Byte) c

      far : look_up inner (scalar a) ≡ Some (One Word)
      far = up_else c element_name (scalar a) (One Byte) refl ∙ is.scalars a few

      near : look_up inner element_name ≡ Some (One Byte)
      near = up_here c element_name element_name (One Byte) refl

      inside : IsWord value inner
      inside = bin_typed op.Add _ _ inner (bin_typed op.Mul _ _ inner (var_typed (scalar a) Word inner far) (lit_typed 31 inner))
          (word_typed _ inner (var_typed element_name Byte inner near))

  -- the scope after a statement
  abbrev pub LeadsOn : Stmt → Type 0
  LeadsOn x = (d : Scope) × (Stands d × Leads x c d)

  bound_on : (a : ℕ) (x : Stmt) → Leads x c (bind (scalar a) (One Word) c) → LeadsOn x
  bound_on a x leads = (bind (scalar a) (One Word) c, (bound_stands c a is, leads))

  kind_leads : (kind a b d : ℕ) → a < 8 → b < 8 → d < 8 → LeadsOn (of_kind kind a b d)
  kind_leads kind a b d i j k = by (nat_eq kind 0) (nat_eq kind 1) (nat_eq kind 2)
    where
      by : (p q r : Bool) → LeadsOn (if p then sum a b d else (if q then mix a b d else (if r then shift a b d else hash a)))
      by true q r = bound_on a (sum a b d) (sum_leads a b d i j k)
      by false true r = bound_on a (mix a b d) (mix_leads a b d i j k)
      by false false true = bound_on a (shift a b d) (shift_leads a b d i j k)
      by false false false = (c, (is, hash_leads a i))

  statement_leads : (state : ℕ) → LeadsOn (statement state)
  statement_leads state = kind_leads (drawn (next state) % 4) _ _ _ (omega arith) (omega arith) (omega arith)

-- a block leads from a scope to another
pub record Ends (bs : List Block) (c : Scope) : Type 0 where
  pub scope : Scope
  pub stands : Stands scope
  pub leads : (k : ℕ) → (j : ℕ) × (in_turn bs (k, c) ≡ Ok (j, scope))

pub first_of : (x : Stmt) (bs : List Block) (c d : Scope) → Leads x c d → Ends bs d → Ends (stmt x ∷ bs) c
first_of x bs c d here rest = record {
  scope = rest.scope;
  stands = rest.stands;
  leads = λ k. let end = rest.leads (limits.next k) in (end.0, rw (here k) end.1);
}

pub drawn_end : (count state : ℕ) (c : Scope) → Stands c → Ends (map stmt (statements count state)) c
drawn_end zero state c is = record { scope = c; stands = is; leads = λ k. (k, refl) }
drawn_end (suc count) state c is =
    let here = statement_leads c is state in
    first_of (statement state) (map stmt (statements count (after_four state))) c here.0 here.1.1
    (drawn_end count (after_four state) here.0 here.1.0)
