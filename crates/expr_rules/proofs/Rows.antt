-- Each node of a derivation is sound where its kids are, and so is the whole tree.
use Rattle.std.proofs.Common.{◌≡◌, refl, sym, ◌∙◌, ap, subst, ℕ, ◌%◌, Bool, true, false, List, [], ◌∷◌, map, is_some}
use Rattle.std.proofs.Common.{if◌then◌else◌, Ok, Err}
use Rattle.std.proofs.lemmas.Bool.{leb-true}
use Rattle.rup_base.specs.Name.{is_name}
use Rattle.model_syntax.specs.declared.expr.Op.{Op}
use Rattle.model_syntax.specs.declared.expr.Op.TheVariants as op
use Rattle.model_syntax.specs.declared.expr.Expr.{Expr, Expr-F, out-Expr, map-Expr}
use Rattle.model_syntax.specs.declared.expr.Expr.TheFolds.{fold_out-Expr}
use Rattle.model_syntax.specs.declared.expr.Expr.TheOpen as e
use Rattle.model_syntax.specs.declared.expr.Scalar.{Scalar}
use Rattle.model_syntax.specs.declared.expr.Scalar.TheVariants.{Word, Byte, Flag}
use Rattle.model_syntax.specs.declared.program.Param.{Param}
use Rattle.model_syntax.specs.Environment.{Env}
use Rattle.model_syntax.specs.Operation.{apply}
use Rattle.model_syntax.specs.ExprType.{Typing, type_of, type_step, wanted, both_wanted, no_word}
use Rattle.model_syntax.specs.Formed.{expr_formed, expr_formed_step, numbers_formed}
use Rattle.model_syntax.specs.Scope.{Scope, look_up, element_in}
use Rattle.model_syntax.specs.Spelling.{expr_spellable, expr_spellable_step, is_table}
use Rattle.model_syntax.specs.Value.{eval, eval_step}
use Rattle.model_syntax.proofs.laws.Answered.{first_answered, answer_is}
use Rattle.model_syntax.proofs.laws.Arrays.{and_parts}
use Rattle.model_syntax.proofs.laws.Expressions.{scalar_is, wanted_is, both_are}
use Rattle.sym_heap.specs.Context.{Context, own}
use Rattle.sym_heap.specs.Fits.{IsConsistent}
use Rattle.sym_heap.specs.Scoped.{IsScoped}
use Rattle.equations.specs.Book.{Turn, Laws}
use Rattle.deriv_tree.specs.declared.rule.Rule as deriv
use Rattle.deriv_tree.specs.declared.rule.Rule.TheVariants as rule
use Rattle.deriv_tree.specs.declared.tree.Step.{Step}
use Rattle.deriv_tree.specs.declared.tree.ExprNode.{ExprNode, ExprNode-F, ind-ExprNode, map-ExprNode, roll-ExprNode}
use Rattle.deriv_tree.specs.declared.tree.ExprNode.{fold-roll-ExprNode}
use Rattle.expr_rules.specs.declared.output.ExprOut.{ExprOut}
use Rattle.expr_rules.specs.Words.{Rule, ◌>>=◌, need, counted, has_counts, are_none, Judged, one_kid, found}
use Rattle.expr_rules.specs.Row.{is_add, is_sub, is_mul, is_and, is_shl, is_remu, fits, certs_of, binary, low, parts, node_row}
use Rattle.expr_rules.specs.Row.{judged_step, judged, args_of, rewritten, is_rewrite}
use Rattle.expr_rules.specs.Sound.{ExprDone, Yields, IsSound, InstancesAreSound}
use Rattle.expr_rules.specs.rules.Lit as lit
use Rattle.expr_rules.specs.rules.Var as var
use Rattle.expr_rules.specs.rules.Len as len
use Rattle.expr_rules.specs.rules.Not as negation
use Rattle.expr_rules.specs.rules.Word as word
use Rattle.expr_rules.specs.rules.Cmp as cmp
use Rattle.expr_rules.specs.rules.Both as both
use Rattle.expr_rules.specs.rules.Either as either
use Rattle.expr_rules.specs.rules.Get as element_of
use Rattle.expr_rules.specs.rules.Tab as entry_of
use Rattle.expr_rules.specs.rules.Rw as rewriting
use Rattle.expr_rules.proofs.laws.Yields.{yields_need, yields_found}
use Rattle.expr_rules.proofs.Came.{came_start}
use Rattle.expr_rules.proofs.Kids.{SoundKid, SoundKids, Pair, yields_one, yields_kid, yields_two}
use Rattle.expr_rules.proofs.sound.Lit as lit_holds
use Rattle.expr_rules.proofs.sound.Var as var_holds
use Rattle.expr_rules.proofs.sound.Len as len_holds
use Rattle.expr_rules.proofs.sound.Op as op_holds
use Rattle.expr_rules.proofs.sound.Add as add_holds
use Rattle.expr_rules.proofs.sound.Sub as sub_holds
use Rattle.expr_rules.proofs.sound.Mulk as mulk_holds
use Rattle.expr_rules.proofs.sound.Mask as mask_holds
use Rattle.expr_rules.proofs.sound.Shift as shift_holds
use Rattle.expr_rules.proofs.sound.Remk as remk_holds
use Rattle.expr_rules.proofs.sound.Divk as divk_holds
use Rattle.expr_rules.proofs.sound.Not as not_holds
use Rattle.expr_rules.proofs.sound.Word as word_holds
use Rattle.expr_rules.proofs.sound.Byte as byte_holds
use Rattle.expr_rules.proofs.sound.Cut as cut_holds
use Rattle.expr_rules.proofs.sound.Cmp as cmp_holds
use Rattle.expr_rules.proofs.sound.Both as both_holds
use Rattle.expr_rules.proofs.sound.Either as either_holds
use Rattle.expr_rules.proofs.sound.Get as get_holds
use Rattle.expr_rules.proofs.sound.Tab as tab_holds
use Rattle.expr_rules.proofs.sound.Rw as rw_holds

-- an expression from its parts
abbrev evaluated : Expr-F Expr → Env → ℕ
evaluated y = eval_step (map-Expr Expr (Env → ℕ) eval y)

record GoodParts (scope : Scope) (y : Expr-F Expr) (t : Scalar) : Type 0 where
  pub formed : expr_formed_step (map-Expr Expr Bool expr_formed y) ≡ true
  pub spelled : expr_spellable_step (map-Expr Expr Bool expr_spellable y) ≡ true
  pub typed : type_step (map-Expr Expr (Scope → Typing) type_of y) scope ≡ Ok t

-- An operation that passes a test is the one that it is for.

by_op : (P : Op → Type 0) → P op.Add → P op.Sub → P op.Mul → P op.Mulhuu → P op.Divu → P op.Remu → P op.And → P op.Or → P op.Xor
    → P op.Shl → P op.Shr → P op.Sar → (o : Op) → P o
by_op P a b c d f g h i j k l m op.Add = a
by_op P a b c d f g h i j k l m op.Sub = b
by_op P a b c d f g h i j k l m op.Mul = c
by_op P a b c d f g h i j k l m op.Mulhuu = d
by_op P a b c d f g h i j k l m op.Divu = f
by_op P a b c d f g h i j k l m op.Remu = g
by_op P a b c d f g h i j k l m op.And = h
by_op P a b c d f g h i j k l m op.Or = i
by_op P a b c d f g h i j k l m op.Xor = j
by_op P a b c d f g h i j k l m op.Shl = k
by_op P a b c d f g h i j k l m op.Shr = l
by_op P a b c d f g h i j k l m op.Sar = m

other_op : {A : Type 0} → ◌≡◌ {A = Bool} false true → A
other_op bad = absurd (cc)

add_only : (o : Op) → is_add o ≡ true → o ≡ op.Add
add_only = by_op (λ o. is_add o ≡ true → o ≡ op.Add) (λ is. refl) other_op other_op other_op other_op other_op other_op other_op
    other_op other_op other_op other_op

sub_only : (o : Op) → is_sub o ≡ true → o ≡ op.Sub
sub_only = by_op (λ o. is_sub o ≡ true → o ≡ op.Sub) other_op (λ is. refl) other_op other_op other_op other_op other_op other_op
    other_op other_op other_op other_op

mul_only : (o : Op) → is_mul o ≡ true → o ≡ op.Mul
mul_only = by_op (λ o. is_mul o ≡ true → o ≡ op.Mul) other_op other_op (λ is. refl) other_op other_op other_op other_op other_op
    other_op other_op other_op other_op

and_only : (o : Op) → is_and o ≡ true → o ≡ op.And
and_only = by_op (λ o. is_and o ≡ true → o ≡ op.And) other_op other_op other_op other_op other_op other_op (λ is. refl) other_op
    other_op other_op other_op other_op

shl_only : (o : Op) → is_shl o ≡ true → o ≡ op.Shl
shl_only = by_op (λ o. is_shl o ≡ true → o ≡ op.Shl) other_op other_op other_op other_op other_op other_op other_op other_op
    other_op (λ is. refl) other_op other_op

remu_only : (o : Op) → is_remu o ≡ true → o ≡ op.Remu
remu_only = by_op (λ o. is_remu o ≡ true → o ≡ op.Remu) other_op other_op other_op other_op other_op (λ is. refl) other_op
    other_op other_op other_op other_op other_op

no_word_is : (found_type : Typing) (t : Scalar) → no_word found_type ≡ Ok t → found_type ≡ Ok t
no_word_is (Err why) t is = absurd (cc)
no_word_is (Ok Word) t is = absurd (cc)
no_word_is (Ok Byte) t is = is
no_word_is (Ok Flag) t is = is

module _ (step : Step) (kids : List Judged) (sound : SoundKids kids) (at : ℕ) (ps : List Param) (scope : Scope) (c : Context)
    (consistent : IsConsistent c) (scoped : IsScoped ps scope c) where
  -- a rule of operations
  abbrev Bin : deriv.Rule → (Env → ℕ) → (Env → ℕ) → ExprOut × ExprOut → Context → Op → Type 0
  Bin r f g pq mid o = Yields (ExprDone ps scope (λ env. apply o (f env) (g env)) Word c) (binary r o step.certs at pq.0 pq.1 mid)

  binary_sound : (o : Op) (f g : Env → ℕ) (x y : Expr) (pq : ExprOut × ExprOut) (mid : Context) → (r : deriv.Rule)
      → fits r (e.Bin o x y) ≡ true → Pair ps scope f g Word Word c pq mid → Bin r f g pq mid o
  binary_sound o f g x y pq mid rule.EOp fit k = op_holds.sound ps scope f g c pq mid k at o
  binary_sound o f g x y pq mid rule.EAdd fit k =
      subst (Bin rule.EAdd f g pq mid) (sym (add_only o fit)) (add_holds.sound ps scope f g c pq mid k step.certs at)
  binary_sound o f g x y pq mid rule.ESub fit k =
      subst (Bin rule.ESub f g pq mid) (sym (sub_only o fit)) (sub_holds.sound ps scope f g c pq mid k step.certs at)
  binary_sound o f g x y pq mid rule.EMask fit k =
      subst (Bin rule.EMask f g pq mid) (sym (and_only o fit)) (mask_holds.sound ps scope f g c pq mid k at)
  binary_sound o f g x y pq mid rule.ELit fit k = tt
  binary_sound o f g x y pq mid rule.EVar fit k = tt
  binary_sound o f g x y pq mid rule.ELen fit k = tt
  binary_sound o f g x y pq mid rule.EMulk fit k =
      subst (Bin rule.EMulk f g pq mid) (sym (mul_only o fit)) (mulk_holds.sound ps scope f g c pq mid k step.certs at)
  binary_sound o f g x y pq mid rule.EShift fit k =
      subst (Bin rule.EShift f g pq mid) (sym (shl_only o fit)) (shift_holds.sound ps scope f g c pq mid k step.certs at)
  binary_sound o f g x y pq mid rule.ERemk fit k =
      subst (Bin rule.ERemk f g pq mid) (sym (remu_only o fit)) (remk_holds.sound ps scope f g c pq mid k at)
  binary_sound o f g x y pq mid rule.EDivk fit k = divk_holds.sound ps scope f g c pq mid k at o
  binary_sound o f g x y pq mid rule.ECmp fit k = tt
  binary_sound o f g x y pq mid rule.ENot fit k = tt
  binary_sound o f g x y pq mid rule.EBoth fit k = tt
  binary_sound o f g x y pq mid rule.EEither fit k = tt
  binary_sound o f g x y pq mid rule.EWord fit k = tt
  binary_sound o f g x y pq mid rule.EByte fit k = tt
  binary_sound o f g x y pq mid rule.ECut fit k = tt
  binary_sound o f g x y pq mid rule.EGet fit k = tt
  binary_sound o f g x y pq mid rule.ETab fit k = tt
  binary_sound o f g x y pq mid rule.ERw fit k = tt
  binary_sound o f g x y pq mid rule.SNote fit k = tt
  binary_sound o f g x y pq mid rule.SLet fit k = tt
  binary_sound o f g x y pq mid rule.SPut fit k = tt
  binary_sound o f g x y pq mid rule.SMove fit k = tt
  binary_sound o f g x y pq mid rule.SIf fit k = tt
  binary_sound o f g x y pq mid rule.SFor fit k = tt
  binary_sound o f g x y pq mid rule.SMap fit k = tt
  binary_sound o f g x y pq mid rule.SFold fit k = tt

  -- a rule of the bytes of words
  low_sound : (f : Env → ℕ) (p : ExprOut) (mid : Context) → (r : deriv.Rule) → ExprDone ps scope f Word c p mid
      → Yields (ExprDone ps scope (λ env. f env % 256) Byte c) (low r step.certs at p mid)
  low_sound f p mid rule.EByte d = byte_holds.sound ps scope f c p mid d step.certs at
  low_sound f p mid rule.ECut d = cut_holds.sound ps scope f c p mid d at
  low_sound f p mid rule.EOp d = tt
  low_sound f p mid rule.EAdd d = tt
  low_sound f p mid rule.ESub d = tt
  low_sound f p mid rule.EMask d = tt
  low_sound f p mid rule.ELit d = tt
  low_sound f p mid rule.EVar d = tt
  low_sound f p mid rule.ELen d = tt
  low_sound f p mid rule.EMulk d = tt
  low_sound f p mid rule.EShift d = tt
  low_sound f p mid rule.ERemk d = tt
  low_sound f p mid rule.EDivk d = tt
  low_sound f p mid rule.ECmp d = tt
  low_sound f p mid rule.ENot d = tt
  low_sound f p mid rule.EBoth d = tt
  low_sound f p mid rule.EEither d = tt
  low_sound f p mid rule.EWord d = tt
  low_sound f p mid rule.EGet d = tt
  low_sound f p mid rule.ETab d = tt
  low_sound f p mid rule.ERw d = tt
  low_sound f p mid rule.SNote d = tt
  low_sound f p mid rule.SLet d = tt
  low_sound f p mid rule.SPut d = tt
  low_sound f p mid rule.SMove d = tt
  low_sound f p mid rule.SIf d = tt
  low_sound f p mid rule.SFor d = tt
  low_sound f p mid rule.SMap d = tt
  low_sound f p mid rule.SFold d = tt

  -- the type is this one
  as_type : (sem : Env → ℕ) (t u : Scalar) (row : Rule ExprOut) → u ≡ t → Yields (ExprDone ps scope sem u c) (row c)
      → Yields (ExprDone ps scope sem t c) (row c)
  as_type sem t u row is h = subst (λ (z : Scalar). Yields (ExprDone ps scope sem z c) (row c)) is h

  parts_sound : (y : Expr-F Expr) (t : Scalar) → GoodParts scope y t → fits step.rule y ≡ true
      → Yields (ExprDone ps scope (evaluated y) t c) (parts step kids at y c)
  parts_sound (e.Lit n) t good fit =
      as_type (λ env. n) t Word (λ d. parts step kids at (e.Lit n) d) (answer_is Word t good.typed)
      (yields_need (ExprDone ps scope (λ env. n) Word c) c (are_none kids) at 1 (λ _. lit.after at n)
      (λ none. lit_holds.sound ps scope c (came_start ps scope c consistent scoped) at n (leb-true n 4294967295 good.formed)))
  parts_sound (e.Var x) t good fit =
      yields_need (ExprDone ps scope (evaluated (e.Var x)) t c) c (are_none kids) at 1 (λ _. var.after at x)
      (λ none. var_holds.sound ps scope c (came_start ps scope c consistent scoped) at x t
      (scalar_is (look_up scope x) t good.typed))
  parts_sound (e.Bin o x y) t good fit =
      let formed = and_parts (expr_formed x) (expr_formed y) good.formed in
      let spelled = and_parts (expr_spellable x) (expr_spellable y) good.spelled in
      let typed = both_are Word (type_of x scope) (type_of y scope) t good.typed in
      as_type (evaluated (e.Bin o x y)) t Word (λ d. parts step kids at (e.Bin o x y) d) (sym typed.1.1)
      (yields_two (ExprDone ps scope (evaluated (e.Bin o x y)) Word c) ps scope c consistent scoped at kids sound x y Word Word
      (record { formed = formed.0; spelled = spelled.0; typed = typed.0 })
      (record { formed = formed.1; spelled = spelled.1; typed = typed.1.0 })
      (λ pq. binary step.rule o step.certs at pq.0 pq.1)
      (λ pq mid k. binary_sound o (eval x) (eval y) x y pq mid step.rule fit k))
  parts_sound (e.Length a) t good fit =
      let found_type = first_answered (element_in (look_up scope a)) _ t good.typed in
      as_type (evaluated (e.Length a)) t Word (λ d. parts step kids at (e.Length a) d) (answer_is Word t found_type.1.1)
      (yields_found (ExprDone ps scope (evaluated (e.Length a)) Word c) c (own c a) at 4
      (λ k. need (are_none kids) at 1 >>= (λ _. len.after at k))
      (λ k owned. yields_need (ExprDone ps scope (evaluated (e.Length a)) Word c) c (are_none kids) at 1 (λ _. len.after at k)
      (λ none. len_holds.sound ps scope c (came_start ps scope c consistent scoped) at a k owned)))
  parts_sound (e.Test test x y) t good fit =
      let typed_first = first_answered (both_wanted Word (type_of x scope) (type_of y scope)) _ t good.typed in
      let typed = both_are Word (type_of x scope) (type_of y scope) typed_first.0 typed_first.1.0 in
      let formed = and_parts (expr_formed x) (expr_formed y) good.formed in
      let spelled = and_parts (expr_spellable x) (expr_spellable y) good.spelled in
      as_type (evaluated (e.Test test x y)) t Flag (λ d. parts step kids at (e.Test test x y) d)
      (answer_is Flag t typed_first.1.1)
      (yields_two (ExprDone ps scope (evaluated (e.Test test x y)) Flag c) ps scope c consistent scoped at kids sound x y Word
      Word
      (record { formed = formed.0; spelled = spelled.0; typed = typed.0 })
      (record { formed = formed.1; spelled = spelled.1; typed = typed.1.0 })
      (λ pq. cmp.after at test pq.0 pq.1) (λ pq mid k. cmp_holds.sound ps scope (eval x) (eval y) c pq mid k at test))
  parts_sound (e.Not x) t good fit =
      let typed = wanted_is Flag (type_of x scope) t good.typed in
      as_type (evaluated (e.Not x)) t Flag (λ d. parts step kids at (e.Not x) d) (sym typed.1)
      (yields_one (ExprDone ps scope (evaluated (e.Not x)) Flag c) ps scope c consistent scoped at kids sound x Flag
      (record { formed = good.formed; spelled = good.spelled; typed = typed.0 }) (λ p. negation.after at p)
      (λ p mid d. not_holds.sound ps scope (eval x) c p mid d at))
  parts_sound (e.Both x y) t good fit =
      let formed = and_parts (expr_formed x) (expr_formed y) good.formed in
      let spelled = and_parts (expr_spellable x) (expr_spellable y) good.spelled in
      let typed = both_are Flag (type_of x scope) (type_of y scope) t good.typed in
      as_type (evaluated (e.Both x y)) t Flag (λ d. parts step kids at (e.Both x y) d) (sym typed.1.1)
      (yields_two (ExprDone ps scope (evaluated (e.Both x y)) Flag c) ps scope c consistent scoped at kids sound x y Flag Flag
      (record { formed = formed.0; spelled = spelled.0; typed = typed.0 })
      (record { formed = formed.1; spelled = spelled.1; typed = typed.1.0 })
      (λ pq. both.after at pq.0 pq.1) (λ pq mid k. both_holds.sound ps scope (eval x) (eval y) c pq mid k at))
  parts_sound (e.Either x y) t good fit =
      let formed = and_parts (expr_formed x) (expr_formed y) good.formed in
      let spelled = and_parts (expr_spellable x) (expr_spellable y) good.spelled in
      let typed = both_are Flag (type_of x scope) (type_of y scope) t good.typed in
      as_type (evaluated (e.Either x y)) t Flag (λ d. parts step kids at (e.Either x y) d) (sym typed.1.1)
      (yields_two (ExprDone ps scope (evaluated (e.Either x y)) Flag c) ps scope c consistent scoped at kids sound x y Flag Flag
      (record { formed = formed.0; spelled = spelled.0; typed = typed.0 })
      (record { formed = formed.1; spelled = spelled.1; typed = typed.1.0 })
      (λ pq. either.after at pq.0 pq.1) (λ pq mid k. either_holds.sound ps scope (eval x) (eval y) c pq mid k at))
  parts_sound (e.ToWord x) t good fit =
      let found_type = first_answered (no_word (type_of x scope)) _ t good.typed in
      as_type (evaluated (e.ToWord x)) t Word (λ d. parts step kids at (e.ToWord x) d) (answer_is Word t found_type.1.1)
      (yields_one (ExprDone ps scope (evaluated (e.ToWord x)) Word c) ps scope c consistent scoped at kids sound x found_type.0
      (record { formed = good.formed; spelled = good.spelled; typed = no_word_is (type_of x scope) found_type.0 found_type.1.0 })
      (λ p. word.after p)
      (λ p mid d. word_holds.sound ps scope (eval x) found_type.0 c p mid d))
  parts_sound (e.ToByte x) t good fit =
      let found_type = first_answered (wanted Word (type_of x scope)) _ t good.typed in
      let typed = wanted_is Word (type_of x scope) found_type.0 found_type.1.0 in
      as_type (evaluated (e.ToByte x)) t Byte (λ d. parts step kids at (e.ToByte x) d) (answer_is Byte t found_type.1.1)
      (yields_one (ExprDone ps scope (evaluated (e.ToByte x)) Byte c) ps scope c consistent scoped at kids sound x Word
      (record { formed = good.formed; spelled = good.spelled; typed = typed.0 }) (λ p. low step.rule step.certs at p)
      (λ p mid d. low_sound (eval x) p mid step.rule d))
  parts_sound (e.Get a i) t good fit =
      let found_type = first_answered (element_in (look_up scope a)) _ t good.typed in
      let index = first_answered (wanted Word (type_of i scope)) _ t found_type.1.1 in
      let typed = wanted_is Word (type_of i scope) index.0 index.1.0 in
      let formed = and_parts (is_name a) (expr_formed i) good.formed in
      as_type (evaluated (e.Get a i)) t found_type.0 (λ d. parts step kids at (e.Get a i) d) (answer_is found_type.0 t index.1.1)
      (yields_need (ExprDone ps scope (evaluated (e.Get a i)) found_type.0 c) c (is_some (own c a)) at 4
      (λ _. one_kid kids at i >>= (λ p. element_of.after step.certs at a p))
      (λ named. yields_one (ExprDone ps scope (evaluated (e.Get a i)) found_type.0 c) ps scope c consistent scoped at kids sound i
      Word
      (record { formed = formed.1; spelled = good.spelled; typed = typed.0 }) (λ p. element_of.after step.certs at a p)
      (λ p mid d. get_holds.sound ps scope (eval i) c p mid d step.certs at a found_type.0 found_type.1.0)))
  parts_sound (e.Tab u ns i) t good fit =
      let index = first_answered (wanted Word (type_of i scope)) _ t good.typed in
      let typed = wanted_is Word (type_of i scope) index.0 index.1.0 in
      let formed = and_parts (numbers_formed ns) (expr_formed i) good.formed in
      let spelled = and_parts (is_table u ns) (expr_spellable i) good.spelled in
      as_type (evaluated (e.Tab u ns i)) t u (λ d. parts step kids at (e.Tab u ns i) d) (answer_is u t index.1.1)
      (yields_need (ExprDone ps scope (evaluated (e.Tab u ns i)) u c) c (entry_of.is_small ns) at 4
      (λ _. one_kid kids at i >>= (λ p. entry_of.after step.certs at u ns p))
      (λ small. yields_one (ExprDone ps scope (evaluated (e.Tab u ns i)) u c) ps scope c consistent scoped at kids sound i Word
      (record { formed = formed.1; spelled = spelled.1; typed = typed.0 }) (λ p. entry_of.after step.certs at u ns p)
      (λ p mid d. tab_holds.sound ps scope (eval i) c p mid d step.certs at u ns formed.0 spelled.0 small)))

-- the rule of equations
rewritten_sound : (turn : Turn) → Laws turn → (step : Step) (kids : List Judged) → SoundKids kids → (at : ℕ) (x : Expr)
    → IsSound x (rewritten turn step kids at x)
rewritten_sound turn laws step kids sound at x ps scope t c consistent scoped formed spelled typed =
    yields_found Q c (rewriting.step_of step.args) at 3 (λ n. found (turn n x) at 4 >>= (λ y. one_kid kids at y))
    (λ n number. yields_found Q c (turn n x) at 4 (λ y. one_kid kids at y)
    (λ y is.
    let better = laws.makes_nothing_worse n x y is in
    yields_kid Q ps scope c consistent scoped at kids sound y t
    (record {
      formed = better.formed formed;
      spelled = better.spellable spelled;
      typed = (laws.keeps_meaning n x y is formed).type scope t typed;
    })
    (λ p mid d. rw_holds.sound turn laws ps scope t c n x y is formed typed p mid d)))
  where
    Q : ExprOut → Context → Type 0
    Q = ExprDone ps scope (eval x) t c

node_sound : (turn : Turn) → Laws turn → (step : Step) (kids : List Judged) → SoundKids kids → (at : ℕ) (x : Expr)
    → IsSound x (node_row turn step kids at x)
node_sound turn laws step kids sound at x ps scope t c consistent scoped formed spelled typed =
    yields_need Whole c (fits step.rule (out-Expr x)) at 1
    (λ _. counted step (args_of step.rule) (certs_of step.rule) at >>= (λ _. rule_row))
    (λ fit. yields_need Whole c (has_counts step (args_of step.rule) (certs_of step.rule)) at 2 (λ _. rule_row)
    (λ counts. by fit (is_rewrite step.rule)))
  where
    Whole : ExprOut → Context → Type 0
    Whole = ExprDone ps scope (eval x) t c

    rule_row : Rule ExprOut
    rule_row = if is_rewrite step.rule then rewritten turn step kids at x else parts step kids at (out-Expr x)

    good : GoodParts scope (out-Expr x) t
    good = record {
      formed = sym (fold_out-Expr Bool expr_formed_step x) ∙ formed;
      spelled = sym (fold_out-Expr Bool expr_spellable_step x) ∙ spelled;
      typed = sym (ap (λ (g : Scope → Typing). g scope) (fold_out-Expr (Scope → Typing) type_step x)) ∙ typed;
    }

    by : fits step.rule (out-Expr x) ≡ true → (b : Bool)
        → Yields Whole ((if b then rewritten turn step kids at x else parts step kids at (out-Expr x)) c)
    by fit true = rewritten_sound turn laws step kids sound at x ps scope t c consistent scoped formed spelled typed
    by fit false =
        subst (λ (sem : Env → ℕ). Yields (ExprDone ps scope sem t c) (parts step kids at (out-Expr x) c))
        (sym (fold_out-Expr (Env → ℕ) eval_step x))
        (parts_sound step kids sound at ps scope c consistent scoped (out-Expr x) t good fit)

-- trees

abbrev SoundTree : Turn → ExprNode → Type 0
SoundTree turn node = SoundKid (judged turn node)

kids_sound : (turn : Turn) (nodes : List ((n : ExprNode) × SoundTree turn n))
    → SoundKids (map (judged turn) (map (λ p. p.0) nodes))
kids_sound turn [] = tt
kids_sound turn (p ∷ ps) = (p.1, kids_sound turn ps)

tree_sound : (turn : Turn) → Laws turn → (node : ExprNode) → SoundTree turn node
tree_sound turn laws = ind-ExprNode (SoundTree turn) (λ z y is. subst (λ r. SoundTree turn (roll-ExprNode r)) is (rolled y)) where
  rolled : (y : ExprNode-F ((n : ExprNode) × SoundTree turn n))
      → SoundTree turn (roll-ExprNode (map-ExprNode ((n : ExprNode) × SoundTree turn n) ExprNode (λ p. p.0) y))
  rolled y = rw (fold-roll-ExprNode Judged (judged_step turn)
      (map-ExprNode ((n : ExprNode) × SoundTree turn n) ExprNode (λ p. p.0) y))
      (λ at x. node_sound turn laws y.step (map (judged turn) (map (λ p. p.0) y.kids)) (kids_sound turn y.kids) at x)

pub instances_are_sound : InstancesAreSound
instances_are_sound turn laws node at x = tree_sound turn laws node at x
