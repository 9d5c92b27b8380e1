-- The type that a context tells of an expression is the one that it has in scope.
use Rattle.std.proofs.Common.{◌≡◌, refl, sym, ◌∙◌, ap, subst, ℕ, nat_eq, if◌then◌else◌, List, Option, Some, None, Ok}
use Rattle.model_syntax.specs.declared.expr.Expr.{Expr, Expr-F, map-Expr, out-Expr}
use Rattle.model_syntax.specs.declared.expr.Expr.TheFolds.{fold_out-Expr}
use Rattle.model_syntax.specs.declared.expr.Expr.TheOpen as e
use Rattle.model_syntax.specs.declared.expr.Scalar.{Scalar}
use Rattle.model_syntax.specs.declared.expr.Scalar.TheVariants.{Word, Byte, Flag}
use Rattle.model_syntax.specs.declared.program.Param.{Param}
use Rattle.model_syntax.specs.declared.scope.NameType.TheVariants.{Scalar as One, Array as Many}
use Rattle.model_syntax.specs.declared.program.Len.{Len}
use Rattle.model_syntax.specs.Answer.{◌>>=◌}
use Rattle.model_syntax.specs.ExprType.{Typing, type_of, type_step, wanted, both_wanted, no_word}
use Rattle.model_syntax.specs.Names.{Name}
use Rattle.model_syntax.specs.Scope.{Scope, look_up, element_in}
use Rattle.model_syntax.proofs.laws.Answered.{first_answered, answer_is}
use Rattle.model_syntax.proofs.laws.Expressions.{scalar_is, element_is, wanted_is, both_are}
use Rattle.sym_heap.specs.declared.parts.Held.{Held}
use Rattle.sym_heap.specs.declared.parts.Clause.{Clause}
use Rattle.sym_heap.specs.Context.{Context, scalar, own}
use Rattle.sym_heap.specs.Scoped.{IsScoped, element_size}
use Rattle.sym_heap.proofs.laws.Lookups.{scalar_stands, clause_stands}
use Rattle.stmt_rules.specs.Words.{kind_held, kind_owned, kind_of}

some_is : (t u : Scalar) → ◌≡◌ {A = Option Scalar} (Some t) (Some u) → t ≡ u
some_is t u is = cc

held_kind : (ps : List Param) (scope : Scope) (c : Context) (x : Name) (t u : Scalar) → IsScoped ps scope c
    → look_up scope x ≡ Some (One t) → (o : Option Held) → scalar c x ≡ o
    → kind_held o ≡ Some u → u ≡ t
held_kind ps scope c x t u s at None found is = absurd (let bad : None ≡ Some u = is in cc)
held_kind ps scope c x t u s at (Some h) found is =
    let p = scalar_stands c x h found in
    let type : look_up scope x ≡ Some (One h.kind) = ap (look_up scope) (sym p.named) ∙ s.scalars p.place h p.at in
    let both : Some (One h.kind) ≡ Some (One t) = sym type ∙ at in
    let kind : h.kind ≡ t = cc in
    let mine : h.kind ≡ u = some_is h.kind u is in
    sym mine ∙ kind

-- the elements of an array have the type that their size tells
element_kind : (t u : Scalar) (bytes : ℕ) → element_size t ≡ Some bytes
    → ◌≡◌ {A = Option Scalar} (Some (if nat_eq bytes 1 then Byte else Word)) (Some u) → u ≡ t
element_kind Word u bytes size is =
    let four : 4 ≡ bytes = cc in
    let word : Some Word ≡ Some u =
    subst (λ (n : ℕ). ◌≡◌ {A = Option Scalar} (Some (if nat_eq n 1 then Byte else Word)) (Some u)) (sym four) is in
    cc
element_kind Byte u bytes size is =
    let one : 1 ≡ bytes = cc in
    let byte : Some Byte ≡ Some u =
    subst (λ (n : ℕ). ◌≡◌ {A = Option Scalar} (Some (if nat_eq n 1 then Byte else Word)) (Some u)) (sym one) is in
    cc
element_kind Flag u bytes size is = absurd (cc)

owned_kind : (ps : List Param) (scope : Scope) (c : Context) (a : Name) (t : Scalar) (n : Len) (u : Scalar) → IsScoped ps scope c
    → look_up scope a ≡ Some (Many t n) → (o : Option Clause) → own c a ≡ o
    → kind_owned o ≡ Some u → u ≡ t
owned_kind ps scope c a t n u s at None found is = absurd (let bad : None ≡ Some u = is in cc)
owned_kind ps scope c a t n u s at (Some k) found is =
    let p = clause_stands c a k found in
    let array = s.clauses p.place k p.at in
    let both : Some (Many array.element array.len) ≡ Some (Many t n) = sym array.type ∙ ap (look_up scope) p.named ∙ at in
    let one : array.element ≡ t = cc in
    element_kind t u k.size (subst (λ (w : Scalar). element_size w ≡ Some k.size) one array.size) is

kinds : (ps : List Param) (scope : Scope) (c : Context) (t u : Scalar) → IsScoped ps scope c → (y : Expr-F Expr)
    → type_step (map-Expr Expr (Scope → Typing) type_of y) scope ≡ Ok t
    → kind_of c y ≡ Some u → u ≡ t
kinds ps scope c t u s (e.Lit n) typed is = sym (some_is Word u is) ∙ answer_is Word t typed
kinds ps scope c t u s (e.Var x) typed is =
    held_kind ps scope c x t u s (scalar_is (look_up scope x) t typed) (scalar c x) refl is
kinds ps scope c t u s (e.Length a) typed is =
    sym (some_is Word u is) ∙ answer_is Word t (first_answered (element_in (look_up scope a)) (λ _. Ok Word) t typed).1.1
kinds ps scope c t u s (e.Bin o p q) typed is =
    sym (some_is Word u is) ∙ sym (both_are Word (type_of p scope) (type_of q scope) t typed).1.1
kinds ps scope c t u s (e.Test o p q) typed is =
    sym (some_is Flag u is) ∙ answer_is Flag t
    (first_answered (both_wanted Word (type_of p scope) (type_of q scope)) (λ _. Ok Flag) t typed).1.1
kinds ps scope c t u s (e.Not p) typed is = sym (some_is Flag u is) ∙ sym (wanted_is Flag (type_of p scope) t typed).1
kinds ps scope c t u s (e.Both p q) typed is =
    sym (some_is Flag u is) ∙ sym (both_are Flag (type_of p scope) (type_of q scope) t typed).1.1
kinds ps scope c t u s (e.Either p q) typed is =
    sym (some_is Flag u is) ∙ sym (both_are Flag (type_of p scope) (type_of q scope) t typed).1.1
kinds ps scope c t u s (e.ToWord p) typed is =
    sym (some_is Word u is) ∙ answer_is Word t (first_answered (no_word (type_of p scope)) (λ _. Ok Word) t typed).1.1
kinds ps scope c t u s (e.ToByte p) typed is =
    sym (some_is Byte u is) ∙ answer_is Byte t (first_answered (wanted Word (type_of p scope)) (λ _. Ok Byte) t typed).1.1
kinds ps scope c t u s (e.Get a i) typed is =
    let element = first_answered (element_in (look_up scope a)) (λ w. wanted Word (type_of i scope) >>= (λ _. Ok w)) t typed in
    let index = first_answered (wanted Word (type_of i scope)) (λ _. Ok element.0) t element.1.1 in
    let named = element_is (look_up scope a) element.0 element.1.0 in
    owned_kind ps scope c a element.0 named.0 u s named.1 (own c a) refl is ∙ answer_is element.0 t index.1.1
kinds ps scope c t u s (e.Tab k ns i) typed is =
    sym (some_is k u is) ∙ answer_is k t (first_answered (wanted Word (type_of i scope)) (λ _. Ok k) t typed).1.1

pub kind_is : (ps : List Param) (scope : Scope) (c : Context) (a : Expr) (t u : Scalar) → IsScoped ps scope c
    → type_of a scope ≡ Ok t → kind_of c (out-Expr a) ≡ Some u → u ≡ t
kind_is ps scope c a t u s typed is =
    kinds ps scope c t u s (out-Expr a)
    (ap (λ (f : Scope → Typing). f scope) (sym (fold_out-Expr (Scope → Typing) type_step a)) ∙ typed) is
