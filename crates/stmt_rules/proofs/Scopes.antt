-- What typing says of names at the ends of blocks: carried names have the types of both ends, and a scalar stays a scalar.
use Rattle.std.proofs.Common.{◌≡◌, refl, sym, ◌∙◌, ap, subst, ℕ, Bool, true, false, List, [], ◌∷◌, map, Option, Some, None, Ok}
use Rattle.std.proofs.Common.{Err, if◌then◌else◌}
use Rattle.rup_base.specs.declared.refusal.TypePlace.TheVariants.{Statement}
use Rattle.rup_base.specs.declared.refusal.TypeWhy.TheVariants as why
use Rattle.model_syntax.specs.ExprType.{type_of, wanted}
use Rattle.model_syntax.specs.Limits.{next}
use Rattle.model_syntax.specs.Names.{Name, same, listed}
use Rattle.model_syntax.specs.Scope.{Scope, look_up, bind, same_type, scalar_in, array_in, element_in, scalar_may_take}
use Rattle.model_syntax.specs.Scope.{array_may_take, agreed}
use Rattle.model_syntax.specs.Types as types
use Rattle.model_syntax.specs.declared.expr.Expr.{Expr}
use Rattle.model_syntax.specs.declared.expr.Scalar.{Scalar}
use Rattle.model_syntax.specs.declared.expr.Scalar.TheVariants.{Word, Flag}
use Rattle.model_syntax.specs.declared.scope.NameType.{NameType}
use Rattle.model_syntax.specs.declared.scope.NameType.TheVariants.{Scalar as One}
use Rattle.model_syntax.specs.declared.stmt.Le.{Le}
use Rattle.model_syntax.specs.declared.stmt.Stmt.{Stmt, Stmt-F, ind-Stmt, map-Stmt, roll-Stmt, fold-roll-Stmt}
use Rattle.model_syntax.specs.declared.stmt.Stmt.TheOpen as s
use Rattle.model_syntax.proofs.laws.Answered.{first_answered, at_answered, answer_is}
use Rattle.model_syntax.proofs.laws.Bindings.{same_is, same_self, up_here, up_else}
use Rattle.model_syntax.proofs.laws.Statements.{type_same}
use Rattle.sym_heap.proofs.laws.Lookups.{differ_back}

-- Carried names.

agreed_types : (o p : Option NameType) (t : NameType) → agreed o p ≡ Ok t → (o ≡ Some t) × (p ≡ Some t)
agreed_types (Some t) (Some u) v is = by (same_type t u) refl is where
  by : (b : Bool) → same_type t u ≡ b → agreed (Some t) (Some u) ≡ Ok v → (Some t ≡ Some v) × (Some u ≡ Some v)
  by true e h =
      let here : t ≡ v = answer_is t v (let kept : (if true then Ok t else Err why.Uncarried) ≡ Ok v = rw e at h in kept) in
      (ap Some here, ap Some (sym (type_same t u e) ∙ here))
  by false e h = absurd (let bad : (if false then Ok t else Err why.Uncarried) ≡ Ok v = rw e at h in let worse : Err why.Uncarried
      ≡ Ok v = bad in cc)
agreed_types None None v is = absurd (cc)
agreed_types None (Some u) v is = absurd (cc)
agreed_types (Some t) None v is = absurd (cc)

-- a listed name has its type of both ends
pub record IsCarried (one two after : Scope) (x : Name) : Type 0 where
  pub type : NameType
  pub at_one : look_up one x ≡ Some type
  pub at_two : look_up two x ≡ Some type
  pub at_after : look_up after x ≡ Some type

-- and another one that of before
pub record IsJoined (names : List Name) (one two scope after : Scope) (x : Name) : Type 0 where
  pub carried : listed x names ≡ true → IsCarried one two after x
  pub as_before : listed x names ≡ false → look_up after x ≡ look_up scope x

one_joined : (y : Name) (ys : List Name) (one two scope after : Scope) (x : Name) (t : NameType) → look_up one y ≡ Some t
    → look_up two y ≡ Some t
    → IsJoined ys one two (bind y t scope) after x → IsJoined (y ∷ ys) one two scope after x
one_joined y ys one two scope after x t at_one at_two more = by (listed x ys) refl (same x y) refl where
  by : (p : Bool) → listed x ys ≡ p → (q : Bool) → same x y ≡ q → IsJoined (y ∷ ys) one two scope after x
  by true e true f = record {
    carried = λ in_list. more.carried e;
    as_before = λ out. absurd (let bad : true ≡ false = rw f at out in cc);
  }
  by true e false f = record {
    carried = λ in_list. more.carried e;
    as_before = λ out. absurd (let bad : true ≡ false = rw (f, e) at out in cc);
  }
  by false e true f =
      let is : y ≡ x = sym (same_is x y f) in
      record {
        carried = λ in_list. record {
          type = t;
          at_one = ap (look_up one) (sym is) ∙ at_one;
          at_two = ap (look_up two) (sym is) ∙ at_two;
          at_after = more.as_before e ∙ up_here scope y x t (ap (same y) (sym is) ∙ same_self y);
        };
        as_before = λ out. absurd (let bad : true ≡ false = rw f at out in cc);
      }
  by false e false f = record {
    carried = λ in_list. absurd (let bad : false ≡ true = rw (f, e) at in_list in cc);
    as_before = λ out. more.as_before e ∙ up_else scope y x t (differ_back x y f);
  }

pub names_joined : (names : List Name) (one two scope after : Scope) → types.joined names one two scope ≡ Ok after → (x : Name)
    → IsJoined names one two scope after x
names_joined [] one two scope after is x = record {
  carried = λ in_list. absurd (let bad : false ≡ true = in_list in cc);
  as_before = λ out. ap (λ (z : Scope). look_up z x) (sym (answer_is scope after is));
}
names_joined (y ∷ ys) one two scope after is x =
    let first = first_answered (agreed (look_up one y) (look_up two y)) _ after is in
    let both = agreed_types (look_up one y) (look_up two y) first.0 first.1.0 in
    one_joined y ys one two scope after x first.0 both.0 both.1 (names_joined ys one two (bind y first.0 scope) after first.1.1 x)

-- Scalars.

abbrev pub IsScalar : Scope → Name → Type 0
IsScalar c x = (t : Scalar) × (look_up c x ≡ Some (One t))

not_array : (scope : Scope) (x : Name) (t : NameType) → IsScalar scope x → look_up scope x ≡ Some t → (u : Scalar) × (t ≡ One u)
not_array scope x t scalar at =
    let both : Some (One scalar.0) ≡ Some t = sym scalar.1 ∙ at in
    let one : One scalar.0 ≡ t = cc in
    (scalar.0, sym one)

-- a name keeps that it is a scalar
abbrev Stays : types.Block → Type 0
Stays block = (k : ℕ) (c : Scope) (end_ : types.State) → block (k, c) ≡ Ok end_ → (x : Name) → IsScalar c x → IsScalar end_.1 x

same_scope : (n : ℕ) (c : Scope) (end_ : types.State) (x : Name) → (n, c) ≡ end_ → IsScalar c x → IsScalar end_.1 x
same_scope n c end_ x is scalar = subst (λ (z : types.State). IsScalar z.1 x) is scalar

bound_stays : (c : Scope) (y x : Name) (t : Scalar) → IsScalar c x → IsScalar (bind y (One t) c) x
bound_stays c y x t scalar = by (same y x) refl where
  by : (b : Bool) → same y x ≡ b → IsScalar (bind y (One t) c) x
  by true e = (t, up_here c y x (One t) e)
  by false e = (scalar.0, up_else c y x (One t) e ∙ scalar.1)

free_is : (o : Option NameType) → array_may_take o ≡ Ok tt → o ≡ None
free_is None is = refl
free_is (Some t) is = absurd (cc)

moved_stays : (c : Scope) (b x : Name) (t : NameType) → look_up c b ≡ None → IsScalar c x → IsScalar (bind b t c) x
moved_stays c b x t free scalar = by (same b x) refl where
  by : (e : Bool) → same b x ≡ e → IsScalar (bind b t c) x
  by true e = absurd (let bad : None ≡ Some (One scalar.0) = sym free ∙ ap (look_up c) (same_is b x e) ∙ scalar.1 in cc)
  by false e = (scalar.0, up_else c b x t e ∙ scalar.1)

let_stays : (y : Name) (a : Expr) → Stays (types.stmt_step (s.Let y a))
let_stays y a k c end_ is x scalar =
    let one = at_answered (Statement k) _ end_ is in
    let may = first_answered (scalar_may_take (look_up c y)) _ end_ one in
    let type = first_answered (type_of a c) _ end_ may.1.1 in
    same_scope (next k) (bind y (One type.0) c) end_ x (answer_is (next k, bind y (One type.0) c) end_ type.1.1)
    (bound_stays c y x type.0 scalar)

put_stays : (a : Name) (i v : Expr) → Stays (types.stmt_step (s.Put a i v))
put_stays a i v k c end_ is x scalar =
    let one = at_answered (Statement k) _ end_ is in
    let array = first_answered (element_in (look_up c a)) _ end_ one in
    let index = first_answered (wanted Word (type_of i c)) _ end_ array.1.1 in
    let value = first_answered (wanted array.0 (type_of v c)) _ end_ index.1.1 in
    same_scope (next k) c end_ x (answer_is (next k, c) end_ value.1.1) scalar

move_stays : (b a : Name) (i v : Expr) → Stays (types.stmt_step (s.Move b a i v))
move_stays b a i v k c end_ is x scalar =
    let one = at_answered (Statement k) _ end_ is in
    let free = first_answered (array_may_take (look_up c b)) _ end_ one in
    let array = first_answered (element_in (look_up c a)) _ end_ free.1.1 in
    let index = first_answered (wanted Word (type_of i c)) _ end_ array.1.1 in
    let value = first_answered (wanted array.0 (type_of v c)) _ end_ index.1.1 in
    let shape = first_answered (array_in (look_up c a)) _ end_ value.1.1 in
    same_scope (next k) (bind b shape.0 c) end_ x (answer_is (next k, bind b shape.0 c) end_ shape.1.1)
    (moved_stays c b x shape.0 (free_is (look_up c b) free.1.0) scalar)

joined_stays : (names : List Name) (one two c after : Scope) (x : Name) → IsJoined names one two c after x → IsScalar one x
    → IsScalar c x → IsScalar after x
joined_stays names one two c after x joined at_end scalar = by (listed x names) refl where
  by : (b : Bool) → listed x names ≡ b → IsScalar after x
  by true e =
      let here = joined.carried e in
      let type = not_array one x here.type at_end here.at_one in
      (type.0, here.at_after ∙ ap Some type.1)
  by false e = (scalar.0, joined.as_before e ∙ scalar.1)

if_stays : (test : Expr) (names : List Name) (keep : List Le) (first second : List Stmt)
    → Stays (types.in_turn (map types.stmt first))
    → Stays (types.stmt_step (s.If test names keep (map types.stmt first) (map types.stmt second)))
if_stays test names keep first second first_stays k c end_ is x scalar =
    let found = first_answered (types.at (Statement k) (wanted Flag (type_of test c))) _ end_ is in
    let once = first_answered (types.at (Statement k) (types.distinct [] names)) _ end_ found.1.1 in
    let one = first_answered (types.in_turn (map types.stmt first) (next k, c)) _ end_ once.1.1 in
    let two = first_answered (types.in_turn (map types.stmt second) (one.0.0, c)) _ end_ one.1.1 in
    let joined = first_answered (types.at (Statement k) (types.joined names one.0.1 two.0.1 c)) _ end_ two.1.1 in
    let facts = first_answered (types.at (Statement k) (types.facts keep joined.0)) _ end_ joined.1.1 in
    let join = at_answered (Statement k) (types.joined names one.0.1 two.0.1 c) joined.0 joined.1.0 in
    same_scope two.0.0 joined.0 end_ x (answer_is (two.0.0, joined.0) end_ facts.1.1)
    (joined_stays names one.0.1 two.0.1 c joined.0 x (names_joined names one.0.1 two.0.1 c joined.0 join x)
    (first_stays (next k) c one.0 one.1.0 x scalar) scalar)

for_stays : (y : Name) (low high : Expr) (names : List Name) (keep : List Le) (body : List Stmt)
    → Stays (types.stmt_step (s.For y low high names keep (map types.stmt body)))
for_stays y low high names keep body k c end_ is x scalar =
    let count = first_answered (types.at (Statement k) (types.counter y names c)) _ end_ is in
    let from = first_answered (types.at (Statement k) (wanted Word (type_of low c))) _ end_ count.1.1 in
    let to = first_answered (types.at (Statement k) (wanted Word (type_of high c))) _ end_ from.1.1 in
    let once = first_answered (types.at (Statement k) (types.distinct_known c [] names)) _ end_ to.1.1 in
    let facts = first_answered (types.at (Statement k) (types.facts keep (bind y (One Word) c))) _ end_ once.1.1 in
    let inner = first_answered (types.in_turn (map types.stmt body) (next k, bind y (One Word) c)) _ end_ facts.1.1 in
    let kept = first_answered (types.at (Statement k) (types.kept names c inner.0.1)) _ end_ inner.1.1 in
    same_scope inner.0.0 c end_ x (answer_is (inner.0.0, c) end_ kept.1.1) scalar

map_stays : (a y : Name) (v : Expr) → Stays (types.stmt_step (s.Map a y v))
map_stays a y v k c end_ is x scalar =
    let inner = at_answered (Statement k) _ end_ is in
    let element = first_answered (element_in (look_up c a)) _ end_ inner in
    let may = first_answered (scalar_may_take (look_up c y)) _ end_ element.1.1 in
    let new = first_answered (wanted element.0 (type_of v (bind y (One element.0) c))) _ end_ may.1.1 in
    same_scope (next k) c end_ x (answer_is (next k, c) end_ new.1.1) scalar

fold_stays : (t a y : Name) (v : Expr) → Stays (types.stmt_step (s.Fold t a y v))
fold_stays t a y v k c end_ is x scalar =
    let inner = at_answered (Statement k) _ end_ is in
    let kind = first_answered (scalar_in (look_up c t)) _ end_ inner in
    let element = first_answered (element_in (look_up c a)) _ end_ kind.1.1 in
    let folded = first_answered (types.folded_element t y c) _ end_ element.1.1 in
    let new = first_answered (wanted kind.0 (type_of v (bind y (One element.0) c))) _ end_ folded.1.1 in
    same_scope (next k) c end_ x (answer_is (next k, c) end_ new.1.1) scalar

abbrev StmtStays : Stmt → Type 0
StmtStays t = Stays (types.stmt t)

abbrev Proved : Type 0
Proved = (t : Stmt) × StmtStays t

abbrev stmts : List Proved → List Stmt
stmts ts = map (λ p. p.0) ts

turns_stay : (ts : List Proved) → Stays (types.in_turn (map types.stmt (stmts ts)))
turns_stay [] k c end_ is x scalar = same_scope k c end_ x (answer_is (k, c) end_ is) scalar
turns_stay (t ∷ ts) k c end_ is x scalar =
    let first = first_answered (types.stmt t.0 (k, c)) _ end_ is in
    turns_stay ts first.0.0 first.0.1 end_ first.1.1 x (t.1 k c first.0 first.1.0 x scalar)

at_layer : (y : Stmt-F Stmt) → Stays (types.stmt_step (map-Stmt Stmt types.Block types.stmt y)) → StmtStays (roll-Stmt y)
at_layer y stays k c end_ is =
    stays k c end_ (sym (ap (λ (b : types.Block). b (k, c)) (fold-roll-Stmt types.Block types.stmt_step y)) ∙ is)

node_stays : (y : Stmt-F Proved) → StmtStays (roll-Stmt (map-Stmt Proved Stmt (λ p. p.0) y))
node_stays (s.Let x a) = at_layer (s.Let x a) (let_stays x a)
node_stays (s.Put a i v) = at_layer (s.Put a i v) (put_stays a i v)
node_stays (s.Move b a i v) = at_layer (s.Move b a i v) (move_stays b a i v)
node_stays (s.If test names keep first second) =
    at_layer (s.If test names keep (stmts first) (stmts second))
    (if_stays test names keep (stmts first) (stmts second) (turns_stay first))
node_stays (s.For x low high names keep body) =
    at_layer (s.For x low high names keep (stmts body)) (for_stays x low high names keep (stmts body))
node_stays (s.Map a x v) = at_layer (s.Map a x v) (map_stays a x v)
node_stays (s.Fold t a x v) = at_layer (s.Fold t a x v) (fold_stays t a x v)

stmt_stays : (t : Stmt) → StmtStays t
stmt_stays = ind-Stmt StmtStays (λ z y is. subst (λ w. StmtStays (roll-Stmt w)) is (node_stays y))

-- statements one after another leave every scalar one, whatever its type
pub scalars_stay : (ts : List Stmt) → Stays (types.in_turn (map types.stmt ts))
scalars_stay [] k c end_ is x scalar = same_scope k c end_ x (answer_is (k, c) end_ is) scalar
scalars_stay (t ∷ ts) k c end_ is x scalar =
    let first = first_answered (types.stmt t (k, c)) _ end_ is in
    scalars_stay ts first.0.0 first.0.1 end_ first.1.1 x (stmt_stays t k c first.0 first.1.0 x scalar)
