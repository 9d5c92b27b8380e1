-- The forms of models are of atoms that the text can spell.
use Rattle.std.proofs.Common.{◌≡◌, refl, sym, ◌∙◌, ap, subst, ℕ, Bool, true, ◌&&◌, List, [], ◌∷◌, map, codes}
use Rattle.std.specs.Fmt.{decimal}
use Rattle.rup_base.specs.Name.{is_name}
use Rattle.rup_base.specs.Gather.{all_true}
use Rattle.sx_text.specs.declared.tree.Sx.{Sx}
use Rattle.sx_text.specs.Forms.{place}
use Rattle.sx_text.specs.Spelling.{is_atom, is_spelled}
use Rattle.sx_text.proofs.laws.Atoms.{and_parts}
use Rattle.sx_text.proofs.laws.Layers.{is_spelled-Atom, is_spelled-Kids}
use Rattle.model_syntax.specs.declared.expr.Op.{Op}
use Rattle.model_syntax.specs.declared.expr.Op.TheVariants.{Add, Sub, Mul, Mulhuu, Divu, Remu, And, Or, Xor, Shl, Shr, Sar}
use Rattle.model_syntax.specs.declared.expr.Cmp.{Cmp}
use Rattle.model_syntax.specs.declared.expr.Cmp.TheVariants.{Eq, Lt, Slt}
use Rattle.model_syntax.specs.declared.expr.Scalar.{Scalar}
use Rattle.model_syntax.specs.declared.expr.Scalar.TheVariants.{Word, Byte, Flag}
use Rattle.model_syntax.specs.declared.expr.Expr.{Expr, Expr-F, ind-Expr, map-Expr, roll-Expr, fold-roll-Expr}
use Rattle.model_syntax.specs.declared.expr.Expr.TheOpen as e
use Rattle.model_syntax.specs.declared.stmt.Lin.{Lin, Lin-F, ind-Lin, map-Lin, roll-Lin, fold-roll-Lin}
use Rattle.model_syntax.specs.declared.stmt.Lin.TheOpen as l
use Rattle.model_syntax.specs.declared.stmt.Le.{Le}
use Rattle.model_syntax.specs.declared.stmt.Stmt.{Stmt, Stmt-F, ind-Stmt, map-Stmt, roll-Stmt, fold-roll-Stmt}
use Rattle.model_syntax.specs.declared.stmt.Stmt.TheOpen as s
use Rattle.model_syntax.specs.declared.program.Len.{Len}
use Rattle.model_syntax.specs.declared.program.Len.TheVariants.{Fixed, Named}
use Rattle.model_syntax.specs.declared.program.Param.{Param}
use Rattle.model_syntax.specs.declared.program.Param.TheVariants as parameter
use Rattle.model_syntax.specs.declared.program.Ret.{Ret}
use Rattle.model_syntax.specs.declared.program.Ret.TheVariants as result
use Rattle.model_syntax.specs.declared.program.Model.{Model}
use Rattle.model_syntax.specs.Kinds.{is_word}
use Rattle.model_syntax.specs.Formed.{expr_formed, expr_formed_step, side_formed, side_formed_step, fact_formed, facts_formed}
use Rattle.model_syntax.specs.Formed.{names_formed, stmt_formed, stmt_formed_step, len_formed, param_formed, ret_formed}
use Rattle.model_syntax.specs.Formed.{model_formed}
use Rattle.model_printer.specs.Printing as printing
use Rattle.model_printer.specs.Printing.{atom, list, worded, op_word, cmp_word, scalar_word, expr_step, side_step, stmt_step}
use Rattle.model_printer.proofs.Decimal.{decimal_spelled, name_spelled}
use Rattle.model_printer.proofs.Atomic.{word_within}

abbrev Spelled : List Sx → Type 0
Spelled [] = Unit {0}
Spelled (k ∷ ks) = (is_spelled k ≡ true) × Spelled ks

all_spelled : (ks : List Sx) → Spelled ks → all_true (map is_spelled ks) ≡ true
all_spelled [] h = refl
all_spelled (k ∷ ks) (head, tail) = rw (head, all_spelled ks tail) refl

atom_spelled : (t : List ℕ) → is_atom t ≡ true → is_spelled (atom t) ≡ true
atom_spelled t h = is_spelled-Atom (place 0 0) t ∙ h

list_spelled : (ks : List Sx) → Spelled ks → is_spelled (list ks) ≡ true
list_spelled ks h = is_spelled-Kids (place 0 0) ks ∙ all_spelled ks h

worded_spelled : (w : List ℕ) (ks : List Sx) → is_atom w ≡ true → Spelled ks → is_spelled (worded w ks) ≡ true
worded_spelled w ks h k = list_spelled (atom w ∷ ks) (atom_spelled w h, k)

each_spelled : {B : Type 0} (form : B → Sx) (test : B → Bool) → ((b : B) → test b ≡ true → is_spelled (form b) ≡ true)
    → (bs : List B) → all_true (map test bs) ≡ true → Spelled (map form bs)
each_spelled form test one [] h = tt
each_spelled form test one (b ∷ bs) h =
    let p = and_parts (test b) (all_true (map test bs)) h in
    (one b p.0, each_spelled form test one bs p.1)

name_form : (x : List ℕ) → is_name x ≡ true → is_spelled (atom x) ≡ true
name_form x h = atom_spelled x (name_spelled x h)

number_form : (n : ℕ) → is_word n ≡ true → is_spelled (printing.number n) ≡ true
number_form n h = atom_spelled (decimal n) (decimal_spelled n (word_within n h))

op_spelled : (op : Op) → is_atom (op_word op) ≡ true
op_spelled Add = refl
op_spelled Sub = refl
op_spelled Mul = refl
op_spelled Mulhuu = refl
op_spelled Divu = refl
op_spelled Remu = refl
op_spelled And = refl
op_spelled Or = refl
op_spelled Xor = refl
op_spelled Shl = refl
op_spelled Shr = refl
op_spelled Sar = refl

cmp_spelled : (cmp : Cmp) → is_atom (cmp_word cmp) ≡ true
cmp_spelled Eq = refl
cmp_spelled Lt = refl
cmp_spelled Slt = refl

scalar_spelled : (t : Scalar) → is_atom (scalar_word t) ≡ true
scalar_spelled Word = refl
scalar_spelled Byte = refl
scalar_spelled Flag = refl

-- expressions
abbrev IsExprSpelled : Expr → Type 0
IsExprSpelled w = expr_formed w ≡ true → is_spelled (printing.expr w) ≡ true

abbrev ProvedExpr : Type 0
ProvedExpr = (w : Expr) × IsExprSpelled w

expr_layer : (y : Expr-F Expr)
    → (expr_formed_step (map-Expr Expr Bool expr_formed y) ≡ true → is_spelled (expr_step (map-Expr Expr Sx printing.expr y))
    ≡ true)
    → IsExprSpelled (roll-Expr y)
expr_layer y f h = ap is_spelled (fold-roll-Expr Sx expr_step y) ∙ f (sym (fold-roll-Expr Bool expr_formed_step y) ∙ h)

-- a word and the forms of two operands
pair_spelled : (w : List ℕ) (k m : ProvedExpr) → is_atom w ≡ true → expr_formed k.0 && expr_formed m.0 ≡ true
    → is_spelled (worded w (printing.expr k.0 ∷ printing.expr m.0 ∷ [])) ≡ true
pair_spelled w k m a h =
    let f = and_parts (expr_formed k.0) (expr_formed m.0) h in
    worded_spelled w (printing.expr k.0 ∷ printing.expr m.0 ∷ []) a (k.1 f.0, (m.1 f.1, tt))

expr_node : (y : Expr-F ProvedExpr) → IsExprSpelled (roll-Expr (map-Expr ProvedExpr Expr (λ k. k.0) y))
expr_node (e.Lit n) = expr_layer (e.Lit n) (λ h. number_form n h)
expr_node (e.Var x) = expr_layer (e.Var x) (λ h. name_form x h)
expr_node (e.Length a) = expr_layer (e.Length a) (λ h. worded_spelled (codes "len") (atom a ∷ []) refl (name_form a h, tt))
expr_node (e.Bin op k m) = expr_layer (e.Bin op k.0 m.0) (λ h. pair_spelled (op_word op) k m (op_spelled op) h)
expr_node (e.Test cmp k m) = expr_layer (e.Test cmp k.0 m.0) (λ h. pair_spelled (cmp_word cmp) k m (cmp_spelled cmp) h)
expr_node (e.Not k) = expr_layer (e.Not k.0) (λ h. worded_spelled (codes "not") (printing.expr k.0 ∷ []) refl (k.1 h, tt))
expr_node (e.Both k m) = expr_layer (e.Both k.0 m.0) (λ h. pair_spelled (codes "both") k m refl h)
expr_node (e.Either k m) = expr_layer (e.Either k.0 m.0) (λ h. pair_spelled (codes "either") k m refl h)
expr_node (e.ToWord k) = expr_layer (e.ToWord k.0) (λ h. worded_spelled (codes "word") (printing.expr k.0 ∷ []) refl (k.1 h, tt))
expr_node (e.ToByte k) = expr_layer (e.ToByte k.0) (λ h. worded_spelled (codes "byte") (printing.expr k.0 ∷ []) refl (k.1 h, tt))
expr_node (e.Get a k) =
    expr_layer (e.Get a k.0)
    (λ h.
    let f = and_parts (is_name a) (expr_formed k.0) h in
    worded_spelled (codes "get") (atom a ∷ printing.expr k.0 ∷ []) refl (name_form a f.0, (k.1 f.1, tt)))
expr_node (e.Tab t ns k) =
    expr_layer (e.Tab t ns k.0)
    (λ h.
    let f = and_parts (all_true (map is_word ns)) (expr_formed k.0) h in
    worded_spelled (codes "tab") (atom (scalar_word t) ∷ list (map printing.number ns) ∷ printing.expr k.0 ∷ []) refl (
      atom_spelled (scalar_word t) (scalar_spelled t),
      (list_spelled (map printing.number ns) (each_spelled printing.number is_word number_form ns f.0), (k.1 f.1, tt)),
    ))

expr_form : (w : Expr) → IsExprSpelled w
expr_form = ind-Expr IsExprSpelled (λ z y is. subst (λ w. IsExprSpelled (roll-Expr w)) is (expr_node y))

-- facts
abbrev IsSideSpelled : Lin → Type 0
IsSideSpelled w = side_formed w ≡ true → is_spelled (printing.side w) ≡ true

abbrev ProvedSide : Type 0
ProvedSide = (w : Lin) × IsSideSpelled w

side_layer : (y : Lin-F Lin)
    → (side_formed_step (map-Lin Lin Bool side_formed y) ≡ true → is_spelled (side_step (map-Lin Lin Sx printing.side y)) ≡ true)
    → IsSideSpelled (roll-Lin y)
side_layer y f h = ap is_spelled (fold-roll-Lin Sx side_step y) ∙ f (sym (fold-roll-Lin Bool side_formed_step y) ∙ h)

side_node : (y : Lin-F ProvedSide) → IsSideSpelled (roll-Lin (map-Lin ProvedSide Lin (λ k. k.0) y))
side_node (l.Const n) = side_layer (l.Const n) (λ h. number_form n h)
side_node (l.Var x) = side_layer (l.Var x) (λ h. name_form x h)
side_node (l.Sum k m) =
    side_layer (l.Sum k.0 m.0)
    (λ h.
    let f = and_parts (side_formed k.0) (side_formed m.0) h in
    worded_spelled (codes "add") (printing.side k.0 ∷ printing.side m.0 ∷ []) refl (k.1 f.0, (m.1 f.1, tt)))
side_node (l.Scale n k) =
    side_layer (l.Scale n k.0)
    (λ h.
    let f = and_parts (is_word n) (side_formed k.0) h in
    worded_spelled (codes "mul") (printing.number n ∷ printing.side k.0 ∷ []) refl (number_form n f.0, (k.1 f.1, tt)))

side_form : (w : Lin) → IsSideSpelled w
side_form = ind-Lin IsSideSpelled (λ z y is. subst (λ w. IsSideSpelled (roll-Lin w)) is (side_node y))

fact_form : (r : Le) → fact_formed r ≡ true → is_spelled (printing.fact r) ≡ true
fact_form r h =
    let f = and_parts (side_formed r.low) (side_formed r.high) h in
    worded_spelled (codes "le") (printing.side r.low ∷ printing.side r.high ∷ []) refl
    (side_form r.low f.0, (side_form r.high f.1, tt))

facts_form : (w : List ℕ) (rs : List Le) → is_atom w ≡ true → facts_formed rs ≡ true
    → is_spelled (worded w (map printing.fact rs)) ≡ true
facts_form w rs a h = worded_spelled w (map printing.fact rs) a (each_spelled printing.fact fact_formed fact_form rs h)

-- statements
names_form : (xs : List (List ℕ)) → names_formed xs ≡ true → is_spelled (printing.names xs) ≡ true
names_form xs h = list_spelled (map atom xs) (each_spelled atom is_name name_form xs h)

abbrev IsStmtSpelled : Stmt → Type 0
IsStmtSpelled w = stmt_formed w ≡ true → is_spelled (printing.stmt w) ≡ true

abbrev ProvedStmt : Type 0
ProvedStmt = (w : Stmt) × IsStmtSpelled w

abbrev stmts : List ProvedStmt → List Stmt
stmts = map (λ (k : ProvedStmt). k.0)

proved_spelled : (ks : List ProvedStmt) → all_true (map stmt_formed (stmts ks)) ≡ true → Spelled (map printing.stmt (stmts ks))
proved_spelled [] h = tt
proved_spelled (k ∷ ks) h =
    let p = and_parts (stmt_formed k.0) (all_true (map stmt_formed (stmts ks))) h in
    (k.1 p.0, proved_spelled ks p.1)

block_form : (ks : List ProvedStmt) → all_true (map stmt_formed (stmts ks)) ≡ true
    → is_spelled (printing.block (map printing.stmt (stmts ks))) ≡ true
block_form ks h = worded_spelled (codes "do") (map printing.stmt (stmts ks)) refl (proved_spelled ks h)

stmt_layer : (y : Stmt-F Stmt)
    → (stmt_formed_step (map-Stmt Stmt Bool stmt_formed y) ≡ true → is_spelled (stmt_step (map-Stmt Stmt Sx printing.stmt y))
    ≡ true)
    → IsStmtSpelled (roll-Stmt y)
stmt_layer y f h = ap is_spelled (fold-roll-Stmt Sx stmt_step y) ∙ f (sym (fold-roll-Stmt Bool stmt_formed_step y) ∙ h)

stmt_node : (y : Stmt-F ProvedStmt) → IsStmtSpelled (roll-Stmt (map-Stmt ProvedStmt Stmt (λ k. k.0) y))
stmt_node (s.Let x a) =
    stmt_layer (s.Let x a)
    (λ h.
    let f = and_parts (is_name x) (expr_formed a) h in
    worded_spelled (codes "let") (atom x ∷ printing.expr a ∷ []) refl (name_form x f.0, (expr_form a f.1, tt)))
stmt_node (s.Put a i v) =
    stmt_layer (s.Put a i v)
    (λ h.
    let f1 = and_parts (is_name a) (expr_formed i && expr_formed v) h in
    let f2 = and_parts (expr_formed i) (expr_formed v) f1.1 in
    worded_spelled (codes "put") (atom a ∷ printing.expr i ∷ printing.expr v ∷ []) refl
    (name_form a f1.0, (expr_form i f2.0, (expr_form v f2.1, tt))))
stmt_node (s.Move b a i v) =
    stmt_layer (s.Move b a i v)
    (λ h.
    let f0 = and_parts (is_name b) (is_name a && (expr_formed i && expr_formed v)) h in
    let f1 = and_parts (is_name a) (expr_formed i && expr_formed v) f0.1 in
    let f2 = and_parts (expr_formed i) (expr_formed v) f1.1 in
    worded_spelled (codes "move") (atom b ∷ atom a ∷ printing.expr i ∷ printing.expr v ∷ []) refl
    (name_form b f0.0, (name_form a f1.0, (expr_form i f2.0, (expr_form v f2.1, tt)))))
stmt_node (s.If test xs rs ks ms) =
    stmt_layer (s.If test xs rs (stmts ks) (stmts ms))
    (λ h.
    let one : Bool = all_true (map stmt_formed (stmts ks)) in
    let two : Bool = all_true (map stmt_formed (stmts ms)) in
    let f1 = and_parts (expr_formed test) (names_formed xs && (facts_formed rs && (one && two))) h in
    let f2 = and_parts (names_formed xs) (facts_formed rs && (one && two)) f1.1 in
    let f3 = and_parts (facts_formed rs) (one && two) f2.1 in
    let f4 = and_parts one two f3.1 in
    worded_spelled (codes "if") (printing.expr test ∷ printing.names xs ∷ printing.keep rs
    ∷ printing.block (map printing.stmt (stmts ks)) ∷ printing.block (map printing.stmt (stmts ms)) ∷ [])
    refl (
      expr_form test f1.0,
      (
        names_form xs f2.0,
        (facts_form (codes "keep") rs refl f3.0, (block_form ks f4.0, (block_form ms f4.1, tt))),
      ),
    ))
stmt_node (s.For x low high xs rs ks) =
    stmt_layer (s.For x low high xs rs (stmts ks))
    (λ h.
    let body : Bool = all_true (map stmt_formed (stmts ks)) in
    let f1 = and_parts (is_name x) (expr_formed low && (expr_formed high && (names_formed xs && (facts_formed rs && body)))) h in
    let f2 = and_parts (expr_formed low) (expr_formed high && (names_formed xs && (facts_formed rs && body))) f1.1 in
    let f3 = and_parts (expr_formed high) (names_formed xs && (facts_formed rs && body)) f2.1 in
    let f4 = and_parts (names_formed xs) (facts_formed rs && body) f3.1 in
    let f5 = and_parts (facts_formed rs) body f4.1 in
    worded_spelled (codes "for") (atom x ∷ printing.expr low ∷ printing.expr high ∷ printing.names xs ∷ printing.keep rs
    ∷ printing.block (map printing.stmt (stmts ks)) ∷ [])
    refl (
      name_form x f1.0,
      (
        expr_form low f2.0,
        (expr_form high f3.0, (names_form xs f4.0, (facts_form (codes "keep") rs refl f5.0, (block_form ks f5.1, tt)))),
      ),
    ))
stmt_node (s.Map a x v) =
    stmt_layer (s.Map a x v)
    (λ h.
    let f1 = and_parts (is_name a) (is_name x && expr_formed v) h in
    let f2 = and_parts (is_name x) (expr_formed v) f1.1 in
    worded_spelled (codes "map") (atom a ∷ list (atom x ∷ []) ∷ printing.expr v ∷ []) refl
    (name_form a f1.0, (list_spelled (atom x ∷ []) (name_form x f2.0, tt), (expr_form v f2.1, tt))))
stmt_node (s.Fold t a x v) =
    stmt_layer (s.Fold t a x v)
    (λ h.
    let f0 = and_parts (is_name t) (is_name a && (is_name x && expr_formed v)) h in
    let f1 = and_parts (is_name a) (is_name x && expr_formed v) f0.1 in
    let f2 = and_parts (is_name x) (expr_formed v) f1.1 in
    worded_spelled (codes "fold") (atom t ∷ atom a ∷ list (atom x ∷ []) ∷ printing.expr v ∷ []) refl
    (name_form t f0.0, (name_form a f1.0, (list_spelled (atom x ∷ []) (name_form x f2.0, tt), (expr_form v f2.1, tt)))))

stmt_form : (w : Stmt) → IsStmtSpelled w
stmt_form = ind-Stmt IsStmtSpelled (λ z y is. subst (λ w. IsStmtSpelled (roll-Stmt w)) is (stmt_node y))

-- models
len_form : (n : Len) → len_formed n ≡ true → is_spelled (printing.len n) ≡ true
len_form (Fixed n) h = number_form n h
len_form (Named x) h = name_form x h

array_form : (a w : List ℕ) (n : Len) → is_atom w ≡ true → is_name a && len_formed n ≡ true
    → is_spelled (list (atom a ∷ worded w (printing.len n ∷ []) ∷ [])) ≡ true
array_form a w n k h =
    let f = and_parts (is_name a) (len_formed n) h in
    list_spelled (atom a ∷ worded w (printing.len n ∷ []) ∷ [])
    (name_form a f.0, (worded_spelled w (printing.len n ∷ []) k (len_form n f.1, tt), tt))

param_form : (w : Param) → param_formed w ≡ true → is_spelled (printing.param w) ≡ true
param_form (parameter.Word x) h =
    list_spelled (atom x ∷ atom (codes "word") ∷ []) (name_form x h, (atom_spelled (codes "word") refl, tt))
param_form (parameter.Byte x) h =
    list_spelled (atom x ∷ atom (codes "byte") ∷ []) (name_form x h, (atom_spelled (codes "byte") refl, tt))
param_form (parameter.Bytes a n) h = array_form a (codes "bytes") n refl h
param_form (parameter.Words a n) h = array_form a (codes "words") n refl h

ret_form : (w : Ret) → ret_formed w ≡ true → is_spelled (printing.ret w) ≡ true
ret_form (result.Scalar x) h = name_form x h
ret_form (result.Array a o) h =
    let f = and_parts (is_name a) (is_name o) h in
    list_spelled (atom a ∷ atom (codes "in") ∷ atom o ∷ [])
    (name_form a f.0, (atom_spelled (codes "in") refl, (name_form o f.1, tt)))

pub model_spelled : (m : Model) → model_formed m ≡ true → is_spelled (printing.model m) ≡ true
model_spelled m h =
    let body : Bool = all_true (map stmt_formed m.body) in
    let rets : Bool = all_true (map ret_formed m.rets) in
    let params : Bool = all_true (map param_formed m.params) in
    let f1 = and_parts (is_name m.name) (params && (facts_formed m.requires_ && (body && rets))) h in
    let f2 = and_parts params (facts_formed m.requires_ && (body && rets)) f1.1 in
    let f3 = and_parts (facts_formed m.requires_) (body && rets) f2.1 in
    let f4 = and_parts body rets f3.1 in
    worded_spelled (codes "model") (atom m.name ∷ worded (codes "params") (map printing.param m.params)
    ∷ worded (codes "require") (map printing.fact m.requires_) ∷ printing.block (map printing.stmt m.body)
    ∷ worded (codes "ret") (map printing.ret m.rets) ∷ [])
    refl (
      name_form m.name f1.0,
      (
        worded_spelled (codes "params") (map printing.param m.params) refl
            (each_spelled printing.param param_formed param_form m.params f2.0),
        (
          facts_form (codes "require") m.requires_ refl f3.0,
          (
            worded_spelled (codes "do") (map printing.stmt m.body) refl
                (each_spelled printing.stmt stmt_formed stmt_form m.body f4.0),
            (
              worded_spelled (codes "ret") (map printing.ret m.rets) refl
                  (each_spelled printing.ret ret_formed ret_form m.rets f4.1),
              tt,
            ),
          ),
        ),
      ),
    )
