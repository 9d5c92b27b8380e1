-- The form of a statement is read as that statement.
use Rattle.std.proofs.Common.{◌≡◌, refl, sym, ◌∙◌, ap, subst, Bool, true, ◌&&◌, List, [], ◌∷◌, map, codes, Ok}
use Rattle.model_syntax.specs.Names.{Name}
use Rattle.rup_base.specs.declared.arg.Place.{Place}
use Rattle.rup_base.specs.Name.{is_name}
use Rattle.rup_base.specs.Gather.{all_true}
use Rattle.sx_text.specs.declared.tree.Sx.{Sx}
use Rattle.sx_text.specs.Spelling.{bare}
use Rattle.sx_text.proofs.laws.Atoms.{and_parts}
use Rattle.model_syntax.specs.declared.expr.Expr.{Expr}
use Rattle.model_syntax.specs.declared.stmt.Le.{Le}
use Rattle.model_syntax.specs.declared.stmt.Stmt.{Stmt, Stmt-F, ind-Stmt, map-Stmt, roll-Stmt, fold-roll-Stmt}
use Rattle.model_syntax.specs.declared.stmt.Stmt.TheOpen as s
use Rattle.model_syntax.specs.declared.stmt.Stmt.TheVariants as v
use Rattle.model_syntax.specs.Spelling.{expr_spellable, stmt_spellable, stmt_spellable_step}
use Rattle.model_reader.specs.Parts as parts
use Rattle.model_reader.specs.Parts.{Answer, Reading, each}
use Rattle.model_reader.specs.Reading.{reading, atom_reading}
use Rattle.model_reader.specs.Statements.{stmt, list_stmt}
use Rattle.model_syntax.specs.Formed.{expr_formed, names_formed, facts_formed, stmt_formed, stmt_formed_step}
use Rattle.model_printer.specs.Printing as printing
use Rattle.model_printer.specs.Printing.{atom, list, stmt_step}
use Rattle.model_printer.proofs.Backs.{at_list, at_forms, at_worded, at_headed, IsBack, AreBack, each_back, all_back}
use Rattle.model_printer.proofs.Atomic.{name_back}
use Rattle.model_printer.proofs.ExprBack.{expr_back}
use Rattle.model_printer.proofs.FactBack.{keep_back}

-- the rules, where each part is read back
let_reads : (p q : Place) (r1 r2 : Reading) (x : Name) (a : Expr) → parts.name r1 ≡ Ok x → r2.expr ≡ Ok a
    → list_stmt p (atom_reading q (codes "let") ∷ r1 ∷ r2 ∷ []) ≡ Ok (v.Let x a)
let_reads p q r1 r2 x a h1 h2 = rw (h1, h2) refl

put_reads : (p q : Place) (r1 r2 r3 : Reading) (a : Name) (i e : Expr) → parts.name r1 ≡ Ok a → r2.expr ≡ Ok i → r3.expr ≡ Ok e
    → list_stmt p (atom_reading q (codes "put") ∷ r1 ∷ r2 ∷ r3 ∷ []) ≡ Ok (v.Put a i e)
put_reads p q r1 r2 r3 a i e h1 h2 h3 = rw (h1, h2, h3) refl

move_reads : (p q : Place) (r1 r2 r3 r4 : Reading) (b a : Name) (i e : Expr)
    → parts.name r1 ≡ Ok b → parts.name r2 ≡ Ok a → r3.expr ≡ Ok i → r4.expr ≡ Ok e
    → list_stmt p (atom_reading q (codes "move") ∷ r1 ∷ r2 ∷ r3 ∷ r4 ∷ []) ≡ Ok (v.Move b a i e)
move_reads p q r1 r2 r3 r4 b a i e h1 h2 h3 h4 = rw (h1, h2, h3, h4) refl

if_reads : (p q : Place) (r1 r2 r3 r4 r5 : Reading) (test : Expr) (xs : List Name) (rs : List Le) (one two : List Stmt)
    → r1.expr ≡ Ok test → r2.names ≡ Ok xs → r3.keep ≡ Ok rs → r4.block ≡ Ok one → r5.block ≡ Ok two
    → list_stmt p (atom_reading q (codes "if") ∷ r1 ∷ r2 ∷ r3 ∷ r4 ∷ r5 ∷ []) ≡ Ok (v.If test xs rs one two)
if_reads p q r1 r2 r3 r4 r5 test xs rs one two h1 h2 h3 h4 h5 = rw (h1, h2, h3, h4, h5) refl

for_reads : (p q : Place) (r1 r2 r3 r4 r5 r6 : Reading) (x : Name) (low high : Expr) (xs : List Name) (rs : List Le)
    (body : List Stmt)
    → parts.name r1 ≡ Ok x → r2.expr ≡ Ok low → r3.expr ≡ Ok high → r4.names ≡ Ok xs → r5.keep ≡ Ok rs → r6.block ≡ Ok body
    → list_stmt p (atom_reading q (codes "for") ∷ r1 ∷ r2 ∷ r3 ∷ r4 ∷ r5 ∷ r6 ∷ []) ≡ Ok (v.For x low high xs rs body)
for_reads p q r1 r2 r3 r4 r5 r6 x low high xs rs body h1 h2 h3 h4 h5 h6 = rw (h1, h2, h3, h4, h5, h6) refl

map_reads : (p q : Place) (r1 r2 r3 : Reading) (a x : Name) (e : Expr) → parts.name r1 ≡ Ok a → r2.element ≡ Ok x → r3.expr ≡ Ok e
    → list_stmt p (atom_reading q (codes "map") ∷ r1 ∷ r2 ∷ r3 ∷ []) ≡ Ok (v.Map a x e)
map_reads p q r1 r2 r3 a x e h1 h2 h3 = rw (h1, h2, h3) refl

fold_reads : (p q : Place) (r1 r2 r3 r4 : Reading) (t a x : Name) (e : Expr)
    → parts.name r1 ≡ Ok t → parts.name r2 ≡ Ok a → r3.element ≡ Ok x → r4.expr ≡ Ok e
    → list_stmt p (atom_reading q (codes "fold") ∷ r1 ∷ r2 ∷ r3 ∷ r4 ∷ []) ≡ Ok (v.Fold t a x e)
fold_reads p q r1 r2 r3 r4 t a x e h1 h2 h3 h4 = rw (h1, h2, h3, h4) refl

-- lists of names
names_back : (xs : List Name) → names_formed xs ≡ true → (c : Sx) → bare c ≡ bare (printing.names xs) → (reading c).names ≡ Ok xs
names_back xs h c b =
    at_list (map atom xs) c (λ r. r.names ≡ Ok xs) b
    (λ p cs m. each_back parts.name atom xs cs (all_back parts.name atom is_name name_back xs h) m)

element_reads : (p : Place) (r : Reading) (x : Name) → parts.name r ≡ Ok x → parts.alone parts.name p (r ∷ []) ≡ Ok x
element_reads p r x h = rw h refl

element_back : (x : Name) → is_name x ≡ true → (c : Sx) → bare c ≡ bare (list (atom x ∷ [])) → (reading c).element ≡ Ok x
element_back x h c b =
    at_forms (atom x ∷ []) c (λ r. r.element ≡ Ok x) b (λ p d bd. element_reads p (reading d) x (name_back x h d bd))

-- statements
abbrev IsStmtBack : Stmt → Type 0
IsStmtBack w = stmt_formed w ≡ true → stmt_spellable w ≡ true → IsBack stmt printing.stmt w

abbrev Proved : Type 0
Proved = (w : Stmt) × IsStmtBack w

abbrev stmts : List Proved → List Stmt
stmts = map (λ (k : Proved). k.0)

abbrev answer_of : Stmt → Answer Stmt
answer_of w = Ok w

proved_back : (ks : List Proved) → all_true (map stmt_formed (stmts ks)) ≡ true → all_true (map stmt_spellable (stmts ks)) ≡ true
    → AreBack stmt printing.stmt (stmts ks)
proved_back [] h s = tt
proved_back (k ∷ ks) h s =
    let f = and_parts (stmt_formed k.0) (all_true (map stmt_formed (stmts ks))) h in
    let g = and_parts (stmt_spellable k.0) (all_true (map stmt_spellable (stmts ks))) s in
    (k.1 f.0 g.0, proved_back ks f.1 g.1)

pub block_back : (ws : List Stmt) → AreBack stmt printing.stmt ws → (c : Sx)
    → bare c ≡ bare (printing.block (map printing.stmt ws))
    → (reading c).block ≡ Ok ws
block_back ws back c b =
    at_headed (codes "do") (map printing.stmt ws) c (λ r. r.block ≡ Ok ws) b
    (λ p q cs m. each_back stmt printing.stmt ws cs back m)

at_layer : (y : Stmt-F Stmt) (w : Stmt) → roll-Stmt y ≡ w
    → (stmt_formed_step (map-Stmt Stmt Bool stmt_formed y) ≡ true → stmt_spellable_step (map-Stmt Stmt Bool stmt_spellable y)
    ≡ true
    → (c : Sx) → bare c ≡ bare (stmt_step (map-Stmt Stmt Sx printing.stmt y)) → (reading c).stmt ≡ Ok w)
    → IsStmtBack (roll-Stmt y)
at_layer y w is f h s c b =
    f (sym (fold-roll-Stmt Bool stmt_formed_step y) ∙ h) (sym (fold-roll-Stmt Bool stmt_spellable_step y) ∙ s) c
    (b ∙ ap bare (fold-roll-Stmt Sx stmt_step y)) ∙ ap answer_of (sym is)

if_node : (test : Expr) (xs : List Name) (rs : List Le) (ks ms : List Proved)
    → IsStmtBack (roll-Stmt (s.If test xs rs (stmts ks) (stmts ms)))
if_node test xs rs ks ms =
    at_layer (s.If test xs rs (stmts ks) (stmts ms)) (v.If test xs rs (stmts ks) (stmts ms))
    (v.rolls-If test xs rs (stmts ks) (stmts ms))
    (λ h s c b.
    let one : Bool = all_true (map stmt_formed (stmts ks)) in
    let two : Bool = all_true (map stmt_formed (stmts ms)) in
    let f1 = and_parts (expr_formed test) (names_formed xs && (facts_formed rs && (one && two))) h in
    let f2 = and_parts (names_formed xs) (facts_formed rs && (one && two)) f1.1 in
    let f3 = and_parts (facts_formed rs) (one && two) f2.1 in
    let f4 = and_parts one two f3.1 in
    let g1 = and_parts (expr_spellable test && all_true (map stmt_spellable (stmts ks)))
    (all_true (map stmt_spellable (stmts ms))) s in
    let g2 = and_parts (expr_spellable test) (all_true (map stmt_spellable (stmts ks))) g1.0 in
    at_worded (codes "if") (printing.expr test ∷ printing.names xs ∷ printing.keep rs
    ∷ printing.block (map printing.stmt (stmts ks)) ∷ printing.block (map printing.stmt (stmts ms)) ∷ [])
    c (λ r. r.stmt ≡ Ok (v.If test xs rs (stmts ks) (stmts ms))) b
    (λ p q d1 b1 d2 b2 d3 b3 d4 b4 d5 b5.
    if_reads p q (reading d1) (reading d2) (reading d3) (reading d4) (reading d5) test xs rs (stmts ks) (stmts ms)
    (expr_back test f1.0 g2.0 d1 b1) (names_back xs f2.0 d2 b2) (keep_back rs f3.0 d3 b3)
    (block_back (stmts ks) (proved_back ks f4.0 g2.1) d4 b4) (block_back (stmts ms) (proved_back ms f4.1 g1.1) d5 b5)))

for_node : (x : Name) (low high : Expr) (xs : List Name) (rs : List Le) (ks : List Proved)
    → IsStmtBack (roll-Stmt (s.For x low high xs rs (stmts ks)))
for_node x low high xs rs ks =
    at_layer (s.For x low high xs rs (stmts ks)) (v.For x low high xs rs (stmts ks)) (v.rolls-For x low high xs rs (stmts ks))
    (λ h s c b.
    let body : Bool = all_true (map stmt_formed (stmts ks)) in
    let f1 = and_parts (is_name x) (expr_formed low && (expr_formed high && (names_formed xs && (facts_formed rs && body)))) h in
    let f2 = and_parts (expr_formed low) (expr_formed high && (names_formed xs && (facts_formed rs && body))) f1.1 in
    let f3 = and_parts (expr_formed high) (names_formed xs && (facts_formed rs && body)) f2.1 in
    let f4 = and_parts (names_formed xs) (facts_formed rs && body) f3.1 in
    let f5 = and_parts (facts_formed rs) body f4.1 in
    let g1 = and_parts (expr_spellable low && expr_spellable high) (all_true (map stmt_spellable (stmts ks))) s in
    let g2 = and_parts (expr_spellable low) (expr_spellable high) g1.0 in
    at_worded (codes "for") (atom x ∷ printing.expr low ∷ printing.expr high ∷ printing.names xs ∷ printing.keep rs
    ∷ printing.block (map printing.stmt (stmts ks)) ∷ [])
    c (λ r. r.stmt ≡ Ok (v.For x low high xs rs (stmts ks))) b
    (λ p q d1 b1 d2 b2 d3 b3 d4 b4 d5 b5 d6 b6.
    for_reads p q (reading d1) (reading d2) (reading d3) (reading d4) (reading d5) (reading d6) x low high xs rs (stmts ks)
    (name_back x f1.0 d1 b1) (expr_back low f2.0 g2.0 d2 b2) (expr_back high f3.0 g2.1 d3 b3) (names_back xs f4.0 d4 b4)
    (keep_back rs f5.0 d5 b5) (block_back (stmts ks) (proved_back ks f5.1 g1.1) d6 b6)))

node : (y : Stmt-F Proved) → IsStmtBack (roll-Stmt (map-Stmt Proved Stmt (λ k. k.0) y))
node (s.Let x a) =
    at_layer (s.Let x a) (v.Let x a) (v.rolls-Let x a)
    (λ h s c b.
    let f = and_parts (is_name x) (expr_formed a) h in
    at_worded (codes "let") (atom x ∷ printing.expr a ∷ []) c (λ r. r.stmt ≡ Ok (v.Let x a)) b
    (λ p q d1 b1 d2 b2. let_reads p q (reading d1) (reading d2) x a (name_back x f.0 d1 b1) (expr_back a f.1 s d2 b2)))
node (s.Put a i e) =
    at_layer (s.Put a i e) (v.Put a i e) (v.rolls-Put a i e)
    (λ h s c b.
    let f1 = and_parts (is_name a) (expr_formed i && expr_formed e) h in
    let f2 = and_parts (expr_formed i) (expr_formed e) f1.1 in
    let g = and_parts (expr_spellable i) (expr_spellable e) s in
    at_worded (codes "put") (atom a ∷ printing.expr i ∷ printing.expr e ∷ []) c (λ r. r.stmt ≡ Ok (v.Put a i e)) b
    (λ p q d1 b1 d2 b2 d3 b3.
    put_reads p q (reading d1) (reading d2) (reading d3) a i e
    (name_back a f1.0 d1 b1) (expr_back i f2.0 g.0 d2 b2) (expr_back e f2.1 g.1 d3 b3)))
node (s.Move m a i e) =
    at_layer (s.Move m a i e) (v.Move m a i e) (v.rolls-Move m a i e)
    (λ h s c b.
    let f0 = and_parts (is_name m) (is_name a && (expr_formed i && expr_formed e)) h in
    let f1 = and_parts (is_name a) (expr_formed i && expr_formed e) f0.1 in
    let f2 = and_parts (expr_formed i) (expr_formed e) f1.1 in
    let g = and_parts (expr_spellable i) (expr_spellable e) s in
    at_worded (codes "move") (atom m ∷ atom a ∷ printing.expr i ∷ printing.expr e ∷ []) c (λ r. r.stmt ≡ Ok (v.Move m a i e)) b
    (λ p q d1 b1 d2 b2 d3 b3 d4 b4.
    move_reads p q (reading d1) (reading d2) (reading d3) (reading d4) m a i e
    (name_back m f0.0 d1 b1) (name_back a f1.0 d2 b2) (expr_back i f2.0 g.0 d3 b3) (expr_back e f2.1 g.1 d4 b4)))
node (s.If test xs rs ks ms) = if_node test xs rs ks ms
node (s.For x low high xs rs ks) = for_node x low high xs rs ks
node (s.Map a x e) =
    at_layer (s.Map a x e) (v.Map a x e) (v.rolls-Map a x e)
    (λ h s c b.
    let f1 = and_parts (is_name a) (is_name x && expr_formed e) h in
    let f2 = and_parts (is_name x) (expr_formed e) f1.1 in
    at_worded (codes "map") (atom a ∷ list (atom x ∷ []) ∷ printing.expr e ∷ []) c (λ r. r.stmt ≡ Ok (v.Map a x e)) b
    (λ p q d1 b1 d2 b2 d3 b3.
    map_reads p q (reading d1) (reading d2) (reading d3) a x e
    (name_back a f1.0 d1 b1) (element_back x f2.0 d2 b2) (expr_back e f2.1 s d3 b3)))
node (s.Fold t a x e) =
    at_layer (s.Fold t a x e) (v.Fold t a x e) (v.rolls-Fold t a x e)
    (λ h s c b.
    let f0 = and_parts (is_name t) (is_name a && (is_name x && expr_formed e)) h in
    let f1 = and_parts (is_name a) (is_name x && expr_formed e) f0.1 in
    let f2 = and_parts (is_name x) (expr_formed e) f1.1 in
    at_worded (codes "fold") (atom t ∷ atom a ∷ list (atom x ∷ []) ∷ printing.expr e ∷ []) c (λ r. r.stmt ≡ Ok (v.Fold t a x e)) b
    (λ p q d1 b1 d2 b2 d3 b3 d4 b4.
    fold_reads p q (reading d1) (reading d2) (reading d3) (reading d4) t a x e
    (name_back t f0.0 d1 b1) (name_back a f1.0 d2 b2) (element_back x f2.0 d3 b3) (expr_back e f2.1 s d4 b4)))

pub stmt_back : (w : Stmt) → IsStmtBack w
stmt_back = ind-Stmt IsStmtBack (λ z y is. subst (λ w. IsStmtBack (roll-Stmt w)) is (node y))

both_back : (ws : List Stmt) → all_true (map stmt_formed ws) ≡ true → all_true (map stmt_spellable ws) ≡ true
    → AreBack stmt printing.stmt ws
both_back [] h s = tt
both_back (w ∷ ws) h s =
    let f = and_parts (stmt_formed w) (all_true (map stmt_formed ws)) h in
    let g = and_parts (stmt_spellable w) (all_true (map stmt_spellable ws)) s in
    (stmt_back w f.0 g.0, both_back ws f.1 g.1)

pub body_back : (ws : List Stmt) → all_true (map stmt_formed ws) ≡ true → all_true (map stmt_spellable ws) ≡ true
    → (c : Sx) → bare c ≡ bare (printing.block (map printing.stmt ws)) → (reading c).block ≡ Ok ws
body_back ws h s = block_back ws (both_back ws h s)
