-- The commands of a block are small, and their tables are those of the statements.
use Rattle.std.proofs.Common.{◌≡◌, refl, sym, ◌∙◌, ap, subst, arith, ℕ, ◌+◌, ◌-◌, ◌*◌, ◌≤◌, pos, negsuc, nat_eq, nat_lt, is_some}
use Rattle.std.proofs.Common.{Bool, true, false, ◌&&◌, List, [], ◌∷◌, ◌++◌, drop, length, length-append, append_assoc, map, sum}
use Rattle.std.proofs.Common.{Option, Some, None, Result, Ok, Err, if◌then◌else◌}
use Rattle.std.specs.Prelude.{option_map}
use Rattle.std.proofs.lemmas.List.Sums.{sum_by-cons}
use Rattle.std.proofs.lemmas.List.{append-nil}
use Rattle.expr_rules.specs.rules.Get as get_rule
use Rattle.rup_base.specs.Word.{counted}
use Rattle.rup_base.specs.Gather as gather
use Rattle.rup_base.specs.declared.refusal.Refusal.{Refusal}
use Rattle.model_syntax.specs.Limits.{expr_tables, stmt_tables, stmt_tables_step}
use Rattle.model_syntax.specs.Names.{Name}
use Rattle.model_syntax.specs.declared.expr.Expr.{Expr, out-Expr}
use Rattle.model_syntax.specs.declared.expr.Scalar.{Scalar}
use Rattle.model_syntax.specs.declared.stmt.Le.{Le}
use Rattle.model_syntax.specs.declared.stmt.Stmt.{Stmt, Stmt-F, map-Stmt, out-Stmt}
use Rattle.model_syntax.specs.declared.stmt.Stmt.TheFolds.{fold_out-Stmt}
use Rattle.model_syntax.specs.declared.stmt.Stmt.TheOpen as s
use Rattle.side_certs.specs.LinearForm.{LinearForm}
use Rattle.side_certs.specs.declared.certificate.Cert.{Cert}
use Rattle.sym_heap.specs.declared.parts.Clause.{Clause}
use Rattle.sym_heap.specs.Context.{Context, is_free, own, with_clause, written, can_move, has_room}
use Rattle.equations.specs.Book.{Turn}
use Rattle.sym_heap.specs.Ends.{Standing, standing}
use Rattle.deriv_tree.specs.Measure.{expr_size, block_size}
use Rattle.deriv_tree.specs.declared.tree.ExprNode.{ExprNode}
use Rattle.deriv_tree.specs.declared.tree.Step.{Step}
use Rattle.deriv_tree.specs.declared.tree.StmtNode.{StmtNode, roll-StmtNode, map-StmtNode, fold-roll-StmtNode}
use Rattle.deriv_tree.specs.declared.tree.Block.{Block, roll-Block, map-Block, ind-Block, fold-roll-Block}
use Rattle.deriv_tree.specs.declared.tree.Block.TheOpen.{Block-F, StmtNode-F}
use Rattle.bed_syntax.specs.Shape as shape
use Rattle.bed_syntax.specs.Shape.{cmd_size, cmd_size_step}
use Rattle.bed_syntax.specs.Tables as code
use Rattle.bed_syntax.specs.Tables.{cmd_tables, cmd_tables_step}
use Rattle.bed_syntax.specs.declared.operation.BOp.TheVariants as bop
use Rattle.bed_syntax.specs.declared.expression.BExpr.{BExpr, BExpr-F, map-BExpr, out-BExpr}
use Rattle.bed_syntax.specs.declared.expression.BExpr.TheFolds.{fold_out-BExpr}
use Rattle.bed_syntax.specs.declared.expression.BExpr.TheOpen as o
use Rattle.bed_syntax.specs.declared.expression.BExpr.TheVariants as b
use Rattle.bed_syntax.specs.declared.command.Cmd.{Cmd, roll-Cmd, fold-roll-Cmd}
use Rattle.bed_syntax.specs.declared.command.Cmd.TheOpen as c
use Rattle.bed_syntax.proofs.laws.Nodes.{fold_lit, fold_var, fold_bin, fold_load}
use Rattle.expr_rules.specs.declared.output.ExprOut.{ExprOut}
use Rattle.expr_rules.specs.Elements.{size_of, offset, address}
use Rattle.expr_rules.specs.Row as expr
use Rattle.expr_rules.specs.Small.{IsSmallCode, CodesAreSmall}
use Rattle.expr_rules.specs.Sound.{Yields}
use Rattle.expr_rules.specs.Words.{Rule, ◌>>=◌, most, number_in, give, need, found, cert, added, sum_of, has_counts, Judged}
use Rattle.expr_rules.specs.Words.{sizes, are_none, one_kid, two_kids}
use Rattle.expr_rules.proofs.laws.Yields.{yields_then, yields_need, yields_found, yields_shown, yields_cert}
use Rattle.stmt_rules.specs.declared.output.StmtOut.{StmtOut}
use Rattle.stmt_rules.specs.Row.{StmtJudged, BlockJudged, block_sizes, walk, block_step, fits, kind, binding, putting, moving}
use Rattle.stmt_rules.specs.Row.{branching, looping, mapping, folding, parts, stmt_row, note_counts, note_row, judged_step}
use Rattle.stmt_rules.specs.Row.{judged, block_judged}
use Rattle.stmt_rules.specs.Small.{AreSmall, CommandsAreSmall}
use Rattle.stmt_rules.specs.Words.{nothing, joined, first_local, flat, kind_of}
use Rattle.stmt_rules.specs.declared.loops.Counter.{Counter}
use Rattle.expr_rules.specs.rules.Len as len
use Rattle.stmt_rules.specs.declared.loops.ElementLocals.{ElementLocals}
use Rattle.stmt_rules.specs.declared.loops.FoldLocals.{FoldLocals}
use Rattle.stmt_rules.specs.Loops.{is_below, increased, turn_of, counting, place_of, has_trips}
use Rattle.stmt_rules.specs.Nesting.{now}
use Rattle.stmt_rules.specs.rules.Fold as fold_rule
use Rattle.stmt_rules.specs.rules.For as for_rule
use Rattle.stmt_rules.specs.rules.If as if_rule
use Rattle.stmt_rules.specs.rules.Let as let_rule
use Rattle.stmt_rules.specs.rules.Map as map_rule
use Rattle.stmt_rules.specs.rules.Move as move_rule
use Rattle.stmt_rules.specs.rules.Note as note_rule
use Rattle.stmt_rules.specs.rules.Put as put_rule
use Rattle.stmt_rules.proofs.Sizes.{expr_size_is, block_size_is}
use Rattle.stmt_rules.proofs.Trips.{Trips, block_trips}

abbrev bytes_of : List (List ℕ) → ℕ
bytes_of tables = sum (map length tables)

abbrev tables_of : List Cmd → List (List ℕ)
tables_of cs = gather.joined (map cmd_tables cs)

-- so many nodes, so many tables, and so many bytes of them at most
record HasSize (nodes count bytes : ℕ) (out : StmtOut) : Type 0 where
  pub size : sum (map cmd_size out.cmds) ≤ nodes
  pub tables : length (tables_of out.cmds) ≤ count
  pub table_bytes : bytes_of (tables_of out.cmds) ≤ bytes

size_more : (m n i j a b : ℕ) (out : StmtOut) → m ≤ n → i ≤ j → a ≤ b → HasSize m i a out → HasSize n j b out
size_more m n i j a b out more count bytes is =
    let one = is.size in
    let two = is.tables in
    let three = is.table_bytes in
    record { size = omega (arith, more, one); tables = omega (arith, count, two); table_bytes = omega (arith, bytes, three) }

-- One after the other.

bytes_joined : (one two : List (List ℕ)) → bytes_of (one ++ two) ≡ bytes_of one + bytes_of two
bytes_joined [] two = omega arith
bytes_joined (t ∷ ts) two =
    let whole : bytes_of (t ∷ (ts ++ two)) ≡ length t + bytes_of (ts ++ two) =
    sum_by-cons (λ n. n) (length t) (map length (ts ++ two)) in
    let first : bytes_of (t ∷ ts) ≡ length t + bytes_of ts = sum_by-cons (λ n. n) (length t) (map length ts) in
    let rest = bytes_joined ts two in
    omega (arith, whole, first, rest)

sizes_joined : (cs ds : List Cmd) → sum (map cmd_size (cs ++ ds)) ≡ sum (map cmd_size cs) + sum (map cmd_size ds)
sizes_joined [] ds = omega arith
sizes_joined (k ∷ ks) ds =
    let whole : sum (map cmd_size (k ∷ (ks ++ ds))) ≡ cmd_size k + sum (map cmd_size (ks ++ ds)) =
    sum_by-cons (λ n. n) (cmd_size k) (map cmd_size (ks ++ ds)) in
    let first : sum (map cmd_size (k ∷ ks)) ≡ cmd_size k + sum (map cmd_size ks) =
    sum_by-cons (λ n. n) (cmd_size k) (map cmd_size ks) in
    let rest = sizes_joined ks ds in
    omega (arith, whole, first, rest)

tables_joined : (cs ds : List Cmd) → tables_of (cs ++ ds) ≡ tables_of cs ++ tables_of ds
tables_joined [] ds = refl
tables_joined (k ∷ ks) ds = ap (λ l. cmd_tables k ++ l) (tables_joined ks ds)
    ∙ sym (append_assoc (cmd_tables k) (tables_of ks) (tables_of ds))

both : (m n i j a b : ℕ) (p q : StmtOut) → HasSize m i a p → HasSize n j b q → HasSize (m + n) (i + j) (a + b) (joined p q)
both m n i j a b p q one two =
    let size = sizes_joined p.cmds q.cmds in
    let size_one = one.size in
    let size_two = two.size in
    let tables = tables_joined p.cmds q.cmds in
    let long : length (tables_of (p.cmds ++ q.cmds)) ≡ length (tables_of p.cmds) + length (tables_of q.cmds) =
    ap (λ (l : List (List ℕ)). length l) tables ∙ length-append (tables_of p.cmds) (tables_of q.cmds) in
    let tables_one = one.tables in
    let tables_two = two.tables in
    let bytes : bytes_of (tables_of (p.cmds ++ q.cmds)) ≡ bytes_of (tables_of p.cmds) + bytes_of (tables_of q.cmds) =
    ap bytes_of tables ∙ bytes_joined (tables_of p.cmds) (tables_of q.cmds) in
    let bytes_one = one.table_bytes in
    let bytes_two = two.table_bytes in
    record {
      size = omega (arith, size, size_one, size_two);
      tables = omega (arith, long, tables_one, tables_two);
      table_bytes = omega (arith, bytes, bytes_one, bytes_two);
    }

nothing_size : (m i a : ℕ) → HasSize m i a nothing
nothing_size m i a = record { size = omega arith; tables = omega arith; table_bytes = omega arith }

one_command : (k : Cmd) (m i a : ℕ) → cmd_size k ≤ m → length (cmd_tables k) ≤ i → bytes_of (cmd_tables k) ≤ a
    → HasSize m i a (record { cmds = k ∷ []; trips = [] })
one_command k m i a size tables bytes =
    let total : sum (map cmd_size (k ∷ [])) ≡ 0 + cmd_size k = refl in
    let same : tables_of (k ∷ []) ≡ cmd_tables k = append-nil (cmd_tables k) in
    record {
      size = omega (arith, total, size);
      tables = subst (λ (l : List (List ℕ)). length l ≤ i) (sym same) tables;
      table_bytes = subst (λ (l : List (List ℕ)). bytes_of l ≤ a) (sym same) bytes;
    }

set_size : (l : ℕ) (p : ExprOut) (e : Expr) (n : ℕ) → IsSmallCode e n p
    → HasSize (20 * (1 + n)) n (expr_tables e) (let_rule.setting l p.code)
set_size l p e n small =
    let size : cmd_size (roll-Cmd (c.Set l p.code)) ≡ 1 + shape.expr_size p.code = fold-roll-Cmd ℕ cmd_size_step (c.Set l p.code)
    in
    let inside = small.size in
    let tables : cmd_tables (roll-Cmd (c.Set l p.code))
    ≡ code.expr_tables p.code = fold-roll-Cmd (List (List ℕ)) cmd_tables_step (c.Set l p.code) in
    one_command (roll-Cmd (c.Set l p.code)) (20 * (1 + n)) n (expr_tables e) (omega (arith, size, inside))
    (subst (λ (ts : List (List ℕ)). length ts ≤ n) (sym tables) small.tables)
    (subst (λ (ts : List (List ℕ)). bytes_of ts ≤ expr_tables e) (sym tables) small.table_bytes)

-- the address of an element has the tables of its index, and few nodes more
offset_size : (bytes : ℕ) (e : BExpr) → shape.expr_size (offset bytes e) ≤ 2 + shape.expr_size e
offset_size bytes e = by (nat_eq bytes 1) where
  by : (one_byte : Bool) → shape.expr_size (if one_byte then e else b.Bin bop.Slu e (b.Lit 2)) ≤ 2 + shape.expr_size e
  by true = omega arith
  by false =
      let whole : shape.expr_size (b.Bin bop.Slu e (b.Lit 2)) ≡ 1 + (shape.expr_size e + shape.expr_size (b.Lit 2)) =
      fold_bin ℕ shape.expr_size_step bop.Slu e (b.Lit 2) in
      let two : shape.expr_size (b.Lit 2) ≡ 1 = fold_lit ℕ shape.expr_size_step 2 in
      omega (arith, whole, two)

address_size : (k : Clause) (e : BExpr) → shape.expr_size (address k e) ≤ 4 + shape.expr_size e
address_size k e =
    let whole : shape.expr_size (address k e) ≡ 1 + (shape.expr_size (b.Var k.pointer) + shape.expr_size (offset k.size e)) =
    fold_bin ℕ shape.expr_size_step bop.Add (b.Var k.pointer) (offset k.size e) in
    let pointer : shape.expr_size (b.Var k.pointer) ≡ 1 = fold_var ℕ shape.expr_size_step k.pointer in
    let rest = offset_size k.size e in
    omega (arith, whole, pointer, rest)

offset_tables : (bytes : ℕ) (e : BExpr) → code.expr_tables (offset bytes e) ≡ code.expr_tables e
offset_tables bytes e = by (nat_eq bytes 1) where
  by : (one_byte : Bool) → code.expr_tables (if one_byte then e else b.Bin bop.Slu e (b.Lit 2)) ≡ code.expr_tables e
  by true = refl
  by false =
      fold_bin (List (List ℕ)) code.expr_tables_step bop.Slu e (b.Lit 2)
      ∙ ap (λ (l : List (List ℕ)). code.expr_tables e ++ l) (fold_lit (List (List ℕ)) code.expr_tables_step 2)
      ∙ append-nil (code.expr_tables e)

address_tables : (k : Clause) (e : BExpr) → code.expr_tables (address k e) ≡ code.expr_tables e
address_tables k e =
    fold_bin (List (List ℕ)) code.expr_tables_step bop.Add (b.Var k.pointer) (offset k.size e)
    ∙ ap (λ (l : List (List ℕ)). l ++ code.expr_tables (offset k.size e))
    (fold_var (List (List ℕ)) code.expr_tables_step k.pointer)
    ∙ offset_tables k.size e

store_size : (k : Clause) (p q : ExprOut) (i v : Expr) (m n : ℕ) → IsSmallCode i m p → IsSmallCode v n q
    → HasSize (20 * (1 + (m + n))) (m + n) (expr_tables i + expr_tables v) (put_rule.storing k p.code q.code)
store_size k p q i v m n one two =
    let store : Cmd = roll-Cmd (c.Store (size_of k.size) (address k p.code) q.code) in
    let size : cmd_size store ≡ 1 + (shape.expr_size (address k p.code) + shape.expr_size q.code) =
    fold-roll-Cmd ℕ cmd_size_step (c.Store (size_of k.size) (address k p.code) q.code) in
    let place = address_size k p.code in
    let size_one = one.size in
    let size_two = two.size in
    let tables : cmd_tables store ≡ code.expr_tables p.code ++ code.expr_tables q.code =
    fold-roll-Cmd (List (List ℕ)) cmd_tables_step (c.Store (size_of k.size) (address k p.code) q.code)
    ∙ ap (λ (l : List (List ℕ)). l ++ code.expr_tables q.code) (address_tables k p.code) in
    let long : length (code.expr_tables p.code ++ code.expr_tables q.code)
    ≡ length (code.expr_tables p.code) + length (code.expr_tables q.code) =
    length-append (code.expr_tables p.code) (code.expr_tables q.code) in
    let tables_one = one.tables in
    let tables_two = two.tables in
    let bytes = bytes_joined (code.expr_tables p.code) (code.expr_tables q.code) in
    let bytes_one = one.table_bytes in
    let bytes_two = two.table_bytes in
    one_command store (20 * (1 + (m + n))) (m + n) (expr_tables i + expr_tables v)
    (omega (arith, size, place, size_one, size_two))
    (subst (λ (ts : List (List ℕ)). length ts ≤ m + n) (sym tables) (omega (arith, long, tables_one, tables_two)))
    (subst (λ (ts : List (List ℕ)). bytes_of ts ≤ expr_tables i + expr_tables v) (sym tables)
    (omega (arith, bytes, bytes_one, bytes_two)))

-- Loops that count.

same_trips : (m i a : ℕ) (cmds : List Cmd) (ts us : List LinearForm) → HasSize m i a (record { cmds = cmds; trips = ts })
    → HasSize m i a (record { cmds = cmds; trips = us })
same_trips m i a cmds ts us is = record { size = is.size; tables = is.tables; table_bytes = is.table_bytes }

-- a set of a local
set_small : (l : ℕ) (p : ExprOut) (e : Expr) (n : ℕ) → IsSmallCode e n p
    → HasSize (1 + 5 * n) n (expr_tables e) (let_rule.setting l p.code)
set_small l p e n small =
    let size : cmd_size (roll-Cmd (c.Set l p.code)) ≡ 1 + shape.expr_size p.code = fold-roll-Cmd ℕ cmd_size_step (c.Set l p.code)
    in
    let inside = small.size in
    let tables : cmd_tables (roll-Cmd (c.Set l p.code))
    ≡ code.expr_tables p.code = fold-roll-Cmd (List (List ℕ)) cmd_tables_step (c.Set l p.code) in
    one_command (roll-Cmd (c.Set l p.code)) (1 + 5 * n) n (expr_tables e) (omega (arith, size, inside))
    (subst (λ (ts : List (List ℕ)). length ts ≤ n) (sym tables) small.tables)
    (subst (λ (ts : List (List ℕ)). bytes_of ts ≤ expr_tables e) (sym tables) small.table_bytes)

more_small : (li : ℕ) → HasSize 4 0 0 (let_rule.setting li (b.Bin bop.Add (b.Var li) (b.Lit 1)))
more_small li =
    let more : BExpr = b.Bin bop.Add (b.Var li) (b.Lit 1) in
    let whole : shape.expr_size more ≡ 1 + (shape.expr_size (b.Var li) + shape.expr_size (b.Lit 1)) =
    fold_bin ℕ shape.expr_size_step bop.Add (b.Var li) (b.Lit 1) in
    let one : shape.expr_size (b.Var li) ≡ 1 = fold_var ℕ shape.expr_size_step li in
    let two : shape.expr_size (b.Lit 1) ≡ 1 = fold_lit ℕ shape.expr_size_step 1 in
    let size : cmd_size (roll-Cmd (c.Set li more)) ≡ 1 + shape.expr_size more = fold-roll-Cmd ℕ cmd_size_step (c.Set li more) in
    let none : cmd_tables (roll-Cmd (c.Set li more)) ≡ [] =
    fold-roll-Cmd (List (List ℕ)) cmd_tables_step (c.Set li more)
    ∙ fold_bin (List (List ℕ)) code.expr_tables_step bop.Add (b.Var li) (b.Lit 1)
    ∙ ap (λ (l : List (List ℕ)). l ++ code.expr_tables (b.Lit 1)) (fold_var (List (List ℕ)) code.expr_tables_step li)
    ∙ fold_lit (List (List ℕ)) code.expr_tables_step 1 in
    one_command (roll-Cmd (c.Set li more)) 4 0 0 (omega (arith, size, whole, one, two))
    (subst (λ (ts : List (List ℕ)). length ts ≤ 0) (sym none) (omega arith))
    (subst (λ (ts : List (List ℕ)). bytes_of ts ≤ 0) (sym none) (omega arith))

while_small : (li lh m i a : ℕ) (out : StmtOut) → HasSize m i a out
    → HasSize (m + 9) i a (record { cmds = roll-Cmd (c.While (is_below li lh) (turn_of li out.cmds)) ∷ []; trips = [] })
while_small li lh m i a out is =
    let loop : Cmd = roll-Cmd (c.While (is_below li lh) (turn_of li out.cmds)) in
    let inner = both m 4 i 0 a 0 out (let_rule.setting li (b.Bin bop.Add (b.Var li) (b.Lit 1))) is (more_small li) in
    let inner_size : sum (map cmd_size (out.cmds ++ increased li ∷ [])) ≤ m + 4 = inner.size in
    let inner_tables : length (tables_of (out.cmds ++ increased li ∷ [])) ≤ i + 0 = inner.tables in
    let inner_bytes : bytes_of (tables_of (out.cmds ++ increased li ∷ [])) ≤ a + 0 = inner.table_bytes in
    let test_size : shape.expr_size (is_below li lh) ≡ 1 + (shape.expr_size (b.Var li) + shape.expr_size (b.Var lh)) =
    fold_bin ℕ shape.expr_size_step bop.Ltu (b.Var li) (b.Var lh) in
    let one : shape.expr_size (b.Var li) ≡ 1 = fold_var ℕ shape.expr_size_step li in
    let two : shape.expr_size (b.Var lh) ≡ 1 = fold_var ℕ shape.expr_size_step lh in
    let turn_size : cmd_size (turn_of li out.cmds) ≡ 1 + sum (map cmd_size (out.cmds ++ increased li ∷ [])) =
    fold-roll-Cmd ℕ cmd_size_step (c.Seq (out.cmds ++ increased li ∷ [])) in
    let size : cmd_size loop ≡ 1 + (shape.expr_size (is_below li lh) + cmd_size (turn_of li out.cmds)) =
    fold-roll-Cmd ℕ cmd_size_step (c.While (is_below li lh) (turn_of li out.cmds)) in
    let test_tables : code.expr_tables (is_below li lh) ≡ [] =
    fold_bin (List (List ℕ)) code.expr_tables_step bop.Ltu (b.Var li) (b.Var lh)
    ∙ ap (λ (l : List (List ℕ)). l ++ code.expr_tables (b.Var lh)) (fold_var (List (List ℕ)) code.expr_tables_step li)
    ∙ fold_var (List (List ℕ)) code.expr_tables_step lh in
    let tables : cmd_tables loop ≡ tables_of (out.cmds ++ increased li ∷ []) =
    fold-roll-Cmd (List (List ℕ)) cmd_tables_step (c.While (is_below li lh) (turn_of li out.cmds))
    ∙ ap (λ (l : List (List ℕ)). l ++ cmd_tables (turn_of li out.cmds)) test_tables
    ∙ fold-roll-Cmd (List (List ℕ)) cmd_tables_step (c.Seq (out.cmds ++ increased li ∷ [])) in
    one_command loop (m + 9) i a (omega (arith, size, test_size, one, two, turn_size, inner_size))
    (subst (λ (ts : List (List ℕ)). length ts ≤ i) (sym tables) (omega (arith, inner_tables)))
    (subst (λ (ts : List (List ℕ)). bytes_of ts ≤ a) (sym tables) (omega (arith, inner_bytes)))

-- both sets, and the loop
counting_small : (li lh : ℕ) (low high : BExpr) (out : StmtOut) (trips : List LinearForm) (m n q i j k d f g : ℕ)
    → HasSize m i d (let_rule.setting li low) → HasSize n j f (let_rule.setting lh high)
    → HasSize q k g out → HasSize (m + (n + (q + 9))) (i + (j + k)) (d + (f + g))
    (record { cmds = counting li lh low high out.cmds; trips = trips })
counting_small li lh low high out trips m n q i j k d f g one two inner =
    let loop : StmtOut = record { cmds = roll-Cmd (c.While (is_below li lh) (turn_of li out.cmds)) ∷ []; trips = [] } in
    let last = both n (q + 9) j k f g (let_rule.setting lh high) loop two (while_small li lh q k g out inner) in
    let whole = both m (n + (q + 9)) i (j + k) d (f + g) (let_rule.setting li low) (joined (let_rule.setting lh high) loop) one
    last in
    same_trips (m + (n + (q + 9))) (i + (j + k)) (d + (f + g)) (counting li lh low high out.cmds) [] trips whole

-- code has a node
some_size : (e : BExpr) → 1 ≤ shape.expr_size e
some_size e = subst (λ (n : ℕ). 1 ≤ n) (sym (fold_out-BExpr ℕ shape.expr_size_step e))
    (some (map-BExpr BExpr ℕ shape.expr_size (out-BExpr e))) where
      some : (y : BExpr-F ℕ) → 1 ≤ shape.expr_size_step y
      some (o.Lit n) = omega arith
      some (o.Var x) = omega arith
      some (o.Bin op m n) = omega arith
      some (o.Load size m) = omega arith
      some (o.Table size bytes m) = omega arith

-- a local, or a number, goes to a local
leaf_small : (l m : ℕ) (e : BExpr) → shape.expr_size e ≤ m → code.expr_tables e ≡ [] → HasSize (1 + m) 0 0 (let_rule.setting l e)
leaf_small l m e size none =
    let whole : cmd_size (roll-Cmd (c.Set l e)) ≡ 1 + shape.expr_size e = fold-roll-Cmd ℕ cmd_size_step (c.Set l e) in
    let tables : cmd_tables (roll-Cmd (c.Set l e)) ≡ [] = fold-roll-Cmd (List (List ℕ)) cmd_tables_step (c.Set l e) ∙ none in
    one_command (roll-Cmd (c.Set l e)) (1 + m) 0 0 (omega (arith, whole, size))
    (subst (λ (ts : List (List ℕ)). length ts ≤ 0) (sym tables) (omega arith))
    (subst (λ (ts : List (List ℕ)). bytes_of ts ≤ 0) (sym tables) (omega arith))

lit_small : (l n : ℕ) → HasSize 2 0 0 (let_rule.setting l (b.Lit n))
lit_small l n = leaf_small l 1 (b.Lit n)
    (let size : shape.expr_size (b.Lit n) ≡ 1 = fold_lit ℕ shape.expr_size_step n in omega (arith, size))
    (fold_lit (List (List ℕ)) code.expr_tables_step n)

var_small : (l x : ℕ) → HasSize 2 0 0 (let_rule.setting l (b.Var x))
var_small l x = leaf_small l 1 (b.Var x)
    (let size : shape.expr_size (b.Var x) ≡ 1 = fold_var ℕ shape.expr_size_step x in omega (arith, size))
    (fold_var (List (List ℕ)) code.expr_tables_step x)

length_small : (l : ℕ) (k : Clause) (high : BExpr) → len.code k ≡ Some high → HasSize 2 0 0 (let_rule.setting l high)
length_small l k high is = by k.length_local refl where
  literal : (t : Option ℕ) → option_map b.Lit t ≡ Some high → HasSize 2 0 0 (let_rule.setting l high)
  literal None made = absurd (let bad : None ≡ Some high = made in cc)
  literal (Some m) made =
      let here : Some (b.Lit m) ≡ Some high = made in
      let code_is : b.Lit m ≡ high = cc in
      subst (λ (e : BExpr). HasSize 2 0 0 (let_rule.setting l e)) code_is (lit_small l m)

  by : (t : Option ℕ) → k.length_local ≡ t → HasSize 2 0 0 (let_rule.setting l high)
  by None none = literal (number_in 0 most k.length) (rw none at is)
  by (Some m) some =
      let here : Some (b.Var m) ≡ Some high = rw some at is in
      let code_is : b.Var m ≡ high = cc in
      subst (λ (e : BExpr). HasSize 2 0 0 (let_rule.setting l e)) code_is (var_small l m)

loaded_small : (k : Clause) (li lx : ℕ) → HasSize 7 0 0 (let_rule.setting lx (b.Load (size_of k.size) (place_of k li)))
loaded_small k li lx =
    let whole : shape.expr_size (b.Load (size_of k.size) (place_of k li)) ≡ 1 + shape.expr_size (place_of k li) =
    fold_load ℕ shape.expr_size_step (size_of k.size) (place_of k li) in
    let place = address_size k (b.Var li) in
    let one : shape.expr_size (b.Var li) ≡ 1 = fold_var ℕ shape.expr_size_step li in
    leaf_small lx 6 (b.Load (size_of k.size) (place_of k li)) (omega (arith, whole, place, one))
    (fold_load (List (List ℕ)) code.expr_tables_step (size_of k.size) (place_of k li) ∙ address_tables k (b.Var li)
    ∙ fold_var (List (List ℕ)) code.expr_tables_step li)

-- the commands of a fold
folding_small : (l : FoldLocals) (k : Clause) (v n : ℕ) (high : BExpr) (p : ExprOut) (e : Expr) → len.code k ≡ Some high
    → IsSmallCode e n p → HasSize (20 * (1 + n)) n (expr_tables e) (fold_rule.folding l k v high p.code)
folding_small l k v n high p e length_is small =
    let body : StmtOut = record { cmds = fold_rule.turn l k p.code; trips = [] } in
    let inner : HasSize (7 + (1 + 5 * n)) (0 + n) (0 + expr_tables e) body =
    both 7 (1 + 5 * n) 0 n 0 (expr_tables e)
    (let_rule.setting l.turn.element (b.Load (size_of k.size) (place_of k l.turn.count))) (let_rule.setting l.so_far p.code)
    (loaded_small k l.turn.count l.turn.element) (set_small l.so_far p e n small) in
    let loop = counting_small l.turn.count l.turn.last (b.Lit 0) high body [] 2 2 (7 + (1 + 5 * n)) 0 0 (0 + n) 0 0
    (0 + expr_tables e) (lit_small l.turn.count 0) (length_small l.turn.last k high length_is) inner in
    let whole = both 2 (2 + (2 + (7 + (1 + 5 * n) + 9))) 0 (0 + (0 + (0 + n))) 0 (0 + (0 + (0 + expr_tables e)))
    (let_rule.setting l.so_far (b.Var v))
    (record { cmds = counting l.turn.count l.turn.last (b.Lit 0) high body.cmds; trips = [] }) (var_small l.so_far v) loop in
    let some = some_size p.code in
    let size = small.size in
    size_more (2 + (2 + (2 + (7 + (1 + 5 * n) + 9)))) (20 * (1 + n)) (0 + (0 + (0 + (0 + n)))) n
    (0 + (0 + (0 + (0 + expr_tables e)))) (expr_tables e) (fold_rule.folding l k v high p.code) (omega (arith, some, size))
    (omega arith) (omega arith)
    (same_trips (2 + (2 + (2 + (7 + (1 + 5 * n) + 9)))) (0 + (0 + (0 + (0 + n)))) (0 + (0 + (0 + (0 + expr_tables e))))
    (fold_rule.folding l k v high p.code).cmds [] (k.length ∷ []) whole)

-- an element of the count gets a value
element_small : (k : Clause) (li : ℕ) (p : ExprOut) (e : Expr) (n : ℕ) → IsSmallCode e n p
    → HasSize (6 + 5 * n) n (expr_tables e)
    (record { cmds = roll-Cmd (c.Store (size_of k.size) (place_of k li) p.code) ∷ []; trips = [] })
element_small k li p e n small =
    let store : Cmd = roll-Cmd (c.Store (size_of k.size) (place_of k li) p.code) in
    let size : cmd_size store ≡ 1 + (shape.expr_size (place_of k li) + shape.expr_size p.code) =
    fold-roll-Cmd ℕ cmd_size_step (c.Store (size_of k.size) (place_of k li) p.code) in
    let place = address_size k (b.Var li) in
    let one : shape.expr_size (b.Var li) ≡ 1 = fold_var ℕ shape.expr_size_step li in
    let inside = small.size in
    let tables : cmd_tables store ≡ code.expr_tables p.code =
    fold-roll-Cmd (List (List ℕ)) cmd_tables_step (c.Store (size_of k.size) (place_of k li) p.code)
    ∙ ap (λ (l : List (List ℕ)). l ++ code.expr_tables p.code)
    (address_tables k (b.Var li) ∙ fold_var (List (List ℕ)) code.expr_tables_step li) in
    one_command store (6 + 5 * n) n (expr_tables e) (omega (arith, size, place, one, inside))
    (subst (λ (ts : List (List ℕ)). length ts ≤ n) (sym tables) small.tables)
    (subst (λ (ts : List (List ℕ)). bytes_of ts ≤ expr_tables e) (sym tables) small.table_bytes)

-- the commands of s-map
mapping_small : (l : ElementLocals) (k : Clause) (n : ℕ) (high : BExpr) (p : ExprOut) (e : Expr) → len.code k ≡ Some high
    → IsSmallCode e n p → HasSize (20 * (1 + n)) n (expr_tables e) (map_rule.mapping l k high p.code)
mapping_small l k n high p e length_is small =
    let body : StmtOut = record { cmds = map_rule.turn l k p.code; trips = [] } in
    let inner : HasSize (7 + (6 + 5 * n)) (0 + n) (0 + expr_tables e) body =
    both 7 (6 + 5 * n) 0 n 0 (expr_tables e) (let_rule.setting l.element (b.Load (size_of k.size) (place_of k l.count)))
    (record { cmds = roll-Cmd (c.Store (size_of k.size) (place_of k l.count) p.code) ∷ []; trips = [] })
    (loaded_small k l.count l.element) (element_small k l.count p e n small) in
    let whole = counting_small l.count l.last (b.Lit 0) high body [] 2 2 (7 + (6 + 5 * n)) 0 0 (0 + n) 0 0 (0 + expr_tables e)
    (lit_small l.count 0) (length_small l.last k high length_is) inner in
    let some = some_size p.code in
    let size = small.size in
    size_more (2 + (2 + (7 + (6 + 5 * n) + 9))) (20 * (1 + n)) (0 + (0 + (0 + n))) n (0 + (0 + (0 + expr_tables e)))
    (expr_tables e) (map_rule.mapping l k high p.code) (omega (arith, some, size)) (omega arith) (omega arith)
    (same_trips (2 + (2 + (7 + (6 + 5 * n) + 9))) (0 + (0 + (0 + n))) (0 + (0 + (0 + expr_tables e)))
    (map_rule.mapping l k high p.code).cmds [] (k.length ∷ []) whole)

-- what follows of an answer that is there
yields_more : (P Q : StmtOut → Context → Type 0) → ((a : StmtOut) (d : Context) → P a d → Q a d)
    → (r : Result (StmtOut × Context) Refusal) → Yields P r → Yields Q r
yields_more P Q more (Ok p) is = more p.0 p.1 is
yields_more P Q more (Err refusal) is = tt

-- Kids.

abbrev SmallKid : Judged → Type 0
SmallKid k = (at : ℕ) (x : Expr) (before : Context) → Yields (λ out d. IsSmallCode x k.size out) (k.row at x before)

abbrev SmallKids : List Judged → Type 0
SmallKids [] = Unit {0}
SmallKids (k ∷ ks) = SmallKid k × SmallKids ks

one_small : (Q : StmtOut → Context → Type 0) (at : ℕ) (before : Context) (kids : List Judged) → SmallKids kids
    → (x : Expr) (k : ExprOut → Rule StmtOut)
    → ((p : ExprOut) (mid : Context) → IsSmallCode x (sizes kids) p → Yields Q (k p mid))
    → Yields Q ((one_kid kids at x >>= k) before)
one_small Q at before [] small x k more = tt
one_small Q at before (a ∷ []) small x k more =
    yields_then Q before (λ out d. IsSmallCode x a.size out) (a.row (at + 1) x) k (small.0 (at + 1) x before)
    (λ p mid is.
    let total : sizes (a ∷ []) ≡ 0 + a.size = refl in
    let size = is.size in
    let tables = is.tables in
    more p mid (record {
      size = omega (arith, total, size);
      tables = omega (arith, total, tables);
      table_bytes = is.table_bytes;
    }))
one_small Q at before (a ∷ z ∷ zs) small x k more = tt

two_small : (Q : StmtOut → Context → Type 0) (at : ℕ) (before : Context) (kids : List Judged) → SmallKids kids
    → (x y : Expr) (k : ExprOut × ExprOut → Rule StmtOut)
    → ((pq : ExprOut × ExprOut) (mid : Context) (m n : ℕ) → m + n ≡ sizes kids → IsSmallCode x m pq.0 → IsSmallCode y n pq.1
    → Yields Q (k pq mid))
    → Yields Q ((two_kids kids at x y >>= k) before)
two_small Q at before [] small x y k more = tt
two_small Q at before (a ∷ []) small x y k more = tt
two_small Q at before (a ∷ z ∷ []) small x y k more =
    yields_then Q before Pair (two_kids (a ∷ z ∷ []) at x y) k
    (yields_then Pair before (λ out d. IsSmallCode x a.size out) (a.row (at + 1) x) second (small.0 (at + 1) x before)
    (λ p mid one. yields_then Pair mid (λ out d. IsSmallCode y z.size out) (z.row (at + 1 + a.size) y) (λ q. give (p, q))
    (small.1.0 (at + 1 + a.size) y mid)
    (λ q after two. (one, two))))
    (λ pq mid is.
    let total : sizes (a ∷ z ∷ []) ≡ 0 + a.size + z.size = refl in
    more pq mid a.size z.size (omega (arith, total)) is.0 is.1)
  where
    Pair : ExprOut × ExprOut → Context → Type 0
    Pair pq d = IsSmallCode x a.size pq.0 × IsSmallCode y z.size pq.1

    second : ExprOut → Rule (ExprOut × ExprOut)
    second p = z.row (at + 1 + a.size) y >>= (λ q. give (p, q))
two_small Q at before (a ∷ z ∷ y1 ∷ zs) small x y k more = tt

-- Blocks.

abbrev SmallBlock : BlockJudged → Type 0
SmallBlock b =
    (at owner cond : ℕ) (ts : List Stmt) (before : Context)
    → Yields (λ out d. HasSize (20 * b.size) (b.size - 1) (sum (map stmt_tables ts)) out) (b.row at owner cond ts before)

abbrev SmallBlocks : List BlockJudged → Type 0
SmallBlocks [] = Unit {0}
SmallBlocks (b ∷ bs) = SmallBlock b × SmallBlocks bs

-- whatever is given, it is
any_given : {A : Type 0} (r : Result (A × Context) Refusal) → Yields (λ (a : A) d. Unit {0}) r
any_given (Ok p) = tt
any_given (Err refusal) = tt

-- what a block gives a side gives
side_small : (P : StmtOut → Type 0) (at place : ℕ) (names : List Name) (keep : List Le) (certs : List Cert)
    (facts : List LinearForm) (block : Rule StmtOut)
    → ((d : Context) → Yields (λ out f. P out) (block d)) → (c : Context)
    → Yields (λ (r : if_rule.Side) f. P r.0) (if_rule.side at names keep place certs facts block c)
side_small P at place names keep certs facts block one c =
    yields_then Q c (λ u d. Unit {0}) (if_rule.begins at names facts c.scalars) (λ _. block >>= ending)
    (any_given (if_rule.begins at names facts c.scalars c))
    (λ u d begun. yields_then Q d (λ out f. P out) block ending (one d)
    (λ out f is. yields_then Q f (λ s g. Unit {0}) (if_rule.ends at names keep place certs (standing c))
    (λ end_. give (out, end_))
    (any_given (if_rule.ends at names keep place certs (standing c) f)) (λ end_ g ended. is)))
  where
    Q : if_rule.Side → Context → Type 0
    Q r f = P r.0

    ending : StmtOut → Rule if_rule.Side
    ending out = if_rule.ends at names keep place certs (standing c) >>= (λ end_. give (out, end_))

-- the command has the nodes and the tables of the test and of both sides
choosing_size : (test : Expr) (n i j a b : ℕ) (p : ExprOut) (one two : StmtOut) → IsSmallCode test n p
    → HasSize (20 * i) (i - 1) a one → HasSize (20 * j) (j - 1) b two
    → HasSize (20 * (1 + (n + (i + j)))) (n + (i + j)) (expr_tables test + a + b) (if_rule.choosing p.code one two)
choosing_size test n i j a b p one two kid first second =
    let command : Cmd = roll-Cmd (c.Cond p.code (if_rule.sequence one) (if_rule.sequence two)) in
    let whole : cmd_size command ≡ 1
    + (shape.expr_size p.code + (cmd_size (if_rule.sequence one) + cmd_size (if_rule.sequence two))) =
    fold-roll-Cmd ℕ cmd_size_step (c.Cond p.code (if_rule.sequence one) (if_rule.sequence two)) in
    let size_one : cmd_size (if_rule.sequence one) ≡ 1 + sum (map cmd_size one.cmds) =
    fold-roll-Cmd ℕ cmd_size_step (c.Seq one.cmds) in
    let size_two : cmd_size (if_rule.sequence two) ≡ 1 + sum (map cmd_size two.cmds) =
    fold-roll-Cmd ℕ cmd_size_step (c.Seq two.cmds) in
    let at_one = first.size in
    let at_two = second.size in
    let at_code = kid.size in
    let tables : cmd_tables command ≡ code.expr_tables p.code ++ (tables_of one.cmds ++ tables_of two.cmds) =
    fold-roll-Cmd (List (List ℕ)) cmd_tables_step (c.Cond p.code (if_rule.sequence one) (if_rule.sequence two))
    ∙ ap (λ (l : List (List ℕ)). code.expr_tables p.code ++ l)
    (ap (λ (l : List (List ℕ)). l ++ cmd_tables (if_rule.sequence two))
    (fold-roll-Cmd (List (List ℕ)) cmd_tables_step (c.Seq one.cmds))
    ∙ ap (λ (l : List (List ℕ)). tables_of one.cmds ++ l) (fold-roll-Cmd (List (List ℕ)) cmd_tables_step (c.Seq two.cmds))) in
    let long = length-append (code.expr_tables p.code) (tables_of one.cmds ++ tables_of two.cmds) in
    let long_sides = length-append (tables_of one.cmds) (tables_of two.cmds) in
    let many_one = first.tables in
    let many_two = second.tables in
    let many_code = kid.tables in
    let bytes = bytes_joined (code.expr_tables p.code) (tables_of one.cmds ++ tables_of two.cmds) in
    let bytes_sides = bytes_joined (tables_of one.cmds) (tables_of two.cmds) in
    let bytes_one = first.table_bytes in
    let bytes_two = second.table_bytes in
    let bytes_code = kid.table_bytes in
    let all = one_command command (20 * (1 + (n + (i + j)))) (n + (i + j)) (expr_tables test + a + b)
    (omega (arith, whole, size_one, size_two, at_one, at_two, at_code))
    (subst (λ (ts : List (List ℕ)). length ts ≤ n + (i + j)) (sym tables)
    (omega (arith, long, long_sides, many_one, many_two, many_code)))
    (subst (λ (ts : List (List ℕ)). bytes_of ts ≤ expr_tables test + a + b) (sym tables)
    (omega (arith, bytes, bytes_sides, bytes_one, bytes_two, bytes_code))) in
    record {
      size = all.size;
      tables = all.tables;
      table_bytes = all.table_bytes;
    }

-- Nodes.

-- the tables of a statement from its parts
abbrev stmt_bytes : Stmt-F Stmt → ℕ
stmt_bytes y = stmt_tables_step (map-Stmt Stmt ℕ stmt_tables y)

module _ (step : Step) (kids : List Judged) (small : SmallKids kids) (blocks : List BlockJudged) (at : ℕ) (before : Context) where
  let_small : (x : Name) (a : Expr)
      → Yields (λ out d. HasSize (20 * (1 + sizes kids)) (sizes kids) (expr_tables a) out) (binding step kids at x a before)
  let_small x a =
      yields_need Q before (has_counts step 1 0) at 2 (λ _. found (first_local step.args) at 3 >>= (λ l. from l))
      (λ counts. yields_found Q before (first_local step.args) at 3 (λ l. from l)
      (λ l there. one_small Q at before kids small a (λ p. typed l p)
      (λ p mid is. yields_found Q mid (kind_of mid (out-Expr a)) at 1 (λ t. let_rule.after at x l t p)
      (λ t known. yields_need Q mid (is_free mid l (Some x)) at 4
      (λ _. let_rule.bound x l p.form t >>= (λ _. give (let_rule.setting l p.code)))
      (λ free. set_size l p a (sizes kids) is)))))
    where
      Q : StmtOut → Context → Type 0
      Q out d = HasSize (20 * (1 + sizes kids)) (sizes kids) (expr_tables a) out

      typed : ℕ → ExprOut → Rule StmtOut
      typed l p = kind at a >>= (λ t. let_rule.after at x l t p)

      from : ℕ → Rule StmtOut
      from l = one_kid kids at a >>= (λ p. typed l p)

  -- after index and value
  put_after : (Q : StmtOut → Context → Type 0) (a : Name) (p q : ExprOut) (mid : Context)
      → ((k : Clause) (d : Context) → Q (put_rule.storing k p.code q.code) d)
      → Yields Q (put_rule.after step.certs at a p q mid)
  put_after Q a p q mid right =
      yields_found Q mid (own mid a) at 4 (λ k. put_rule.element step.certs at a k p q)
      (λ k owned. yields_shown Q mid at step.certs (sum_of (negsuc 0) ((pos 1, k.length) ∷ (negsuc 0, p.form) ∷ []))
      (λ _. need (nat_lt k.writes put_rule.most_writes) at 3
      >>= (λ _. put_rule.counted_write a >>= (λ _. give (put_rule.storing k p.code q.code))))
      (λ closes. yields_need Q mid (nat_lt k.writes put_rule.most_writes) at 3
      (λ _. put_rule.counted_write a >>= (λ _. give (put_rule.storing k p.code q.code)))
      (λ room. right k (with_clause a written mid))))

  module _ (i v : Expr) where
    abbrev Stored : StmtOut → Context → Type 0
    Stored out d = HasSize (20 * (1 + sizes kids)) (sizes kids) (expr_tables i + expr_tables v) out

    stored : (k : Clause) (p q : ExprOut) (m n : ℕ) → m + n ≡ sizes kids → IsSmallCode i m p → IsSmallCode v n q
        → HasSize (20 * (1 + sizes kids)) (sizes kids) (expr_tables i + expr_tables v) (put_rule.storing k p.code q.code)
    stored k p q m n sum one two =
        subst (λ (t : ℕ). HasSize (20 * (1 + t)) t (expr_tables i + expr_tables v) (put_rule.storing k p.code q.code)) sum
        (store_size k p q i v m n one two)

    put_small : (a : Name) → Yields Stored (putting step kids at a i v before)
    put_small a =
        yields_need Stored before (has_counts step 0 1) at 2 (λ _. get_rule.before at a >>= (λ _. kids_then))
        (λ counts. yields_need Stored before (is_some (own before a)) at 4 (λ _. kids_then)
        (λ named. two_small Stored at before kids small i v (λ pq. put_rule.after step.certs at a pq.0 pq.1)
        (λ pq mid m n sum one two. put_after Stored a pq.0 pq.1 mid (λ k d. stored k pq.0 pq.1 m n sum one two))))
      where
        kids_then : Rule StmtOut
        kids_then = two_kids kids at i v >>= (λ pq. put_rule.after step.certs at a pq.0 pq.1)

    move_after : (a b : Name) (p q : ExprOut) (mid : Context)
        → ((k : Clause) (d : Context) → Stored (put_rule.storing k p.code q.code) d)
        → Yields Stored (move_rule.after step.certs at a b p q mid)
    move_after a b p q mid right =
        yields_then Stored mid Stored (put_rule.after step.certs at a p q)
        (λ out. move_rule.may_take at a b >>= (λ _. move_rule.named a b >>= (λ _. give out)))
        (put_after Stored a p q mid right)
        (λ out d is. yields_need Stored d (can_move d a b) at 5 (λ _. move_rule.named a b >>= (λ _. give out)) (λ may. is))

    move_small : (b a : Name) → Yields Stored (moving step kids at b a i v before)
    move_small b a =
        yields_need Stored before (has_counts step 0 1) at 2 (λ _. move_rule.before at a b >>= (λ _. kids_then))
        (λ counts. yields_then Stored before Any (move_rule.before at a b) (λ _. kids_then) (any (move_rule.before at a b before))
        (λ u d there. two_small Stored at d kids small i v (λ pq. move_rule.after step.certs at a b pq.0 pq.1)
        (λ pq mid m n sum one two. move_after a b pq.0 pq.1 mid (λ k f. stored k pq.0 pq.1 m n sum one two))))
      where
        kids_then : Rule StmtOut
        kids_then = two_kids kids at i v >>= (λ pq. move_rule.after step.certs at a b pq.0 pq.1)

        Any : Unit {0} → Context → Type 0
        Any u d = Unit {0}

        any : (r : Result (Unit {0} × Context) Refusal) → Yields Any r
        any (Ok p) = tt
        any (Err refusal) = tt

  -- the greatest size of what the node gives
  abbrev Within : ℕ → StmtOut → Context → Type 0
  Within bytes out d = HasSize (20 * (1 + sizes kids + block_sizes blocks)) (1 + sizes kids + block_sizes blocks - 1) bytes out

  kids_alone : (bytes : ℕ) (r : Result (StmtOut × Context) Refusal)
      → Yields (λ out d. HasSize (20 * (1 + sizes kids)) (sizes kids) bytes out) r → Yields (Within bytes) r
  kids_alone bytes r is =
      yields_more (λ out d. HasSize (20 * (1 + sizes kids)) (sizes kids) bytes out) (Within bytes)
      (λ out d one. size_more (20 * (1 + sizes kids)) (20 * (1 + sizes kids + block_sizes blocks)) (sizes kids)
      (1 + sizes kids + block_sizes blocks - 1) bytes bytes out
      (omega arith) (omega arith) (omega arith) one) r is

  if_small : SmallBlocks blocks → (test : Expr) (names : List Name) (keep : List Le) (first second : List Stmt)
      → Yields (Within (expr_tables test + sum (map stmt_tables first) + sum (map stmt_tables second)))
      (branching step kids blocks at test names keep first second before)
  if_small whole test names keep first second = by blocks refl whole where
    bytes : ℕ
    bytes = expr_tables test + sum (map stmt_tables first) + sum (map stmt_tables second)

    by : (bs : List BlockJudged) → blocks ≡ bs → SmallBlocks bs
        → Yields (Within bytes) (branching step kids bs at test names keep first second before)
    by [] is good = tt
    by (b ∷ []) is good = tt
    by (b ∷ d ∷ []) is good =
        yields_need (Within bytes) before (has_counts step 0 (length keep + length keep)) at 2
        (λ _. one_kid kids at test >>= rest)
        (λ counts. one_small (Within bytes) at before kids small test rest (λ p mid kid. sided p mid kid))
      where
        one_rule : Rule StmtOut
        one_rule = b.row (at + 1 + sizes kids) at 4 first

        two_rule : Rule StmtOut
        two_rule = d.row (at + 1 + sizes kids + b.size) at 5 second

        rest : ExprOut → Rule StmtOut
        rest p = if_rule.after at names keep step.certs p one_rule two_rule

        total : block_sizes blocks ≡ b.size + d.size
        total = let sum_is : block_sizes (b ∷ d ∷ []) ≡ 0 + b.size + d.size = refl in omega (arith, ap block_sizes is, sum_is)

        One : StmtOut → Type 0
        One out = HasSize (20 * b.size) (b.size - 1) (sum (map stmt_tables first)) out

        Two : StmtOut → Type 0
        Two out = HasSize (20 * d.size) (d.size - 1) (sum (map stmt_tables second)) out

        done : (p : ExprOut) (one two : StmtOut) (f : Context) → IsSmallCode test (sizes kids) p → One one → Two two
            → Within bytes (if_rule.choosing p.code one two) f
        done p one two f kid first_is second_is =
            size_more (20 * (1 + (sizes kids + (b.size + d.size)))) (20 * (1 + sizes kids + block_sizes blocks))
            (sizes kids + (b.size + d.size)) (1 + sizes kids + block_sizes blocks - 1) bytes bytes
            (if_rule.choosing p.code one two) (omega (arith, total)) (omega (arith, total)) (omega arith)
            (choosing_size test (sizes kids) b.size d.size (sum (map stmt_tables first)) (sum (map stmt_tables second)) p one two
            kid first_is second_is)

        sided : (p : ExprOut) (mid : Context) → IsSmallCode test (sizes kids) p → Yields (Within bytes) (rest p mid)
        sided p mid kid =
            yields_then (Within bytes) mid (λ (r : if_rule.Side) f. One r.0)
            (if_rule.side at names keep 0 step.certs p.yes one_rule) (λ one. second_side >>= (λ two. joining one two))
            (side_small One at 0 names keep step.certs p.yes one_rule (good.0 (at + 1 + sizes kids) at 4 first) mid)
            (λ one f first_is. yields_then (Within bytes) f (λ (r : if_rule.Side) g. Two r.0) second_side (λ two. joining one two)
            (side_small Two at (counted (length keep)) names keep (drop (length keep) step.certs) p.no two_rule
            (good.1.0 (at + 1 + sizes kids + b.size) at 5 second) f)
            (λ two g second_is. yields_then (Within bytes) g (λ u h. Unit {0}) (if_rule.joins at names keep one.1 two.1)
            (λ _. give (if_rule.choosing p.code one.0 two.0))
            (any_given (if_rule.joins at names keep one.1 two.1 g))
            (λ u h joined_so. done p one.0 two.0 h kid first_is second_is)))
          where
            second_side : Rule if_rule.Side
            second_side = if_rule.side at names keep (counted (length keep)) (drop (length keep) step.certs) p.no two_rule

            joining : if_rule.Side → if_rule.Side → Rule StmtOut
            joining one two = if_rule.joins at names keep one.1 two.1 >>= (λ _. give (if_rule.choosing p.code one.0 two.0))
    by (b ∷ d ∷ e ∷ es) is good = tt

  map_small : (a x : Name) (v : Expr)
      → Yields (λ out d. HasSize (20 * (1 + sizes kids)) (sizes kids) (expr_tables v) out) (mapping step kids at a x v before)
  map_small a x v =
      yields_need Q before (has_counts step 3 0) at 2 (λ _. map_rule.locals at step.args >>= rest)
      (λ counts. yields_then Q before (λ l d. Unit {0}) (map_rule.locals at step.args) rest
      (any_given (map_rule.locals at step.args before))
      (λ l d there. yields_then Q d (λ k e. Unit {0}) (map_rule.array at a l) (from_array l) (any_given (map_rule.array at a l d))
      (λ k e found_so. yields_then Q e (λ u g. Unit {0}) (map_rule.begins at a x l k)
      (λ _. one_kid kids at v >>= (λ p. map_rule.after at a l k (standing e) p.code))
      (any_given (map_rule.begins at a x l k e))
      (λ u g begun. one_small Q at g kids small v (λ p. map_rule.after at a l k (standing e) p.code)
      (λ p mid is. after l k (standing e) p mid is)))))
    where
      Q : StmtOut → Context → Type 0
      Q out d = HasSize (20 * (1 + sizes kids)) (sizes kids) (expr_tables v) out

      from_array : ElementLocals → Clause → Rule StmtOut
      from_array l k = now >>= (λ d. map_rule.begins at a x l k
          >>= (λ _. one_kid kids at v >>= (λ p. map_rule.after at a l k (standing d) p.code)))

      rest : ElementLocals → Rule StmtOut
      rest l = map_rule.row at a x l (one_kid kids at v)

      after : (l : ElementLocals) (k : Clause) (stood : Standing) (p : ExprOut) (mid : Context) → IsSmallCode v (sizes kids) p
          → Yields Q (map_rule.after at a l k stood p.code mid)
      after l k stood p mid is =
          yields_found Q mid (len.code k) at 4
          (λ high. has_trips at k >>= (λ _. map_rule.ends at a stood >>= (λ _. give (map_rule.mapping l k high p.code))))
          (λ high code_is. yields_then Q mid (λ u d. Unit {0}) (has_trips at k)
          (λ _. map_rule.ends at a stood >>= (λ _. give (map_rule.mapping l k high p.code))) (any_given (has_trips at k mid))
          (λ u d counted. yields_then Q d (λ z e. Unit {0}) (map_rule.ends at a stood)
          (λ _. give (map_rule.mapping l k high p.code)) (any_given (map_rule.ends at a stood d))
          (λ z e ended. mapping_small l k (sizes kids) high p v code_is is)))

  fold_small : (t a x : Name) (v : Expr)
      → Yields (λ out d. HasSize (20 * (1 + sizes kids)) (sizes kids) (expr_tables v) out) (folding step kids at t a x v before)
  fold_small t a x v =
      yields_need Q before (has_counts step 4 0) at 2 (λ _. fold_rule.locals at step.args >>= rest)
      (λ counts. yields_then Q before (λ l d. Unit {0}) (fold_rule.locals at step.args) rest
      (any_given (fold_rule.locals at step.args before))
      (λ l d there. yields_then Q d (λ k e. Unit {0}) (fold_rule.array at t a l) (from_array l)
      (any_given (fold_rule.array at t a l d))
      (λ k e found_so. yields_then Q e (λ first f. Unit {0}) (fold_rule.start at t) (from_scalar l k)
      (any_given (fold_rule.start at t e))
      (λ first f started. yields_then Q f (λ u g. Unit {0}) (fold_rule.begins at t x l k first.1)
      (λ _. one_kid kids at v >>= (λ p. fold_rule.after at t l k first (standing f) p.code))
      (any_given (fold_rule.begins at t x l k first.1 f))
      (λ u g begun. one_small Q at g kids small v (λ p. fold_rule.after at t l k first (standing f) p.code)
      (λ p mid is. after l k first (standing f) p mid is))))))
    where
      Q : StmtOut → Context → Type 0
      Q out d = HasSize (20 * (1 + sizes kids)) (sizes kids) (expr_tables v) out

      from_scalar : FoldLocals → Clause → ℕ × Scalar → Rule StmtOut
      from_scalar l k first = now >>=
          (λ d. fold_rule.begins at t x l k first.1
          >>= (λ _. one_kid kids at v >>= (λ p. fold_rule.after at t l k first (standing d) p.code)))

      from_array : FoldLocals → Clause → Rule StmtOut
      from_array l k = fold_rule.start at t >>= from_scalar l k

      rest : FoldLocals → Rule StmtOut
      rest l = fold_rule.row at t a x l (one_kid kids at v)

      after : (l : FoldLocals) (k : Clause) (first : ℕ × Scalar) (stood : Standing) (p : ExprOut) (mid : Context)
          → IsSmallCode v (sizes kids) p → Yields Q (fold_rule.after at t l k first stood p.code mid)
      after l k first stood p mid is =
          yields_found Q mid (len.code k) at 4
          (λ high. has_trips at k >>= (λ _. fold_rule.ends at t l first.1 stood
          >>= (λ _. give (fold_rule.folding l k first.0 high p.code))))
          (λ high code_is. yields_then Q mid (λ u d. Unit {0}) (has_trips at k)
          (λ _. fold_rule.ends at t l first.1 stood >>= (λ _. give (fold_rule.folding l k first.0 high p.code)))
          (any_given (has_trips at k mid))
          (λ u d counted. yields_then Q d (λ z e. Unit {0}) (fold_rule.ends at t l first.1 stood)
          (λ _. give (fold_rule.folding l k first.0 high p.code)) (any_given (fold_rule.ends at t l first.1 stood d))
          (λ z e ended. folding_small l k first.0 (sizes kids) high p v code_is is)))

  for_small : SmallBlocks blocks → (x : Name) (low high : Expr) (names : List Name) (keep : List Le) (body : List Stmt)
      → Yields (Within (expr_tables low + expr_tables high + sum (map stmt_tables body)))
      (looping step kids blocks at x low high names keep body before)
  for_small whole x low high names keep body = by blocks refl whole where
    bytes : ℕ
    bytes = expr_tables low + expr_tables high + sum (map stmt_tables body)

    by : (bs : List BlockJudged) → blocks ≡ bs → SmallBlocks bs
        → Yields (Within bytes) (looping step kids bs at x low high names keep body before)
    by [] is good = tt
    by (d ∷ e ∷ es) is good = tt
    by (d ∷ []) is good =
        yields_need (Within bytes) before (for_rule.counts step (length keep)) at 2
        (λ _. for_rule.counter at step.args >>= bounds)
        (λ counts. yields_then (Within bytes) before (λ k c. Unit {0}) (for_rule.counter at step.args) bounds
        (any_given (for_rule.counter at step.args before))
        (λ k c counted. two_small (Within bytes) at c kids small low high (after_bounds k)
        (λ pq mid m n total one two. turned k pq mid m n total one two)))
      where
        block : Rule StmtOut
        block = d.row (at + 1 + sizes kids) at 5 body

        after_bounds : Counter → ExprOut × ExprOut → Rule StmtOut
        after_bounds k pq = for_rule.after at x names keep step.certs k pq.0 pq.1 block

        bounds : Counter → Rule StmtOut
        bounds k = two_kids kids at low high >>= after_bounds k

        total : block_sizes blocks ≡ d.size
        total = let sum_is : block_sizes (d ∷ []) ≡ 0 + d.size = refl in omega (arith, ap block_sizes is, sum_is)

        turned : (k : Counter) (pq : ExprOut × ExprOut) (mid : Context) (m n : ℕ) → m + n ≡ sizes kids → IsSmallCode low m pq.0
            → IsSmallCode high n pq.1 → Yields (Within bytes) (after_bounds k pq mid)
        turned k pq mid m n sum_is one two =
            yields_then (Within bytes) mid (λ marks f. Unit {0}) (for_rule.opens at x names keep step.certs k pq.0.form pq.1.form)
            (λ marks. block >>= for_rule.finishes at x names keep step.certs k pq.0.code pq.1.code marks)
            (any_given (for_rule.opens at x names keep step.certs k pq.0.form pq.1.form mid))
            (λ marks f opened. yields_then (Within bytes) f
            (λ out g. HasSize (20 * d.size) (d.size - 1) (sum (map stmt_tables body)) out) block
            (for_rule.finishes at x names keep step.certs k pq.0.code pq.1.code marks)
            (good.0 (at + 1 + sizes kids) at 5 body f)
            (λ out g inner. yields_then (Within bytes) g (λ end_ h. Unit {0})
            (for_rule.ends at x names keep (counted (1 + length keep)) (drop (1 + length keep) step.certs) marks.0 marks.1)
            (leaving out)
            (any_given (for_rule.ends at x names keep (counted (1 + length keep)) (drop (1 + length keep) step.certs) marks.0
            marks.1 g))
            (λ end_ h ended. yields_then (Within bytes) h (λ u j. Unit {0}) (for_rule.leaves at x names keep end_)
            (λ _. give (for_rule.looping k pq.0.code pq.1.code out))
            (any_given (for_rule.leaves at x names keep end_ h))
            (λ u j left. size_more (1 + 5 * m + (1 + 5 * n + (20 * d.size + 9))) (20 * (1 + sizes kids + block_sizes blocks))
            (m + (n + (d.size - 1))) (1 + sizes kids + block_sizes blocks - 1)
            (expr_tables low + (expr_tables high + sum (map stmt_tables body))) bytes (for_rule.looping k pq.0.code pq.1.code out)
            (omega (arith, total, sum_is)) (omega (arith, total, sum_is)) (omega arith)
            (counting_small k.count k.last pq.0.code pq.1.code out (k.trips ∷ out.trips) (1 + 5 * m) (1 + 5 * n) (20 * d.size) m n
            (d.size - 1) (expr_tables low) (expr_tables high) (sum (map stmt_tables body))
            (set_small k.count pq.0 low m one) (set_small k.last pq.1 high n two) inner)))))
          where
            leaving : StmtOut → Standing → Rule StmtOut
            leaving out end_ = for_rule.leaves at x names keep end_ >>= (λ _. give (for_rule.looping k pq.0.code pq.1.code out))

  parts_small : SmallBlocks blocks → (y : Stmt-F Stmt) → Yields (Within (stmt_bytes y)) (parts step kids blocks at y before)
  parts_small whole (s.Let x a) =
      kids_alone (expr_tables a) (parts step kids blocks at (s.Let x a) before)
      (yields_need (λ out d. HasSize (20 * (1 + sizes kids)) (sizes kids) (expr_tables a) out) before (are_none blocks) at 1
      (λ _. binding step kids at x a) (λ none. let_small x a))
  parts_small whole (s.Put a i v) =
      kids_alone (expr_tables i + expr_tables v) (parts step kids blocks at (s.Put a i v) before)
      (yields_need (λ out d. HasSize (20 * (1 + sizes kids)) (sizes kids) (expr_tables i + expr_tables v) out) before
      (are_none blocks) at 1 (λ _. putting step kids at a i v) (λ none. put_small i v a))
  parts_small whole (s.Move b a i v) =
      kids_alone (expr_tables i + expr_tables v) (parts step kids blocks at (s.Move b a i v) before)
      (yields_need (λ out d. HasSize (20 * (1 + sizes kids)) (sizes kids) (expr_tables i + expr_tables v) out) before
      (are_none blocks) at 1 (λ _. moving step kids at b a i v)
      (λ none. move_small i v b a))
  parts_small whole (s.If test names keep first second) = if_small whole test names keep first second
  parts_small whole (s.For x low high names keep body) = for_small whole x low high names keep body
  parts_small whole (s.Map a x v) =
      kids_alone (expr_tables v) (parts step kids blocks at (s.Map a x v) before)
      (yields_need (λ out d. HasSize (20 * (1 + sizes kids)) (sizes kids) (expr_tables v) out) before (are_none blocks) at 1
      (λ _. mapping step kids at a x v)
      (λ none. map_small a x v))
  parts_small whole (s.Fold t a x v) =
      kids_alone (expr_tables v) (parts step kids blocks at (s.Fold t a x v) before)
      (yields_need (λ out d. HasSize (20 * (1 + sizes kids)) (sizes kids) (expr_tables v) out) before (are_none blocks) at 1
      (λ _. folding step kids at t a x v)
      (λ none. fold_small t a x v))

  row_small : SmallBlocks blocks → (t : Stmt) → Yields (Within (stmt_tables t)) (stmt_row step kids blocks at t before)
  row_small whole t =
      subst (λ (bytes : ℕ). Yields (Within bytes) (stmt_row step kids blocks at t before))
      (sym (fold_out-Stmt ℕ stmt_tables_step t))
      (yields_need (Within (stmt_bytes (out-Stmt t))) before (fits step.rule (out-Stmt t)) at 1
      (λ _. parts step kids blocks at (out-Stmt t))
      (λ fit. parts_small whole (out-Stmt t)))

-- a note has no command
note_small : (step : Step) (alone : Bool) (at : ℕ) (before : Context) (m i : ℕ)
    → Yields (λ out d. HasSize m i 0 out) (note_row step alone at before)
note_small step alone at before m i =
    yields_need Q before alone at 1 (λ _. need (note_counts step) at 2 >>= (λ _. note_rule.row at step.args step.certs))
    (λ is_alone. yields_need Q before (note_counts step) at 2 (λ _. note_rule.row at step.args step.certs)
    (λ counts. yields_found Q before (flat step.args) at 3
    (λ f. cert at step.certs f >>= (λ _. added at f >>= (λ _. give nothing)))
    (λ f there. yields_cert Q before at step.certs f (λ _. added at f >>= (λ _. give nothing))
    (λ closes. by f (has_room before) refl))))
  where
    Q : StmtOut → Context → Type 0
    Q out d = HasSize m i 0 out

    by : (f : LinearForm) (room : Bool) → has_room before ≡ room → Yields Q ((added at f >>= (λ _. give nothing)) before)
    by f true is = rw is (nothing_size m i 0)
    by f false is = rw is tt

-- Nodes of a block, in order.

record IsSmallNode (n : StmtJudged) : Type 0 where
  pub some : 1 ≤ n.size
  pub note : (at : ℕ) (before : Context) → Yields (λ out d. HasSize (20 * n.size) (n.size - 1) 0 out) (n.as_note at before)
  pub statement : (at : ℕ) (t : Stmt) (before : Context)
      → Yields (λ out d. HasSize (20 * n.size) (n.size - 1) (stmt_tables t) out) (n.row at t before)

abbrev SmallNodes : List StmtJudged → Type 0
SmallNodes [] = Unit {0}
SmallNodes (n ∷ ns) = IsSmallNode n × SmallNodes ns

abbrev node_sizes : List StmtJudged → ℕ
node_sizes ns = sum (map (λ (n : StmtJudged). n.size) ns)

abbrev all_bytes : List Stmt → ℕ
all_bytes ts = sum (map stmt_tables ts)

module _ (owner cond : ℕ) where
  -- after commands of m nodes
  abbrev Whole : ℕ → ℕ → List StmtJudged → List Stmt → StmtOut → Context → Type 0
  Whole m bytes ns ts out d = HasSize (20 * (m + node_sizes ns)) (m + node_sizes ns - 1) (bytes + all_bytes ts) out

  -- a node more
  one_more : (m n bytes more : ℕ) (out o : StmtOut) → 1 ≤ n → HasSize (20 * m) (m - 1) bytes out → HasSize (20 * n) (n - 1) more o
      → HasSize (20 * (m + n)) (m + n - 1) (bytes + more) (joined out o)
  one_more m n bytes more out o some one two =
      size_more (20 * m + 20 * n) (20 * (m + n)) (m - 1 + (n - 1)) (m + n - 1) (bytes + more) (bytes + more) (joined out o)
      (omega arith) (omega (arith, some)) (omega arith)
      (both (20 * m) (20 * n) (m - 1) (n - 1) bytes more out o one two)

  abbrev IsWalked : List StmtJudged → Type 0
  IsWalked ns =
      (at : ℕ) (ts : List Stmt) (m bytes : ℕ) (out : StmtOut) (before : Context) → HasSize (20 * m) (m - 1) bytes out
      → Yields (Whole m bytes ns ts) (walk owner cond ns at ts out before)

  none_walked : IsWalked []
  none_walked at [] m bytes out before is =
      size_more (20 * m) (20 * (m + 0)) (m - 1) (m + 0 - 1) bytes (bytes + 0) out (omega arith) (omega arith) (omega arith) is
  none_walked at (t ∷ ts) m bytes out before is = tt

  module _ (n : StmtJudged) (ns : List StmtJudged) (one : IsSmallNode n) (rest : IsWalked ns) where
    whole : node_sizes (n ∷ ns) ≡ n.size + node_sizes ns
    whole = sum_by-cons (λ k. k) n.size (map (λ (k : StmtJudged). k.size) ns)

    note_walked : n.is_note ≡ true → IsWalked (n ∷ ns)
    note_walked e at ts m bytes out before is = rw e
        (yields_then (Whole m bytes (n ∷ ns) ts) before (λ o d. HasSize (20 * n.size) (n.size - 1) 0 o) (n.as_note at)
        (λ o. walk owner cond ns (at + n.size) ts (joined out o)) (one.note at before)
        (λ o d given. yields_more (Whole (m + n.size) (bytes + 0) ns ts) (Whole m bytes (n ∷ ns) ts)
        (λ q f got. size_more (20 * (m + n.size + node_sizes ns)) (20 * (m + node_sizes (n ∷ ns)))
        (m + n.size + node_sizes ns - 1) (m + node_sizes (n ∷ ns) - 1) (bytes + 0 + all_bytes ts) (bytes + all_bytes ts) q
        (omega (arith, whole)) (omega (arith, whole)) (omega arith) got)
        (walk owner cond ns (at + n.size) ts (joined out o) d)
        (rest (at + n.size) ts (m + n.size) (bytes + 0) (joined out o) d (one_more m n.size bytes 0 out o one.some is given))))

    statement_walked : n.is_note ≡ false → IsWalked (n ∷ ns)
    statement_walked e at [] m bytes out before is = rw e tt
    statement_walked e at (t ∷ us) m bytes out before is =
        let total : all_bytes (t ∷ us) ≡ stmt_tables t + all_bytes us = sum_by-cons (λ k. k) (stmt_tables t) (map stmt_tables us)
        in
        rw e
        (yields_then (Whole m bytes (n ∷ ns) (t ∷ us)) before (λ o d. HasSize (20 * n.size) (n.size - 1) (stmt_tables t) o)
        (n.row at t) (λ o. walk owner cond ns (at + n.size) us (joined out o))
        (one.statement at t before)
        (λ o d given. yields_more (Whole (m + n.size) (bytes + stmt_tables t) ns us) (Whole m bytes (n ∷ ns) (t ∷ us))
        (λ q f got. size_more (20 * (m + n.size + node_sizes ns)) (20 * (m + node_sizes (n ∷ ns)))
        (m + n.size + node_sizes ns - 1) (m + node_sizes (n ∷ ns) - 1) (bytes + stmt_tables t + all_bytes us)
        (bytes + all_bytes (t ∷ us)) q (omega (arith, whole)) (omega (arith, whole)) (omega (arith, total)) got)
        (walk owner cond ns (at + n.size) us (joined out o) d)
        (rest (at + n.size) us (m + n.size) (bytes + stmt_tables t) (joined out o) d
        (one_more m n.size bytes (stmt_tables t) out o one.some is given))))

    node_walked : (b : Bool) → n.is_note ≡ b → IsWalked (n ∷ ns)
    node_walked true e = note_walked e
    node_walked false e = statement_walked e

  walked : (ns : List StmtJudged) → SmallNodes ns → IsWalked ns
  walked [] small = none_walked
  walked (n ∷ ns) small = node_walked n ns small.0 (walked ns small.1) n.is_note refl

-- Trees.

module _ (turn : Turn) (exprs : (node : ExprNode) (at : ℕ) (e : Expr) (before : Context)
    → Yields (λ out d. IsSmallCode e (expr_size node) out) (expr.row turn node at e before)) where
  abbrev BlockIn : Block → Type 0
  BlockIn b = (at owner cond : ℕ) (ts : List Stmt) (before : Context)
      → Yields (λ out d. HasSize (20 * (block_judged turn b).size) ((block_judged turn b).size - 1) (all_bytes ts) out)
      ((block_judged turn b).row at owner cond ts before)

  abbrev StmtIn : StmtNode → Type 0
  StmtIn n = IsSmallNode (judged turn n)

  abbrev InBlock : Type 0
  InBlock = (b : Block) × BlockIn b

  abbrev InStmt : Type 0
  InStmt = (n : StmtNode) × StmtIn n

  kid_small : (n : ExprNode) → SmallKid (expr.judged turn n)
  kid_small n at x before =
      subst (λ (k : ℕ). Yields (λ out d. IsSmallCode x k out) ((expr.judged turn n).row at x before)) (sym (expr_size_is turn n))
      (exprs n at x before)

  kids_small : (nodes : List ExprNode) → SmallKids (map (expr.judged turn) nodes)
  kids_small [] = tt
  kids_small (n ∷ ns) = (kid_small n, kids_small ns)

  nodes_small : (ys : List InStmt) → SmallNodes (map (judged turn) (map (λ p. p.0) ys))
  nodes_small [] = tt
  nodes_small (y ∷ ys) = (y.1, nodes_small ys)

  blocks_small : (ys : List InBlock) → SmallBlocks (map (block_judged turn) (map (λ p. p.0) ys))
  blocks_small [] = tt
  blocks_small (y ∷ ys) = (y.1, blocks_small ys)

  block_step_small : (y : Block-F InBlock InStmt)
      → BlockIn (roll-Block (map-Block InBlock InStmt Block StmtNode (λ b. b.0) (λ n. n.0) y))
  block_step_small y =
      let x : Block-F Block StmtNode = map-Block InBlock InStmt Block StmtNode (λ b. b.0) (λ n. n.0) y in
      rw (fold-roll-Block BlockJudged StmtJudged block_step (judged_step turn) x)
      (λ at owner cond ts before. yields_more (Whole owner cond 0 0 (map (judged turn) x.nodes) ts)
      (λ out d. HasSize (20 * node_sizes (map (judged turn) x.nodes)) (node_sizes (map (judged turn) x.nodes) - 1) (all_bytes ts)
      out)
      (λ out d got. size_more (20 * (0 + node_sizes (map (judged turn) x.nodes))) (20 * node_sizes (map (judged turn) x.nodes))
      (0 + node_sizes (map (judged turn) x.nodes) - 1)
      (node_sizes (map (judged turn) x.nodes) - 1) (0 + all_bytes ts) (all_bytes ts) out (omega arith) (omega arith) (omega arith)
      got)
      (walk owner cond (map (judged turn) x.nodes) at ts nothing before)
      (walked owner cond (map (judged turn) x.nodes) (nodes_small y.nodes) at ts 0 0 nothing before
      (nothing_size (20 * 0) (0 - 1) 0)))

  stmt_step_small : (y : StmtNode-F InBlock InStmt)
      → StmtIn (roll-StmtNode (map-StmtNode InBlock InStmt Block StmtNode (λ b. b.0) (λ n. n.0) y))
  stmt_step_small y =
      let x : StmtNode-F Block StmtNode = map-StmtNode InBlock InStmt Block StmtNode (λ b. b.0) (λ n. n.0) y in
      let kids : List Judged = map (expr.judged turn) x.kids in
      let blocks : List BlockJudged = map (block_judged turn) x.blocks in
      rw (fold-roll-StmtNode BlockJudged StmtJudged block_step (judged_step turn) x) (record {
        some = omega arith;
        note = λ at before. note_small x.step (are_none x.kids && are_none blocks) at before
            (20 * (1 + sizes kids + block_sizes blocks)) (1 + sizes kids + block_sizes blocks - 1);
        statement = λ at t before. row_small x.step kids (kids_small x.kids) blocks at before (blocks_small y.blocks) t;
      })

  block_in : (b : Block) → BlockIn b
  block_in =
      ind-Block BlockIn StmtIn
      (λ x y is. subst (λ z. BlockIn (roll-Block z)) is (block_step_small y))
      (λ x y is. subst (λ z. StmtIn (roll-StmtNode z)) is (stmt_step_small y))

are_small : (block : Block) (ts : List Stmt) (m count : ℕ) → m ≡ block_size block → (out : StmtOut) (d : Context)
    → HasSize (20 * m) (m - 1) (all_bytes ts) out → Trips count out d → AreSmall block ts count out
are_small block ts m count same out d is trips =
    let size = is.size in
    let tables = is.tables in
    record {
      size = omega (arith, same, size);
      tables = omega (arith, same, tables);
      table_bytes = is.table_bytes;
      entries = trips.1;
    }

-- two things that hold of an answer
yields_both : (P Q R : StmtOut → Context → Type 0) → ((a : StmtOut) (d : Context) → P a d → Q a d → R a d)
    → (r : Result (StmtOut × Context) Refusal) → Yields P r → Yields Q r → Yields R r
yields_both P Q R more (Ok p) one two = more p.0 p.1 one two
yields_both P Q R more (Err refusal) one two = tt

pub commands_are_small : CodesAreSmall → CommandsAreSmall
commands_are_small exprs turn laws block at owner cond ts before spelled =
    yields_both (λ out d. HasSize (20 * (block_judged turn block).size) ((block_judged turn block).size - 1) (all_bytes ts) out)
    (Trips before.entries) (λ out d. AreSmall block ts before.entries out)
    (λ out d got trips. are_small block ts (block_judged turn block).size before.entries (block_size_is turn block) out d got
    trips)
    ((block_judged turn block).row at owner cond ts before)
    (block_in turn (λ node n e c. exprs turn laws node n e c) block at owner cond ts before)
    (block_trips turn block at owner cond ts before)
