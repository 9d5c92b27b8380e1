-- Code that is small, by its root: so many nodes of a derivation, and so many bytes of tables.
use Rattle.std.proofs.Common.{◌≡◌, refl, arith, ℕ, ◌+◌, ◌*◌, ◌≤◌, nat_eq, Bool, true, false, List, [], ◌∷◌, ◌++◌, length}
use Rattle.std.proofs.Common.{length-append, map, sum, if◌then◌else◌}
use Rattle.std.proofs.lemmas.List.Sums.{sum_by-cons}
use Rattle.model_syntax.specs.declared.expr.Scalar.{Scalar}
use Rattle.model_syntax.specs.declared.expr.Scalar.TheVariants.{Word, Byte, Flag}
use Rattle.model_syntax.specs.Limits.{entry_bytes}
use Rattle.sym_heap.specs.declared.parts.Clause.{Clause}
use Rattle.bed_syntax.specs.Shape.{expr_size, expr_size_step}
use Rattle.bed_syntax.specs.Tables.{expr_tables, expr_tables_step}
use Rattle.bed_syntax.specs.declared.operation.BOp.{BOp}
use Rattle.bed_syntax.specs.declared.operation.BOp.TheVariants as bop
use Rattle.bed_syntax.specs.declared.operation.Size.{Size}
use Rattle.bed_syntax.specs.declared.expression.BExpr.{BExpr}
use Rattle.bed_syntax.specs.declared.expression.BExpr.TheVariants as b
use Rattle.bed_syntax.proofs.laws.Nodes.{fold_lit, fold_var, fold_bin, fold_load, fold_table}
use Rattle.expr_rules.specs.Elements.{size_of, offset, address}
use Rattle.expr_rules.specs.rules.Get as get
use Rattle.expr_rules.specs.rules.Tab as tab

abbrev pub bytes_of : List (List ℕ) → ℕ
bytes_of tables = sum (map length tables)

-- so many nodes of code, so many tables, and so many bytes of them
pub record HasSize (nodes count bytes : ℕ) (code : BExpr) : Type 0 where
  pub size : expr_size code ≤ nodes
  pub tables : length (expr_tables code) ≤ count
  pub table_bytes : bytes_of (expr_tables code) ≤ bytes

abbrev pub IsSmall : ℕ → ℕ → BExpr → Type 0
IsSmall nodes bytes code = HasSize (5 * nodes) nodes bytes code

pub size_more : (m n s t a b : ℕ) (code : BExpr) → m ≤ n → s ≤ t → a ≤ b → HasSize m s a code → HasSize n t b code
size_more m n s t a b code more tables bytes is = let one = is.size in let two = is.tables in let three = is.table_bytes in
    record { size = omega (arith, more, one); tables = omega (arith, tables, two); table_bytes = omega (arith, bytes, three) }

bytes_joined : (one two : List (List ℕ)) → bytes_of (one ++ two) ≡ bytes_of one + bytes_of two
bytes_joined [] two = omega arith
bytes_joined (t ∷ ts) two =
    let whole : bytes_of (t ∷ (ts ++ two)) ≡ length t + bytes_of (ts ++ two) =
    sum_by-cons (λ n. n) (length t) (map length (ts ++ two)) in
    let first : bytes_of (t ∷ ts) ≡ length t + bytes_of ts = sum_by-cons (λ n. n) (length t) (map length ts) in
    let rest = bytes_joined ts two in
    omega (arith, whole, first, rest)

-- at each node

lit_size : (n : ℕ) → HasSize 1 0 0 (b.Lit n)
lit_size n =
    let size = fold_lit ℕ expr_size_step n in
    let tables = fold_lit (List (List ℕ)) expr_tables_step n in
    record { size = rw size (omega arith); tables = rw tables (omega arith); table_bytes = rw tables (omega arith) }

var_size : (x : ℕ) → HasSize 1 0 0 (b.Var x)
var_size x =
    let size = fold_var ℕ expr_size_step x in
    let tables = fold_var (List (List ℕ)) expr_tables_step x in
    record { size = rw size (omega arith); tables = rw tables (omega arith); table_bytes = rw tables (omega arith) }

bin_size : (op : BOp) (p q : BExpr) (m n s t a c : ℕ) → HasSize m s a p → HasSize n t c q
    → HasSize (1 + m + n) (s + t) (a + c) (b.Bin op p q)
bin_size op p q m n s t a c one two =
    let size = fold_bin ℕ expr_size_step op p q in
    let tables = fold_bin (List (List ℕ)) expr_tables_step op p q in
    let size_one = one.size in
    let size_two = two.size in
    let long : length (expr_tables p ++ expr_tables q) ≡ length (expr_tables p) + length (expr_tables q) =
    length-append (expr_tables p) (expr_tables q) in
    let tables_one = one.tables in
    let tables_two = two.tables in
    let whole = bytes_joined (expr_tables p) (expr_tables q) in
    let bytes_one = one.table_bytes in
    let bytes_two = two.table_bytes in
    record {
      size = rw size (omega (arith, size_one, size_two));
      tables = rw tables (omega (arith, long, tables_one, tables_two));
      table_bytes = rw tables (omega (arith, whole, bytes_one, bytes_two));
    }

load_size : (size : Size) (p : BExpr) (m s a : ℕ) → HasSize m s a p → HasSize (1 + m) s a (b.Load size p)
load_size size p m s a one =
    let size_is = fold_load ℕ expr_size_step size p in
    let tables = fold_load (List (List ℕ)) expr_tables_step size p in
    let size_one = one.size in
    record { size = rw size_is (omega (arith, size_one)); tables = rw tables one.tables; table_bytes = rw tables one.table_bytes }

table_size : (size : Size) (text : List ℕ) (p : BExpr) (m s a : ℕ) → HasSize m s a p
    → HasSize (1 + m) (1 + s) (length text + a) (b.Table size text p)
table_size size text p m s a one =
    let size_is = fold_table ℕ expr_size_step size text p in
    let tables = fold_table (List (List ℕ)) expr_tables_step size text p in
    let size_one = one.size in
    let long : length (expr_tables p ++ text ∷ []) ≡ length (expr_tables p) + length (text ∷ []) =
    length-append (expr_tables p) (text ∷ []) in
    let last : length (text ∷ []) ≡ 1 = refl in
    let tables_one = one.tables in
    let whole = bytes_joined (expr_tables p) (text ∷ []) in
    let text_bytes : bytes_of (text ∷ []) ≡ 0 + length text = refl in
    let bytes_one = one.table_bytes in
    record {
      size = rw size_is (omega (arith, size_one));
      tables = rw tables (omega (arith, long, last, tables_one));
      table_bytes = rw tables (omega (arith, whole, text_bytes, bytes_one));
    }

offset_size : (bytes : ℕ) (p : BExpr) (m s a : ℕ) → HasSize m s a p → HasSize (2 + m) s a (offset bytes p)
offset_size bytes p m s a one = by (nat_eq bytes 1) where
  by : (one_byte : Bool) → HasSize (2 + m) s a (if one_byte then p else b.Bin bop.Slu p (b.Lit 2))
  by true = size_more m (2 + m) s s a a p (omega arith) (omega arith) (omega arith) one
  by false = size_more (1 + m + 1) (2 + m) (s + 0) s (a + 0) a (b.Bin bop.Slu p (b.Lit 2)) (omega arith) (omega arith)
      (omega arith) (bin_size bop.Slu p (b.Lit 2) m 1 s 0 a 0 one (lit_size 2))

-- of each shape of a rule's code, from that of its kids

pub lit_small : (n : ℕ) → IsSmall 1 0 (b.Lit n)
lit_small n = size_more 1 5 0 1 0 0 (b.Lit n) (omega arith) (omega arith) (omega arith) (lit_size n)

pub var_small : (x : ℕ) → IsSmall 1 0 (b.Var x)
var_small x = size_more 1 5 0 1 0 0 (b.Var x) (omega arith) (omega arith) (omega arith) (var_size x)

-- the kid's code
pub same_small : (n bytes : ℕ) (p : BExpr) → IsSmall n bytes p → IsSmall (1 + n) bytes p
same_small n bytes p one = size_more (5 * n) (5 * (1 + n)) n (1 + n) bytes bytes p (omega arith) (omega arith) (omega arith) one

-- an operation with two kids, and one with a kid and a number
pub bin_small : (op : BOp) (p q : BExpr) (m n a c : ℕ) → IsSmall m a p → IsSmall n c q
    → IsSmall (1 + (m + n)) (a + c) (b.Bin op p q)
bin_small op p q m n a c one two =
    size_more (1 + 5 * m + 5 * n) (5 * (1 + (m + n))) (m + n) (1 + (m + n)) (a + c) (a + c) (b.Bin op p q) (omega arith)
    (omega arith) (omega arith) (bin_size op p q (5 * m) (5 * n) m n a c one two)

pub number_small : (op : BOp) (p : BExpr) (k n a : ℕ) → IsSmall n a p → IsSmall (1 + n) a (b.Bin op p (b.Lit k))
number_small op p k n a one =
    size_more (1 + 5 * n + 1) (5 * (1 + n)) (n + 0) (1 + n) (a + 0) a (b.Bin op p (b.Lit k)) (omega arith) (omega arith)
    (omega arith) (bin_size op p (b.Lit k) (5 * n) 1 n 0 a 0 one (lit_size k))

pub element_small : (k : Clause) (p : BExpr) (n a : ℕ) → IsSmall n a p → IsSmall (1 + n) a (get.code k p)
element_small k p n a one =
    size_more (1 + (1 + 1 + (2 + 5 * n))) (5 * (1 + n)) (0 + n) (1 + n) (0 + a) a (get.code k p) (omega arith) (omega arith)
    (omega arith)
    (load_size (size_of k.size) (address k p) (1 + 1 + (2 + 5 * n)) (0 + n) (0 + a)
    (bin_size bop.Add (b.Var k.pointer) (offset k.size p) 1 (2 + 5 * n) 0 n 0 a (var_size k.pointer)
    (offset_size k.size p (5 * n) n a one)))

text_length : (t : Scalar) (ns : List ℕ) → length (tab.text t ns) ≡ entry_bytes t * length ns
text_length t [] = omega arith
text_length t (n ∷ ns) =
    let rest = text_length t ns in
    let one : length (tab.entry t n) ≡ entry_bytes t = entry_length t in
    let joined : length (tab.entry t n ++ tab.text t ns) ≡ length (tab.entry t n) + length (tab.text t ns) =
    length-append (tab.entry t n) (tab.text t ns) in
    let product : entry_bytes t * (1 + length ns) ≡ entry_bytes t + entry_bytes t * length ns = omega arith in
    omega (arith, rest, one, joined, product)
  where
    entry_length : (u : Scalar) → length (tab.entry u n) ≡ entry_bytes u
    entry_length Word = refl
    entry_length Byte = refl
    entry_length Flag = refl

pub entry_small : (t : Scalar) (ns : List ℕ) (p : BExpr) (n a : ℕ) → IsSmall n a p
    → IsSmall (1 + n) (entry_bytes t * length ns + a) (tab.code t ns p)
entry_small t ns p n a one =
    let long = text_length t ns in
    size_more (1 + (2 + 5 * n)) (5 * (1 + n)) (1 + n) (1 + n) (length (tab.text t ns) + a) (entry_bytes t * length ns + a)
    (tab.code t ns p) (omega arith) (omega arith) (omega (arith, long))
    (table_size (size_of (entry_bytes t)) (tab.text t ns) (offset (entry_bytes t) p) (2 + 5 * n) n a
    (offset_size (entry_bytes t) p (5 * n) n a one))
