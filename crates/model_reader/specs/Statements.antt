-- The rules of statements.
use Rattle.std.specs.Prelude.{ℕ, ◌+◌, List, Ok, codes}
use Rattle.model_syntax.specs.Names.{Name}
use Rattle.model_syntax.specs.declared.expr.Expr.{Expr}
use Rattle.model_syntax.specs.declared.stmt.Le.{Le}
use Rattle.model_syntax.specs.declared.stmt.Stmt.{Stmt}
use Rattle.model_syntax.specs.declared.stmt.Stmt.TheVariants as s
use Rattle.model_reader.specs.declared.words.StmtWord.{StmtWord}
use Rattle.model_reader.specs.declared.words.StmtWord.TheVariants as word
use Rattle.model_reader.specs.Words.{stmt_word}
use Rattle.model_reader.specs.Expressions.{expr}
use Rattle.model_reader.specs.Parts.{Kind, Rule, ◌>>=◌, nth, end, headed, behind, each, name, known}

abbrev pub names : Kind (List Name)
names f = f.names

abbrev pub element : Kind Name
element f = f.element

abbrev pub keep : Kind (List Le)
keep f = f.keep

abbrev pub block : Kind (List Stmt)
block f = f.block

abbrev pub stmt : Kind Stmt
stmt f = f.stmt

-- (let x e)
abbrev pub let_of : Rule Stmt
let_of p fs = do
  x ← nth 0 name p fs
  a ← nth 1 expr p fs
  _ ← end 2 fs
  Ok (s.Let x a)

-- (put a i e)
abbrev pub put_of : Rule Stmt
put_of p fs = do
  a ← nth 0 name p fs
  i ← nth 1 expr p fs
  v ← nth 2 expr p fs
  _ ← end 3 fs
  Ok (s.Put a i v)

-- (move b a i e)
abbrev pub move_of : Rule Stmt
move_of p fs = do
  b ← nth 0 name p fs
  a ← nth 1 name p fs
  i ← nth 2 expr p fs
  v ← nth 3 expr p fs
  _ ← end 4 fs
  Ok (s.Move b a i v)

-- (NAME*) (keep C*): the names that a block hands on, from a number on, and the facts that are kept
abbrev pub carried : ℕ → Rule (List Name × List Le)
carried i p fs = do
  xs ← nth i names p fs
  facts ← nth (i + 1) keep p fs
  Ok (xs, facts)

-- e (NAME*) (keep C*): what stands before the blocks of an if
abbrev pub choice_of : Rule (Expr × List Name × List Le)
choice_of p fs = do
  test ← nth 0 expr p fs
  c ← carried 1 p fs
  Ok (test, c.0, c.1)

-- (if e (NAME*) (keep C*) (do S*) (do S*))
abbrev pub if_of : Rule Stmt
if_of p fs = do
  h ← choice_of p fs
  first ← nth 3 block p fs
  second ← nth 4 block p fs
  _ ← end 5 fs
  Ok (s.If h.0 h.1 h.2 first second)

-- x lo hi: the name of a loop and its ends
abbrev pub range_of : Rule (Name × Expr × Expr)
range_of p fs = do
  x ← nth 0 name p fs
  low ← nth 1 expr p fs
  high ← nth 2 expr p fs
  Ok (x, low, high)

-- (for x lo hi (NAME*) (keep C*) (do S*))
abbrev pub for_of : Rule Stmt
for_of p fs = do
  range ← range_of p fs
  c ← carried 3 p fs
  body ← nth 5 block p fs
  _ ← end 6 fs
  Ok (s.For range.0 range.1 range.2 c.0 c.1 body)

-- (map a (x) e)
abbrev pub map_of : Rule Stmt
map_of p fs = do
  a ← nth 0 name p fs
  x ← nth 1 element p fs
  v ← nth 2 expr p fs
  _ ← end 3 fs
  Ok (s.Map a x v)

-- (fold s a (x) e)
abbrev pub fold_of : Rule Stmt
fold_of p fs = do
  t ← nth 0 name p fs
  a ← nth 1 name p fs
  x ← nth 2 element p fs
  v ← nth 3 expr p fs
  _ ← end 4 fs
  Ok (s.Fold t a x v)

-- what stands behind the word that begins the list
abbrev pub worded_stmt : StmtWord → Rule Stmt
worded_stmt word.Let p fs = let_of p fs
worded_stmt word.Put p fs = put_of p fs
worded_stmt word.Move p fs = move_of p fs
worded_stmt word.If p fs = if_of p fs
worded_stmt word.For p fs = for_of p fs
worded_stmt word.Map p fs = map_of p fs
worded_stmt word.Fold p fs = fold_of p fs

abbrev pub list_stmt : Rule Stmt
list_stmt p fs = do
  h ← headed p fs
  word ← known p (stmt_word h.0)
  worded_stmt word p h.1

-- (do S*)
abbrev pub block_of : Rule (List Stmt)
block_of p fs = behind (codes "do") p fs >>= each stmt
