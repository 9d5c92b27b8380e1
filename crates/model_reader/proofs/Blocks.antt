-- Statements with blocks are read while what stands before the blocks is held.
use Rattle.std.proofs.Common.{◌≡◌, List, Ok, Result}
use Rattle.model_syntax.specs.Names.{Name}
use Rattle.rup_base.specs.declared.arg.Place.{Place}
use Rattle.model_syntax.specs.declared.expr.Expr.{Expr}
use Rattle.model_syntax.specs.declared.stmt.Le.{Le}
use Rattle.model_syntax.specs.declared.stmt.Stmt.{Stmt}
use Rattle.model_syntax.specs.declared.stmt.Stmt.TheVariants as s
use Rattle.model_reader.specs.declared.parts.Misread.{Misread}
use Rattle.model_reader.specs.Yields.{Yields}
use Rattle.model_reader.specs.Parts.{Reading, nth, finished}
use Rattle.model_reader.specs.Statements.{block, choice_of, carried, range_of, if_of, for_of}

module _ (p : Place) (fs : List Reading) (result : Result Stmt Misread) where
  pub if_read : (held h : Expr × List Name × List Le) (first second : List Stmt) → choice_of p fs ≡ Ok held → h ≡ held
      → nth 3 block p fs ≡ Ok first → nth 4 block p fs ≡ Ok second
      → Yields result (finished (s.If h.0 h.1 h.2 first second) 5 fs) → Yields result (if_of p fs)
  if_read held h first second a same b c last = rw (a, b, c) (rw same at last)

  pub for_read : (held r : Name × Expr × Expr) (c : List Name × List Le) (body : List Stmt) → range_of p fs ≡ Ok held
      → r ≡ held → carried 3 p fs ≡ Ok c → nth 5 block p fs ≡ Ok body
      → Yields result (finished (s.For r.0 r.1 r.2 c.0 c.1 body) 6 fs) → Yields result (for_of p fs)
  for_read held r c body a same b d last = rw (a, b, d) (rw same at last)
