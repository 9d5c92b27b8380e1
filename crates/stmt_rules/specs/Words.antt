-- The words of rules of statements, beside those of expressions.
use Rattle.std.specs.Prelude.{ℕ, ◌+◌, ℤ, pos, negsuc, nat_eq, nat_le, nat_lt, Bool, true, not, ◌&&◌, List, [], ◌∷◌, ◌++◌, Option}
use Rattle.std.specs.Prelude.{Some, None, if◌then◌else◌}
use Rattle.std.specs.Ordering.{int_eq}
use Rattle.side_certs.specs.LinearForm.{LinearForm, within}
use Rattle.model_syntax.specs.declared.expr.Expr.{Expr, Expr-F}
use Rattle.model_syntax.specs.declared.expr.Expr.TheOpen as e
use Rattle.model_syntax.specs.declared.expr.Scalar.{Scalar}
use Rattle.model_syntax.specs.declared.expr.Scalar.TheVariants.{Word, Byte, Flag}
use Rattle.sym_heap.specs.declared.parts.Held.{Held}
use Rattle.sym_heap.specs.declared.parts.Clause.{Clause}
use Rattle.sym_heap.specs.Context.{Context, scalar, own}
use Rattle.bed_syntax.specs.declared.command.Cmd.{Cmd}
use Rattle.stmt_rules.specs.declared.output.StmtOut.{StmtOut}

-- no command
abbrev pub nothing : StmtOut
nothing = record { cmds = []; trips = [] }

-- one command, which is no loop
abbrev pub only : Cmd → StmtOut
only c = record { cmds = c ∷ []; trips = [] }

-- the commands of both, one after the other
abbrev pub joined : StmtOut → StmtOut → StmtOut
joined p q = record { cmds = p.cmds ++ q.cmds; trips = p.trips ++ q.trips }

-- Arguments.

-- the greatest local
abbrev pub most_local : ℕ
most_local = 65535

-- the greatest symbol
abbrev pub most_symbol : ℕ
most_symbol = 4294967295

-- a number from 0 to a greatest one
abbrev pub up_to : ℕ → ℤ → Option ℕ
up_to most (pos n) = if nat_le n most then Some n else None
up_to most (negsuc n) = None

-- the local that is the first argument
abbrev pub first_local : List ℤ → Option ℕ
first_local [] = None
first_local (a ∷ rest) = up_to most_local a

abbrev pub term_before : Option ℕ → ℤ → Option (List (ℕ × ℤ)) → Option (List (ℕ × ℤ))
term_before (Some s) k (Some ts) = Some ((s, k) ∷ ts)
term_before s k ts = None

-- a symbol and its coefficient in turn, the symbols rising from a least one, no coefficient 0
abbrev pub pairs : ℕ → List ℤ → Option (List (ℕ × ℤ))
pairs least [] = Some []
pairs least (s ∷ []) = None
pairs least (negsuc s ∷ k ∷ rest) = None
pairs least (pos s ∷ k ∷ rest) =
    if nat_le least s && nat_le s most_symbol && not (int_eq k (pos 0)) then term_before (Some s) k (pairs (s + 1) rest) else None

abbrev pub form_with : ℤ → Option (List (ℕ × ℤ)) → Option LinearForm
form_with k None = None
form_with k (Some ts) = within (record { constant = k; terms = ts })

-- a form as arguments: the constant, and then its symbols and coefficients
abbrev pub flat : List ℤ → Option LinearForm
flat [] = None
flat (k ∷ rest) = form_with k (pairs 0 rest)

-- the form with a term behind its own
abbrev pub behind : LinearForm → ℕ → ℤ → LinearForm
behind f s k = record { constant = f.constant; terms = f.terms ++ (s, k) ∷ [] }

-- the form with further terms behind its own
abbrev pub with_terms : LinearForm → Option (List (ℕ × ℤ)) → Option LinearForm
with_terms f None = None
with_terms f (Some ts) = within (record { constant = f.constant; terms = f.terms ++ ts })

-- each symbol comes before the least one
abbrev pub are_before : ℕ → List (ℕ × ℤ) → Bool
are_before least [] = true
are_before least (t ∷ ts) = nat_lt t.0 least && are_before least ts

-- Types.

abbrev pub kind_held : Option Held → Option Scalar
kind_held None = None
kind_held (Some h) = Some h.kind

-- the type of the elements of an array, which have one byte or four
abbrev pub kind_owned : Option Clause → Option Scalar
kind_owned None = None
kind_owned (Some k) = Some (if nat_eq k.size 1 then Byte else Word)

-- the type of an expression that is well typed: its root tells it, and the context where that is a name
abbrev pub kind_of : Context → Expr-F Expr → Option Scalar
kind_of c (e.Lit n) = Some Word
kind_of c (e.Var x) = kind_held (scalar c x)
kind_of c (e.Length a) = Some Word
kind_of c (e.Bin o p q) = Some Word
kind_of c (e.Test t p q) = Some Flag
kind_of c (e.Not p) = Some Flag
kind_of c (e.Both p q) = Some Flag
kind_of c (e.Either p q) = Some Flag
kind_of c (e.ToWord p) = Some Word
kind_of c (e.ToByte p) = Some Byte
kind_of c (e.Get a i) = kind_owned (own c a)
kind_of c (e.Tab t ns i) = Some t
