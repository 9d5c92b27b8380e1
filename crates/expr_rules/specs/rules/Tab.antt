-- e-tab: an entry of a table, which is at most the greatest one. Condition 4, before the kid: the table has at most 65,536
-- entries, as each table of a model within its limits has, so that no offset wraps. One certificate: the number of entries less
-- the index and 1.
use Rattle.std.specs.Prelude.{ℕ, ◌%◌, nat_le, Bool, List, [], ◌∷◌, length, ◌+ℤ◌, pos, negsuc}
use Rattle.std.specs.Int.{w32, to_le_bytes}
use Rattle.std.specs.List.{flat_map}
use Rattle.rup_base.specs.Gather.{greatest}
use Rattle.side_certs.specs.declared.certificate.Cert.{Cert}
use Rattle.model_syntax.specs.declared.expr.Scalar.{Scalar}
use Rattle.model_syntax.specs.declared.expr.Scalar.TheVariants.{Word, Byte, Flag}
use Rattle.model_syntax.specs.Limits.{entry_bytes}
use Rattle.bed_syntax.specs.declared.expression.BExpr.{BExpr}
use Rattle.bed_syntax.specs.declared.expression.BExpr.TheVariants as b
use Rattle.expr_rules.specs.declared.output.ExprOut.{ExprOut}
use Rattle.expr_rules.specs.Elements.{size_of, offset}
use Rattle.expr_rules.specs.Words.{Rule, ◌>>=◌, need, sum_of, shown, fresh_result}

abbrev pub most_entries : ℕ
most_entries = 65536

abbrev pub is_small : List ℕ → Bool
is_small ns = nat_le (length ns) most_entries

abbrev pub before : ℕ → List ℕ → Rule (Unit {0})
before at ns = need (is_small ns) at 4

-- the bytes of an entry, the lowest first; no table has flags
abbrev pub entry : Scalar → ℕ → List ℕ
entry Word n = to_le_bytes w32 n
entry Byte n = n % 256 ∷ []
entry Flag n = []

abbrev pub text : Scalar → List ℕ → List ℕ
text t ns = flat_map (entry t) ns

abbrev pub code : Scalar → List ℕ → BExpr → BExpr
code t ns index = b.Table (size_of (entry_bytes t)) (text t ns) (offset (entry_bytes t) index)

abbrev pub after : List Cert → ℕ → Scalar → List ℕ → ExprOut → Rule ExprOut
after certs at t ns p = do
  _ ← shown at certs (sum_of (pos (length ns) +ℤ negsuc 0) ((negsuc 0, p.form) ∷ []))
  fresh_result at (greatest ns) (code t ns p.code)
