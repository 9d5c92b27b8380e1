-- s-note [form]: the form, which a certificate shows to be at least 0, becomes a fact. There is no code.
use Rattle.std.specs.Prelude.{ℕ, ℤ, List}
use Rattle.side_certs.specs.declared.certificate.Cert.{Cert}
use Rattle.expr_rules.specs.Words.{Rule, ◌>>=◌, found, cert, added, give}
use Rattle.stmt_rules.specs.declared.output.StmtOut.{StmtOut}
use Rattle.stmt_rules.specs.Words.{flat, nothing}

abbrev pub row : ℕ → List ℤ → List Cert → Rule StmtOut
row at args certs = do
  f ← found (flat args) at 3
  _ ← cert at certs f
  _ ← added at f
  give nothing
