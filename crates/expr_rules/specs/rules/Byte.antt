-- e-byte: the byte of a word that is one. One certificate: 255 less the word.
use Rattle.std.specs.Prelude.{ℕ, pos, negsuc, List, [], ◌∷◌}
use Rattle.side_certs.specs.declared.certificate.Cert.{Cert}
use Rattle.expr_rules.specs.declared.output.ExprOut.{ExprOut}
use Rattle.expr_rules.specs.Words.{Rule, ◌>>=◌, sum_of, shown, give, plain}

abbrev pub after : List Cert → ℕ → ExprOut → Rule ExprOut
after certs at p = do
  _ ← shown at certs (sum_of (pos 255) ((negsuc 0, p.form) ∷ []))
  give (plain p.code p.form)
