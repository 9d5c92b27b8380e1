-- e-lit is sound.
use Rattle.std.proofs.Common.{ℕ, ◌≤◌, List, length, pos}
use Rattle.side_certs.specs.LinearForm.{constant}
use Rattle.side_certs.proofs.laws.Values.{value_constant}
use Rattle.model_syntax.specs.declared.expr.Scalar.TheVariants.{Word}
use Rattle.model_syntax.specs.declared.program.Param.{Param}
use Rattle.model_syntax.specs.Scope.{Scope}
use Rattle.sym_heap.specs.Context.{Context}
use Rattle.sym_heap.proofs.laws.Extending.{known_constant}
use Rattle.bed_syntax.specs.declared.expression.BExpr.TheVariants as b
use Rattle.expr_rules.specs.Words.{give, plain}
use Rattle.expr_rules.specs.Sound.{ExprDone, Yields}
use Rattle.expr_rules.specs.rules.Lit.{after}
use Rattle.expr_rules.proofs.Codes.{value_lit, locals_lit}
use Rattle.expr_rules.proofs.Came.{Nothing, Came, came_done}
use Rattle.expr_rules.proofs.Fresh.{plain_kid, plain_right}
use Rattle.expr_rules.proofs.laws.Yields.{yields_made}

pub sound : (ps : List Param) (scope : Scope) (c : Context) → Came Nothing ps scope c c → (at n : ℕ) → n ≤ 4294967295
    → Yields (ExprDone ps scope (λ env. n) Word c) (after at n c)
sound ps scope c came at n small =
    yields_made (ExprDone ps scope (λ env. n) Word c) c at (constant (pos n)) (λ f. give (plain (b.Lit n) f))
    (came_done Nothing ps scope c c came (λ env. n) Word (plain (b.Lit n) (constant (pos n)))
    (plain_kid c c (b.Lit n) (constant (pos n)) (known_constant (length c.tops) (pos n)) (λ xs has. locals_lit xs n))
    (λ call v env mem vars fits r. plain_right n Word (b.Lit n) (constant (pos n)) v mem vars (value_lit mem vars n) small
    (value_constant v (pos n))))
