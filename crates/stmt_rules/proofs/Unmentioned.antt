-- One kept fact further, where those that mention a name are left out.
use Rattle.std.proofs.Common.{◌≡◌, refl, ◌∙◌, ap, ℕ, ◌≤◌, List, length, slice_index_or, Ok}
use Rattle.side_certs.proofs.laws.Combinations.{split_first}
use Rattle.model_syntax.specs.Names.{Name}
use Rattle.model_syntax.specs.declared.stmt.Le.{Le}
use Rattle.sym_heap.specs.Context.{Context}
use Rattle.stmt_rules.specs.Loops.{mentions, kept_unless, all_kept_but}
use Rattle.stmt_rules.proofs.Nested.{facts_left}

pub kept_but_on : (facts : List Le) (r : Le) (long : 1 ≤ length facts) (is : r ≡ slice_index_or facts 0 r) (at : ℕ) (x : Name)
    (c d : Context)
    → kept_unless (mentions x r) at r c ≡ Ok (tt, d)
    → all_kept_but at x facts c ≡ all_kept_but at x (facts_left facts r long is) d
kept_but_on facts r long is at x c d kept = ap (λ l. all_kept_but at x l c) (split_first facts r long is) ∙ rw kept refl
