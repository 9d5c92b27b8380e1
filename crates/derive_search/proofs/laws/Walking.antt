-- What holds where the search goes on, through its words.
use Rattle.std.proofs.Common.{◌≡◌, refl, arith, ℕ, ◌+◌, ◌≤◌, nat_lt, Bool, true, false, List, Option, Some, None, Result, Ok, Err}
use Rattle.std.proofs.lemmas.Bool.{ltb-true}
use Rattle.rup_base.specs.Answers.{and_then_with}
use Rattle.rup_base.specs.declared.refusal.Refusal.{Refusal}
use Rattle.sym_heap.specs.Context.{Context}
use Rattle.deriv_tree.specs.Shape.{most_nodes}
use Rattle.deriv_tree.specs.declared.tree.ExprNode.{ExprNode}
use Rattle.derive_search.specs.declared.found.Found.{Found}
use Rattle.derive_search.specs.declared.seeker.Seeker.{Seeker}
use Rattle.derive_search.specs.Words.{Seek, ◌>>=◌, enter, where_holds, with_context}
use Rattle.derive_search.specs.Rows.{Chosen}
use Rattle.derive_search.specs.Expressions.{node, ended}
use Rattle.derive_search.specs.Instance.{Gives}

module _ {B : Type 0} (Q : B → Seeker → Type 0) (s : Seeker) where
  pub gives_then : {A : Type 0} (P : A → Seeker → Type 0) (m : Seek A) (k : A → Seek B) → Gives P (m s)
      → ((a : A) (t : Seeker) → P a t → Gives Q (k a t)) → Gives Q ((m >>= k) s)
  gives_then {A} P m k one more = by (m s) one where
    by : (r : Result (A × Seeker) Refusal) → Gives P r → Gives Q (and_then_with r k)
    by (Ok p) one = more p.0 p.1 one
    by (Err refusal) one = tt

  pub gives_enter : (next : ℕ → Seek B)
      → (s.entered + 1 ≤ most_nodes → Gives Q (next s.entered (record s { entered = s.entered + 1 }))) → Gives Q (enter next s)
  gives_enter next more = by (nat_lt s.entered most_nodes) refl where
    by : (b : Bool) → nat_lt s.entered most_nodes ≡ b → Gives Q (enter next s)
    by true e = rw e (more (let below = ltb-true s.entered most_nodes e in omega (arith, below)))
    by false e = rw e tt

  pub gives_where : (test : Context → Bool) (refusal : Refusal) (next : Seek B) → (test s.ctx ≡ true → Gives Q (next s))
      → Gives Q (where_holds test refusal next s)
  gives_where test refusal next more = by (test s.ctx) refl where
    by : (b : Bool) → test s.ctx ≡ b → Gives Q (where_holds test refusal next s)
    by true e = rw e (more e)
    by false e = rw e tt

-- a row that fits is taken
module _ (Q : Found → Seeker → Type 0) (s : Seeker) (refusal : Refusal) (kids : List ExprNode) where
  pub gives_ended : (P : Option (Chosen × Context) → Type 0) (o : Option (Chosen × Context)) → P o
      → ((p : Chosen) (d : Context) → P (Some (p, d))
      → Q (record { node = node p.rule p.certs kids; out = p.out }) (record s { ctx = d }))
      → Gives Q (with_context s (ended refusal kids o))
  gives_ended P None is more = tt
  gives_ended P (Some p) is more = more p.0 p.1 is
