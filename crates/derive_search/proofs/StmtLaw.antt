-- What the search finds for a statement is an instance: by induction over
-- the statement, whose blocks have statements for which it is so.
use Rattle.std.proofs.Common.{◌≡◌, subst, ℕ, ◌+◌, List, [], ◌∷◌, map}
use Rattle.model_syntax.specs.declared.stmt.Stmt.{Stmt, Stmt-F, out-Stmt, map-Stmt, roll-Stmt, out-roll-Stmt, ind-Stmt}
use Rattle.model_syntax.specs.declared.stmt.Stmt.TheFolds.{fold_out-Stmt}
use Rattle.model_syntax.specs.declared.stmt.Stmt.TheOpen as s
use Rattle.derive_search.specs.Guide.{Guide}
use Rattle.derive_search.specs.declared.seeker.Seeker.{Seeker}
use Rattle.derive_search.specs.Nodes.{Adds}
use Rattle.derive_search.specs.Notes.{notes_before}
use Rattle.derive_search.specs.Statements as search
use Rattle.derive_search.specs.Instance.{Gives, StmtDerives}
use Rattle.derive_search.proofs.laws.Walking.{gives_enter}
use Rattle.derive_search.proofs.Adding.{Added}
use Rattle.derive_search.proofs.Blocks.{Derivable, Derivables, noted_derives}
use Rattle.derive_search.proofs.NoteLaw.{notes_derive}
use Rattle.derive_search.proofs.Stands.{begun}
use Rattle.derive_search.proofs.rules.Fold.{fold_derives}
use Rattle.derive_search.proofs.rules.For.{for_derives}
use Rattle.derive_search.proofs.rules.If.{if_derives}
use Rattle.derive_search.proofs.rules.Let.{let_derives}
use Rattle.derive_search.proofs.rules.Map.{map_derives}
use Rattle.derive_search.proofs.rules.Move.{move_derives}
use Rattle.derive_search.proofs.rules.Put.{put_derives}

module _ (guide : Guide) (deep : ℕ) where
  -- a statement, and that it is so for it
  abbrev Proved : Type 0
  Proved = (t : Stmt) × Derivable guide deep t

  abbrev bare : List Proved → List Stmt
  bare ys = map (λ p. p.0) ys

  all_of : (ys : List Proved) → Derivables guide deep (bare ys)
  all_of [] = tt
  all_of (y ∷ ys) = (y.1, all_of ys)

  abbrev open_ : Stmt-F Proved → Stmt-F Stmt
  open_ y = map-Stmt Proved Stmt (λ p. p.0) y

  abbrev searches : Stmt-F Stmt → Stmt-F Adds
  searches shape = map-Stmt Stmt Adds (search.seek_stmt guide deep) shape

  shape_derives : (z : Stmt) (k : Seeker) (n : ℕ) (y : Stmt-F Proved) → out-Stmt z ≡ open_ y
      → Gives (StmtDerives guide z k) (search.statement guide deep k.entered n (searches (open_ y)) (begun k))
  shape_derives z k n (s.Let x a) is = let_derives guide z k deep n x a is
  shape_derives z k n (s.Put a i v) is = put_derives guide z k deep n a i v is
  shape_derives z k n (s.Move b a i v) is = move_derives guide z k deep n b a i v is
  shape_derives z k n (s.If test xs rs first second) is =
      if_derives guide z k deep n test xs rs (bare first) (bare second) is (all_of first) (all_of second)
  shape_derives z k n (s.For x low high xs rs body) is =
      for_derives guide z k deep n x low high xs rs (bare body) is (all_of body)
  shape_derives z k n (s.Map a x v) is = map_derives guide z k deep n a x v is
  shape_derives z k n (s.Fold t a x v) is = fold_derives guide z k deep n t a x v is

  opened_derives : (z : Stmt) (y : Stmt-F Proved) → out-Stmt z ≡ open_ y → Derivable guide deep z
  opened_derives z y is done k =
      let all : Gives (Added guide (z ∷ []) done k) (search.stmt_step guide deep (searches (open_ y)) done k) =
      noted_derives guide z (notes_before guide.lemmas (searches (open_ y))) (search.own_goal guide deep (searches (open_ y)))
      (notes_derive guide (searches (open_ y)) guide.lemmas)
      (λ t. gives_enter (StmtDerives guide z t) t
      (λ at l. search.statement guide deep at l.stmts (searches (open_ y)) (record l { stmts = l.stmts + 1 }))
      (λ room. shape_derives z t t.stmts y is)) done k in
      rw (fold_out-Stmt Adds (search.stmt_step guide deep) z, is) all

  pub stmt_derives : (t : Stmt) → Derivable guide deep t
  stmt_derives = ind-Stmt (Derivable guide deep)
      (λ z y is. subst (λ (r : Stmt-F Stmt). Derivable guide deep (roll-Stmt r)) is
      (opened_derives (roll-Stmt (open_ y)) y (out-roll-Stmt (open_ y))))

  pub all_derive : (ts : List Stmt) → Derivables guide deep ts
  all_derive [] = tt
  all_derive (t ∷ ts) = (stmt_derives t, all_derive ts)
