-- What a rule has of its kids, where each of them is sound.
use Rattle.std.proofs.Common.{◌≡◌, ℕ, ◌+◌, true, List, [], ◌∷◌, Ok}
use Rattle.model_syntax.specs.declared.expr.Expr.{Expr}
use Rattle.model_syntax.specs.declared.expr.Scalar.{Scalar}
use Rattle.model_syntax.specs.declared.program.Param.{Param}
use Rattle.model_syntax.specs.Environment.{Env}
use Rattle.model_syntax.specs.ExprType.{type_of}
use Rattle.model_syntax.specs.Formed.{expr_formed}
use Rattle.model_syntax.specs.Scope.{Scope}
use Rattle.model_syntax.specs.Spelling.{expr_spellable}
use Rattle.model_syntax.specs.Value.{eval}
use Rattle.sym_heap.specs.Context.{Context}
use Rattle.sym_heap.specs.Fits.{IsConsistent}
use Rattle.sym_heap.specs.Scoped.{IsScoped}
use Rattle.expr_rules.specs.declared.output.ExprOut.{ExprOut}
use Rattle.expr_rules.specs.Words.{Rule, ◌>>=◌, give, Judged, one_kid, two_kids}
use Rattle.expr_rules.specs.Sound.{ExprDone, Yields, IsSound}
use Rattle.expr_rules.proofs.laws.Yields.{yields_then, yields_more}
use Rattle.expr_rules.proofs.Came.{Kid, Came, Of, And, kid_of, kid_more, came_one, came_on, locals_back}

abbrev pub SoundKid : Judged → Type 0
SoundKid k = (at : ℕ) (e : Expr) → IsSound e (k.row at e)

abbrev pub SoundKids : List Judged → Type 0
SoundKids [] = Unit {0}
SoundKids (k ∷ ks) = SoundKid k × SoundKids ks

-- an expression that is formed, spellable and of this type
pub record Good (scope : Scope) (x : Expr) (t : Scalar) : Type 0 where
  pub formed : expr_formed x ≡ true
  pub spelled : expr_spellable x ≡ true
  pub typed : type_of x scope ≡ Ok t

-- what a rule has of two kids
pub record Pair (ps : List Param) (scope : Scope) (f g : Env → ℕ) (t u : Scalar) (before : Context) (pq : ExprOut × ExprOut)
    (mid : Context) : Type 0 where
  pub one : Kid before mid pq.0
  pub two : Kid before mid pq.1
  pub came : Came (And (Of f t pq.0) (Of g u pq.1)) ps scope before mid

module _ (Q : ExprOut → Context → Type 0) (ps : List Param) (scope : Scope) (before : Context) (consistent : IsConsistent before)
    (scoped : IsScoped ps scope before) (at : ℕ) where
  pub yields_one : (kids : List Judged) → SoundKids kids → (x : Expr) (t : Scalar) → Good scope x t → (k : ExprOut → Rule ExprOut)
      → ((p : ExprOut) (mid : Context) → ExprDone ps scope (eval x) t before p mid → Yields Q (k p mid))
      → Yields Q ((one_kid kids at x >>= k) before)
  yields_one [] sound x t good k more = tt
  yields_one (a ∷ []) sound x t good k more =
      yields_then Q before (ExprDone ps scope (eval x) t before) (a.row (at + 1) x) k
      (sound.0 (at + 1) x ps scope t before consistent scoped good.formed good.spelled good.typed) more
  yields_one (a ∷ b ∷ cs) sound x t good k more = tt

  -- the kid's answer is the rule's
  pub yields_kid : (kids : List Judged) → SoundKids kids → (x : Expr) (t : Scalar) → Good scope x t
      → ((p : ExprOut) (mid : Context) → ExprDone ps scope (eval x) t before p mid → Q p mid)
      → Yields Q (one_kid kids at x before)
  yields_kid [] sound x t good more = tt
  yields_kid (a ∷ []) sound x t good more =
      yields_more (ExprDone ps scope (eval x) t before) Q more (a.row (at + 1) x before)
      (sound.0 (at + 1) x ps scope t before consistent scoped good.formed good.spelled good.typed)
  yields_kid (a ∷ b ∷ cs) sound x t good more = tt

  pub yields_two : (kids : List Judged) → SoundKids kids → (x y : Expr) (t u : Scalar) → Good scope x t → Good scope y u
      → (k : ExprOut × ExprOut → Rule ExprOut)
      → ((pq : ExprOut × ExprOut) (mid : Context) → Pair ps scope (eval x) (eval y) t u before pq mid → Yields Q (k pq mid))
      → Yields Q ((two_kids kids at x y >>= k) before)
  yields_two [] sound x y t u one two k more = tt
  yields_two (a ∷ []) sound x y t u one two k more = tt
  yields_two (a ∷ b ∷ []) sound x y t u one two k more =
      yields_then Q before P (two_kids (a ∷ b ∷ []) at x y) k
      (yields_then P before (ExprDone ps scope (eval x) t before) (a.row (at + 1) x) second
      (sound.0 (at + 1) x ps scope t before consistent scoped one.formed one.spelled one.typed)
      (λ p mid done. yields_then P mid (ExprDone ps scope (eval y) u mid) (b.row (at + 1 + a.size) y) (λ q. give (p, q))
      (sound.1.0 (at + 1 + a.size) y ps scope u mid done.consistent done.scoped two.formed two.spelled two.typed)
      (λ q after more_done. both p mid q after done more_done)))
      more
    where
      P : ExprOut × ExprOut → Context → Type 0
      P = Pair ps scope (eval x) (eval y) t u before

      second : ExprOut → Rule (ExprOut × ExprOut)
      second p = b.row (at + 1 + a.size) y >>= (λ q. give (p, q))

      both : (p : ExprOut) (mid : Context) (q : ExprOut) (after : Context) → ExprDone ps scope (eval x) t before p mid
          → ExprDone ps scope (eval y) u mid q after → Pair ps scope (eval x) (eval y) t u before (p, q) after
      both p mid q after d e =
          let later : Kid mid after q = kid_of ps scope (eval y) u mid after q e in
          record {
            one = kid_more before mid after p e.extends (kid_of ps scope (eval x) t before mid p d);
            two = record {
              known = later.known;
              yes_known = later.yes_known;
              no_known = later.no_known;
              locals = λ xs has. later.locals xs (locals_back before mid xs d.extends has);
            };
            came = came_on (Of (eval x) t p) (Of (eval y) u q) ps scope before mid after
                (came_one ps scope (eval x) t before mid p d) (came_one ps scope (eval y) u mid after q e);
          }
  yields_two (a ∷ b ∷ c ∷ ds) sound x y t u one two k more = tt
