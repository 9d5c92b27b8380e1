-- One more turn of a loop.
use Rattle.std.proofs.Common.{◌≡◌, sym, ap, ◌∙◌, ℕ, suc, ◌+◌, ◌-◌, ◌<◌, List, [], ◌∷◌, ◌++◌, map}
use Rattle.std.proofs.Common.{arith}
use Rattle.std.specs.List.{range_with_len}
use Rattle.std.proofs.lemmas.List.FromFn.{map-range_with_len_more}
use Rattle.std.proofs.lemmas.List.{append_assoc}
use Rattle.model_syntax.specs.declared.stmt.Stmt.{Stmt}
use Rattle.bench_gen.specs.Generator.{statement, statements, after_four}

pub mapped_more : {X : Type 0} (f : ℕ → X) (k : ℕ)
    → map f (range_with_len 0 (k + 1)) ≡ map f (range_with_len 0 k) ++ f k ∷ []
mapped_more f k = map-range_with_len_more f 0 k k (omega (arith))

pub statements_more : (count counter state : ℕ) → counter < count
    → statements (count - counter) state ≡ statement state ∷ statements (count - (counter + 1)) (after_four state)
statements_more count counter state more =
    let left : count - counter ≡ suc (count - (counter + 1)) = omega (arith, more) in
    rw left

-- what is left of the statements after one more, which was put behind the others
pub turn : (count counter state after : ℕ) (body put : List Stmt) (one : Stmt) (whole : List Stmt)
    → counter < count → body ++ statements (count - counter) state ≡ whole
    → put ≡ body ++ one ∷ [] → one ≡ statement state → after ≡ after_four state
    → put ++ statements (count - (counter + 1)) after ≡ whole
turn count counter state after body put one whole more is pushed drawn left =
    let n : ℕ = count - (counter + 1) in
    ap (λ (xs : List Stmt). xs ++ statements n after) (pushed ∙ ap (λ (x : Stmt). body ++ x ∷ []) drawn)
    ∙ ap (λ (later : ℕ). (body ++ statement state ∷ []) ++ statements n later) left
    ∙ append_assoc body (statement state ∷ []) (statements n (after_four state))
    ∙ ap (λ (xs : List Stmt). body ++ xs) (sym (statements_more count counter state more)) ∙ is
