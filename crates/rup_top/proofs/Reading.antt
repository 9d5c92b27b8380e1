-- What is known of a model that is read and typed.
use Rattle.std.proofs.Common.{◌≡◌, ℕ, List, Result, Ok, Err, true, refl, subst}
use Rattle.rup_base.specs.Answers.{and_then}
use Rattle.rup_base.specs.declared.refusal.Refusal.{Refusal}
use Rattle.model_reader.proofs.laws.Exact.{answered_only, answered_formed}
use Rattle.model_reader.specs.Reading.{read_model}
use Rattle.model_syntax.specs.Answer.{◌>>=◌}
use Rattle.model_syntax.specs.Limits.{Within}
use Rattle.model_syntax.specs.Formed.{model_formed}
use Rattle.model_syntax.specs.Types.{Well, judge}
use Rattle.model_syntax.specs.declared.program.Model.{Model}
use Rattle.model_types.specs.Checked.{checked}

-- a model that is typed is well typed
judged_well : (n m : Model) (j : Result (Unit {0}) Refusal) → judge n ≡ j → (j >>= (λ u. Ok n)) ≡ Ok m → Well m
judged_well n m (Ok u) is e = let same : n ≡ m = cc in let P : Model → Type 0 = λ x. judge x ≡ Ok tt in subst P same is
judged_well n m (Err r) is e = absurd (cc)

pub typed_well : (m : Model) (r : Result Model Refusal) → and_then r checked ≡ Ok m → Well m
typed_well m (Ok n) e = judged_well n m (judge n) refl e
typed_well m (Err r) e = absurd (cc)

-- a model that is read and typed is formed
judged_formed : (n m : Model) (j : Result (Unit {0}) Refusal) → model_formed n ≡ true → (j >>= (λ u. Ok n)) ≡ Ok m
    → model_formed m ≡ true
judged_formed n m (Ok u) formed e = let same : n ≡ m = cc in subst (λ (x : Model). model_formed x ≡ true) same formed
judged_formed n m (Err r) formed e = absurd (cc)

pub typed_formed : (bytes : List ℕ) (m : Model) (r : Result Model Refusal) → read_model 1 bytes ≡ r → and_then r checked ≡ Ok m
    → model_formed m ≡ true
typed_formed bytes m (Ok n) is e = judged_formed n m (judge n) (answered_formed 1 bytes (Ok n) is) e
typed_formed bytes m (Err r) is e = absurd (cc)

-- and within the limits
judged_within : (n m : Model) (j : Result (Unit {0}) Refusal) → Within n → (j >>= (λ u. Ok n)) ≡ Ok m → Within m
judged_within n m (Ok u) within e = let same : n ≡ m = cc in subst (λ (x : Model). Within x) same within
judged_within n m (Err r) within e = absurd (cc)

pub typed_within : (bytes : List ℕ) (m : Model) (r : Result Model Refusal) → read_model 1 bytes ≡ r → and_then r checked ≡ Ok m
    → Within m
typed_within bytes m (Ok n) is e = judged_within n m (judge n) (answered_only 1 bytes (Ok n) is).1 e
typed_within bytes m (Err r) is e = absurd (cc)
