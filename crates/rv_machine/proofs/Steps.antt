-- A step by the word at the program counter.
use Rattle.std.proofs.Common.{◌≡◌, ℕ, ◌%◌, Option, Err, ◌==◌, refl}
use Rattle.std.proofs.lemmas.Bool.{eqb-true}
use Rattle.rv_machine.specs.declared.cause.Cause.TheVariants.{FetchMisaligned}
use Rattle.rv_machine.specs.State.{State, number_at}
use Rattle.rv_machine.specs.Step.{fetched, step}
use Rattle.rv_machine.proofs.laws.Table.{choose}

pub step_misaligned : (s : State) → (s.pc % 4 ≡ 0 → ⊥) → step s ≡ Err FetchMisaligned
unfolding step
step_misaligned s off = choose (s.pc % 4 == 0) _ _ (Err FetchMisaligned) (λ e. absurd (off (eqb-true (s.pc % 4) 0 e))) (λ _. refl)

pub step_fetched : (s : State) (o : Option ℕ) → s.pc % 4 ≡ 0 → o ≡ number_at s.mem 4 s.pc → step s ≡ fetched s o
unfolding step
step_fetched s o aligned e = rw (aligned, e) refl
