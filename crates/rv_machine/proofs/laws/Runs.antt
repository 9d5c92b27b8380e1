-- Runs of the machine that stay in a place, put together from steps and from shorter runs.
use Rattle.std.proofs.Common.{◌≡◌, ℕ, zero, suc, ◌+◌, ◌-◌, ◌<◌, ◌≤◌, ⊎_elim, Ok, refl, sym, ap, ◌∙◌, arith, add-suc}
use Rattle.std.proofs.lemmas.Bool.{cases_lt}
use Rattle.rv_machine.specs.State.{State}
use Rattle.rv_machine.specs.Step.{then_step, step, after}

-- so many steps lead from one state to another, and before each of them the program counter is inside
pub record Leads (Inside : ℕ → Type 0) (s : State) (n : ℕ) (t : State) : Type 0 where
  pub runs : after n s ≡ Ok t
  pub inside : (j : ℕ) → j < n → (u : State) × (after j s ≡ Ok u) × Inside u.pc

pub stays : (Inside : ℕ → Type 0) (s : State) → Leads Inside s 0 s
unfolding after
stays Inside s = record { runs = refl; inside = λ j below. absurd (omega arith) }

pub leads_on : (Inside : ℕ → Type 0) (s : State) (n : ℕ) (t u : State) → Leads Inside s n t → Inside t.pc → step t ≡ Ok u
    → Leads Inside s (suc n) u
unfolding after
leads_on Inside s n t u before here goes =
    record {
      runs = ap then_step before.runs ∙ goes;
      inside = λ j below. ⊎_elim (λ (earlier : j < n). before.inside j earlier)
          (λ (last : n ≤ j). let same : n ≡ j = omega arith in (t, ap (λ k. after k s) (sym same) ∙ before.runs, here))
          (cases_lt j n);
    }

-- a run, and the run from where it ends
after-add : (s t : State) (n k : ℕ) → after n s ≡ Ok t → after (n + k) s ≡ after k t
unfolding after
after-add s t n zero first = let none : n + 0 ≡ n = omega arith in rw none first
after-add s t n (suc k) first = rw add-suc (ap then_step (after-add s t n k first))

pub leads_then : (Inside : ℕ → Type 0) (s : State) (n : ℕ) (t : State) (k : ℕ) (u : State) → Leads Inside s n t
    → Leads Inside t k u → Leads Inside s (n + k) u
leads_then Inside s n t k u first second =
    record {
      runs = after-add s t n k first.runs ∙ second.runs;
      inside = λ j below. ⊎_elim (λ (earlier : j < n). first.inside j earlier)
          (λ (later : n ≤ j). in_second j later (second.inside (j - n) (omega arith))) (cases_lt j n);
    }
  where
    in_second : (j : ℕ) → n ≤ j → (v : State) × (after (j - n) t ≡ Ok v) × Inside v.pc
        → (v : State) × (after j s ≡ Ok v) × Inside v.pc
    in_second j later found =
        let whole : n + (j - n) ≡ j = omega arith in
        (found.0, ap (λ i. after i s) (sym whole) ∙ after-add s t n (j - n) first.runs ∙ found.1, found.2)

-- the same run, inside a larger place
pub wider : (Inside Outside : ℕ → Type 0) (s : State) (n : ℕ) (t : State) → ((pc : ℕ) → Inside pc → Outside pc)
    → Leads Inside s n t → Leads Outside s n t
wider Inside Outside s n t larger run =
    record {
      runs = run.runs;
      inside = λ j below. let found = run.inside j below in
          (found.0, found.1, larger found.0.pc found.2);
    }
