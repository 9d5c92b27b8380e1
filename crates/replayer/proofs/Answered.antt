-- What was answered, from what it was answered.
use Rattle.std.proofs.Common.{◌≡◌, refl, ap, subst, ℕ, Bool, true, false, Result, Ok, Err, IfOk}
use Rattle.rup_base.specs.Answers.{Answers, and_then, and_then_with}
use Rattle.rup_base.specs.declared.fail.Fail.{Fail}
use Rattle.rup_base.specs.declared.fail.Fail.TheVariants.{Refused, NoMemory}
use Rattle.rup_base.specs.declared.refusal.Refusal.{Refusal}
use Rattle.rup_base.specs.declared.refusal.Refusal.TheVariants.{NoInstance}
use Rattle.sym_heap.specs.Context.{Context}
use Rattle.expr_rules.specs.Sound.{Yields}
use Rattle.expr_rules.specs.Words.{Rule, ◌>>=◌, need}

-- the first of two questions in turn has its answer where the second has
pub both_answered : {A B : Type 0} (first : Result A Refusal) (next : A → Result B Refusal) (b : B) → and_then first next ≡ Ok b
    → (a : A) × ((first ≡ Ok a) × (next a ≡ Ok b))
both_answered (Ok a) next b is = (a, (refl, is))
both_answered (Err refusal) next b is = absurd (let bad : Err refusal ≡ Ok b = is in cc)

-- the first of two rules in turn gives something where both do
pub record Gave {A B : Type 0} (first : Rule A) (next : A → Rule B) (c : Context) (end_ : B × Context) : Type 0 where
  pub given : A
  pub after : Context
  pub first_is : first c ≡ Ok (given, after)
  pub next_is : next given after ≡ Ok end_

pub rules_gave : {A B : Type 0} (first : Rule A) (next : A → Rule B) (c : Context) (end_ : B × Context)
    → (first >>= next) c ≡ Ok end_ → Gave first next c end_
rules_gave {A} {B} first next c end_ is = by (first c) refl is where
  by : (r : Result (A × Context) Refusal) → first c ≡ r → and_then_with r next ≡ Ok end_ → Gave first next c end_
  by (Ok p) first_is next_is = record { given = p.0; after = p.1; first_is = first_is; next_is = next_is }
  by (Err refusal) first_is next_is = absurd (let bad : Err refusal ≡ Ok end_ = next_is in cc)

-- a condition that was not refused holds, and leaves the context
pub need_holds : (holds : Bool) (at cond : ℕ) (c : Context) (given : Unit {0}) (after : Context)
    → need holds at cond c ≡ Ok (given, after)
    → (holds ≡ true) × (c ≡ after)
need_holds true at cond c given after is =
    (refl, let pair : (tt, c) ≡ (given, after) = cc in ap (λ (p : Unit {0} × Context). p.1) pair)
need_holds false at cond c given after is = absurd (let bad : Err (NoInstance at cond) ≡ Ok (given, after) = is in cc)

-- what holds of all that a rule can give
pub yielded : {A : Type 0} (P : A → Context → Type 0) (r : Result (A × Context) Refusal) (p : A × Context) → Yields P r → r ≡ Ok p
    → P p.0 p.1
yielded P (Ok q) p holds is = let same_one : q ≡ p = cc in subst (λ z. P z.0 z.1) same_one holds
yielded P (Err refusal) p holds is = absurd (let bad : Err refusal ≡ Ok p = is in cc)

-- what is answered is as the answer is
pub if_answered : {A : Type 0} (P : A → Type 0) (result : Result A Fail) (answer : Result A Refusal) → Answers result answer
    → ((a : A) → answer ≡ Ok a → P a) → IfOk result P
if_answered P (Ok a) answer is holds = holds a is
if_answered P (Err (Refused refusal)) answer is holds = tt
if_answered P (Err NoMemory) answer is holds = tt
