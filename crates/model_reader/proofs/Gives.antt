-- What every value that an answer may have is, where the answer is no refusal.
use Rattle.std.proofs.Common.{◌≡◌, refl, subst, ℕ, Bool, true, false, List, [], ◌∷◌, map, Ok, Err, if◌then◌else◌}
use Rattle.rup_base.specs.Gather.{all_true}
use Rattle.model_reader.specs.Parts.{Answer, ◌>>=◌}

pub record Gives {A : Type 0} (answer : Answer A) (P : A → Type 0) : Type 0 where
  pub has : (a : A) → answer ≡ Ok a → P a

abbrev ok : {A : Type 0} → A → Answer A
ok a = Ok a

abbrev err : {A : Type 0} → ℕ → Answer A
err at = Err at

given_of : {A : Type 0} (P : A → Type 0) (a b : A) → P a → ok a ≡ ok b → P b
given_of P a b h is = let same : a ≡ b = cc in subst P same h

pub given : {A : Type 0} {P : A → Type 0} {a : A} → P a → Gives (Ok a) P
given {P = P} {a = a} h = record { has = λ b is. given_of P a b h is }

refused_of : {A : Type 0} (P : A → Type 0) (r : ℕ) (b : A) → err r ≡ ok b → P b
refused_of P r b is = absurd cc

pub refused : {A : Type 0} {P : A → Type 0} {r : ℕ} → Gives (Err r) P
refused {P = P} {r = r} = record { has = λ b is. refused_of P r b is }

-- whatever the value is
pub any : {A : Type 0} {answer : Answer A} → Gives answer (λ _. Unit {0})
any = record { has = λ b is. tt }

in_turn : {A B : Type 0} (P : A → Type 0) (Q : B → Type 0) (answer : Answer A) (next : A → Answer B)
    → Gives answer P → ((a : A) → P a → Gives (next a) Q) → Gives (answer >>= next) Q
in_turn P Q (Ok a) next h f = f a (h.has a refl)
in_turn P Q (Err r) next h f = refused

-- the first part, and then the second on its value
infixr 4 ◌⊳◌
pub ◌⊳◌ : {A B : Type 0} {P : A → Type 0} {Q : B → Type 0} {answer : Answer A} {next : A → Answer B}
    → Gives answer P → ((a : A) → P a → Gives (next a) Q) → Gives (answer >>= next) Q
◌⊳◌ {P = P} {Q = Q} {answer = answer} {next = next} h f = in_turn P Q answer next h f

pub tested : {A : Type 0} {P : A → Type 0} {answer other : Answer A} (test : Bool)
    → (test ≡ true → Gives answer P) → Gives other P → Gives (if test then answer else other) P
tested true h k = h refl
tested false h k = k

pub weaker : {A : Type 0} {P Q : A → Type 0} {answer : Answer A} → ((a : A) → P a → Q a) → Gives answer P → Gives answer Q
weaker f h = record { has = λ a is. f a (h.has a is) }

-- P of each of a list
abbrev pub All : {A : Type 0} → (A → Type 0) → List A → Type 0
All P [] = Unit {0}
All P (a ∷ more) = P a × All P more

pub all_pass : {A : Type 0} (test : A → Bool) (found : List A) → All (λ a. test a ≡ true) found
    → all_true (map test found) ≡ true
all_pass test [] h = refl
all_pass test (a ∷ more) h = rw (h.0, all_pass test more h.1) refl
