-- The values of the sides of requirements are less than 2^77, since their linear forms keep the limits.
use Rattle.std.proofs.Common.{◌≡◌, refl, sym, ◌∙◌, ap, arith, ℕ, ◌+◌, ◌*◌, ◌^◌, ◌≤◌, ◌<◌, suc, nat_le, nat_eq, Bool, true, false}
use Rattle.std.proofs.Common.{List, [], ◌∷◌, length, Result, Ok, Err, is_ok, IsTrue, if◌then◌else◌}
use Rattle.std.proofs.Math.Nat.{mul-add, mul-le-mul_left, mul_assoc}
use Rattle.rup_base.specs.declared.refusal.TypeWhy.{TypeWhy}
use Rattle.rup_base.specs.declared.refusal.TypeWhy.TheVariants.{WideForm}
use Rattle.model_syntax.specs.declared.scope.Term.{Term}
use Rattle.model_syntax.specs.declared.scope.Linear.{Linear}
use Rattle.model_syntax.specs.Answer.{◌>>=◌}
use Rattle.model_syntax.specs.declared.stmt.Lin.{Lin, fold-roll-Lin}
use Rattle.model_syntax.specs.declared.stmt.Lin.TheVariants.{Sum, Scale, rolls-Sum, rolls-Scale}
use Rattle.model_syntax.specs.declared.stmt.Lin.TheOpen as l
use Rattle.model_syntax.specs.Linear.{number, few, more, added, scaled, form, times, plus, linear, linear_step}
use Rattle.model_syntax.specs.Names.{Name, same}
use Rattle.model_value.specs.Formed.{Light, factors, Small, greatest, BelowForm}

-- an answer, if there is one, has a property
abbrev pub AllOk : {A E : Type 0} → (A → Type 0) → Result A E → Type 0
AllOk P (Ok a) = P a
AllOk P (Err why) = Unit {0}

then_ok : {A B E : Type 0} (P : A → Type 0) (Q : B → Type 0) (first : Result A E) (second : A → Result B E)
    → AllOk P first → ((a : A) → P a → AllOk Q (second a)) → AllOk Q (first >>= second)
then_ok P Q (Ok a) second holds more = more a holds
then_ok P Q (Err why) second holds more = tt

if_ok : {A E : Type 0} (P : A → Type 0) (test : Bool) (one two : Result A E) → AllOk P one → AllOk P two
    → AllOk P (if test then one else two)
if_ok P true one two is_one is_two = is_one
if_ok P false one two is_one is_two = is_two

weaker : {A E : Type 0} (P Q : A → Type 0) (found : Result A E) → ((a : A) → P a → Q a) → AllOk P found → AllOk Q found
weaker P Q (Ok a) less holds = less a holds
weaker P Q (Err why) less holds = tt

abbrev pub IsNumber : ℕ → ℕ → Type 0
IsNumber n k = (k ≡ n) × (k ≤ 2 ^ 40)

number_by : (n : ℕ) (small : Bool) → nat_le n (2 ^ 40) ≡ small
    → AllOk {E = TypeWhy} (IsNumber n) (if small then Ok n else Err WideForm)
number_by n true is = (refl, grind (arith, is))
number_by n false is = tt

number_ok : (n : ℕ) → AllOk (IsNumber n) (number n)
number_ok n = number_by n (nat_le n (2 ^ 40)) refl

-- light terms with a sum of factors
abbrev pub Sums : ℕ → List Term → Type 0
Sums n ts = Light ts × (factors ts ≡ n)

more_ok : (x : Name) (k : ℕ) (ts : List Term) → k ≤ 2 ^ 40 → Light ts → AllOk (Sums (k + factors ts)) (more x k ts)
more_ok x k [] small light = ((small, tt), omega arith)
more_ok x k (t ∷ ts) small light =
    if_ok (Sums (k + factors (t ∷ ts))) (same t.name x) _ _
    (then_ok (IsNumber (t.factor + k)) (Sums (k + factors (t ∷ ts))) (number (t.factor + k)) _ (number_ok (t.factor + k))
    (λ n is. ((is.1, light.1), omega (arith, is.0))))
    (then_ok (Sums (k + factors ts)) (Sums (k + factors (t ∷ ts))) (more x k ts) _ (more_ok x k ts small light.1)
    (λ rest is. ((light.0, is.0), omega (arith, is.1))))

-- at most sixteen light terms with a sum of factors
abbrev pub Few : ℕ → List Term → Type 0
Few n ts = Light ts × (length ts ≤ 16) × (factors ts ≡ n)

few_by : (n : ℕ) (ts : List Term) (are_few : Bool) → nat_le (length ts) 16 ≡ are_few → Sums n ts
    → AllOk {E = TypeWhy} (Few n) (if are_few then Ok ts else Err WideForm)
few_by n ts true is sums = (sums.0, grind (arith, is), sums.1)
few_by n ts false is sums = tt

few_ok : (n : ℕ) (ts : List Term) → Sums n ts → AllOk (Few n) (few ts)
few_ok n ts sums = few_by n ts (nat_le (length ts) 16) refl sums

added_ok : (ts us : List Term) → Light ts → length ts ≤ 16 → Light us → AllOk (Few (factors ts + factors us)) (added ts us)
added_ok ts [] light short lights = (light, short, omega arith)
added_ok ts (u ∷ us) light short lights =
    then_ok (Sums (u.factor + factors ts)) (Few (factors ts + factors (u ∷ us))) (more u.name u.factor ts) _
    (more_ok u.name u.factor ts lights.0 light) (λ sum sums.
    then_ok (Few (u.factor + factors ts)) (Few (factors ts + factors (u ∷ us))) (few sum) _
    (few_ok (u.factor + factors ts) sum sums) (λ kept is.
    weaker (Few (factors kept + factors us)) (Few (factors ts + factors (u ∷ us))) (added kept us)
    (λ all of. (of.0, of.1, omega (arith, of.2, is.2))) (added_ok kept us is.0 is.1 lights.1)))

abbrev pub Scaled : ℕ → List Term → List Term → Type 0
Scaled k ts us = Light us × (length us ≡ length ts) × (factors us ≡ k * factors ts)

scaled_ok : (k : ℕ) (ts : List Term) → AllOk (Scaled k ts) (scaled k ts)
scaled_ok k [] = (tt, refl, omega arith)
scaled_ok k (t ∷ ts) =
    then_ok (IsNumber (k * t.factor)) (Scaled k (t ∷ ts)) (number (k * t.factor)) _ (number_ok (k * t.factor)) (λ n is.
    then_ok (Scaled k ts) (Scaled k (t ∷ ts)) (scaled k ts) _ (scaled_ok k ts) (λ rest all. (
      (is.1, all.0),
      ap suc all.1,
      (let sums : k * (t.factor + factors ts)
          ≡ k * t.factor + k * factors ts = mul-add k t.factor (factors ts) in omega (arith, is.0, all.2, sums)),
    )))

abbrev pub Is : ℕ → Linear → Type 0
Is n p = Small p × (n ≤ greatest p)

plus_ok : (p q : Linear) (a b : ℕ) → Is a p → Is b q → AllOk (Is (a + b)) (plus p q)
plus_ok p q a b is_p is_q =
    then_ok (IsNumber (p.constant + q.constant)) (Is (a + b)) (number (p.constant + q.constant)) _
    (number_ok (p.constant + q.constant)) (λ n is.
    then_ok (Few (factors p.terms + factors q.terms)) (Is (a + b)) (added p.terms q.terms) _
    (added_ok p.terms q.terms is_p.0.2 is_p.0.1 is_q.0.2) (λ ts all.
    ((is.1, all.1, all.0), omega (arith, is.0, all.2, is_p.1, is_q.1))))

times_by : (k : ℕ) (p : Linear) (a : ℕ) (zero_k : Bool) → nat_eq k 0 ≡ zero_k → Is a p
    → AllOk (Is (k * a)) (if zero_k then Ok (form 0 [])
    else (number (k * p.constant) >>= (λ n. scaled k p.terms >>= (λ ts. Ok (form n ts)))))
times_by k p a true is_zero is_p = let none : k ≡ 0 = grind (arith, is_zero) in
    rw none ((omega arith, omega arith, tt), omega arith)
times_by k p a false is_zero is_p =
    then_ok (IsNumber (k * p.constant)) (Is (k * a)) (number (k * p.constant)) _ (number_ok (k * p.constant)) (λ n is.
    then_ok (Scaled k p.terms) (Is (k * a)) (scaled k p.terms) _ (scaled_ok k p.terms) (λ ts all.
    (let least : k * a ≤ k * (p.constant + factors p.terms * 4294967295) = mul-le-mul_left k is_p.1 in
    let apart : k * (p.constant + factors p.terms * 4294967295) ≡ k * p.constant + k * (factors p.terms * 4294967295) =
    mul-add k p.constant (factors p.terms * 4294967295) in
    let whole : k * (factors p.terms * 4294967295) ≡ k * factors p.terms * 4294967295 =
    sym (mul_assoc k (factors p.terms) 4294967295) in
    ((is.1, (omega (arith, all.1, is_p.0.1)), all.0), omega (arith, is.0, all.2, least, apart, whole)))))

times_ok : (k : ℕ) (p : Linear) (a : ℕ) → Is a p → AllOk (Is (k * a)) (times k p)
times_ok k p a is_p = times_by k p a (nat_eq k 0) refl is_p

below : (n : ℕ) (found : Result Linear TypeWhy) → AllOk (Is n) found → BelowForm n found
below n (Ok p) is = is
below n (Err why) is = tt

above : (n : ℕ) (found : Result Linear TypeWhy) → BelowForm n found → AllOk (Is n) found
above n (Ok p) is = is
above n (Err why) is = tt

pub linear_sum : (p q : Lin) → linear (Sum p q) ≡ (linear p >>= (λ x. linear q >>= (λ y. plus x y)))
linear_sum p q = ap linear (sym (rolls-Sum p q)) ∙ fold-roll-Lin (Result Linear TypeWhy) linear_step (l.Sum p q)

pub linear_scale : (k : ℕ) (p : Lin) → linear (Scale k p) ≡ (linear p >>= (λ x. times k x))
linear_scale k p = ap linear (sym (rolls-Scale k p)) ∙ fold-roll-Lin (Result Linear TypeWhy) linear_step (l.Scale k p)

pub sum_below : (p q : Result Linear TypeWhy) (a b : ℕ) → BelowForm a p → BelowForm b q
    → BelowForm (a + b) (p >>= (λ x. q >>= (λ y. plus x y)))
sum_below p q a b is_p is_q =
    below (a + b) _ (then_ok (Is a) (Is (a + b)) p _ (above a p is_p)
    (λ x is_x. then_ok (Is b) (Is (a + b)) q _ (above b q is_q) (λ y is_y. plus_ok x y a b is_x is_y)))

pub scale_below : (k : ℕ) (p : Result Linear TypeWhy) (a : ℕ) → BelowForm a p → BelowForm (k * a) (p >>= (λ x. times k x))
scale_below k p a is_p = below (k * a) _ (then_ok (Is a) (Is (k * a)) p _ (above a p is_p) (λ x is_x. times_ok k x a is_x))

light_sum : (ts : List Term) → Light ts → factors ts ≤ length ts * 2 ^ 40
light_sum [] light = omega arith
light_sum (t ∷ ts) light = let more : factors ts ≤ length ts * 2 ^ 40 = light_sum ts light.1 in omega (arith, more, light.0)

pub fits : (found : Result Linear TypeWhy) (n : ℕ) → IsTrue (is_ok found) → BelowForm n found → n < 2 ^ 77
fits (Ok p) n is kept = let sum : factors p.terms ≤ length p.terms * 2 ^ 40 = light_sum p.terms kept.0.2 in
    omega (arith, sum, kept.0.1, kept.0.0, kept.1)
fits (Err why) n is kept = absurd (cc)

pub left_formed : (p : Result Linear TypeWhy) (second : Linear → Result Linear TypeWhy) → IsTrue (is_ok (p >>= second))
    → IsTrue (is_ok p)
left_formed (Ok x) second is = refl
left_formed (Err why) second is = is

pub right_formed : (p q : Result Linear TypeWhy) → IsTrue (is_ok (p >>= (λ x. q >>= (λ y. plus x y)))) → IsTrue (is_ok q)
right_formed (Ok x) (Ok y) is = refl
right_formed (Ok x) (Err why) is = is
right_formed (Err why) (Ok y) is = refl
right_formed (Err why) (Err other) is = is
