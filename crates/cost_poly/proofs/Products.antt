-- The value of a product with a linear form.
use Rattle.std.proofs.Common.{◌≡◌, ℕ, zero, suc, ◌+◌, ◌*◌, ◌<◌, ◌≤◌, Bool, true, false, ◌&&◌, if◌then◌else◌, List, [], ◌∷◌}
use Rattle.std.proofs.Common.{Option, Some, None, nat_eq, nat_le, nat_abs, ℤ, pos, negsuc, ◌+ℤ◌, ◌*ℤ◌, ◌≤ℤ◌, slice_index_or, refl}
use Rattle.std.proofs.Common.{ap, ◌∙◌, arith, nat_lt}
use Rattle.std.specs.Bool.{⊤}
use Rattle.std.proofs.lemmas.Int.{ints}
use Rattle.std.specs.Int.Signed.{le_z}
use Rattle.std.proofs.lemmas.Bool.{le-leb, ltb-true}
use Rattle.std.proofs.lemmas.Bool.Decides.{nat_tests}
use Rattle.side_certs.specs.LinearForm.{LinearForm, share, terms_at, value_at}
use Rattle.side_certs.specs.LinearForm as linear
use Rattle.cost_poly.specs.declared.term.Term.{Term}
use Rattle.cost_poly.specs.Polynomial.{BoundFrom, at, coefficient, coefficient_at, symbols_at, listed, greatest, form_part}
use Rattle.cost_poly.specs.Polynomial.{product_of, product, cubic, greatest_cubic, are_entry_terms, is_entry_form}
use Rattle.cost_poly.proofs.laws.Places.{and_parts}
use Rattle.cost_poly.proofs.Listed.{below_greatest}
use Rattle.cost_poly.proofs.Values.{weight, total, listed_value, value_total}

abbrev number : List ℕ → ℕ → ℕ
number values s = slice_index_or values s 0

-- Sums over symbols.

abbrev lin : List ℕ → (ℕ → ℕ) → List ℕ → ℕ
lin values f [] = 0
lin values f (a ∷ rest) = f a * number values a + lin values f rest

abbrev row : List ℕ → (ℕ → ℕ → ℕ) → ℕ → List ℕ → ℕ
row values f a [] = 0
row values f a (b ∷ rest) = f a b * (number values a * number values b) + row values f a rest

abbrev quad : List ℕ → (ℕ → ℕ → ℕ) → List ℕ → ℕ
quad values f [] = 0
quad values f (a ∷ rest) = row values f a (a ∷ rest) + quad values f rest

all_symbols : List ℕ
all_symbols = 0 ∷ 1 ∷ 2 ∷ 3 ∷ 4 ∷ 5 ∷ 6 ∷ 7 ∷ []

-- the total over all places, by the number of symbols
by_degree : (values : List ℕ) (c : Option ℕ × Option ℕ → ℕ)
    → total values (λ place. c (symbols_at place)) 45 ≡ c (None, None) + lin values (λ a. c (Some a, None)) all_symbols
    + quad values (λ a b. c (Some a, Some b)) all_symbols
unfolding total weight symbols_at all_symbols
by_degree values c = omega arith

lin_sum : (values : List ℕ) (f g : ℕ → ℕ) (x y : ℕ) (ss : List ℕ) → lin values (λ a. f a * x + y * g a) ss
    ≡ lin values f ss * x + y * lin values g ss
lin_sum values f g x y [] = omega arith
lin_sum values f g x y (a ∷ rest) = omega (arith, lin_sum values f g x y rest)

-- symbols that rise from a least one on
abbrev Rise : ℕ → List ℕ → Type 0
Rise least [] = ⊤
Rise least (a ∷ rest) = (least ≤ a) × Rise (a + 1) rest

lower : (least less : ℕ) (ss : List ℕ) → less ≤ least → Rise least ss → Rise less ss
lower least less [] le rise = tt
lower least less (a ∷ rest) le rise = (omega (arith, rise.0), rise.1)

abbrev part : (ℕ → ℕ → ℕ) → (ℕ → ℕ) → (ℕ → ℕ) → ℕ → ℕ → ℕ → ℕ
part p q t x a b = p a b * x + q b * t a + (if nat_eq a b then 0 else q a * t b)

row_other : (values : List ℕ) (p : ℕ → ℕ → ℕ) (q t : ℕ → ℕ) (x a : ℕ) (ss : List ℕ) → Rise (a + 1) ss
    → row values (part p q t x) a ss ≡ row values p a ss * x + number values a * (t a * lin values q ss + q a * lin values t ss)
row_other values p q t x a [] rise = omega arith
row_other values p q t x a (b ∷ rest) rise =
    let other : nat_eq a b ≡ false = grind (arith, nat_tests, rise.0) in
    let others : Rise (a + 1) rest = lower (b + 1) (a + 1) rest (omega (arith, rise.0)) rise.1 in
    rw other (omega (arith, row_other values p q t x a rest others))

quad_parts : (values : List ℕ) (p : ℕ → ℕ → ℕ) (q t : ℕ → ℕ) (x least : ℕ) (ss : List ℕ) → Rise least ss
    → quad values (part p q t x) ss ≡ quad values p ss * x + lin values q ss * lin values t ss
quad_parts values p q t x least [] rise = omega arith
quad_parts values p q t x least (a ∷ rest) rise =
    let same : nat_eq a a ≡ true = grind (arith, nat_tests) in
    rw same (omega (arith, row_other values p q t x a rest rise.1, quad_parts values p q t x (a + 1) rest rise.1))

-- No product of three symbols: a coefficient of two symbols times one of the form is 0.

cubic_none : (p : List Term) (f : LinearForm) → greatest_cubic p f ≡ 0 → (a b c : ℕ) → a < 8 → b < 8 → c < 8 → cubic p f a b c ≡ 0
cubic_none p f none a b c x y z =
    let one = below_greatest (cubic p f a b) 8 c z in
    let two = below_greatest (λ n. greatest (cubic p f a n) 8) 8 b y in
    let three = below_greatest (λ m. greatest (λ n. greatest (cubic p f m n) 8) 8) 8 a x in
    omega (arith, one, two, three, none)

product_none : (p : List Term) (f : LinearForm) → greatest_cubic p f ≡ 0 → (a b c : ℕ) → a ≤ b → b < 8 → c < 8
    → coefficient (Some a) (Some b) p * form_part f (Some c) ≡ 0
product_none p f none a b c order below least = by_tests (nat_le c a) (nat_le c b) refl refl
  where
    by_tests : (first second : Bool) → nat_le c a ≡ first → nat_le c b ≡ second
        → coefficient (Some a) (Some b) p * form_part f (Some c) ≡ 0
    by_tests true second e g =
        let ordered : nat_le a b ≡ true = le-leb _ _ order in
        let sum : cubic p f c a b ≡ 0 = cubic_none p f none c a b least (omega arith) below in
        omega (arith, rw (e, ordered) at sum)
    by_tests false true e g =
        let before : nat_le a c ≡ true = grind (arith, nat_tests) in
        let other : nat_eq a c ≡ false = grind (arith, nat_tests) in
        let sum : cubic p f a c b ≡ 0 = cubic_none p f none a c b (omega arith) least below in
        omega (arith, rw (before, g, other) at sum)
    by_tests false false e g =
        let ordered : nat_le a b ≡ true = le-leb _ _ order in
        let before : nat_le b c ≡ true = grind (arith, nat_tests) in
        let other : nat_eq b c ≡ false = grind (arith, nat_tests) in
        let sum : cubic p f a b c ≡ 0 = cubic_none p f none a b c (omega arith) below least in
        omega (arith, rw (ordered, before, other) at sum)

abbrev Under : List ℕ → Type 0
Under [] = ⊤
Under (a ∷ rest) = (a < 8) × Under rest

lin_none : (values : List ℕ) (x : ℕ) (t : ℕ → ℕ) (ss : List ℕ) → Under ss → ((c : ℕ) → c < 8 → x * t c ≡ 0)
    → x * lin values t ss ≡ 0
lin_none values x t [] under all = omega arith
lin_none values x t (c ∷ rest) under all =
    let first : x * t c * number values c ≡ 0 * number values c = ap (λ (n : ℕ). n * number values c) (all c under.0) in
    omega (arith, first, lin_none values x t rest under.1 all)

row_none : (values : List ℕ) (p : ℕ → ℕ → ℕ) (y a : ℕ) (ss : List ℕ) → Under ss → Rise a ss
    → ((b : ℕ) → a ≤ b → b < 8 → p a b * y ≡ 0) → row values p a ss * y ≡ 0
row_none values p y a [] under rise all = omega arith
row_none values p y a (b ∷ rest) under rise all =
    let v = number values a * number values b in
    let first : p a b * y * v ≡ 0 * v = ap (λ (n : ℕ). n * v) (all b rise.0 under.0) in
    omega (arith, first, row_none values p y a rest under.1 (lower (b + 1) a rest (omega (arith, rise.0)) rise.1) all)

quad_none : (values : List ℕ) (p : ℕ → ℕ → ℕ) (y least : ℕ) (ss : List ℕ) → Under ss → Rise least ss
    → ((a b : ℕ) → a ≤ b → b < 8 → p a b * y ≡ 0) → quad values p ss * y ≡ 0
quad_none values p y least [] under rise all = omega arith
quad_none values p y least (a ∷ rest) under rise all =
    let same : a ≤ a = omega arith in
    let first : row values p a (a ∷ rest) * y
    ≡ 0 = row_none values p y a (a ∷ rest) under (same, lower (a + 1) (a + 1) rest (omega arith) rise.1)
    (λ b le less. all a b le less) in
    omega (arith, first, quad_none values p y (a + 1) rest under.1 rise.1 all)

-- The value of a form with no negative number.

form_sum : List ℕ → List (ℕ × ℤ) → ℕ
form_sum values ts = lin values (λ s. nat_abs (linear.coefficient s ts)) all_symbols

of_one : (values : List ℕ) (s k : ℕ) → s < 8 → lin values (λ r. if nat_eq s r then k else 0) all_symbols ≡ k * number values s
unfolding all_symbols
of_one values zero k less = omega arith
of_one values (suc zero) k less = omega arith
of_one values (suc (suc zero)) k less = omega arith
of_one values (suc (suc (suc zero))) k less = omega arith
of_one values (suc (suc (suc (suc zero)))) k less = omega arith
of_one values (suc (suc (suc (suc (suc zero))))) k less = omega arith
of_one values (suc (suc (suc (suc (suc (suc zero)))))) k less = omega arith
of_one values (suc (suc (suc (suc (suc (suc (suc zero))))))) k less = omega arith
of_one values (suc (suc (suc (suc (suc (suc (suc (suc s)))))))) k less = absurd (omega arith)

lin_add : (values : List ℕ) (f g h : ℕ → ℕ) (ss : List ℕ) → ((s : ℕ) → f s ≡ g s + h s)
    → lin values f ss ≡ lin values g ss + lin values h ss
lin_add values f g h [] all = refl
lin_add values f g h (a ∷ rest) all =
    let first : f a * number values a ≡ (g a + h a) * number values a = ap (λ (n : ℕ). n * number values a) (all a) in
    omega (arith, first, lin_add values f g h rest all)

sign_of : (z : ℤ) → pos 0 ≤ℤ z → le_z (pos 0) z ≡ true
sign_of z sign = by_test (le_z (pos 0) z) refl
  where
    by_test : (test : Bool) → le_z (pos 0) z ≡ test → le_z (pos 0) z ≡ true
    by_test true e = e
    by_test false e = absurd (omega (arith, ints, sign, e))

abs_sum : (x y : ℤ) → le_z (pos 0) x ≡ true → le_z (pos 0) y ≡ true → (nat_abs (x +ℤ y) ≡ nat_abs x + nat_abs y)
    × (le_z (pos 0) (x +ℤ y) ≡ true)
abs_sum x y one other = (omega (arith, ints, one, other), sign_of (x +ℤ y) (omega (arith, ints, one, other)))

lin_same : (values : List ℕ) (f g : ℕ → ℕ) (ss : List ℕ) → ((s : ℕ) → f s ≡ g s) → lin values f ss ≡ lin values g ss
lin_same values f g [] all = refl
lin_same values f g (a ∷ rest) all = rw (all a, lin_same values f g rest all) refl

abs_share : (s : ℕ) (t : ℕ × ℤ) → nat_abs (share s t) ≡ (if nat_eq t.0 s then nat_abs t.1 else 0)
abs_share s t = by_test (nat_eq t.0 s) refl
  where
    by_test : (same : Bool) → nat_eq t.0 s ≡ same → nat_abs (share s t) ≡ (if nat_eq t.0 s then nat_abs t.1 else 0)
    by_test true e = rw e refl
    by_test false e = rw e refl

share_sign : (s : ℕ) (t : ℕ × ℤ) → le_z (pos 0) t.1 ≡ true → le_z (pos 0) (share s t) ≡ true
share_sign s t sign = by_test (nat_eq t.0 s) refl
  where
    by_test : (same : Bool) → nat_eq t.0 s ≡ same → le_z (pos 0) (share s t) ≡ true
    by_test true e = rw e sign
    by_test false e = rw e refl

coefficients_sign : (s : ℕ) (ts : List (ℕ × ℤ)) → are_entry_terms ts ≡ true → le_z (pos 0) (linear.coefficient s ts) ≡ true
coefficients_sign s [] all = refl
coefficients_sign s (t ∷ ts) all =
    let p = and_parts (nat_lt t.0 8 && le_z (pos 0) t.1) (are_entry_terms ts) all in
    let sign : le_z (pos 0) t.1 ≡ true = (and_parts (nat_lt t.0 8) (le_z (pos 0) t.1) p.0).1 in
    (abs_sum (share s t) (linear.coefficient s ts) (share_sign s t sign) (coefficients_sign s ts p.1)).1

times_abs : (k : ℤ) (v : ℕ) → le_z (pos 0) k ≡ true → k *ℤ pos v ≡ pos (nat_abs k * v)
times_abs (pos m) v sign = omega (arith, ints)
times_abs (negsuc m) v sign = absurd (cc)

terms_value : (values : List ℕ) (ts : List (ℕ × ℤ)) → are_entry_terms ts ≡ true → terms_at (λ s. slice_index_or values s 0) ts
    ≡ pos (form_sum values ts)
unfolding form_sum all_symbols
terms_value values [] all = let none : form_sum values [] ≡ 0 = omega arith in rw none refl
terms_value values (t ∷ ts) all =
    let p = and_parts (nat_lt t.0 8 && le_z (pos 0) t.1) (are_entry_terms ts) all in
    let q = and_parts (nat_lt t.0 8) (le_z (pos 0) t.1) p.0 in
    let each = lin_add values (λ s. nat_abs (linear.coefficient s (t ∷ ts))) (λ s. nat_abs (share s t))
    (λ s. nat_abs (linear.coefficient s ts)) all_symbols
    (λ s. (abs_sum (share s t) (linear.coefficient s ts) (share_sign s t q.1) (coefficients_sign s ts p.1)).0) in
    let one : lin values (λ s. nat_abs (share s t)) all_symbols ≡ nat_abs t.1 * number values t.0 =
    lin_same values (λ s. nat_abs (share s t)) (λ s. if nat_eq t.0 s then nat_abs t.1 else 0) all_symbols (λ s. abs_share s t)
    ∙ of_one values t.0 (nat_abs t.1) (ltb-true _ _ q.0) in
    let whole : form_sum values (t ∷ ts) ≡ nat_abs t.1 * number values t.0 + form_sum values ts = omega (arith, each, one) in
    omega (arith, ints, times_abs t.1 (number values t.0) q.1, terms_value values ts p.1, whole)

rising_symbols : Rise 0 all_symbols
unfolding all_symbols
rising_symbols = omega arith

under_symbols : Under all_symbols
unfolding all_symbols
under_symbols = omega arith

sign_abs : (z : ℤ) → le_z (pos 0) z ≡ true → z ≡ pos (nat_abs z)
sign_abs (pos n) sign = refl
sign_abs (negsuc n) sign = absurd (cc)

distributed : (y l q x t : ℕ) → q * t ≡ 0 → y * x + (l * x + y * t) + (q * x + l * t) ≡ (y + l + q) * (x + t)
distributed y l q x t nothing = omega (arith, nothing)

product_total : (values : List ℕ) (p : List Term) (f : LinearForm) → greatest_cubic p f ≡ 0
    → total values (product p f) 45
    ≡ total values (coefficient_at p) 45 * (form_part f None + lin values (λ s. form_part f (Some s)) all_symbols)
product_total values p f none =
    let pq : ℕ → ℕ → ℕ = λ a b. coefficient (Some a) (Some b) p in
    let pl : ℕ → ℕ = λ a. coefficient (Some a) None p in
    let t : ℕ → ℕ = λ s. form_part f (Some s) in
    let x : ℕ = form_part f None in
    let y : ℕ = coefficient None None p in
    let bound : total values (coefficient_at p) 45 ≡ y + lin values pl all_symbols + quad values pq all_symbols =
    by_degree values (λ s. coefficient s.0 s.1 p) in
    let whole : total values (product p f) 45
    ≡ y * x + lin values (λ a. pl a * x + y * t a) all_symbols + quad values (part pq pl t x) all_symbols =
    by_degree values (product_of p f) in
    let linear_part : lin values (λ a. pl a * x + y * t a) all_symbols
    ≡ lin values pl all_symbols * x + y * lin values t all_symbols = lin_sum values pl t x y all_symbols in
    let quadratic : quad values (part pq pl t x) all_symbols
    ≡ quad values pq all_symbols * x + lin values pl all_symbols * lin values t all_symbols =
    quad_parts values pq pl t x 0 all_symbols rising_symbols in
    let nothing : quad values pq all_symbols * lin values t all_symbols ≡ 0 =
    quad_none values pq (lin values t all_symbols) 0 all_symbols under_symbols rising_symbols
    (λ a b le less. lin_none values (pq a b) t all_symbols under_symbols
    (λ c least. product_none p f none a b c le less least)) in
    whole ∙ rw (linear_part, quadratic, bound)
    (distributed y (lin values pl all_symbols) (quad values pq all_symbols) x (lin values t all_symbols) nothing)

pos_times : (m n : ℕ) → pos (m * n) ≡ pos m *ℤ pos n
pos_times m n = omega (arith, ints)

pub product_value : (values : List ℕ) (p : List Term) (f : LinearForm) → BoundFrom 0 8 p → greatest_cubic p f ≡ 0
    → is_entry_form f ≡ true
    → pos (at values (listed (product p f) 45)) ≡ pos (at values p) *ℤ value_at (λ s. slice_index_or values s 0) f
unfolding form_sum
product_value values p f bound none entry =
    let q = and_parts (le_z (pos 0) f.constant) (are_entry_terms f.terms) entry in
    let constant : f.constant ≡ pos (nat_abs f.constant) = sign_abs f.constant q.0 in
    let form : value_at (λ s. slice_index_or values s 0) f ≡ pos (nat_abs f.constant + form_sum values f.terms) =
    omega (arith, ints, constant, terms_value values f.terms q.1) in
    let product_is : at values (listed (product p f) 45) ≡ at values p * (nat_abs f.constant + form_sum values f.terms) =
    listed_value values (product p f) 45 ∙ product_total values p f none ∙ rw (value_total values 0 p bound) refl in
    rw (form, product_is) (pos_times (at values p) (nat_abs f.constant + form_sum values f.terms))
