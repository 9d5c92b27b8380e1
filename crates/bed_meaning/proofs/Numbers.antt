-- The meaning's numbers of one, two and four bytes are those of the memory.
use Rattle.std.proofs.Common.{◌≡◌, ℕ, ◌+◌, ◌*◌, ◌/◌, ◌%◌, ◌^◌, ◌<◌, Bool, true, false, Option, Some, None, is_some, nat_eq}
use Rattle.std.proofs.Common.{if◌then◌else◌, refl, sym, ap, ◌∙◌, arith}
use Rattle.std.proofs.lemmas.Bool.{eqb-true}
use Rattle.std.specs.FinMap.{get}
use Rattle.bed_syntax.specs.declared.operation.Size.{Size}
use Rattle.bed_syntax.specs.declared.operation.Size.TheVariants as size
use Rattle.rv_memory.specs.Ranges.{Bytes}
use Rattle.rv_memory.specs.Numbers.{joined, number_at, with_number}
use Rattle.bed_meaning.specs.Access.{width, low_high, word, loaded, stored, where_some, store}

same_pair : (x y : Option ℕ) → low_high x y ≡ joined x y
same_pair (Some low) (Some high) = refl
same_pair (Some low) None = refl
same_pair None y = refl

last_byte : (x : Option ℕ) → x ≡ joined x (Some 0)
last_byte (Some b) = let sum : b + 256 * 0 ≡ b = omega arith in rw sum refl
last_byte None = refl

pub word_number : (size : Size) (m : Bytes) (a : ℕ) → word (λ q. get m q) size a ≡ number_at m (width size) a
unfolding number_at
word_number size.One m a = last_byte (get m a)
word_number size.Two m a =
    same_pair (get m a) (get m (a + 1)) ∙ ap (joined (get m a)) (last_byte (get m (a + 1)))
word_number size.Four m a =
    let two : a + 2 ≡ a + 1 + 1 = omega arith in
    let three : a + 3 ≡ a + 1 + 1 + 1 = omega arith in
    same_pair (get m a) (low_high (get m (a + 1)) (low_high (get m (a + 2)) (get m (a + 3))))
    ∙ ap (joined (get m a)) (same_pair (get m (a + 1)) (low_high (get m (a + 2)) (get m (a + 3)))
    ∙ ap (joined (get m (a + 1))) (same_pair (get m (a + 2)) (get m (a + 3))
    ∙ ap (joined (get m (a + 2))) (last_byte (get m (a + 3))
    ∙ ap (λ q. joined (get m q) (Some 0)) three)
    ∙ ap (λ q. joined (get m q) (joined (get m (a + 1 + 1 + 1)) (Some 0))) two))

stored_number : (size : Size) (m : Bytes) (a v : ℕ) → v < 2 ^ 32 → stored size m a v ≡ with_number m (width size) a v
unfolding with_number
stored_number size.One m a v small = refl
stored_number size.Two m a v small = refl
stored_number size.Four m a v small =
    let two : a + 1 + 1 ≡ a + 2 = omega arith in
    let three : a + 2 + 1 ≡ a + 3 = omega arith in
    let third : v / 256 / 256 % 256 ≡ v / 65536 % 256 = omega arith in
    let fourth : v / 256 / 256 / 256 % 256 ≡ v / 16777216 = omega arith in
    rw (two, three, third, fourth) refl

-- a store at a multiple of the size, where a call says whether the memory has the bytes
pub store_done : (size : Size) (m after : Bytes) (a v : ℕ) (done : Bool) → v < 2 ^ 32 → a % width size ≡ 0
    → done ≡ is_some (number_at m (width size) a) → after ≡ (if done then with_number m (width size) a v else m)
    → store size m a v ≡ (if done then Some after else None)
store_done size m after a v done small aligned found value =
    ap (λ r. where_some (if nat_eq r 0 then word (λ q. get m q) size a else None) (stored size m a v)) aligned
    ∙ ap (λ n. where_some n (stored size m a v)) (word_number size m a)
    ∙ by_number (number_at m (width size) a) done found (stored_number size m a v small) value
  where
    by_number : (n : Option ℕ) (done : Bool) → done ≡ is_some n → stored size m a v ≡ with_number m (width size) a v
        → after ≡ (if done then with_number m (width size) a v else m)
        → where_some n (stored size m a v) ≡ (if done then Some after else None)
    by_number (Some n) true found is value = ap (λ x. Some x) (is ∙ sym value)
    by_number (Some n) false found is value = absurd (cc)
    by_number None true found is value = absurd (cc)
    by_number None false found is value = refl

-- a store at no multiple of the size
pub store_off : (size : Size) (m : Bytes) (a v : ℕ) → (a % width size ≡ 0 → ⊥) → store size m a v ≡ None
store_off size m a v off = by_test (nat_eq (a % width size) 0) refl
  where
    by_test : (t : Bool) → nat_eq (a % width size) 0 ≡ t
        → where_some (if t then word (λ q. get m q) size a else None) (stored size m a v) ≡ None
    by_test true is = absurd (off (eqb-true (a % width size) 0 is))
    by_test false is = refl

-- a load at a multiple of the size
pub loaded_number : (size : Size) (m : Bytes) (a : ℕ) → a % width size ≡ 0 → loaded size m a ≡ number_at m (width size) a
loaded_number size m a aligned =
    ap (λ r. if nat_eq r 0 then word (λ q. get m q) size a else None) aligned ∙ word_number size m a
