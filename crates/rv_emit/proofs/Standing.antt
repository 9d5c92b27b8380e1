-- Bytes that stand in the memory: parts of them, and the words and tables that they make.
use Rattle.std.proofs.Common.{◌≡◌, ℕ, zero, suc, ◌+◌, ◌*◌, ◌/◌, ◌%◌, ◌^◌, ◌<◌, List, [], ◌∷◌, ◌++◌, length, Some, slice_get, refl}
use Rattle.std.proofs.Common.{ap, ◌∙◌, arith, zero-add, length-append}
use Rattle.std.specs.List.{flat_map}
use Rattle.std.specs.Int.{w32, to_le_bytes}
use Rattle.rv_machine.specs.State.{number_at}
use Rattle.rv_memory.specs.Ranges.{Bytes, Stands}
use Rattle.rv_memory.proofs.laws.Numbers.{number_at_four}

abbrev word_bytes : List ℕ → List ℕ
word_bytes words = flat_map (to_le_bytes w32) words

pub slice_get-append_left : (xs ys : List ℕ) (k b : ℕ) → slice_get xs k ≡ Some b → slice_get (xs ++ ys) k ≡ Some b
slice_get-append_left [] ys k b found = absurd (cc)
slice_get-append_left (x ∷ xs) ys zero b found = found
slice_get-append_left (x ∷ xs) ys (suc k) b found = slice_get-append_left xs ys k b found

pub slice_get-append_right : (xs ys : List ℕ) (k : ℕ) → slice_get (xs ++ ys) (length xs + k) ≡ slice_get ys k
slice_get-append_right [] ys k = ap (slice_get ys) (zero-add k)
slice_get-append_right (x ∷ xs) ys k =
    let next : length (x ∷ xs) + k ≡ suc (length xs + k) = omega arith in
    rw next (slice_get-append_right xs ys k)

pub stands_front : (mem : Bytes) (start : ℕ) (xs ys : List ℕ) → Stands mem start (xs ++ ys) → Stands mem start xs
stands_front mem start xs ys stands k b found = stands k b (slice_get-append_left xs ys k b found)

pub stands_back : (mem : Bytes) (start : ℕ) (xs ys : List ℕ) → Stands mem start (xs ++ ys) → Stands mem (start + length xs) ys
stands_back mem start xs ys stands k b found =
    let there = stands (length xs + k) b (slice_get-append_right xs ys k ∙ found) in
    let place : start + (length xs + k) ≡ start + length xs + k = omega arith in
    rw (← place) there

pub word_stands : (mem : Bytes) (start w : ℕ) → w < 2 ^ 32 → Stands mem start (to_le_bytes w32 w) → number_at mem 4 start ≡ Some w
word_stands mem start w below stands =
    let here : start + 0 ≡ start = omega arith in
    let first = rw here at (stands 0 (w % 256) refl) in
    let whole : w % 256 + 256 * (w / 256 % 256 + 256 * (w / 65536 % 256 + 256 * (w / 16777216 % 256))) ≡ w = omega arith in
    number_at_four mem start (w % 256) (w / 256 % 256) (w / 65536 % 256) (w / 16777216 % 256) first (stands 1 _ refl)
    (stands 2 _ refl) (stands 3 _ refl) ∙ ap Some whole

pub words_stand : (mem : Bytes) (words : List ℕ) (start k w : ℕ) → Stands mem start (word_bytes words)
    → slice_get words k ≡ Some w → w < 2 ^ 32 → number_at mem 4 (start + 4 * k) ≡ Some w
words_stand mem [] start k w stands found below = absurd (cc)
words_stand mem (x ∷ words) start zero w stands found below =
    let here : start + 4 * 0 ≡ start = omega arith in
    let same : x ≡ w = cc in
    let front = stands_front mem start (to_le_bytes w32 x) (word_bytes words) stands in
    rw (here, ← same) (word_stands mem start x (rw same below) front)
words_stand mem (x ∷ words) start (suc k) w stands found below =
    let place : start + 4 + 4 * k ≡ start + 4 * suc k = omega arith in
    let back = stands_back mem start (to_le_bytes w32 x) (word_bytes words) stands in
    rw (← place) (words_stand mem words (start + 4) k w back found below)

pub length-word_bytes : (words : List ℕ) → length (flat_map (to_le_bytes w32) words) ≡ 4 * length words
length-word_bytes [] = refl
length-word_bytes (w ∷ words) =
    let rest = length-word_bytes words in
    let all = length-append (to_le_bytes w32 w) (word_bytes words) in
    let four : length (to_le_bytes w32 w) ≡ 4 = refl in
    omega arith
