-- Reading and writing one element of an array that stands in memory, by the size of an element.
use Rattle.std.proofs.Common.{◌≡◌, refl, sym, ◌∙◌, ap, subst, arith, ℕ, zero, suc, ◌+◌, ◌-◌, ◌*◌, ◌%◌, ◌<◌, ◌≤◌, ◌⊎◌, inl, inr}
use Rattle.std.proofs.Common.{Bool, true, false, ◌&&◌, List, [], ◌∷◌, ◌++◌, length, map, set, Option, Some, None, slice_get}
use Rattle.std.proofs.Common.{nat_lt, mod-eq_of_lt}
use Rattle.std.specs.List.{flat_map}
use Rattle.std.specs.FinMap.{get}
use Rattle.std.specs.Int.{w32, to_le_bytes}
use Rattle.std.proofs.lemmas.Bool.{leb-true, le-leb, ltb-true, ltb-false}
use Rattle.std.proofs.lemmas.Option.{slice_get_within}
use Rattle.rup_base.specs.Gather.{all_true}
use Rattle.rup_base.specs.declared.arg.Arg.{Arg}
use Rattle.rup_base.specs.declared.arg.Arg.TheVariants as arg
use Rattle.rv_memory.specs.Ranges.{Bytes, Stands, Range, Within}
use Rattle.model_syntax.specs.Environment.{elements, with_element}
use Rattle.model_syntax.specs.Kinds.{is_byte, is_word}
use Rattle.sym_heap.specs.Elements.{element_bytes, element_top}
use Rattle.sym_heap.specs.Fits.{IsArray, array_bytes}

-- Lists of chunks.

behind : {A : Type 0} (xs ys : List A) (j : ℕ) → slice_get (xs ++ ys) (length xs + j) ≡ slice_get ys j
behind [] ys j = let same : 0 + j ≡ j = omega arith in ap (slice_get ys) same
behind (x ∷ xs) ys j = let next : suc (length xs) + j ≡ suc (length xs + j) = omega arith in
    ap (slice_get (x ∷ xs ++ ys)) next ∙ behind xs ys j

before : {A : Type 0} (xs ys : List A) (j : ℕ) → j < length xs → slice_get (xs ++ ys) j ≡ slice_get xs j
before [] ys j less = absurd (omega (arith, less))
before (x ∷ xs) ys zero less = refl
before (x ∷ xs) ys (suc j) less = before xs ys j (omega (arith, less))

-- a place of a chunk of w in the chunks of a list
pub chunk : {X A : Type 0} (f : X → List A) (w : ℕ) → ((x : X) → length (f x) ≡ w) → (xs : List X) (i : ℕ) (x : X) (k : ℕ)
    → slice_get xs i ≡ Some x → k < w → slice_get (flat_map f xs) (w * i + k) ≡ slice_get (f x) k
chunk f w size [] i x k at less = absurd (let bad : None ≡ Some x = at in cc)
chunk f w size (y ∷ ys) zero x k at less =
    let same : y ≡ x = cc in
    let start : w * 0 + k ≡ k = omega arith in
    let long = size y in
    ap (slice_get (f y ++ flat_map f ys)) start ∙ before (f y) (flat_map f ys) k (omega (arith, less, long))
    ∙ ap (λ z. slice_get (f z) k) same
chunk f w size (y ∷ ys) (suc i) x k at less =
    let long = size y in
    let product : w * suc i ≡ w + w * i = omega arith in
    let place : w * suc i + k ≡ length (f y) + (w * i + k) = omega (arith, product, long) in
    ap (slice_get (f y ++ flat_map f ys)) place ∙ behind (f y) (flat_map f ys) (w * i + k) ∙ chunk f w size ys i x k at less

all_get : (test : ℕ → Bool) (ns : List ℕ) (i n : ℕ) → all_true (map test ns) ≡ true → slice_get ns i ≡ Some n → test n ≡ true
all_get test [] i n all at = absurd (let bad : None ≡ Some n = at in cc)
all_get test (m ∷ ms) i n all at = by i at (λ j there. all_get test ms j n (parts (test m) all).1 there) where
  parts : (b : Bool) → (b && all_true (map test ms)) ≡ true → (b ≡ true) × (all_true (map test ms) ≡ true)
  parts true e = (refl, e)
  parts false e = absurd (let bad : false ≡ true = e in cc)

  by : (j : ℕ) → slice_get (m ∷ ms) j ≡ Some n → ((j : ℕ) → slice_get ms j ≡ Some n → test n ≡ true) → test n ≡ true
  by zero here more = let same : m ≡ n = cc in subst (λ (z : ℕ). test z ≡ true) same (parts (test m) all).0
  by (suc j) there more = more j there

four : (n : ℕ) → length (to_le_bytes w32 n) ≡ 4
four n = refl

-- an element stands at its place, and is not above its top
pub element_read : (size : ℕ) (found : Option Arg) (mem : Bytes) (start i n : ℕ) → IsArray size found
    → Stands mem start (array_bytes found) → slice_get (elements found) i ≡ Some n
    → Stands mem (start + size * i) (element_bytes size n) × (n ≤ element_top size)
element_read size None mem start i n is stands at = absurd is
element_read size (Some (arg.Word m)) mem start i n is stands at = absurd is
element_read size (Some (arg.Bytes ns)) mem start i n is stands at =
    subst (λ (s : ℕ). Stands mem (start + s * i) (element_bytes s n) × (n ≤ element_top s)) (sym is.0)
    (one, leb-true _ _ (all_get is_byte ns i n is.1 at))
  where
    one : Stands mem (start + 1 * i) (n ∷ [])
    one zero b here = let same : n ≡ b = cc in let place : start + 1 * i + 0 ≡ start + i = omega arith in
        ap (get mem) place ∙ stands i n at ∙ ap Some same
    one (suc k) b here = absurd (let bad : None ≡ Some b = here in cc)
element_read size (Some (arg.Words ns)) mem start i n is stands at =
    subst (λ (s : ℕ). Stands mem (start + s * i) (element_bytes s n) × (n ≤ element_top s)) (sym is.0)
    (word, leb-true _ _ (all_get is_word ns i n is.1 at))
  where
    word : Stands mem (start + 4 * i) (to_le_bytes w32 n)
    word k b here =
        let less : k < length (to_le_bytes w32 n) = slice_get_within (to_le_bytes w32 n) k b here in
        let long = four n in
        let place : start + 4 * i + k ≡ start + (4 * i + k) = omega arith in
        ap (get mem) place ∙ stands (4 * i + k) b (chunk (to_le_bytes w32) 4 four ns i n k at (omega (arith, less, long)) ∙ here)

-- Writing.

-- after a write to the element i, a byte of the list is one of the element written, or one of before that is not in its place
data Placed {X A : Type 0} (f : X → List A) (w : ℕ) (xs : List X) (i : ℕ) (x : X) (p : ℕ) (b : A) : Type 0 where
  inside : (k : ℕ) → k < w → p ≡ w * i + k → slice_get (f x) k ≡ Some b → Placed f w xs i x p b
  outside : (p < w * i) ⊎ (w * i + w ≤ p) → slice_get (flat_map f xs) p ≡ Some b → Placed f w xs i x p b

placed : {X A : Type 0} (f : X → List A) (w : ℕ) → ((x : X) → length (f x) ≡ w) → (xs : List X) (i : ℕ) (x : X) (p : ℕ) (b : A)
    → i < length xs → slice_get (flat_map f (set xs i x)) p ≡ Some b → Placed f w xs i x p b
placed f w size [] i x p b less at = absurd (omega (arith, less))
placed f w size (y ∷ ys) zero x p b less at = by (nat_lt p w) refl where
  long : length (f x) ≡ length (f y)
  long = size x ∙ sym (size y)

  by : (first : Bool) → nat_lt p w ≡ first → Placed f w (y ∷ ys) zero x p b
  by true e =
      let short : p < w = ltb-true _ _ e in
      let here = size x in
      inside p short (omega arith) (sym (before (f x) (flat_map f ys) p (omega (arith, short, here))) ∙ at)
  by false e =
      let far : w ≤ p = ltb-false _ _ e in
      let here = size x in
      let there = size y in
      let place : p ≡ length (f x) + (p - w) = omega (arith, far, here) in
      let place_y : p ≡ length (f y) + (p - w) = omega (arith, far, there) in
      let new : slice_get (flat_map f ys) (p - w)
      ≡ Some b = sym (behind (f x) (flat_map f ys) (p - w)) ∙ ap (slice_get (f x ++ flat_map f ys)) (sym place) ∙ at in
      outside (inr (omega (arith, far)))
      (ap (slice_get (f y ++ flat_map f ys)) place_y ∙ behind (f y) (flat_map f ys) (p - w) ∙ new)
placed f w size (y ∷ ys) (suc i) x p b less at =
    by (nat_lt p w) refl (λ j k. placed f w size ys i x j b (omega (arith, less)) k) where
      here : length (f y) ≡ w
      here = size y

      product : w * suc i ≡ w + w * i
      product = omega arith

      moved : (j : ℕ) → p ≡ w + j → Placed f w ys i x j b → Placed f w (y ∷ ys) (suc i) x p b
      moved j place (inside k short is found) = inside k short (omega (arith, place, is, product)) found
      moved j place (outside (inl less_j) found) =
          outside (inl (omega (arith, place, less_j, product)))
          (let h = here in ap (slice_get (f y ++ flat_map f ys)) (let q : p ≡ length (f y) + j = omega (arith, place, h) in q)
          ∙ behind (f y) (flat_map f ys) j ∙ found)
      moved j place (outside (inr more_j) found) =
          outside (inr (omega (arith, place, more_j, product)))
          (let h = here in ap (slice_get (f y ++ flat_map f ys)) (let q : p ≡ length (f y) + j = omega (arith, place, h) in q)
          ∙ behind (f y) (flat_map f ys) j ∙ found)

      by : (first : Bool) → nat_lt p w ≡ first
          → ((j : ℕ) → slice_get (flat_map f (set ys i x)) j ≡ Some b → Placed f w ys i x j b)
          → Placed f w (y ∷ ys) (suc i) x p b
      by true e next =
          let short : p < w = ltb-true _ _ e in
          let h = here in
          let shorter : p < length (f y) = omega (arith, short, h) in
          outside (inl (omega (arith, short, product)))
          (before (f y) (flat_map f ys) p shorter ∙ sym (before (f y) (flat_map f (set ys i x)) p shorter) ∙ at)
      by false e next =
          let far : w ≤ p = ltb-false _ _ e in
          let h = here in
          let place : p ≡ length (f y) + (p - w) = omega (arith, far, h) in
          moved (p - w) (omega (arith, far))
          (next (p - w) (sym (behind (f y) (flat_map f (set ys i x)) (p - w))
          ∙ ap (slice_get (f y ++ flat_map f (set ys i x))) (sym place) ∙ at))

abbrev pub OthersKept : Bytes → Bytes → Range → Type 0
OthersKept before after r = (address : ℕ) → (Within r address → ⊥) → get after address ≡ get before address

list_written : (f : ℕ → List ℕ) (w : ℕ) → ((n : ℕ) → length (f n) ≡ w) → (ns : List ℕ) (i n : ℕ) (mem after : Bytes) (start : ℕ)
    → Stands mem start (flat_map f ns) → i < length ns
    → Stands after (start + w * i) (f n) → OthersKept mem after (record { start = start + w * i; size = w })
    → Stands after start (flat_map f (set ns i n))
list_written f w size ns i n mem after start stands less new others p b at = by (placed f w size ns i n p b less at) where
  by : Placed f w ns i n p b → get after (start + p) ≡ Some b
  by (inside k short place found) = let address : start + p ≡ start + w * i + k = omega (arith, place) in
      ap (get after) address ∙ new k b found
  by (outside (inl low) found) =
      others (start + p) (λ (r : Within (record { start = start + w * i; size = w }) (start + p)).
      absurd (let a = r.0 in omega (arith, low, a))) ∙ stands p b found
  by (outside (inr high) found) =
      others (start + p) (λ (r : Within (record { start = start + w * i; size = w }) (start + p)).
      absurd (let a = r.1 in omega (arith, high, a))) ∙ stands p b found

all_set : (test : ℕ → Bool) (ns : List ℕ) (i n : ℕ) → all_true (map test ns) ≡ true → test n ≡ true
    → all_true (map test (set ns i n)) ≡ true
all_set test [] i n all new = all
all_set test (m ∷ ms) zero n all new = rw new (parts (test m) all) where
  parts : (b : Bool) → (b && all_true (map test ms)) ≡ true → all_true (map test ms) ≡ true
  parts true e = e
  parts false e = absurd (let bad : false ≡ true = e in cc)
all_set test (m ∷ ms) (suc i) n all new = by (test m) all (λ rest. all_set test ms i n rest new) where
  by : (b : Bool) → (b && all_true (map test ms)) ≡ true
      → (all_true (map test ms) ≡ true → all_true (map test (set ms i n)) ≡ true) → (b && all_true (map test (set ms i n))) ≡ true
  by true e next = next e
  by false e next = absurd (let bad : false ≡ true = e in cc)

singles : (ns : List ℕ) → flat_map (λ n. n ∷ []) ns ≡ ns
singles [] = refl
singles (n ∷ ns) = ap (λ l. n ∷ l) (singles ns)

-- where an element is put at its place and nothing else changes, the array with the element put stands
pub element_written : (size : ℕ) (found : Option Arg) (mem after : Bytes) (start i n : ℕ) → IsArray size found
    → Stands mem start (array_bytes found) → i < length (elements found) → n ≤ element_top size
    → Stands after (start + size * i) (element_bytes size n)
    → OthersKept mem after (record { start = start + size * i; size = size })
    → IsArray size (with_element i n found) × Stands after start (array_bytes (with_element i n found))
element_written size None mem after start i n is stands less top new others = absurd is
element_written size (Some (arg.Word m)) mem after start i n is stands less top new others = absurd is
element_written size (Some (arg.Bytes ns)) mem after start i n is stands less top new others =
    let small : n ≤ 255 = subst (λ (s : ℕ). n ≤ element_top s) is.0 top in
    let byte : n % 256 ≡ n = mod-eq_of_lt (omega (arith, small)) in
    let one : Stands after (start + 1 * i) (n ∷ []) = subst (λ (s : ℕ). Stands after (start + s * i) (element_bytes s n)) is.0 new
    in
    let kept : OthersKept mem after (record { start = start + 1 * i; size = 1 }) =
    subst (λ (s : ℕ). OthersKept mem after (record { start = start + s * i; size = s })) is.0 others in
    let all : Stands after start (set ns i n) = subst (λ (l : List ℕ). Stands after start l) (singles (set ns i n))
    (list_written (λ z. z ∷ []) 1 (λ z. refl) ns i n mem after start
    (subst (λ (l : List ℕ). Stands mem start l) (sym (singles ns)) stands) less one kept) in
    rw byte ((is.0, all_set is_byte ns i n is.1 (le-leb _ _ small)), all)
element_written size (Some (arg.Words ns)) mem after start i n is stands less top new others =
    let small : n ≤ 4294967295 = subst (λ (s : ℕ). n ≤ element_top s) is.0 top in
    let word : Stands after (start + 4 * i) (to_le_bytes w32 n) =
    subst (λ (s : ℕ). Stands after (start + s * i) (element_bytes s n)) is.0 new in
    let kept : OthersKept mem after (record { start = start + 4 * i; size = 4 }) =
    subst (λ (s : ℕ). OthersKept mem after (record { start = start + s * i; size = s })) is.0 others in (
      (is.0, all_set is_word ns i n is.1 (le-leb _ _ small)),
      list_written (to_le_bytes w32) 4 four ns i n mem after start stands
          less word kept,
    )
