-- Arrays of a type: their elements, and what becomes of them where elements are put.
use Rattle.std.proofs.Common.{◌≡◌, refl, sym, ◌∙◌, ap, arith, ℕ, zero, suc, ◌%◌, ◌≤◌, nat_eq, Bool, true, false, ◌&&◌, List, []}
use Rattle.std.proofs.Common.{◌∷◌, length, map, get_or, set, length-set, Option, Some}
use Rattle.std.proofs.lemmas.List.{length-map}
use Rattle.std.proofs.lemmas.Bool.{eqb-true, leb-true, le-leb}
use Rattle.std.proofs.lemmas.Bool.Decides.{nat_tests}
use Rattle.rup_base.specs.Gather.{all_true}
use Rattle.rup_base.specs.declared.arg.Arg.{Arg}
use Rattle.rup_base.specs.declared.arg.Arg.TheVariants as arg
use Rattle.model_syntax.specs.Environment.{elements, size, with_element, with_each}
use Rattle.model_syntax.specs.Kinds.{is_word, is_byte, is_of_kind}
use Rattle.model_syntax.specs.Sound.{is_number, is_array, kind_of_value}
use Rattle.model_syntax.specs.declared.expr.Scalar.{Scalar}
use Rattle.model_syntax.specs.declared.expr.Scalar.TheVariants.{Word, Byte, Flag}
use Rattle.model_syntax.proofs.laws.Numbers.{low_byte, whole_byte}

pub and_parts : (a b : Bool) → (a && b) ≡ true → (a ≡ true) × (b ≡ true)
and_parts true true is = (refl, refl)
and_parts true false is = absurd (cc)
and_parts false b is = absurd (cc)

pub and_both : (a b : Bool) → a ≡ true → b ≡ true → (a && b) ≡ true
and_both a b one two = rw (one, two) refl

pub zero_number : (t : Scalar) → is_number t 0 ≡ true
zero_number Word = refl
zero_number Byte = refl
zero_number Flag = refl

-- Lists of numbers that pass a test.

module _ (test : ℕ → Bool) where
  abbrev pub All : List ℕ → Type 0
  All ns = all_true (map test ns) ≡ true

  pub all_at : (ns : List ℕ) (i : ℕ) → test 0 ≡ true → All ns → test (get_or ns i 0) ≡ true
  all_at [] i none all = none
  all_at (n ∷ ns) zero none all = (and_parts (test n) (all_true (map test ns)) all).0
  all_at (n ∷ ns) (suc i) none all = all_at ns i none (and_parts (test n) (all_true (map test ns)) all).1

  pub all_set : (ns : List ℕ) (i e : ℕ) → test e ≡ true → All ns → All (set ns i e)
  all_set [] i e is all = all
  all_set (n ∷ ns) zero e is all =
      and_both (test e) (all_true (map test ns)) is (and_parts (test n) (all_true (map test ns)) all).1
  all_set (n ∷ ns) (suc i) e is all =
      let parts = and_parts (test n) (all_true (map test ns)) all in
      and_both (test n) (all_true (map test (set ns i e))) parts.0 (all_set ns i e is parts.1)

  pub all_changed : (change : ℕ → ℕ) (ns : List ℕ) → ((n : ℕ) → test n ≡ true → test (change n) ≡ true) → All ns
      → All (map change ns)
  all_changed change [] each all = refl
  all_changed change (n ∷ ns) each all =
      let parts = and_parts (test n) (all_true (map test ns)) all in
      and_both (test (change n)) (all_true (map test (map change ns))) (each n parts.0) (all_changed change ns each parts.1)

-- bytes are their lowest bytes
pub whole_bytes : (ns : List ℕ) → all_true (map is_byte ns) ≡ true → map (λ n. n % 256) ns ≡ ns
whole_bytes [] all = refl
whole_bytes (n ∷ ns) all =
    let parts = and_parts (is_byte n) (all_true (map is_byte ns)) all in
    rw (whole_byte n parts.0, whole_bytes ns parts.1) refl

-- Arrays.

-- a value is an array: its elements, and what is said of them
pub record IsArray (t : Scalar) (n : ℕ) (v : Arg) : Type 0 where
  pub fits : is_word n ≡ true
  pub many : length (elements (Some v)) ≡ n
  pub all : all_true (map (is_number t) (elements (Some v))) ≡ true

pub array_parts : (t : Scalar) (n : ℕ) (v : Arg) → is_array t n v ≡ true → IsArray t n v
array_parts Word n (arg.Words ns) is =
    let one = and_parts (nat_eq n (length ns) && all_true (map is_word ns)) (is_word n) is in
    let two = and_parts (nat_eq n (length ns)) (all_true (map is_word ns)) one.0 in
    record { fits = one.1; many = sym (eqb-true n (length ns) two.0); all = two.1 }
array_parts Byte n (arg.Bytes ns) is =
    let one = and_parts (nat_eq n (length ns) && all_true (map is_byte ns)) (is_word n) is in
    let two = and_parts (nat_eq n (length ns)) (all_true (map is_byte ns)) one.0 in
    record { fits = one.1; many = sym (eqb-true n (length ns) two.0); all = two.1 }
array_parts Word n (arg.Word k) is = absurd (cc)
array_parts Word n (arg.Bytes ns) is = absurd (cc)
array_parts Byte n (arg.Word k) is = absurd (cc)
array_parts Byte n (arg.Words ns) is = absurd (cc)
array_parts Flag n v is = absurd (cc)

same_number : (n k : ℕ) → k ≡ n → nat_eq n k ≡ true
same_number n k is = grind (arith, nat_tests)

pub words_are : (n : ℕ) (ns : List ℕ) → is_word n ≡ true → length ns ≡ n → all_true (map is_word ns) ≡ true
    → is_array Word n (arg.Words ns) ≡ true
words_are n ns fits many all =
    and_both (nat_eq n (length ns) && all_true (map is_word ns)) (is_word n)
    (and_both (nat_eq n (length ns)) (all_true (map is_word ns)) (same_number n (length ns) many) all) fits

pub bytes_are : (n : ℕ) (ns : List ℕ) → is_word n ≡ true → length ns ≡ n → all_true (map is_byte ns) ≡ true
    → is_array Byte n (arg.Bytes ns) ≡ true
bytes_are n ns fits many all =
    and_both (nat_eq n (length ns) && all_true (map is_byte ns)) (is_word n)
    (and_both (nat_eq n (length ns)) (all_true (map is_byte ns)) (same_number n (length ns) many) all) fits

-- an array with other elements is an array, with all of them as they were given
pub record IsChanged (t : Scalar) (n : ℕ) (changed : Option Arg) (ns : List ℕ) : Type 0 where
  pub value : Arg
  pub is : changed ≡ Some value
  pub array : is_array t n value ≡ true
  pub whole : elements changed ≡ ns

pub element_put : (t : Scalar) (n i e : ℕ) (v : Arg) → is_array t n v ≡ true → is_number t e ≡ true
    → IsChanged t n (with_element i e (Some v)) (set (elements (Some v)) i e)
element_put Word n i e (arg.Words ns) is fits =
    let a = array_parts Word n (arg.Words ns) is in
    record {
      value = arg.Words (set ns i e);
      is = refl;
      array = words_are n (set ns i e) a.fits (length-set ns i e ∙ a.many) (all_set is_word ns i e fits a.all);
      whole = refl;
    }
element_put Byte n i e (arg.Bytes ns) is fits =
    let a = array_parts Byte n (arg.Bytes ns) is in
    record {
      value = arg.Bytes (set ns i (e % 256));
      is = refl;
      array = bytes_are n (set ns i (e % 256)) a.fits (length-set ns i (e % 256) ∙ a.many)
          (all_set is_byte ns i (e % 256) (low_byte e) a.all);
      whole = ap (λ b. set ns i b) (whole_byte e fits);
    }
element_put Word n i e (arg.Word k) is fits = absurd (cc)
element_put Word n i e (arg.Bytes ns) is fits = absurd (cc)
element_put Byte n i e (arg.Word k) is fits = absurd (cc)
element_put Byte n i e (arg.Words ns) is fits = absurd (cc)
element_put Flag n i e v is fits = absurd (cc)

pub elements_mapped : (t : Scalar) (n : ℕ) (change : ℕ → ℕ) (v : Arg) → is_array t n v ≡ true
    → ((k : ℕ) → is_number t k ≡ true → is_number t (change k) ≡ true)
    → IsChanged t n (with_each change (Some v)) (map change (elements (Some v)))
elements_mapped Word n change (arg.Words ns) is keeps =
    let a = array_parts Word n (arg.Words ns) is in
    record {
      value = arg.Words (map change ns);
      is = refl;
      array = words_are n (map change ns) a.fits (length-map ns change ∙ a.many) (all_changed is_word change ns keeps a.all);
      whole = refl;
    }
elements_mapped Byte n change (arg.Bytes ns) is keeps =
    let a = array_parts Byte n (arg.Bytes ns) is in
    let all : all_true (map is_byte (map change ns)) ≡ true = all_changed is_byte change ns keeps a.all in
    let same : map (λ k. k % 256) (map change ns) ≡ map change ns = whole_bytes (map change ns) all in
    record {
      value = arg.Bytes (map (λ k. k % 256) (map change ns));
      is = refl;
      array = rw same (bytes_are n (map change ns) a.fits (length-map ns change ∙ a.many) all);
      whole = same;
    }
elements_mapped Word n change (arg.Word k) is keeps = absurd (cc)
elements_mapped Word n change (arg.Bytes ns) is keeps = absurd (cc)
elements_mapped Byte n change (arg.Word k) is keeps = absurd (cc)
elements_mapped Byte n change (arg.Words ns) is keeps = absurd (cc)
elements_mapped Flag n change v is keeps = absurd (cc)

-- the length of an array is not cut
pub size_whole : (t : Scalar) (n : ℕ) (v : Arg) → is_array t n v ≡ true → (size (elements (Some v)) ≡ length (elements (Some v)))
    × (is_word (size (elements (Some v))) ≡ true)
size_whole t n v is =
    let a = array_parts t n v is in
    let small : length (elements (Some v)) ≤ 4294967295 = omega (arith, a.many, leb-true n 4294967295 a.fits) in
    (omega (arith, small), le-leb _ _ (omega (arith, small)))

-- an array of the kind and length of another
pub array_like : (t : Scalar) (n : ℕ) (old new : Arg) → is_array t n old ≡ true → is_array t n new ≡ true
    → is_of_kind (kind_of_value old) new ≡ true
array_like Word n (arg.Words old) (arg.Words new) is_old is_new =
    let a = array_parts Word n (arg.Words old) is_old in
    let b = array_parts Word n (arg.Words new) is_new in
    and_both (nat_eq (length old) (length new)) (all_true (map is_word new))
    (same_number (length old) (length new) (b.many ∙ sym a.many)) b.all
array_like Byte n (arg.Bytes old) (arg.Bytes new) is_old is_new =
    let a = array_parts Byte n (arg.Bytes old) is_old in
    let b = array_parts Byte n (arg.Bytes new) is_new in
    and_both (nat_eq (length old) (length new)) (all_true (map is_byte new))
    (same_number (length old) (length new) (b.many ∙ sym a.many)) b.all
array_like Word n (arg.Word k) new is_old is_new = absurd (cc)
array_like Word n (arg.Bytes ns) new is_old is_new = absurd (cc)
array_like Byte n (arg.Word k) new is_old is_new = absurd (cc)
array_like Byte n (arg.Words ns) new is_old is_new = absurd (cc)
array_like Word n (arg.Words old) (arg.Word k) is_old is_new = absurd (cc)
array_like Word n (arg.Words old) (arg.Bytes ns) is_old is_new = absurd (cc)
array_like Byte n (arg.Bytes old) (arg.Word k) is_old is_new = absurd (cc)
array_like Byte n (arg.Bytes old) (arg.Words ns) is_old is_new = absurd (cc)
array_like Flag n old new is_old is_new = absurd (cc)
