-- Where a table stands in the text of the tables.
use Rattle.std.proofs.Common.{◌≡◌, ℕ, zero, suc, ◌+◌, ◌%◌, ◌≤◌, List, [], ◌∷◌, length, Bool, true, false, ◌==◌, if◌then◌else◌}
use Rattle.std.proofs.Common.{Some, slice_get, refl, ap, ◌∙◌, arith, length-append}
use Rattle.std.specs.Prelude.{slice_index_or}
use Rattle.std.proofs.lemmas.Bool.{eqb-true, eqb-false}
use Rattle.rv_emit.specs.Tables.{fill, filled, text_of, offsets_from, AreAligned}
use Rattle.rv_emit.proofs.Standing.{slice_get-append_left, slice_get-append_right}

record Filling (n : ℕ) (zeros : List ℕ) : Type 0 where
  aligned : (n + length zeros) % 4 ≡ 0
  few : length zeros ≤ 3

filling : (n : ℕ) (a b c : Bool) → (n % 4 == 1) ≡ a → (n % 4 == 2) ≡ b → (n % 4 == 3) ≡ c
    → Filling n (if a then 0 ∷ 0 ∷ 0 ∷ [] else if b then 0 ∷ 0 ∷ [] else if c then 0 ∷ [] else [])
filling n true b c one two three = let is = eqb-true (n % 4) 1 one in record { aligned = omega arith; few = omega arith }
filling n false true c one two three = let is = eqb-true (n % 4) 2 two in record { aligned = omega arith; few = omega arith }
filling n false false true one two three = let is = eqb-true (n % 4) 3 three in
    record { aligned = omega arith; few = omega arith }
filling n false false false one two three =
    let n1 = eqb-false (n % 4) 1 one in
    let n2 = eqb-false (n % 4) 2 two in
    let n3 = eqb-false (n % 4) 3 three in
    record { aligned = omega (arith, n1, n2, n3); few = omega arith }

pub filled_aligned : (bytes : List ℕ) → length (filled bytes) % 4 ≡ 0
filled_aligned bytes =
    let size = length-append bytes (fill (length bytes)) in
    let f = filling (length bytes) _ _ _ refl refl refl in
    rw size f.aligned

pub filled_few : (bytes : List ℕ) → length (filled bytes) ≤ length bytes + 3
filled_few bytes =
    let size = length-append bytes (fill (length bytes)) in
    let f = filling (length bytes) _ _ _ refl refl refl in
    rw size (omega (arith, f.few))

pub record TextAt (tables : List (List ℕ)) (bytes : List ℕ) (start k : ℕ) : Type 0 where
  pub offset : ℕ
  pub is : slice_index_or (offsets_from start tables) k 0 ≡ start + offset
  pub aligned : offset % 4 ≡ 0
  pub there : (a b : ℕ) → slice_get bytes a ≡ Some b → slice_get (text_of tables) (offset + a) ≡ Some b

pub text_at : (tables : List (List ℕ)) (bytes : List ℕ) (start k : ℕ) → slice_get tables k ≡ Some bytes
    → TextAt tables bytes start k
text_at [] bytes start k found = absurd (cc)
text_at (first ∷ tables) bytes start zero found =
    let same : first ≡ bytes = cc in
    record {
      offset = 0;
      is = omega arith;
      aligned = refl;
      there = λ a b at.
          let none : 0 + a ≡ a = omega arith in
          let in_first : slice_get first a ≡ Some b = ap (λ x. slice_get x a) same ∙ at in
          rw none (slice_get-append_left (filled first) (text_of tables) a b
          (slice_get-append_left first (fill (length first)) a b in_first));
    }
text_at (first ∷ tables) bytes start (suc k) found =
    let rest = text_at tables bytes (start + length (filled first)) k found in
    let whole = filled_aligned first in
    let also = rest.aligned in
    record {
      offset = length (filled first) + rest.offset;
      is = rest.is ∙ omega arith;
      aligned = omega arith;
      there = λ a b at.
          let place : length (filled first) + rest.offset + a ≡ length (filled first) + (rest.offset + a) = omega arith in
          rw place (slice_get-append_right (filled first) (text_of tables) (rest.offset + a) ∙ rest.there a b at);
    }

pub tables_aligned : (tables : List (List ℕ)) → AreAligned tables (text_of tables)
tables_aligned tables k bytes found = let t = text_at tables bytes 0 k found in (t.offset, t.aligned, t.there)
