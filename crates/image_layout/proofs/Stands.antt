-- A number or a list that stands at an offset of the bytes is read there, and what is read there stands there.
use Rattle.std.proofs.Common.{◌≡◌, ℕ, zero, suc, ◌+◌, ◌^◌, ◌<◌, ◌≤◌, Bool, true, false, List, [], ◌∷◌, ◌++◌, length, get_or, take}
use Rattle.std.proofs.Common.{drop, Option, Some, None, ℤ, nat_le, refl, sym, ap, ◌∙◌, append_assoc, arith, inl, inr}
use Rattle.std.specs.Prelude.{⊤}
use Rattle.std.specs.List.{flat_map}
use Rattle.std.specs.Int.{w32, w64, from_le_bytes, cast_signed, cast_unsigned}
use Rattle.std.proofs.lemmas.Bool.{cases_lt, leb-true, le-leb}
use Rattle.std.proofs.lemmas.List.{take_at, drop_at, drop-drop, take-append-drop, length-append, length-take, length-drop}
use Rattle.std.proofs.lemmas.List.{get_or-drop, get_or-take, get_or_past}
use Rattle.std.proofs.lemmas.Nat.{le_bytes_4, le_bytes_8, from_le_bytes-to_le_bytes_4, from_le_bytes-to_le_bytes_8}
use Rattle.std.proofs.Math.Facts.{Fits-of_z}
use Rattle.std.proofs.lemmas.Int.{to_z-of_z, of_z-to_z}
use Rattle.side_certs.specs.LinearForm.{is_small}
use Rattle.side_certs.proofs.laws.Terms.{small_fits}
use Rattle.image_layout.specs.Spelling.{number, wide, long}
use Rattle.image_layout.specs.Reading.{Field, first_wrong, word_at, wide_at, long_at, Entries, fields_of, values_of, end_of}
use Rattle.image_layout.proofs.Entries.{wrong-none}

abbrev pub IsBytes : List ℕ → Type 0
IsBytes bytes = (i : ℕ) → get_or bytes i 0 < 256

IsBytes-drop : (n : ℕ) (bytes : List ℕ) → IsBytes bytes → IsBytes (drop n bytes)
IsBytes-drop n bytes h i = rw get_or-drop (h (n + i))

IsBytes-take : (n : ℕ) (bytes : List ℕ) → IsBytes bytes → IsBytes (take n bytes)
IsBytes-take n bytes h i =
    elim (cases_lt i n) [
      | inl lt ↦ rw (get_or-take n bytes i 0 lt) (h i)
      | inr le ↦ rw (get_or_past (take n bytes) i 0 (omega (arith, length-take n bytes))) (omega arith)
    ]

-- What stands at an offset is whole, and what follows stands behind it.

-- so many bytes, and the rest
parts : (bytes part rest : List ℕ) (at size : ℕ) → length part ≡ size → 1 ≤ size → drop at bytes ≡ part ++ rest
    → (at + size ≤ length bytes) × (take size (drop at bytes) ≡ part) × (drop (at + size) bytes ≡ rest)
parts bytes part rest at size size_is some stands =
    let long : length (drop at bytes) ≡ size + length rest = ap length stands ∙ length-append part rest
    ∙ ap (λ (n : ℕ). n + length rest) size_is in
    let behind : drop (at + size) bytes ≡ drop size (drop at bytes) = sym (drop-drop size at bytes) in (
      omega (arith, long, length-drop at bytes),
      rw stands (take_at part rest size size_is),
      behind ∙ ap (drop size) stands
          ∙ drop_at part rest size size_is,
    )

pub word_again : (bytes rest : List ℕ) (at n : ℕ) → n < 2 ^ 32 → drop at bytes ≡ number n ++ rest
    → (word_at bytes at ≡ n) × (nat_le (at + 4) (length bytes) ≡ true) × (drop (at + 4) bytes ≡ rest)
word_again bytes rest at n lt stands =
    let p = parts bytes (number n) rest at 4 refl (omega arith) stands in
    (ap (from_le_bytes w32) p.1 ∙ from_le_bytes-to_le_bytes_4 n lt, le-leb _ _ p.0, p.2)

pub wide_again : (bytes rest : List ℕ) (at n : ℕ) → n < 2 ^ 64 → drop at bytes ≡ wide n ++ rest
    → (wide_at bytes at ≡ n) × (nat_le (at + 8) (length bytes) ≡ true) × (drop (at + 8) bytes ≡ rest)
wide_again bytes rest at n lt stands =
    let p = parts bytes (wide n) rest at 8 refl (omega arith) stands in
    (ap (from_le_bytes w64) p.1 ∙ from_le_bytes-to_le_bytes_8 n lt, le-leb _ _ p.0, p.2)

pub long_again : (bytes rest : List ℕ) (at : ℕ) (z : ℤ) → is_small z ≡ true → drop at bytes ≡ long z ++ rest
    → (long_at bytes at ≡ z) × (nat_le (at + 8) (length bytes) ≡ true) × (drop (at + 8) bytes ≡ rest)
long_again bytes rest at z small stands =
    let p = wide_again bytes rest at (cast_unsigned w64 z) (omega (arith, Fits-of_z {w = w64} {z = z} (small_fits z small)))
    stands in
    (ap (cast_signed w64) p.0 ∙ to_z-of_z w64 z (small_fits z small), p.1, p.2)

-- What is whole stands there.

pub word_stands : (bytes : List ℕ) (at : ℕ) → IsBytes bytes → nat_le (at + 4) (length bytes) ≡ true
    → (drop at bytes ≡ number (word_at bytes at) ++ drop (at + 4) bytes) × (word_at bytes at < 2 ^ 32)
word_stands bytes at are whole =
    let inside : at + 4 ≤ length bytes = leb-true _ _ whole in
    let front = take 4 (drop at bytes) in
    let front_are : IsBytes front = IsBytes-take 4 (drop at bytes) (IsBytes-drop at bytes are) in
    let size : length front ≡ 4 = omega (arith, length-take 4 (drop at bytes), length-drop at bytes) in
    let spelled : number (word_at bytes at) ≡ front = le_bytes_4 front _ size front_are refl in
    let rest : drop 4 (drop at bytes) ≡ drop (at + 4) bytes = drop-drop 4 at bytes in (
      sym (take-append-drop 4 (drop at bytes)) ∙ ap (λ (x : List ℕ). front ++ x) rest
          ∙ ap (λ (x : List ℕ). x ++ drop (at + 4) bytes) (sym spelled),
      omega
          (arith, front_are 0, front_are 1, front_are 2, front_are 3),
    )

pub wide_stands : (bytes : List ℕ) (at : ℕ) → IsBytes bytes → nat_le (at + 8) (length bytes) ≡ true
    → (drop at bytes ≡ wide (wide_at bytes at) ++ drop (at + 8) bytes) × (wide_at bytes at < 2 ^ 64)
wide_stands bytes at are whole =
    let inside : at + 8 ≤ length bytes = leb-true _ _ whole in
    let front = take 8 (drop at bytes) in
    let front_are : IsBytes front = IsBytes-take 8 (drop at bytes) (IsBytes-drop at bytes are) in
    let size : length front ≡ 8 = omega (arith, length-take 8 (drop at bytes), length-drop at bytes) in
    let spelled : wide (wide_at bytes at) ≡ front = le_bytes_8 front _ size front_are refl in
    let rest : drop 8 (drop at bytes) ≡ drop (at + 8) bytes = drop-drop 8 at bytes in (
      sym (take-append-drop 8 (drop at bytes)) ∙ ap (λ (x : List ℕ). front ++ x) rest
          ∙ ap (λ (x : List ℕ). x ++ drop (at + 8) bytes) (sym spelled),
      omega (arith, front_are 0, front_are 1, front_are 2, front_are 3, front_are 4, front_are 5, front_are 6, front_are 7),
    )

pub long_stands : (bytes : List ℕ) (at : ℕ) → IsBytes bytes → nat_le (at + 8) (length bytes) ≡ true
    → drop at bytes ≡ long (long_at bytes at) ++ drop (at + 8) bytes
long_stands bytes at are whole =
    let p = wide_stands bytes at are whole in
    let same : cast_unsigned w64 (cast_signed w64 (wide_at bytes at)) ≡ wide_at bytes at = of_z-to_z w64 (wide_at bytes at) p.1 in
    p.0 ∙ ap (λ (n : ℕ). wide n ++ drop (at + 8) bytes) (sym same)

-- Fields.

pub field_parts : (f : Field) (fs : List Field) → first_wrong (f ∷ fs) ≡ None → (f.right ≡ true) × (first_wrong fs ≡ None)
field_parts f fs h = by_test f.right refl
  where
    by_test : (right : Bool) → f.right ≡ right → (f.right ≡ true) × (first_wrong fs ≡ None)
    by_test true e = (e, rw e at h)
    by_test false e = absurd (let bad : ◌≡◌ {A = Option ℕ} (Some f.at) None = rw e at h in cc)

pub fields_parts : (xs ys : List Field) → first_wrong (xs ++ ys) ≡ None → (first_wrong xs ≡ None) × (first_wrong ys ≡ None)
fields_parts [] ys h = (refl, h)
fields_parts (x ∷ xs) ys h =
    let p = field_parts x (xs ++ ys) h in
    let q = fields_parts xs ys p.1 in
    (rw p.0 q.0, q.1)

pub field_made : (f : Field) (fs : List Field) → f.right ≡ true → first_wrong fs ≡ None → first_wrong (f ∷ fs) ≡ None
field_made f fs right rest = rw right rest

-- Lists.

abbrev pub AllFit : {A : Type 0} → (List A → A → Type 0) → List A → List A → Type 0
AllFit Fits before [] = ⊤
AllFit Fits before (x ∷ xs) = Fits before x × AllFit Fits (before ++ x ∷ []) xs

-- an entry whose fields are right stands there
abbrev pub IsFound : {A : Type 0} → List ℕ → Entries A → (A → List ℕ) → (List A → A → Type 0) → Type 0
IsFound {A = A} bytes e spell Fits = (before : List A) (at : ℕ) → first_wrong (e.fields before at) ≡ None
    → (drop at bytes ≡ spell (e.value at) ++ drop (at + e.size (e.value at)) bytes) × Fits before (e.value at)

-- the fields of an entry that stands there are right
abbrev pub IsAgain : {A : Type 0} → List ℕ → Entries A → (A → List ℕ) → (List A → A → Type 0) → Type 0
IsAgain {A = A} bytes e spell Fits =
    (before : List A) (at : ℕ) (x : A) (rest : List ℕ) → Fits before x → drop at bytes ≡ spell x ++ rest
    → (first_wrong (e.fields before at) ≡ None) × (e.value at ≡ x) × (drop (at + e.size x) bytes ≡ rest)

pub list_found : {A : Type 0} (bytes : List ℕ) (e : Entries A) (spell : A → List ℕ) (Fits : List A → A → Type 0)
    → IsFound bytes e spell Fits → (before : List A) (n at : ℕ)
    → first_wrong (fields_of e before n at) ≡ None
    → (drop at bytes ≡ flat_map spell (values_of e n at) ++ drop (end_of e n at) bytes) × AllFit Fits before (values_of e n at)
    × (length (values_of e n at) ≡ n)
list_found bytes e spell Fits step before zero at right = (refl, tt, refl)
list_found bytes e spell Fits step before (suc n) at right =
    let x = e.value at in
    let next = at + e.size x in
    let p = fields_parts (e.fields before at) (fields_of e (before ++ x ∷ []) n next) right in
    let first = step before at p.0 in
    let rest = list_found bytes e spell Fits step (before ++ x ∷ []) n next p.1 in (
      first.0 ∙ ap (λ (w : List ℕ). spell x ++ w) rest.0
          ∙ sym (append_assoc (spell x) (flat_map spell (values_of e n next)) (drop (end_of e n next) bytes)),
      (first.1, rest.1),
      ap
          suc rest.2,
    )

pub list_again : {A : Type 0} (bytes : List ℕ) (e : Entries A) (spell : A → List ℕ) (Fits : List A → A → Type 0)
    → IsAgain bytes e spell Fits → (before xs : List A) (at : ℕ) (rest : List ℕ)
    → AllFit Fits before xs → drop at bytes ≡ flat_map spell xs ++ rest
    → (first_wrong (fields_of e before (length xs) at) ≡ None) × (values_of e (length xs) at ≡ xs)
    × (drop (end_of e (length xs) at) bytes ≡ rest)
list_again bytes e spell Fits step before [] at rest fit stands = (refl, refl, stands)
list_again {A = A} bytes e spell Fits step before (x ∷ xs) at rest fit stands =
    let first = step before at x (flat_map spell xs ++ rest) fit.0 (stands ∙ append_assoc (spell x) (flat_map spell xs) rest) in
    let others = list_again bytes e spell Fits step (before ++ x ∷ []) xs (at + e.size x) rest fit.1 first.2 in
    let value = first.1 in
    let right : first_wrong (e.fields before at ++ fields_of e (before ++ e.value at ∷ []) (length xs) (at + e.size (e.value at)))
    ≡ None =
    rw value (wrong-none (e.fields before at) (fields_of e (before ++ x ∷ []) (length xs) (at + e.size x)) first.0 ∙ others.0) in
    let values : e.value at ∷ values_of e (length xs) (at + e.size (e.value at))
    ≡ x ∷ xs = rw value (ap (λ (ys : List A). x ∷ ys) others.1) in
    let behind : drop (end_of e (length xs) (at + e.size (e.value at))) bytes ≡ rest = rw value others.2 in
    (right, values, behind)
