-- An element that is stored at its address.
use Rattle.std.proofs.Common.{◌≡◌, ◌≢◌, refl, sym, ◌∙◌, ap, arith, ℕ, zero, suc, ◌+◌, ◌*◌, ◌/◌, ◌%◌, ◌^◌, ◌<◌, ◌≤◌, inl, inr, []}
use Rattle.std.proofs.Common.{◌∷◌, Some, slice_get, mod-eq_of_lt}
use Rattle.std.specs.FinMap.{get, insert}
use Rattle.std.specs.Int.{w32, to_le_bytes}
use Rattle.rv_memory.specs.Ranges.{Bytes, Stands, Within}
use Rattle.rv_memory.proofs.laws.Numbers.{get-insert_same, get-insert_other}
use Rattle.sym_heap.specs.Elements.{element_bytes, element_top}
use Rattle.bed_syntax.specs.declared.operation.Size.TheVariants as size
use Rattle.bed_meaning.specs.Access.{stored, store}
use Rattle.expr_rules.specs.Elements.{size_of}
use Rattle.expr_rules.proofs.laws.Addresses.{IsSize}

-- Places.

-- an element of an array stands at a multiple of its size, and the array does not pass 2^32
pub record Placed (start bytes i : ℕ) : Type 0 where
  pub small : start + bytes * i < 2 ^ 32
  pub aligned : (start + bytes * i) % bytes ≡ 0

pub placed : (start bytes i n whole : ℕ) → IsSize bytes → start % bytes ≡ 0 → whole ≡ bytes * n → start + whole ≤ 2 ^ 32 → i < n
    → Placed start bytes i
placed start bytes i n whole (inl one) aligned size ends less =
    let size_one : whole ≡ 1 * n = rw one at size in
    rw one (record { small = omega (arith, size_one, ends, less); aligned = omega arith })
placed start bytes i n whole (inr four) aligned size ends less =
    let size_four : whole ≡ 4 * n = rw four at size in
    let start_aligned : start % 4 ≡ 0 = rw four at aligned in
    rw four (record { small = omega (arith, size_four, ends, less); aligned = omega (arith, start_aligned) })

-- Stores.

-- memory after a store of an element
pub record IsStored (bytes at n : ℕ) (mem after : Bytes) : Type 0 where
  pub store : store (size_of bytes) mem at n ≡ Some after
  pub stands : Stands after at (element_bytes bytes n)
  pub others : (address : ℕ) → (Within (record { start = at; size = bytes }) address → ⊥) → get after address ≡ get mem address

-- no byte of one element is at this address
apart : (at bytes j address : ℕ) → (Within (record { start = at; size = bytes }) address → ⊥) → j < bytes → address ≢ at + j
apart at bytes j address out less is = out (omega (arith, is), omega (arith, is, less))

one_stored : (at m n : ℕ) (mem : Bytes) → n ≤ 255 → Stands mem at (m ∷ []) → IsStored 1 at n mem (stored size.One mem at n)
one_stored at m n mem small old =
    let place : at + 0 ≡ at = omega arith in
    let there : get mem at ≡ Some m = rw place at (old 0 m refl) in
    let multiple : at % 1 ≡ 0 = omega arith in
    let byte : n % 256 ≡ n = mod-eq_of_lt (omega (arith, small)) in
    record {
      store = rw (multiple, there) refl;
      stands = λ k v is. new k v is;
      others = λ a out. get-insert_other mem at (n % 256) a
          (let far : a ≢ at + 0 = apart at 1 0 a out (omega arith) in λ e. far (e ∙ sym place));
    }
  where
    new : (k v : ℕ) → slice_get (n ∷ []) k ≡ Some v → get (stored size.One mem at n) (at + k) ≡ Some v
    new zero v is =
        let place : at + 0 ≡ at = omega arith in
        let byte : n % 256 ≡ n = mod-eq_of_lt (omega (arith, small)) in
        rw place (get-insert_same mem at (n % 256) ∙ ap Some byte ∙ is)
    new (suc k) v is = absurd (cc)

module _ (mem : Bytes) (at n : ℕ) where
  abbrev first : Bytes
  first = insert mem at (n % 256)

  abbrev second : Bytes
  second = insert first (at + 1) (n / 256 % 256)

  abbrev third : Bytes
  third = insert second (at + 2) (n / 65536 % 256)

  abbrev fourth : Bytes
  fourth = insert third (at + 3) (n / 16777216)

  four_new : n ≤ 4294967295 → (k v : ℕ) → slice_get (to_le_bytes w32 n) k ≡ Some v → get fourth (at + k) ≡ Some v
  four_new small zero v is =
      let place : at + 0 ≡ at = omega arith in
      rw place (get-insert_other third (at + 3) (n / 16777216) at (λ e. absurd (omega (arith, e)))
      ∙ get-insert_other second (at + 2) (n / 65536 % 256) at (λ e. absurd (omega (arith, e)))
      ∙ get-insert_other first (at + 1) (n / 256 % 256) at (λ e. absurd (omega (arith, e))) ∙ get-insert_same mem at (n % 256)
      ∙ is)
  four_new small (suc zero) v is =
      get-insert_other third (at + 3) (n / 16777216) (at + 1) (λ e. absurd (omega (arith, e)))
      ∙ get-insert_other second (at + 2) (n / 65536 % 256) (at + 1) (λ e. absurd (omega (arith, e)))
      ∙ get-insert_same first (at + 1) (n / 256 % 256) ∙ is
  four_new small (suc (suc zero)) v is = get-insert_other third (at + 3) (n / 16777216) (at + 2) (λ e. absurd (omega (arith, e)))
      ∙ get-insert_same second (at + 2) (n / 65536 % 256) ∙ is
  four_new small (suc (suc (suc zero))) v is =
      let byte : n / 16777216 ≡ n / 16777216 % 256 = omega (arith, small) in
      get-insert_same third (at + 3) (n / 16777216) ∙ ap Some byte ∙ is
  four_new small (suc (suc (suc (suc k)))) v is = absurd (cc)

  four_others : (a : ℕ) → (Within (record { start = at; size = 4 }) a → ⊥) → get fourth a ≡ get mem a
  four_others a out =
      let place : at + 0 ≡ at = omega arith in
      let zeroth : a ≢ at + 0 = apart at 4 0 a out (omega arith) in
      get-insert_other third (at + 3) (n / 16777216) a (apart at 4 3 a out (omega arith))
      ∙ get-insert_other second (at + 2) (n / 65536 % 256) a (apart at 4 2 a out (omega arith))
      ∙ get-insert_other first (at + 1) (n / 256 % 256) a (apart at 4 1 a out (omega arith))
      ∙ get-insert_other mem at (n % 256) a (λ e. zeroth (e ∙ sym place))

four_stored : (at m n : ℕ) (mem : Bytes) → at % 4 ≡ 0 → n ≤ 4294967295 → Stands mem at (to_le_bytes w32 m)
    → IsStored 4 at n mem (stored size.Four mem at n)
four_stored at m n mem aligned small old =
    let place : at + 0 ≡ at = omega arith in
    let one : get mem at ≡ Some (m % 256) = rw place at (old 0 (m % 256) refl) in
    record {
      store = rw (aligned, one, old 1 (m / 256 % 256) refl, old 2 (m / 65536 % 256) refl, old 3 (m / 16777216 % 256) refl) refl;
      stands = λ k v is. four_new mem at n small k v is;
      others = λ a out. four_others mem at n a out;
    }

-- an element is stored where one stands
pub element_stored : (bytes at m n : ℕ) (mem : Bytes) → IsSize bytes → at % bytes ≡ 0 → n ≤ element_top bytes
    → Stands mem at (element_bytes bytes m)
    → (after : Bytes) × IsStored bytes at n mem after
element_stored bytes at m n mem (inl one) aligned small old =
    let here : Stands mem at (m ∷ []) = rw one at old in
    let most : n ≤ 255 = rw one at small in
    (stored size.One mem at n, rw one (one_stored at m n mem most here))
element_stored bytes at m n mem (inr four) aligned small old =
    let here : Stands mem at (to_le_bytes w32 m) = rw four at old in
    let most : n ≤ 4294967295 = rw four at small in
    let multiple : at % 4 ≡ 0 = rw four at aligned in
    (stored size.Four mem at n, rw four (four_stored at m n mem multiple most here))
