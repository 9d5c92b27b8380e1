-- The part of a memory that lies in given ranges.
use Rattle.std.proofs.Common.{◌≡◌, refl, sym, ◌∙◌, ap, arith, ℕ, zero, suc, ◌+◌, ◌⊎◌, inl, inr, List, [], ◌∷◌, Option, Some, None}
use Rattle.std.proofs.lemmas.Bool.{cases_eq}
use Rattle.std.specs.FinMap.{get, insert, empty, get-empty}
use Rattle.std.specs.Ordering.{nat_cmp}
use Rattle.rv_memory.specs.Ranges.{Bytes, Range}
use Rattle.rv_memory.proofs.laws.Numbers.{get-insert_same, get-insert_other}
use Rattle.rv_emit.specs.Ready.{InOne, IsPart}

-- a memory with a byte at an address, if there is one
abbrev with_byte : Bytes → ℕ → Option ℕ → Bytes
with_byte mem address None = mem
with_byte mem address (Some b) = insert mem address b

-- with the bytes that another has at so many addresses
abbrev with_bytes : Bytes → Bytes → ℕ → ℕ → Bytes
with_bytes mem whole start zero = mem
with_bytes mem whole start (suc n) = with_byte (with_bytes mem whole start n) (start + n) (get whole (start + n))

abbrev pub part_of : Bytes → List Range → Bytes
part_of whole [] = empty
part_of whole (r ∷ rs) = with_bytes (part_of whole rs) whole r.start r.size

-- One byte.

byte_found : (mem whole : Bytes) (at address b : ℕ) (found : Option ℕ) → get whole at ≡ found
    → get (with_byte mem at found) address ≡ Some b
    → (get mem address ≡ Some b) ⊎ ((address ≡ at) × (get whole address ≡ Some b))
byte_found mem whole at address b None is has = inl has
byte_found mem whole at address b (Some c) is has = by_place (cases_eq address at)
  where
    by_place : (address ≡ at) ⊎ (address ≡ at → ⊥) → (get mem address ≡ Some b) ⊎ ((address ≡ at) × (get whole address ≡ Some b))
    by_place (inl same) =
        inr (
          same,
          ap (λ (a : ℕ). get whole a) same ∙ is ∙ sym (get-insert_same mem at c)
              ∙ ap (λ (a : ℕ). get (insert mem at c) a) (sym same) ∙ has,
        )
    by_place (inr other) = inl (sym (get-insert_other mem at c address other) ∙ has)

byte_put : (mem whole : Bytes) (at b : ℕ) (found : Option ℕ) → get whole at ≡ found → get whole at ≡ Some b
    → get (with_byte mem at found) at ≡ Some b
byte_put mem whole at b None is has = absurd (cc)
byte_put mem whole at b (Some c) is has = get-insert_same mem at c ∙ sym is ∙ has

byte_kept : (mem whole : Bytes) (at address b : ℕ) (found : Option ℕ) → (address ≡ at → ⊥) → get mem address ≡ Some b
    → get (with_byte mem at found) address ≡ Some b
byte_kept mem whole at address b None other has = has
byte_kept mem whole at address b (Some c) other has = get-insert_other mem at c address other ∙ has

-- The bytes of one more range.

abbrev range : ℕ → ℕ → Range
range start n = record { start = start; size = n }

none_within : (rs : List Range) (start address : ℕ) → InOne (range start 0 ∷ rs) address → InOne rs address
none_within rs start address (inl inside) = absurd (omega (arith, inside.0, inside.1))
none_within rs start address (inr there) = there

longer : (rs : List Range) (start n address : ℕ) → InOne (range start n ∷ rs) address → InOne (range start (suc n) ∷ rs) address
longer rs start n address (inl inside) = inl (inside.0, omega (arith, inside.1))
longer rs start n address (inr there) = inr there

shorter : (rs : List Range) (start n address : ℕ) → (address ≡ start + n → ⊥) → InOne (range start (suc n) ∷ rs) address
    → InOne (range start n ∷ rs) address
shorter rs start n address other (inl inside) = inl (inside.0, omega (arith, inside.0, inside.1, other))
shorter rs start n address other (inr there) = inr there

joined_part : (rs : List Range) (base whole : Bytes) (start n : ℕ) → IsPart rs base whole
    → IsPart (range start n ∷ rs) (with_bytes base whole start n) whole
joined_part rs base whole start zero is address b =
    let old = is address b in
    (λ has. let there = old.0 has in (inr there.0, there.1), λ there. old.1 (none_within rs start address there.0, there.1))
joined_part rs base whole start (suc n) is address b = (
  λ has. found (joined_part rs base whole start n is address b).0
      (byte_found (with_bytes base whole start n) whole (start + n) address b (get whole (start + n)) refl has),
  λ there. put (joined_part rs base whole start n is address b).1 (cases_eq address (start + n)) there.0 there.1,
)
  where
    found : (get (with_bytes base whole start n) address ≡ Some b
        → InOne (range start n ∷ rs) address × (get whole address ≡ Some b))
        → (get (with_bytes base whole start n) address ≡ Some b) ⊎ ((address ≡ start + n) × (get whole address ≡ Some b))
        → InOne (range start (suc n) ∷ rs) address × (get whole address ≡ Some b)
    found earlier (inl has) = let there = earlier has in (longer rs start n address there.0, there.1)
    found earlier (inr here) = (inl (omega (arith, here.0), omega (arith, here.0)), here.1)

    put : (InOne (range start n ∷ rs) address × (get whole address ≡ Some b) → get (with_bytes base whole start n) address
        ≡ Some b)
        → (address ≡ start + n) ⊎ (address ≡ start + n → ⊥) → InOne (range start (suc n) ∷ rs) address
        → get whole address ≡ Some b
        → get (with_bytes base whole start (suc n)) address ≡ Some b
    put earlier (inl same) there has =
        ap (λ (a : ℕ). get (with_bytes base whole start (suc n)) a) same
        ∙ byte_put (with_bytes base whole start n) whole (start + n) b (get whole (start + n)) refl
        (ap (λ (a : ℕ). get whole a) (sym same) ∙ has)
    put earlier (inr other) there has =
        byte_kept (with_bytes base whole start n) whole (start + n) address b (get whole (start + n)) other
        (earlier (shorter rs start n address other there, has))

abbrev nothing : Bytes
nothing = empty

nothing_there : (address b : ℕ) → get nothing address ≡ Some b → ⊥
nothing_there address b found = let none = get-empty {K = ℕ} {X = ℕ} nat_cmp address in absurd (cc)

-- the part that lies in the ranges is that
pub is_part : (whole : Bytes) (rs : List Range) → IsPart rs (part_of whole rs) whole
is_part whole [] address b = (λ found. absurd (nothing_there address b found), λ there. absurd there.0)
is_part whole (r ∷ rs) address b = joined_part rs (part_of whole rs) whole r.start r.size (is_part whole rs) address b
