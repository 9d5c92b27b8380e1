-- Stores into two memories of which one holds the bytes of the other.
use Rattle.std.proofs.Common.{◌≡◌, ℕ, zero, suc, ◌+◌, ◌*◌, ◌/◌, ◌%◌, ◌^◌, ◌<◌, ◌≤◌, ◌⊎◌, inl, inr, Option, Some, None, IsSome}
use Rattle.std.proofs.Common.{is_some, nat_eq, if◌then◌else◌, Bool, true, false, refl, sym, ap, ◌∙◌, subst, arith}
use Rattle.std.proofs.lemmas.Bool.{cases_eq, eqb-true}
use Rattle.std.specs.FinMap.{get, insert}
use Rattle.bed_syntax.specs.declared.operation.Size.{Size}
use Rattle.bed_syntax.specs.declared.operation.Size.TheVariants as size
use Rattle.bed_meaning.specs.Access.{width, low_high, word, loaded, stored, store, where_some}
use Rattle.rv_machine.specs.State.{number_at, with_number}
use Rattle.rv_memory.specs.Ranges.{Bytes}
use Rattle.rv_memory.proofs.laws.Numbers.{get-insert_same, get-insert_other, number_at_four}

-- the second memory has what the first has
abbrev pub Seen : Bytes → Bytes → Type 0
Seen flat real = (a b : ℕ) → get flat a ≡ Some b → get real a ≡ Some b

seen-insert : (flat real : Bytes) (a v : ℕ) → Seen flat real → Seen (insert flat a v) (insert real a v)
seen-insert flat real a v seen q b found = by_place (cases_eq q a)
  where
    by_place : (q ≡ a) ⊎ (q ≡ a → ⊥) → get (insert real a v) q ≡ Some b
    by_place (inl same) =
        let first : get (insert flat a v) q
        ≡ Some v = subst (λ x. get (insert flat a v) x ≡ Some v) (sym same) (get-insert_same flat a v) in
        let second : get (insert real a v) q
        ≡ Some v = subst (λ x. get (insert real a v) x ≡ Some v) (sym same) (get-insert_same real a v) in
        second ∙ sym first ∙ found
    by_place (inr other) =
        get-insert_other real a v q other ∙ seen q b (sym (get-insert_other flat a v q other) ∙ found)

pub seen-with_number : (size : ℕ) (flat real : Bytes) (a v : ℕ) → Seen flat real
    → Seen (with_number flat size a v) (with_number real size a v)
unfolding with_number
seen-with_number zero flat real a v seen = seen
seen-with_number (suc size) flat real a v seen =
    seen-with_number size (insert flat a (v % 256)) (insert real a (v % 256)) (a + 1) (v / 256)
    (seen-insert flat real a (v % 256) seen)

abbrev pub AreBytes : Bytes → Type 0
AreBytes mem = (a b : ℕ) → get mem a ≡ Some b → b < 256

bytes-insert : (mem : Bytes) (a v : ℕ) → v < 256 → AreBytes mem → AreBytes (insert mem a v)
bytes-insert mem a v small are q b found = by_place (cases_eq q a)
  where
    by_place : (q ≡ a) ⊎ (q ≡ a → ⊥) → b < 256
    by_place (inl same) =
        let first : get (insert mem a v) q
        ≡ Some v = subst (λ x. get (insert mem a v) x ≡ Some v) (sym same) (get-insert_same mem a v) in
        let is : v ≡ b = cc in
        omega arith
    by_place (inr other) = are q b (sym (get-insert_other mem a v q other) ∙ found)

pub bytes-with_number : (size : ℕ) (mem : Bytes) (a v : ℕ) → AreBytes mem → AreBytes (with_number mem size a v)
unfolding with_number
bytes-with_number zero mem a v are = are
bytes-with_number (suc size) mem a v are =
    bytes-with_number size (insert mem a (v % 256)) (a + 1) (v / 256) (bytes-insert mem a (v % 256) (omega arith) are)

-- a store of the meaning is one of the machine
pub stored_number : (size : Size) (mem : Bytes) (a v : ℕ) → v < 2 ^ 32 → stored size mem a v ≡ with_number mem (width size) a v
unfolding with_number
stored_number size.One mem a v small = refl
stored_number size.Two mem a v small = refl
stored_number size.Four mem a v small =
    let two : a + 1 + 1 ≡ a + 2 = omega arith in
    let three : a + 2 + 1 ≡ a + 3 = omega arith in
    let third : v / 256 / 256 % 256 ≡ v / 65536 % 256 = omega arith in
    let fourth : v / 256 / 256 / 256 % 256 ≡ v / 16777216 = omega arith in
    rw (two, three, third, fourth)

-- a word below a bound
pub record Number (mem : Bytes) (size a v : ℕ) : Type 0 where
  pub there : number_at mem size a ≡ Some v
  pub mapped : (q : ℕ) → a ≤ q → q < a + size → IsSome (get mem q)
  pub small : AreBytes mem → v < 2 ^ 32

is_some_by : (mem : Bytes) (a b q : ℕ) → get mem a ≡ Some b → a ≡ q → IsSome (get mem q)
is_some_by mem a b q found same = subst (λ x. IsSome (get mem x)) same (ap is_some found)

one_number : (mem : Bytes) (a v : ℕ) → get mem a ≡ Some v → Number mem 1 a v
unfolding number_at
one_number mem a v first =
    let sum : v + 256 * 0 ≡ v = omega arith in
    record {
      there = rw (first, sum);
      mapped = λ q low high. is_some_by mem a v q first (omega arith);
      small = λ are. omega (arith, are a v first);
    }

two_number : (mem : Bytes) (a b c : ℕ) → get mem a ≡ Some b → get mem (a + 1) ≡ Some c → Number mem 2 a (b + 256 * c)
unfolding number_at
two_number mem a b c first second =
    let sum : c + 256 * 0 ≡ c = omega arith in
    record {
      there = rw (first, second, sum);
      mapped = mapped;
      small = λ are. omega (arith, are a b first, are (a + 1) c second);
    }
  where
    mapped : (q : ℕ) → a ≤ q → q < a + 2 → IsSome (get mem q)
    mapped q low high = by_place (cases_eq q a)
      where
        by_place : (q ≡ a) ⊎ (q ≡ a → ⊥) → IsSome (get mem q)
        by_place (inl same) = is_some_by mem a b q first (sym same)
        by_place (inr other) = is_some_by mem (a + 1) c q second (omega arith)

four_number : (mem : Bytes) (a b c d e : ℕ) → get mem a ≡ Some b → get mem (a + 1) ≡ Some c → get mem (a + 2) ≡ Some d
    → get mem (a + 3) ≡ Some e → Number mem 4 a (b + 256 * (c + 256 * (d + 256 * e)))
four_number mem a b c d e first second third fourth =
    record {
      there = number_at_four mem a b c d e first second third fourth;
      mapped = mapped;
      small = λ are. omega (arith, are a b first, are (a + 1) c second, are (a + 2) d third, are (a + 3) e fourth);
    }
  where
    mapped : (q : ℕ) → a ≤ q → q < a + 4 → IsSome (get mem q)
    mapped q low high = by_place (cases_eq q a) (cases_eq q (a + 1)) (cases_eq q (a + 2))
      where
        by_place : (q ≡ a) ⊎ (q ≡ a → ⊥) → (q ≡ a + 1) ⊎ (q ≡ a + 1 → ⊥) → (q ≡ a + 2) ⊎ (q ≡ a + 2 → ⊥) → IsSome (get mem q)
        by_place (inl same) y z = is_some_by mem a b q first (sym same)
        by_place (inr x) (inl same) z = is_some_by mem (a + 1) c q second (sym same)
        by_place (inr x) (inr y) (inl same) = is_some_by mem (a + 2) d q third (sym same)
        by_place (inr x) (inr y) (inr z) = is_some_by mem (a + 3) e q fourth (omega arith)

-- the bytes of a list or a memory stand in this memory from a place on
abbrev pub Placed : (ℕ → Option ℕ) → Bytes → ℕ → Type 0
Placed byte mem start = (a b : ℕ) → byte a ≡ Some b → get mem (start + a) ≡ Some b

module _ (byte : ℕ → Option ℕ) (mem : Bytes) (start at v : ℕ) (placed : Placed byte mem start) where
  next_place : (k b : ℕ) → byte (at + k) ≡ Some b → get mem (start + at + k) ≡ Some b
  next_place k b found =
      let same : start + (at + k) ≡ start + at + k = omega arith in
      subst (λ q. get mem q ≡ Some b) same (placed (at + k) b found)

  two_parts : (o p : Option ℕ) → byte at ≡ o → byte (at + 1) ≡ p → low_high o p ≡ Some v → Number mem 2 (start + at) v
  two_parts None p first second whole = absurd (cc)
  two_parts (Some b) None first second whole = absurd (cc)
  two_parts (Some b) (Some c) first second whole =
      let is : b + 256 * c ≡ v = cc in
      subst (λ n. Number mem 2 (start + at) n) is (two_number mem (start + at) b c (placed at b first) (next_place 1 c second))

  four_parts : (o p q r : Option ℕ) → byte at ≡ o → byte (at + 1) ≡ p → byte (at + 2) ≡ q → byte (at + 3) ≡ r
      → low_high o (low_high p (low_high q r)) ≡ Some v → Number mem 4 (start + at) v
  four_parts None p q r h1 h2 h3 h4 whole = absurd (cc)
  four_parts (Some b) None q r h1 h2 h3 h4 whole = absurd (cc)
  four_parts (Some b) (Some c) None r h1 h2 h3 h4 whole = absurd (cc)
  four_parts (Some b) (Some c) (Some d) None h1 h2 h3 h4 whole = absurd (cc)
  four_parts (Some b) (Some c) (Some d) (Some e) h1 h2 h3 h4 whole =
      let is : b + 256 * (c + 256 * (d + 256 * e)) ≡ v = cc in
      subst (λ n. Number mem 4 (start + at) n) is
      (four_number mem (start + at) b c d e (placed at b h1) (next_place 1 c h2) (next_place 2 d h3) (next_place 3 e h4))

  pub word_number : (size : Size) → word byte size at ≡ Some v → Number mem (width size) (start + at) v
  word_number size.One found = one_number mem (start + at) v (placed at v found)
  word_number size.Two found = two_parts (byte at) (byte (at + 1)) refl refl found
  word_number size.Four found = four_parts (byte at) (byte (at + 1)) (byte (at + 2)) (byte (at + 3)) refl refl refl refl found

-- what passes a test has passed it, and has an answer
pub record Tested (holds : Bool) (answer : Option ℕ) (v : ℕ) : Type 0 where
  pub passed : holds ≡ true
  pub is : answer ≡ Some v

pub tested : (holds : Bool) (answer : Option ℕ) (v : ℕ) → (if holds then answer else None) ≡ Some v → Tested holds answer v
tested true answer v found = record { passed = refl; is = found }
tested false answer v found = absurd (cc)

-- a load of the meaning, as the number that lies in a memory with these bytes
pub record Found (size : Size) (mem : Bytes) (start at v : ℕ) : Type 0 where
  pub aligned : at % width size ≡ 0
  pub number : Number mem (width size) (start + at) v

pub found_by : (byte : ℕ → Option ℕ) (size : Size) (mem : Bytes) (start at v : ℕ) → Placed byte mem start
    → (if nat_eq (at % width size) 0 then word byte size at else None) ≡ Some v → Found size mem start at v
found_by byte size mem start at v placed loads =
    let t = tested (nat_eq (at % width size) 0) (word byte size at) v loads in
    record { aligned = eqb-true (at % width size) 0 t.passed; number = word_number byte mem start at v placed size t.is }

-- the first memory's own load, seen in the second
pub load_found : (size : Size) (flat real : Bytes) (at v : ℕ) → Seen flat real → loaded size flat at ≡ Some v
    → Found size real 0 at v
load_found size flat real at v seen loads =
    found_by (λ a. get flat a) size real 0 at v
    (λ a b found. let same : a ≡ 0 + a = omega arith in subst (λ q. get real q ≡ Some b) same (seen a b found)) loads

-- what a store needs, and what it does
pub record Stored (size : Size) (mem after : Bytes) (at v : ℕ) : Type 0 where
  pub old : ℕ
  pub loads : loaded size mem at ≡ Some old
  pub is : after ≡ stored size mem at v

pub store_found : (size : Size) (mem after : Bytes) (at v : ℕ) → store size mem at v ≡ Some after → Stored size mem after at v
store_found size mem after at v found = by_load (loaded size mem at) refl found
  where
    by_load : (o : Option ℕ) → loaded size mem at ≡ o → where_some o (stored size mem at v) ≡ Some after
        → Stored size mem after at v
    by_load None is done = absurd (cc)
    by_load (Some old) is done = record { old = old; loads = is; is = cc }
