-- Numbers of several bytes that lie in one part.
use Rattle.std.proofs.Common.{◌≡◌, ℕ, zero, suc, ◌+◌, ◌-◌, ◌/◌, ◌%◌, ◌<◌, ◌≤◌, true, List, length, get_or, set, length-set, refl}
use Rattle.std.proofs.Common.{sym, ap, ◌∙◌, arith}
use Rattle.std.proofs.lemmas.Grind.{common_steps}
use Rattle.std.proofs.lemmas.List.{get_or-set_same, get_or-set_other, set-set, set-get_or}
use Rattle.std.specs.List.{slice_get}
use Rattle.std.specs.FinMap.{get, insert}
use Rattle.rv_memory.specs.Bytes.{bytes_of}
use Rattle.rv_memory.specs.Numbers.{joined, number_at, with_number, number_in, with_number_in}
use Rattle.rv_memory.proofs.Lookup.{Part, no_part, in_part, put_byte, FoundAt, read_found, write_found, Alone}

-- the part stands at an index, and no part before it has an address of it
pub record Held (ps : List Part) (i : ℕ) (p : Part) : Type 0 where
  pub inside : i < length ps
  pub is : get_or ps i no_part ≡ p
  pub alone : Alone ps i p

has_place : (p : Part) (k : ℕ) → k < length p.1 → in_part (p.0 + k) p ≡ true
has_place p k below = grind (arith, common_steps)

found_there : (ps : List Part) (i : ℕ) (p : Part) (k : ℕ) → Held ps i p → k < length p.1 → FoundAt (p.0 + k) ps i
found_there ps i p k held below =
    record {
      inside = held.inside;
      here = ap (in_part (p.0 + k)) held.is ∙ has_place p k below;
      before = λ j less. held.alone j (p.0 + k) less (has_place p k below);
    }

byte_there : (ps : List Part) (i : ℕ) (p : Part) (k : ℕ) → Held ps i p → k < length p.1
    → get (bytes_of ps) (p.0 + k) ≡ slice_get p.1 k
byte_there ps i p k held below =
    let place : p.0 + k - p.0 ≡ k = omega arith in
    read_found (p.0 + k) ps i (found_there ps i p k held below)
    ∙ ap (λ r. slice_get r.1 (p.0 + k - r.0)) held.is
    ∙ ap (slice_get p.1) place

pub number_at_part : (size : ℕ) (ps : List Part) (i : ℕ) (p : Part) (k : ℕ) → Held ps i p → k + size ≤ length p.1
    → number_at (bytes_of ps) size (p.0 + k) ≡ number_in p.1 size k
unfolding number_at number_in
number_at_part zero ps i p k held room = refl
number_at_part (suc size) ps i p k held room =
    let next : p.0 + k + 1 ≡ p.0 + (k + 1) = omega arith in
    ap (λ x. joined x (number_at (bytes_of ps) size (p.0 + k + 1))) (byte_there ps i p k held (omega arith))
    ∙ ap (λ a. joined (slice_get p.1 k) (number_at (bytes_of ps) size a)) next
    ∙ ap (joined (slice_get p.1 k)) (number_at_part size ps i p (k + 1) held (omega arith))

same_places : (p : Part) (k b a : ℕ) → in_part a (p.0, set p.1 k b) ≡ in_part a p
same_places p k b a = rw (length-set p.1 k b) refl

held_set : (ps : List Part) (i : ℕ) (p : Part) (k b : ℕ) → Held ps i p → Held (set ps i (p.0, set p.1 k b)) i (p.0, set p.1 k b)
held_set ps i p k b held =
    record {
      inside = omega (arith, length-set ps i (p.0, set p.1 k b), held.inside);
      is = get_or-set_same ps i (p.0, set p.1 k b) no_part held.inside;
      alone = λ j a less here.
          ap (in_part a) (get_or-set_other ps i j (p.0, set p.1 k b) no_part (λ e. omega arith))
          ∙ held.alone j a less (sym (same_places p k b a) ∙ here);
    }

byte_put : (ps : List Part) (i : ℕ) (p : Part) (k b : ℕ) → Held ps i p → k < length p.1 → bytes_of (set ps i (p.0, set p.1 k b))
    ≡ insert (bytes_of ps) (p.0 + k) b
byte_put ps i p k b held below =
    let place : p.0 + k - p.0 ≡ k = omega arith in
    ap (λ j. bytes_of (set ps i (p.0, set p.1 j b))) (sym place)
    ∙ ap (λ r. bytes_of (set ps i (put_byte r (p.0 + k) b))) (sym held.is)
    ∙ write_found (p.0 + k) b ps i (found_there ps i p k held below)

pub with_number_part : (size : ℕ) (ps : List Part) (i : ℕ) (p : Part) (k v : ℕ) → Held ps i p → k + size ≤ length p.1
    → bytes_of (set ps i (p.0, with_number_in p.1 size k v)) ≡ with_number (bytes_of ps) size (p.0 + k) v
unfolding with_number with_number_in
with_number_part zero ps i p k v held room = ap bytes_of (ap (set ps i) (sym held.is) ∙ set-get_or ps i no_part)
with_number_part (suc size) ps i p k v held room =
    let b = v % 256 in
    let ps1 : List Part = set ps i (p.0, set p.1 k b) in
    let next : p.0 + (k + 1) ≡ p.0 + k + 1 = omega arith in
    ap bytes_of (sym (set-set ps i (p.0, set p.1 k b) (p.0, with_number_in (set p.1 k b) size (k + 1) (v / 256))))
    ∙ with_number_part size ps1 i (p.0, set p.1 k b) (k + 1) (v / 256) (held_set ps i p k b held)
    (omega (arith, length-set p.1 k b))
    ∙ ap (λ m. with_number m size (p.0 + (k + 1)) (v / 256)) (byte_put ps i p k b held (omega arith))
    ∙ ap (λ a. with_number (insert (bytes_of ps) (p.0 + k) b) size a (v / 256)) next

pub length-with_number_in : (size : ℕ) (bytes : List ℕ) (k v : ℕ) → length (with_number_in bytes size k v) ≡ length bytes
unfolding with_number_in
length-with_number_in zero bytes k v = refl
length-with_number_in (suc size) bytes k v =
    length-with_number_in size (set bytes k (v % 256)) (k + 1) (v / 256) ∙ length-set bytes k (v % 256)
