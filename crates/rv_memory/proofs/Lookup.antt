-- The map of a list of parts, each with its first address and its bytes, answers as the first part that holds the
-- address.
use Rattle.std.proofs.Common.{◌≡◌, ℕ, zero, suc, ◌+◌, ◌-◌, ◌<◌, Bool, true, false, cond, ◌&&◌, nat_le, nat_lt, nat_eq, List, []}
use Rattle.std.proofs.Common.{◌∷◌, ◌++◌, length, Option, Some, None, get_or, set, refl, sym, ap, ◌∙◌, arith}
use Rattle.std.proofs.lemmas.Grind.{common_steps}
use Rattle.std.proofs.lemmas.List.Elements.{All-get_or, All-set, All-weaker}
use Rattle.std.proofs.lemmas.Option.{slice_get-get_or}
use Rattle.std.specs.List.{slice_get}
use Rattle.std.specs.Ordering.{nat_cmp, eq_by_cmp}
use Rattle.std.specs.Cmp.{nat_cmp_total}
use Rattle.std.specs.FinMap.{find, get, insert, get-from_entries, get-insert, same_map, nat_cmp-IsAntisymmetric}
use Rattle.rv_memory.specs.Bytes.{numbered, entries, bytes_of, IsApart, AreDisjoint}

abbrev pub Part : Type 0
Part = ℕ × List ℕ

abbrev pub no_part : Part
no_part = (0, [])

-- a byte of the part has the address
abbrev pub in_part : ℕ → Part → Bool
in_part a p = nat_le p.0 a && nat_lt a (p.0 + length p.1)

-- the byte at an address, by the first part that holds it
abbrev pub byte_at : ℕ → List Part → Option ℕ
byte_at a [] = None
byte_at a (p ∷ ps) = cond (in_part a p) (slice_get p.1 (a - p.0)) (byte_at a ps)

same_key : (a b : ℕ) → eq_by_cmp nat_cmp a b ≡ nat_eq a b
same_key a b = grind (arith, common_steps)

-- the byte at an address in a run of bytes
abbrev in_run : ℕ → ℕ → List ℕ → Option ℕ
in_run a at bs = cond (nat_le at a && nat_lt a (at + length bs)) (slice_get bs (a - at)) None

in_run_first : (a at b : ℕ) (bs : List ℕ) → cond (nat_eq a at) (Some b) (in_run a (at + 1) bs) ≡ in_run a at (b ∷ bs)
in_run_first a at b bs = grind (arith, common_steps)

find-numbered : (a at : ℕ) (bs : List ℕ) → find nat_cmp a (numbered at bs) ≡ in_run a at bs
find-numbered a at [] = grind (arith, common_steps)
find-numbered a at (b ∷ bs) =
    ap (λ t. cond t (Some b) (find nat_cmp a (numbered (at + 1) bs))) (same_key a at)
    ∙ ap (λ rest. cond (nat_eq a at) (Some b) rest) (find-numbered a (at + 1) bs)
    ∙ in_run_first a at b bs

-- the first value, or else the second
abbrev either : Option ℕ → Option ℕ → Option ℕ
either (Some b) other = Some b
either None other = other

either_cond : (t : Bool) (b : ℕ) (x y : Option ℕ) → either (cond t (Some b) x) y ≡ cond t (Some b) (either x y)
either_cond true b x y = refl
either_cond false b x y = refl

find-joined : (a : ℕ) (es fs : List (ℕ × ℕ)) → find nat_cmp a (es ++ fs) ≡ either (find nat_cmp a es) (find nat_cmp a fs)
find-joined a [] fs = refl
find-joined a (e ∷ es) fs =
    ap (λ rest. cond (eq_by_cmp nat_cmp a e.0) (Some e.1) rest) (find-joined a es fs)
    ∙ sym (either_cond (eq_by_cmp nat_cmp a e.0) e.1 (find nat_cmp a es) (find nat_cmp a fs))

in_run_or : (a : ℕ) (at : ℕ) (bs : List ℕ) (y : Option ℕ)
    → either (in_run a at bs) y ≡ cond (nat_le at a && nat_lt a (at + length bs)) (slice_get bs (a - at)) y
in_run_or a at bs y = grind (arith, common_steps, slice_get-get_or bs (a - at) 0)

find-entries : (a : ℕ) (ps : List Part) → find nat_cmp a (entries ps) ≡ byte_at a ps
find-entries a [] = refl
find-entries a (p ∷ ps) =
    find-joined a (numbered p.0 p.1) (entries ps)
    ∙ ap (λ x. either x (find nat_cmp a (entries ps))) (find-numbered a p.0 p.1)
    ∙ ap (either (in_run a p.0 p.1)) (find-entries a ps)
    ∙ in_run_or a p.0 p.1 (byte_at a ps)

pub byte_is : (a : ℕ) (ps : List Part) → get (bytes_of ps) a ≡ byte_at a ps
unfolding bytes_of
byte_is a ps = get-from_entries nat_cmp_total (entries ps) a ∙ find-entries a ps

byte_first : (a : ℕ) (ps : List Part) (i : ℕ) → i < length ps → in_part a (get_or ps i no_part) ≡ true
    → ((k : ℕ) → k < i → in_part a (get_or ps k no_part) ≡ false)
    → byte_at a ps ≡ slice_get (get_or ps i no_part).1 (a - (get_or ps i no_part).0)
byte_first a [] i l here before = absurd (omega arith)
byte_first a (p ∷ ps) zero l here before = ap (λ t. cond t (slice_get p.1 (a - p.0)) (byte_at a ps)) here
byte_first a (p ∷ ps) (suc i) l here before =
    ap (λ t. cond t (slice_get p.1 (a - p.0)) (byte_at a ps)) (before 0 (omega arith))
    ∙ byte_first a ps i (omega arith) here (λ k less. before (suc k) (omega arith))

-- the part with a byte in the place of another
abbrev pub put_byte : Part → ℕ → ℕ → Part
put_byte p a b = (p.0, set p.1 (a - p.0) b)

put_here : (a b q : ℕ) (p : Part) (rest : Option ℕ) → in_part a p ≡ true
    → cond (in_part q (put_byte p a b)) (slice_get (put_byte p a b).1 (q - p.0)) rest
    ≡ cond (nat_eq q a) (Some b) (cond (in_part q p) (slice_get p.1 (q - p.0)) rest)
put_here a b q p rest here = grind
    (arith, common_steps, slice_get-get_or (set p.1 (a - p.0) b) (q - p.0) 0, slice_get-get_or p.1 (q - p.0) 0)

put_later : (a b q : ℕ) (p : Part) (x y : Option ℕ) → in_part a p ≡ false → cond (in_part q p) x (cond (nat_eq q a) (Some b) y)
    ≡ cond (nat_eq q a) (Some b) (cond (in_part q p) x y)
put_later a b q p x y elsewhere = grind (arith, common_steps)

byte_put : (a b q : ℕ) (ps : List Part) (i : ℕ) → i < length ps → in_part a (get_or ps i no_part) ≡ true
    → ((k : ℕ) → k < i → in_part a (get_or ps k no_part) ≡ false) → byte_at q (set ps i (put_byte (get_or ps i no_part) a b))
    ≡ cond (nat_eq q a) (Some b) (byte_at q ps)
byte_put a b q [] i l here before = absurd (omega arith)
byte_put a b q (p ∷ ps) zero l here before = put_here a b q p (byte_at q ps) here
byte_put a b q (p ∷ ps) (suc i) l here before =
    ap (λ rest. cond (in_part q p) (slice_get p.1 (q - p.0)) rest)
    (byte_put a b q ps i (omega arith) here (λ k less. before (suc k) (omega arith)))
    ∙ put_later a b q p (slice_get p.1 (q - p.0)) (byte_at q ps) (before 0 (omega arith))

-- the address is in the part at an index, and in none before it
pub record FoundAt (a : ℕ) (ps : List Part) (i : ℕ) : Type 0 where
  pub inside : i < length ps
  pub here : in_part a (get_or ps i no_part) ≡ true
  pub before : (k : ℕ) → k < i → in_part a (get_or ps k no_part) ≡ false

pub read_found : (a : ℕ) (ps : List Part) (i : ℕ) → FoundAt a ps i
    → get (bytes_of ps) a ≡ slice_get (get_or ps i no_part).1 (a - (get_or ps i no_part).0)
read_found a ps i found = byte_is a ps ∙ byte_first a ps i found.inside found.here found.before

pub write_found : (a b : ℕ) (ps : List Part) (i : ℕ) → FoundAt a ps i → bytes_of (set ps i (put_byte (get_or ps i no_part) a b))
    ≡ insert (bytes_of ps) a b
write_found a b ps i found =
    same_map nat_cmp_total nat_cmp-IsAntisymmetric _ _ (λ q.
    byte_is q (set ps i (put_byte (get_or ps i no_part) a b))
    ∙ byte_put a b q ps i found.inside found.here found.before
    ∙ ap (λ x. cond (nat_eq q a) (Some b) x) (sym (byte_is q ps))
    ∙ ap (λ t. cond t (Some b) (get (bytes_of ps) q)) (sym (same_key q a))
    ∙ sym (get-insert nat_cmp_total (bytes_of ps) a b q))

-- parts stay apart where one gets other bytes, as many as before
pub disjoint_set : (ps : List Part) (i : ℕ) (p : Part) → i < length ps → p.0 ≡ (get_or ps i no_part).0
    → length p.1 ≡ length (get_or ps i no_part).1 → AreDisjoint ps → AreDisjoint (set ps i p)
disjoint_set [] i p inside start size apart = absurd (omega arith)
disjoint_set (r ∷ ps) zero p inside start size apart = (
  All-weaker (IsApart r) (IsApart p) (λ s other a low high low_s high_s. other a (omega arith) (omega arith) low_s high_s) ps
      apart.0,
  apart.1,
)
disjoint_set (r ∷ ps) (suc i) p inside start size apart =
    let there : IsApart r (get_or ps i no_part) = All-get_or (IsApart r) ps i no_part (omega arith) apart.0 in (
      All-set (IsApart r) ps i p (λ a low high low_p high_p. there a low high (omega arith) (omega arith)) apart.0,
      disjoint_set ps
          i p (omega arith) start size apart.1,
    )

-- no part before an index has an address of the part there
abbrev pub Alone : List Part → ℕ → Part → Type 0
Alone ps i p = (k a : ℕ) → k < i → in_part a p ≡ true → in_part a (get_or ps k no_part) ≡ false

outside : (a : ℕ) (r p : Part) → IsApart r p → in_part a p ≡ true → in_part a r ≡ false
outside a r p apart here = by_test (in_part a r) refl
  where
    by_test : (t : Bool) → in_part a r ≡ t → t ≡ false
    by_test true there = let u = apart a in absurd (grind (arith, common_steps, u))
    by_test false there = refl

pub alone : (ps : List Part) (i : ℕ) → i < length ps → AreDisjoint ps → Alone ps i (get_or ps i no_part)
alone [] i inside apart k a less here = absurd (omega arith)
alone (r ∷ ps) zero inside apart k a less here = absurd (omega arith)
alone (r ∷ ps) (suc i) inside apart zero a less here =
    outside a r (get_or ps i no_part) (All-get_or (IsApart r) ps i no_part (omega arith) apart.0) here
alone (r ∷ ps) (suc i) inside apart (suc k) a less here = alone ps i (omega arith) apart.1 k a (omega arith) here
