-- What a memory of regions that rise has at their addresses, and what registers have that are set one after another.
use Rattle.std.proofs.Common.{◌≡◌, ◌≢◌, refl, sym, ◌∙◌, ap, subst, arith, ℕ, zero, suc, ◌+◌, ◌-◌, ◌<◌, ◌≤◌, nat_eq, Bool, true}
use Rattle.std.proofs.Common.{false, cond, List, [], ◌∷◌, ◌++◌, length, map, get_or, set, Some, None, length-set}
use Rattle.std.specs.Prelude.{slice_get, is_some, IfOk, ◌^◌, Result, Ok, Err}
use Rattle.std.specs.List.{AllByRecursion}
use Rattle.std.specs.Ordering.{nat_cmp, eq_by_cmp}
use Rattle.std.specs.Cmp.{nat_cmp_total}
use Rattle.std.specs.FinMap.{find, get, get-from_entries}
use Rattle.std.proofs.lemmas.Grind.{common_steps}
use Rattle.std.proofs.lemmas.Bool.Decides.{nat_tests}
use Rattle.std.proofs.lemmas.List.{get_or-set_same, get_or-set_other}
use Rattle.std.proofs.lemmas.Option.{slice_get-get_or, slice_get_within}
use Rattle.rv_memory.specs.Bytes.{numbered, entries, bytes_of}
use Rattle.rv_memory.specs.Ranges.{Bytes, Stands, Range, IsMapped}
use Rattle.run_setup.specs.Loading.{set_from, AreBytes}
use Rattle.run_setup.proofs.laws.Places.{Rises}

abbrev pub Region : Type 0
Region = ℕ × List ℕ

-- Lists.

pub all_map : {X : Type 0} (P Q : X → Type 0) → ((x : X) → P x → Q x) → (xs : List X) → AllByRecursion P xs → AllByRecursion Q xs
all_map P Q more [] all = tt
all_map P Q more (x ∷ xs) all = (more x all.0, all_map P Q more xs all.1)

pub all_both : {X : Type 0} (P Q : X → Type 0) (xs : List X) → AllByRecursion P xs → AllByRecursion Q xs
    → AllByRecursion (λ x. P x × Q x) xs
all_both P Q [] ps qs = tt
all_both P Q (x ∷ xs) ps qs = ((ps.0, qs.0), all_both P Q xs ps.1 qs.1)

pub all_split : {X : Type 0} (P : X → Type 0) (xs ys : List X) → AllByRecursion P (xs ++ ys)
    → AllByRecursion P xs × AllByRecursion P ys
all_split P [] ys all = (tt, all)
all_split P (x ∷ xs) ys all = let rest = all_split P xs ys all.1 in ((all.0, rest.0), rest.1)

pub all_of_map : {X Y : Type 0} (f : X → Y) (P : Y → Type 0) (xs : List X) → AllByRecursion (λ x. P (f x)) xs
    → AllByRecursion P (map f xs)
all_of_map f P [] all = tt
all_of_map f P (x ∷ xs) all = (all.0, all_of_map f P xs all.1)

-- Bytes.

same_key : (a b : ℕ) → eq_by_cmp nat_cmp a b ≡ nat_eq a b
same_key a b = grind (arith, common_steps)

found_first : (q at b : ℕ) (es : List (ℕ × ℕ)) → q ≡ at → find nat_cmp q ((at, b) ∷ es) ≡ Some b
found_first q at b es is =
    let same : eq_by_cmp nat_cmp q at ≡ true = same_key q at ∙ grind (arith, nat_tests, is) in
    ap (λ t. cond t (Some b) (find nat_cmp q es)) same

found_later : (q at b : ℕ) (es : List (ℕ × ℕ)) → q ≢ at → find nat_cmp q ((at, b) ∷ es) ≡ find nat_cmp q es
found_later q at b es other =
    let apart : eq_by_cmp nat_cmp q at ≡ false = same_key q at ∙ grind (arith, nat_tests, other) in
    ap (λ t. cond t (Some b) (find nat_cmp q es)) apart

hit : (at : ℕ) (bs : List ℕ) (k b : ℕ) (es : List (ℕ × ℕ)) → slice_get bs k ≡ Some b
    → find nat_cmp (at + k) (numbered at bs ++ es) ≡ Some b
hit at [] k b es is = absurd (let bad = slice_get_within [] k b is in omega (arith, bad))
hit at (c ∷ bs) zero b es is = let same : c ≡ b = cc in found_first (at + 0) at c (numbered (at + 1) bs ++ es) (omega arith)
    ∙ ap Some same
hit at (c ∷ bs) (suc k) b es is =
    let further : at + suc k ≡ at + 1 + k = omega arith in
    found_later (at + suc k) at c (numbered (at + 1) bs ++ es) (omega arith)
    ∙ ap (λ q. find nat_cmp q (numbered (at + 1) bs ++ es)) further ∙ hit (at + 1) bs k b es is

miss : (at : ℕ) (bs : List ℕ) (q : ℕ) (es : List (ℕ × ℕ)) → at + length bs ≤ q
    → find nat_cmp q (numbered at bs ++ es) ≡ find nat_cmp q es
miss at [] q es behind = refl
miss at (c ∷ bs) q es behind =
    found_later q at c (numbered (at + 1) bs ++ es) (let less : at < q = omega (arith, behind) in omega arith)
    ∙ miss (at + 1) bs q es (omega (arith, behind))

byte_is : (rs : List Region) (q : ℕ) → get (bytes_of rs) q ≡ find nat_cmp q (entries rs)
unfolding bytes_of
byte_is rs q = get-from_entries nat_cmp_total (entries rs) q

-- each region stands in the memory
pub all_stand : (low : ℕ) (rs : List Region) → Rises low rs → AllByRecursion (λ r. (low ≤ r.0) × Stands (bytes_of rs) r.0 r.1) rs
all_stand low [] rises = tt
all_stand low (r ∷ rs) rises = (
  (rises.0, λ k b is. byte_is (r ∷ rs) (r.0 + k) ∙ hit r.0 r.1 k b (entries rs) is),
  all_map (λ q. (r.0 + length r.1 ≤ q.0) × Stands (bytes_of rs) q.0 q.1) (λ q. (low ≤ q.0) × Stands (bytes_of (r ∷ rs)) q.0 q.1)
      further rs (all_stand (r.0 + length r.1) rs rises.1),
)
  where
    further : (q : Region) → (r.0 + length r.1 ≤ q.0) × Stands (bytes_of rs) q.0 q.1
        → (low ≤ q.0) × Stands (bytes_of (r ∷ rs)) q.0 q.1
    further q h = (
      omega (arith, rises.0, h.0),
      λ k b is. byte_is (r ∷ rs) (q.0 + k) ∙ miss r.0 r.1 (q.0 + k) (entries rs) (omega (arith, h.0)) ∙ sym (byte_is rs (q.0 + k))
          ∙ h.1 k b is,
    )

abbrev pub range_of : Region → Range
range_of r = record { start = r.0; size = length r.1 }

-- a region that stands below the end is mapped
pub mapped : (mem : _) (r : Region) → Stands mem r.0 r.1 → r.0 + length r.1 ≤ 4294967296 → IsMapped mem (range_of r)
mapped mem r stands ends =
    record {
      ends = ends;
      inside = λ address within.
          let place : r.0 + (address - r.0) ≡ address = omega (arith, within.0) in
          let there = stands (address - r.0) (get_or r.1 (address - r.0) 0)
          (slice_get-get_or r.1 (address - r.0) 0 (omega (arith, within.0, within.1))) in
          ap (λ a. is_some (get mem a)) (sym place) ∙ ap is_some there;
    }

-- what the memory has are bytes, where the regions hold bytes
byte_among : (at : ℕ) (bs : List ℕ) (es : List (ℕ × ℕ)) (q b : ℕ) → AreBytes bs → (find nat_cmp q es ≡ Some b → b < 2 ^ 8)
    → find nat_cmp q (numbered at bs ++ es) ≡ Some b → b < 2 ^ 8
byte_among at [] es q b are rest found = rest found
byte_among at (c ∷ bs) es q b are rest found =
    by_test (eq_by_cmp nat_cmp q at) found (byte_among (at + 1) bs es q b (λ k. are (suc k)) rest)
  where
    by_test : (t : Bool) → cond t (Some c) (find nat_cmp q (numbered (at + 1) bs ++ es)) ≡ Some b
        → (find nat_cmp q (numbered (at + 1) bs ++ es) ≡ Some b → b < 2 ^ 8) → b < 2 ^ 8
    by_test true is more = let same : c ≡ b = cc in subst (λ (n : ℕ). n < 2 ^ 8) same (are 0)
    by_test false is more = more is

among_entries : (rs : List Region) (q b : ℕ) → AllByRecursion (λ r. AreBytes r.1) rs → find nat_cmp q (entries rs) ≡ Some b
    → b < 2 ^ 8
among_entries [] q b all found = absurd (let bad : None ≡ Some b = found in cc)
among_entries (r ∷ rs) q b all found = byte_among r.0 r.1 (entries rs) q b all.0 (among_entries rs q b all.1) found

pub bytes_held : {E : Type 0} (result : Result Bytes E) (rs : List Region) → AllByRecursion (λ r. AreBytes r.1) rs
    → IfOk result (λ mem. mem ≡ bytes_of rs)
    → IfOk result (λ mem. (address b : ℕ) → get mem address ≡ Some b → b < 2 ^ 8)
bytes_held (Ok mem) rs all is =
    λ address b found. among_entries rs address b all (sym (byte_is rs address) ∙ ap (λ m. get m address) (sym is) ∙ found)
bytes_held (Err why) rs all is = tt

-- Registers.

pub set_length : (regs : List ℕ) (r : ℕ) (vs : List ℕ) → length (set_from regs r vs) ≡ length regs
set_length regs r [] = refl
set_length regs r (v ∷ vs) = set_length (set regs r v) (r + 1) vs ∙ length-set regs r v

pub set_before : (regs : List ℕ) (r : ℕ) (vs : List ℕ) (q : ℕ) → q < r → get_or (set_from regs r vs) q 0 ≡ get_or regs q 0
set_before regs r [] q before = refl
set_before regs r (v ∷ vs) q before = set_before (set regs r v) (r + 1) vs q (omega (arith, before))
    ∙ get_or-set_other regs r q v 0 (omega (arith, before))

pub set_there : (regs : List ℕ) (r : ℕ) (vs : List ℕ) (k v : ℕ) → r + length vs ≤ length regs → slice_get vs k ≡ Some v
    → get_or (set_from regs r vs) (r + k) 0 ≡ v
set_there regs r [] k v room is = absurd (let bad = slice_get_within [] k v is in omega (arith, bad))
set_there regs r (w ∷ vs) zero v room is =
    let same : w ≡ v = cc in
    let place : r + 0 ≡ r = omega arith in
    ap (λ q. get_or (set_from (set regs r w) (r + 1) vs) q 0) place ∙ set_before (set regs r w) (r + 1) vs r (omega arith)
    ∙ get_or-set_same regs r w 0 (omega (arith, room)) ∙ same
set_there regs r (w ∷ vs) (suc k) v room is =
    let place : r + suc k ≡ r + 1 + k = omega arith in
    ap (λ q. get_or (set_from (set regs r w) (r + 1) vs) q 0) place
    ∙ set_there (set regs r w) (r + 1) vs k v (omega (arith, room, length-set regs r w)) is
