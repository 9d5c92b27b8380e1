-- Places of one's own serve every code.
use Rattle.std.proofs.Common.{◌≡◌, refl, ap, ◌∙◌, subst, sym, arith, ℕ, zero, suc, ◌+◌, ◌-◌, min, ◌<◌, ◌≤◌, Bool, true, false}
use Rattle.std.proofs.Common.{nat_lt, List, [], ◌∷◌, ◌++◌, map, length, length-append, Option, Some, None, Result, Ok, Err, IfOk}
use Rattle.std.proofs.Common.{slice_get, ◌⊎◌, inl, inr, if◌then◌else◌}
use Rattle.std.specs.List.{AllByRecursion}
use Rattle.std.specs.Prelude.{option_map}
use Rattle.std.proofs.lemmas.Bool.{ltb-true, ltb-false}
use Rattle.std.proofs.lemmas.Option.{slice_get-map}
use Rattle.rup_base.specs.Gather.{all_true}
use Rattle.rup_base.specs.declared.no_memory.NoMemory.{NoMemory}
use Rattle.flat_lang.specs.declared.flat.Flat.{Flat}
use Rattle.flat_lang.specs.Paths.{Step, flat_steps}
use Rattle.reg_alloc.specs.declared.plan.At.{At}
use Rattle.reg_alloc.specs.declared.plan.At.TheVariants.{Reg, Slot}
use Rattle.reg_alloc.specs.declared.plan.Plan.{Plan}
use Rattle.reg_alloc.specs.PlanOk.{is_place, Share, Clear, PlanOk}
use Rattle.reg_alloc.specs.Kept.{number}
use Rattle.reg_alloc.specs.Registers.{own_place, own_places, place_in, HasNoSlot}
use Rattle.reg_alloc.proofs.laws.Numbers.{and_left, and_right, and_both}

pub own_next : (n : ℕ) → own_places (n + 1) ≡ own_places n ++ own_place n ∷ []
own_next n = let e : n + 1 ≡ suc n = omega arith in ap own_places e

-- what holds of each kind of place holds of a variable's own
by_place : (P : At → Type 0) (v : ℕ) → (v < 4 → P (Reg (28 + v))) → (4 ≤ v → v < 14 → P (Reg (14 + v)))
    → (14 ≤ v → v < 16 → P (Reg (v - 6))) → (16 ≤ v → P (Slot (v - 16))) → P (own_place v)
by_place P v a b c d = first (nat_lt v 4) refl
  where
    third : 14 ≤ v → (t : Bool) → nat_lt v 16 ≡ t → P (if t then Reg (v - 6) else Slot (v - 16))
    third low true is = c low (ltb-true v 16 is)
    third low false is = d (ltb-false v 16 is)

    second : 4 ≤ v → (t : Bool) → nat_lt v 14 ≡ t
        → P (if t then Reg (14 + v) else (if nat_lt v 16 then Reg (v - 6) else Slot (v - 16)))
    second low true is = b low (ltb-true v 14 is)
    second low false is = third (ltb-false v 14 is) (nat_lt v 16) refl

    first : (t : Bool) → nat_lt v 4 ≡ t
        → P (if t then Reg (28 + v) else
        (if nat_lt v 14 then Reg (14 + v) else (if nat_lt v 16 then Reg (v - 6) else Slot (v - 16))))
    first true is = a (ltb-true v 4 is)
    first false is = second (ltb-false v 4 is) (nat_lt v 14) refl

-- the variable of a place's number
abbrev variable_of : ℕ → ℕ
variable_of n = if nat_lt n 18 then n + 6 else (if nat_lt n 28 then n - 14 else (if nat_lt n 32 then n - 28 else n - 16))

of_own : (v : ℕ) → variable_of (number (own_place v)) ≡ v
of_own v = by_place (λ a. variable_of (number a) ≡ v) v (λ h. grind (arith, h)) (λ h g. grind (arith, h, g))
    (λ h g. grind (arith, h, g)) (λ h. grind (arith, h))

own_number : (u v : ℕ) → own_place u ≡ own_place v → u ≡ v
own_number u v same = sym (of_own u) ∙ ap (λ a. variable_of (number a)) same ∙ of_own v

own_valid : (k v : ℕ) → v < k → is_place k (own_place v) ≡ true
own_valid k v less = by_place (λ a. is_place k a ≡ true) v (λ h. grind (arith, h)) (λ h g. grind (arith, h, g))
    (λ h g. grind (arith, h, g)) (λ h. grind (arith, less))

all_last : (k : ℕ) (xs : List At) (y : At) → all_true (map (is_place k) xs) ≡ true → is_place k y ≡ true
    → all_true (map (is_place k) (xs ++ y ∷ [])) ≡ true
all_last k [] y h g = and_both (is_place k y) true g refl
all_last k (x ∷ xs) y h g =
    and_both (is_place k x) (all_true (map (is_place k) (xs ++ y ∷ [])))
    (and_left (is_place k x) (all_true (map (is_place k) xs)) h)
    (all_last k xs y (and_right (is_place k x) (all_true (map (is_place k) xs)) h) g)

all_own_valid : (k n : ℕ) → n ≤ k → all_true (map (is_place k) (own_places n)) ≡ true
all_own_valid k zero h = refl
all_own_valid k (suc n) h = all_last k (own_places n) (own_place n) (all_own_valid k n (omega arith))
    (own_valid k n (omega arith))

length-own : (n : ℕ) → length (own_places n) ≡ n
length-own zero = refl
length-own (suc n) = let l = length-append (own_places n) (own_place n ∷ []) in let e = length-own n in omega arith

before_or_last : (xs : List At) (y : At) (i : ℕ) (a : At) → slice_get (xs ++ y ∷ []) i ≡ Some a
    → (slice_get xs i ≡ Some a) ⊎ ((i ≡ length xs) × (a ≡ y))
before_or_last [] y zero a h = let e : y ≡ a = cc in inr (refl, sym e)
before_or_last [] y (suc i) a h = absurd (let bad : ◌≡◌ {A = Option At} None (Some a) = h in cc)
before_or_last (x ∷ xs) y zero a h = inl h
before_or_last (x ∷ xs) y (suc i) a h = by_case (before_or_last xs y i a h)
  where
    by_case : (slice_get xs i ≡ Some a) ⊎ ((i ≡ length xs) × (a ≡ y))
        → (slice_get (x ∷ xs) (suc i) ≡ Some a) ⊎ ((suc i ≡ length (x ∷ xs)) × (a ≡ y))
    by_case (inl e) = inl e
    by_case (inr e) = inr (ap suc e.0, e.1)

own_at : (n i : ℕ) (a : At) → slice_get (own_places n) i ≡ Some a → (i < n) × (a ≡ own_place i)
own_at zero i a h = absurd (let bad : ◌≡◌ {A = Option At} None (Some a) = h in cc)
own_at (suc n) i a h = by_case (before_or_last (own_places n) (own_place n) i a h) (λ e. own_at n i a e)
  where
    by_case : (slice_get (own_places n) i ≡ Some a) ⊎ ((i ≡ length (own_places n)) × (a ≡ own_place n))
        → (slice_get (own_places n) i ≡ Some a → (i < n) × (a ≡ own_place i)) → (i < suc n) × (a ≡ own_place i)
    by_case (inl e) before = let b = (before e).0 in (omega arith, (before e).1)
    by_case (inr e) before = let l = length-own n in let same : i ≡ n = e.0 ∙ l in (omega arith, e.1 ∙ ap own_place (sym same))

apart : (n u v : ℕ) → Share (own_places n) u v → u ≡ v
apart n u v share = own_number u v (sym ((own_at n u share.0 share.1.0).1) ∙ (own_at n v share.0 share.1.1).1)

all_clear : (n : ℕ) (ss : List Step) → AllByRecursion (Clear (own_places n)) ss
all_clear n [] = tt
all_clear n (s ∷ ss) = ((λ x v writes live other share. other (apart n v x share)), all_clear n ss)

own_serves : (flat : Flat) (plan : Plan) → plan.places ≡ own_places flat.vars → PlanOk flat plan
own_serves flat plan is = record {
  one_each = ap length is ∙ length-own flat.vars;
  places = ap (λ (ps : List At). all_true (map (is_place flat.vars) ps)) is ∙ all_own_valid flat.vars flat.vars (omega arith);
  writes = λ n. subst (λ (ps : List At). AllByRecursion (Clear ps) (flat_steps (suc n) flat)) (sym is)
      (all_clear flat.vars (flat_steps (suc n) flat));
  arguments = λ u v less also live lives other share.
      other (apart flat.vars u v (subst (λ (ps : List At). Share ps u v) is share));
}

-- the places of less than 17 variables are registers
is_register_of : (v n : ℕ) → v < 16 → own_place v ≡ Slot n → ⊥
is_register_of v n few = by_place (λ a. a ≡ Slot n → ⊥) v (λ h is. absurd (cc)) (λ h g is. absurd (cc)) (λ h g is. absurd (cc))
    (λ h is. omega arith)

own_registers : (flat : Flat) (plan : Plan) → plan.places ≡ own_places flat.vars → flat.vars ≤ 16 → HasNoSlot plan
own_registers flat plan is few i n at =
    let there = own_at flat.vars i (Slot n) (sym (ap (λ (ps : List At). slice_get ps i) is) ∙ at) in
    is_register_of i n (let less = there.0 in omega arith) (sym there.1)

place_in_register : (vars n : ℕ) (colour : Option ℕ) → vars ≤ 16 → place_in vars colour ≡ Slot n → ⊥
place_in_register vars n None few is = is_register_of 0 n (omega arith) is
place_in_register vars n (Some colour) few is = is_register_of (min colour (vars - 1)) n (omega arith) is

mapped_place : (vars n : ℕ) (o : Option (Option ℕ)) → vars ≤ 16 → option_map (place_in vars) o ≡ Some (Slot n) → ⊥
mapped_place vars n None few h = let bad : ◌≡◌ {A = Option At} None (Some (Slot n)) = h in absurd (cc)
mapped_place vars n (Some colour) few h =
    place_in_register vars n colour few (let e : ◌≡◌ {A = Option At} (Some (place_in vars colour)) (Some (Slot n)) = h in cc)

shared_registers : (vars : ℕ) (colours : List (Option ℕ)) (plan : Plan) → plan.places ≡ map (place_in vars) colours → vars ≤ 16
    → HasNoSlot plan
shared_registers vars colours plan is few i n at =
    mapped_place vars n (slice_get colours i) few
    (sym (slice_get-map (place_in vars) colours i) ∙ sym (ap (λ (ps : List At). slice_get ps i) is) ∙ at)

pub shared : (vars : ℕ) (colours : List (Option ℕ)) (r : Result Plan NoMemory)
    → IfOk r (λ plan. plan.places ≡ map (place_in vars) colours) → IfOk r (λ plan. vars ≤ 16 → HasNoSlot plan)
shared vars colours (Ok plan) h = λ few. shared_registers vars colours plan h few
shared vars colours (Err e) h = h

pub serves : (flat : Flat) (r : Result Plan NoMemory) → IfOk r (λ plan. plan.places ≡ own_places flat.vars)
    → IfOk r (λ plan. PlanOk flat plan)
serves flat (Ok plan) h = own_serves flat plan h
serves flat (Err e) h = h

pub registers : (flat : Flat) (r : Result Plan NoMemory) → IfOk r (λ plan. plan.places ≡ own_places flat.vars)
    → IfOk r (λ plan. flat.vars ≤ 16 → HasNoSlot plan)
registers flat (Ok plan) h = λ few. own_registers flat plan h few
registers flat (Err e) h = h
