-- Where locals stand in lists of locals.
use Rattle.std.proofs.Common.{◌≡◌, refl, sym, ap, subst, ◌∙◌, arith, ℕ, zero, suc, ◌+◌, ◌<◌, ◌≤◌, min, Bool, true, false, ◌||◌}
use Rattle.std.proofs.Common.{nat_eq, List, [], ◌∷◌, ◌++◌, length, length-append, Some, None, slice_get, if◌then◌else◌, ◌⊎◌, inl}
use Rattle.std.proofs.Common.{inr, ⊎_elim}
use Rattle.std.proofs.lemmas.Bool.{cases_lt}
use Rattle.std.proofs.lemmas.Bool.Decides.{eqb_tells}
use Rattle.bed_syntax.specs.Shape.{is_known, noted, all_noted, numbers}
use Rattle.flatten.specs.Code.{place}

abbrev pub Known : List ℕ → ℕ → Type 0
Known ns x = place ns x < length ns

-- the second list has the locals of the first, at their places
abbrev pub Extends : List ℕ → List ℕ → Type 0
Extends ms ns = (x : ℕ) → Known ms x → (Known ns x) × (place ns x ≡ place ms x)

pub extends_self : (ns : List ℕ) → Extends ns ns
extends_self ns x h = (h, refl)

pub extends_through : (ks ms ns : List ℕ) → Extends ks ms → Extends ms ns → Extends ks ns
extends_through ks ms ns f g x h = ((g x (f x h).0).0, (g x (f x h).0).1 ∙ (f x h).1)

-- one more in front
front_kept : (b : Bool) (p q n : ℕ) → (if b then 0 else p + 1) < suc n → (p < n → q ≡ p)
    → (if b then 0 else q + 1) ≡ (if b then 0 else p + 1)
front_kept true p q n h f = refl
front_kept false p q n h f = ap (λ r. r + 1) (f (omega arith))

place_kept : (ns ms : List ℕ) (x : ℕ) → Known ns x → place (ns ++ ms) x ≡ place ns x
place_kept [] ms x h = absurd (omega arith)
place_kept (y ∷ ns) ms x h = front_kept (nat_eq y x) (place ns x) (place (ns ++ ms) x) (length ns) h (λ k. place_kept ns ms x k)

pub extends_behind : (ns ms : List ℕ) → Extends ns (ns ++ ms)
extends_behind ns ms x h =
    let e : place (ns ++ ms) x ≡ place ns x = place_kept ns ms x h in
    let n : length (ns ++ ms) ≡ length ns + length ms = length-append ns ms in
    (omega arith, e)

front_past : (b : Bool) (p q n r : ℕ) → suc n ≤ (if b then 0 else p + 1) → (n ≤ p → q ≡ n + r)
    → (if b then 0 else q + 1) ≡ suc n + r
front_past true p q n r h f = absurd (omega arith)
front_past false p q n r h f = let e : q ≡ n + r = f (omega arith) in omega arith

place_behind : (ns ms : List ℕ) (x : ℕ) → length ns ≤ place ns x → place (ns ++ ms) x ≡ length ns + place ms x
place_behind [] ms x h = omega arith
place_behind (y ∷ ns) ms x h =
    front_past (nat_eq y x) (place ns x) (place (ns ++ ms) x) (length ns) (place ms x) h (λ k. place_behind ns ms x k)

front_known : (b k : Bool) (p n : ℕ) → (b || k) ≡ true → (k ≡ true → p < n) → (if b then 0 else p + 1) < suc n
front_known true k p n h f = omega arith
front_known false k p n h f = let e : p < n = f h in omega arith

pub known_place : (ns : List ℕ) (x : ℕ) → is_known ns x ≡ true → Known ns x
known_place [] x h = absurd (let bad : false ≡ true = h in cc)
known_place (y ∷ ns) x h = front_known (nat_eq y x) (is_known ns x) (place ns x) (length ns) h (λ k. known_place ns x k)

front_unknown : (b k : Bool) (p n : ℕ) → (b || k) ≡ false → (k ≡ false → n ≤ p) → suc n ≤ (if b then 0 else p + 1)
front_unknown true k p n h f = absurd (let bad : true ≡ false = h in cc)
front_unknown false k p n h f = let e : n ≤ p = f h in omega arith

pub unknown_place : (ns : List ℕ) (x : ℕ) → is_known ns x ≡ false → length ns ≤ place ns x
unknown_place [] x h = omega arith
unknown_place (y ∷ ns) x h = front_unknown (nat_eq y x) (is_known ns x) (place ns x) (length ns) h (λ k. unknown_place ns x k)

-- the place of the only local of a list
one_place : (y x : ℕ) → ((y ≡ x) × (place (y ∷ []) x ≡ 0)) ⊎ ((y ≡ x → ⊥) × (place (y ∷ []) x ≡ 1))
one_place y x = ⊎_elim (λ h. inl (h.1, ap (λ b. if b then 0 else 0 + 1) h.0))
    (λ h. inr (h.1, ap (λ b. if b then 0 else 0 + 1) h.0)) (eqb_tells y x)

noted_by : (x : ℕ) (ns : List ℕ) (b : Bool) → is_known ns x ≡ b → (Extends ns (if b then ns else ns ++ x ∷ []))
    × (Known (if b then ns else ns ++ x ∷ []) x)
noted_by x ns true h = (extends_self ns, known_place ns x h)
noted_by x ns false h =
    let e : place (ns ++ x ∷ []) x ≡ length ns + place (x ∷ []) x = place_behind ns (x ∷ []) x (unknown_place ns x h) in
    let n : length (ns ++ x ∷ []) ≡ length ns + 1 = length-append ns (x ∷ []) in
    let z : place (x ∷ []) x ≡ 0 = ⊎_elim (λ p. p.1) (λ p. absurd (p.0 refl)) (one_place x x) in
    (extends_behind ns (x ∷ []), omega arith)

pub extends_noted : (x : ℕ) (ns : List ℕ) → Extends ns (noted x ns)
extends_noted x ns = (noted_by x ns (is_known ns x) refl).0

pub known_noted : (x : ℕ) (ns : List ℕ) → Known (noted x ns) x
known_noted x ns = (noted_by x ns (is_known ns x) refl).1

pub extends_all_noted : (xs ns : List ℕ) → Extends ns (all_noted xs ns)
extends_all_noted [] ns = extends_self ns
extends_all_noted (x ∷ xs) ns =
    extends_through ns (noted x ns) (all_noted xs (noted x ns)) (extends_noted x ns) (extends_all_noted xs (noted x ns))

pub known_all_noted : (xs ns : List ℕ) (i x : ℕ) → slice_get xs i ≡ Some x → Known (all_noted xs ns) x
known_all_noted [] ns i x h = absurd (let bad : None ≡ Some x = h in cc)
known_all_noted (y ∷ xs) ns zero x h =
    let e : y ≡ x = let is : Some y ≡ Some x = h in cc in
    (extends_all_noted xs (noted y ns) x (subst (λ z. Known (noted z ns) x) (sym e) (known_noted x ns))).0
known_all_noted (y ∷ xs) ns (suc i) x h = known_all_noted xs (noted y ns) i x h

-- two locals with one place are one
front_same : (z x y p q n : ℕ) → (if nat_eq z x then 0 else p + 1) < suc n
    → (if nat_eq z x then 0 else p + 1) ≡ (if nat_eq z y then 0 else q + 1) → (p < n → p ≡ q → x ≡ y) → x ≡ y
front_same z x y p q n h e f = grind (arith, eqb_tells)

pub same_place : (ns : List ℕ) (x y : ℕ) → Known ns x → place ns x ≡ place ns y → x ≡ y
same_place [] x y h e = absurd (omega arith)
same_place (z ∷ ns) x y h e = front_same z x y (place ns x) (place ns y) (length ns) h e (λ k i. same_place ns x y k i)

pub length-numbers : (n : ℕ) → length (numbers n) ≡ n
length-numbers zero = refl
length-numbers (suc n) = let e : length (numbers n ++ n ∷ []) ≡ length (numbers n) + 1 = length-append (numbers n) (n ∷ []) in
    let i : length (numbers n) ≡ n = length-numbers n in omega arith

pub place-numbers : (n x : ℕ) → place (numbers n) x ≡ min x n
place-numbers zero x = omega arith
place-numbers (suc n) x =
    let i : place (numbers n) x ≡ min x n = place-numbers n x in
    let l : length (numbers n) ≡ n = length-numbers n in
    let m : length (numbers n ++ n ∷ []) ≡ length (numbers n) + 1 = length-append (numbers n) (n ∷ []) in
    ⊎_elim
    (λ (h : x < n). let k : Known (numbers n) x = omega arith in let e : place (numbers n ++ n ∷ []) x
    ≡ place (numbers n) x = place_kept (numbers n) (n ∷ []) x k in omega arith)
    (λ (h : n ≤ x).
    let k : length (numbers n) ≤ place (numbers n) x = omega arith in
    let e : place (numbers n ++ n ∷ []) x ≡ length (numbers n) + place (n ∷ []) x = place_behind (numbers n) (n ∷ []) x k in
    ⊎_elim (λ p. let o : n ≡ x = p.0 in let z : place (n ∷ []) x ≡ 0 = p.1 in omega arith)
    (λ p. let o : n ≡ x → ⊥ = p.0 in let z : place (n ∷ []) x ≡ 1 = p.1 in omega arith) (one_place n x))
    (cases_lt x n)
