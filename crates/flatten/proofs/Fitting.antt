-- The points of three-address code fall into groups, one for each point of the command, in their order.
use Rattle.std.proofs.Common.{◌≡◌, refl, sym, ap, subst, ◌∙◌, arith, ℕ, zero, suc, ◌+◌, ◌<◌, ◌≤◌, Bool, true, false, ◌||◌, ◌&&◌}
use Rattle.std.proofs.Common.{nat_eq, List, [], ◌∷◌, ◌++◌, append_assoc, append-nil, length, map, if◌then◌else◌, ◌⊎◌, inl, inr}
use Rattle.std.proofs.lemmas.List.{map-append}
use Rattle.bed_syntax.specs.Intervals.{Point, some, throughout, count, from}
use Rattle.bed_syntax.specs.Shape.{is_known}
use Rattle.flatten.specs.Code.{place}
use Rattle.flatten.proofs.Covering.{here, Low}
use Rattle.flatten.proofs.Distinct.{Unique}
use Rattle.flatten.proofs.Places.{Known, unknown_place}

pub one_of : (a b : Bool) → (a || b) ≡ true → (a ≡ true) ⊎ (b ≡ true)
one_of true b h = inl refl
one_of false b h = inr h

pub or_first : (a b : Bool) → a ≡ true → (a || b) ≡ true
or_first true b h = refl
or_first false b h = absurd (let bad : false ≡ true = h in cc)

pub or_second : (a b : Bool) → b ≡ true → (a || b) ≡ true
or_second true b h = refl
or_second false b h = h

pub both_of : (a b : Bool) → (a && b) ≡ true → (a ≡ true) × (b ≡ true)
both_of true b h = (refl, h)
both_of false b h = absurd (let bad : false ≡ true = h in cc)

pub and_of : (a b : Bool) → a ≡ true → b ≡ true → (a && b) ≡ true
and_of true b h g = g
and_of false b h g = h

some_both : (ps qs : List Point) (v : ℕ) → some (ps ++ qs) v ≡ (some ps v || some qs v)
some_both [] qs v = refl
some_both (p ∷ ps) qs v = ap (λ b. p v || b) (some_both ps qs v) ∙ regroup (p v) (some ps v) (some qs v)
  where
    regroup : (a b c : Bool) → (a || (b || c)) ≡ ((a || b) || c)
    regroup true b c = refl
    regroup false b c = refl

-- numbers that are counted at most
most_counted : (f : Point) (k n : ℕ) → count f (from k n) ≤ n
most_counted f k zero = omega arith
most_counted f k (suc n) = one_counted (f k) (count f (from (k + 1) n)) n (most_counted f (k + 1) n)
  where
    one_counted : (t : Bool) (m n : ℕ) → m ≤ n → (if t then 1 else 0) + m ≤ suc n
    one_counted true m n h = omega arith
    one_counted false m n h = omega arith

one_within : (s t : Bool) (m n : ℕ) → (s ≡ true → t ≡ true) → m ≤ n → (if s then 1 else 0) + m ≤ (if t then 1 else 0) + n
one_within true true m n h l = omega arith
one_within true false m n h l = absurd (let bad : false ≡ true = h refl in cc)
one_within false true m n h l = omega arith
one_within false false m n h l = omega arith

front_place : (y : ℕ) (ys : List ℕ) → place (y ∷ ys) y ≡ 0
front_place y ys = let e : nat_eq y y ≡ true = grind (arith) in ap (λ b. if b then 0 else place ys y + 1) e

later_place : (y x : ℕ) (ys : List ℕ) → is_known ys y ≡ false → Known ys x → place (y ∷ ys) x ≡ place ys x + 1
later_place y x ys new known = by_same (nat_eq y x) refl
  where
    by_same : (b : Bool) → nat_eq y x ≡ b → (if b then 0 else place ys x + 1) ≡ place ys x + 1
    by_same false is = refl
    by_same true is =
        let e : y ≡ x = grind (arith, is) in
        let far : length ys ≤ place ys y = unknown_place ys y new in
        let near : place ys x < length ys = known in
        let same : place ys y ≡ place ys x = ap (place ys) e in
        absurd (omega arith)

-- of the variables from k on, those of the locals are counted where their locals are, and all others
pub count_names : (f g : Point) (room : ℕ) (ys : List ℕ) (k : ℕ) → Unique ys
    → ((x : ℕ) → Known ys x → f (k + place ys x) ≡ true → g x ≡ true)
    → count f (from k (length ys + room)) ≤ count g ys + room
count_names f g room [] k unique h = most_counted f k (0 + room)
count_names f g room (y ∷ ys) k unique h =
    let front : place (y ∷ ys) y ≡ 0 = front_place y ys in
    let rest = count_names f g room ys (k + 1) unique.1 (λ x known holds.
    let p : place (y ∷ ys) x ≡ place ys x + 1 = later_place y x ys unique.0 known in
    let e : k + 1 + place ys x ≡ k + place (y ∷ ys) x = omega arith in
    h x (let near : place ys x < length ys = known in omega arith) (ap f (sym e) ∙ holds)) in
    let one = one_within (f k) (g y) (count f (from (k + 1) (length ys + room))) (count g ys + room)
    (λ holds. let e : k ≡ k + place (y ∷ ys) y = omega arith in h y (omega arith) (ap f (sym e) ∙ holds)) rest in
    let e : suc (length ys + room) ≡ length (y ∷ ys) + room = omega arith in
    subst (λ m. count f (from k m) ≤ count g (y ∷ ys) + room) e (omega arith)

module _ (names : List ℕ) where
  -- what is marked of the locals' variables is marked of the locals
  abbrev pub Under : Point → Point → Type 0
  Under p c = (x : ℕ) → Known names x → p (place names x) ≡ true → c x ≡ true

  abbrev pub AllUnder : List Point → Point → Type 0
  AllUnder [] c = Unit {0}
  AllUnder (p ∷ ps) c = Under p c × AllUnder ps c

  abbrev pub Fits : List Point → List Point → Type 0
  Fits fs [] = fs ≡ []
  Fits fs (c ∷ cs) = (group : List Point) × (rest : List Point) × ((fs ≡ group ++ rest) × (AllUnder group c × Fits rest cs))

  pub under_or : (p q c d : Point) → Under p c → Under q d → Under (λ v. p v || q v) (λ x. c x || d x)
  under_or p q c d h g x known is = by_which (one_of (p (place names x)) (q (place names x)) is)
    where
      by_which : (p (place names x) ≡ true) ⊎ (q (place names x) ≡ true) → (c x || d x) ≡ true
      by_which (inl e) = or_first (c x) (d x) (h x known e)
      by_which (inr e) = or_second (c x) (d x) (g x known e)

  pub under_either : (p q c : Point) → Under p c → Under q c → Under (λ v. p v || q v) c
  under_either p q c h g x known is = by_which (one_of (p (place names x)) (q (place names x)) is)
    where
      by_which : (p (place names x) ≡ true) ⊎ (q (place names x) ≡ true) → c x ≡ true
      by_which (inl e) = h x known e
      by_which (inr e) = g x known e

  pub some_under : (ps : List Point) (c : Point) → AllUnder ps c → Under (some ps) c
  some_under [] c h x known is = absurd (let bad : false ≡ true = is in cc)
  some_under (p ∷ ps) c h x known is = under_either p (some ps) c h.0 (some_under ps c h.1) x known is

  pub all_weaker : (ps : List Point) (c d : Point) → ((x : ℕ) → c x ≡ true → d x ≡ true) → AllUnder ps c → AllUnder ps d
  all_weaker [] c d f h = tt
  all_weaker (p ∷ ps) c d f h = ((λ x known is. f x (h.0 x known is)), all_weaker ps c d f h.1)

  pub all_both : (ps qs : List Point) (c : Point) → AllUnder ps c → AllUnder qs c → AllUnder (ps ++ qs) c
  all_both [] qs c h g = g
  all_both (p ∷ ps) qs c h g = (h.0, all_both ps qs c h.1 g)

  pub fits_some : (fs cs : List Point) → Fits fs cs → Under (some fs) (some cs)
  fits_some fs [] h x known is =
      absurd (let bad : false ≡ true = sym (ap (λ (ps : List Point). some ps (place names x)) h) ∙ is in cc)
  fits_some fs (c ∷ cs) h x known is =
      let split : (some h.0 (place names x) || some h.1 (place names x)) ≡ true =
      sym (some_both h.0 h.1 (place names x)) ∙ sym (ap (λ (ps : List Point). some ps (place names x)) h.2.0) ∙ is in
      under_or (some h.0) (some h.1) c (some cs) (some_under h.0 c h.2.1.0) (fits_some h.1 cs h.2.1.1) x known split

  pub fits_both : (fs cs gs ds : List Point) → Fits fs cs → Fits gs ds → Fits (fs ++ gs) (cs ++ ds)
  fits_both fs [] gs ds h g = subst (λ (z : List Point). Fits (z ++ gs) ds) (sym h) g
  fits_both fs (c ∷ cs) gs ds h g = (
    h.0,
    h.1 ++ gs,
    (
      ap (λ (z : List Point). z ++ gs) h.2.0
          ∙ append_assoc h.0 h.1 gs,
      (h.2.1.0, fits_both h.1 cs gs ds h.2.1.1 g),
    ),
  )

  each_under : (p c : Point) → Under p c → (group : List Point) → AllUnder (map (λ (q : Point). p) group) c
  each_under p c h [] = tt
  each_under p c h (q ∷ group) = (h, each_under p c h group)

  fits_each : (p c : Point) → Under p c → (fs cs : List Point) → Fits fs cs
      → Fits (map (λ (q : Point). p) fs) (map (λ (q : Point). c) cs)
  fits_each p c under fs [] h = ap (map (λ (q : Point). p)) h
  fits_each p c under fs (d ∷ cs) h = (
    map (λ (q : Point). p) h.0,
    map (λ (q : Point). p) h.1,
    (
      ap (map (λ (q : Point). p)) h.2.0
          ∙ map-append (λ (q : Point). p) h.0 h.1,
      (each_under p c under h.0, fits_each p c under h.1 cs h.2.1.1),
    ),
  )

  pub fits_throughout : (fs cs : List Point) → Fits fs cs → Fits (throughout fs) (throughout cs)
  fits_throughout fs cs h = fits_each (some fs) (some cs) (fits_some fs cs h) fs cs h

  pub fits_one : (fs : List Point) (c : Point) → AllUnder fs c → Fits fs (c ∷ [])
  fits_one fs c h = (fs, [], (sym (append-nil fs), (h, refl)))

  module _ (unique : Unique names) (room n : ℕ) where
    abbrev variables : List ℕ
    variables = from 0 (length names + room)

    group_low : (group rest : List Point) (c before : Point) (cs : List Point) (b : Point) → AllUnder group c
        → Under (some rest) (some cs) → Under b (λ x. before x || c x)
        → count (here before c cs) names ≤ n → ((b1 : Point) → Under b1 (λ x. before x || c x) → Low variables (n + room) b1 rest)
        → Low variables (n + room) b (group ++ rest)
    group_low [] rest c before cs b under behind marked few next = next b marked
    group_low (p ∷ group) rest c before cs b under behind marked few next =
        let front : Under (λ v. b v || p v) (λ x. before x || c x) =
        under_either b p (λ x. before x || c x) marked (λ x known is. or_second (before x) (c x) (under.0 x known is)) in
        let back : Under (λ v. p v || some (group ++ rest) v) (λ x. c x || some cs x) = λ x known is.
        let split : (p (place names x) || (some group (place names x) || some rest (place names x))) ≡ true =
        ap (λ t. p (place names x) || t) (sym (some_both group rest (place names x))) ∙ is in
        regrouped (p (place names x)) (some group (place names x)) (some rest (place names x)) (c x) (some cs x) (under.0 x known)
        (some_under group c under.1 x known) (behind x known) split in
        let counted = count_names (here b p (group ++ rest)) (here before c cs) room names 0 unique (λ x known is.
        let parts = both_of (b (0 + place names x) || p (0 + place names x))
        (p (0 + place names x) || some (group ++ rest) (0 + place names x)) is in
        let z : 0 + place names x ≡ place names x = omega arith in
        and_of (before x || c x) (c x || some cs x) (front x known (subst (λ v. (b v || p v) ≡ true) z parts.0))
        (back x known (subst (λ v. (p v || some (group ++ rest) v) ≡ true) z parts.1))) in
        (omega arith, group_low group rest c before cs (λ v. b v || p v) under.1 behind front few next)
      where
        regrouped : (p g r c s : Bool) → (p ≡ true → c ≡ true) → (g ≡ true → c ≡ true) → (r ≡ true → s ≡ true)
            → (p || (g || r)) ≡ true → (c || s) ≡ true
        regrouped true g r c s f k l is = or_first c s (f refl)
        regrouped false true r c s f k l is = or_first c s (k refl)
        regrouped false false r c s f k l is = or_second c s (l is)

    pub low_fits : (cs fs : List Point) (before b : Point) → Under b before → Fits fs cs → Low names n before cs
        → Low variables (n + room) b fs
    low_fits [] fs before b under fits low = subst (λ (z : List Point). Low variables (n + room) b z) (sym fits) tt
    low_fits (c ∷ cs) fs before b under fits low =
        subst (λ (z : List Point). Low variables (n + room) b z) (sym fits.2.0)
        (group_low fits.0 fits.1 c before cs b fits.2.1.0 (fits_some fits.1 cs fits.2.1.1)
        (λ x known is. or_first (before x) (c x) (under x known is)) low.0
        (λ b1 marked. low_fits cs fits.1 (λ x. before x || c x) b1 marked fits.2.1.1 low.1))
