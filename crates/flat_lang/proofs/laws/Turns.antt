-- What paths take, over paths put together; a loop's turns add nothing to what the first adds.
use Rattle.std.proofs.Common.{Bool, true, false, not, ◌&&◌, ◌||◌, ◌≡◌, refl, sym, ap, ◌∙◌, ℕ, zero, suc, nat_eq, List, [], ◌∷◌}
use Rattle.std.proofs.Common.{◌++◌, map, if◌then◌else◌}
use Rattle.flat_lang.specs.Paths.{Event, read, Ways, only, both, loops, takes, some_takes}

-- there is a path
abbrev pub Full : Ways → Type 0
Full [] = ⊥
Full (way ∷ ways) = Unit {0}

pub full_append : (a b : Ways) → Full a → Full (a ++ b)
full_append [] b h = absurd h
full_append (way ∷ a) b h = tt

pub full_both : (a b : Ways) → Full a → Full b → Full (both a b)
full_both [] b h g = absurd h
full_both (way ∷ a) [] h g = absurd g
full_both (way ∷ a) (other ∷ b) h g = tt

pub full_loops : (n : ℕ) (test body : Ways) → Full test → Full (loops n test body)
full_loops zero test body h = h
full_loops (suc n) test body h = full_both test ([] ∷ both body (loops n test body)) h tt

or_false : (b : Bool) → (b || false) ≡ b
or_false true = refl
or_false false = refl

or_assoc : (a b c : Bool) → ((a || b) || c) ≡ (a || (b || c))
or_assoc true b c = refl
or_assoc false b c = refl

spread : (w e x y : Bool) → (if w then (not e && (x || y)) else (e || (x || y)))
    ≡ ((if w then (not e && x) else (e || x)) || (if w then (not e && y) else (e || y)))
spread true true x y = refl
spread true false x y = refl
spread false true x y = refl
spread false false x y = refl

takes_append : (v : ℕ) (a b : List Event) (k : Bool) → takes v (a ++ b) k ≡ takes v a (takes v b k)
takes_append v [] b k = refl
takes_append v (e ∷ a) b k = ap (λ t. if e.written then (not (nat_eq v e.var) && t) else (nat_eq v e.var || t))
    (takes_append v a b k)

takes_or : (v : ℕ) (es : List Event) (p q : Bool) → takes v es (p || q) ≡ (takes v es p || takes v es q)
takes_or v [] p q = refl
takes_or v (e ∷ es) p q =
    ap (λ t. if e.written then (not (nat_eq v e.var) && t) else (nat_eq v e.var || t)) (takes_or v es p q)
    ∙ spread e.written (nat_eq v e.var) (takes v es p) (takes v es q)

pub some_append : (v : ℕ) (a b : Ways) (k : Bool) → some_takes v (a ++ b) k ≡ (some_takes v a k || some_takes v b k)
some_append v [] b k = refl
some_append v (way ∷ a) b k = ap (λ t. takes v way k || t) (some_append v a b k)
    ∙ sym (or_assoc (takes v way k) (some_takes v a k) (some_takes v b k))

one_then : (v : ℕ) (a b : List Event) (bs : Ways) (k : Bool) → some_takes v (map (λ c. a ++ c) (b ∷ bs)) k
    ≡ takes v a (some_takes v (b ∷ bs) k)
one_then v a b [] k = or_false (takes v (a ++ b) k) ∙ takes_append v a b k ∙ ap (takes v a) (sym (or_false (takes v b k)))
one_then v a b (c ∷ bs) k =
    ap (λ t. t || some_takes v (map (λ c. a ++ c) (c ∷ bs)) k) (takes_append v a b k)
    ∙ ap (λ t. takes v a (takes v b k) || t) (one_then v a c bs k)
    ∙ sym (takes_or v a (takes v b k) (some_takes v (c ∷ bs) k))

pub some_both : (v : ℕ) (a b : Ways) (k : Bool) → Full b → some_takes v (both a b) k ≡ some_takes v a (some_takes v b k)
some_both v a [] k h = absurd h
some_both v [] (b ∷ bs) k h = refl
some_both v (way ∷ a) (b ∷ bs) k h =
    some_append v (map (λ c. way ++ c) (b ∷ bs)) (both a (b ∷ bs)) k
    ∙ ap (λ t. t || some_takes v (both a (b ∷ bs)) k) (one_then v way b bs k)
    ∙ ap (λ t. takes v way (some_takes v (b ∷ bs) k) || t) (some_both v a (b ∷ bs) k tt)

-- a function of Bool that rises
abbrev Rises : (Bool → Bool) → Type 0
Rises f = f false ≡ true → f true ≡ true

rise_if : (w e : Bool) (f : Bool → Bool) → Rises f → Rises (λ k. if w then (not e && f k) else (e || f k))
rise_if true true f r h = h
rise_if true false f r h = r h
rise_if false true f r h = refl
rise_if false false f r h = r h

takes_rise : (v : ℕ) (es : List Event) → Rises (takes v es)
takes_rise v [] h = refl
takes_rise v (e ∷ es) h = rise_if e.written (nat_eq v e.var) (takes v es) (takes_rise v es) h

rise_or : (f g : Bool → Bool) → Rises f → Rises g → Rises (λ k. f k || g k)
rise_or f g r s h = by_value (f false) refl
  where
    under : (b : Bool) → b ≡ true → (b || g true) ≡ true
    under true is = refl
    under false is = absurd (cc)

    over : (b : Bool) → g true ≡ true → (b || g true) ≡ true
    over true is = refl
    over false is = is

    by_value : (b : Bool) → f false ≡ b → (f true || g true) ≡ true
    by_value true is = under (f true) (r is)
    by_value false is = over (f true) (s (ap (λ b. b || g false) (sym is) ∙ h))

some_rise : (v : ℕ) (ways : Ways) → Rises (some_takes v ways)
some_rise v [] h = absurd (cc)
some_rise v (way ∷ ways) h = rise_or (takes v way) (some_takes v ways) (takes_rise v way) (some_rise v ways) h

all_true : (f : Bool → Bool) (b : Bool) → Rises f → f false ≡ true → f b ≡ true
all_true f true r h = r h
all_true f false r h = h

turn_first : (f g : Bool → Bool) (k : Bool) → Rises f → f (k || g (f k)) ≡ f (k || g false)
turn_first f g true r = refl
turn_first f g false r = by_value (f false) refl
  where
    by_value : (b : Bool) → f false ≡ b → f (g (f false)) ≡ f (g false)
    by_value true is = all_true f (g (f false)) r is ∙ sym (all_true f (g false) r is)
    by_value false is = ap (λ b. f (g b)) is

turn_next : (f g : Bool → Bool) (k : Bool) → Rises f → Rises g → f (k || g (f (k || g false))) ≡ f (k || g false)
turn_next f g true r s = refl
turn_next f g false r s = by_value (g false) refl
  where
    by_value : (b : Bool) → g false ≡ b → f (g (f (g false))) ≡ f (g false)
    by_value true is = ap f (all_true g (f (g false)) s is ∙ sym is)
    by_value false is = ap (λ b. f (g (f b))) is ∙ turn_first f g false r

one_turn : (v n : ℕ) (test body : Ways) (k : Bool) → Full test → some_takes v (loops (suc n) test body) k
    ≡ some_takes v test (k || some_takes v body (some_takes v (loops n test body) k))
one_turn v n test body k full =
    some_both v test ([] ∷ both body (loops n test body)) k tt
    ∙ ap (λ t. some_takes v test (k || t)) (some_both v body (loops n test body) k (full_loops n test body full))

pub some_loops : (v n : ℕ) (test body : Ways) (k : Bool) → Full test → some_takes v (loops (suc n) test body) k
    ≡ some_takes v test (k || some_takes v body false)
some_loops v zero test body k full = one_turn v 0 test body k full
    ∙ turn_first (some_takes v test) (some_takes v body) k (some_rise v test)
some_loops v (suc n) test body k full =
    one_turn v (suc n) test body k full
    ∙ ap (λ t. some_takes v test (k || some_takes v body t)) (some_loops v n test body k full)
    ∙ turn_next (some_takes v test) (some_takes v body) k (some_rise v test) (some_rise v body)

pub some_read : (v x : ℕ) (k : Bool) → some_takes v (only (read x ∷ [])) k ≡ (nat_eq v x || k)
some_read v x k = or_false (nat_eq v x || k)

pub some_only : (v : ℕ) (es : List Event) (k : Bool) → some_takes v (only es) k ≡ takes v es k
some_only v es k = or_false (takes v es k)
