-- A pattern matches exactly its instances.
use Rattle.std.proofs.Common.{◌≡◌, refl, sym, ◌∙◌, ap, subst, ℕ, nat_eq, Bool, true, false, ◌&&◌, List, [], ◌∷◌, ◌++◌, Option}
use Rattle.std.proofs.Common.{Some, None, is_some, option_and_then, if◌then◌else◌}
use Rattle.model_syntax.proofs.laws.Bindings.{same_is, same_self}
use Rattle.model_syntax.specs.Names.{Name, same}
use Rattle.model_syntax.specs.declared.expr.Op.{Op}
use Rattle.model_syntax.specs.declared.expr.Cmp.{Cmp}
use Rattle.model_syntax.specs.declared.expr.Scalar.{Scalar}
use Rattle.model_syntax.specs.declared.expr.Expr.{Expr, Expr-F, roll-Expr, out-Expr, out-roll-Expr, roll-out-Expr}
use Rattle.model_syntax.specs.declared.expr.Expr.TheOpen as e
use Rattle.model_syntax.specs.declared.expr.Expr.TheVariants as v
use Rattle.lemma_files.specs.declared.terms.Pattern.{Pattern, Pattern-F, map-Pattern, roll-Pattern, fold-roll-Pattern}
use Rattle.lemma_files.specs.declared.terms.Pattern.{ind-Pattern}
use Rattle.lemma_files.specs.declared.terms.Pattern.TheOpen as p
use Rattle.lemma_files.specs.Same.{same_op, same_cmp, same_scalar, same_entries, same_expr}
use Rattle.lemma_files.specs.Matching.{Holes, Match, stands_for, only_if, both, fill, match_layer, match_step, match_at, matches}
use Rattle.lemma_files.specs.Substitution.{Substitution, filled, filled_step, IsInstance}
use Rattle.lemma_files.proofs.SameExpr.{both_true, number_is, number_self, op_is, op_self, cmp_is, cmp_self, scalar_is}
use Rattle.lemma_files.proofs.SameExpr.{scalar_self, expr_is, expr_same}

-- the holes that were met stand for what the substitution gives them
abbrev Agrees : Substitution → Holes → Type 0
Agrees s fs = (x : Name) (b : Expr) → stands_for x fs ≡ Some b → s x ≡ b

-- where a match goes on, each substitution that agrees with its holes agreed before it, and has a property
abbrev Fits : Match → (Substitution → Type 0) → Type 0
Fits m P = (fs gs : Holes) → m fs ≡ Some gs → (s : Substitution) → Agrees s gs → Agrees s fs × P s

only_fits : (test : Bool) (P : Substitution → Type 0) → ((s : Substitution) → test ≡ true → P s) → Fits (only_if test) P
only_fits true P k fs gs h s agrees = let is : fs ≡ gs = cc in (subst (Agrees s) (sym is) agrees, k s refl)
only_fits false P k fs gs h s agrees = absurd cc

never_fits : (P : Substitution → Type 0) → Fits (only_if false) P
never_fits P fs gs h s agrees = absurd cc

both_fit : (m n : Match) (P Q : Substitution → Type 0) → Fits m P → Fits n Q → Fits (both m n) (λ s. P s × Q s)
both_fit m n P Q one two fs gs h s agrees = by (m fs) refl h
  where
    by : (o : Option Holes) → m fs ≡ o → option_and_then n o ≡ Some gs → Agrees s fs × (P s × Q s)
    by None is h = absurd cc
    by (Some hs) is h =
        let second = two hs gs h s agrees in
        let first = one fs hs is s second.0 in
        (first.0, (first.1, second.1))

met : Name → Expr → Holes
met x a = record { hole = x; expr = a } ∷ []

-- a hole that was met before still stands for the same
still : (x y : Name) (a b : Expr) (fs : Holes) → stands_for y fs ≡ Some b → stands_for y (fs ++ met x a) ≡ Some b
still x y a b [] h = absurd cc
still x y a b (f ∷ fs) h = by (same f.hole y) refl (still x y a b fs)
  where
    by : (t : Bool) → same f.hole y ≡ t → (stands_for y fs ≡ Some b → stands_for y (fs ++ met x a) ≡ Some b)
        → stands_for y ((f ∷ fs) ++ met x a) ≡ Some b
    by true is more = let here : stands_for y (f ∷ fs) ≡ Some f.expr = rw is refl in rw is (sym here ∙ h)
    by false is more = let here : stands_for y (f ∷ fs) ≡ stands_for y fs = rw is refl in rw is (more (sym here ∙ h))

-- a new hole is met behind the others
ends : (x y : Name) (a : Expr) (fs : Holes) → stands_for y fs ≡ None → stands_for y (fs ++ met x a) ≡ stands_for y (met x a)
ends x y a [] h = refl
ends x y a (f ∷ fs) h = by (same f.hole y) refl (ends x y a fs)
  where
    by : (t : Bool) → same f.hole y ≡ t → (stands_for y fs ≡ None → stands_for y (fs ++ met x a) ≡ stands_for y (met x a))
        → stands_for y ((f ∷ fs) ++ met x a) ≡ stands_for y (met x a)
    by true is more = let here : stands_for y (f ∷ fs) ≡ Some f.expr = rw is refl in absurd cc
    by false is more = let here : stands_for y (f ∷ fs) ≡ stands_for y fs = rw is refl in rw is (more (sym here ∙ h))

its_own : (x : Name) (a : Expr) → stands_for x (met x a) ≡ Some a
unfolding met
its_own x a = rw (same_self x) refl

-- another hole stands for nothing there
others : (x y : Name) (a : Expr) → same x y ≡ false → stands_for y (met x a) ≡ None
unfolding met
others x y a is = rw is refl

-- what is filled where a hole is new, and where it is not
fill_new : (x : Name) (a : Expr) (fs : Holes) → stands_for x fs ≡ None → fill x a fs ≡ Some (fs ++ met x a)
unfolding met
fill_new x a fs is = rw (is, fill) refl

fill_old : (x : Name) (a b : Expr) (fs : Holes) → stands_for x fs ≡ Some b → fill x a fs ≡ only_if (same_expr b a) fs
fill_old x a b fs is = rw (is, fill) refl

fill_fits : (x : Name) (a : Expr) → Fits (fill x a) (λ s. s x ≡ a)
fill_fits x a fs gs h s agrees = by (stands_for x fs) refl
  where
    by : (o : Option Expr) → stands_for x fs ≡ o → Agrees s fs × (s x ≡ a)
    by (Some b) is =
        let there : only_if (same_expr b a) fs ≡ Some gs = sym (fill_old x a b fs is) ∙ h in
        let old = only_fits (same_expr b a) (λ s. b ≡ a) (λ s k. expr_is b a k) fs gs there s agrees in
        (old.0, old.0 x b is ∙ old.1)
    by None is =
        let there : fill x a fs ≡ Some (fs ++ met x a) = fill_new x a fs is in
        let more : fs ++ met x a ≡ gs = cc in
        let now : Agrees s (fs ++ met x a) = subst (Agrees s) (sym more) agrees in
        ((λ y b k. now y b (still x y a b fs k)), now x a (ends x x a fs is ∙ its_own x a))

abbrev fills : Pattern → Expr → Substitution → Type 0
fills a b s = filled a s ≡ b

abbrev Sound : Pattern → Type 0
Sound a = (b : Expr) → Fits (match_at a b) (fills a b)

abbrev Told : Type 0
Told = (a : Pattern) × Sound a

abbrev plain : Pattern-F Told → Pattern-F Pattern
plain y = map-Pattern Told Pattern (λ k. k.0) y

abbrev found : Pattern-F Pattern → Pattern-F (Expr → Match)
found y = map-Pattern Pattern (Expr → Match) match_at y

abbrev fillings : Pattern-F Pattern → Pattern-F (Substitution → Expr)
fillings y = map-Pattern Pattern (Substitution → Expr) filled y

abbrev becomes : Pattern-F Pattern → Expr → Substitution → Type 0
becomes y b s = filled_step (fillings y) s ≡ b

-- a weaker property
weaker : (m : Match) (P Q : Substitution → Type 0) → ((s : Substitution) → P s → Q s) → Fits m P → Fits m Q
weaker m P Q k fits fs gs h s agrees = let r = fits fs gs h s agrees in (r.0, k s r.1)

test_fits : (t : Bool) (m : Match) (T : Type 0) (P Q : Substitution → Type 0) → (t ≡ true → T) → Fits m P
    → ((s : Substitution) → T → P s → Q s) → Fits (both (only_if t) m) Q
test_fits t m T P Q tells fits k =
    weaker (both (only_if t) m) (λ s. T × P s) Q (λ s r. k s r.0 r.1)
    (both_fit (only_if t) m (λ s. T) P (only_fits t (λ s. T) (λ s is. tells is)) fits)

two_fit : (a b : Told) (c d : Expr) → Fits (both (match_at a.0 c) (match_at b.0 d)) (λ s. fills a.0 c s × fills b.0 d s)
two_fit a b c d = both_fit (match_at a.0 c) (match_at b.0 d) (fills a.0 c) (fills b.0 d) (a.1 c) (b.1 d)

one_same : (f : Expr → Expr) (a c : Expr) → a ≡ c → f a ≡ f c
one_same f a c h = ap f h

two_same : (f : Expr → Expr → Expr) (a b c d : Expr) → a ≡ c → b ≡ d → f a b ≡ f c d
two_same f a b c d h k = rw (h, k) refl

bin_same : (o q : Op) (a b c d : Expr) → o ≡ q → a ≡ c → b ≡ d → v.Bin o a b ≡ v.Bin q c d
bin_same o q a b c d i h k = rw (i, h, k) refl

test_same : (o q : Cmp) (a b c d : Expr) → o ≡ q → a ≡ c → b ≡ d → v.Test o a b ≡ v.Test q c d
test_same o q a b c d i h k = rw (i, h, k) refl

get_same : (x y : Name) (a c : Expr) → x ≡ y → a ≡ c → v.Get x a ≡ v.Get y c
get_same x y a c i h = rw (i, h) refl

tab_same : (t u : Scalar) (ms ns : List ℕ) (a c : Expr) → t ≡ u → ms ≡ ns → a ≡ c → v.Tab t ms a ≡ v.Tab u ns c
tab_same t u ms ns a c i j h = rw (i, j, h) refl

-- a layer of a pattern becomes a layer of an expression
abbrev Layered : Pattern-F Told → Expr-F Expr → Substitution → Type 0
Layered y z = becomes (plain y) (roll-Expr z)

layer_fits : (y : Pattern-F Told) (z : Expr-F Expr) → Fits (match_layer (found (plain y)) z) (Layered y z)
layer_fits (p.Lit m) (e.Lit n) =
    only_fits (nat_eq m n) (Layered (p.Lit m) (e.Lit n)) (λ s h. ap v.Lit (number_is m n h) ∙ sym (v.rolls-Lit n))
layer_fits (p.Var x) (e.Var y) =
    only_fits (same x y) (Layered (p.Var x) (e.Var y)) (λ s h. ap v.Var (same_is x y h) ∙ sym (v.rolls-Var y))
layer_fits (p.Length x) (e.Length y) =
    only_fits (same x y) (Layered (p.Length x) (e.Length y)) (λ s h. ap v.Length (same_is x y h) ∙ sym (v.rolls-Length y))
layer_fits (p.Bin o a b) (e.Bin q c d) =
    test_fits (same_op o q) (both (match_at a.0 c) (match_at b.0 d)) (o ≡ q) (λ s. fills a.0 c s × fills b.0 d s)
    (Layered (p.Bin o a b) (e.Bin q c d)) (op_is o q) (two_fit a b c d)
    (λ s i r. bin_same o q (filled a.0 s) (filled b.0 s) c d i r.0 r.1 ∙ sym (v.rolls-Bin q c d))
layer_fits (p.Test o a b) (e.Test q c d) =
    test_fits (same_cmp o q) (both (match_at a.0 c) (match_at b.0 d)) (o ≡ q) (λ s. fills a.0 c s × fills b.0 d s)
    (Layered (p.Test o a b) (e.Test q c d)) (cmp_is o q) (two_fit a b c d)
    (λ s i r. test_same o q (filled a.0 s) (filled b.0 s) c d i r.0 r.1 ∙ sym (v.rolls-Test q c d))
layer_fits (p.Not a) (e.Not c) =
    weaker (match_at a.0 c) (fills a.0 c) (Layered (p.Not a) (e.Not c))
    (λ s r. one_same v.Not (filled a.0 s) c r ∙ sym (v.rolls-Not c)) (a.1 c)
layer_fits (p.ToWord a) (e.ToWord c) =
    weaker (match_at a.0 c) (fills a.0 c) (Layered (p.ToWord a) (e.ToWord c))
    (λ s r. one_same v.ToWord (filled a.0 s) c r ∙ sym (v.rolls-ToWord c)) (a.1 c)
layer_fits (p.ToByte a) (e.ToByte c) =
    weaker (match_at a.0 c) (fills a.0 c) (Layered (p.ToByte a) (e.ToByte c))
    (λ s r. one_same v.ToByte (filled a.0 s) c r ∙ sym (v.rolls-ToByte c)) (a.1 c)
layer_fits (p.Both a b) (e.Both c d) =
    weaker (both (match_at a.0 c) (match_at b.0 d)) (λ s. fills a.0 c s × fills b.0 d s) (Layered (p.Both a b) (e.Both c d))
    (λ s r. two_same v.Both (filled a.0 s) (filled b.0 s) c d r.0 r.1 ∙ sym (v.rolls-Both c d)) (two_fit a b c d)
layer_fits (p.Either a b) (e.Either c d) =
    weaker (both (match_at a.0 c) (match_at b.0 d)) (λ s. fills a.0 c s × fills b.0 d s) (Layered (p.Either a b) (e.Either c d))
    (λ s r. two_same v.Either (filled a.0 s) (filled b.0 s) c d r.0 r.1 ∙ sym (v.rolls-Either c d)) (two_fit a b c d)
layer_fits (p.Get x a) (e.Get y c) =
    test_fits (same x y) (match_at a.0 c) (x ≡ y) (fills a.0 c) (Layered (p.Get x a) (e.Get y c)) (same_is x y) (a.1 c)
    (λ s i r. get_same x y (filled a.0 s) c i r ∙ sym (v.rolls-Get y c))
layer_fits (p.Tab t ms a) (e.Tab u ns c) =
    test_fits (same_scalar t u && same_entries ms ns) (match_at a.0 c) ((t ≡ u) × (ms ≡ ns)) (fills a.0 c)
    (Layered (p.Tab t ms a) (e.Tab u ns c))
    (λ h. let k = both_true (same_scalar t u) (same_entries ms ns) h in (scalar_is t u k.0, same_is ms ns k.1))
    (a.1 c) (λ s i r. tab_same t u ms ns (filled a.0 s) c i.0 i.1 r ∙ sym (v.rolls-Tab u ns c))
layer_fits y z = never_fits (Layered y z)

-- one step over a whole expression
step_fits : (y : Pattern-F Told) (b : Expr) → Fits (match_step (found (plain y)) b) (becomes (plain y) b)
step_fits (p.Hole x) b = fill_fits x b
step_fits y b =
    subst (λ c. Fits (match_layer (found (plain y)) (out-Expr b)) (becomes (plain y) c)) (roll-out-Expr b)
    (layer_fits y (out-Expr b))

matched : (y : Pattern-F Pattern) (b : Expr) → match_at (roll-Pattern y) b ≡ match_step (found y) b
matched y b = ap (λ (f : Expr → Match). f b) (fold-roll-Pattern (Expr → Match) match_step y)

made : (y : Pattern-F Pattern) (s : Substitution) → filled (roll-Pattern y) s ≡ filled_step (fillings y) s
made y s = ap (λ (f : Substitution → Expr). f s) (fold-roll-Pattern (Substitution → Expr) filled_step y)

node_sound : (y : Pattern-F Told) → Sound (roll-Pattern (plain y))
node_sound y b fs gs h s agrees =
    let there : match_step (found (plain y)) b fs ≡ Some gs = sym (ap (λ (m : Match). m fs) (matched (plain y) b)) ∙ h in
    let r = step_fits y b fs gs there s agrees in
    (r.0, made (plain y) s ∙ r.1)

sound : (a : Pattern) → Sound a
sound = ind-Pattern Sound (λ z y is. subst (λ r. Sound (roll-Pattern r)) is (node_sound y))

-- where a substitution agrees with the holes that were met, a match goes on and it agrees with its holes
abbrev Goes : Substitution → Match → Type 0
Goes s m = (fs : Holes) → Agrees s fs → (gs : Holes) × (m fs ≡ Some gs) × Agrees s gs

only_goes : (s : Substitution) (test : Bool) → test ≡ true → Goes s (only_if test)
only_goes s true h fs agrees = (fs, refl, agrees)
only_goes s false h fs agrees = absurd cc

both_go : (s : Substitution) (m n : Match) → Goes s m → Goes s n → Goes s (both m n)
both_go s m n one two fs agrees =
    let (hs, first, half) = one fs agrees in
    let (gs, second, all) = two hs half in
    (gs, ap (option_and_then n) first ∙ second, all)

-- a hole with its own expression
its_hole : (s : Substitution) (x y : Name) (b : Expr) → stands_for y (met x (s x)) ≡ Some b → s y ≡ b
its_hole s x y b h = by (same x y) refl
  where
    by : (t : Bool) → same x y ≡ t → s y ≡ b
    by true is =
        let equal : x ≡ y = same_is x y is in
        let here : stands_for y (met x (s x)) ≡ Some (s x) =
        subst (λ z. stands_for z (met x (s x)) ≡ Some (s x)) equal (its_own x (s x)) in
        let found : s x ≡ b = cc in
        ap s (sym equal) ∙ found
    by false is = let here : stands_for y (met x (s x)) ≡ None = others x y (s x) is in absurd cc

agrees_more : (s : Substitution) (x : Name) (fs : Holes) → Agrees s fs → Agrees s (fs ++ met x (s x))
agrees_more s x fs agrees y b h = by (stands_for y fs) refl
  where
    by : (o : Option Expr) → stands_for y fs ≡ o → s y ≡ b
    by (Some c) is =
        let here : stands_for y (fs ++ met x (s x)) ≡ Some c = still x y (s x) c fs is in
        let out : c ≡ b = cc in
        agrees y c is ∙ out
    by None is = its_hole s x y b (sym (ends x y (s x) fs is) ∙ h)

fill_goes : (s : Substitution) (x : Name) → Goes s (fill x (s x))
fill_goes s x fs agrees = by (stands_for x fs) refl
  where
    by : (o : Option Expr) → stands_for x fs ≡ o → (gs : Holes) × (fill x (s x) fs ≡ Some gs) × Agrees s gs
    by (Some b) is =
        let equal : same_expr b (s x) ≡ true = expr_same b (s x) (sym (agrees x b is)) in
        let (gs, one, all) = only_goes s (same_expr b (s x)) equal fs agrees in
        (gs, fill_old x (s x) b fs is ∙ one, all)
    by None is = (fs ++ met x (s x), fill_new x (s x) fs is, agrees_more s x fs agrees)

abbrev Complete : Pattern → Type 0
Complete a = (s : Substitution) → Goes s (match_at a (filled a s))

abbrev Known : Type 0
Known = (a : Pattern) × Complete a

abbrev bare : Pattern-F Known → Pattern-F Pattern
bare y = map-Pattern Known Pattern (λ k. k.0) y

-- a layer of an expression is what it was made of
read_layer : (y : Pattern-F (Expr → Match)) (s : Substitution) (z : Expr-F Expr) → Goes s (match_layer y z)
    → Goes s (match_layer y (out-Expr (roll-Expr z)))
read_layer y s z h = subst (λ w. Goes s (match_layer y w)) (sym (out-roll-Expr z)) h

test_goes : (s : Substitution) (t : Bool) (m : Match) → t ≡ true → Goes s m → Goes s (both (only_if t) m)
test_goes s t m h goes = both_go s (only_if t) m (only_goes s t h) goes

-- what a layer becomes is a layer with its operands
at_layer : (y : Pattern-F (Expr → Match)) (s : Substitution) (z : Expr-F Expr) (b : Expr) → roll-Expr z ≡ b
    → Goes s (match_layer y z) → Goes s (match_layer y (out-Expr b))
at_layer y s z b is h = subst (λ c. Goes s (match_layer y (out-Expr c))) is (read_layer y s z h)

step_goes : (y : Pattern-F Known) (s : Substitution) → Goes s (match_step (found (bare y)) (filled_step (fillings (bare y)) s))
step_goes (p.Hole x) s = fill_goes s x
step_goes (p.Lit n) s =
    at_layer (found (bare (p.Lit n))) s (e.Lit n) _ (v.rolls-Lit n) (only_goes s (nat_eq n n) (number_self n))
step_goes (p.Var x) s = at_layer (found (bare (p.Var x))) s (e.Var x) _ (v.rolls-Var x) (only_goes s (same x x) (same_self x))
step_goes (p.Length x) s =
    at_layer (found (bare (p.Length x))) s (e.Length x) _ (v.rolls-Length x) (only_goes s (same x x) (same_self x))
step_goes (p.Bin o a b) s =
    let c = filled a.0 s in
    let d = filled b.0 s in
    at_layer (found (bare (p.Bin o a b))) s (e.Bin o c d) _ (v.rolls-Bin o c d)
    (test_goes s (same_op o o) (both (match_at a.0 c) (match_at b.0 d)) (op_self o)
    (both_go s (match_at a.0 c) (match_at b.0 d) (a.1 s) (b.1 s)))
step_goes (p.Test o a b) s =
    let c = filled a.0 s in
    let d = filled b.0 s in
    at_layer (found (bare (p.Test o a b))) s (e.Test o c d) _ (v.rolls-Test o c d)
    (test_goes s (same_cmp o o) (both (match_at a.0 c) (match_at b.0 d)) (cmp_self o)
    (both_go s (match_at a.0 c) (match_at b.0 d) (a.1 s) (b.1 s)))
step_goes (p.Not a) s =
    let c = filled a.0 s in at_layer (found (bare (p.Not a))) s (e.Not c) _ (v.rolls-Not c) (a.1 s)
step_goes (p.Both a b) s =
    let c = filled a.0 s in
    let d = filled b.0 s in
    at_layer (found (bare (p.Both a b))) s (e.Both c d) _ (v.rolls-Both c d)
    (both_go s (match_at a.0 c) (match_at b.0 d) (a.1 s) (b.1 s))
step_goes (p.Either a b) s =
    let c = filled a.0 s in
    let d = filled b.0 s in
    at_layer (found (bare (p.Either a b))) s (e.Either c d) _ (v.rolls-Either c d)
    (both_go s (match_at a.0 c) (match_at b.0 d) (a.1 s) (b.1 s))
step_goes (p.ToWord a) s =
    let c = filled a.0 s in at_layer (found (bare (p.ToWord a))) s (e.ToWord c) _ (v.rolls-ToWord c) (a.1 s)
step_goes (p.ToByte a) s =
    let c = filled a.0 s in at_layer (found (bare (p.ToByte a))) s (e.ToByte c) _ (v.rolls-ToByte c) (a.1 s)
step_goes (p.Get x a) s =
    let c = filled a.0 s in
    at_layer (found (bare (p.Get x a))) s (e.Get x c) _ (v.rolls-Get x c)
    (test_goes s (same x x) (match_at a.0 c) (same_self x) (a.1 s))
step_goes (p.Tab t ns a) s =
    let c = filled a.0 s in
    let table : same_scalar t t && same_entries ns ns ≡ true = rw (scalar_self t, same_self ns) refl in
    at_layer (found (bare (p.Tab t ns a))) s (e.Tab t ns c) _ (v.rolls-Tab t ns c)
    (test_goes s (same_scalar t t && same_entries ns ns) (match_at a.0 c) table (a.1 s))

node_complete : (y : Pattern-F Known) → Complete (roll-Pattern (bare y))
node_complete y s =
    subst (Goes s) (sym (matched (bare y) (filled (roll-Pattern (bare y)) s)))
    (subst (λ b. Goes s (match_step (found (bare y)) b)) (sym (made (bare y) s)) (step_goes y s))

complete : (a : Pattern) → Complete a
complete = ind-Pattern Complete (λ z y is. subst (λ r. Complete (roll-Pattern r)) is (node_complete y))

-- what the holes that were met give, and any expression for others
abbrev or_else : Expr → Option Expr → Expr
or_else b (Some a) = a
or_else b None = b

abbrev given : Expr → Holes → Substitution
given b fs x = or_else b (stands_for x fs)

given_agrees : (b : Expr) (fs : Holes) → Agrees (given b fs) fs
given_agrees b fs x a h = ap (or_else b) h

pub match_is_instance : (a : Pattern) (b : Expr) → matches a b ≡ true → IsInstance a b
match_is_instance a b h = by (match_at a b []) refl
  where
    by : (o : Option Holes) → match_at a b [] ≡ o → IsInstance a b
    by (Some gs) is = (given b gs, (sound a b [] gs is (given b gs) (given_agrees b gs)).1)
    by None is = let none : matches a b ≡ false = rw is refl in absurd cc

none_met : (s : Substitution) → Agrees s []
none_met s x b h = absurd cc

pub instance_is_matched : (a : Pattern) (b : Expr) → IsInstance a b → matches a b ≡ true
instance_is_matched a b (s, is) =
    let (gs, goes, all) = complete a s [] (none_met s) in
    let there : matches a (filled a s) ≡ true = rw goes refl in
    subst (λ c. matches a c ≡ true) is there
