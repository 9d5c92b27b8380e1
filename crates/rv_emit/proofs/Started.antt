-- Once the arguments that are live are in their places, the code over places may start.
use Rattle.std.proofs.Common.{◌≡◌, ◌≢◌, ℕ, zero, suc, ◌+◌, ◌<◌, ◌≤◌, ◌⊎◌, inl, inr, Bool, true, false, List, [], ◌∷◌, ◌++◌}
use Rattle.std.proofs.Common.{length, length-append, Option, Some, None, slice_get, slice_index_or, All, if◌then◌else◌, refl, sym}
use Rattle.std.proofs.Common.{ap, ◌∙◌, subst, arith}
use Rattle.std.specs.List.{AllByRecursion}
use Rattle.std.specs.FinMap.{get, insert, get-empty}
use Rattle.std.specs.Ordering.{nat_cmp}
use Rattle.std.proofs.lemmas.Bool.{cases_eq}
use Rattle.flat_lang.specs.State.{Vars}
use Rattle.flat_lang.specs.declared.flat.Flat.{Flat}
use Rattle.flat_lang.proofs.laws.Paths.{start_alike}
use Rattle.reg_alloc.specs.declared.plan.Plan.{Plan}
use Rattle.reg_alloc.specs.Kept.{place_number, Starts}
use Rattle.reg_alloc.specs.Marks.{below}
use Rattle.reg_alloc.specs.PlanOk.{PlanOk}
use Rattle.reg_alloc.proofs.laws.Numbers.{numbers_differ}
use Rattle.rv_machine.specs.State.{register}
use Rattle.rv_memory.proofs.laws.Numbers.{get-insert_same, get-insert_other}
use Rattle.rv_emit.specs.Whole.{is_live, live_arguments}
use Rattle.rv_emit.specs.Ready.{arguments}
use Rattle.rv_emit.proofs.Standing.{slice_get-append_left}
use Rattle.rv_emit.proofs.Entry.{arrived, AreApart, arrived_at}
use Rattle.rv_emit.proofs.Elements.{entry_of}

-- what an argument holds
argument_is : (regs : List ℕ) (n x v : ℕ) → get (arguments regs n) x ≡ Some v → (x < n) × (v ≡ register regs (10 + x))
argument_is regs zero x v found = absurd (let none = get-empty {K = ℕ} {X = ℕ} nat_cmp x in cc)
argument_is regs (suc n) x v found = by_case (λ h. argument_is regs n x v h) (cases_eq x n)
  where
    by_case : (get (arguments regs n) x ≡ Some v → (x < n) × (v ≡ register regs (10 + x))) → (x ≡ n) ⊎ (x ≡ n → ⊥)
        → (x < suc n) × (v ≡ register regs (10 + x))
    by_case rest (inl same) =
        let there = get-insert_same (arguments regs n) n (register regs (10 + n)) in
        let here : get (insert (arguments regs n) n (register regs (10 + n))) n
        ≡ Some v = subst (λ z. get (insert (arguments regs n) n (register regs (10 + n))) z ≡ Some v) same found in
        let is : register regs (10 + n) ≡ v = cc in
        (omega arith, sym is ∙ ap (λ z. register regs (10 + z)) (sym same))
    by_case rest (inr other) =
        let before = rest (sym (get-insert_other (arguments regs n) n (register regs (10 + n)) x other) ∙ found) in
        let less = before.0 in
        (omega arith, before.1)

-- a number below n with a property is listed, and only such numbers are
record Listed (xs : List ℕ) (x : ℕ) : Type 0 where
  place : ℕ
  is : slice_get xs place ≡ Some x

last_listed : (xs : List ℕ) (x : ℕ) → Listed (xs ++ x ∷ []) x
last_listed [] x = record { place = 0; is = refl }
last_listed (y ∷ xs) x = let rest = last_listed xs x in record { place = suc rest.place; is = rest.is }

first_listed : (xs ys : List ℕ) (x : ℕ) → Listed xs x → Listed (xs ++ ys) x
first_listed xs ys x l = record { place = l.place; is = slice_get-append_left xs ys l.place x l.is }

below_listed : (n : ℕ) (test : ℕ → Bool) (x : ℕ) → x < n → test x ≡ true → Listed (below n test) x
below_listed zero test x less passes = absurd (omega arith)
below_listed (suc n) test x less passes = by_test (λ h. below_listed n test x h passes) (test n) refl (cases_eq x n)
  where
    by_test : (x < n → Listed (below n test) x) → (b : Bool) → test n ≡ b → (x ≡ n) ⊎ (x ≡ n → ⊥)
        → Listed (if b then below n test ++ n ∷ [] else below n test) x
    by_test rest true is (inl same) = subst (λ z. Listed (below n test ++ n ∷ []) z) (sym same) (last_listed (below n test) n)
    by_test rest false is (inl same) = absurd (let there : test x ≡ test n = ap test same in cc)
    by_test rest true is (inr other) = first_listed (below n test) (n ∷ []) x (rest (omega arith))
    by_test rest false is (inr other) = rest (omega arith)

all_snoc : (P : ℕ → Type 0) (xs : List ℕ) (x : ℕ) → AllByRecursion P xs → P x → AllByRecursion P (xs ++ x ∷ [])
all_snoc P [] x all last = (last, tt)
all_snoc P (y ∷ xs) x all last = (all.0, all_snoc P xs x all.1 last)

pub all_map : (P Q : ℕ → Type 0) (xs : List ℕ) → ((x : ℕ) → P x → Q x) → AllByRecursion P xs → AllByRecursion Q xs
all_map P Q [] f all = tt
all_map P Q (x ∷ xs) f all = (f x all.0, all_map P Q xs f all.1)

below_all : (n : ℕ) (test : ℕ → Bool) → AllByRecursion (λ x. (x < n) × (test x ≡ true)) (below n test)
below_all zero test = tt
below_all (suc n) test = by_test
    (all_map (λ x. (x < n) × (test x ≡ true)) (λ x. (x < suc n) × (test x ≡ true)) (below n test)
    (λ x h. let less = h.0 in (omega arith, h.1)) (below_all n test)) (test n) refl
  where
    by_test : AllByRecursion (λ x. (x < suc n) × (test x ≡ true)) (below n test) → (b : Bool) → test n ≡ b
        → AllByRecursion (λ x. (x < suc n) × (test x ≡ true)) (if b then below n test ++ n ∷ [] else below n test)
    by_test rest true is = all_snoc (λ x. (x < suc n) × (test x ≡ true)) (below n test) n rest (omega arith, is)
    by_test rest false is = rest

pub length-below : (n : ℕ) (test : ℕ → Bool) → length (below n test) ≤ n
length-below zero test = omega arith
length-below (suc n) test = by_test (length-below n test) (test n)
  where
    by_test : length (below n test) ≤ n → (b : Bool) → length (if b then below n test ++ n ∷ [] else below n test) ≤ suc n
    by_test rest true = let size = length-append (below n test) (n ∷ []) in omega arith
    by_test rest false = omega arith

recursion_at : (P : ℕ → Type 0) (xs : List ℕ) (i x : ℕ) → AllByRecursion P xs → slice_get xs i ≡ Some x → P x
recursion_at P [] i x all found = absurd (let bad : ◌≡◌ {A = Option ℕ} None (Some x) = found in cc)
recursion_at P (y ∷ xs) zero x all found = let e : y ≡ x = cc in subst P e all.0
recursion_at P (y ∷ xs) (suc i) x all found = recursion_at P xs i x all.1 found

-- the arguments that are live are arguments
pub live_small : (f : Flat) (n : ℕ) → f.args ≤ n → All (λ x. x < n) (live_arguments f)
live_small f n few = λ k d below.
    let x = slice_index_or (live_arguments f) k d in
    let found = entry_of (live_arguments f) k d below in
    let less = (recursion_at (λ x. (x < f.args) × (is_live f x ≡ true)) (live_arguments f) k x (below_all f.args (is_live f))
    found).0 in
    omega arith

pub live_few : (f : Flat) → length (live_arguments f) ≤ f.args
live_few f = length-below f.args (is_live f)

module _ (f : Flat) (plan : Plan) (ok : PlanOk f plan) where
  abbrev live : ℕ → Bool
  live = is_live f

  pub arguments_live : AllByRecursion (λ x. (x < f.args) × (live x ≡ true)) (live_arguments f)
  arguments_live = below_all f.args live

  -- the live arguments have places of their own
  apart : (y : ℕ) → y < f.args → live y ≡ true → AreApart (place_number plan) y (live_arguments f)
  apart y less lives = all_map (λ x. (x < f.args) × (live x ≡ true)) (λ x. x ≢ y → place_number plan x ≢ place_number plan y)
      (live_arguments f)
      (λ x h other same. numbers_differ f.vars plan.places ok.one_each ok.places x y other
      (ok.arguments x y h.0 less (0, h.1) (0, lives) other) same) arguments_live

  pub starts : (regs : List ℕ) (places : Vars)
      → Starts f plan (arguments regs f.args) (arrived (place_number plan) regs (live_arguments f) places)
  starts regs places x v lives found =
      let is = argument_is regs f.args x v found in
      let at_once : live x ≡ true = start_alike 0 f x ∙ sym (start_alike lives.0 f x) ∙ lives.1 in
      let there = below_listed f.args live x is.0 at_once in
      arrived_at (place_number plan) regs (live_arguments f) places there.place x there.is (apart x is.0 at_once)
      ∙ ap Some (sym is.1)
