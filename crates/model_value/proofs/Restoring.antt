-- A block after which the names that it does not list have their values from before carries the listed ones over.
use Rattle.std.proofs.Common.{◌≡◌, refl, sym, ◌∙◌, ap, arith, ℕ, zero, suc, ◌+◌, ◌<◌, Bool, true, false, ◌||◌, List, [], ◌∷◌}
use Rattle.std.proofs.Common.{◌++◌, map, fold, length, drop, set, get_or, Option, Some, None, if◌then◌else◌}
use Rattle.rup_base.specs.declared.arg.Arg.{Arg}
use Rattle.rup_base.specs.declared.arg.Arg.TheVariants.{Word}
use Rattle.model_syntax.specs.declared.stmt.Stmt.{Stmt}
use Rattle.model_syntax.specs.Environment.{Env, value_of, put, put_some, carry}
use Rattle.model_syntax.specs.Names.{Name, same, listed}
use Rattle.model_syntax.specs.Value.{run, in_turn, loop_turn}
use Rattle.model_syntax.proofs.laws.Bindings.{same_is, value_here, value_else}
use Rattle.model_value.specs.Bindings.{SameValues, Assigns}
use Rattle.model_value.specs.Blocks.{changes, add, come_back, handed_back, Restores}
use Rattle.model_value.proofs.Puts.{value_put, same_back}
use Rattle.model_value.proofs.Changes.{AllMay, BlockMay, block_kept}

-- Names that are listed.

or_more : (p q r : Bool) → (p || (q || r)) ≡ ((p || q) || r)
or_more true q r = refl
or_more false q r = refl

listed_both : (y : Name) (xs zs : List Name) → listed y (xs ++ zs) ≡ (listed y xs || listed y zs)
listed_both y [] zs = refl
listed_both y (x ∷ xs) zs = ap (λ b. same y x || b) (listed_both y xs zs) ∙ or_more (same y x) (listed y xs) (listed y zs)

none_more : (p l : Bool) → (p || (if l then false else false)) ≡ p
none_more true l = refl
none_more false true = refl
none_more false false = refl

-- a name is among the names with one more
listed_add : (y : Name) (xs back : List Name) (z : Name)
    → listed y (add xs back z) ≡ (listed y back || (if listed y xs then false else same y z))
listed_add y xs back z = by (listed z xs) refl (listed z back) refl (same y z) refl
  where
    by : (l : Bool) → listed z xs ≡ l → (b : Bool) → listed z back ≡ b → (one : Bool) → same y z ≡ one
        → listed y (add xs back z) ≡ (listed y back || (if listed y xs then false else same y z))
    by true l b is true one =
        let in_list : listed y xs ≡ true = ap (λ n. listed n xs) (same_is y z one) ∙ l in
        rw l (sym (none_more (listed y back) true) ∙ sym (ap (λ c. listed y back || (if c then false else same y z)) in_list))
    by true l b is false one = rw (l, one) (sym (none_more (listed y back) (listed y xs)))
    by false l true is true one =
        let there : listed y back ≡ true = ap (λ n. listed n back) (same_is y z one) ∙ is in
        rw (l, is) (there ∙ sym (ap (λ c. c || (if listed y xs then false else same y z)) there))
    by false l true is false one = rw (l, is, one) (sym (none_more (listed y back) (listed y xs)))
    by false l false is true one =
        let not_in : listed y xs ≡ false = ap (λ n. listed n xs) (same_is y z one) ∙ l in
        rw (l, is) (listed_both y back (z ∷ []) ∙ ap (λ c. listed y back || (c || false)) one
        ∙ sym (ap (λ c. listed y back || (if c then false else same y z)) not_in ∙ ap (λ c. listed y back || c) one))
    by false l false is false one =
        rw (l, is) (listed_both y back (z ∷ []) ∙ ap (λ c. listed y back || (c || false)) one ∙ none_more (listed y back) false
        ∙ sym (ap (λ c. listed y back || (if listed y xs then false else c)) one ∙ none_more (listed y back) (listed y xs)))

either : (p q r l : Bool) → ((p || (if l then false else q)) || (if l then false else r)) ≡ (p || (if l then false else (q || r)))
either true q r l = refl
either false q r true = refl
either false q r false = refl

listed_added : (y : Name) (xs back zs : List Name)
    → listed y (fold (add xs) back zs) ≡ (listed y back || (if listed y xs then false else listed y zs))
listed_added y xs back [] = sym (none_more (listed y back) (listed y xs))
listed_added y xs back (z ∷ zs) =
    listed_added y xs (add xs back z) zs ∙ ap (λ b. b || (if listed y xs then false else listed y zs)) (listed_add y xs back z)
    ∙ either (listed y back) (same y z) (listed y zs) (listed y xs)

-- a statement may change the name
abbrev changed_in : Name → List Stmt → Bool
changed_in y [] = false
changed_in y (w ∷ ws) = listed y (changes w) || changed_in y ws

listed_gathered : (y : Name) (xs back : List Name) (ws : List Stmt)
    → listed y (fold (λ so_far w. fold (add xs) so_far (changes w)) back ws)
    ≡ (listed y back || (if listed y xs then false else changed_in y ws))
listed_gathered y xs back [] = sym (none_more (listed y back) (listed y xs))
listed_gathered y xs back (w ∷ ws) =
    listed_gathered y xs (fold (add xs) back (changes w)) ws
    ∙ ap (λ b. b || (if listed y xs then false else changed_in y ws)) (listed_added y xs back (changes w))
    ∙ either (listed y back) (listed y (changes w)) (changed_in y ws) (listed y xs)

comes_back : (y : Name) (xs : List Name) (ws : List Stmt)
    → listed y (come_back xs ws) ≡ (if listed y xs then false else changed_in y ws)
comes_back y xs ws = listed_gathered y xs [] ws

neither : (p q : Bool) → (p || q) ≡ false → (p ≡ false) × (q ≡ false)
neither true q is = absurd (let bad : true ≡ false = is in cc)
neither false q is = (refl, is)

-- a listed name does not come back
stays : (y : Name) (xs : List Name) (ws : List Stmt) → listed y xs ≡ true → listed y (come_back xs ws) ≡ false
stays y xs ws in_list = comes_back y xs ws ∙ ap (λ b. if b then false else changed_in y ws) in_list

-- Names that carry over.

some_else : (x : Name) (o : Option Arg) (env : Env) (y : Name) → same y x ≡ false → value_of (put_some x o env) y ≡ value_of env y
some_else x None env y apart = refl
some_else x (Some v) env y apart = value_else x y v env (same_back x y ∙ apart)

carried_else : (xs : List Name) (inner outer : Env) (y : Name) → listed y xs ≡ false
    → value_of (carry xs inner outer) y ≡ value_of outer y
carried_else [] inner outer y out = refl
carried_else (x ∷ xs) inner outer y out =
    let p = neither (same y x) (listed y xs) out in
    carried_else xs inner (put_some x (value_of inner x) outer) y p.1 ∙ some_else x (value_of inner x) outer y p.0

-- a name without a value carries none
carried_none : (xs : List Name) (inner outer : Env) (y : Name) → value_of inner y ≡ None
    → value_of (carry xs inner outer) y ≡ value_of outer y
carried_none [] inner outer y none = refl
carried_none (x ∷ xs) inner outer y none = carried_none xs inner (put_some x (value_of inner x) outer) y none ∙ by (same y x) refl
  where
    by : (one : Bool) → same y x ≡ one → value_of (put_some x (value_of inner x) outer) y ≡ value_of outer y
    by true one = let gone : value_of inner x ≡ None = ap (value_of inner) (sym (same_is y x one))
        ∙ none in ap (λ o. value_of (put_some x o outer) y) gone
    by false one = some_else x (value_of inner x) outer y one

carried_some : (xs : List Name) (inner outer : Env) (y : Name) (v : Arg) → listed y xs ≡ true → value_of inner y ≡ Some v
    → value_of (carry xs inner outer) y ≡ Some v
carried_some [] inner outer y v is at = absurd (let bad : false ≡ true = is in cc)
carried_some (x ∷ xs) inner outer y v is at =
    by (listed y xs) refl (same y x) refl (λ o more. carried_some xs inner o y v more at)
  where
    by : (b : Bool) → listed y xs ≡ b → (d : Bool) → same y x ≡ d
        → ((o : Env) → listed y xs ≡ true → value_of (carry xs inner o) y ≡ Some v)
        → value_of (carry xs inner (put_some x (value_of inner x) outer)) y ≡ Some v
    by true e d f more = more (put_some x (value_of inner x) outer) e
    by false e true f more =
        let one : y ≡ x = same_is y x f in
        let there : value_of inner x ≡ Some v = ap (value_of inner) (sym one) ∙ at in
        let found : value_of (put x v outer) y ≡ Some v = ap (value_of (put x v outer)) one ∙ value_here x v outer in
        carried_else xs inner (put_some x (value_of inner x) outer) y e ∙ ap (λ o. value_of (put_some x o outer) y) there ∙ found
    by false e false f more =
        let off : listed y (x ∷ xs) ≡ false = rw (f, e) refl in
        absurd (let bad : false ≡ true = sym off ∙ is in cc)

-- a listed name has its value from the end, where the end lost none
carried : (xs : List Name) (inner outer : Env) (y : Name) → listed y xs ≡ true
    → (value_of inner y ≡ None → value_of outer y ≡ None)
    → value_of (carry xs inner outer) y ≡ value_of inner y
carried xs inner outer y is lost = by (value_of inner y) refl
  where
    by : (o : Option Arg) → value_of inner y ≡ o → value_of (carry xs inner outer) y ≡ value_of inner y
    by None at = carried_none xs inner outer y at ∙ lost at ∙ sym at
    by (Some v) at = carried_some xs inner outer y v is at ∙ sym at

-- What a block leaves.

module _ (y : Name) (env : Env) where
  abbrev Loses : Env → Type 0
  Loses inner = value_of inner y ≡ None → value_of env y ≡ None

  put_loses : (z : Name) (v : Arg) (inner : Env) → Unit {0} → Loses inner → Loses (put z v inner)
  put_loses z v inner may loses none = by (same z y) refl
    where
      by : (one : Bool) → same z y ≡ one → value_of env y ≡ None
      by true one =
          let there : value_of (put z v inner) y ≡ Some v = value_put z y v inner
          ∙ ap (λ b. if b then Some v else value_of inner y) one in
          let bad : Some v ≡ None = sym there ∙ none in absurd (cc)
      by false one = loses (sym (value_else z y v inner one) ∙ none)

  all_may : (ws : List Stmt) → BlockMay Loses (λ z. Unit {0}) put_loses ws
  all_may [] = tt
  all_may (w ∷ ws) = ((λ z is. tt), all_may ws)

  -- a name that has a value has one at the end
  block_loses : (ws : List Stmt) (start : Env) → Loses start → Loses (in_turn (map run ws) start)
  block_loses ws start loses = block_kept Loses (λ z. Unit {0}) put_loses ws (all_may ws) start loses

  abbrev Keeps : Env → Type 0
  Keeps inner = value_of inner y ≡ value_of env y

  abbrev Apart : Name → Type 0
  Apart z = same z y ≡ false

  put_keeps : (z : Name) (v : Arg) (inner : Env) → Apart z → Keeps inner → Keeps (put z v inner)
  put_keeps z v inner apart keeps = value_else z y v inner apart ∙ keeps

  apart_all : (xs : List Name) → listed y xs ≡ false → AllMay Keeps Apart put_keeps xs
  apart_all xs out z is = by (same z y) refl
    where
      by : (one : Bool) → same z y ≡ one → same z y ≡ false
      by true one = let bad : true ≡ false = sym is ∙ ap (λ n. listed n xs) (same_is z y one) ∙ out in absurd (cc)
      by false one = one

  apart_block : (ws : List Stmt) → changed_in y ws ≡ false → BlockMay Keeps Apart put_keeps ws
  apart_block [] gone = tt
  apart_block (w ∷ ws) gone = let p = neither (listed y (changes w)) (changed_in y ws) gone in
      (apart_all (changes w) p.0, apart_block ws p.1)

  -- a name that is not listed and does not come back keeps its value
  block_keeps : (xs : List Name) (ws : List Stmt) (start : Env) → listed y xs ≡ false → listed y (come_back xs ws) ≡ false
      → Keeps start → Keeps (in_turn (map run ws) start)
  block_keeps xs ws start out gone keeps =
      let none : changed_in y ws ≡ false = ap (λ b. if b then false else changed_in y ws) (sym out) ∙ sym (comes_back y xs ws)
      ∙ gone in
      block_kept Keeps Apart put_keeps ws (apart_block ws none) start keeps

-- Where what comes back is what may change and is not listed, the listed names carry over.
carries : (back xs : List Name) (env end : Env) → ((y : Name) → listed y xs ≡ true → listed y back ≡ false)
    → ((y : Name) → listed y xs ≡ false → listed y back ≡ false → value_of end y ≡ value_of env y)
    → ((y : Name) → value_of end y ≡ None → value_of env y ≡ None) → Restores back env end (carry xs end env)
carries back xs env end stay keep lose = λ y. by y (listed y xs) refl (listed y back) refl
  where
    by : (y : Name) (l : Bool) → listed y xs ≡ l → (b : Bool) → listed y back ≡ b
        → value_of (carry xs end env) y ≡ (if listed y back then value_of env y else value_of end y)
    by y true l b is = carried xs end env y l (lose y) ∙ sym (ap (λ c. if c then value_of env y else value_of end y) (stay y l))
    by y false l true is = carried_else xs end env y l ∙ sym (ap (λ c. if c then value_of env y else value_of end y) is)
    by y false l false is = carried_else xs end env y l ∙ sym (keep y l is)
        ∙ sym (ap (λ c. if c then value_of env y else value_of end y) is)

-- what the block leaves may be replaced by what tells the same
pub restores_alike : (back : List Name) (outer inner end after : Env) → SameValues inner end → Restores back outer inner after
    → Restores back outer end after
restores_alike back outer inner end after alike restores = λ y. restores y
    ∙ (λ j. if listed y back then value_of outer y else alike y j)

pub block_carries : (xs : List Name) (ws : List Stmt) (env : Env)
    → Restores (come_back xs ws) env (in_turn (map run ws) env) (carry xs (in_turn (map run ws) env) env)
block_carries xs ws env =
    carries (come_back xs ws) xs env (in_turn (map run ws) env) (λ y. stays y xs ws)
    (λ y out gone. block_keeps y env xs ws env out gone refl) (λ y. block_loses y env ws env (λ none. none))

module _ (x : Name) (i : ℕ) (xs : List Name) (ws : List Stmt) (env : Env) where
  abbrev front : List Name
  front = add xs [] x

  abbrev start : Env
  start = put x (Word i) env

  counter_stays : (y : Name) → listed y xs ≡ true → listed y (front ++ come_back xs ws) ≡ false
  counter_stays y in_list =
      listed_both y front (come_back xs ws)
      ∙ (λ j. (listed_add y xs [] x ∙ ap (λ b. if b then false else same y x) in_list) j || stays y xs ws in_list j)

  turn_keeps : (y : Name) → listed y xs ≡ false → listed y (front ++ come_back xs ws) ≡ false
      → value_of (in_turn (map run ws) start) y ≡ value_of env y
  turn_keeps y out gone =
      let p = neither (listed y front) (listed y (come_back xs ws)) (sym (listed_both y front (come_back xs ws)) ∙ gone) in
      let apart : same y x ≡ false = ap (λ b. if b then false else same y x) (sym out) ∙ sym (listed_add y xs [] x) ∙ p.0 in
      block_keeps y env xs ws start out p.1 (value_else x y (Word i) env (same_back x y ∙ apart))

  pub turn_carries : Restores (front ++ come_back xs ws) env (in_turn (map run ws) start) (loop_turn x xs (map run ws) i env)
  turn_carries =
      carries (front ++ come_back xs ws) xs env (in_turn (map run ws) start) counter_stays turn_keeps
      (λ y. block_loses y env ws start (put_loses y env x (Word i) env tt (λ none. none)))

  -- a name that is not the counter has its value from before the turn, or from its end
  pub other_carries : (y : Name) → listed y front ≡ false
      → value_of (loop_turn x xs (map run ws) i env) y
      ≡ (if listed y (come_back xs ws) then value_of env y else value_of (in_turn (map run ws) start) y)
  other_carries y out =
      turn_carries y
      ∙ ap (λ b. if b then value_of env y else value_of (in_turn (map run ws) start) y)
      (listed_both y front (come_back xs ws) ∙ ap (λ b. b || listed y (come_back xs ws)) out)

  -- the counter has its value from before the turn
  pub counter_carries : (y : Name) → listed y front ≡ true → value_of (loop_turn x xs (map run ws) i env) y ≡ value_of env y
  counter_carries y is =
      turn_carries y
      ∙ ap (λ b. if b then value_of env y else value_of (in_turn (map run ws) start) y)
      (listed_both y front (come_back xs ws) ∙ ap (λ b. b || listed y (come_back xs ws)) is)

-- another name is not the counter
pub not_hidden : (x y : Name) (xs : List Name) → same x y ≡ false → listed y (add xs [] x) ≡ false
not_hidden x y xs apart =
    listed_add y xs [] x ∙ ap (λ b. if listed y xs then false else b) (same_back y x ∙ apart) ∙ none_more false (listed y xs)

-- What was kept aside.

pub front_of : {A : Type 0} (xs : List A) (i : ℕ) (d : A) → i < length xs → drop i xs ≡ get_or xs i d ∷ drop (suc i) xs
front_of [] i d h = absurd (omega arith)
front_of (x ∷ xs) zero d h = refl
front_of (x ∷ xs) (suc i) d h = front_of xs i d (omega arith)

behind : {A : Type 0} (xs : List A) (i : ℕ) (a : A) → drop (suc i) (set xs i a) ≡ drop (suc i) xs
behind [] i a = refl
behind (x ∷ xs) zero a = refl
behind (x ∷ xs) (suc i) a = behind xs i a

pub all_handed_back : (back : List Name) (outer : Env) (of : Name → Option Arg) (y : Name)
    → handed_back back (map (value_of outer) back) of y ≡ (if listed y back then value_of outer y else of y)
all_handed_back [] outer of y = refl
all_handed_back (x ∷ xs) outer of y = all_handed_back xs outer (λ z. if same x z then value_of outer x else of z) y
    ∙ by (same y x) refl (listed y xs)
  where
    by : (one : Bool) → same y x ≡ one → (l : Bool)
        → (if l then value_of outer y else (if same x y then value_of outer x else of y))
        ≡ (if (same y x || l) then value_of outer y else of y)
    by true one true = rw one refl
    by true one false = rw (same_back x y, one) (ap (value_of outer) (sym (same_is y x one)))
    by false one true = rw one refl
    by false one false = rw (same_back x y, one) refl

pub handed_alike : (xs : List Name) (vs : List (Option Arg)) (of at : Name → Option Arg) → ((y : Name) → of y ≡ at y) → (y : Name)
    → handed_back xs vs of y ≡ handed_back xs vs at y
handed_alike [] vs of at alike y = alike y
handed_alike (x ∷ xs) [] of at alike y = alike y
handed_alike (x ∷ xs) (v ∷ vs) of at alike y =
    handed_alike xs vs (λ z. if same x z then v else of z) (λ z. if same x z then v else at z)
    (λ z. λ j. if same x z then v else alike z j) y

-- a name more is handed back
pub one_handed_back : (back : List Name) (kept : List (Option Arg)) (i : ℕ) (x : Name) (v n : Option Arg) (before after : Env)
    (end : Name → Option Arg)
    → i < length back → length kept ≡ length back → x ≡ get_or back i x → v ≡ get_or kept i v → Assigns x v before after
    → ((y : Name) → handed_back (drop i back) (drop i kept) (value_of before) y ≡ end y)
    → (y : Name) → handed_back (drop (i + 1) back) (drop (i + 1) (set kept i n)) (value_of after) y ≡ end y
one_handed_back back kept i x v n before after end inside long is of gives so_far y =
    let one : i + 1 ≡ suc i = omega arith in
    let held : i < length kept = omega (arith, inside, long) in
    let names : drop i back ≡ x ∷ drop (suc i) back = front_of back i x inside ∙ ap (λ h. h ∷ drop (suc i) back) (sym is) in
    let values : drop i kept ≡ v ∷ drop (suc i) kept = front_of kept i v held ∙ ap (λ h. h ∷ drop (suc i) kept) (sym of) in
    rw (one, behind kept i n) (handed_alike (drop (suc i) back) (drop (suc i) kept) (value_of after)
    (λ z. if same x z then v else value_of before z) gives y
    ∙ (λ j. handed_back (sym names j) (sym values j) (value_of before) y) ∙ so_far y)

pub set_length : {A : Type 0} (xs : List A) (i : ℕ) (a : A) → length (set xs i a) ≡ length xs
set_length [] i a = refl
set_length (x ∷ xs) zero a = refl
set_length (x ∷ xs) (suc i) a = ap suc (set_length xs i a)
