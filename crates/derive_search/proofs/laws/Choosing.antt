-- The local that is chosen may be taken.
use Rattle.std.proofs.Common.{◌≡◌, refl, subst, ℕ, zero, suc, ◌+◌, ◌-◌, Bool, true, false, not, ◌&&◌, nat_le, List, [], Option}
use Rattle.std.proofs.Common.{Some, None}
use Rattle.std.specs.Option.{option_or}
use Rattle.model_syntax.specs.Names.{Name}
use Rattle.sym_heap.specs.Context.{Context, has, is_free}
use Rattle.stmt_rules.specs.Words.{most_local}
use Rattle.derive_search.specs.Locals.{Homes, home, base, may_take, passing, least, present, is_left, past_homes, choice_after}
use Rattle.derive_search.specs.Locals.{choice, new_choice, further}

abbrev Passes : (ℕ → Bool) → Option ℕ → Type 0
Passes test None = Unit {0}
Passes test (Some l) = test l ≡ true

module _ (test : ℕ → Bool) where
  passing_passes : (o : Option ℕ) → Passes test (passing test o)
  passing_passes None = tt
  passing_passes (Some l) = by (test l) refl where
    by : (b : Bool) → test l ≡ b → Passes test (passing test (Some l))
    by true e = rw e e
    by false e = rw e tt

  least_passes : (n l : ℕ) → Passes test (least test n l)
  least_passes zero l = tt
  least_passes (suc n) l = by (test l) refl (least_passes n (l + 1)) where
    by : (b : Bool) → test l ≡ b → Passes test (least test n (l + 1)) → Passes test (least test (suc n) l)
    by true e more = rw e e
    by false e more = rw e more

  or_passes : (o p : Option ℕ) → Passes test o → Passes test p → Passes test (option_or o p)
  or_passes None p a b = b
  or_passes (Some l) p a b = a

pub left_true : (a b : Bool) → a && b ≡ true → a ≡ true
left_true true b h = refl
left_true false b h = h

pub right_true : (a b : Bool) → a && b ≡ true → b ≡ true
right_true true b h = h
right_true false b h = absurd (let bad : false ≡ true = h in cc)

no_is : (b : Bool) → not b ≡ true → b ≡ false
no_is false is = refl
no_is true is = absurd (let bad : false ≡ true = is in cc)

-- a number that passes, where there is one
chosen_passes : (test : ℕ → Bool) (o : Option ℕ) (l : ℕ) → Passes test o → o ≡ Some l → test l ≡ true
chosen_passes test o l passes is = let one : Passes test (Some l) = subst (λ (p : Option ℕ). Passes test p) is passes in one

more_passes : (test other : ℕ → Bool) → ((l : ℕ) → test l ≡ true → other l ≡ true) → (o : Option ℕ) → Passes test o
    → Passes other o
more_passes test other more None passes = tt
more_passes test other more (Some l) passes = more l passes

module _ (h : Homes) (c : Context) where
  past_passes : (taken : List ℕ) (x : Option Name) → Passes (may_take c x) (past_homes h taken x c)
  past_passes taken x =
      more_passes (is_left taken c x) (may_take c x) (λ l left. right_true (not (has l taken)) (may_take c x l) left)
      (past_homes h taken x c)
      (least_passes (is_left taken c x) (most_local + 1 - base h) (base h))

  choice_passes : (taken : List ℕ) (x : Name) → Passes (may_take c (Some x)) (choice_after h taken x c)
  choice_passes taken x =
      let test = may_take c (Some x) in
      let one = passing_passes test (home h x) in
      let others = past_passes taken (Some x) in
      or_passes test (passing test (present c x)) (option_or (passing test (home h x)) (past_homes h taken (Some x) c))
      (passing_passes test (present c x)) (or_passes test (passing test (home h x)) (past_homes h taken (Some x) c) one others)

  new_passes : (x : Name) → Passes (may_take c None) (new_choice h x c)
  new_passes x =
      let test = may_take c None in
      or_passes test (passing test (home h x)) (past_homes h [] None c) (passing_passes test (home h x)) (past_passes [] None)

  -- Locals that are chosen are in the range of arguments.

  pub after_in_range : (taken : List ℕ) (x : Name) (l : ℕ) → choice_after h taken x c ≡ Some l → nat_le l most_local ≡ true
  after_in_range taken x l is =
      left_true (nat_le l most_local) (is_free c l (Some x))
      (chosen_passes (may_take c (Some x)) (choice_after h taken x c) l (choice_passes taken x) is)

  pub new_in_range : (x : Name) (l : ℕ) → new_choice h x c ≡ Some l → nat_le l most_local ≡ true
  new_in_range x l is = left_true (nat_le l most_local) (is_free c l None)
      (chosen_passes (may_take c None) (new_choice h x c) l (new_passes x) is)

  pub further_in_range : (taken : List ℕ) (l : ℕ) → further h taken c ≡ Some l → nat_le l most_local ≡ true
  further_in_range taken l is =
      left_true (nat_le l most_local) (is_free c l None)
      (chosen_passes (may_take c None) (further h taken c) l (past_passes taken None) is)

  -- A new local and a further one are free, and the further one isn't taken yet.

  pub new_unused : (x : Name) (l : ℕ) → new_choice h x c ≡ Some l → is_free c l None ≡ true
  new_unused x l is = right_true (nat_le l most_local) (is_free c l None)
      (chosen_passes (may_take c None) (new_choice h x c) l (new_passes x) is)

  pub further_unused : (taken : List ℕ) (l : ℕ) → further h taken c ≡ Some l → is_free c l None ≡ true
  further_unused taken l is =
      right_true (nat_le l most_local) (is_free c l None)
      (chosen_passes (may_take c None) (further h taken c) l (past_passes taken None) is)

  pub further_untaken : (taken : List ℕ) (l : ℕ) → further h taken c ≡ Some l → has l taken ≡ false
  further_untaken taken l is =
      let left = chosen_passes (is_left taken c None) (further h taken c) l
      (least_passes (is_left taken c None) (most_local + 1 - base h) (base h)) is in
      no_is (has l taken) (left_true (not (has l taken)) (may_take c None l) left)

pub choice_in_range : (h : Homes) (x : Name) (c : Context) (l : ℕ) → choice h x c ≡ Some l → nat_le l most_local ≡ true
choice_in_range h x c l is = after_in_range h c [] x l is
