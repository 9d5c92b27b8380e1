-- The locals of loops are in the range of arguments, so that the rules read them back; those of a count are unused and differ.
use Rattle.std.proofs.Common.{◌≡◌, refl, subst, ℕ, true, false, [], ◌∷◌, nat_le, Option, Some, None, Ok}
use Rattle.model_syntax.specs.Names.{Name}
use Rattle.sym_heap.specs.Context.{Context, has}
use Rattle.stmt_rules.specs.Loops.{is_unused}
use Rattle.stmt_rules.specs.Words.{most_local}
use Rattle.stmt_rules.specs.declared.loops.ElementLocals.{ElementLocals}
use Rattle.stmt_rules.specs.declared.loops.FoldLocals.{FoldLocals}
use Rattle.stmt_rules.specs.rules.Map as map_rule
use Rattle.stmt_rules.specs.rules.Fold as fold_rule
use Rattle.derive_search.specs.Locals.{Homes, choice_after, new_choice, further}
use Rattle.derive_search.specs.Elements.{◌>>=◌, map_locals, fold_locals, count_locals}
use Rattle.derive_search.specs.Mapping.{map_args}
use Rattle.derive_search.specs.Folding.{fold_args}
use Rattle.derive_search.proofs.laws.Choosing.{after_in_range, new_in_range, further_in_range, new_unused, further_unused}
use Rattle.derive_search.proofs.laws.Choosing.{further_untaken}

-- what holds of each answer holds of the answer of the next step, where there is a first one
bound : {A B : Type 0} (Q : Option B → Type 0) (o : Option A) (next : A → Option B) → Q None → ((a : A) → o ≡ Some a → Q (next a))
    → Q (o >>= next)
bound Q None next none some = none
bound Q (Some a) next none some = some a refl

pub record InRange (l : ElementLocals) : Type 0 where
  pub count : nat_le l.count most_local ≡ true
  pub last : nat_le l.last most_local ≡ true
  pub element : nat_le l.element most_local ≡ true

pub record FoldInRange (l : FoldLocals) : Type 0 where
  pub turn : InRange l.turn
  pub so_far : nat_le l.so_far most_local ≡ true

abbrev MapChosen : Option ElementLocals → Type 0
MapChosen None = Unit {0}
MapChosen (Some l) = InRange l

abbrev FoldChosen : Option FoldLocals → Type 0
FoldChosen None = Unit {0}
FoldChosen (Some l) = FoldInRange l

module _ (h : Homes) (c : Context) where
  abbrev map_last : ℕ → ℕ → Option ElementLocals
  map_last lx li = further h (lx ∷ li ∷ []) c >>= (λ lh. Some (record { count = li; last = lh; element = lx }))

  abbrev map_count : ℕ → Option ElementLocals
  map_count lx = further h (lx ∷ []) c >>= (λ li. map_last lx li)

  map_chosen : (x : Name) → MapChosen (map_locals h x c)
  map_chosen x =
      bound MapChosen (new_choice h x c) map_count tt
      (λ lx element. bound MapChosen (further h (lx ∷ []) c) (map_last lx) tt
      (λ li count. bound MapChosen (further h (lx ∷ li ∷ []) c) (λ lh. Some (record { count = li; last = lh; element = lx })) tt
      (λ lh last. record {
        count = further_in_range h c (lx ∷ []) li count;
        last = further_in_range h c (lx ∷ li ∷ []) lh last;
        element = new_in_range h c x lx element;
      })))

  pub map_in_range : (x : Name) (l : ElementLocals) → map_locals h x c ≡ Some l → InRange l
  map_in_range x l is = let one : MapChosen (Some l) = subst MapChosen is (map_chosen x) in one

  abbrev fold_result : ℕ → ℕ → ℕ → ℕ → Option FoldLocals
  fold_result lx ls li lh = Some (record { turn = record { count = li; last = lh; element = lx }; so_far = ls })

  abbrev fold_last : ℕ → ℕ → ℕ → Option FoldLocals
  fold_last lx ls li = further h (lx ∷ ls ∷ li ∷ []) c >>= (λ lh. fold_result lx ls li lh)

  abbrev fold_count : ℕ → ℕ → Option FoldLocals
  fold_count lx ls = further h (lx ∷ ls ∷ []) c >>= (λ li. fold_last lx ls li)

  abbrev fold_scalar : Name → ℕ → Option FoldLocals
  fold_scalar s lx = choice_after h (lx ∷ []) s c >>= (λ ls. fold_count lx ls)

  fold_chosen : (s x : Name) → FoldChosen (fold_locals h s x c)
  fold_chosen s x =
      bound FoldChosen (new_choice h x c) (fold_scalar s) tt
      (λ lx element. bound FoldChosen (choice_after h (lx ∷ []) s c) (fold_count lx) tt
      (λ ls so_far. bound FoldChosen (further h (lx ∷ ls ∷ []) c) (fold_last lx ls) tt
      (λ li count. bound FoldChosen (further h (lx ∷ ls ∷ li ∷ []) c) (fold_result lx ls li) tt
      (λ lh last. record {
        turn = record {
          count = further_in_range h c (lx ∷ ls ∷ []) li count;
          last = further_in_range h c (lx ∷ ls ∷ li ∷ []) lh last;
          element = new_in_range h c x lx element;
        };
        so_far = after_in_range h c (lx ∷ []) s ls so_far;
      }))))

  pub fold_in_range : (s x : Name) (l : FoldLocals) → fold_locals h s x c ≡ Some l → FoldInRange l
  fold_in_range s x l is = let one : FoldChosen (Some l) = subst FoldChosen is (fold_chosen s x) in one

  abbrev CountChosen : Option (ℕ × ℕ) → Type 0
  CountChosen None = Unit {0}
  CountChosen (Some l) = (nat_le l.0 most_local ≡ true) × (nat_le l.1 most_local ≡ true) × (is_unused c l.0 ≡ true)
      × (is_unused c l.1 ≡ true) × (has l.1 (l.0 ∷ []) ≡ false)

  count_chosen : (x : Name) → CountChosen (count_locals h x c)
  count_chosen x =
      bound CountChosen (new_choice h x c) (λ li. further h (li ∷ []) c >>= (λ lh. Some (li, lh))) tt
      (λ li count. bound CountChosen (further h (li ∷ []) c) (λ lh. Some (li, lh)) tt
      (λ lh last. (
        new_in_range h c x li count,
        further_in_range h c (li ∷ []) lh last,
        new_unused h c x li count,
        further_unused
            h c (li ∷ []) lh last,
        further_untaken h c (li ∷ []) lh last,
      )))

  pub count_holds : (x : Name) (l : ℕ × ℕ) → count_locals h x c ≡ Some l → CountChosen (Some l)
  count_holds x l is = subst CountChosen is (count_chosen x)

-- The rules read their arguments.

pub map_read : (at : ℕ) (l : ElementLocals) (c : Context) → InRange l → map_rule.locals at (map_args l) c ≡ Ok (l, c)
map_read at l c range = rw (range.count, range.last, range.element) refl

pub fold_read : (at : ℕ) (l : FoldLocals) (c : Context) → FoldInRange l → fold_rule.locals at (fold_args l) c ≡ Ok (l, c)
fold_read at l c range = rw (range.turn.count, range.turn.last, range.turn.element, range.so_far) refl
