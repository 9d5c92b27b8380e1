-- The locals of loops, in the order in which their nodes take them.
use Rattle.std.specs.Prelude.{ℕ, [], ◌∷◌, Option, Some, option_and_then}
use Rattle.model_syntax.specs.Names.{Name}
use Rattle.sym_heap.specs.Context.{Context}
use Rattle.stmt_rules.specs.declared.loops.ElementLocals.{ElementLocals}
use Rattle.stmt_rules.specs.declared.loops.FoldLocals.{FoldLocals}
use Rattle.derive_search.specs.Locals.{Homes, choice_after, new_choice, further}

infixl 10 ◌>>=◌
-- a local, and what needs it
abbrev pub ◌>>=◌ : {A B : Type 0} → Option A → (A → Option B) → Option B
o >>= next = option_and_then next o

-- the element's, that of the count, and that of the number at which it ends
abbrev pub map_locals : Homes → Name → Context → Option ElementLocals
map_locals h x c = do
  lx ← new_choice h x c
  li ← further h (lx ∷ []) c
  lh ← further h (lx ∷ li ∷ []) c
  Some (record { count = li; last = lh; element = lx })

-- the element's, that of the scalar s, and then the two others
abbrev pub fold_locals : Homes → Name → Name → Context → Option FoldLocals
fold_locals h s x c = do
  lx ← new_choice h x c
  ls ← choice_after h (lx ∷ []) s c
  li ← further h (lx ∷ ls ∷ []) c
  lh ← further h (lx ∷ ls ∷ li ∷ []) c
  Some (record { turn = record { count = li; last = lh; element = lx }; so_far = ls })

-- that of the count, and that of the number at which it ends
abbrev pub count_locals : Homes → Name → Context → Option (ℕ × ℕ)
count_locals h x c = do
  li ← new_choice h x c
  lh ← further h (li ∷ []) c
  Some (li, lh)
