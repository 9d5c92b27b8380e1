-- Reserved locals, one by one and together; and facts that keep the limits of linear forms.
use Rattle.std.proofs.Common.{◌≡◌, ap, ℕ, true, List, [], ◌∷◌, append_assoc, is_ok}
use Rattle.std.proofs.lemmas.List.{append-nil}
use Rattle.model_syntax.specs.Linear.{linear, is_narrow}
use Rattle.model_syntax.specs.declared.stmt.Le.{Le}
use Rattle.sym_heap.specs.Context.{Context, with_reserved}
use Rattle.sym_heap.specs.Sides.{IsNarrow}
use Rattle.sym_heap.specs.Turns.{reserving}
use Rattle.stmt_rules.specs.Narrow.{all_narrow}
use Rattle.stmt_rules.proofs.Sequence.{and_parts}

pub reserving_none : (c : Context) → reserving [] c ≡ c
reserving_none c = ap (λ (r : List ℕ). record c { reserved = r }) (append-nil c.reserved)

pub reserving_one : (l : ℕ) (ls : List ℕ) (c : Context) → reserving ls (with_reserved l c) ≡ reserving (l ∷ ls) c
reserving_one l ls c = ap (λ (r : List ℕ). record c { reserved = r }) (append_assoc c.reserved (l ∷ []) ls)

pub narrow_first : (r : Le) (rs : List Le) → all_narrow (r ∷ rs) ≡ true → (is_narrow r ≡ true) × (all_narrow rs ≡ true)
narrow_first r rs e = and_parts (is_narrow r) (all_narrow rs) e

pub narrow_is : (r : Le) → is_narrow r ≡ true → IsNarrow r
narrow_is r e =
    let both = and_parts (is_ok (linear r.low)) (is_ok (linear r.high)) e in
    record { low = both.0; high = both.1 }
