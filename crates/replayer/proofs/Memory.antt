-- No byte outside the returned arrays changes: arrays that are not returned were never written.
use Rattle.std.proofs.Common.{◌≡◌, refl, sym, ◌∙◌, ap, subst, arith, ℕ, zero, suc, ◌+◌, ◌-◌, ◌<◌, ◌≤◌, nat_eq, nat_le, nat_lt}
use Rattle.std.proofs.Common.{Bool, true, false, ◌||◌, ◌⊎◌, inl, inr, List, [], ◌∷◌, length, Option, Some, None, slice_get}
use Rattle.std.specs.FinMap.{get}
use Rattle.std.specs.List.{list_all}
use Rattle.std.proofs.lemmas.Bool.{eqb-true, leb-true, ltb-true}
use Rattle.std.proofs.lemmas.Bool.Decides.{nat_tests}
use Rattle.rv_memory.specs.Ranges.{Bytes, Range, Within, Stands}
use Rattle.model_syntax.specs.Environment.{Env, value_of}
use Rattle.model_syntax.specs.declared.program.Param.{Param}
use Rattle.model_syntax.specs.declared.program.Ret.{Ret}
use Rattle.model_syntax.specs.declared.program.Ret.TheVariants as ret
use Rattle.model_syntax.proofs.laws.Arrays.{and_parts}
use Rattle.sym_heap.specs.declared.parts.Clause.{Clause}
use Rattle.sym_heap.specs.Context.{Context}
use Rattle.sym_heap.specs.Fits.{Locals, Call, FitsBy, array_bytes, range_of}
use Rattle.sym_heap.specs.Moves.{Moves}
use Rattle.sym_heap.proofs.laws.EndScopes.{Later, later}
use Rattle.sym_heap.proofs.laws.Lookups.{clause_found}
use Rattle.stmt_rules.specs.Sound.{UnwrittenKept, IsOutside}
use Rattle.model_command.specs.Computes.{InReturned}
use Rattle.replayer.specs.Ends.{number_of, is_returned, is_kept, are_kept}

-- Addresses.

-- an address in the range of a clause
record IsInside (call : Call) (ks : List Clause) (address : ℕ) : Type 0 where
  place : ℕ
  clause : Clause
  at : slice_get ks place ≡ Some clause
  within : Within (range_of call clause.param) address

either_way : (r : Range) (address : ℕ) → Within r address ⊎ (Within r address → ⊥)
either_way r address = by (nat_le r.start address) refl (nat_lt address (r.start + r.size)) refl where
  by : (a : Bool) → nat_le r.start address ≡ a → (b : Bool) → nat_lt address (r.start + r.size) ≡ b
      → Within r address ⊎ (Within r address → ⊥)
  by true a_is true b_is = inl (leb-true r.start address a_is, ltb-true address (r.start + r.size) b_is)
  by false a_is b b_is = inr (λ within.
      absurd (let bad : nat_le r.start address ≡ true = grind (arith, nat_tests, within.0) in let worse : false
      ≡ true = sym a_is ∙ bad in cc))
  by true a_is false b_is = inr (λ within.
      absurd (let bad : nat_lt address (r.start + r.size) ≡ true = grind (arith, nat_tests, within.1) in let worse : false
      ≡ true = sym b_is ∙ bad in cc))

-- each address is in the range of a clause or outside all of them
inside_or_outside : (call : Call) (ks : List Clause) (address : ℕ) → IsInside call ks address ⊎ IsOutside call ks address
inside_or_outside call [] address = inr (λ i k at within. let bad : None ≡ Some k = at in cc)
inside_or_outside call (k ∷ ks) address =
    by (either_way (range_of call k.param) address) (inside_or_outside call ks address) where
      by : Within (range_of call k.param) address ⊎ (Within (range_of call k.param) address → ⊥)
          → IsInside call ks address ⊎ IsOutside call ks address
          → IsInside call (k ∷ ks) address ⊎ IsOutside call (k ∷ ks) address
      by (inl within) rest = inl (record { place = 0; clause = k; at = refl; within = within })
      by (inr apart) (inl inside) = inl
          (record { place = suc inside.place; clause = inside.clause; at = inside.at; within = inside.within })
      by (inr apart) (inr outside) = inr none where
        none : IsOutside call (k ∷ ks) address
        none zero l at within =
            let same_one : k ≡ l = cc in
            apart (subst (λ (z : Clause). Within (range_of call z.param) address) (sym same_one) within)
        none (suc i) l at within = outside i l at within

-- the range of an array that is returned
returned_within : (ps : List Param) (call : Call) (n : ℕ) (rs : List Ret) (address : ℕ) → is_returned ps n rs ≡ true
    → Within (range_of call n) address
    → InReturned ps call rs address
returned_within ps call n [] address returned within = absurd (let bad : false ≡ true = returned in cc)
returned_within ps call n (ret.Scalar x ∷ rs) address returned within = returned_within ps call n rs address returned within
returned_within ps call n (ret.Array a p ∷ rs) address returned within =
    by (nat_eq (number_of ps p) n) refl (λ rest. returned_within ps call n rs address rest within) where
      by : (b : Bool) → nat_eq (number_of ps p) n ≡ b → (is_returned ps n rs ≡ true → InReturned ps call rs address)
          → InReturned ps call (ret.Array a p ∷ rs) address
      by true is more =
          let here : n ≡ number_of ps p = sym (eqb-true (number_of ps p) n is) in
          inl (subst (λ z. Within (range_of call z) address) here within)
      by false is more = inr (more (sym (ap (λ (b : Bool). b || is_returned ps n rs) is) ∙ returned))

kept_at : (ps : List Param) (rs : List Ret) (ks : List Clause) (i : ℕ) (k : Clause) → list_all (is_kept ps rs) ks ≡ true
    → slice_get ks i ≡ Some k → is_kept ps rs k ≡ true
kept_at ps rs [] i k kept at = absurd (let bad : None ≡ Some k = at in cc)
kept_at ps rs (l ∷ ls) zero k kept at =
    let same_one : l ≡ k = cc in
    subst (λ z. is_kept ps rs z ≡ true) same_one (and_parts (is_kept ps rs l) (list_all (is_kept ps rs) ls) kept).0
kept_at ps rs (l ∷ ls) (suc i) k kept at =
    kept_at ps rs ls i k (and_parts (is_kept ps rs l) (list_all (is_kept ps rs) ls) kept).1 at

there : (xs : List ℕ) (i : ℕ) → i < length xs → slice_get xs i ≡ None → ⊥
there [] i less none = omega (arith, less)
there (x ∷ xs) zero less none = let bad : Some x ≡ None = none in cc
there (x ∷ xs) (suc i) less none = there xs i (omega (arith, less)) none

-- bytes that stand in two memories
stand_in_both : (mem after : Bytes) (start : ℕ) (bytes : List ℕ) (address : ℕ) → Stands mem start bytes → Stands after start bytes
    → start ≤ address → address < start + length bytes → get after address ≡ get mem address
stand_in_both mem after start bytes address one two low high =
    let offset : start + (address - start) ≡ address = omega (arith, low, high) in
    by (slice_get bytes (address - start)) refl offset where
      by : (o : Option ℕ) → slice_get bytes (address - start) ≡ o → start + (address - start) ≡ address
          → get after address ≡ get mem address
      by (Some b) is offset =
          ap (get after) (sym offset) ∙ two (address - start) b is ∙ sym (ap (get mem) (sym offset) ∙ one (address - start) b is)
      by None is offset = absurd (there bytes (address - start) (omega (arith, low, high)) is)

module _ (ps : List Param) (rs : List Ret) (call : Call) (numbers others : ℕ → ℕ) (before after : Context) (env end_env : Env)
    (mem left_mem : Bytes) (locals left : Locals)
    (fits : FitsBy call numbers before env mem locals) (left_fits : FitsBy call others after end_env left_mem left)
    (moves : Moves before after)
    (unwritten : UnwrittenKept before.clauses after.clauses env end_env) (kept : are_kept ps rs after ≡ true) where
  module _ (address : ℕ) (inside : IsInside call before.clauses address) where
    abbrev k : Clause
    k = inside.clause

    last : Later after.clauses inside.place k
    last = later before.clauses after.clauses inside.place k moves.arrays inside.at

    -- where the array was never written
    unwritten_same : last.clause.writes ≡ 0 → get left_mem address ≡ get mem address
    unwritten_same none =
        let more = last.same_one.writes in
        let writes : last.clause.writes ≡ k.writes = omega (arith, more, none) in
        let value : value_of end_env last.clause.name
        ≡ value_of env k.name = unwritten inside.place k last.clause inside.at last.at writes in
        let first = fits.clauses k.name k (clause_found before fits.consistent inside.place k inside.at) in
        let second = left_fits.clauses last.clause.name last.clause
        (clause_found after left_fits.consistent inside.place last.clause last.at) in
        let stands : Stands left_mem (call.pointers k.param) (array_bytes (value_of env k.name)) =
        subst (λ (p : ℕ). Stands left_mem (call.pointers p) (array_bytes (value_of env k.name))) last.same_one.param
        (subst (λ v. Stands left_mem (call.pointers last.clause.param) (array_bytes v)) value second.stands) in
        let size : length (array_bytes (value_of env k.name)) ≡ call.sizes k.param = first.parameter in
        let low = inside.within.0 in
        let high = inside.within.1 in
        stand_in_both mem left_mem (call.pointers k.param) (array_bytes (value_of env k.name)) address first.stands stands low
        (omega (arith, size, high))

    inside_same : (InReturned ps call rs address → ⊥) → get left_mem address ≡ get mem address
    inside_same apart = by (is_returned ps last.clause.param rs) refl where
      last_kept : is_kept ps rs last.clause ≡ true
      last_kept = kept_at ps rs after.clauses inside.place last.clause kept last.at

      by : (b : Bool) → is_returned ps last.clause.param rs ≡ b → get left_mem address ≡ get mem address
      by true is =
          let within : Within (range_of call last.clause.param) address =
          subst (λ (p : ℕ). Within (range_of call p) address) (sym last.same_one.param) inside.within in
          absurd (apart (returned_within ps call last.clause.param rs address is within))
      by false is =
          let none : nat_eq last.clause.writes 0 ≡ true = sym (ap (λ (b : Bool). b || nat_eq last.clause.writes 0) is) ∙ last_kept
          in
          unwritten_same (eqb-true last.clause.writes 0 none)

  pub others_same : ((address : ℕ) → IsOutside call before.clauses address → get left_mem address ≡ get mem address)
      → (address : ℕ) → (InReturned ps call rs address → ⊥) → get left_mem address ≡ get mem address
  others_same outside address apart = by (inside_or_outside call before.clauses address) where
    by : IsInside call before.clauses address ⊎ IsOutside call before.clauses address → get left_mem address ≡ get mem address
    by (inl inside) = inside_same address inside apart
    by (inr beyond) = outside address beyond
