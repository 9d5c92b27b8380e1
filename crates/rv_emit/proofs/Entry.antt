-- The arguments that are live go into their places.
use Rattle.std.proofs.Common.{◌≡◌, ◌≢◌, ℕ, zero, suc, ◌+◌, ◌^◌, ◌<◌, ◌≤◌, ◌⊎◌, inl, inr, Bool, true, false, List, [], ◌∷◌, length}
use Rattle.std.proofs.Common.{Some, Ok, slice_get, refl, sym, ◌∙◌, subst, arith}
use Rattle.std.specs.FinMap.{get, insert}
use Rattle.std.specs.List.{AllByRecursion}
use Rattle.std.proofs.lemmas.Bool.{cases_eq}
use Rattle.flat_lang.specs.State.{Vars}
use Rattle.flat_lang.specs.State as flat
use Rattle.rv_machine.specs.State.{State, register}
use Rattle.rv_memory.specs.Ranges.{Bytes}
use Rattle.rv_memory.proofs.laws.Numbers.{get-insert_same, get-insert_other}
use Rattle.rv_emit.specs.Code.{place_of}
use Rattle.rv_emit.specs.Whole.{moves_in}
use Rattle.rv_emit.proofs.Site.{Site, IsValid, Sound, IsFree, Before}
use Rattle.rv_emit.proofs.Runs.{HasAll, Reaches, at_place, ends_at}
use Rattle.rv_emit.proofs.Places.{save_on}

-- the places once arguments are in them, of the numbers that are given
abbrev pub arrived : (ℕ → ℕ) → List ℕ → List ℕ → Vars → Vars
arrived num regs [] places = places
arrived num regs (x ∷ xs) places = arrived num regs xs (insert places (num x) (register regs (10 + x)))

-- no argument but y goes into the place of y
abbrev pub AreApart : (ℕ → ℕ) → ℕ → List ℕ → Type 0
AreApart num y xs = AllByRecursion (λ x. x ≢ y → num x ≢ num y) xs

arrived_still : (num : ℕ → ℕ) (regs xs : List ℕ) (places : Vars) (y : ℕ) → AreApart num y xs
    → get places (num y) ≡ Some (register regs (10 + y)) → get (arrived num regs xs places) (num y)
    ≡ Some (register regs (10 + y))
arrived_still num regs [] places y apart is = is
arrived_still num regs (x ∷ xs) places y apart is =
    arrived_still num regs xs (insert places (num x) (register regs (10 + x))) y apart.1 (by_case (cases_eq x y))
  where
    by_case : (x ≡ y) ⊎ (x ≡ y → ⊥) → get (insert places (num x) (register regs (10 + x))) (num y) ≡ Some (register regs (10 + y))
    by_case (inl same) = subst (λ z. get (insert places (num z) (register regs (10 + z))) (num y) ≡ Some (register regs (10 + y)))
        (sym same) (get-insert_same places (num y) (register regs (10 + y)))
    by_case (inr other) = get-insert_other places (num x) (register regs (10 + x)) (num y) (λ e. apart.0 other (sym e)) ∙ is

-- an argument that is moved is in its place
pub arrived_at : (num : ℕ → ℕ) (regs xs : List ℕ) (places : Vars) (i y : ℕ) → slice_get xs i ≡ Some y → AreApart num y xs
    → get (arrived num regs xs places) (num y) ≡ Some (register regs (10 + y))
arrived_at num regs [] places i y found apart = absurd (cc)
arrived_at num regs (x ∷ xs) places zero y found apart =
    let same : x ≡ y = cc in
    subst (λ z. get (arrived num regs xs (insert places (num z) (register regs (10 + z)))) (num y)
    ≡ Some (register regs (10 + y))) (sym same)
    (arrived_still num regs xs (insert places (num y) (register regs (10 + y))) y apart.1
    (get-insert_same places (num y) (register regs (10 + y))))
arrived_at num regs (x ∷ xs) places (suc i) y found apart =
    arrived_at num regs xs (insert places (num x) (register regs (10 + x))) i y found apart.1

module _ (l : Site) (m : State) (sound : Sound l m) (words : (r : ℕ) → 10 ≤ r → r < 18 → register m.regs r < 2 ^ 32) (num : ℕ → ℕ)
  where
    argument_free : (r : ℕ) → 10 ≤ r → r < 18 → IsFree l r
    argument_free r low high = record
        { not_sp = λ e. omega arith; not_temporary = λ h. omega arith; not_held = by_held (l.held r) refl }
      where
        by_held : (b : Bool) → l.held r ≡ b → l.held r ≡ false
        by_held true is = let above = sound.not_argument r is low in absurd (omega arith)
        by_held false is = is

    pub arguments_reach : (xs : List ℕ) (t k fuel : ℕ) (mem : Bytes) (places : Vars) (s : State)
        → AllByRecursion (λ x. (x < 8) × IsValid l (place_of (num x))) xs → Before l m mem places k s
        → HasAll l.code k (moves_in (λ x. place_of (num x)) xs)
        → Reaches l m sound t (k + length xs) s
        (Ok (record { fuel = fuel; ticks = t + length xs; mem = mem; vars = arrived num m.regs xs places }))
    arguments_reach [] t k fuel mem places s valid before has =
        let none : k ≡ k + 0 = omega arith in
        let e : flat.State = record { fuel = fuel; ticks = t + 0; mem = mem; vars = places } in
        at_place l m sound t k (k + 0) s (Ok e) none (ends_at l m sound t k s e (omega arith) before)
    arguments_reach (x ∷ xs) t k fuel mem places s valid before has =
        let place : k + 1 + length xs ≡ k + suc (length xs) = omega arith in
        let time : t + 1 + length xs ≡ t + suc (length xs) = omega arith in
        let few = valid.0.0 in
        let value = register m.regs (10 + x) in
        let after = insert places (num x) value in
        let vars_after = arrived num m.regs xs after in
        let e : flat.State = record { fuel = fuel; ticks = t + suc (length xs); mem = mem; vars = vars_after } in
        let holds = before.kept (10 + x) (argument_free (10 + x) (omega arith) (omega arith)) in
        save_on l m sound t (k + suc (length xs)) mem places k s (10 + x) (num x) value (Ok e) (omega arith) before has.0
        valid.0.1
        (words (10 + x) (omega arith) (omega arith)) holds (λ u stands.
        let rest = arguments_reach xs (t + 1) (k + 1) fuel mem after u valid.1 stands has.1 in
        at_place l m sound (t + 1) (k + 1 + length xs) (k + suc (length xs)) u (Ok e) place
        (subst (λ i. Reaches l m sound (t + 1) (k + 1 + length xs) u
        (Ok (record { fuel = fuel; ticks = i; mem = mem; vars = vars_after }))) time rest))
