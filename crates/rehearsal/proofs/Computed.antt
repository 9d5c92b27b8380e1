-- The command computes the model.
use Rattle.std.proofs.Common.{◌≡◌, refl, sym, ◌∙◌, ap, subst, arith, ℕ, zero, suc, ◌+◌, ◌*◌, ◌%◌, ◌^◌, ◌<◌, ◌≤◌, nat_lt, true}
use Rattle.std.proofs.Common.{List, [], ◌∷◌, length, get_or, Option, Some, Ok, Err, slice_get, slice_set}
use Rattle.std.specs.FinMap.{get}
use Rattle.std.proofs.lemmas.Bool.{lt-ltb}
use Rattle.rup_base.specs.declared.arg.Arg.{Arg}
use Rattle.rup_base.specs.declared.arg.Arg.TheVariants as arg
use Rattle.rup_base.specs.declared.refusal.ArgFault.TheVariants.{Require as OfRequire}
use Rattle.rup_base.specs.declared.refusal.Refusal.TheVariants.{BadArguments}
use Rattle.rv_memory.specs.Ranges.{Bytes, Stands}
use Rattle.model_syntax.specs.Environment.{Env}
use Rattle.model_syntax.specs.Value.{Turn, judge_arguments, results, eval_step, run_step, whole_step}
use Rattle.bed_syntax.specs.Shape.{is_known}
use Rattle.bed_syntax.specs.declared.operation.Size.TheVariants as size
use Rattle.bed_meaning.specs.Access as access
use Rattle.bed_meaning.specs.Locals as locals
use Rattle.bed_meaning.specs.Locals.{Vars, local_at, assigned}
use Rattle.bed_meaning.specs.Meaning.{Rule, run_step as rule_step, exec}
use Rattle.bed_meaning.specs.Value.{value, value_step}
use Rattle.model_command.specs.Computes.{Computes, HoldsResults, Starts, Ends}
use Rattle.rehearsal.specs.Example.{model, entries, table, byte_read, entry, body, command}
use Rattle.rehearsal.proofs.Measured.{w, byte_weight, entry_weight, locals_from}
use Rattle.rehearsal.proofs.Nodes.{at_first, at_looked_up, at_x, at_y, at_low, at_high, at_byte, at_entry, at_body}

-- Locals.

set_other : (vars : Vars) (x y : ℕ) (v : Option ℕ) → (y ≡ x → ⊥) → slice_get (slice_set vars x v) y ≡ slice_get vars y
set_other [] x y v apart = refl
set_other (u ∷ us) zero zero v apart = absurd (apart refl)
set_other (u ∷ us) zero (suc y) v apart = refl
set_other (u ∷ us) (suc x) zero v apart = refl
set_other (u ∷ us) (suc x) (suc y) v apart = set_other us x y v (λ same. apart (ap suc same))

set_here : (vars : Vars) (x : ℕ) (v : Option ℕ) → x < length vars → slice_get (slice_set vars x v) x ≡ Some v
set_here [] x v room = absurd (omega (arith, room))
set_here (u ∷ us) zero v room = refl
set_here (u ∷ us) (suc x) v room = set_here us x v (omega (arith, room))

set_length : (vars : Vars) (x : ℕ) (v : Option ℕ) → length (slice_set vars x v) ≡ length vars
set_length [] x v = refl
set_length (u ∷ us) zero v = refl
set_length (u ∷ us) (suc x) v = ap suc (set_length us x v)

set_is : (vars : Vars) (x n : ℕ) → x < length vars → assigned x n vars ≡ Some (slice_set vars x (Some n))
set_is vars x n room = let test : nat_lt x (length vars) ≡ true = lt-ltb x (length vars) room in rw test refl

-- The entry of a remainder.

entry_found : (r : ℕ) → r < 4 → access.entry size.Four table (r * 4 % 2 ^ 32) ≡ Some (get_or entries r 0)
entry_found zero few = refl
entry_found (suc zero) few = refl
entry_found (suc (suc zero)) few = refl
entry_found (suc (suc (suc zero))) few = refl
entry_found (suc (suc (suc (suc r)))) few = absurd (omega (arith, few))

-- The results of the model at an array.

results_are : (x : ℕ) (xs : List ℕ) → results model (arg.Bytes (x ∷ xs) ∷ [])
    ≡ arg.Word x ∷ arg.Word (get_or entries (x % 4) 0) ∷ []
results_are x xs =
    rw (at_x Turn run_step, at_y Turn run_step, at_first (Env → ℕ) eval_step, at_looked_up (Env → ℕ) eval_step) refl

-- an empty array does not meet the requirement
none_refused : judge_arguments model (arg.Bytes [] ∷ []) ≡ Err (BadArguments (OfRequire 0))
none_refused = rw (at_low (Env → ℕ) whole_step, at_high (Env → ℕ) whole_step) refl

-- A run.

module _ (mem : Bytes) (p x : ℕ) (xs : List ℕ) (stands : Stands mem p (x ∷ xs)) where
  loaded_first : access.loaded size.One mem p ≡ Some x
  loaded_first =
      let whole : p % 1 ≡ 0 = omega arith in
      let same : p + 0 ≡ p = omega arith in
      let here : get mem p ≡ Some x = subst (λ (q : ℕ). get mem q ≡ Some x) same (stands 0 x refl) in
      rw (whole, here) refl

  byte_is : (vars : Vars) → local_at vars 0 ≡ Some p → value byte_read mem vars ≡ Some x
  byte_is vars at = rw (at_byte (Bytes → Vars → Option ℕ) value_step, at, loaded_first) refl

  entry_is : (vars : Vars) → local_at vars 0 ≡ Some p → value entry mem vars ≡ Some (get_or entries (x % 4) 0)
  entry_is vars at = rw (at_entry (Bytes → Vars → Option ℕ) value_step, at, loaded_first) (entry_found (x % 4) (omega arith))

module _ (pointers : ℕ → ℕ) (mem : Bytes) (vars : Vars) (x : ℕ) (xs : List ℕ)
    (starts : Starts model body (arg.Bytes (x ∷ xs) ∷ []) pointers mem vars) where
  abbrev y : ℕ
  y = get_or entries (x % 4) 0

  abbrev one : Vars
  one = slice_set vars 3 (Some y)

  abbrev two : Vars
  two = slice_set one 6 (Some x)

  room_three : 3 < length vars
  room_three = starts.room 3 (ap (λ ls. is_known ls 3) (locals_from []))

  room_six : 6 < length one
  room_six =
      let room = starts.room 6 (ap (λ ls. is_known ls 6) (locals_from [])) in
      let same = set_length vars 3 (Some y) in
      omega (arith, room, same)

  pointer : local_at one 0 ≡ Some (pointers 0)
  pointer = ap locals.value_of (set_other vars 3 0 (Some y) (λ same. omega (arith, same))) ∙ starts.arguments.0.pointer

  first_set : local_at two 6 ≡ Some x
  first_set = ap locals.value_of (set_here one 6 (Some x) room_six)

  second_set : local_at two 3 ≡ Some y
  second_set =
      ap locals.value_of (set_other one 6 3 (Some x) (λ same. omega (arith, same)) ∙ set_here vars 3 (Some y) room_three)

  runs : exec w 3 body mem vars ≡ Ok (36, mem, two)
  runs =
      rw (
        at_body Rule (rule_step w),
        entry_is mem (pointers 0) x xs starts.arguments.0.stands vars starts.arguments.0.pointer,
        set_is vars 3 y room_three,
        byte_is mem (pointers 0) x xs starts.arguments.0.stands one pointer,
        set_is one 6 x room_six,
        entry_weight,
        byte_weight,
      )
      refl

  abbrev Hold : List Arg → Type 0
  Hold found = HoldsResults model.params pointers model.rets found command.rets mem (local_at two)

  ends : Ends w model command (arg.Bytes (x ∷ xs) ∷ []) pointers mem vars
  ends = record {
    fuel = 3;
    ticks = 36;
    after_mem = mem;
    after_vars = two;
    runs = runs;
    in_time = above (length xs);
    has_results = subst Hold (sym (results_are x xs)) (first_set, (second_set, tt));
    others = λ address outside. refl;
  }
    where
      above : (n : ℕ) → 36 + 48 ≤ 84 * suc n * 1 + 0
      above n = omega arith

pub computes : Computes w model command
computes [] meets pointers mem vars starts = absurd starts.arguments
computes (v ∷ u ∷ vs) meets pointers mem vars starts = absurd starts.arguments.1
computes (arg.Word n ∷ []) meets pointers mem vars starts = absurd starts.arguments.0.array
computes (arg.Words ns ∷ []) meets pointers mem vars starts =
    absurd (let bad : 1 ≡ 4 = starts.arguments.0.array.0 in omega (arith, bad))
computes (arg.Bytes [] ∷ []) meets pointers mem vars starts =
    absurd (let bad : Err (BadArguments (OfRequire 0)) ≡ Ok tt = sym none_refused ∙ meets in cc)
computes (arg.Bytes (x ∷ xs) ∷ []) meets pointers mem vars starts = ends pointers mem vars x xs starts
