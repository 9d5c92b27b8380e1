-- The arguments of a call of an image, as the code below it finds them: numbers in the registers of their places, and
-- arrays at the pointers there, apart from one another.
use Rattle.std.proofs.Common.{◌≡◌, ◌≢◌, ◌⊎◌, inl, inr, refl, sym, ◌∙◌, ap, subst, arith, ℕ, zero, suc, ◌+◌, ◌*◌, ◌%◌, ◌≤◌, ◌<◌}
use Rattle.std.proofs.Common.{◌^◌, nat_eq, nat_le, Bool, true, false, ◌&&◌, List, [], ◌∷◌, ◌++◌, length, map, take, Option, Some}
use Rattle.std.proofs.Common.{None, slice_get}
use Rattle.std.specs.Prelude.{sum_by, slice_index_or}
use Rattle.std.specs.List.{AllByRecursion}
use Rattle.std.proofs.lemmas.Bool.{leb-true, eqb-true}
use Rattle.std.proofs.lemmas.List.Sums.{sum_by-cons}
use Rattle.rup_base.specs.Gather.{all_true}
use Rattle.rup_base.specs.Name.{is_name}
use Rattle.rup_base.specs.declared.arg.Kind.{Kind}
use Rattle.rup_base.specs.declared.arg.Kind.TheVariants as kind
use Rattle.rup_base.specs.declared.arg.Arg.{Arg}
use Rattle.rup_base.specs.declared.arg.Arg.TheVariants as arg
use Rattle.image_layout.specs.Spelling.{registers_of}
use Rattle.model_syntax.specs.declared.program.Len.{Len}
use Rattle.model_syntax.specs.declared.program.Len.TheVariants.{Fixed, Named}
use Rattle.model_syntax.specs.declared.program.Param.{Param}
use Rattle.model_syntax.specs.declared.program.Param.TheVariants as param
use Rattle.model_syntax.specs.Environment.{elements}
use Rattle.model_syntax.specs.Formed.{param_formed}
use Rattle.model_syntax.specs.Kinds.{is_byte, is_word}
use Rattle.model_syntax.specs.Types.{kind_of}
use Rattle.model_syntax.specs.Value as value
use Rattle.model_syntax.proofs.laws.Arguments.{AllFit}
use Rattle.rv_memory.specs.Ranges.{Range, Within, IsMapped, Apart, AllApart, Stands}
use Rattle.rv_machine.specs.State.{State, register}
use Rattle.sym_heap.specs.Fits as fits
use Rattle.sym_heap.specs.Fits.{IsArray, entry_numbers}
use Rattle.sym_heap.specs.Arrival.{HasNumber, HasLength, HasArray, HasArgument, HasArguments}
use Rattle.sym_heap.specs.Start as start
use Rattle.run_setup.specs.Judging.{symbols_of, symbol_values}
use Rattle.run_setup.specs.Ready as ready
use Rattle.run_setup.specs.Ready.{array_range}
use Rattle.pipeline.specs.Serves.{argument_registers, array_ranges}
use Rattle.pipeline.proofs.Limits.{both_true, word_is, same_registers}

-- Lists.

all_first : (P : Range → Type 0) (xs ys : List Range) → AllByRecursion P (xs ++ ys) → AllByRecursion P xs
all_first P [] ys all = tt
all_first P (x ∷ xs) ys all = (all.0, all_first P xs ys all.1)

all_rest : (P : Range → Type 0) (xs ys : List Range) → AllByRecursion P (xs ++ ys) → AllByRecursion P ys
all_rest P [] ys all = all
all_rest P (x ∷ xs) ys all = all_rest P xs ys all.1

-- Bytes of an array.

pub same_bytes : (v : Arg) → fits.array_bytes (Some v) ≡ ready.array_bytes v
same_bytes (arg.Word n) = refl
same_bytes (arg.Bytes ns) = refl
same_bytes (arg.Words ns) = refl

pub same_size : (vs : List Arg) (k : ℕ) → length (fits.array_bytes (slice_get vs k))
    ≡ length (ready.array_bytes (slice_index_or vs k (arg.Word 0)))
same_size [] k = refl
same_size (v ∷ vs) zero = ap length (same_bytes v)
same_size (v ∷ vs) (suc k) = same_size vs k

-- The numbers of the entry symbols.

first_numbers : (q : Param) (v : Arg) (qs : List Param) (vs : List Arg) → value.fits q v ≡ true
    → entry_numbers (q ∷ qs) (v ∷ vs) ≡ symbols_of (kind_of q) v ++ entry_numbers qs vs
first_numbers (param.Word x) (arg.Word n) qs vs fit = refl
first_numbers (param.Byte x) (arg.Word n) qs vs fit = refl
first_numbers (param.Bytes a (Fixed n)) (arg.Bytes ns) qs vs fit = refl
first_numbers (param.Bytes a (Named x)) (arg.Bytes ns) qs vs fit = refl
first_numbers (param.Words a (Fixed n)) (arg.Words ns) qs vs fit = refl
first_numbers (param.Words a (Named x)) (arg.Words ns) qs vs fit = refl
first_numbers (param.Word x) (arg.Bytes ns) qs vs fit = absurd (let bad : false ≡ true = fit in cc)
first_numbers (param.Word x) (arg.Words ns) qs vs fit = absurd (let bad : false ≡ true = fit in cc)
first_numbers (param.Byte x) (arg.Bytes ns) qs vs fit = absurd (let bad : false ≡ true = fit in cc)
first_numbers (param.Byte x) (arg.Words ns) qs vs fit = absurd (let bad : false ≡ true = fit in cc)
first_numbers (param.Bytes a (Fixed n)) (arg.Word k) qs vs fit = absurd (let bad : false ≡ true = fit in cc)
first_numbers (param.Bytes a (Fixed n)) (arg.Words ns) qs vs fit = absurd (let bad : false ≡ true = fit in cc)
first_numbers (param.Bytes a (Named x)) (arg.Word k) qs vs fit = absurd (let bad : false ≡ true = fit in cc)
first_numbers (param.Bytes a (Named x)) (arg.Words ns) qs vs fit = absurd (let bad : false ≡ true = fit in cc)
first_numbers (param.Words a (Fixed n)) (arg.Word k) qs vs fit = absurd (let bad : false ≡ true = fit in cc)
first_numbers (param.Words a (Fixed n)) (arg.Bytes ns) qs vs fit = absurd (let bad : false ≡ true = fit in cc)
first_numbers (param.Words a (Named x)) (arg.Word k) qs vs fit = absurd (let bad : false ≡ true = fit in cc)
first_numbers (param.Words a (Named x)) (arg.Bytes ns) qs vs fit = absurd (let bad : false ≡ true = fit in cc)

pub numbers_are : (qs : List Param) (vs : List Arg) → AllFit qs vs → entry_numbers qs vs ≡ symbol_values (map kind_of qs) vs
numbers_are [] [] all = refl
numbers_are [] (v ∷ vs) all = absurd all
numbers_are (q ∷ qs) [] all = absurd all
numbers_are (q ∷ qs) (v ∷ vs) all = first_numbers q v qs vs all.0
    ∙ ap (λ (ns : List ℕ). symbols_of (kind_of q) v ++ ns) (numbers_are qs vs all.1)

-- One argument, whose first register is 10 + l.

module _ (s : State) where
  -- the ranges of an argument
  abbrev own : Param → Arg → ℕ → List Range
  own (param.Word x) v r = []
  own (param.Byte x) v r = []
  own (param.Bytes a n) v r = array_range r v s ∷ []
  own (param.Words a n) v r = array_range r v s ∷ []

  ranges_step : (q : Param) (qs : List Param) (v : Arg) (vs : List Arg) (r : ℕ)
      → ready.array_ranges (map kind_of (q ∷ qs)) (v ∷ vs) r s
      ≡ own q v r ++ ready.array_ranges (map kind_of qs) vs (r + registers_of (kind_of q)) s
  ranges_step (param.Word x) qs v vs r = refl
  ranges_step (param.Byte x) qs v vs r = refl
  ranges_step (param.Bytes a (Fixed n)) qs v vs r = refl
  ranges_step (param.Bytes a (Named x)) qs v vs r = refl
  ranges_step (param.Words a (Fixed n)) qs v vs r = refl
  ranges_step (param.Words a (Named x)) qs v vs r = refl

  next_register : (q : Param) (l : ℕ) → 10 + l + registers_of (kind_of q) ≡ 10 + (l + start.registers_of q)
  next_register q l = omega (arith, same_registers q)

  next_ranges : (q : Param) (qs : List Param) (v : Arg) (vs : List Arg) (l : ℕ)
      → ready.array_ranges (map kind_of (q ∷ qs)) (v ∷ vs) (10 + l) s
      ≡ own q v (10 + l) ++ ready.array_ranges (map kind_of qs) vs (10 + (l + start.registers_of q)) s
  next_ranges q qs v vs l = ranges_step q qs v vs (10 + l)
      ∙ ap (λ (r : ℕ). own q v (10 + l) ++ ready.array_ranges (map kind_of qs) vs r s) (next_register q l)

  array_has : (size : ℕ) (len : Len) (v : Arg) (at l : ℕ) → IsArray size (Some v) → at ≡ register s.regs (10 + l)
      → HasLength len (length (elements (Some v))) (l + 1) (argument_registers s)
      → Stands s.mem (register s.regs (10 + l)) (ready.array_bytes v)
      → length (elements (Some v)) ≤ 4294967295 → at % size ≡ 0 → IsMapped s.mem (array_range (10 + l) v s)
      → HasArray size len v at l s.mem (argument_registers s)
  array_has size len v at l array at_is has_length stands few aligned mapped =
      record {
        array = array;
        pointer = ap Some (sym at_is);
        has_length = has_length;
        stands = rw (at_is, same_bytes v) stands;
        few = few;
        aligned = aligned;
        ends = omega (arith, at_is, ap length (same_bytes v), mapped.ends);
      }

  named_length : (l n : ℕ) → register s.regs (10 + l + 1) ≡ n → argument_registers s (l + 1) ≡ Some n
  named_length l n is = let at : 10 + (l + 1) ≡ 10 + l + 1 = omega arith in ap Some (ap (register s.regs) at ∙ is)

  fixed_length : (k n : ℕ) → nat_eq k n ≡ true → n ≡ k
  fixed_length k n is = sym (eqb-true k n is)

  one_aligned : (at : ℕ) → at % 1 ≡ 0
  one_aligned at = omega arith

  -- an argument of its kind is in its registers
  first_argument : (q : Param) (v : Arg) (at l : ℕ) → param_formed q ≡ true → value.fits q v ≡ true
      → ready.HasArgument (kind_of q) v (10 + l) s
      → AllByRecursion (IsMapped s.mem) (own q v (10 + l)) → at ≡ register s.regs (10 + l)
      → HasArgument q v at l s.mem (argument_registers s)
  first_argument (param.Word x) (arg.Word n) at l formed fit has mapped at_is = (ap Some has, leb-true n 4294967295 fit)
  first_argument (param.Byte x) (arg.Word n) at l formed fit has mapped at_is = (ap Some has, leb-true n 255 fit)
  first_argument (param.Bytes a (Fixed k)) (arg.Bytes ns) at l formed fit has mapped at_is =
      let parts = both_true (nat_eq k (length ns)) (all_true (map is_byte ns)) fit in
      let few = word_is k (both_true (is_name a) (is_word k) formed).1 in
      let long = fixed_length k (length ns) parts.0 in
      array_has 1 (Fixed k) (arg.Bytes ns) at l (refl, parts.1) at_is long has.0 (omega (arith, few, long)) (one_aligned at)
      mapped.0
  first_argument (param.Bytes a (Named x)) (arg.Bytes ns) at l formed fit has mapped at_is =
      let parts = both_true (is_word (length ns)) (all_true (map is_byte ns)) fit in
      array_has 1 (Named x) (arg.Bytes ns) at l (refl, parts.1) at_is (named_length l (length ns) has.1) has.0
      (word_is (length ns) parts.0) (one_aligned at) mapped.0
  first_argument (param.Words a (Fixed k)) (arg.Words ns) at l formed fit has mapped at_is =
      let parts = both_true (nat_eq k (length ns)) (all_true (map is_word ns)) fit in
      let few = word_is k (both_true (is_name a) (is_word k) formed).1 in
      let long = fixed_length k (length ns) parts.0 in
      array_has 4 (Fixed k) (arg.Words ns) at l (refl, parts.1) at_is long has.0 (omega (arith, few, long))
      (omega (arith, at_is, has.1)) mapped.0
  first_argument (param.Words a (Named x)) (arg.Words ns) at l formed fit has mapped at_is =
      let parts = both_true (is_word (length ns)) (all_true (map is_word ns)) fit in
      array_has 4 (Named x) (arg.Words ns) at l (refl, parts.1) at_is (named_length l (length ns) has.2) has.0
      (word_is (length ns) parts.0) (omega (arith, at_is, has.1)) mapped.0
  first_argument (param.Word x) (arg.Bytes ns) at l formed fit has mapped at_is = absurd has
  first_argument (param.Word x) (arg.Words ns) at l formed fit has mapped at_is = absurd has
  first_argument (param.Byte x) (arg.Bytes ns) at l formed fit has mapped at_is = absurd has
  first_argument (param.Byte x) (arg.Words ns) at l formed fit has mapped at_is = absurd has
  first_argument (param.Bytes a (Fixed k)) (arg.Word n) at l formed fit has mapped at_is = absurd has
  first_argument (param.Bytes a (Fixed k)) (arg.Words ns) at l formed fit has mapped at_is = absurd has
  first_argument (param.Bytes a (Named x)) (arg.Word n) at l formed fit has mapped at_is = absurd has
  first_argument (param.Bytes a (Named x)) (arg.Words ns) at l formed fit has mapped at_is = absurd has
  first_argument (param.Words a (Fixed k)) (arg.Word n) at l formed fit has mapped at_is = absurd has
  first_argument (param.Words a (Fixed k)) (arg.Bytes ns) at l formed fit has mapped at_is = absurd has
  first_argument (param.Words a (Named x)) (arg.Word n) at l formed fit has mapped at_is = absurd has
  first_argument (param.Words a (Named x)) (arg.Bytes ns) at l formed fit has mapped at_is = absurd has

  -- All arguments: the pointer of parameter p + k is in the first register of the parameter k behind the first one.

  abbrev place_from : ℕ → List Param → ℕ → ℕ
  place_from l qs k = 10 + l + sum_by registers_of (take k (map kind_of qs))

  abbrev Points : ℕ → ℕ → List Param → (ℕ → ℕ) → Type 0
  Points p l qs pointers = (k : ℕ) → pointers (p + k) ≡ register s.regs (place_from l qs k)

  first_place : (p l : ℕ) (qs : List Param) (pointers : ℕ → ℕ) → Points p l qs pointers → pointers p ≡ register s.regs (10 + l)
  first_place p l qs pointers points =
      let here : p + 0 ≡ p = omega arith in
      let at : 10 + l + 0 ≡ 10 + l = omega arith in
      ap pointers (sym here) ∙ points 0 ∙ ap (register s.regs) at

  place_step : (l : ℕ) (q : Param) (qs : List Param) (k : ℕ)
      → place_from l (q ∷ qs) (suc k) ≡ place_from (l + start.registers_of q) qs k
  place_step l q qs k = omega (arith, sum_by-cons registers_of (kind_of q) (take k (map kind_of qs)), next_register q l)

  next_places : (p l : ℕ) (q : Param) (qs : List Param) (pointers : ℕ → ℕ) → Points p l (q ∷ qs) pointers
      → Points (p + 1) (l + start.registers_of q) qs pointers
  next_places p l q qs pointers points k =
      let here : p + 1 + k ≡ p + suc k = omega arith in
      ap pointers here ∙ points (suc k) ∙ ap (register s.regs) (place_step l q qs k)

  pub has_arguments : (p l : ℕ) (qs : List Param) (vs : List Arg) (pointers : ℕ → ℕ) → all_true (map param_formed qs) ≡ true
      → AllFit qs vs
      → ready.HasArguments (map kind_of qs) vs (10 + l) s
      → AllByRecursion (IsMapped s.mem) (ready.array_ranges (map kind_of qs) vs (10 + l) s)
      → Points p l qs pointers → HasArguments p l qs vs pointers s.mem (argument_registers s)
  has_arguments p l [] [] pointers formed fit has mapped points = tt
  has_arguments p l [] (v ∷ vs) pointers formed fit has mapped points = absurd fit
  has_arguments p l (q ∷ qs) [] pointers formed fit has mapped points = absurd fit
  has_arguments p l (q ∷ qs) (v ∷ vs) pointers formed fit has mapped points =
      let parts = both_true (param_formed q) (all_true (map param_formed qs)) formed in
      let split = subst (λ (rs : List Range). AllByRecursion (IsMapped s.mem) rs) (next_ranges q qs v vs l) mapped in
      let rest = subst (λ (r : ℕ). ready.HasArguments (map kind_of qs) vs r s) (next_register q l) has.1 in (
        first_argument q v (pointers p) l parts.0 fit.0 has.0 (all_first (IsMapped s.mem) (own q v (10 + l)) _ split)
            (first_place p l (q ∷ qs) pointers points),
        has_arguments (p + 1) (l + start.registers_of q) qs vs pointers parts.1 fit.1 rest
            (all_rest (IsMapped s.mem) (own q v (10 + l)) _ split) (next_places p l q qs pointers points),
      )

  -- The ranges of the arrays.

  range_is : (v : Arg) (at r : ℕ) → at ≡ register s.regs r
      → ◌≡◌ {A = Range} (record { start = at; size = length (fits.array_bytes (Some v)) }) (array_range r v s)
  range_is v at r is = rw (is, same_bytes v) refl

  pub ranges_are : (p l : ℕ) (qs : List Param) (vs : List Arg) (pointers : ℕ → ℕ) → AllFit qs vs → Points p l qs pointers
      → array_ranges p qs vs pointers ≡ ready.array_ranges (map kind_of qs) vs (10 + l) s
  ranges_are p l [] [] pointers fit points = refl
  ranges_are p l [] (v ∷ vs) pointers fit points = absurd fit
  ranges_are p l (q ∷ qs) [] pointers fit points = absurd fit
  ranges_are p l (q ∷ qs) (v ∷ vs) pointers fit points =
      by q (ready.array_ranges (map kind_of qs) vs (10 + (l + start.registers_of q)) s) (first_place p l (q ∷ qs) pointers points)
      (ranges_are (p + 1) (l + start.registers_of q) qs vs pointers fit.1 (next_places p l q qs pointers points))
      ∙ sym (next_ranges q qs v vs l)
    where
      by : (z : Param) (rest : List Range) → pointers p ≡ register s.regs (10 + l) → array_ranges (p + 1) qs vs pointers ≡ rest
          → array_ranges p (z ∷ qs) (v ∷ vs) pointers ≡ own z v (10 + l) ++ rest
      by (param.Word x) rest at more = more
      by (param.Byte x) rest at more = more
      by (param.Bytes a n) rest at more =
          ap (λ (rs : List Range). record { start = pointers p; size = length (fits.array_bytes (Some v)) } ∷ rs) more
          ∙ ap (λ (r : Range). r ∷ rest) (range_is v (pointers p) (10 + l) at)
      by (param.Words a n) rest at more =
          ap (λ (rs : List Range). record { start = pointers p; size = length (fits.array_bytes (Some v)) } ∷ rs) more
          ∙ ap (λ (r : Range). r ∷ rest) (range_is v (pointers p) (10 + l) at)
