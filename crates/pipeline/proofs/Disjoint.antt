-- The arrays of a call are apart from one another where their ranges are.
use Rattle.std.proofs.Common.{◌≡◌, ◌≢◌, refl, ap, subst, arith, ℕ, zero, suc, ◌+◌, inl, inr, List, [], ◌∷◌, length, Option, Some}
use Rattle.std.proofs.Common.{None, slice_get}
use Rattle.std.specs.List.{AllByRecursion}
use Rattle.rup_base.specs.declared.arg.Arg.{Arg}
use Rattle.rup_base.specs.declared.arg.Arg.TheVariants as arg
use Rattle.model_syntax.specs.declared.program.Param.{Param}
use Rattle.model_syntax.specs.declared.program.Param.TheVariants as param
use Rattle.model_syntax.specs.declared.program.Model.{Model}
use Rattle.sym_heap.specs.Fits.{Locals, call_of, array_bytes}
use Rattle.sym_heap.specs.Arrival.{HasNumber, HasArguments, AreApart}
use Rattle.sym_heap.specs.Start.{registers_of}
use Rattle.rv_memory.specs.Ranges.{Bytes, Range, Within, Apart, AllApart}
use Rattle.rv_emit.specs.Ready.{InOne}
use Rattle.pipeline.specs.Serves.{array_ranges}

apart_one : (r : Range) (rs : List Range) (address : ℕ) → AllByRecursion (Apart r) rs → Within r address → InOne rs address → ⊥
apart_one r [] address all inside there = there
apart_one r (q ∷ rs) address all inside (inl here) = all.0 address inside here
apart_one r (q ∷ rs) address all inside (inr there) = apart_one r rs address all.1 inside there

-- the range of an argument, which is empty for a number
abbrev arg_range : ℕ → Option Arg → Range
arg_range at v = record { start = at; size = length (array_bytes v) }

no_range : (at address : ℕ) → Within (arg_range at None) address → ⊥
no_range at address inside = omega (arith, inside.0, inside.1)

no_array : (top : ℕ) (v : Arg) (l at address : ℕ) (locals : Locals) → HasNumber top v l locals
    → Within (arg_range at (Some v)) address → ⊥
no_array top (arg.Word n) l at address locals has inside = omega (arith, inside.0, inside.1)
no_array top (arg.Bytes ns) l at address locals has inside = absurd has
no_array top (arg.Words ns) l at address locals has inside = absurd has

module _ (pointers : ℕ → ℕ) (mem : Bytes) (locals : Locals) where
  moved : (p i : ℕ) (v : Option Arg) (address : ℕ) → Within (arg_range (pointers (p + suc i)) v) address
      → Within (arg_range (pointers (p + 1 + i)) v) address
  moved p i v address inside =
      let e : p + suc i ≡ p + 1 + i = omega arith in
      subst (λ (k : ℕ). Within (arg_range (pointers k) v) address) e inside

  first : (p : ℕ) (v : Option Arg) (address : ℕ) → Within (arg_range (pointers (p + 0)) v) address
      → Within (arg_range (pointers p) v) address
  first p v address inside =
      let e : p + 0 ≡ p = omega arith in
      subst (λ (k : ℕ). Within (arg_range (pointers k) v) address) e inside

  -- an address in the range of an argument is in one of the ranges of arrays
  in_ranges : (p l : ℕ) (ps : List Param) (vs : List Arg) → HasArguments p l ps vs pointers mem locals
      → (i address : ℕ) → Within (arg_range (pointers (p + i)) (slice_get vs i)) address
      → InOne (array_ranges p ps vs pointers) address
  in_ranges p l [] [] has i address inside = absurd (no_range (pointers (p + i)) address inside)
  in_ranges p l [] (v ∷ vs) has i address inside = absurd has
  in_ranges p l (q ∷ qs) [] has i address inside = absurd has
  in_ranges p l (param.Word x ∷ qs) (v ∷ vs) has zero address inside =
      absurd (no_array _ v l (pointers p) address locals has.0 (first p (Some v) address inside))
  in_ranges p l (param.Word x ∷ qs) (v ∷ vs) has (suc i) address inside =
      in_ranges (p + 1) _ qs vs has.1 i address (moved p i (slice_get vs i) address inside)
  in_ranges p l (param.Byte x ∷ qs) (v ∷ vs) has zero address inside =
      absurd (no_array _ v l (pointers p) address locals has.0 (first p (Some v) address inside))
  in_ranges p l (param.Byte x ∷ qs) (v ∷ vs) has (suc i) address inside =
      in_ranges (p + 1) _ qs vs has.1 i address (moved p i (slice_get vs i) address inside)
  in_ranges p l (param.Bytes a n ∷ qs) (v ∷ vs) has zero address inside = inl (first p (Some v) address inside)
  in_ranges p l (param.Bytes a n ∷ qs) (v ∷ vs) has (suc i) address inside =
      inr (in_ranges (p + 1) _ qs vs has.1 i address (moved p i (slice_get vs i) address inside))
  in_ranges p l (param.Words a n ∷ qs) (v ∷ vs) has zero address inside = inl (first p (Some v) address inside)
  in_ranges p l (param.Words a n ∷ qs) (v ∷ vs) has (suc i) address inside =
      inr (in_ranges (p + 1) _ qs vs has.1 i address (moved p i (slice_get vs i) address inside))

  -- an address in the range of the first argument and in that of a later one
  meet : (p l : ℕ) (q : Param) (qs : List Param) (v : Arg) (vs : List Arg)
      → HasArguments p l (q ∷ qs) (v ∷ vs) pointers mem locals
      → AllApart (array_ranges p (q ∷ qs) (v ∷ vs) pointers) → (j address : ℕ)
      → Within (arg_range (pointers p) (Some v)) address → Within (arg_range (pointers (p + 1 + j)) (slice_get vs j)) address → ⊥
  meet p l (param.Word x) qs v vs has apart j address one two = no_array _ v l (pointers p) address locals has.0 one
  meet p l (param.Byte x) qs v vs has apart j address one two = no_array _ v l (pointers p) address locals has.0 one
  meet p l (param.Bytes a n) qs v vs has apart j address one two =
      apart_one _ (array_ranges (p + 1) qs vs pointers) address apart.0 one (in_ranges (p + 1) _ qs vs has.1 j address two)
  meet p l (param.Words a n) qs v vs has apart j address one two =
      apart_one _ (array_ranges (p + 1) qs vs pointers) address apart.0 one (in_ranges (p + 1) _ qs vs has.1 j address two)

  rest_apart : (p : ℕ) (q : Param) (qs : List Param) (v : Arg) (vs : List Arg)
      → AllApart (array_ranges p (q ∷ qs) (v ∷ vs) pointers)
      → AllApart (array_ranges (p + 1) qs vs pointers)
  rest_apart p (param.Word x) qs v vs apart = apart
  rest_apart p (param.Byte x) qs v vs apart = apart
  rest_apart p (param.Bytes a n) qs v vs apart = apart.1
  rest_apart p (param.Words a n) qs v vs apart = apart.1

  two_apart : (p l : ℕ) (ps : List Param) (vs : List Arg) → HasArguments p l ps vs pointers mem locals
      → AllApart (array_ranges p ps vs pointers)
      → (i j : ℕ) → i ≢ j → (address : ℕ) → Within (arg_range (pointers (p + i)) (slice_get vs i)) address
      → Within (arg_range (pointers (p + j)) (slice_get vs j)) address → ⊥
  two_apart p l [] [] has apart i j other address one two = no_range (pointers (p + i)) address one
  two_apart p l [] (v ∷ vs) has apart i j other address one two = absurd has
  two_apart p l (q ∷ qs) [] has apart i j other address one two = absurd has
  two_apart p l (q ∷ qs) (v ∷ vs) has apart zero zero other address one two = other refl
  two_apart p l (q ∷ qs) (v ∷ vs) has apart zero (suc j) other address one two =
      meet p l q qs v vs has apart j address (first p (Some v) address one) (moved p j (slice_get vs j) address two)
  two_apart p l (q ∷ qs) (v ∷ vs) has apart (suc i) zero other address one two =
      meet p l q qs v vs has apart i address (first p (Some v) address two) (moved p i (slice_get vs i) address one)
  two_apart p l (q ∷ qs) (v ∷ vs) has apart (suc i) (suc j) other address one two =
      two_apart (p + 1) (l + registers_of q) qs vs has.1 (rest_apart p q qs v vs apart) i j (λ same. other (ap suc same)) address
      (moved p i (slice_get vs i) address one) (moved p j (slice_get vs j) address two)

pub are_apart : (m : Model) (args : List Arg) (pointers : ℕ → ℕ) (mem : Bytes) (locals : Locals)
    → HasArguments 0 0 m.params args pointers mem locals
    → AllApart (array_ranges 0 m.params args pointers) → AreApart (call_of m args pointers)
are_apart m args pointers mem locals has apart p q other address one two =
    let e : (k : ℕ) → k ≡ 0 + k = λ k. (omega arith) in
    two_apart pointers mem locals 0 0 m.params args has apart p q other address
    (subst (λ (k : ℕ). Within (arg_range (pointers k) (slice_get args p)) address) (e p) one)
    (subst (λ (k : ℕ). Within (arg_range (pointers k) (slice_get args q)) address) (e q) two)
