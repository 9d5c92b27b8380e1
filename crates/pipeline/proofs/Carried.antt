-- Arguments and results in one place are there in another too, which has the same.
use Rattle.std.proofs.Common.{◌≡◌, refl, sym, ◌∙◌, ap, subst, arith, ℕ, zero, suc, ◌+◌, ◌<◌, ◌≤◌, inl, inr, List, [], ◌∷◌, ◌++◌}
use Rattle.std.proofs.Common.{length, Some, slice_get}
use Rattle.std.proofs.lemmas.Option.{slice_get_within}
use Rattle.std.specs.FinMap.{get}
use Rattle.rup_base.specs.declared.arg.Arg.{Arg}
use Rattle.rup_base.specs.declared.arg.Arg.TheVariants as arg
use Rattle.model_syntax.specs.declared.program.Len.{Len}
use Rattle.model_syntax.specs.declared.program.Len.TheVariants.{Fixed, Named}
use Rattle.model_syntax.specs.declared.program.Param.{Param}
use Rattle.model_syntax.specs.declared.program.Param.TheVariants as param
use Rattle.model_syntax.specs.declared.program.Ret.{Ret}
use Rattle.model_syntax.specs.declared.program.Ret.TheVariants as ret
use Rattle.sym_heap.specs.Fits.{Locals, array_bytes}
use Rattle.sym_heap.specs.Arrival.{HasNumber, HasLength, HasArray, HasArguments}
use Rattle.sym_heap.specs.Start.{length_registers, registers}
use Rattle.model_syntax.specs.Types.{scalar_results}
use Rattle.model_command.specs.Computes.{HoldsResults}
use Rattle.bed_syntax.specs.Shape.{numbers}
use Rattle.rv_memory.specs.Ranges.{Bytes, Within}
use Rattle.rv_emit.specs.Ready.{InOne}
use Rattle.pipeline.specs.Serves.{array_ranges}

-- what one memory has at the addresses of a range, the other has too
abbrev pub Has : (ℕ → Type 0) → Bytes → Bytes → Type 0
Has inside before after = (address b : ℕ) → inside address → get before address ≡ Some b → get after address ≡ Some b

-- the locals from l on, so many, are the same
abbrev pub Same : ℕ → ℕ → Locals → Locals → Type 0
Same l n before after = (k : ℕ) → l ≤ k → k < l + n → after k ≡ before k

number_carried : (top : ℕ) (v : Arg) (l : ℕ) (before after : Locals) → after l ≡ before l → HasNumber top v l before
    → HasNumber top v l after
number_carried top (arg.Word n) l before after same has = (same ∙ has.0, has.1)
number_carried top (arg.Bytes ns) l before after same has = absurd has
number_carried top (arg.Words ns) l before after same has = absurd has

length_carried : (len : Len) (n l : ℕ) (before after : Locals) → Same l (length_registers len) before after
    → HasLength len n l before → HasLength len n l after
length_carried (Fixed k) n l before after same has = has
length_carried (Named x) n l before after same has = same l (omega arith) (omega arith) ∙ has

array_carried : (size : ℕ) (len : Len) (v : Arg) (at l : ℕ) (mem part : Bytes) (before after : Locals)
    → Same l (1 + length_registers len) before after
    → Has (Within (record { start = at; size = length (array_bytes (Some v)) })) mem part
    → HasArray size len v at l mem before → HasArray size len v at l part after
array_carried size len v at l mem part before after same there has =
    record {
      array = has.array;
      pointer = same l (omega arith) (omega arith) ∙ has.pointer;
      has_length = length_carried len _ (l + 1) before after (λ k from to. same k (omega (arith, from)) (omega (arith, to)))
          has.has_length;
      stands = λ k b is.
          let below : k < length (array_bytes (Some v)) = slice_get_within (array_bytes (Some v)) k b is in
          there (at + k) b (omega arith, omega (arith, below)) (has.stands k b is);
      few = has.few;
      aligned = has.aligned;
      ends = has.ends;
    }

pub arguments_carried : (p l : ℕ) (ps : List Param) (vs : List Arg) (pointers : ℕ → ℕ) (mem part : Bytes) (before after : Locals)
    → Same l (registers ps) before after → Has (InOne (array_ranges p ps vs pointers)) mem part
    → HasArguments p l ps vs pointers mem before → HasArguments p l ps vs pointers part after
arguments_carried p l [] [] pointers mem part before after same there has = tt
arguments_carried p l [] (v ∷ vs) pointers mem part before after same there has = absurd has
arguments_carried p l (q ∷ qs) [] pointers mem part before after same there has = absurd has
arguments_carried p l (param.Word x ∷ qs) (v ∷ vs) pointers mem part before after same there has = (
  number_carried _ v l before after (same l (omega arith) (omega arith)) has.0,
  arguments_carried (p + 1) (l + 1) qs vs pointers mem part before after
      (λ k from to. same k (omega (arith, from)) (omega (arith, to))) there has.1,
)
arguments_carried p l (param.Byte x ∷ qs) (v ∷ vs) pointers mem part before after same there has = (
  number_carried _ v l before after (same l (omega arith) (omega arith)) has.0,
  arguments_carried (p + 1) (l + 1) qs vs pointers mem part before after
      (λ k from to. same k (omega (arith, from)) (omega (arith, to))) there has.1,
)
arguments_carried p l (param.Bytes a n ∷ qs) (v ∷ vs) pointers mem part before after same there has = (
  array_carried 1 n v (pointers p) l mem part before after (λ k from to. same k from (omega (arith, to)))
      (λ address b inside. there address b (inl inside)) has.0,
  arguments_carried (p + 1) (l + (1 + length_registers n)) qs vs pointers mem part before after
      (λ k from to. same k (omega (arith, from)) (omega (arith, to))) (λ address b inside. there address b (inr inside)) has.1,
)
arguments_carried p l (param.Words a n ∷ qs) (v ∷ vs) pointers mem part before after same there has = (
  array_carried 4 n v (pointers p) l mem part before after (λ k from to. same k from (omega (arith, to)))
      (λ address b inside. there address b (inl inside)) has.0,
  arguments_carried (p + 1) (l + (1 + length_registers n)) qs vs pointers mem part before after
      (λ k from to. same k (omega (arith, from)) (omega (arith, to))) (λ address b inside. there address b (inr inside)) has.1,
)

-- the locals of a list that are set are the numbers from k on
abbrev pub Moved : ℕ → List ℕ → Locals → Locals → Type 0
Moved k ls before after = (i l n : ℕ) → slice_get ls i ≡ Some l → before l ≡ Some n → after (k + i) ≡ Some n

moved_next : (k l : ℕ) (ls : List ℕ) (before after : Locals) → Moved k (l ∷ ls) before after → Moved (k + 1) ls before after
moved_next k l ls before after moved = λ i x n is has.
    let e : k + 1 + i ≡ k + suc i = omega arith in
    ap after e ∙ moved (suc i) x n is has

-- a number for each scalar result, from k on
abbrev scalar_places : ℕ → List Ret → List ℕ
scalar_places k [] = []
scalar_places k (ret.Scalar x ∷ rs) = k ∷ scalar_places (k + 1) rs
scalar_places k (ret.Array a p ∷ rs) = scalar_places k rs

carried_from : (ps : List Param) (pointers : ℕ → ℕ) (rs : List Ret) (vs : List Arg) (ls : List ℕ) (k : ℕ) (mem end : Bytes)
    (before after : Locals)
    → ((address b : ℕ) → get mem address ≡ Some b → get end address ≡ Some b) → Moved k ls before after
    → HoldsResults ps pointers rs vs ls mem before → HoldsResults ps pointers rs vs (scalar_places k rs) end after
carried_from ps pointers [] [] [] k mem end before after kept moved has = tt
carried_from ps pointers [] [] (l ∷ ls) k mem end before after kept moved has = absurd has
carried_from ps pointers [] (v ∷ vs) ls k mem end before after kept moved has = absurd has
carried_from ps pointers (ret.Scalar x ∷ rs) [] ls k mem end before after kept moved has = absurd has
carried_from ps pointers (ret.Scalar x ∷ rs) (arg.Word n ∷ vs) [] k mem end before after kept moved has = absurd has
carried_from ps pointers (ret.Scalar x ∷ rs) (arg.Word n ∷ vs) (l ∷ ls) k mem end before after kept moved has =
    let e : k ≡ k + 0 = omega arith in (
      ap after e ∙ moved 0 l n refl has.0,
      carried_from ps pointers rs vs ls (k + 1) mem end before after kept (moved_next k l ls before after moved) has.1,
    )
carried_from ps pointers (ret.Scalar x ∷ rs) (arg.Bytes ns ∷ vs) ls k mem end before after kept moved has = absurd has
carried_from ps pointers (ret.Scalar x ∷ rs) (arg.Words ns ∷ vs) ls k mem end before after kept moved has = absurd has
carried_from ps pointers (ret.Array a p ∷ rs) [] ls k mem end before after kept moved has = absurd has
carried_from ps pointers (ret.Array a p ∷ rs) (v ∷ vs) ls k mem end before after kept moved has =
    (λ i b is. kept _ b (has.0 i b is), carried_from ps pointers rs vs ls k mem end before after kept moved has.1)

-- they are the numbers below their number
abbrev rising : ℕ → ℕ → List ℕ
rising k zero = []
rising k (suc n) = k ∷ rising (k + 1) n

places_rise : (k : ℕ) (rs : List Ret) → scalar_places k rs ≡ rising k (scalar_results rs)
places_rise k [] = refl
places_rise k (ret.Scalar x ∷ rs) =
    let e : suc (scalar_results rs) ≡ scalar_results rs + 1 = omega arith in
    ap (λ (ns : List ℕ). k ∷ ns) (places_rise (k + 1) rs) ∙ ap (rising k) e
places_rise k (ret.Array a p ∷ rs) = places_rise k rs

rising_end : (k n : ℕ) → rising k n ++ (k + n) ∷ [] ≡ rising k (suc n)
rising_end k zero = let e : k + 0 ≡ k = omega arith in ap (λ (j : ℕ). j ∷ []) e
rising_end k (suc n) =
    let e : k + suc n ≡ k + 1 + n = omega arith in
    ap (λ (j : ℕ). k ∷ (rising (k + 1) n ++ j ∷ [])) e ∙ ap (λ (ns : List ℕ). k ∷ ns) (rising_end (k + 1) n)

rising_is : (n : ℕ) → rising 0 n ≡ numbers n
rising_is zero = refl
rising_is (suc n) =
    let e : 0 + n ≡ n = omega arith in
    sym (rising_end 0 n) ∙ ap (λ (j : ℕ). rising 0 n ++ j ∷ []) e ∙ ap (λ (ns : List ℕ). ns ++ n ∷ []) (rising_is n)

pub results_carried : (ps : List Param) (pointers : ℕ → ℕ) (rs : List Ret) (vs : List Arg) (ls : List ℕ) (mem end : Bytes)
    (before after : Locals)
    → ((address b : ℕ) → get mem address ≡ Some b → get end address ≡ Some b)
    → ((i l n : ℕ) → slice_get ls i ≡ Some l → before l ≡ Some n → after i ≡ Some n)
    → HoldsResults ps pointers rs vs ls mem before → HoldsResults ps pointers rs vs (numbers (scalar_results rs)) end after
results_carried ps pointers rs vs ls mem end before after kept moved has =
    let from_zero : Moved 0 ls before after =
    λ i l n is holds. (let e : 0 + i ≡ i = omega arith in ap after e ∙ moved i l n is holds) in
    subst (λ (ns : List ℕ). HoldsResults ps pointers rs vs ns end after) (places_rise 0 rs ∙ rising_is (scalar_results rs))
    (carried_from ps pointers rs vs ls 0 mem end before after kept from_zero has)
