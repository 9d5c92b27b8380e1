-- Where things stand: regions one after another are disjoint, and they end below 2^32.
use Rattle.std.proofs.Common.{◌≡◌, ℕ, zero, suc, ◌+◌, ◌-◌, ◌*◌, ◌%◌, ◌^◌, ◌<◌, ◌≤◌, Bool, true, false, nat_eq, nat_le, slice_get}
use Rattle.std.proofs.Common.{get_or, take, Result, Ok, Err, List, [], ◌∷◌, ◌++◌, length, replicate, Option, Some, None, refl}
use Rattle.std.proofs.Common.{sym, subst, ◌∙◌, length-append, arith}
use Rattle.std.specs.Prelude.{All, IfOk}
use Rattle.std.proofs.lemmas.List.Elements.{All-nil, All-cons}
use Rattle.std.proofs.lemmas.List.{length-replicate, append-nil}
use Rattle.rup_base.specs.declared.arg.Kind.{Kind}
use Rattle.rup_base.specs.declared.arg.Kind.TheVariants as kind
use Rattle.rup_base.specs.declared.arg.Arg.{Arg}
use Rattle.rup_base.specs.declared.arg.Arg.TheVariants as arg
use Rattle.image_layout.specs.declared.image.Image.{Image}
use Rattle.image_layout.specs.Spelling as image
use Rattle.image_layout.proofs.laws.Length.{image_small}
use Rattle.std.proofs.lemmas.Bool.{leb-true, eqb-true}
use Rattle.std.proofs.lemmas.Option.{slice_get_within, slice_get_read, get_or_from_slice_get}
use Rattle.rup_base.specs.Answers.{and_then}
use Rattle.rup_base.specs.declared.refusal.ArgFault.TheVariants.{Count}
use Rattle.rup_base.specs.declared.refusal.Refusal.{Refusal}
use Rattle.rup_base.specs.declared.refusal.Refusal.TheVariants.{BadArguments, ArraysTooLarge}
use Rattle.image_layout.specs.Reading.{scalars}
use Rattle.rv_memory.specs.Bytes.{IsApart, AreDisjoint}
use Rattle.rv_memory.specs.Ranges.{Bytes}
use Rattle.run_setup.specs.Arguments.{bytes_of_words, array_limit}
use Rattle.run_setup.specs.Judging.{size_of, total_size, capped, length_value, symbol_values, judged, judged_count, judged_kinds}
use Rattle.run_setup.specs.Judging.{judged_size}
use Rattle.run_setup.specs.Results.{array_at}
use Rattle.run_setup.specs.Loading.{base, aligned, end_after, end_of, array_regions, registers_with, argument_values, image_end}
use Rattle.run_setup.specs.Loading.{stack_start, regions}

-- Regions that rise from an address on.

abbrev pub Rises : ℕ → List (ℕ × List ℕ) → Type 0
Rises low [] = Unit {0}
Rises low (r ∷ rs) = (low ≤ r.0) × Rises (r.0 + length r.1) rs

rises_apart : (r : ℕ × List ℕ) (low : ℕ) (rs : List (ℕ × List ℕ)) → r.0 + length r.1 ≤ low → Rises low rs → All (IsApart r) rs
rises_apart r low [] behind rises = All-nil (IsApart r)
rises_apart r low (q ∷ qs) behind rises =
    All-cons (IsApart r) q qs (λ a from below start end. omega (arith, behind, rises.0, from, below, start, end))
    (rises_apart r (q.0 + length q.1) qs (omega (arith, behind, rises.0)) rises.1)

pub rises_disjoint : (low : ℕ) (rs : List (ℕ × List ℕ)) → Rises low rs → AreDisjoint rs
rises_disjoint low [] rises = tt
rises_disjoint low (r ∷ rs) rises =
    (rises_apart r (r.0 + length r.1) rs (omega arith) rises.1, rises_disjoint (r.0 + length r.1) rs rises.1)

-- Sizes.

pub words_size : (words : List ℕ) → length (bytes_of_words words) ≡ 4 * length words
words_size [] = refl
words_size (w ∷ words) = let rest : length (bytes_of_words words) ≡ 4 * length words = words_size words in omega (arith, rest)

pub aligned_near : (address : ℕ) → (address ≤ aligned address) × (aligned address ≤ address + 15)
aligned_near address = (omega arith, omega arith)

pub aligned_whole : (address : ℕ) → aligned address % 16 ≡ 0
aligned_whole address = omega arith

pub end_near : (end : ℕ) (a : Arg) → end_after end a ≤ end + 15 + size_of a
end_near end (arg.Word n) = omega arith
end_near end (arg.Bytes bytes) = omega (arith, (aligned_near end).1)
end_near end (arg.Words words) = omega (arith, (aligned_near end).1)

pub end_bound : (end : ℕ) (args : List Arg) → end_of end args ≤ end + 15 * length args + total_size args
end_bound end [] = omega arith
end_bound end (a ∷ args) = omega (arith, end_near end a, end_bound (end_after end a) args)

pub end_grows : (end : ℕ) (args : List Arg) → end ≤ end_of end args
end_grows end [] = omega arith
end_grows end (arg.Word n ∷ args) = end_grows end args
end_grows end (arg.Bytes bytes ∷ args) = omega (arith, (aligned_near end).0, end_grows (end_after end (arg.Bytes bytes)) args)
end_grows end (arg.Words words ∷ args) = omega (arith, (aligned_near end).0, end_grows (end_after end (arg.Words words)) args)

-- the arrays rise, and the stack is behind them
pub arrays_rise : (end : ℕ) (args : List Arg) (low : ℕ) (stack : List ℕ) → low ≤ end
    → Rises low (array_regions end args ++ (aligned (end_of end args), stack) ∷ [])
arrays_rise end [] low stack behind = (omega (arith, behind, (aligned_near end).0), tt)
arrays_rise end (arg.Word n ∷ args) low stack behind = arrays_rise end args low stack behind
arrays_rise end (arg.Bytes bytes ∷ args) low stack behind = (
  omega (arith, behind, (aligned_near end).0),
  arrays_rise (aligned end + length bytes) args (aligned end + length bytes) stack
      (omega arith),
)
arrays_rise end (arg.Words words ∷ args) low stack behind = (
  omega (arith, behind, (aligned_near end).0),
  arrays_rise (aligned end + 4 * length words) args
      (aligned end + length (bytes_of_words words)) stack (omega (arith, words_size words)),
)

pub regions_disjoint : (i : Image) (args : List Arg) → AreDisjoint (regions i args)
unfolding regions
regions_disjoint i args =
    let rises : Rises base ((base, image.spelling i)
    ∷ (array_regions (image_end i) args ++ (stack_start i args, replicate i.stack 0) ∷ [])) =
    (omega arith, arrays_rise (image_end i) args (image_end i) (replicate i.stack 0) (omega arith)) in
    rises_disjoint base ((base, image.spelling i)
    ∷ (array_regions (image_end i) args ++ (stack_start i args, replicate i.stack 0) ∷ [])) rises

abbrev Ends : ℕ × List ℕ → Type 0
Ends r = r.0 + length r.1 ≤ 2 ^ 32

arrays_end : (end : ℕ) (args : List Arg) (stack : List ℕ) → aligned (end_of end args) + length stack ≤ 2 ^ 32
    → All Ends (array_regions end args ++ (aligned (end_of end args), stack) ∷ [])
arrays_end end [] stack below = All-cons Ends (aligned end, stack) [] below (All-nil Ends)
arrays_end end (arg.Word n ∷ args) stack below = arrays_end end args stack below
arrays_end end (arg.Bytes bytes ∷ args) stack below =
    let next = aligned end + length bytes in
    All-cons Ends (aligned end, bytes) (array_regions next args ++ (aligned (end_of next args), stack) ∷ [])
    (omega (arith, below, end_grows next args, (aligned_near (end_of next args)).0)) (arrays_end next args stack below)
arrays_end end (arg.Words words ∷ args) stack below =
    let next = aligned end + 4 * length words in
    All-cons Ends (aligned end, bytes_of_words words) (array_regions next args ++ (aligned (end_of next args), stack) ∷ [])
    (omega (arith, below, words_size words, end_grows next args, (aligned_near (end_of next args)).0))
    (arrays_end next args stack below)

-- Registers.

pub values_few : (end : ℕ) (kinds : List Kind) (args : List Arg) → length (argument_values end kinds args) ≤ 2 * length args
values_few end [] [] = omega arith
values_few end [] (a ∷ args) = omega arith
values_few end (k ∷ kinds) [] = omega arith
values_few end (k ∷ kinds) (a ∷ args) =
    omega (
      arith,
      length-append (registers_with end k a) (argument_values (end_after end a) kinds args),
      one_few a,
      values_few
          (end_after end a) kinds args,
    )
  where
    named : (k : Kind) (n : ℕ) → length (length_value k n) ≤ 1
    named kind.Word n = omega arith
    named kind.Byte n = omega arith
    named (kind.Bytes None) n = omega arith
    named (kind.Bytes (Some m)) n = omega arith
    named (kind.Words None) n = omega arith
    named (kind.Words (Some m)) n = omega arith

    one_few : (a : Arg) → length (registers_with end k a) ≤ 2
    one_few (arg.Word n) = omega arith
    one_few (arg.Bytes bytes) = omega (arith, named k (length bytes))
    one_few (arg.Words words) = omega (arith, named k (length words))

pub regions_end : (i : Image) (args : List Arg) → image.IsWithinLimits i → length args ≤ 8 → total_size args ≤ array_limit
    → All (λ r. r.0 + length r.1 ≤ 2 ^ 32) (regions i args)
unfolding regions
regions_end i args w few small =
    let size = image_small i w in
    let arrays = end_bound (image_end i) args in
    let stack = aligned_near (end_of (image_end i) args) in
    All-cons Ends (base, image.spelling i) (array_regions (image_end i) args ++ (stack_start i args, replicate i.stack 0) ∷ [])
    (omega (arith, size))
    (arrays_end (image_end i) args (replicate i.stack 0)
    (omega (arith, size, arrays, stack.1, few, small, w.stack_most, length-replicate {A = ℕ} i.stack 0)))

-- nothing is left, so what was put is the whole
pub values_done : (end : ℕ) (kinds : List Kind) (left : List Arg) (values whole : List ℕ) → length left < 1
    → values ++ argument_values end kinds left ≡ whole → values ≡ whole
values_done end kinds (a ∷ left) values whole none so_far = absurd (omega (arith, none))
values_done end [] [] values whole none so_far = sym (append-nil values) ∙ so_far
values_done end (k ∷ kinds) [] values whole none so_far = sym (append-nil values) ∙ so_far

pub symbols_done : (kinds : List Kind) (left : List Arg) (values whole : List ℕ) → length left < 1
    → values ++ symbol_values kinds left ≡ whole → values ≡ whole
symbols_done kinds (a ∷ left) values whole none so_far = absurd (omega (arith, none))
symbols_done [] [] values whole none so_far = sym (append-nil values) ∙ so_far
symbols_done (k ∷ kinds) [] values whole none so_far = sym (append-nil values) ∙ so_far

pub total_done : (total : ℕ) (left args : List Arg) → length left < 1 → total < 2 ^ 64
    → capped (total + total_size left) ≡ capped (total_size args) → total ≡ capped (total_size args)
total_done total (a ∷ left) args none small so_far = absurd (omega (arith, none))
total_done total [] args none small so_far = let same : total ≡ capped (total + 0) = omega (arith, small) in same ∙ so_far

-- the arguments before one, and it
pub total_part : (args : List Arg) (p : ℕ) (a : Arg) → slice_get args p ≡ Some a
    → total_size (take p args) + size_of a ≤ total_size args
total_part [] p a e = absurd (let bad = slice_get_within [] p a e in omega (arith, bad))
total_part (b ∷ args) zero a e = let same : b ≡ a = get_or_from_slice_get (b ∷ args) 0 a a e in rw same (omega arith)
total_part (b ∷ args) (suc p) a e = omega (arith, total_part args p a e)

pub scalars_few : (kinds : List Kind) (left : ℕ) (seen : List ℕ) (rs : List (Option ℕ)) → image.ResultsFit kinds left seen rs
    → scalars rs ≤ left
scalars_few kinds left seen [] limits = omega arith
scalars_few kinds zero seen (None ∷ rs) limits = absurd limits
scalars_few kinds (suc left) seen (None ∷ rs) limits = let rest : scalars rs ≤ left = scalars_few kinds left seen rs limits in
    omega (arith, rest)
scalars_few kinds left seen (Some p ∷ rs) limits = scalars_few kinds left (p ∷ seen) rs limits.2

pub and_ok : {A B : Type 0} (r : Result A Refusal) (next : A → Result B Refusal) (b : B) → and_then r next ≡ Ok b
    → (a : A) × (r ≡ Ok a) × (next a ≡ Ok b)
and_ok (Ok a) next b e = (a, refl, e)
and_ok (Err refusal) next b e = absurd (cc)

pub count_ok : (kinds : List Kind) (args : List Arg) (u : Unit {0}) → judged_count kinds args ≡ Ok u → length args ≡ length kinds
count_ok kinds args u e = by_test (nat_eq (length args) (length kinds)) refl
  where
    by_test : (same : Bool) → nat_eq (length args) (length kinds) ≡ same → length args ≡ length kinds
    by_test true h = eqb-true (length args) (length kinds) h
    by_test false h = absurd (let bad : judged_count kinds args ≡ Err (BadArguments Count) = rw h refl in cc)

pub size_ok : (args : List Arg) (u : Unit {0}) → judged_size args ≡ Ok u → total_size args ≤ array_limit
size_ok args u e = by_test (nat_le (total_size args) array_limit) refl
  where
    by_test : (small : Bool) → nat_le (total_size args) array_limit ≡ small → total_size args ≤ array_limit
    by_test true h = leb-true _ _ h
    by_test false h = absurd (let bad : judged_size args ≡ Err (ArraysTooLarge (capped (total_size args))) = rw h refl in cc)

pub judged_small : (i : Image) (args : List Arg) → judged i args ≡ Ok tt
    → (length args ≡ length i.params) × (total_size args ≤ array_limit)
judged_small i args e =
    let count = and_ok (judged_count i.params args) _ tt e in
    let kinds = and_ok (judged_kinds 0 i.params args) _ tt count.2 in
    let size = and_ok (judged_size args) _ tt kinds.2 in
    (count_ok i.params args count.0 count.1, size_ok args size.0 size.1)

pub total_parts : (args : List Arg) (p : ℕ) (a : Arg) → p < length args → a ≡ get_or args p a
    → (slice_get args p ≡ Some a) × (total_size (take p args) + size_of a ≤ total_size args)
total_parts args p a within is =
    let there : slice_get args p ≡ Some a = slice_get_read args (length args) p a refl within is in
    (there, total_part args p a there)

pub total_before : (args : List Arg) (p : ℕ) → total_size (take p args) ≤ total_size args
total_before [] zero = omega arith
total_before [] (suc p) = omega arith
total_before (a ∷ args) zero = omega arith
total_before (a ∷ args) (suc p) = omega (arith, total_before args p)

pub size_at : (args : List Arg) (p : ℕ) (d : Arg) → p < length args → size_of (get_or args p d) ≤ total_size args
size_at [] p d within = absurd (omega (arith, within))
size_at (a ∷ args) zero d within = omega arith
size_at (a ∷ args) (suc p) d within = omega (arith, size_at args p d (omega (arith, within)))

pub few_before : (args : List Arg) (p : ℕ) → length (take p args) ≤ length args
few_before [] zero = omega arith
few_before [] (suc p) = omega arith
few_before (a ∷ args) zero = omega arith
few_before (a ∷ args) (suc p) = omega (arith, few_before args p)

-- what was read at an address is the array of an argument there
pub array_is_at : {E : Type 0} (mem : Bytes) (end place : ℕ) (args : List Arg) (p : ℕ) (a : Arg) (result : Result Arg E)
    → slice_get args p ≡ Some a → place ≡ aligned end
    → IfOk result (λ array. array ≡ array_at mem place (Some a))
    → IfOk result (λ array. array ≡ array_at mem (aligned end) (slice_get args p))
array_is_at mem end place args p a result there here read =
    let at_end : IfOk result (λ array. array ≡ array_at mem (aligned end) (Some a)) =
    subst (λ (at : ℕ). IfOk result (λ array. array ≡ array_at mem at (Some a))) here read in
    rw there at_end
