-- A good image is served: its run returns, and the results are the model's.
use Rattle.std.proofs.Common.{◌≡◌, ◌≢◌, refl, sym, ◌∙◌, ap, subst, arith, ℕ, zero, suc, ◌+◌, ◌*◌, ◌<◌, ◌≤◌, ◌^◌, min, List, []}
use Rattle.std.proofs.Common.{◌∷◌, ◌++◌, length, get_or, take, Option, Some, None, Result, Ok, Err, inl, inr, IfOk, true, ◌⊎◌}
use Rattle.std.specs.Prelude.{slice_get, sum_by}
use Rattle.std.specs.List.{AllByRecursion, flat_map}
use Rattle.std.specs.Int.{w32, from_le_bytes, to_le_bytes}
use Rattle.std.specs.FinMap.{get}
use Rattle.std.proofs.lemmas.Bool.{cases_lt}
use Rattle.std.proofs.lemmas.List.{get_or_past}
use Rattle.std.proofs.lemmas.List.Sums.{sum_by-cons}
use Rattle.std.proofs.lemmas.Nat.{from_le_bytes-to_le_bytes_4, le_bytes_4}
use Rattle.std.proofs.lemmas.Option.{slice_get-get_or, slice_get_within}
use Rattle.rup_base.specs.declared.arg.Kind.{Kind}
use Rattle.rup_base.specs.declared.arg.Kind.TheVariants as kind
use Rattle.rup_base.specs.declared.arg.Arg.{Arg}
use Rattle.rup_base.specs.declared.arg.Arg.TheVariants as arg
use Rattle.cost_poly.specs.Polynomial.{at}
use Rattle.image_layout.specs.declared.image.Image.{Image}
use Rattle.image_layout.specs.Spelling as image
use Rattle.image_layout.specs.Spelling.{registers_of}
use Rattle.model_syntax.specs.declared.program.Model.{Model}
use Rattle.model_syntax.specs.Kinds.{is_of_kind}
use Rattle.model_syntax.specs.Sound.{end_scope}
use Rattle.model_syntax.specs.Value.{Meets, value, results, start as start_env}
use Rattle.model_syntax.proofs.laws.Models.{models_sound}
use Rattle.rv_machine.specs.State.{State, register}
use Rattle.rv_memory.specs.Ranges.{Bytes, Stands}
use Rattle.rv_machine.specs.Step.{then_step, step, after}
use Rattle.rv_machine.specs.Run.{Reached, Ran}
use Rattle.rv_machine.specs.declared.running.End.{End}
use Rattle.rv_machine.specs.declared.running.End.TheVariants.{Returned, Trapped, OutOfSteps}
use Rattle.run_setup.specs.Arguments.{bytes_of_words, words_of_bytes}
use Rattle.run_setup.specs.Judging.{symbol_values}
use Rattle.run_setup.specs.Loading.{base, return_address, aligned, end_after, end_of, registers_with, argument_values, image_end}
use Rattle.run_setup.specs.Loading.{start_state}
use Rattle.run_setup.specs.Results.{bytes_at, array_at, place_of, results_from, results_of, line_of, lines_of}
use Rattle.run_setup.specs.Digits.{two_digits}
use Rattle.run_setup.specs.Ready.{array_bytes}
use Rattle.run_setup.specs.Good.{register_of, HasResults}
use Rattle.run_setup.specs.Laws.{GoodIsServed, step_limit}
use Rattle.run_setup.proofs.laws.Places.{words_size}
use Rattle.run_setup.proofs.laws.Meeting.{AllOfKind, fitting}
use Rattle.run_setup.proofs.Exact.{HasWords, results_fit}
use Rattle.run_setup.proofs.Likeness.{IsLike, AreLike, results_like}
use Rattle.run_setup.proofs.Loaded.{Hold, first_held, rest_held, rest_held_2, no_fit, registers_hold, ra_is, loaded_is_ready}

-- A run.

same_state : (n : ℕ) (s t u : State) → after n s ≡ Ok t → after n s ≡ Ok u → t ≡ u
same_state n s t u one other = is (sym one ∙ other)
  where
    is : {E : Type 0} → ◌≡◌ {A = Result State E} (Ok t) (Ok u) → t ≡ u
    is e = cc

pub record Back (stop k : ℕ) (s e : State) : Type 0 where
  pub ran : after k s ≡ Ok e
  pub back : e.pc ≡ stop
  pub before : (j : ℕ) → j < k → (u : State) × (after j s ≡ Ok u) × (u.pc ≢ stop)

-- a run that comes back does not end before
not_earlier : (stop k n : ℕ) (s e t : State) → Back stop k s e → after n s ≡ Ok t → t.pc ≡ stop → n < k → ⊥
not_earlier stop k n s e t b ran at less =
    let u = b.before n less in
    u.2 (ap (λ (v : State). v.pc) (same_state n s u.0 t u.1 ran) ∙ at)

not_later : (stop k n : ℕ) (s e t : State) → Back stop k s e → Reached stop s n t → k < n → ⊥
not_later stop k n s e t b reached less = reached.not_before k e less b.ran b.back

not_elsewhere : (stop k n : ℕ) (s e t : State) → Back stop k s e → after n s ≡ Ok t → t.pc ≢ stop → k ≡ n → ⊥
not_elsewhere stop k n s e t b ran away same =
    let here : after n s ≡ Ok e = ap (λ (j : ℕ). after j s) (sym same) ∙ b.ran in
    away (ap (λ (v : State). v.pc) (same_state n s t e ran here) ∙ b.back)

no_trap : (stop k n : ℕ) (s e t : State) (cause : _) → Back stop k s e → after n s ≡ Ok t → step t ≡ Err cause → n < k → ⊥
unfolding after
no_trap stop k n s e t cause b ran trapped less =
    let next : after (suc n) s ≡ Err cause = ap then_step ran ∙ trapped in
    by_end (cases_lt (suc n) k) next
  where
    bad : (v : State) → after (suc n) s ≡ Err cause → after (suc n) s ≡ Ok v → ⊥
    bad v one other = differ (sym one ∙ other)
      where
        differ : Err cause ≡ Ok v → ⊥
        differ e = absurd (cc)

    by_end : (suc n < k) ⊎ (k ≤ suc n) → after (suc n) s ≡ Err cause → ⊥
    by_end (inl more) next = let u = b.before (suc n) more in bad u.0 next u.1
    by_end (inr last) next = let same : k ≡ suc n = omega (arith, less, last) in
        bad e next (ap (λ (j : ℕ). after j s) (sym same) ∙ b.ran)

-- the run of the machine ends there
pub comes_back : (stop budget k : ℕ) (s e t : State) (end : End) → Back stop k s e → k ≤ budget → Ran stop budget s end t
    → ((steps : ℕ) × (end ≡ Returned steps)) × (t ≡ e)
comes_back stop budget k s e t (Returned n) b few ran =
    let same : n ≡ k = by_order (cases_lt n k) (cases_lt k n) in
    ((n, refl), same_state k s t e (ap (λ (j : ℕ). after j s) (sym same) ∙ ran.0.ran) b.ran)
  where
    by_order : (n < k) ⊎ (k ≤ n) → (k < n) ⊎ (n ≤ k) → n ≡ k
    by_order (inl less) other = absurd (not_earlier stop k n s e t b ran.0.ran ran.2 less)
    by_order (inr most) (inl more) = absurd (not_later stop k n s e t b ran.0 more)
    by_order (inr most) (inr least) = omega (arith, most, least)
comes_back stop budget k s e t (Trapped cause pc n) b few ran = absurd (by_order (cases_lt n k) (cases_lt k n))
  where
    by_order : (n < k) ⊎ (k ≤ n) → (k < n) ⊎ (n ≤ k) → ⊥
    by_order (inl less) other = no_trap stop k n s e t cause b ran.0.ran ran.3 less
    by_order (inr most) (inl more) = not_later stop k n s e t b ran.0 more
    by_order (inr most) (inr least) = not_elsewhere stop k n s e t b ran.0.ran ran.2 (omega (arith, most, least))
comes_back stop budget k s e t (OutOfSteps n) b few ran = absurd (by_order (cases_lt k n))
  where
    by_order : (k < n) ⊎ (n ≤ k) → ⊥
    by_order (inl more) = not_later stop k n s e t b ran.0 more
    by_order (inr least) = not_elsewhere stop k n s e t b ran.0.ran ran.2 (omega (arith, least, few, ran.1))

-- Arrays in memory.

bytes_read : (mem : Bytes) (address : ℕ) (bytes : List ℕ) → Stands mem address bytes → bytes_at mem address (length bytes) ≡ bytes
bytes_read mem address [] stands = refl
bytes_read mem address (b ∷ bytes) stands =
    let place : address ≡ address + 0 = omega arith in
    let here : get mem address ≡ Some b = ap (get mem) place ∙ stands 0 b refl in
    let rest : bytes_at mem (address + 1) (length bytes) ≡ bytes =
    bytes_read mem (address + 1) bytes
    (λ k c is. let further : address + 1 + k ≡ address + suc k = omega arith in ap (get mem) further ∙ stands (suc k) c is) in
    rw (here, rest) refl

words_read : (words : List ℕ) → AllByRecursion (λ n. n < 2 ^ 32) words → words_of_bytes (bytes_of_words words) ≡ words
words_read [] all = refl
words_read (w ∷ words) all =
    ap (λ (n : ℕ). n ∷ words_of_bytes (bytes_of_words words)) (from_le_bytes-to_le_bytes_4 w all.0)
    ∙ ap (λ (ws : List ℕ). w ∷ ws) (words_read words all.1)

array_read : (mem : Bytes) (address : ℕ) (old result : Arg) → IsLike old result → HasWords result
    → Stands mem address (array_bytes result) → array_at mem address (Some old) ≡ result
array_read mem address (arg.Word n) result like words_fit stands = absurd like
array_read mem address (arg.Bytes old) (arg.Bytes bytes) like words_fit stands =
    ap arg.Bytes (ap (bytes_at mem address) (sym like) ∙ bytes_read mem address bytes stands)
array_read mem address (arg.Words old) (arg.Words words) like words_fit stands =
    let size : 4 * length old ≡ length (bytes_of_words words) = omega (arith, like, words_size words) in
    ap arg.Words (ap words_of_bytes (ap (bytes_at mem address) size ∙ bytes_read mem address (bytes_of_words words) stands)
    ∙ words_read words words_fit)
array_read mem address (arg.Bytes old) (arg.Word n) like words_fit stands = absurd like
array_read mem address (arg.Bytes old) (arg.Words words) like words_fit stands = absurd like
array_read mem address (arg.Words old) (arg.Word n) like words_fit stands = absurd like
array_read mem address (arg.Words old) (arg.Bytes bytes) like words_fit stands = absurd like

word_again : (n : ℕ) → to_le_bytes w32 (from_le_bytes w32 (to_le_bytes w32 n)) ≡ to_le_bytes w32 n
word_again n = le_bytes_4 (to_le_bytes w32 n) (from_le_bytes w32 (to_le_bytes w32 n)) refl are_bytes refl
  where
    are_bytes : (i : ℕ) → get_or (to_le_bytes w32 n) i 0 < 256
    are_bytes zero = omega arith
    are_bytes (suc zero) = omega arith
    are_bytes (suc (suc zero)) = omega arith
    are_bytes (suc (suc (suc zero))) = omega arith
    are_bytes (suc (suc (suc (suc i)))) = omega arith

words_again : (words : List ℕ) → bytes_of_words (words_of_bytes (bytes_of_words words)) ≡ bytes_of_words words
words_again [] = refl
words_again (w ∷ words) = ap (λ (bs : List ℕ). bs ++ bytes_of_words (words_of_bytes (bytes_of_words words))) (word_again w)
    ∙ ap (λ (bs : List ℕ). to_le_bytes w32 w ++ bs) (words_again words)

-- an array is printed as it stands
array_printed : (mem : Bytes) (address : ℕ) (old result : Arg) → IsLike old result → Stands mem address (array_bytes result)
    → line_of (array_at mem address (Some old)) ≡ line_of result
array_printed mem address (arg.Word n) result like stands = absurd like
array_printed mem address (arg.Bytes old) (arg.Bytes bytes) like stands =
    ap (λ (bs : List ℕ). line_of (arg.Bytes bs)) (ap (bytes_at mem address) (sym like) ∙ bytes_read mem address bytes stands)
array_printed mem address (arg.Words old) (arg.Words words) like stands =
    let size : 4 * length old ≡ length (bytes_of_words words) = omega (arith, like, words_size words) in
    ap (λ (bs : List ℕ). line_of (arg.Words (words_of_bytes bs)))
    (ap (bytes_at mem address) size ∙ bytes_read mem address (bytes_of_words words) stands)
    ∙ ap (λ (bs : List ℕ). flat_map two_digits bs ++ 10 ∷ []) (words_again words)
array_printed mem address (arg.Bytes old) (arg.Word n) like stands = absurd like
array_printed mem address (arg.Bytes old) (arg.Words words) like stands = absurd like
array_printed mem address (arg.Words old) (arg.Word n) like stands = absurd like
array_printed mem address (arg.Words old) (arg.Bytes bytes) like stands = absurd like

-- Pointers.

abbrev IsArray : Arg → Type 0
IsArray (arg.Word n) = ⊥
IsArray (arg.Bytes bytes) = Unit {0}
IsArray (arg.Words words) = Unit {0}

like_array : (old result : Arg) → IsLike old result → IsArray old
like_array (arg.Word n) result like = absurd like
like_array (arg.Bytes old) result like = tt
like_array (arg.Words old) result like = tt

behind_held : (s : State) (end r : ℕ) (k : Kind) (a : Arg) (vs : List ℕ) → is_of_kind k a ≡ true
    → Hold s r (registers_with end k a ++ vs) → Hold s (r + registers_of k) vs
behind_held s end r kind.Word (arg.Word n) vs fit held = rest_held s r n vs held
behind_held s end r kind.Byte (arg.Word n) vs fit held = rest_held s r n vs held
behind_held s end r (kind.Bytes None) (arg.Bytes bytes) vs fit held = rest_held_2 s r (aligned end) (length bytes) vs held
behind_held s end r (kind.Bytes (Some n)) (arg.Bytes bytes) vs fit held = rest_held s r (aligned end) vs held
behind_held s end r (kind.Words None) (arg.Words words) vs fit held = rest_held_2 s r (aligned end) (length words) vs held
behind_held s end r (kind.Words (Some n)) (arg.Words words) vs fit held = rest_held s r (aligned end) vs held
behind_held s end r kind.Word (arg.Bytes bytes) vs fit held = no_fit fit
behind_held s end r kind.Word (arg.Words words) vs fit held = no_fit fit
behind_held s end r kind.Byte (arg.Bytes bytes) vs fit held = no_fit fit
behind_held s end r kind.Byte (arg.Words words) vs fit held = no_fit fit
behind_held s end r (kind.Bytes n) (arg.Word k) vs fit held = no_fit fit
behind_held s end r (kind.Bytes n) (arg.Words words) vs fit held = no_fit fit
behind_held s end r (kind.Words n) (arg.Word k) vs fit held = no_fit fit
behind_held s end r (kind.Words n) (arg.Bytes bytes) vs fit held = no_fit fit

first_pointer : (s : State) (end r : ℕ) (k : Kind) (a : Arg) (vs : List ℕ) → IsArray a → Hold s r (registers_with end k a ++ vs)
    → register s.regs r ≡ aligned end
first_pointer s end r k (arg.Word n) vs array held = absurd array
first_pointer s end r k (arg.Bytes bytes) vs array held = first_held s r (aligned end) _ held
first_pointer s end r k (arg.Words words) vs array held = first_held s r (aligned end) _ held

pointer_is : (s : State) (kinds : List Kind) (args : List Arg) (end r p : ℕ) (a : Arg) → AllOfKind kinds args
    → Hold s r (argument_values end kinds args)
    → slice_get args p ≡ Some a → IsArray a → register s.regs (r + sum_by registers_of (take p kinds))
    ≡ aligned (end_of end (take p args))
pointer_is s [] [] end r p a fit held there array = absurd (let bad = slice_get_within [] p a there in omega (arith, bad))
pointer_is s [] (b ∷ args) end r p a fit held there array = absurd fit
pointer_is s (k ∷ kinds) [] end r p a fit held there array = absurd fit
pointer_is s (k ∷ kinds) (b ∷ args) end r zero a fit held there array =
    let same : b ≡ a = cc in
    let place : r + 0 ≡ r = omega arith in
    ap (λ (q : ℕ). register s.regs q) place
    ∙ first_pointer s end r k b (argument_values (end_after end b) kinds args) (subst IsArray (sym same) array) held
pointer_is s (k ∷ kinds) (b ∷ args) end r (suc p) a fit held there array =
    let place : r + sum_by registers_of (k ∷ take p kinds) ≡ r + registers_of k + sum_by registers_of (take p kinds) =
    omega (arith, sum_by-cons registers_of k (take p kinds)) in
    ap (λ (q : ℕ). register s.regs q) place
    ∙ pointer_is s kinds args (end_after end b) (r + registers_of k) p a fit.1
    (behind_held s end r k b (argument_values (end_after end b) kinds args) fit.0 held) there array

-- Results.

there_if_like : (args : List Arg) (p : ℕ) (result : Arg) → IsLike (get_or args p (arg.Word 0)) result
    → slice_get args p ≡ Some (get_or args p (arg.Word 0))
there_if_like args p result like = by_place (cases_lt p (length args))
  where
    by_place : (p < length args) ⊎ (length args ≤ p) → slice_get args p ≡ Some (get_or args p (arg.Word 0))
    by_place (inl within) = slice_get-get_or args p (arg.Word 0) within
    by_place (inr past) = absurd (subst (λ (a : Arg). IsLike a result) (get_or_past args p (arg.Word 0) past) like)

module _ (i : Image) (args : List Arg) (s u : State) (fit : AllOfKind i.params args)
    (holds : Hold s 10 (argument_values (image_end i) i.params args)) where
  -- what holds of the array that stands, holds of the one in the place of its argument
  array_there : (p : ℕ) (result : Arg) (P : Arg → Type 0) → IsLike (get_or args p (arg.Word 0)) result
      → Stands u.mem (register s.regs (register_of i.params p)) (array_bytes result)
      → ((address : ℕ) (old : Arg) → IsLike old result → Stands u.mem address (array_bytes result)
      → P (array_at u.mem address (Some old)))
      → P (array_at u.mem (place_of i args p) (slice_get args p))
  array_there p result P like stands holding =
      let old = get_or args p (arg.Word 0) in
      let there : slice_get args p ≡ Some old = there_if_like args p result like in
      let pointer : register s.regs (register_of i.params p)
      ≡ place_of i args p = pointer_is s i.params args (image_end i) 10 p old fit holds there (like_array old result like)
      in
      subst (λ (o : Option Arg). P (array_at u.mem (place_of i args p) o)) (sym there)
      (holding (place_of i args p) old like (subst (λ (q : ℕ). Stands u.mem q (array_bytes result)) pointer stands))

  results_read : (rets : List (Option ℕ)) (found : List Arg) (r : ℕ) → HasResults i.params rets found r s u
      → AreLike rets args found → AllByRecursion HasWords found → results_from u i args r rets ≡ found
  results_read [] [] r has like words_fit = refl
  results_read [] (result ∷ found) r has like words_fit = absurd has
  results_read (None ∷ rets) [] r has like words_fit = absurd has
  results_read (Some p ∷ rets) [] r has like words_fit = absurd has
  results_read (None ∷ rets) (arg.Word n ∷ found) r has like words_fit =
      ap (λ (k : ℕ). arg.Word k ∷ results_from u i args (r + 1) rets) has.0
      ∙ ap (λ (l : List Arg). arg.Word n ∷ l) (results_read rets found (r + 1) has.1 like words_fit.1)
  results_read (None ∷ rets) (arg.Bytes bytes ∷ found) r has like words_fit = absurd has
  results_read (None ∷ rets) (arg.Words words ∷ found) r has like words_fit = absurd has
  results_read (Some p ∷ rets) (result ∷ found) r has like words_fit =
      ap (λ (a : Arg). a ∷ results_from u i args r rets)
      (array_there p result (λ a. a ≡ result) like.0 has.0
      (λ address old is_like stands. array_read u.mem address old result is_like words_fit.0 stands))
      ∙ ap (λ (l : List Arg). result ∷ l) (results_read rets found r has.1 like.1 words_fit.1)

  results_printed : (rets : List (Option ℕ)) (found : List Arg) (r : ℕ) → HasResults i.params rets found r s u
      → AreLike rets args found → lines_of (results_from u i args r rets) ≡ lines_of found
  results_printed [] [] r has like = refl
  results_printed [] (result ∷ found) r has like = absurd has
  results_printed (None ∷ rets) [] r has like = absurd has
  results_printed (Some p ∷ rets) [] r has like = absurd has
  results_printed (None ∷ rets) (arg.Word n ∷ found) r has like =
      ap (λ (k : ℕ). line_of (arg.Word k) ++ lines_of (results_from u i args (r + 1) rets)) has.0
      ∙ ap (λ (l : List ℕ). line_of (arg.Word n) ++ l) (results_printed rets found (r + 1) has.1 like)
  results_printed (None ∷ rets) (arg.Bytes bytes ∷ found) r has like = absurd has
  results_printed (None ∷ rets) (arg.Words words ∷ found) r has like = absurd has
  results_printed (Some p ∷ rets) (result ∷ found) r has like =
      ap (λ (l : List ℕ). l ++ lines_of (results_from u i args r rets))
      (array_there p result (λ a. line_of a ≡ line_of result) like.0 has.0
      (λ address old is_like stands. array_printed u.mem address old result is_like stands))
      ∙ ap (λ (l : List ℕ). line_of result ++ l) (results_printed rets found r has.1 like.1)

-- The model's results.

value_is : (m : Model) (args : List Arg) → Meets m args → value m args ≡ Ok (results m args)
value_is m args meets = rw meets refl

if_ok_is : {A E : Type 0} (found : Result A E) (a : A) (P : A → Type 0) → found ≡ Ok a → IfOk found P → P a
if_ok_is (Ok b) a P is holds = let same : b ≡ a = cc in subst P same holds
if_ok_is (Err why) a P is holds = absurd (cc)

pub good_is_served : GoodIsServed
good_is_served m i args end t well limits good meets small numbers few ran =
    let like : AreLike i.rets args (results m args) =
    subst (λ (rs : List (Option ℕ)). AreLike rs args (results m args)) (sym good.rets_are)
    (results_like m args well meets small) in
    let s = start_state i args in
    let fit : AllOfKind i.params args = subst (λ (ks : List Kind). AllOfKind ks args) (sym good.params_are) (fitting m args meets)
    in
    let r = good.returns args base s (loaded_is_ready m i args limits good.params_are meets small numbers) in
    let ra : register s.regs 1 ≡ return_address = ra_is i args limits fit small in
    let back : Back return_address r.steps s r.end =
    record {
      ran = r.ran;
      back = r.back ∙ ra;
      before = λ j less. let way = r.before j less in (way.state, way.ran, λ at. way.not_back (at ∙ sym ra));
    } in
    let done = comes_back return_address (min (at (symbol_values i.params args) i.bound) step_limit) r.steps s r.end t end back
    (omega (arith, r.in_time, few)) ran in
    let has : HasResults i.params i.rets (results m args) 10 s r.end =
    if_ok_is (value m args) (results m args) (λ found. HasResults i.params i.rets found 10 s r.end) (value_is m args meets)
    r.has_results in
    record {
      steps = done.0.0;
      returned = done.0.1;
      printed = ap (λ (v : State). lines_of (results_of v i args)) done.1
          ∙ results_printed i args s r.end fit (registers_hold i args limits fit small) i.rets (results m args) 10 has like;
      same = λ formed spellable.
          let words_fit = results_fit (end_scope m) (start_env m.params args []) m.rets (results m args)
          (models_sound m args well formed spellable meets) in
          ap (λ (v : State). results_of v i args) done.1
          ∙ results_read i args s r.end fit (registers_hold i args limits fit small) i.rets (results m args) 10 has like
          words_fit;
    }
