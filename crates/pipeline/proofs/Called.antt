-- A call of the image of a model: its code serves it.
use Rattle.std.proofs.Common.{◌≡◌, ◌≢◌, ◌⊎◌, inl, inr, refl, sym, ◌∙◌, ap, subst, arith, ℕ, zero, suc, ◌+◌, ◌*◌, ◌<◌, ◌≤◌, true}
use Rattle.std.proofs.Common.{List, [], ◌∷◌, ◌++◌, map, take, length, Option, Some, None, Ok, Err, Result, slice_get}
use Rattle.std.proofs.Common.{length-append}
use Rattle.std.specs.Prelude.{IfOk, sum_by, slice_index_or}
use Rattle.rup_base.specs.declared.arg.Kind.{Kind}
use Rattle.rup_base.specs.declared.arg.Arg.{Arg}
use Rattle.rup_base.specs.declared.arg.Arg.TheVariants as arg
use Rattle.side_certs.specs.LinearForm.{LinearForm}
use Rattle.cost_poly.specs.Polynomial.{at}
use Rattle.model_syntax.specs.declared.program.Param.{Param}
use Rattle.model_syntax.specs.declared.program.Ret.{Ret}
use Rattle.model_syntax.specs.declared.program.Ret.TheVariants as ret
use Rattle.model_syntax.specs.declared.program.Model.{Model}
use Rattle.model_syntax.specs.Answer.{◌>>=◌}
use Rattle.model_syntax.specs.Entries.{number_among, param_name, result_place}
use Rattle.model_syntax.specs.Formed.{model_formed}
use Rattle.model_syntax.specs.Types as types
use Rattle.model_syntax.specs.Types.{kind_of, scalar_results}
use Rattle.model_syntax.specs.Value as value
use Rattle.model_syntax.specs.Value.{Meets, judge_arguments, results}
use Rattle.model_syntax.proofs.laws.Answered.{first_answered}
use Rattle.model_syntax.proofs.laws.Arguments.{AllFit, fit_all, counts_ok}
use Rattle.image_layout.specs.declared.image.Image.{Image}
use Rattle.image_layout.specs.Spelling.{spelling, code_offset, registers_of}
use Rattle.model_command.specs.declared.command.ModelCommand.{ModelCommand}
use Rattle.model_command.specs.Computes.{HoldsResults, InReturned}
use Rattle.bed_syntax.specs.Shape.{numbers}
use Rattle.sym_heap.specs.Fits.{Call, call_of, range_of}
use Rattle.sym_heap.specs.Fits as fits
use Rattle.rv_memory.specs.Ranges.{Range, Within, Stands}
use Rattle.rv_machine.specs.State.{State, register}
use Rattle.rv_emit.specs.Ready as code
use Rattle.run_setup.specs.Ready as ready
use Rattle.run_setup.specs.Ready.{Ready, image_range, array_range}
use Rattle.run_setup.specs.Good.{register_of, HasResults, Returned, IsUnderWay, Returns, Good, requirement}
use Rattle.run_setup.proofs.laws.Standing.{code_stands, image_ends}
use Rattle.pipeline.specs.Around.{image_around}
use Rattle.pipeline.specs.Serves.{argument_registers, array_ranges, Gives, Serves}
use Rattle.pipeline.specs.Written.{bytes_of}
use Rattle.pipeline.proofs.Arguments.{same_bytes, same_size, numbers_are, has_arguments, ranges_are}
use Rattle.pipeline.proofs.Limits.{params_formed, code_length, entry_is, entry_whole}
use Rattle.pipeline.proofs.Required.{facts_fit}

then_is : {A B E : Type 0} (first : Result A E) (a : A) (next : A → Result B E) → first ≡ Ok a → (first >>= next) ≡ next a
then_is (Ok b) a next is = let same : b ≡ a = cc in ap next same
then_is (Err why) a next is = absurd (cc)

value_is : (m : Model) (args : List Arg) → Meets m args → value.value m args ≡ Ok (results m args)
value_is m args meets = then_is (judge_arguments m args) tt (λ u. Ok (results m args)) meets

fitting : (m : Model) (args : List Arg) → Meets m args → AllFit m.params args
fitting m args meets =
    let count = first_answered (value.counts m.params args) _ tt meets in
    let fit = first_answered (value.fit 0 m.params args) _ tt count.1.1 in
    fit_all 0 m.params args (counts_ok m.params args count.0 count.1.0) fit.1.0

-- Results.

-- numbers that rise by one from the first
abbrev Rising : ℕ → List ℕ → Type 0
Rising l [] = Unit {0}
Rising l (k ∷ ks) = (k ≡ l) × Rising (l + 1) ks

rising_last : (l : ℕ) (ks : List ℕ) (n : ℕ) → Rising l ks → n ≡ l + length ks → Rising l (ks ++ n ∷ [])
rising_last l [] n all is = (omega (arith, is), tt)
rising_last l (k ∷ ks) n all is = (all.0, rising_last (l + 1) ks n all.1 (omega (arith, is)))

count_numbers : (n : ℕ) → length (numbers n) ≡ n
count_numbers zero = refl
count_numbers (suc n) = omega (arith, length-append (numbers n) (n ∷ []), count_numbers n)

numbers_rise : (n : ℕ) → Rising 0 (numbers n)
numbers_rise zero = tt
numbers_rise (suc n) = rising_last 0 (numbers n) n (numbers_rise n) (omega (arith, count_numbers n))

module _ (ps : List Param) (pointers : ℕ → ℕ) (s u : State)
    (points : (k : ℕ) → pointers k ≡ register s.regs (register_of (map kind_of ps) k)) where
  results_held : (rs : List Ret) (vs : List Arg) (ls : List ℕ) (l : ℕ) → Rising l ls
      → HoldsResults ps pointers rs vs ls u.mem (argument_registers u)
      → HasResults (map kind_of ps) (map (result_place ps) rs) vs (10 + l) s u
  results_held [] [] [] l rise holds = tt
  results_held [] [] (k ∷ ks) l rise holds = absurd holds
  results_held [] (v ∷ vs) ls l rise holds = absurd holds
  results_held (ret.Scalar x ∷ rs) [] ls l rise holds = absurd holds
  results_held (ret.Scalar x ∷ rs) (arg.Word n ∷ vs) [] l rise holds = absurd holds
  results_held (ret.Scalar x ∷ rs) (arg.Word n ∷ vs) (k ∷ ks) l rise holds =
      let here : register u.regs (10 + k) ≡ n = (let both : Some (register u.regs (10 + k)) ≡ Some n = holds.0 in cc) in
      let next : 10 + (l + 1) ≡ 10 + l + 1 = omega arith in (
        ap (λ (j : ℕ). register u.regs (10 + j)) (sym rise.0) ∙ here,
        subst (λ (r : ℕ). HasResults (map kind_of ps) (map (result_place ps) rs) vs r s u) next
            (results_held rs vs ks (l + 1) rise.1 holds.1),
      )
  results_held (ret.Scalar x ∷ rs) (arg.Bytes ns ∷ vs) ls l rise holds = absurd holds
  results_held (ret.Scalar x ∷ rs) (arg.Words ns ∷ vs) ls l rise holds = absurd holds
  results_held (ret.Array a p ∷ rs) [] ls l rise holds = absurd holds
  results_held (ret.Array a p ∷ rs) (v ∷ vs) ls l rise holds = (
    subst (λ (bytes : List ℕ). Stands u.mem (register s.regs (register_of (map kind_of ps) (number_among p (map param_name ps))))
        bytes) (same_bytes v)
        (subst (λ (at : ℕ). Stands u.mem at (fits.array_bytes (Some v))) (points (number_among p (map param_name ps))) holds.0),
    results_held rs vs ls l rise holds.1,
  )

-- a returned array lies where its argument did
still_returned : (m : Model) (args : List Arg) (pointers : ℕ → ℕ) (s : State)
    → ((k : ℕ) → pointers k ≡ register s.regs (register_of (map kind_of m.params) k))
    → (rs : List Ret) (address : ℕ) → InReturned m.params (call_of m args pointers) rs address
    → Returned (map kind_of m.params) (map (result_place m.params) rs) args s address
still_returned m args pointers s points [] address inside = absurd inside
still_returned m args pointers s points (ret.Scalar x ∷ rs) address inside =
    still_returned m args pointers s points rs address inside
still_returned m args pointers s points (ret.Array a p ∷ rs) address inside =
    by inside (λ more. still_returned m args pointers s points rs address more) where
      k : ℕ
      k = number_among p (map param_name m.params)

      by : Within (range_of (call_of m args pointers) k) address ⊎ InReturned m.params (call_of m args pointers) rs address
          → (InReturned m.params (call_of m args pointers) rs address
          → Returned (map kind_of m.params) (map (result_place m.params) rs) args s address)
          → Within (array_range (register_of (map kind_of m.params) k) (slice_index_or args k (arg.Word 0)) s) address
          ⊎ Returned (map kind_of m.params) (map (result_place m.params) rs) args s address
      by (inl here) rest =
          let from = here.0 in
          let to = here.1 in
          let start_is = points k in
          let size_is = same_size args k in
          inl (omega (arith, from, start_is), omega (arith, to, start_is, size_is))
      by (inr more) rest = inr (rest more)

module _ (m : Model) (c : ModelCommand) (words tables : List ℕ) (stack : ℕ) (well : types.Well m) (formed : model_formed m ≡ true)
    (serves : Serves m c words tables stack) where
  abbrev i : Image
  i = image_around m c.bound stack (bytes_of words) tables

  entry : code_offset i ≡ i.entry
  entry = entry_is m c.bound stack (bytes_of words) tables

  -- the code ends where the image does
  code_ends : length (code.code_bytes words tables) + code_offset i ≡ length (spelling i)
  code_ends = omega (arith, image_ends i)

  abbrev pointers : State → ℕ → ℕ
  pointers s p = register s.regs (register_of (map kind_of m.params) p)

  points : (s : State) (k : ℕ) → pointers s (0 + k)
      ≡ register s.regs (10 + 0 + sum_by registers_of (take k (map kind_of m.params)))
  points s k =
      let number : 0 + k ≡ k = omega arith in
      let place : 10 + sum_by registers_of (take k (map kind_of m.params))
      ≡ 10 + 0 + sum_by registers_of (take k (map kind_of m.params)) = omega arith in
      ap (pointers s) number ∙ ap (register s.regs) place

  arrays : (args : List Arg) (s : State) → AllFit m.params args → array_ranges 0 m.params args (pointers s)
      ≡ ready.array_ranges i.params args 10 s
  arrays args s fit = ranges_are s 0 0 m.params args (pointers s) fit (points s)

  ready_code : (args : List Arg) (base : ℕ) (s : State) → Ready m i args base s
      → code.Ready words tables stack (image_range i base) (base + i.entry) (array_ranges 0 m.params args (pointers s)) s
  ready_code args base s ready =
      subst (λ (rs : List Range). code.Ready words tables stack (image_range i base) (base + i.entry) rs s)
      (sym (arrays args s (fitting m args ready.meets)))
      (record {
        machine = ready.machine;
        aligned = omega (arith, ready.base_aligned, entry_whole m c.bound stack (bytes_of words) tables);
        from = omega arith;
        to = omega (arith, code_ends, entry);
        code_stands = subst (λ (k : ℕ). Stands s.mem (base + k) (bytes_of words ++ tables)) entry
            (code_stands s.mem base i ready.image_stands);
        starts = ready.starts;
        stack_aligned = ready.stack_aligned;
        stack_fits = ready.stack_fits;
        mapped = ready.mapped;
        apart = ready.apart;
        return_aligned = ready.return_aligned;
        return_outside = ready.return_outside;
      })

  gives_of : (args : List Arg) (base : ℕ) (s : State) → Ready m i args base s
      → Gives m c args (pointers s) words stack (base + i.entry) s
  gives_of args base s ready =
      let fit = fitting m args ready.meets in
      let has = has_arguments s 0 0 m.params args (pointers s) (params_formed m formed) fit ready.arguments ready.mapped.1.1
      (points s) in
      serves args (pointers s) (image_range i base) (base + i.entry) s ready.meets has (ready_code args base s ready)

  has_results : (args : List Arg) (base : ℕ) (s : State) → Meets m args
      → (gives : Gives m c args (pointers s) words stack (base + i.entry) s)
      → IfOk (value.value m args) (λ rs. HasResults i.params i.rets rs 10 s gives.end)
  has_results args base s meets gives =
      let has : HasResults i.params i.rets (results m args) 10 s gives.end =
      results_held m.params (pointers s) s gives.end (λ k. refl) m.rets (results m args) (numbers (scalar_results m.rets)) 0
      (numbers_rise (scalar_results m.rets)) gives.has_results
      in
      subst (λ r. IfOk r (λ rs. HasResults i.params i.rets rs 10 s gives.end)) (sym (value_is m args meets)) has

  under_way : (args : List Arg) (base : ℕ) (s : State) → Ready m i args base s
      → (gives : Gives m c args (pointers s) words stack (base + i.entry) s)
      → (j : ℕ) → j < gives.steps → IsUnderWay i base s j
  under_way args base s ready gives j before =
      let at_j = gives.before j before in
      let size : length (bytes_of words ++ tables) ≡ 4 * length words + length tables = length-append (bytes_of words) tables
      ∙ ap (λ (k : ℕ). k + length tables) (code_length words) in
      let inside : Within (image_range i base) at_j.state.pc =
      (omega (arith, at_j.from), omega (arith, at_j.to, entry, size, code_ends)) in
      record {
        state = at_j.state;
        ran = at_j.ran;
        in_image = inside;
        not_back = λ back. ready.return_outside (subst (λ (pc : ℕ). Within (image_range i base) pc) back inside);
      }

  returns : (args : List Arg) (base : ℕ) (s : State) → Ready m i args base s → Returns m i args base s
  returns args base s ready =
      let gives = gives_of args base s ready in
      record {
        steps = gives.steps;
        end = gives.end;
        ran = gives.ran;
        back = gives.back;
        before = under_way args base s ready gives;
        in_time = subst (λ (ns : List ℕ). gives.steps ≤ at ns c.bound) (numbers_are m.params args (fitting m args ready.meets))
            gives.in_time;
        has_results = has_results args base s ready.meets gives;
        saved = gives.saved;
        same_addresses = gives.same_addresses;
        others = λ address outside other.
            gives.others address outside (λ inside.
            other (still_returned m args (pointers s) s (λ k. refl) m.rets address inside));
      }

  pub good : Good m i
  good = record { params_are = refl; requires_are = (facts_fit m well).same; rets_are = refl; returns = returns }
