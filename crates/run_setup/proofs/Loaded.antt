-- The state that a run starts from is ready.
use Rattle.std.proofs.Common.{◌≡◌, refl, sym, ◌∙◌, ap, subst, arith, ℕ, suc, ◌+◌, ◌-◌, ◌*◌, ◌%◌, ◌<◌, ◌≤◌, true, false, List, []}
use Rattle.std.proofs.Common.{◌∷◌, ◌++◌, length, map, get_or, Some, None, replicate, set, length-set, ◌^◌}
use Rattle.std.specs.Prelude.{slice_get, slice_set}
use Rattle.std.specs.List.{AllByRecursion}
use Rattle.std.proofs.lemmas.List.{length-replicate, get_or-set_same, get_or-set_other}
use Rattle.std.proofs.lemmas.Grind.{common_steps}
use Rattle.rup_base.specs.declared.arg.Kind.{Kind}
use Rattle.rup_base.specs.declared.arg.Kind.TheVariants as kind
use Rattle.rup_base.specs.declared.arg.Arg.{Arg}
use Rattle.rup_base.specs.declared.arg.Arg.TheVariants as arg
use Rattle.image_layout.specs.declared.image.Image.{Image}
use Rattle.image_layout.specs.Spelling as image
use Rattle.model_syntax.specs.declared.program.Model.{Model}
use Rattle.model_syntax.specs.Value.{Meets}
use Rattle.rv_machine.specs.State.{State, register}
use Rattle.rv_memory.specs.Ranges.{Bytes, Range, IsMapped, Apart, AllApart, Stands}
use Rattle.run_setup.specs.Arguments.{bytes_of_words, array_limit}
use Rattle.run_setup.specs.Judging.{total_size}
use Rattle.run_setup.specs.Loading.{base, return_address, aligned, end_of, array_regions, argument_values, image_end, stack_start}
use Rattle.run_setup.specs.Loading.{regions, registers, start_state}
use Rattle.run_setup.specs.Ready.{image_range, stack_range, array_ranges, HasArguments, ranges, Ready}
use Rattle.rv_machine.specs.Machines.{IsMachine}
use Rattle.run_setup.specs.Laws.{LoadedIsReady}
use Rattle.run_setup.proofs.Memory.{Region, all_map, all_both, all_split, all_of_map, all_stand, range_of, mapped, set_before}
use Rattle.run_setup.proofs.Memory.{set_there}
use Rattle.image_layout.proofs.laws.Length.{params_most, image_small}
use Rattle.run_setup.proofs.laws.Places.{words_size, aligned_near, aligned_whole, end_bound, end_grows, arrays_rise, values_few}
use Rattle.run_setup.proofs.laws.Meeting.{AllOfKind, fitting}

length_of_kind : (kinds : List Kind) (args : List Arg) → AllOfKind kinds args → length args ≡ length kinds
length_of_kind [] [] fit = refl
length_of_kind [] (a ∷ args) fit = absurd fit
length_of_kind (k ∷ kinds) [] fit = absurd fit
length_of_kind (k ∷ kinds) (a ∷ args) fit = ap suc (length_of_kind kinds args fit.1)

-- registers from r on hold these values
abbrev pub Hold : State → ℕ → List ℕ → Type 0
Hold s r vs = (k v : ℕ) → slice_get vs k ≡ Some v → register s.regs (r + k) ≡ v

pub first_held : (s : State) (r v : ℕ) (vs : List ℕ) → Hold s r (v ∷ vs) → register s.regs r ≡ v
first_held s r v vs held = let place : r ≡ r + 0 = omega arith in ap (λ q. register s.regs q) place ∙ held 0 v refl

second_held : (s : State) (r v w : ℕ) (vs : List ℕ) → Hold s r (v ∷ w ∷ vs) → register s.regs (r + 1) ≡ w
second_held s r v w vs held = held 1 w refl

pub rest_held : (s : State) (r v : ℕ) (vs : List ℕ) → Hold s r (v ∷ vs) → Hold s (r + 1) vs
rest_held s r v vs held k w is = let place : r + 1 + k ≡ r + suc k = omega arith in
    ap (λ q. register s.regs q) place ∙ held (suc k) w is

pub rest_held_2 : (s : State) (r v w : ℕ) (vs : List ℕ) → Hold s r (v ∷ w ∷ vs) → Hold s (r + 2) vs
rest_held_2 s r v w vs held k x is = let place : r + 2 + k ≡ r + suc (suc k) = omega arith in
    ap (λ q. register s.regs q) place ∙ held (suc (suc k)) x is

abbrev pub AllStand : Bytes → List Region → Type 0
AllStand mem rs = AllByRecursion (λ q. Stands mem q.0 q.1) rs

quarter : (address : ℕ) → aligned address % 4 ≡ 0
quarter address = let whole : aligned address % 16 ≡ 0 = aligned_whole address in omega (arith, whole)

pub no_fit : {A : Type 0} → false ≡ true → A
no_fit bad = absurd (cc)

has_arguments : (kinds : List Kind) (args : List Arg) (end r : ℕ) (s : State) → AllOfKind kinds args
    → Hold s r (argument_values end kinds args) → AllStand s.mem (array_regions end args) → HasArguments kinds args r s
has_arguments [] [] end r s fit held stand = tt
has_arguments [] (a ∷ args) end r s fit held stand = absurd fit
has_arguments (k ∷ kinds) [] end r s fit held stand = absurd fit
has_arguments (kind.Word ∷ kinds) (arg.Word n ∷ args) end r s fit held stand = (
  first_held s r n (argument_values end kinds args) held,
  has_arguments kinds args end (r + 1) s fit.1
      (rest_held s r n (argument_values end kinds args) held) stand,
)
has_arguments (kind.Byte ∷ kinds) (arg.Word n ∷ args) end r s fit held stand = (
  first_held s r n (argument_values end kinds args) held,
  has_arguments kinds args end (r + 1) s fit.1
      (rest_held s r n (argument_values end kinds args) held) stand,
)
has_arguments (kind.Bytes None ∷ kinds) (arg.Bytes bytes ∷ args) end r s fit held stand =
    let next = aligned end + length bytes in
    let more = argument_values next kinds args in
    let place : register s.regs r ≡ aligned end = first_held s r (aligned end) (length bytes ∷ more) held in (
      (subst (λ (at : ℕ). Stands s.mem at bytes) (sym place) stand.0, second_held s r (aligned end) (length bytes) more held),
      has_arguments kinds args next (r + 2) s fit.1 (rest_held_2 s r (aligned end) (length bytes) more held) stand.1,
    )
has_arguments (kind.Bytes (Some n) ∷ kinds) (arg.Bytes bytes ∷ args) end r s fit held stand =
    let next = aligned end + length bytes in
    let more = argument_values next kinds args in
    let place : register s.regs r ≡ aligned end = first_held s r (aligned end) more held in (
      (subst (λ (at : ℕ). Stands s.mem at bytes) (sym place) stand.0, tt),
      has_arguments kinds args next (r + 1) s fit.1 (rest_held s r (aligned end) more held) stand.1,
    )
has_arguments (kind.Words None ∷ kinds) (arg.Words words ∷ args) end r s fit held stand =
    let next = aligned end + 4 * length words in
    let more = argument_values next kinds args in
    let place : register s.regs r ≡ aligned end = first_held s r (aligned end) (length words ∷ more) held in (
      (
        subst (λ (at : ℕ). Stands s.mem at (bytes_of_words words)) (sym place) stand.0,
        ap (λ (at : ℕ). at % 4) place
            ∙ quarter end,
        second_held s r (aligned end) (length words) more held,
      ),
      has_arguments kinds args next (r + 2) s fit.1 (rest_held_2 s r (aligned end) (length words) more held) stand.1,
    )
has_arguments (kind.Words (Some n) ∷ kinds) (arg.Words words ∷ args) end r s fit held stand =
    let next = aligned end + 4 * length words in
    let more = argument_values next kinds args in
    let place : register s.regs r ≡ aligned end = first_held s r (aligned end) more held in (
      (
        subst (λ (at : ℕ). Stands s.mem at (bytes_of_words words)) (sym place) stand.0,
        ap (λ (at : ℕ). at % 4) place
            ∙ quarter end,
        tt,
      ),
      has_arguments kinds args next (r + 1) s fit.1 (rest_held s r (aligned end) more held) stand.1,
    )
has_arguments (kind.Word ∷ kinds) (arg.Bytes bytes ∷ args) end r s fit held stand = no_fit fit.0
has_arguments (kind.Word ∷ kinds) (arg.Words words ∷ args) end r s fit held stand = no_fit fit.0
has_arguments (kind.Byte ∷ kinds) (arg.Bytes bytes ∷ args) end r s fit held stand = no_fit fit.0
has_arguments (kind.Byte ∷ kinds) (arg.Words words ∷ args) end r s fit held stand = no_fit fit.0
has_arguments (kind.Bytes n ∷ kinds) (arg.Word k ∷ args) end r s fit held stand = no_fit fit.0
has_arguments (kind.Bytes n ∷ kinds) (arg.Words words ∷ args) end r s fit held stand = no_fit fit.0
has_arguments (kind.Words n ∷ kinds) (arg.Word k ∷ args) end r s fit held stand = no_fit fit.0
has_arguments (kind.Words n ∷ kinds) (arg.Bytes bytes ∷ args) end r s fit held stand = no_fit fit.0

-- the ranges of the arrays are those of their regions
ranges_are : (kinds : List Kind) (args : List Arg) (end r : ℕ) (s : State) → AllOfKind kinds args
    → Hold s r (argument_values end kinds args) → array_ranges kinds args r s ≡ map range_of (array_regions end args)
ranges_are [] [] end r s fit held = refl
ranges_are [] (a ∷ args) end r s fit held = absurd fit
ranges_are (k ∷ kinds) [] end r s fit held = absurd fit
ranges_are (kind.Word ∷ kinds) (arg.Word n ∷ args) end r s fit held =
    ranges_are kinds args end (r + 1) s fit.1 (rest_held s r n (argument_values end kinds args) held)
ranges_are (kind.Byte ∷ kinds) (arg.Word n ∷ args) end r s fit held =
    ranges_are kinds args end (r + 1) s fit.1 (rest_held s r n (argument_values end kinds args) held)
ranges_are (kind.Bytes None ∷ kinds) (arg.Bytes bytes ∷ args) end r s fit held =
    let next = aligned end + length bytes in
    let more = argument_values next kinds args in
    let place : register s.regs r ≡ aligned end = first_held s r (aligned end) (length bytes ∷ more) held in
    rw (place, ranges_are kinds args next (r + 2) s fit.1 (rest_held_2 s r (aligned end) (length bytes) more held)) refl
ranges_are (kind.Bytes (Some n) ∷ kinds) (arg.Bytes bytes ∷ args) end r s fit held =
    let next = aligned end + length bytes in
    let more = argument_values next kinds args in
    let place : register s.regs r ≡ aligned end = first_held s r (aligned end) more held in
    rw (place, ranges_are kinds args next (r + 1) s fit.1 (rest_held s r (aligned end) more held)) refl
ranges_are (kind.Words None ∷ kinds) (arg.Words words ∷ args) end r s fit held =
    let next = aligned end + 4 * length words in
    let more = argument_values next kinds args in
    let place : register s.regs r ≡ aligned end = first_held s r (aligned end) (length words ∷ more) held in
    rw (place, ranges_are kinds args next (r + 2) s fit.1 (rest_held_2 s r (aligned end) (length words) more held)) refl
ranges_are (kind.Words (Some n) ∷ kinds) (arg.Words words ∷ args) end r s fit held =
    let next = aligned end + 4 * length words in
    let more = argument_values next kinds args in
    let place : register s.regs r ≡ aligned end = first_held s r (aligned end) more held in
    rw (place, ranges_are kinds args next (r + 1) s fit.1 (rest_held s r (aligned end) more held)) refl
ranges_are (kind.Word ∷ kinds) (arg.Bytes bytes ∷ args) end r s fit held = no_fit fit.0
ranges_are (kind.Word ∷ kinds) (arg.Words words ∷ args) end r s fit held = no_fit fit.0
ranges_are (kind.Byte ∷ kinds) (arg.Bytes bytes ∷ args) end r s fit held = no_fit fit.0
ranges_are (kind.Byte ∷ kinds) (arg.Words words ∷ args) end r s fit held = no_fit fit.0
ranges_are (kind.Bytes n ∷ kinds) (arg.Word k ∷ args) end r s fit held = no_fit fit.0
ranges_are (kind.Bytes n ∷ kinds) (arg.Words words ∷ args) end r s fit held = no_fit fit.0
ranges_are (kind.Words n ∷ kinds) (arg.Word k ∷ args) end r s fit held = no_fit fit.0
ranges_are (kind.Words n ∷ kinds) (arg.Bytes bytes ∷ args) end r s fit held = no_fit fit.0

-- Regions between two addresses.

abbrev pub Between : ℕ → ℕ → Region → Type 0
Between low high q = (low ≤ q.0) × (q.0 + length q.1 ≤ high)

wider : (low end high : ℕ) (rs : List Region) → low ≤ end → AllByRecursion (Between end high) rs
    → AllByRecursion (Between low high) rs
wider low end high rs less all = all_map (Between end high) (Between low high) (λ q h. (omega (arith, less, h.0), h.1)) rs all

pub arrays_between : (end : ℕ) (args : List Arg) → AllByRecursion (Between end (end_of end args)) (array_regions end args)
arrays_between end [] = tt
arrays_between end (arg.Word n ∷ args) = arrays_between end args
arrays_between end (arg.Bytes bytes ∷ args) =
    let next = aligned end + length bytes in
    let near : end ≤ aligned end = (aligned_near end).0 in (
      (near, end_grows next args),
      wider end next (end_of next args) (array_regions next args) (omega (arith, near))
          (arrays_between next args),
    )
arrays_between end (arg.Words words ∷ args) =
    let next = aligned end + 4 * length words in
    let near : end ≤ aligned end = (aligned_near end).0 in (
      (near, omega (arith, end_grows next args, words_size words)),
      wider end next (end_of next args) (array_regions next args)
          (omega (arith, near)) (arrays_between next args),
    )

apart_from : (r : Region) (low high : ℕ) (rs : List Region) → r.0 + length r.1 ≤ low → AllByRecursion (Between low high) rs
    → AllByRecursion (Apart (range_of r)) (map range_of rs)
apart_from r low high rs before all =
    all_of_map range_of (Apart (range_of r)) rs
    (all_map (Between low high) (λ q. Apart (range_of r) (range_of q))
    (λ q h address here there. omega (arith, before, h.0, here.1, there.0)) rs all)

arrays_apart : (end : ℕ) (args : List Arg) → AllApart (map range_of (array_regions end args))
arrays_apart end [] = tt
arrays_apart end (arg.Word n ∷ args) = arrays_apart end args
arrays_apart end (arg.Bytes bytes ∷ args) =
    let next = aligned end + length bytes in (
      apart_from (aligned end, bytes) next (end_of next args) (array_regions next args) (omega arith) (arrays_between next args),
      arrays_apart next args,
    )
arrays_apart end (arg.Words words ∷ args) =
    let next = aligned end + 4 * length words in (
      apart_from (aligned end, bytes_of_words words) next (end_of next args) (array_regions next args)
          (omega (arith, words_size words)) (arrays_between next args),
      arrays_apart next args,
    )

-- The state.

register_is : (regs : List ℕ) (q : ℕ) → 0 < q → register regs q ≡ get_or regs q 0
register_is regs q some = grind (arith, common_steps)

abbrev range : ℕ → ℕ → Range
range start size = record { start = start; size = size }

abbrev base_registers : ℕ → List ℕ
base_registers sp = slice_set (slice_set (replicate 32 0) 1 return_address) 2 sp

base_length : (sp : ℕ) → length (base_registers sp) ≡ 32
base_length sp = length-set (set (replicate 32 0) 1 return_address) 2 sp ∙ length-set (replicate 32 0) 1 return_address
    ∙ length-replicate {A = ℕ} 32 0

base_sp : (sp : ℕ) → get_or (base_registers sp) 2 0 ≡ sp
base_sp sp = get_or-set_same (set (replicate 32 0) 1 return_address) 2 sp 0
    (omega (arith, length-set (replicate 32 0) 1 return_address, length-replicate {A = ℕ} 32 0))

base_ra : (sp : ℕ) → get_or (base_registers sp) 1 0 ≡ return_address
base_ra sp =
    get_or-set_other (set (replicate 32 0) 1 return_address) 2 1 sp 0 (omega arith)
    ∙ get_or-set_same (replicate 32 0) 1 return_address 0 (omega (arith, length-replicate {A = ℕ} 32 0))

module _ (i : Image) (args : List Arg) (limits : image.IsWithinLimits i) (fit : AllOfKind i.params args)
    (small : total_size args ≤ array_limit) where
  abbrev state : State
  state = start_state i args

  abbrev arrays : List Region
  arrays = array_regions (image_end i) args

  abbrev stack : Region
  stack = (stack_start i args, replicate i.stack 0)

  few : length args ≤ 8
  few = omega (arith, length_of_kind i.params args fit, params_most i limits)

  pub sp_is : register state.regs 2 ≡ stack_start i args + i.stack
  unfolding registers
  sp_is = set_before (base_registers (stack_start i args + i.stack)) 10 (argument_values (image_end i) i.params args) 2
      (omega arith) ∙ base_sp (stack_start i args + i.stack)

  pub ra_is : register state.regs 1 ≡ return_address
  unfolding registers
  ra_is = set_before (base_registers (stack_start i args + i.stack)) 10 (argument_values (image_end i) i.params args) 1
      (omega arith) ∙ base_ra (stack_start i args + i.stack)

  pub registers_hold : Hold state 10 (argument_values (image_end i) i.params args)
  unfolding registers
  registers_hold k v is =
      register_is state.regs (10 + k) (omega arith)
      ∙ set_there (base_registers (stack_start i args + i.stack)) 10 (argument_values (image_end i) i.params args) k v
      (omega (arith, base_length (stack_start i args + i.stack), values_few (image_end i) i.params args, few)) is

  regions_stand : AllByRecursion (λ r. (base ≤ r.0) × Stands state.mem r.0 r.1)
      ((base, image.spelling i) ∷ (arrays ++ stack ∷ []))
  unfolding regions
  regions_stand =
      all_stand base ((base, image.spelling i) ∷ (arrays ++ stack ∷ []))
      (omega arith, arrays_rise (image_end i) args (image_end i) (replicate i.stack 0) (omega arith))

  image_stands : Stands state.mem base (image.spelling i)
  image_stands = regions_stand.0.1

  arrays_stand : AllStand state.mem arrays
  arrays_stand =
      all_map (λ r. (base ≤ r.0) × Stands state.mem r.0 r.1) (λ r. Stands state.mem r.0 r.1) (λ r h. h.1) arrays
      (all_split (λ r. (base ≤ r.0) × Stands state.mem r.0 r.1) arrays (stack ∷ []) regions_stand.1).0

  stack_stands : Stands state.mem (stack_start i args) (replicate i.stack 0)
  stack_stands = (all_split (λ r. (base ≤ r.0) × Stands state.mem r.0 r.1) arrays (stack ∷ []) regions_stand.1).1.0.1

  pub near : stack_start i args + i.stack ≤ 2 ^ 28
  near =
      omega (
        arith,
        image_small i limits,
        end_bound (image_end i) args,
        (aligned_near (end_of (image_end i) args)).1,
        few,
        small,
        limits.stack_most,
      )

  stack_is : stack_range i state ≡ range_of stack
  stack_is =
      let start : register state.regs 2 - i.stack ≡ stack_start i args = omega (arith, sp_is) in
      let size : i.stack ≡ length (replicate i.stack 0) = sym (length-replicate i.stack 0) in
      ap (λ (n : ℕ). range n i.stack) start ∙ ap (λ (n : ℕ). range (stack_start i args) n) size

  ranges_is : ranges i args base state ≡ range_of (base, image.spelling i) ∷ range_of stack ∷ map range_of arrays
  ranges_is =
      ap (λ (r : Range). image_range i base ∷ r ∷ array_ranges i.params args 10 state) stack_is
      ∙ ap (λ (rs : List Range). image_range i base ∷ range_of stack ∷ rs)
      (ranges_are i.params args (image_end i) 10 state fit registers_hold)

  behind_arrays : end_of (image_end i) args ≤ stack_start i args
  behind_arrays = (aligned_near (end_of (image_end i) args)).0

  stack_size : length {A = ℕ} (replicate i.stack 0) ≡ i.stack
  stack_size = length-replicate i.stack 0

  pub all_mapped : AllByRecursion (IsMapped state.mem) (ranges i args base state)
  all_mapped =
      subst (AllByRecursion (IsMapped state.mem)) (sym ranges_is) (
        mapped state.mem (base, image.spelling i) image_stands (omega (arith, end_grows (image_end i) args, behind_arrays, near)),
        (
          mapped state.mem stack stack_stands (omega (arith, near, stack_size)),
          all_of_map range_of (IsMapped state.mem) arrays
              (all_map (λ q. Stands state.mem q.0 q.1 × Between (image_end i) (end_of (image_end i) args) q)
              (λ q. IsMapped state.mem (range_of q))
              (λ q h. mapped state.mem q h.0 (omega (arith, h.1.1, behind_arrays, near))) arrays
              (all_both (λ q. Stands state.mem q.0 q.1) (Between (image_end i) (end_of (image_end i) args)) arrays arrays_stand
              (arrays_between (image_end i) args))),
        ),
      )

  stack_apart : AllByRecursion (Apart (range_of stack)) (map range_of arrays)
  stack_apart =
      all_of_map range_of (Apart (range_of stack)) arrays
      (all_map (Between (image_end i) (end_of (image_end i) args)) (λ q. Apart (range_of stack) (range_of q))
      (λ q h address here there. omega (arith, h.1, behind_arrays, here.0, there.1)) arrays (arrays_between (image_end i) args))

  pub all_apart : AllApart (ranges i args base state)
  all_apart =
      subst AllApart (sym ranges_is) (
        (
          λ address here there. omega (arith, end_grows (image_end i) args, behind_arrays, here.1, there.0),
          apart_from (base, image.spelling i) (image_end i) (end_of (image_end i) args) arrays (omega arith)
              (arrays_between (image_end i) args),
        ),
        (stack_apart, arrays_apart (image_end i) args),
      )

  sp_aligned : register state.regs 2 % 16 ≡ 0
  sp_aligned =
      let whole : stack_start i args % 16 ≡ 0 = aligned_whole (end_of (image_end i) args) in
      omega (arith, whole, sp_is, limits.stack_whole)

  pub ready : (m : Model) → Meets m args → IsMachine state → Ready m i args base state
  ready m meets numbers =
      record {
        meets = meets;
        machine = numbers;
        base_aligned = refl;
        image_stands = image_stands;
        starts = refl;
        arguments = has_arguments i.params args (image_end i) 10 state fit registers_hold arrays_stand;
        stack_aligned = sp_aligned;
        stack_fits = omega (arith, sp_is);
        mapped = all_mapped;
        apart = all_apart;
        return_aligned = ap (λ (n : ℕ). n % 4) ra_is;
        return_outside = λ within. omega (arith, within.0, ra_is);
      }

pub loaded_is_ready : LoadedIsReady
loaded_is_ready m i args limits params_are meets small numbers =
    let fit : AllOfKind i.params args = subst (λ (ks : List Kind). AllOfKind ks args) (sym params_are) (fitting m args meets) in
    ready i args limits fit small m meets numbers
