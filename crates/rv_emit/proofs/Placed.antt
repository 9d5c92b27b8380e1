-- Code that stands for a call, as a site; and the ready state, as one at which the code is entered.
use Rattle.std.proofs.Common.{◌≡◌, ℕ, zero, suc, ◌+◌, ◌-◌, ◌*◌, ◌^◌, ◌<◌, ◌≤◌, inl, inr, false, List, [], ◌∷◌, map, length}
use Rattle.std.proofs.Common.{Option, Some, None, IsSome, slice_get, refl, ap, ◌∙◌, subst, arith, length-append, is_some, ◌≢◌}
use Rattle.std.specs.Prelude.{option_map}
use Rattle.std.specs.List.{AllByRecursion, flat_map}
use Rattle.std.specs.Int.{w32, to_le_bytes}
use Rattle.std.specs.FinMap.{get, empty, get-empty}
use Rattle.std.specs.Ordering.{nat_cmp}
use Rattle.std.proofs.lemmas.Option.{slice_get-map, slice_get_within}
use Rattle.std.proofs.lemmas.List.{length-map}
use Rattle.flat_lang.specs.declared.flat.Flat.{Flat}
use Rattle.flat_lang.specs.State.{Vars}
use Rattle.rv_code.specs.declared.instruction.Instr.{Instr}
use Rattle.rv_code.specs.Word.{word_of}
use Rattle.rv_machine.specs.State.{State, register, number_at}
use Rattle.rv_memory.specs.Ranges.{Bytes, Range, Within, Apart, Stands}
use Rattle.rv_machine.proofs.laws.Registers.{length-with_register, register-with_register_other, register-with_register_same}
use Rattle.reg_alloc.specs.declared.plan.Plan.{Plan}
use Rattle.rv_emit.specs.Whole.{uses, slots_in, saved_in, stack_of, offset_in, code_of}
use Rattle.rv_emit.proofs.Plans.{IsPlacement}
use Rattle.rv_memory.proofs.laws.Numbers.{number_at_agree}
use Rattle.rv_emit.specs.Tables.{text_of}
use Rattle.rv_emit.specs.Ready.{stack_range, Ready, InOne, IsPart, arguments}
use Rattle.rv_emit.proofs.Standing.{stands_front, stands_back, words_stand, length-word_bytes}
use Rattle.rv_emit.proofs.TableText.{text_at}
use Rattle.rv_emit.proofs.WordSmall.{word_small}
use Rattle.rv_emit.proofs.Site.{Site, InImage, InFrame, TableAt, Sound, Memory, Before}
use Rattle.rv_emit.proofs.Runs.{set_reg}

-- the emitted code fits its three-address code, and this is no longer than a jump reaches
pub record Emits (f : Flat) (plan : Plan) (code : List Instr) (text : List ℕ) (stack : ℕ) : Type 0 where
  pub code_is : code ≡ code_of f plan
  pub text_is : text ≡ text_of f.tables
  pub stack_is : stack ≡ stack_of plan.places
  pub short : length code < 260000

-- the site of the code while registers are saved: in its slots, behind those of the variables
abbrev pub saving_site : Flat → Plan → List Instr → List ℕ → ℕ → ℕ → Site
saving_site f plan code text start base =
    record {
      start = start;
      code = code;
      text = text;
      tables = f.tables;
      base = base;
      slots = slots_in plan.places + length (saved_in plan.places);
      words = slots_in plan.places + length (saved_in plan.places);
      offset = offset_in f;
      held = λ r. false;
    }

-- the site of the code from then on
abbrev pub site : Flat → Plan → List Instr → List ℕ → ℕ → ℕ → Site
site f plan code text start base =
    record {
      start = start;
      code = code;
      text = text;
      tables = f.tables;
      base = base;
      slots = slots_in plan.places;
      words = slots_in plan.places + length (saved_in plan.places);
      offset = offset_in f;
      held = uses plan.places;
    }

some_word : (code : List Instr) (k : ℕ) (i : Instr) → slice_get code k ≡ Some i
    → slice_get (map word_of code) k ≡ Some (word_of i)
some_word code k i found = slice_get-map word_of code k ∙ ap (λ o. option_map word_of o) found

apart_from : (r : Range) (rs : List Range) (a : ℕ) → AllByRecursion (Apart r) rs → InOne rs a → Within r a → ⊥
apart_from r [] a apart one within = absurd one
apart_from r (q ∷ rs) a apart (inl here) within = apart.0 a within here
apart_from r (q ∷ rs) a apart (inr there) within = apart_from r rs a apart.1 there within

module _ (f : Flat) (plan : Plan) (placement : IsPlacement f plan) (code : List Instr) (text : List ℕ) (stack : ℕ)
    (emits : Emits f plan code text stack) (image : Range) (start : ℕ) (arrays : List Range) (s : State)
    (ready : Ready (map word_of code) text stack image start arrays s) where
  abbrev pub base : ℕ
  base = register s.regs 2 - stack

  abbrev pub before_saving : Site
  before_saving = saving_site f plan code text start base

  abbrev pub here : Site
  here = site f plan code text start base

  -- the state once the frame is taken
  abbrev pub taken : State
  taken = set_reg s 2 base

  abbrev pub nothing : Bytes
  nothing = empty

  pub image_size : start + 4 * length code + length text ≤ image.start + image.size
  image_size =
      let words = length-word_bytes (map word_of code) in
      let all = length-append (flat_map (to_le_bytes w32) (map word_of code)) text in
      let count = length-map {A = Instr} {B = ℕ} code word_of in
      let to = ready.to in
      omega arith

  pub in_image : (a : ℕ) → InImage here a → Within image a
  in_image a inside = let from = ready.from in (omega arith, omega (arith, image_size))

  pub in_stack : (a : ℕ) → InFrame here a → Within (stack_range stack s) a
  in_stack a inside = let is = emits.stack_is in (inside.0, omega arith)

  pub code_at : (k : ℕ) (i : Instr) → slice_get code k ≡ Some i → number_at s.mem 4 (start + 4 * k) ≡ Some (word_of i)
  code_at k i found =
      words_stand s.mem (map word_of code) start k (word_of i)
      (stands_front s.mem start (flat_map (to_le_bytes w32) (map word_of code)) text ready.code_stands)
      (some_word code k i found) (word_small i)

  text_stands : Stands s.mem (start + 4 * length code) text
  text_stands =
      let words = length-word_bytes (map word_of code) in
      let count = length-map {A = Instr} {B = ℕ} code word_of in
      let place : start + length (flat_map (to_le_bytes w32) (map word_of code)) ≡ start + 4 * length code = omega arith in
      subst (λ a. Stands s.mem a text) place
      (stands_back s.mem start (flat_map (to_le_bytes w32) (map word_of code)) text ready.code_stands)

  table_at : (k : ℕ) (bytes : List ℕ) → slice_get f.tables k ≡ Some bytes → TableAt before_saving taken (offset_in f k) bytes
  table_at k bytes found =
      let t = text_at f.tables bytes 0 k found in
      let is = t.is in
      let aligned = t.aligned in
      let same : offset_in f k ≡ t.offset = omega arith in
      record {
        aligned = omega arith;
        inside = λ a b at. let within = slice_get_within text (t.offset + a) b (in_text t.offset a b (t.there a b at)) in
            omega arith;
        stands = λ a b at.
            let place : start + 4 * length code + (t.offset + a) ≡ start + (4 * length code + offset_in f k) + a = omega arith in
            subst (λ q. get s.mem q ≡ Some b) place (text_stands (t.offset + a) b (in_text t.offset a b (t.there a b at)));
      }
    where
      in_text : (o a b : ℕ) → slice_get (text_of f.tables) (o + a) ≡ Some b → slice_get text (o + a) ≡ Some b
      in_text o a b at = ap (λ x. slice_get x (o + a)) emits.text_is ∙ at

  pub saving_sound : Sound before_saving taken
  saving_sound =
      let words : register s.regs 2 < 2 ^ 32 = ready.machine.words 2 in
      let stack_is = emits.stack_is in
      let few = placement.few in
      let fits = ready.stack_fits in
      let above = ready.stack_aligned in
      let image_ends = ready.mapped.0.ends in
      record {
        aligned = ready.aligned;
        ends = omega (arith, image_size);
        short = emits.short;
        base_aligned = omega arith;
        frame_ends = omega arith;
        few = omega arith;
        fit = omega arith;
        apart = λ a inside frame. ready.apart.0.0 a (in_image a inside) (in_stack a frame);
        stands = code_at;
        table = table_at;
        mapped = λ a frame. ready.mapped.1.0.inside a (in_stack a frame);
        from = λ r held. absurd (cc);
        to = λ r held. absurd (cc);
        not_argument = λ r held. absurd (cc);
      }

  saving_memory : Memory before_saving taken nothing s.mem
  saving_memory =
      record {
        seen = λ a b found. absurd (not_there a b found);
        off_image = λ a there inside. absurd (none_there a there);
        off_frame = λ a there frame. absurd (none_there a there);
        others = λ a outside none. refl;
        stay = λ a there. there;
        no_more = λ a there. there;
        bytes = ready.machine.bytes;
      }
    where
      not_there : (a b : ℕ) → get nothing a ≡ Some b → ⊥
      not_there a b found = let none = get-empty {K = ℕ} {X = ℕ} nat_cmp a in absurd (cc)

      none_there : (a : ℕ) → IsSome (get nothing a) → ⊥
      none_there a there = let none = get-empty {K = ℕ} {X = ℕ} nat_cmp a in absurd (cc)

  pub begins_saving : 1 < length code → Before before_saving taken nothing nothing 1 taken
  begins_saving long =
      let image_ends = ready.mapped.0.ends in
      let starts = ready.starts in
      record {
        pc = omega (arith, image_size);
        count = length-with_register s.regs 2 base ∙ ready.machine.registers;
        sp = register-with_register_same s.regs 2 base (omega arith) (omega (arith, ready.machine.registers));
        kept = λ r free. refl;
        held = λ x v found. absurd (none_set x v found);
        memory = saving_memory;
      }
    where
      none_set : (x v : ℕ) → get nothing x ≡ Some v → ⊥
      none_set x v found = let none = get-empty {K = ℕ} {X = ℕ} nat_cmp x in absurd (cc)

  one_of : (mem : Bytes) (a : ℕ) → IsPart arrays mem s.mem → IsSome (get mem a) → InOne arrays a
  one_of mem a part there = by_byte (get mem a) refl
    where
      by_byte : (o : Option ℕ) → get mem a ≡ o → InOne arrays a
      by_byte None is = absurd (cc)
      by_byte (Some b) is = ((part a b).0 is).0

  -- the registers are saved, and the machine stands before instruction k
  module _ (m : State) (vars : Vars) (k : ℕ) (saved : Before before_saving taken nothing vars k m) where
    unchanged : (a : ℕ) → (InFrame here a → ⊥) → get m.mem a ≡ get s.mem a
    unchanged a outside = saved.memory.others a outside (get-empty {K = ℕ} {X = ℕ} nat_cmp a)

    off_stack : (a : ℕ) → InImage here a → InFrame here a → ⊥
    off_stack a inside frame = ready.apart.0.0 a (in_image a inside) (in_stack a frame)

    table_still : (offset : ℕ) (bytes : List ℕ) → TableAt before_saving taken offset bytes → TableAt here m offset bytes
    table_still offset bytes t =
        record {
          aligned = t.aligned;
          inside = t.inside;
          stands = λ a b at.
              let inside = t.inside a b at in
              unchanged (start + (4 * length code + offset) + a)
              (λ frame. off_stack (start + (4 * length code + offset) + a) (omega arith, omega arith) frame)
              ∙ t.stands a b at;
        }

    pub sound : Sound here m
    sound =
        record {
          aligned = saving_sound.aligned;
          ends = saving_sound.ends;
          short = saving_sound.short;
          base_aligned = saving_sound.base_aligned;
          frame_ends = saving_sound.frame_ends;
          few = saving_sound.few;
          fit = omega arith;
          apart = off_stack;
          stands = λ j i found. let below = slice_get_within code j i found in
              number_at_agree 4 s.mem m.mem (start + 4 * j)
              (λ a low high. unchanged a (λ frame. off_stack a (omega arith, omega arith) frame)) ∙ code_at j i found;
          table = λ j bytes found. table_still (offset_in f j) bytes (table_at j bytes found);
          mapped = λ a frame. saved.memory.stay a (saving_sound.mapped a frame);
          from = placement.from;
          to = placement.to;
          not_argument = placement.not_argument;
        }

    pub first_memory : (mem : Bytes) → IsPart arrays mem s.mem → Memory here m mem m.mem
    first_memory mem part =
        record {
          seen = λ a b found. unchanged a (λ frame. off_array a (ap (λ o. is_some o) found) frame) ∙ ((part a b).0 found).1;
          off_image = λ a there inside. apart_from image arrays a ready.apart.0.1 (one_of mem a part there) (in_image a inside);
          off_frame = off_array;
          others = λ a outside none. refl;
          stay = λ a there. there;
          no_more = λ a there. there;
          bytes = saved.memory.bytes;
        }
      where
        off_array : (a : ℕ) → IsSome (get mem a) → InFrame here a → ⊥
        off_array a there frame = apart_from (stack_range stack s) arrays a ready.apart.1.0 (one_of mem a part there)
            (in_stack a frame)

    pub begins : (mem : Bytes) → IsPart arrays mem s.mem → Before here m mem nothing k m
    begins mem part =
        record {
          pc = saved.pc;
          count = saved.count;
          sp = saved.sp;
          kept = λ r free. refl;
          held = λ x v found. absurd (none_set x v found);
          memory = first_memory mem part;
        }
      where
        none_set : (x v : ℕ) → get nothing x ≡ Some v → ⊥
        none_set x v found = let none = get-empty {K = ℕ} {X = ℕ} nat_cmp x in absurd (cc)

    -- a register that is no temporary and not sp still holds what it held at the call
    pub same_register : (r : ℕ) → r ≢ 2 → (5 ≤ r → 8 ≤ r) → register m.regs r ≡ register s.regs r
    same_register r other not_temporary =
        saved.kept r (record { not_sp = other; not_temporary = not_temporary; not_held = refl })
        ∙ register-with_register_other s.regs 2 base r other

    pub same_arguments : (n : ℕ) → n ≤ 8 → arguments m.regs n ≡ arguments s.regs n
    same_arguments zero few = refl
    same_arguments (suc n) few =
        let rest = same_arguments n (omega arith) in
        let register_is : register m.regs (10 + n)
        ≡ register s.regs (10 + n) = same_register (10 + n) (λ e. omega arith) (λ h. omega arith) in
        rw (rest, register_is) refl
