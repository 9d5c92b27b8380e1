-- The call of emitted code returns.
use Rattle.std.proofs.Common.{◌≡◌, ◌≢◌, ℕ, suc, ◌+◌, ◌-◌, ◌%◌, ◌^◌, ◌<◌, ◌≤◌, ◌⊎◌, inl, inr, true, false, List, [], ◌∷◌, map}
use Rattle.std.proofs.Common.{length, Result, Ok, Err, All, refl, sym, ap, ◌∙◌, subst, arith, Bool, Option, Some, None, is_some}
use Rattle.std.proofs.Common.{slice_get, ◌*◌}
use Rattle.std.specs.FinMap.{get, get-empty}
use Rattle.std.specs.List.{AllByRecursion}
use Rattle.std.proofs.lemmas.Bool.{cases_eq}
use Rattle.std.proofs.lemmas.List.{length-map}
use Rattle.bed_syntax.specs.declared.weights.Weights.{Weights}
use Rattle.bed_meaning.specs.declared.halt.Halt.{Halt}
use Rattle.flat_lang.specs.State.{Vars}
use Rattle.flat_lang.specs.State as flat
use Rattle.flat_lang.specs.Meaning.{run_all, exec}
use Rattle.flat_lang.specs.Whole.{IsWhole}
use Rattle.flat_lang.specs.declared.flat.Flat.{Flat}
use Rattle.rv_code.specs.Field.{reg, imm12}
use Rattle.rv_code.specs.declared.instruction.Instr.{Instr}
use Rattle.rv_code.specs.declared.instruction.Instr.TheVariants.{Addi}
use Rattle.rv_code.specs.Word.{word_of}
use Rattle.rv_machine.specs.Word.{plus}
use Rattle.rv_machine.specs.Fields.{extended}
use Rattle.rv_machine.specs.State.{State, register, number_at}
use Rattle.rv_memory.specs.Ranges.{Bytes, Range, Within}
use Rattle.rv_machine.proofs.laws.Registers.{register-with_register_same, register-with_register_other}
use Rattle.rv_machine.proofs.laws.Runs.{Leads, stays, leads_then}
use Rattle.rv_emit.specs.Fit.{all_fit}
use Rattle.rv_emit.specs.Code.{place_of}
use Rattle.rv_emit.specs.Whole.{is_live, place, uses, slots_in, saved_in, live_arguments, leave, body_of}
use Rattle.reg_alloc.specs.declared.plan.Plan.{Plan}
use Rattle.reg_alloc.specs.Kept.{place_number, Starts}
use Rattle.reg_alloc.specs.PlanOk.{PlanOk}
use Rattle.reg_alloc.proofs.laws.OverPlaces.{keep}
use Rattle.rv_emit.proofs.Plans.{Serves, IsPlacement}
use Rattle.rv_emit.proofs.Started.{all_map, length-below, arguments_live, starts}
use Rattle.rv_emit.specs.Ready.{stack_range, Ready, IsPart, arguments}
use Rattle.rv_emit.specs.Returns.{IsUnderWay, Returns, RunsAs}
use Rattle.rv_machine.specs.Machines.{IsSaved}
use Rattle.rv_emit.proofs.Site.{Site, InCode, InSlots, IsValid, Sound, Memory, Holds, IsFree, Before, place_slot}
use Rattle.rv_emit.proofs.Runs.{Reaches, gives_is}
use Rattle.rv_emit.proofs.Straight.{Enough}
use Rattle.rv_emit.proofs.Blocks.{block_runs}
use Rattle.rv_emit.proofs.Entry.{arrived, arguments_reach}
use Rattle.rv_emit.proofs.Exit.{Is, leads_stood, Late, Results, results_lead}
use Rattle.rv_emit.proofs.Leave.{Left, leaves}
use Rattle.rv_emit.proofs.Parts.{Parts, parts_of}
use Rattle.rv_emit.proofs.Placed.{site, Emits, before_saving, here, taken, nothing, in_stack, saving_sound, begins_saving, sound}
use Rattle.rv_emit.proofs.Placed.{begins, same_register, same_arguments}
use Rattle.rv_emit.proofs.Saving.{AreFree, Saved, saves_lead}
use Rattle.rv_emit.proofs.Restoring.{Ending, Keeps, Back, restores_lead}
use Rattle.reg_alloc.specs.declared.plan.At.{At}
use Rattle.reg_alloc.specs.declared.plan.At.TheVariants.{Reg as Register, Slot}
use Rattle.std.proofs.lemmas.Option.{slice_get_within}
use Rattle.rv_memory.proofs.laws.Numbers.{number_at_agree}
use Rattle.std.specs.Ordering.{nat_cmp}
use Rattle.bed_meaning.specs.Fuelled.{finish}

frame_taken : (sp stack : ℕ) → sp < 2 ^ 32 → stack ≤ sp → stack < 2048 → plus sp (extended 2048 ((4096 - stack) % 4096))
    ≡ sp - stack
frame_taken sp stack word fits small = grind arith

saved_low : (r : ℕ) → IsSaved r → r ≢ 1
saved_low r (inl low) = λ e. omega (arith, low.0)
saved_low r (inr (inl middle)) = λ e. omega (arith, middle.0)
saved_low r (inr (inr high)) = λ e. omega (arith, high.0)

saved_free : (l : Site) (r : ℕ) → IsSaved r → r ≢ 2 → l.held r ≡ false → IsFree l r
saved_free l r (inl low) other free = record { not_sp = other; not_temporary = λ h. omega (arith, low.1); not_held = free }
saved_free l r (inr (inl middle)) other free =
    record { not_sp = other; not_temporary = λ h. omega (arith, middle.0); not_held = free }
saved_free l r (inr (inr high)) other free =
    record { not_sp = other; not_temporary = λ h. omega (arith, high.0); not_held = free }

saved_no_result : (r : ℕ) → IsSaved r → (r ≢ 10) × (r ≢ 11)
saved_no_result r (inl low) = (λ e. omega (arith, low.1), λ e. omega (arith, low.1))
saved_no_result r (inr (inl middle)) = (λ e. omega (arith, middle.1), λ e. omega (arith, middle.1))
saved_no_result r (inr (inr high)) = (λ e. omega (arith, high.0), λ e. omega (arith, high.0))

saved_below : (r : ℕ) → IsSaved r → r < 28
saved_below r (inl low) = omega (arith, low.1)
saved_below r (inr (inl middle)) = omega (arith, middle.1)
saved_below r (inr (inr high)) = omega (arith, high.1)

-- the meaning ended so
record Ends (r : Result flat.State Halt) (ticks : ℕ) (mem : Bytes) (vars : Vars) : Type 0 where
  g : flat.State
  is : r ≡ Ok g
  ticks_are : g.ticks ≡ ticks
  mem_is : g.mem ≡ mem
  vars_are : g.vars ≡ vars

ends_of : (r : Result flat.State Halt) (ticks : ℕ) (mem : Bytes) (vars : Vars) → finish r ≡ Ok (ticks, mem, vars)
    → Ends r ticks mem vars
ends_of (Ok g) ticks mem vars done =
    let left : ℕ × Bytes × Vars = (g.ticks, g.mem, g.vars) in
    let right : ℕ × Bytes × Vars = (ticks, mem, vars) in
    let same : left ≡ right = cc in
    record { g = g; is = refl; ticks_are = ap (λ e. e.0) same; mem_is = ap (λ e. e.1) same; vars_are = ap (λ e. e.2) same }
ends_of (Err h) ticks mem vars done = absurd (cc)

all_by : (n : ℕ) (xs : List ℕ) → All (λ x. x < n) xs → AllByRecursion (λ x. x < n) xs
all_by n [] all = tt
all_by n (x ∷ xs) all = (all 0 0 (omega arith), all_by n xs (λ k d below. all (suc k) d (omega arith)))

-- the body has ended at e after n steps from s, and the results are in their places
record Arrived (l : Site) (m s : State) (mem : Bytes) (vars : Vars) (rets : List ℕ) (num : ℕ → ℕ) (k limit : ℕ) : Type 0 where
  n : ℕ
  e : State
  places : Vars
  in_time : n ≤ limit
  run : Leads (InCode l) s n e
  ended : Before l m mem places k e
  results : (i r v : ℕ) → slice_get rets i ≡ Some r → get vars r ≡ Some v → get places (num r) ≡ Some v

valid_here : (f : Flat) (plan : Plan) (code : List Instr) (text : List ℕ) (start base : ℕ) (p : At) → Serves plan.places p
    → IsValid (site f plan code text start base) p
valid_here f plan code text start base (Register r) h = h
valid_here f plan code text start base (Slot j) h = h

module _ (w : Weights) (f : Flat) (plan : Plan) (enough : (l : Site) → l.slots ≡ slots_in plan.places → Enough w l)
    (ok : PlanOk f plan) (placement : IsPlacement f plan) (whole : IsWhole f) (fit : all_fit f.body ≡ true) (code : List Instr)
    (text : List ℕ) (stack : ℕ) (emits : Emits f plan code text stack) (image : Range) (start : ℕ) (arrays : List Range)
    (s : State) (ready : Ready (map word_of code) text stack image start arrays s) where
  abbrev l0 : Site
  l0 = before_saving f plan placement code text stack emits image start arrays s ready

  abbrev l : Site
  l = here f plan placement code text stack emits image start arrays s ready

  abbrev t : State
  t = taken f plan placement code text stack emits image start arrays s ready

  abbrev none : Bytes
  none = nothing f plan placement code text stack emits image start arrays s ready

  t_sound : Sound l0 t
  t_sound = saving_sound f plan placement code text stack emits image start arrays s ready

  abbrev ke : ℕ
  ke = 1 + length (saved_in plan.places) + length (live_arguments f) + length (body_of f plan)

  abbrev num : ℕ → ℕ
  num = place_number plan

  parts : Parts f plan code
  parts = parts_of f plan code emits.code_is

  words_of_t : (r : ℕ) → register t.regs r < 2 ^ 32
  words_of_t r = by_register (cases_eq r 2)
    where
      by_register : (r ≡ 2) ⊎ (r ≡ 2 → ⊥) → register t.regs r < 2 ^ 32
      by_register (inl two) =
          let is : register t.regs r ≡ register s.regs 2 - stack =
          ap (register t.regs) two ∙ register-with_register_same s.regs 2 (register s.regs 2 - stack) (omega arith)
          (omega (arith, ready.machine.registers)) in
          omega (arith, is, ready.machine.words 2)
      by_register (inr other) = omega
          (arith, register-with_register_other s.regs 2 (register s.regs 2 - stack) r other, ready.machine.words r)

  stack_small : stack < 2048
  stack_small = let few = placement.few in let is = emits.stack_is in omega arith

  first_step : Before l0 t none none 1 t → Memory l0 t none s.mem → Leads (InCode l0) s 1 t
  first_step before memory =
      let words = ready.machine.words 2 in
      let stack_is = emits.stack_is in
      let fits = ready.stack_fits in
      let takes : Is code 0 (Addi (reg 2) (reg 2) (imm12 (4096 - stack))) =
      subst (λ n. Is code 0 (Addi (reg 2) (reg 2) (imm12 (4096 - n)))) (sym stack_is) parts.takes in
      let sum : plus (register s.regs 2) (extended 2048 ((4096 - stack) % 4096))
      ≡ register s.regs 2 - stack = frame_taken (register s.regs 2) stack words fits stack_small in
      let starts = ready.starts in
      leads_stood l0 t t_sound none 0 0 (Addi (reg 2) (reg 2) (imm12 (4096 - stack))) s s t (stays (InCode l0) s)
      (record { pc = omega arith; memory = memory }) takes (rw sum (gives_is s 2 (register s.regs 2 - stack)))

  are_free : AreFree l0 (saved_in plan.places)
  are_free =
      record {
        free = λ i r found. let from = placement.saved_from i r found in
            record { not_sp = λ e. omega arith; not_temporary = λ h. from; not_held = refl };
        below = λ i r found. placement.saved_to i r found;
      }

  saved : Saved l0 t t_sound none none (saved_in plan.places) (slots_in plan.places) 1 t
  saved =
      let long = parts.gives_back.inside in
      saves_lead l0 t t_sound none (saved_in plan.places) (slots_in plan.places) 1 none t words_of_t are_free (omega arith)
      (begins_saving f plan placement code text stack emits image start arrays s ready (omega arith)) parts.keeps

  abbrev m : State
  m = saved.after

  l_sound : Sound l m
  l_sound = sound f plan placement code text stack emits image start arrays s ready m saved.vars_after
      (1 + length (saved_in plan.places)) saved.stands

  same_m : (r : ℕ) → r ≢ 2 → (5 ≤ r → 8 ≤ r) → register m.regs r ≡ register s.regs r
  same_m r other not_temporary =
      same_register f plan placement code text stack emits image start arrays s ready m saved.vars_after
      (1 + length (saved_in plan.places)) saved.stands r other not_temporary

  words_of_m : (r : ℕ) → 10 ≤ r → r < 18 → register m.regs r < 2 ^ 32
  words_of_m r low high = let is = same_m r (λ e. omega arith) (λ h. omega arith) in omega (arith, is, ready.machine.words r)

  valid : (x : ℕ) → x < f.vars → IsValid l (place_of (num x))
  valid x below = valid_here f plan code text start (register s.regs 2 - stack) (place plan x) (placement.valid x below)

  abbrev first_places : Vars
  first_places = arrived num m.regs (live_arguments f) none

  starts_there : Starts f plan (arguments s.regs f.args) first_places
  starts_there = subst (λ v. Starts f plan v first_places)
      (same_arguments f plan placement code text stack emits image start arrays s ready m saved.vars_after
      (1 + length (saved_in plan.places)) saved.stands f.args whole.args) (starts f plan ok m.regs none)

  arguments_valid : AllByRecursion (λ x. (x < 8) × IsValid l (place_of (num x))) (live_arguments f)
  arguments_valid = all_map (λ x. (x < f.args) × (is_live f x ≡ true)) (λ x. (x < 8) × IsValid l (place_of (num x)))
      (live_arguments f) (λ x h. let few = whole.args in let known = whole.arguments in let less = h.0 in
      (omega arith, valid x (omega arith))) (arguments_live f plan ok)

  arrives : (fuel : ℕ) (mem : Bytes) (ticks : ℕ) (mem_after : Bytes) (vars_after : Vars) → IsPart arrays mem s.mem
      → exec w f fuel mem (arguments s.regs f.args) ≡ Ok (ticks, mem_after, vars_after)
      → Arrived l m s mem_after vars_after f.rets num ke (ticks + 9 + length (saved_in plan.places))
  arrives fuel mem ticks mem_after vars_after part done =
      let f0 : flat.State = record { fuel = fuel; ticks = 0; mem = mem; vars = arguments s.regs f.args } in
      let f1 : flat.State = record { fuel = fuel; ticks = 0; mem = mem; vars = first_places } in
      let ends = ends_of (run_all w f.tables f.body f0) ticks mem_after vars_after done in
      let kept = keep f plan ok w f0 ends.g first_places starts_there ends.is in
      let few = whole.args in
      let live_few = length-below f.args (is_live f) in
      let k1 = 1 + length (saved_in plan.places) in
      let k2 = k1 + length (live_arguments f) in
      let long = parts.gives_back.inside in
      let start_at = begins f plan placement code text stack emits image start arrays s ready m saved.vars_after k1 saved.stands
      mem part in
      let moved = arguments_reach l m l_sound words_of_m num (live_arguments f) 0 k1 fuel mem none m arguments_valid start_at
      parts.enters in
      let body = block_runs l m l_sound w (enough l refl) num f.vars valid f.body whole.body fit k2 (length (leave f plan)) f1
      moved.1 parts.runs parts.last_are moved.4 in
      let g : flat.State = record { fuel = ends.g.fuel; ticks = ends.g.ticks; mem = ends.g.mem; vars = kept.places_after } in
      let reached : Reaches l m l_sound 0 ke moved.1 (Ok g) = subst (λ r. Reaches l m l_sound 0 ke moved.1 r) kept.runs body in
      let ticks_are = ends.ticks_are in
      let begun = begins_saving f plan placement code text stack emits image start arrays s ready (omega arith) in
      let first = leads_then (InCode l) s 1 t (length (saved_in plan.places)) m (first_step begun begun.memory) saved.run in
      let second = leads_then (InCode l) s k1 m moved.0 moved.1 first moved.3 in
      let in_args = moved.2 in
      let in_body = reached.2 in
      record {
        n = k1 + moved.0 + reached.0;
        e = reached.1;
        places = kept.places_after;
        in_time = omega arith;
        run = leads_then (InCode l) s (k1 + moved.0) moved.1 reached.0 reached.1 second reached.3;
        ended = subst (λ b. Before l m b kept.places_after ke reached.1) ends.mem_is reached.4;
        results = λ i r v at set. kept.results i r v at (subst (λ z. get z r ≡ Some v) (sym ends.vars_are) set);
      }

  under_way : (n : ℕ) (u : State) → Leads (InCode l) s n u → (j : ℕ) → j < n → IsUnderWay (map word_of code) start s j
  under_way n u run j before =
      let found = run.inside j before in
      let count = length-map {A = Instr} {B = ℕ} code word_of in
      record { state = found.0; ran = found.1; from = found.2.0; to = omega (arith, found.2.1) }

  -- the words behind the variables hold what the saved registers held, at the end of the body too
  still_saved : (mem_after : Bytes) (places : Vars) (e : State) → Before l m mem_after places ke e
      → Keeps l t e (slots_in plan.places) (saved_in plan.places)
  still_saved mem_after places e ended = λ i r found.
      let first = slots_in plan.places in
      let below = slice_get_within (saved_in plan.places) i r found in
      let there : Holds l0 m (place_of (32 + (first + i))) (register t.regs r) =
      (saved.stands.held (32 + (first + i)) (register t.regs r) (saved.here i r found)).there in
      let word : number_at m.mem 4 (l.base + 4 * (first + i))
      ≡ Some (register t.regs r) = subst (λ p. Holds l0 m p (register t.regs r)) (place_slot (first + i)) there in
      number_at_agree 4 m.mem e.mem (l.base + 4 * (first + i))
      (λ a low high. ended.memory.others a (λ slot. omega (arith, slot.1)) (off a (omega arith) (omega arith))) ∙ word
    where
      off : (a : ℕ) → l.base ≤ a → a < l.base + 4 * l.words → get mem_after a ≡ None
      off a low high = by_byte (get mem_after a) refl
        where
          by_byte : (o : Option ℕ) → get mem_after a ≡ o → get mem_after a ≡ None
          by_byte None is = is
          by_byte (Some b) is = absurd (ended.memory.off_frame a (ap is_some is) (low, high))

  -- from the end of the body on
  finishes : (ticks : ℕ) (mem_after : Bytes) (vars_after : Vars)
      (there : Arrived l m s mem_after vars_after f.rets num ke (ticks + 9 + length (saved_in plan.places))) (u1 u2 u3 : State)
      → Results l m l_sound mem_after there.places ke there.e there.ended num 0 f.rets (ke + length f.rets) (length f.rets)
      there.e u1
      → Back l m l_sound mem_after there.e there.ended.memory t (saved_in plan.places)
      (ke + length f.rets + length (saved_in plan.places)) u1 u2
      → Left l there.e u2 (register s.regs 2) (register s.regs 1) 2 u3
      → Returns (map word_of code) stack start f.rets s ticks mem_after vars_after
  finishes ticks mem_after vars_after there u1 u2 u3 results back left =
      let n1 = there.n + length f.rets in
      let n2 = n1 + length (saved_in plan.places) in
      let run = leads_then (InCode l) s n2 u2 2 u3
      (leads_then (InCode l) s n1 u1 (length (saved_in plan.places)) u2
      (leads_then (InCode l) s there.n there.e (length f.rets) u1 there.run results.run) back.run) left.run in
      let few = whole.rets in
      let few_saved = placement.few_saved in
      let in_time = there.in_time in
      let memory : Memory l m mem_after u3.mem = subst (λ b. Memory l m mem_after b) (sym left.mem) there.ended.memory in
      record {
        steps = n2 + 2;
        end = u3;
        ran = run.runs;
        back = left.pc;
        before = under_way (n2 + 2) u3 run;
        in_time = omega arith;
        results = λ q x v at set. let within = slice_get_within f.rets q x at in
            left.others (10 + q) (λ e. omega arith)
            ∙ back.others (10 + q) (λ i found. let far = placement.saved_not_argument i (10 + q) found (omega arith) in
            omega arith) ∙ results.set q x v at (there.results q x v at set);
        saved = saved_as;
        arrays = memory.seen;
        others = λ a outside gone. memory.others a (λ slot. outside (in_stack_slot a slot)) gone
            ∙ saved.stands.memory.others a
            (λ frame. outside (in_stack f plan placement code text stack emits image start arrays s ready a frame))
            (get-empty {K = ℕ} {X = ℕ} nat_cmp a);
        same_addresses = λ a. (
          λ here. saved.stands.memory.no_more a (memory.no_more a here),
          λ here.
              memory.stay a (saved.stands.memory.stay a here),
        );
      }
    where
      in_stack_slot : (a : ℕ) → InSlots l a → Within (stack_range stack s) a
      in_stack_slot a slot = in_stack f plan placement code text stack emits image start arrays s ready a
          (slot.0, omega (arith, slot.1))

      saved_as : (r : ℕ) → IsSaved r → register u3.regs r ≡ register s.regs r
      saved_as r is = by_register (cases_eq r 2) (uses plan.places r) refl
        where
          t_is : r ≢ 2 → register t.regs r ≡ register s.regs r
          t_is other = register-with_register_other s.regs 2 (register s.regs 2 - stack) r other

          by_register : (r ≡ 2) ⊎ (r ≡ 2 → ⊥) → (b : Bool) → uses plan.places r ≡ b → register u3.regs r ≡ register s.regs r
          by_register (inl two) b at = ap (register u3.regs) two ∙ left.sp_is ∙ ap (register s.regs) (sym two)
          by_register (inr other) true at =
              let kept = placement.kept r at (saved_below r is) in
              left.others r other ∙ back.got kept.0 r kept.1 ∙ t_is other
          by_register (inr other) false at =
              let no_result = saved_no_result r is in
              let free : IsFree l r = saved_free l r is other at in
              let at_end : register u1.regs r ≡ register s.regs r = results.late.others r no_result.0 no_result.1
              ∙ there.ended.kept r free ∙ same_m r other free.not_temporary in
              left.others r other ∙ back.right r (at_end ∙ sym (t_is other)) ∙ t_is other

  returns : (fuel : ℕ) (mem : Bytes) (ticks : ℕ) (mem_after : Bytes) (vars_after : Vars) → IsPart arrays mem s.mem
      → exec w f fuel mem (arguments s.regs f.args) ≡ Ok (ticks, mem_after, vars_after)
      → Returns (map word_of code) stack start f.rets s ticks mem_after vars_after
  returns fuel mem ticks mem_after vars_after part done =
      let there = arrives fuel mem ticks mem_after vars_after part done in
      let e = there.e in
      let ended = there.ended in
      let few = whole.rets in
      let late : Late l m e ke e = record { pc = ended.pc; count = ended.count; mem = refl; others = λ r a0 a1. refl } in
      let known = all_map (λ x. x < f.vars) (λ x. IsValid l (place_of (num x))) f.rets valid (all_by f.vars f.rets whole.results)
      in
      let results = results_lead l m l_sound mem_after there.places ke e ended num f.rets 0 ke e (omega arith) known late
      parts.results in
      let u1 : State = results.0 in
      let at_end : Ending l e (ke + length f.rets) u1 =
      record {
        pc = results.1.late.pc;
        count = results.1.late.count;
        mem = results.1.late.mem;
        sp = results.1.late.others 2 (λ q. omega arith) (λ q. omega arith) ∙ ended.sp;
      } in
      let back = restores_lead l m l_sound mem_after e ended.memory t (saved_in plan.places) (slots_in plan.places)
      (ke + length f.rets) u1 (record { from = placement.saved_from; to = placement.saved_to }) (omega arith)
      (still_saved mem_after there.places e ended) at_end parts.brings_back in
      let u2 : State = back.0 in
      let fits = ready.stack_fits in
      let stack_is = emits.stack_is in
      let ra_free : IsFree l 1 = record {
        not_sp = λ q. omega arith;
        not_temporary = λ h. absurd (omega arith);
        not_held = ra_not_held (uses plan.places 1) refl;
      } in
      let ra_is : register u2.regs 1
      ≡ register s.regs 1 = back.1.others 1 (λ i found. let from = placement.saved_from i 1 found in omega arith)
      ∙ results.1.late.others 1 (λ q. omega arith) (λ q. omega arith) ∙ ended.kept 1 ra_free
      ∙ same_m 1 (λ q. omega arith) (λ h. absurd (omega arith)) in
      let k = ke + length f.rets + length (saved_in plan.places) in
      let gives_back : Is code k (Addi (reg 2) (reg 2) (imm12 stack)) =
      subst (λ n. Is code k (Addi (reg 2) (reg 2) (imm12 n))) (sym stack_is) parts.gives_back in
      let left = leaves l m l_sound mem_after e ended.memory k stack (register s.regs 2) (register s.regs 1) u2 back.1.ending
      gives_back parts.returns (omega arith) stack_small (ready.machine.words 2) ra_is ready.return_aligned
      (ready.machine.words 1) in
      finishes ticks mem_after vars_after there u1 u2 left.0 results.1 back.1 left.1
    where
      ra_not_held : (b : Bool) → uses plan.places 1 ≡ b → uses plan.places 1 ≡ false
      ra_not_held true is = let from = placement.from 1 is in absurd (omega arith)
      ra_not_held false is = is

-- the emitted code runs as the three-address code does
pub runs_as : (w : Weights) (f : Flat) (plan : Plan) (enough : (l : Site) → l.slots ≡ slots_in plan.places → Enough w l)
    (ok : PlanOk f plan) (placement : IsPlacement f plan) (whole : IsWhole f) (fit : all_fit f.body ≡ true) (code : List Instr)
    (text : List ℕ) (stack : ℕ) (emits : Emits f plan code text stack) → RunsAs w f (map word_of code) text stack
runs_as w f plan enough ok placement whole fit code text stack emits image start arrays s fuel mem ticks mem_after vars_after
    ready part done =
    returns w f plan enough ok placement whole fit code text stack emits image start arrays s ready fuel mem ticks mem_after
    vars_after part done
