-- The command computes the model, three-address code keeps the command, and the instructions run as three-address code.
use Rattle.std.proofs.Common.{◌≡◌, refl, sym, ◌∙◌, ap, subst, arith, ℕ, zero, suc, ◌+◌, ◌<◌, ◌≤◌, Bool, true, false, ◌||◌, nat_eq}
use Rattle.std.proofs.Common.{◌⊎◌, inl, inr, List, [], ◌∷◌, ◌++◌, length, replicate, Option, Some, None, slice_get}
use Rattle.std.proofs.lemmas.Bool.{cases_eq, eqb-true}
use Rattle.std.proofs.lemmas.List.{length-append, length-replicate}
use Rattle.std.specs.FinMap.{get}
use Rattle.rup_base.specs.declared.arg.Arg.{Arg}
use Rattle.rup_base.specs.Gather.{greatest}
use Rattle.model_syntax.specs.Value.{results}
use Rattle.model_syntax.specs.declared.program.Model.{Model}
use Rattle.sym_heap.specs.Fits.{call_of}
use Rattle.sym_heap.specs.Arrival.{HasArguments, AreApart}
use Rattle.sym_heap.specs.Start.{registers}
use Rattle.bed_syntax.specs.Shape.{cmd_locals, is_known}
use Rattle.bed_syntax.specs.declared.weights.TheConstants as weights
use Rattle.bed_meaning.specs.Locals.{Vars, local_at}
use Rattle.model_command.specs.Computes.{Starts, Computes}
use Rattle.model_command.specs.declared.command.ModelCommand.{ModelCommand}
use Rattle.flat_lang.specs.declared.flat.Flat.{Flat}
use Rattle.flat_lang.specs.State as variables
use Rattle.flatten.specs.Keeps.{Keeps, Starts as Begins, Returns as Returned}
use Rattle.rv_memory.specs.Ranges.{Bytes, Range}
use Rattle.rv_memory.proofs.laws.Numbers.{get-insert_same, get-insert_other}
use Rattle.rv_machine.specs.State.{State, register}
use Rattle.rv_emit.specs.Ready.{arguments}
use Rattle.rv_emit.specs.Returns.{RunsAs}
use Rattle.pipeline.specs.Serves.{argument_registers, array_ranges, Serves}
use Rattle.pipeline.proofs.Partial.{part_of, is_part}
use Rattle.pipeline.proofs.Disjoint.{are_apart}
use Rattle.pipeline.proofs.Carried.{arguments_carried, results_carried}

-- The locals at the start.

-- so many registers from a0, which is x10, and number k on
abbrev held : List ℕ → ℕ → ℕ → Vars
held regs k zero = []
held regs k (suc n) = Some (register regs (10 + k)) ∷ held regs (suc k) n

-- those of the arguments, and room for further locals
abbrev locals : List ℕ → ℕ → ℕ → Vars
locals regs args room = held regs 0 args ++ replicate room None

held_from : (regs : List ℕ) (k n l : ℕ) (more : Vars) → l < n
    → local_at (held regs k n ++ more) l ≡ Some (register regs (10 + (k + l)))
held_from regs k zero l more below = absurd (omega (arith, below))
held_from regs k (suc n) zero more below =
    let e : k ≡ k + 0 = omega arith in
    ap (λ (j : ℕ). Some (register regs (10 + j))) e
held_from regs k (suc n) (suc l) more below =
    let e : suc k + l ≡ k + suc l = omega arith in
    held_from regs (suc k) n l more (omega (arith, below)) ∙ ap (λ (j : ℕ). Some (register regs (10 + j))) e

held_at : (regs : List ℕ) (n room l : ℕ) → l < n → local_at (locals regs n room) l ≡ Some (register regs (10 + l))
held_at regs n room l below =
    let e : 0 + l ≡ l = omega arith in
    held_from regs 0 n l (replicate room None) below ∙ ap (λ (j : ℕ). Some (register regs (10 + j))) e

no_local : (room k n : ℕ) → local_at (replicate room None) k ≡ Some n → ⊥
no_local zero k n at = cc
no_local (suc room) zero n at = cc
no_local (suc room) (suc k) n at = no_local room k n at

held_below : (regs : List ℕ) (k n room l v : ℕ) → local_at (held regs k n ++ replicate room None) l ≡ Some v → l < n
held_below regs k zero room l v at = absurd (no_local room l v at)
held_below regs k (suc n) room zero v at = omega arith
held_below regs k (suc n) room (suc l) v at =
    let below = held_below regs (suc k) n room l v at in
    omega (arith, below)

length_locals : (regs : List ℕ) (args room : ℕ) → room ≤ length (locals regs args room)
length_locals regs args room =
    let both : length (locals regs args room) ≡ length (held regs 0 args) + room =
    length-append (held regs 0 args) (replicate room None)
    ∙ ap (λ n. length (held regs 0 args) + n) (length-replicate {A = Option ℕ} room None) in
    omega (arith, both)

-- a local among others is at most their greatest
known_most : (xs : List ℕ) (l : ℕ) → is_known xs l ≡ true → l ≤ greatest xs
known_most [] l is = absurd (cc)
known_most (y ∷ ys) l is = by_head (nat_eq y l) refl is (known_most ys l)
  where
    by_head : (same : Bool) → nat_eq y l ≡ same → same || is_known ys l ≡ true → (is_known ys l ≡ true → l ≤ greatest ys)
        → l ≤ greatest (y ∷ ys)
    by_head true same is rest = let e : y ≡ l = eqb-true y l same in grind (arith, e)
    by_head false other is rest = let most : l ≤ greatest ys = rest is in grind (arith, most)

-- a variable below the number of arguments has what the register holds
variable_of : (regs : List ℕ) (a k : ℕ) → k < a → get (arguments regs a) k ≡ Some (register regs (10 + k))
variable_of regs zero k below = absurd (omega (arith, below))
variable_of regs (suc a) k below = by_place (cases_eq k a) (λ less. variable_of regs a k less)
  where
    by_place : (k ≡ a) ⊎ (k ≡ a → ⊥) → (k < a → get (arguments regs a) k ≡ Some (register regs (10 + k)))
        → get (arguments regs (suc a)) k ≡ Some (register regs (10 + k))
    by_place (inl same) earlier =
        subst (λ x. get (arguments regs (suc a)) x ≡ Some (register regs (10 + x))) (sym same)
        (get-insert_same (arguments regs a) a (register regs (10 + a)))
    by_place (inr other) earlier = get-insert_other (arguments regs a) a (register regs (10 + a)) k other
        ∙ earlier (omega (arith, below, other))

-- The call.

abbrev room_of : ModelCommand → ℕ
room_of c = suc (greatest (cmd_locals c.command []))

abbrev vars_of : ModelCommand → State → Vars
vars_of c s = locals s.regs c.args (room_of c)

begins : (c : ModelCommand) (s : State) → Begins c.args (vars_of c s) (arguments s.regs c.args)
begins c s x n at =
    let below : x < c.args = held_below s.regs 0 c.args (room_of c) x n at in
    (below, variable_of s.regs c.args x below ∙ sym (held_at s.regs c.args (room_of c) x below) ∙ at)

module _ (m : Model) (c : ModelCommand) (many : c.args ≡ registers m.params) (args : List Arg) (pointers : ℕ → ℕ) (s : State)
  where
    abbrev ranges : List Range
    ranges = array_ranges 0 m.params args pointers

    starts : HasArguments 0 0 m.params args pointers s.mem (argument_registers s) → AreApart (call_of m args pointers)
        → Starts m c.command args pointers (part_of s.mem ranges) (vars_of c s)
    starts has apart =
        record {
          arguments = arguments_carried 0 0 m.params args pointers s.mem (part_of s.mem ranges) (argument_registers s)
              (local_at (vars_of c s))
              (λ k from to. held_at s.regs c.args (room_of c) k (omega (arith, to, many)))
              (λ address b inside found. let part = is_part s.mem ranges address b in part.1 (inside, found)) has;
          apart = apart;
          room = λ l known.
              let most = known_most (cmd_locals c.command []) l known in
              let enough = length_locals s.regs c.args (room_of c) in
              omega (arith, most, enough);
        }

-- an address outside of what is returned, and outside of the stack
other_byte : (s : State) (rs : List Range) (after_mem end : Bytes) (address : ℕ) (found : Option ℕ)
    → get (part_of s.mem rs) address ≡ found
    → get after_mem address ≡ get (part_of s.mem rs) address
    → ((b : ℕ) → get after_mem address ≡ Some b → get end address ≡ Some b)
    → (get after_mem address ≡ None → get end address ≡ get s.mem address)
    → get end address ≡ get s.mem address
other_byte s rs after_mem end address None is same arrays others = others (same ∙ is)
other_byte s rs after_mem end address (Some b) is same arrays others =
    let part = is_part s.mem rs address b in
    let there = part.0 is in
    arrays b (same ∙ is) ∙ sym there.1

-- each result that a variable has is in the register of its place
moved : (rets places : List ℕ) (locals : Vars) (vars : variables.Vars) (end : State) → Returned rets places locals vars
    → ((q x v : ℕ) → slice_get places q ≡ Some x → get vars x ≡ Some v → register end.regs (10 + q) ≡ v)
    → (i l n : ℕ) → slice_get rets i ≡ Some l → local_at locals l ≡ Some n → argument_registers end i ≡ Some n
moved rets places locals vars end returns results i l n is holds =
    let place = returns i l n is holds in
    ap (λ (v : ℕ). Some v) (results i place.0 n place.1 place.2)

pub serves : (m : Model) (c : ModelCommand) (flat : Flat) (words tables : List ℕ) (stack : ℕ) → Computes weights.Weights.LARGE m c
    → c.args ≡ registers m.params
    → Keeps c.command c.args c.rets flat → flat.args ≡ c.args → RunsAs weights.Weights.LARGE flat words tables stack
    → Serves m c words tables stack
serves m c flat words tables stack computes many keeps same runs_as args pointers image start s meets has ready =
    let rs : List Range = array_ranges 0 m.params args pointers in
    let mem : Bytes = part_of s.mem rs in
    let vars : Vars = vars_of c s in
    let apart = are_apart m args pointers s.mem (argument_registers s) has ready.apart.1.1 in
    let begin : Begins c.args vars (arguments s.regs flat.args) =
    subst (λ a. Begins c.args vars (arguments s.regs a)) (sym same) (begins c s) in
    let done = computes args meets pointers mem vars (starts m c many args pointers s has apart) in
    let kept = keeps weights.Weights.LARGE refl done.fuel mem vars (arguments s.regs flat.args) begin done.ticks done.after_mem
    done.after_vars done.runs in
    let back = runs_as image start rs s kept.fuel mem done.ticks done.after_mem kept.vars1 ready (is_part s.mem rs)
    (kept.runs kept.fuel (omega arith)) in
    record {
      steps = back.steps;
      end = back.end;
      ran = back.ran;
      back = back.back;
      before = back.before;
      in_time = omega (arith, back.in_time, done.in_time);
      has_results = results_carried m.params pointers m.rets (results m args) c.rets done.after_mem back.end.mem
          (local_at done.after_vars) (argument_registers back.end)
          back.arrays (moved c.rets flat.rets done.after_vars kept.vars1 back.end kept.returns back.results) done.has_results;
      saved = back.saved;
      others = λ address outside unreturned.
          other_byte s rs done.after_mem back.end.mem address (get mem address) refl (done.others address unreturned)
          (back.arrays address) (back.others address outside);
      same_addresses = back.same_addresses;
    }
