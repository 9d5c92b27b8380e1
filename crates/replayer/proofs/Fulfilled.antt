-- What an accepted derivation comes to computes the model, is measured and small.
use Rattle.std.proofs.Common.{◌≡◌, refl, sym, ◌∙◌, ap, subst, arith, ℕ, ◌+◌, ◌*◌, ◌<◌, ◌≤◌, nat_le, Bool, true, false, List, []}
use Rattle.std.proofs.Common.{length, map, sum, Result, Ok, Err, IfOk, if◌then◌else◌}
use Rattle.std.proofs.lemmas.Bool.{leb-true}
use Rattle.rup_base.specs.Answers.{Answers}
use Rattle.rup_base.specs.declared.fail.Fail.{Fail}
use Rattle.rup_base.specs.Gather.{all_true, joined}
use Rattle.rup_base.specs.Name.{is_name}
use Rattle.rup_base.specs.declared.arg.Arg.{Arg}
use Rattle.rup_base.specs.declared.refusal.Refusal.TheVariants.{OverSlots, OverSize}
use Rattle.rv_memory.specs.Ranges.{Bytes}
use Rattle.cost_poly.specs.Polynomial.{BoundFrom, at}
use Rattle.model_syntax.specs.Entries.{entry_names}
use Rattle.model_syntax.specs.Environment.{Env}
use Rattle.model_syntax.specs.Formed.{model_formed, param_formed, facts_formed, stmt_formed, ret_formed}
use Rattle.model_syntax.specs.Limits as limits
use Rattle.model_syntax.specs.Names.{Name, same}
use Rattle.model_syntax.specs.Sound.{IsTyped}
use Rattle.model_syntax.specs.Spelling.{Spellable}
use Rattle.model_syntax.specs.Types as types
use Rattle.model_syntax.specs.Value as model
use Rattle.model_syntax.specs.declared.program.Model.{Model}
use Rattle.model_syntax.proofs.laws.Arrays.{and_parts}
use Rattle.model_syntax.proofs.laws.Models.{starts_typed}
use Rattle.sym_heap.specs.Arrival.{StartFits, numbers_of}
use Rattle.sym_heap.specs.Context.{Context}
use Rattle.sym_heap.specs.Fits.{Call, call_of, entry_numbers, IsConsistent, FitsBy}
use Rattle.sym_heap.specs.Scoped.{StartIsScoped}
use Rattle.sym_heap.specs.Start.{start}
use Rattle.equations.specs.Book.{Turn, Laws}
use Rattle.deriv_tree.specs.Measure.{size, block_size}
use Rattle.deriv_tree.specs.Shape.{IsWhole}
use Rattle.deriv_tree.specs.declared.tree.Derivation.{Derivation}
use Rattle.bed_syntax.specs.Shape.{cmd_size, cmd_size_step}
use Rattle.bed_syntax.specs.Tables.{cmd_tables, cmd_tables_step}
use Rattle.bed_syntax.specs.declared.weights.Weights.{Weights}
use Rattle.bed_syntax.specs.declared.weights.TheConstants as weights
use Rattle.bed_syntax.specs.declared.command.Cmd.{Cmd}
use Rattle.bed_syntax.specs.declared.command.Cmd.TheVariants as cmd
use Rattle.bed_syntax.proofs.laws.Nodes.{fold_seq}
use Rattle.bed_meaning.specs.Locals.{Vars, local_at}
use Rattle.bed_meaning.specs.Runs.{Runs, One, seqs}
use Rattle.bed_meaning.proofs.laws.Running.{fuel_of_run}
use Rattle.expr_rules.specs.Words.{need}
use Rattle.stmt_rules.specs.declared.output.StmtOut.{StmtOut}
use Rattle.stmt_rules.specs.Bound.{cost_all, sets_below_step, all_below}
use Rattle.stmt_rules.specs.Row.{block_judged}
use Rattle.stmt_rules.specs.Small.{AreSmall, CommandsAreSmall}
use Rattle.stmt_rules.specs.Sound.{StmtRan, StmtDone, BlocksAreSound}
use Rattle.model_command.specs.Computes.{Computes, Starts, Ends}
use Rattle.model_command.specs.Measures.{IsMeasured, IsSmall}
use Rattle.replayer.specs.declared.checked.Checked.{Checked}
use Rattle.replayer.specs.Ends.{are_named, are_kept}
use Rattle.replayer.specs.Replayed.{ask, instance, command_of, weight_of, measured, most_slots, few_slots, sized, slots_of}
use Rattle.replayer.specs.Replayed.{checked, limited, replayed}
use Rattle.replayer.specs.Bounds.{Poly, bound}
use Rattle.replayer.proofs.Answered.{both_answered, rules_gave, need_holds, yielded, if_answered}
use Rattle.replayer.proofs.Costs.{are_entries, bound_above}
use Rattle.replayer.proofs.Memory.{others_same}
use Rattle.replayer.proofs.Results.{results_hold}
use Rattle.replayer.proofs.Rooms.{has_room}
use Rattle.replayer.proofs.Taken.{parts_of, few_registers, few_entries, few_rets}

abbrev w : Weights
w = weights.Weights.LARGE

-- Instances.

-- what an instance says
pub record Derived (turn : Turn) (m : Model) (d : Derivation) (out : StmtOut) (after : Context) : Type 0 where
  pub row : (block_judged turn d.body).row 0 (size d) 4 m.body (start m) ≡ Ok (out, after)
  pub named : are_named m.params m.rets after ≡ true
  pub kept : are_kept m.params m.rets after ≡ true

pub derived : (turn : Turn) (m : Model) (d : Derivation) (out : StmtOut) (after : Context)
    → instance turn m d (start m) ≡ Ok (out, after) → Derived turn m d out after
derived turn m d out after is =
    let one = rules_gave (need (same d.model m.name) 0 0) _ (start m) (out, after) is in
    let name = need_holds (same d.model m.name) 0 0 (start m) one.given one.after one.first_is in
    let two = rules_gave ((block_judged turn d.body).row 0 (size d) 4 m.body) _ one.after (out, after) one.next_is in
    let three = rules_gave (ask (are_named m.params m.rets) (size d) 5) _ two.after (out, after) two.next_is in
    let named = need_holds (are_named m.params m.rets two.after) (size d) 5 two.after three.given three.after three.first_is in
    let four = rules_gave (ask (are_kept m.params m.rets) (size d) 6) _ three.after (out, after) three.next_is in
    let kept = need_holds (are_kept m.params m.rets three.after) (size d) 6 three.after four.given four.after four.first_is in
    let last : Ok (two.given, four.after) ≡ Ok (out, after) = four.next_is in
    let pair : (two.given, four.after) ≡ (out, after) = cc in
    let out_is : two.given ≡ out = ap (λ (p : StmtOut × Context). p.0) pair in
    let after_is : four.after ≡ after = ap (λ (p : StmtOut × Context). p.1) pair in
    let here : two.after ≡ after = named.1 ∙ kept.1 ∙ after_is in
    record {
      row = ap ((block_judged turn d.body).row 0 (size d) 4 m.body) name.1 ∙ two.first_is ∙ ap (λ o. Ok (o, two.after)) out_is
          ∙ ap (λ a. Ok (out, a)) here;
      named = sym (ap (are_named m.params m.rets) here) ∙ named.0;
      kept = sym (ap (are_kept m.params m.rets) (kept.1 ∙ after_is)) ∙ kept.0;
    }

-- Limits.

few_enough : (n : ℕ) (u : Unit {0}) → few_slots n ≡ Ok u → n ≤ 400
few_enough n u is = by (nat_le n most_slots) refl is where
  by : (b : Bool) → nat_le n most_slots ≡ b → few_slots n ≡ Ok u → n ≤ 400
  by true few is = leb-true n most_slots few
  by false few is = absurd (let bad : (if false then Ok tt else Err (OverSlots n)) ≡ Ok u = rw few at is in
      let worse : Err (OverSlots n) ≡ Ok u = bad in cc)

small_enough : (weight most : ℕ) (u : Unit {0}) → sized weight most ≡ Ok u → 4 * weight ≤ most
small_enough weight most u is = by (nat_le (4 * weight) most) refl is where
  by : (b : Bool) → nat_le (4 * weight) most ≡ b → sized weight most ≡ Ok u → 4 * weight ≤ most
  by true few is = leb-true (4 * weight) most few
  by false few is = absurd (let bad : (if false then Ok tt else Err (OverSize (4 * weight))) ≡ Ok u = rw few at is in
      let worse : Err (OverSize (4 * weight)) ≡ Ok u = bad in cc)

-- what is within the limits
pub record Limited (m : Model) (d : Derivation) (most : ℕ) (out : StmtOut) (after : Context) (answer : Checked) : Type 0 where
  pub most_steps : Poly
  pub slots : slots_of m out after ≤ 400
  pub bound_is : bound w d out.cmds out.trips ≡ Ok most_steps
  pub light : 4 * weight_of out ≤ most
  pub is : checked m d out after most_steps ≡ answer

within_limits : (m : Model) (d : Derivation) (most : ℕ) (out : StmtOut) (after : Context) (answer : Checked)
    → limited m d most out after ≡ Ok answer → Limited m d most out after answer
within_limits m d most out after answer is =
    let one = both_answered (few_slots (slots_of m out after)) _ answer is in
    let two = both_answered (bound w d out.cmds out.trips) _ answer one.1.1 in
    let three = both_answered (sized (weight_of out) most) _ answer two.1.1 in
    let last : Ok (checked m d out after two.0) ≡ Ok answer = three.1.1 in
    record {
      most_steps = two.0;
      slots = few_enough (slots_of m out after) one.0 one.1.0;
      bound_is = two.1.0;
      light = small_enough (weight_of out) most three.0 three.1.0;
      is = (let same_one : checked m d out after two.0 ≡ answer = cc in same_one);
    }

-- What is promised of the answer.
pub record Fulfils (m : Model) (answer : Checked) : Type 0 where
  pub computes : Computes w m answer.command
  pub measured : IsMeasured w m answer.command
  pub small : IsSmall answer.command

-- the nodes of commands one after another
pub whole_size : (out : StmtOut) → cmd_size (command_of out) ≡ 1 + sum (map cmd_size out.cmds)
whole_size out = fold_seq ℕ cmd_size_step out.cmds

body_formed : (m : Model) → model_formed m ≡ true → all_true (map stmt_formed m.body) ≡ true
body_formed m formed =
    let one = and_parts (is_name m.name) _ formed in
    let two = and_parts (all_true (map param_formed m.params)) _ one.1 in
    let three = and_parts (facts_formed m.requires_) _ two.1 in
    (and_parts (all_true (map stmt_formed m.body)) (all_true (map ret_formed m.rets)) three.1).0

module _ (m : Model) (well : types.Well m) (d : Derivation) (out : StmtOut) (after : Context) (most_steps : Poly)
    (bound_is : bound w d out.cmds out.trips ≡ Ok most_steps) where
  abbrev command : Cmd
  command = command_of out

  pub small_right : (most nodes : ℕ) → most ≤ 1000000 → slots_of m out after ≤ 400 → 4 * weight_of out ≤ most → nodes ≤ 20000
      → sum (map cmd_size out.cmds) ≤ 20 * nodes → length (joined (map cmd_tables out.cmds)) < 20000
      → sum (map length (joined (map cmd_tables out.cmds))) ≤ 65536 → IsSmall (measured m out after most_steps)
  small_right most nodes most_few slots light few size tables bytes =
      let size_is : cmd_size command ≡ 1 + sum (map cmd_size out.cmds) = fold_seq ℕ cmd_size_step out.cmds in
      let tables_are : cmd_tables command ≡ joined (map cmd_tables out.cmds) = fold_seq (List (List ℕ)) cmd_tables_step out.cmds
      in
      record {
        size = omega (arith, size_is, size, few);
        tables = rw tables_are tables;
        table_bytes = rw tables_are bytes;
        few_args = few_registers m well;
        few_rets = few_rets m well after;
        slots = slots;
        light = omega (arith, light, most_few);
      }

  -- each trip form is over the entry symbols
  abbrev pub OverEntries : Type 0
  OverEntries = are_entries (length (entry_names m.params)) out.trips ≡ true

  above : OverEntries → (call : Call) → BoundFrom 0 (length (entry_names m.params)) most_steps
      × ((cost_all w call out.cmds out.trips).0 + w.entry ≤ at call.entries most_steps)
  above entries call = bound_above w call (length (entry_names m.params)) (few_entries m well) d out.cmds out.trips most_steps
      entries bound_is

  pub measured_right : OverEntries → IsMeasured w m (measured m out after most_steps)
  measured_right entries = record {
    args = refl;
    weight = refl;
    locals = refl;
    depth = refl;
    symbols = (above entries (call_of m [] (λ n. n))).0;
  }

  module _ (formed : model_formed m ≡ true)
      (done : IsConsistent (start m)
      → StmtDone m.params (parts_of m well).scope (parts_of m well).end_.1 (model.in_turn (map model.run m.body)) (start m) out
      after) (entries : OverEntries)
      (named : are_named m.params m.rets after ≡ true) (kept : are_kept m.params m.rets after ≡ true) (starts_fit : StartFits)
    where
      module _ (args : List Arg) (meets : model.Meets m args) (pointers : ℕ → ℕ) (mem : Bytes) (vars : Vars)
          (starts : Starts m command args pointers mem vars) where
        abbrev call : Call
        call = call_of m args pointers

        abbrev env : Env
        env = model.start m.params args []

        fits : FitsBy call (numbers_of call) (start m) env mem (local_at vars)
        fits = (starts_fit m well args meets pointers mem (local_at vars) starts.arguments starts.apart).0

        sem : StmtDone m.params (parts_of m well).scope (parts_of m well).end_.1 (model.in_turn (map model.run m.body)) (start m)
            out after
        sem = done fits.consistent

        room : all_below (length vars) out.cmds ≡ true
        room =
            sym (fold_seq Bool (sets_below_step (length vars)) out.cmds)
            ∙ has_room (length vars) command [] starts.room

        -- each parameter's name has a value of its type
        values : (lengths : Name → ℕ) × IsTyped lengths (parts_of m well).scope env
        values = starts_typed m args (parts_of m well).scope formed (parts_of m well).declared meets

        ran : StmtRan w call (model.in_turn (map model.run m.body)) (start m) out after (numbers_of call) env mem vars
        ran = sem.runs values.0 w call (numbers_of call) env mem vars values.1 fits room

        run : Runs w (One command) mem vars ran.left_mem ran.left ran.ticks
        run =
            subst (λ (p : Cmd). Runs w (One p) mem vars ran.left_mem ran.left ran.ticks) (cmd.rolls-Seq out.cmds)
            (seqs out.cmds ran.ticks mem ran.left_mem vars ran.left ran.runs)

        in_time : ran.ticks + w.entry ≤ at (entry_numbers m.params args) most_steps
        in_time = (let time = ran.time in let most = (above entries call).1 in omega (arith, time, most))

        ends : Ends w m (measured m out after most_steps) args pointers mem vars
        ends =
            let fuel = fuel_of_run w command mem vars ran.left_mem ran.left ran.ticks run in
            record {
              fuel = fuel.0;
              ticks = ran.ticks;
              after_mem = ran.left_mem;
              after_vars = ran.left;
              runs = fuel.1 fuel.0 (omega arith);
              in_time = in_time;
              has_results = results_hold m.params (parts_of m well).scope (parts_of m well).end_.1 call ran.others after
                  (model.end_of m args) ran.left_mem (local_at ran.left)
                  ran.fits sem.scoped 0 [] m.rets (parts_of m well).results named;
              others = others_same m.params m.rets call (numbers_of call) ran.others (start m) after env (model.end_of m args) mem
                  ran.left_mem (local_at vars) (local_at ran.left)
                  fits ran.fits sem.moves ran.unwritten kept ran.outside;
            }

      pub computes_right : Computes w m (measured m out after most_steps)
      computes_right = λ args meets pointers mem vars starts. ends args meets pointers mem vars starts

-- Few commands.

commands_small : CommandsAreSmall → (turn : Turn) → Laws turn → (m : Model) → Spellable m → (d : Derivation)
    → (out : StmtOut) (after : Context) → Derived turn m d out after
    → AreSmall d.body m.body (start m).entries out
commands_small small turn laws m spelled d out after is =
    yielded (λ o a. AreSmall d.body m.body (start m).entries o) ((block_judged turn d.body).row 0 (size d) 4 m.body (start m))
    (out, after)
    (small turn laws d.body 0 (size d) 4 m.body (start m) spelled) is.row

pub few_commands : CommandsAreSmall → (turn : Turn) → Laws turn → (m : Model) → Spellable m → (d : Derivation) → IsWhole d
    → (begin : Context) → begin ≡ start m
    → (out : StmtOut) (after : Context) → instance turn m d begin ≡ Ok (out, after) → sum (map cmd_size out.cmds) ≤ 400000
few_commands small turn laws m spelled d whole begin begun out after is =
    let here : instance turn m d (start m)
    ≡ Ok (out, after) = subst (λ (c : Context). instance turn m d c ≡ Ok (out, after)) begun is in
    let sizes = (commands_small small turn laws m spelled d out after (derived turn m d out after here)).size in
    let nodes = whole.small in
    omega (arith, nodes, sizes)

-- The laws of the crates below.
pub record Below : Type 0 where
  pub sound : BlocksAreSound
  pub small : CommandsAreSmall
  pub starts_fit : StartFits
  pub start_scoped : StartIsScoped

module _ (below : Below) (turn : Turn) (laws : Laws turn) (m : Model) (well : types.Well m) (within : limits.Within m)
    (spelled : Spellable m) (formed : model_formed m ≡ true) (d : Derivation)
    (whole : IsWhole d) where
  -- what the nodes give does what the statements do
  done_right : (out : StmtOut) (after : Context) → Derived turn m d out after → IsConsistent (start m)
      → StmtDone m.params (parts_of m well).scope (parts_of m well).end_.1 (model.in_turn (map model.run m.body)) (start m) out
      after
  done_right out after is consistent =
      let parts = parts_of m well in
      yielded (StmtDone m.params parts.scope parts.end_.1 (model.in_turn (map model.run m.body)) (start m))
      ((block_judged turn d.body).row 0 (size d) 4 m.body (start m)) (out, after)
      (below.sound turn laws d.body 0 (size d) 4 m.body m.params parts.scope 0 parts.end_ (start m) consistent
      (below.start_scoped m well parts.scope parts.declared)
      (body_formed m formed) spelled parts.typed)
      is.row

  pub fulfils : (most : ℕ) (answer : Checked) → most ≤ 1000000 → replayed turn m d most ≡ Ok answer → Fulfils m answer
  fulfils most answer few is =
      let both = both_answered (instance turn m d (start m)) _ answer is in
      let out : StmtOut = both.0.0 in
      let after : Context = both.0.1 in
      let inst : Derived turn m d out after = derived turn m d out after both.1.0 in
      let limits = within_limits m d most out after answer both.1.1 in
      let size = commands_small below.small turn laws m spelled d out after inst in
      let begun = below.start_scoped m well (parts_of m well).scope (parts_of m well).declared in
      let entries : are_entries (length (entry_names m.params)) out.trips
      ≡ true = subst (λ (n : ℕ). are_entries n out.trips ≡ true) begun.entries size.entries in
      subst (Fulfils m) limits.is
      record {
        computes = computes_right m well d out after limits.most_steps limits.bound_is formed (done_right out after inst) entries
            inst.named inst.kept below.starts_fit;
        measured = measured_right m well d out after limits.most_steps limits.bound_is entries;
        small = small_right m well d out after limits.most_steps limits.bound_is most (block_size d.body) few limits.slots
            limits.light whole.small size.size
            (omega (arith, size.tables, whole.small)) (omega (arith, size.table_bytes, within.small_tables));
      }

-- what is answered is so of the model that was checked
pub answer_fulfils : (P : Model → Checked → Type 0) → ((m : Model) (answer : Checked) → Fulfils m answer → P m answer)
    → Below → (turn : Turn) → Laws turn → (inner m : Model) → m ≡ inner → types.Well m → limits.Within m → Spellable m
    → model_formed m ≡ true
    → (d : Derivation) → IsWhole d → (most : ℕ) → most ≤ 1000000 → (result : Result Checked Fail)
    → Answers result (replayed turn m d most) → IfOk result (P inner)
answer_fulfils P part below turn laws inner m is well within spelled formed d whole most few result answered =
    subst (λ (z : Model). IfOk result (P z)) is
    (if_answered (P m) result (replayed turn m d most) answered
    (λ answer came. part m answer (fulfils below turn laws m well within spelled formed d whole most answer few came)))
