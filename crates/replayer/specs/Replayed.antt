-- What a derivation of a model comes to: the command with its measures, or the first refusal. First each node has to be an
-- instance of its rule and the conditions of the end have to hold; then come the limits on locals, on the bound and on the size
-- of the code.
use Rattle.std.specs.Prelude.{ℕ, ◌+◌, ◌*◌, nat_le, Bool, length, Result, Ok, Err, if◌then◌else◌}
use Rattle.rup_base.specs.Answers.{and_then}
use Rattle.rup_base.specs.declared.refusal.Refusal.{Refusal}
use Rattle.rup_base.specs.declared.refusal.Refusal.TheVariants.{OverSlots, OverSize}
use Rattle.model_syntax.specs.declared.program.Model.{Model}
use Rattle.model_syntax.specs.Names.{same}
use Rattle.sym_heap.specs.Context.{Context}
use Rattle.sym_heap.specs.Start.{start, registers}
use Rattle.equations.specs.Book.{Turn}
use Rattle.deriv_tree.specs.Measure.{size}
use Rattle.deriv_tree.specs.declared.tree.Derivation.{Derivation}
use Rattle.bed_syntax.specs.Shape.{cmd_depth, locals_of}
use Rattle.bed_syntax.specs.Weight.{cmd_weight}
use Rattle.bed_syntax.specs.declared.weights.TheConstants as weights
use Rattle.bed_syntax.specs.declared.command.Cmd.{Cmd}
use Rattle.bed_syntax.specs.declared.command.Cmd.TheVariants as cmd
use Rattle.expr_rules.specs.Words.{Rule, ◌>>=◌, need, give}
use Rattle.stmt_rules.specs.declared.output.StmtOut.{StmtOut}
use Rattle.stmt_rules.specs.Row.{block_judged}
use Rattle.model_command.specs.declared.command.ModelCommand.{ModelCommand}
use Rattle.replayer.specs.declared.checked.Checked.{Checked}
use Rattle.replayer.specs.Bounds.{Poly, bound}
use Rattle.replayer.specs.Ends.{are_named, are_kept, rets_of}

-- Instances.

-- a condition on the context
abbrev pub ask : (Context → Bool) → ℕ → ℕ → Rule (Unit {0})
ask test at cond c = need (test c) at cond c

-- The derivation is of the model by its name, which comes first; each node is in its row, and each statement has one (4). At
-- the end, whose number is the number of nodes, returned arrays have their names (5) and no other array was written (6).
abbrev pub instance : Turn → Model → Derivation → Rule StmtOut
instance turn m d = do
  _ ← need (same d.model m.name) 0 0
  out ← (block_judged turn d.body).row 0 (size d) 4 m.body
  _ ← ask (are_named m.params m.rets) (size d) 5
  _ ← ask (are_kept m.params m.rets) (size d) 6
  give out

-- The command.

abbrev pub command_of : StmtOut → Cmd
command_of out = cmd.Seq out.cmds

-- the weights of the command's nodes, and the entry once
abbrev pub weight_of : StmtOut → ℕ
weight_of out = cmd_weight weights.Weights.LARGE (command_of out) + weights.Weights.LARGE.entry

-- the command with what is measured of it
abbrev pub measured : Model → StmtOut → Context → Poly → ModelCommand
measured m out after most_steps = record {
  command = command_of out;
  args = registers m.params;
  rets = rets_of after m.rets;
  bound = most_steps;
  weight = weight_of out;
  locals = length (locals_of (command_of out) (registers m.params) (rets_of after m.rets));
  depth = cmd_depth (command_of out);
}

-- Limits.

-- the greatest number of locals and depth
abbrev pub most_slots : ℕ
most_slots = 400

abbrev pub few_slots : ℕ → Result (Unit {0}) Refusal
few_slots n = if nat_le n most_slots then Ok tt else Err (OverSlots n)

-- an instruction has four bytes, and there are at most as many as the weight
abbrev pub sized : ℕ → ℕ → Result (Unit {0}) Refusal
sized weight most = if nat_le (4 * weight) most then Ok tt else Err (OverSize (4 * weight))

abbrev pub slots_of : Model → StmtOut → Context → ℕ
slots_of m out after = length (locals_of (command_of out) (registers m.params) (rets_of after m.rets))
    + cmd_depth (command_of out)

abbrev pub checked : Model → Derivation → StmtOut → Context → Poly → Checked
checked m d out after most_steps = record { command = measured m out after most_steps; nodes = size d }

-- what the nodes give, within the limits
abbrev pub limited : Model → Derivation → ℕ → StmtOut → Context → Result Checked Refusal
limited m d most out after =
    and_then (few_slots (slots_of m out after)) (λ few.
    and_then (bound weights.Weights.LARGE d out.cmds out.trips) (λ most_steps.
    and_then (sized (weight_of out) most) (λ small. Ok (checked m d out after most_steps))))

-- the whole check, with the most bytes of code
abbrev pub replayed : Turn → Model → Derivation → ℕ → Result Checked Refusal
replayed turn m d most = and_then (instance turn m d (start m)) (λ both. limited m d most both.0 both.1)
