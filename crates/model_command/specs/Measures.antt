-- What the numbers beside a command are, and the limits that the passes below ask for.
use Rattle.std.specs.Prelude.{◌≡◌, ◌+◌, ◌^◌, ◌<◌, ◌≤◌, length, map, sum}
use Rattle.cost_poly.specs.Polynomial.{BoundFrom}
use Rattle.model_syntax.specs.declared.program.Model.{Model}
use Rattle.model_syntax.specs.Entries.{entry_names}
use Rattle.sym_heap.specs.Start.{registers}
use Rattle.bed_syntax.specs.Shape.{cmd_size, cmd_depth, locals_of}
use Rattle.bed_syntax.specs.Tables.{cmd_tables}
use Rattle.bed_syntax.specs.Weight.{cmd_weight}
use Rattle.bed_syntax.specs.declared.weights.Weights.{Weights}
use Rattle.model_command.specs.declared.command.ModelCommand.{ModelCommand}

-- the numbers beside the command are its own
pub record IsMeasured (w : Weights) (m : Model) (c : ModelCommand) : Type 0 where
  pub args : c.args ≡ registers m.params
  pub weight : c.weight ≡ cmd_weight w c.command + w.entry
  pub locals : c.locals ≡ length (locals_of c.command c.args c.rets)
  pub depth : c.depth ≡ cmd_depth c.command
  -- the bound is over the entry symbols
  pub symbols : BoundFrom 0 (length (entry_names m.params)) c.bound

-- the command passes no limit
pub record IsSmall (c : ModelCommand) : Type 0 where
  pub size : cmd_size c.command < 2 ^ 30
  pub tables : length (cmd_tables c.command) < 20_000
  pub table_bytes : sum (map length (cmd_tables c.command)) ≤ 65_536
  pub few_args : c.args ≤ 8
  pub few_rets : length c.rets ≤ 2
  pub slots : c.locals + c.depth ≤ 400
  pub light : c.weight ≤ 250_000
