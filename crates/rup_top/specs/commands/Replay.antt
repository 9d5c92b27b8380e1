-- `replay M D [size=N]`: an image and a note, or the first refusal in the stated order; and what it promises: an image exactly
-- where it accepts.
use Rattle.std.specs.Prelude.{◌≡◌, ℕ, List, Some, ◌⊎◌, ◌++◌, codes}
use Rattle.std.specs.Fmt.{decimal}
use Rattle.std.specs.Io.KnownBytes.{Appends}
use Rattle.model_syntax.specs.declared.program.Model.{Model}
use Rattle.model_syntax.specs.Entries.{entry_names}
use Rattle.replayer.specs.declared.checked.Checked.{Checked}
use Rattle.pipeline.specs.Written.{Written}
use Rattle.rup_top.specs.declared.answer.Answer.{Answer}
use Rattle.rup_top.specs.Answer.{line}
use Rattle.rup_top.specs.Bounds.{bound_text}
use Rattle.rup_top.specs.Frame.{Call, IsUndisturbed, Script}
use Rattle.rup_top.specs.commands.Derivations as derivations
use Rattle.rup_top.specs.commands.Derivations.{AcceptsFiles}

-- the numbers of nodes and locals, the depth, the weight, and the bound over the names of its symbols
abbrev pub replay_line : Model → Checked → List ℕ
replay_line m checked =
    line (codes "replay: nodes " ++ decimal checked.nodes ++ codes " locals " ++ decimal checked.command.locals ++ codes " depth "
    ++ decimal checked.command.depth
    ++ codes " weight " ++ decimal checked.command.weight ++ codes " bound "
    ++ bound_text (entry_names m.params) checked.command.bound)

-- an image is written for the model and the command that was derived
pub record Replays (m : Model) (checked : Checked) (a : Answer) : Type 0 where
  pub written : Written m checked.command.command checked.command.bound checked.command.weight a.out
  pub note_is : a.note ≡ replay_line m checked

abbrev pub replay_script : List ℕ → List ℕ → ℕ → Script
replay_script model tree size = derivations.script Replays size model tree

-- `out` grew by an image that is written for the model and the derivation of the files
pub record WritesImage (model tree : List ℕ) (size : ℕ) (call : Call) : Type 0 where
  pub accepts : AcceptsFiles size call.files.held model tree
  pub image : List ℕ
  pub written : Written accepts.m accepts.checked.command.command accepts.checked.command.bound accepts.checked.command.weight
      image
  pub out_takes : Appends call.out.taken call.out.taken_now image

-- status 0 comes with an image; files that are accepted are replayed to status 0, or memory runs out
pub record ReplayKeeps (model tree : List ℕ) (size : ℕ) (call : Call) : Type 0 where
  pub writes_only : call.status ≡ 0 → WritesImage model tree size call
  pub writes_all : (held : List (List ℕ × List ℕ)) → call.files.held ≡ Some held → AcceptsFiles size call.files.held model tree
      → IsUndisturbed call
      → (call.status ≡ 0) ⊎ (call.status ≡ 5)
