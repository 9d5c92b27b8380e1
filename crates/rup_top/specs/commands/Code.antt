-- `code M D`: the text of the derived command and a line feed, or the refusal of `replay` at its greatest size; and what it
-- promises: that text exactly where `replay` accepts.
use Rattle.std.specs.Prelude.{◌≡◌, ℕ, List, [], Some, ◌⊎◌}
use Rattle.std.specs.Io.KnownBytes.{Appends}
use Rattle.model_syntax.specs.declared.program.Model.{Model}
use Rattle.bed_syntax.specs.Spelling.{cmd_text}
use Rattle.replayer.specs.declared.checked.Checked.{Checked}
use Rattle.rup_top.specs.declared.answer.Answer.{Answer}
use Rattle.rup_top.specs.Answer.{line}
use Rattle.rup_top.specs.Frame.{Call, IsUndisturbed, Script}
use Rattle.rup_top.specs.Words.{most_size}
use Rattle.rup_top.specs.commands.Derivations as derivations
use Rattle.rup_top.specs.commands.Derivations.{AcceptsFiles}

-- the text of the command that was derived, and no note
pub record Prints (m : Model) (checked : Checked) (a : Answer) : Type 0 where
  pub text_is : a.out ≡ line (cmd_text checked.command.command)
  pub no_note : a.note ≡ []

abbrev pub code_script : List ℕ → List ℕ → Script
code_script model tree = derivations.script Prints most_size model tree

-- `out` grew by the text of the command of the files' derivation
pub record WritesCode (model tree : List ℕ) (call : Call) : Type 0 where
  pub accepts : AcceptsFiles most_size call.files.held model tree
  pub out_takes : Appends call.out.taken call.out.taken_now (line (cmd_text accepts.checked.command.command))

-- status 0 comes with the text; files that are accepted come to status 0, or memory runs out
pub record CodeKeeps (model tree : List ℕ) (call : Call) : Type 0 where
  pub writes_only : call.status ≡ 0 → WritesCode model tree call
  pub writes_all : (held : List (List ℕ × List ℕ)) → call.files.held ≡ Some held
      → AcceptsFiles most_size call.files.held model tree → IsUndisturbed call
      → (call.status ≡ 0) ⊎ (call.status ≡ 5)
