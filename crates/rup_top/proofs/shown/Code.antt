-- What `code` must show: its answers are its own, and it writes the text of the derived command exactly where it accepts.
use Rattle.std.proofs.Common.{◌≡◌, ℕ, List, [], inl, refl, sym, subst}
use Rattle.std.specs.Io.KnownBytes.{Appends}
use Rattle.bed_syntax.specs.Spelling.{cmd_text}
use Rattle.model_syntax.specs.declared.program.Model.{Model}
use Rattle.replayer.specs.declared.checked.Checked.{Checked}
use Rattle.rup_top.specs.declared.answer.Answer.{Answer}
use Rattle.rup_top.specs.Answer.{done, line}
use Rattle.rup_top.specs.Frame.{Call, Ends}
use Rattle.rup_top.specs.Words.{most_size}
use Rattle.rup_top.specs.commands.Derivations.{Accepts, Judged}
use Rattle.rup_top.specs.commands.Code.{Prints, WritesCode, CodeKeeps, code_script}
use Rattle.rup_top.proofs.Ends.{Shows}
use Rattle.rup_top.proofs.shown.Derivations.{proper, came, all_done}

pub prints : (model tree : List ℕ) (m : Model) (checked : Checked) (out note : List ℕ) (a : Answer)
    → Accepts most_size model tree m checked
    → out ≡ line (cmd_text checked.command.command) → note ≡ [] → a ≡ done out note → Judged Prints most_size model tree a
prints model tree m checked out note a accepts text_is no_note answer_is =
    let P : Answer → Type 0 = λ x. Judged Prints most_size model tree x in
    subst P (sym answer_is) (inl (record {
      m = m;
      checked = checked;
      accepts = accepts;
      status_is = refl;
      answers = record { text_is = text_is; no_note = no_note };
    }))

code_written : (model tree : List ℕ) (call : Call) → Ends (code_script model tree) call → call.status ≡ 0
    → WritesCode model tree call
code_written model tree call ends zero =
    let p = came Prints most_size model tree call ends zero in
    let P : List ℕ → Type 0 = λ out. Appends call.out.taken call.out.taken_now out in
    record { accepts = p.files; out_takes = subst P p.answers.text_is p.out_takes }

pub code_shows : (model tree : List ℕ) → Shows (code_script model tree) (λ call. CodeKeeps model tree call)
code_shows model tree =
    record {
      proper = proper Prints most_size model tree;
      keeps = λ call ends. record {
        writes_only = code_written model tree call ends;
        writes_all = all_done Prints most_size model tree call ends;
      };
    }
