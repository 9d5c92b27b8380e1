-- What `replay` must show: its answers are its own, and it writes an image exactly where it accepts.
use Rattle.std.proofs.Common.{◌≡◌, ℕ, List, inl, refl, sym, subst}
use Rattle.model_syntax.specs.declared.program.Model.{Model}
use Rattle.pipeline.specs.Written.{Written}
use Rattle.replayer.specs.declared.checked.Checked.{Checked}
use Rattle.rup_top.specs.declared.answer.Answer.{Answer}
use Rattle.rup_top.specs.Answer.{done}
use Rattle.rup_top.specs.Frame.{Call, Ends}
use Rattle.rup_top.specs.commands.Derivations.{Accepts, Judged}
use Rattle.rup_top.specs.commands.Replay.{Replays, WritesImage, ReplayKeeps, replay_line, replay_script}
use Rattle.rup_top.proofs.Ends.{Shows}
use Rattle.rup_top.proofs.shown.Derivations.{proper, came, all_done}

pub replays : (size : ℕ) (model tree : List ℕ) (m : Model) (checked : Checked) (image note : List ℕ) (a : Answer)
    → Accepts size model tree m checked
    → Written m checked.command.command checked.command.bound checked.command.weight image → note ≡ replay_line m checked
    → a ≡ done image note → Judged Replays size model tree a
replays size model tree m checked image note a accepts written note_is answer_is =
    let P : Answer → Type 0 = λ x. Judged Replays size model tree x in
    subst P (sym answer_is) (inl (record {
      m = m;
      checked = checked;
      accepts = accepts;
      status_is = refl;
      answers = record { written = written; note_is = note_is };
    }))

image_written : (model tree : List ℕ) (size : ℕ) (call : Call) → Ends (replay_script model tree size) call → call.status ≡ 0
    → WritesImage model tree size call
image_written model tree size call ends zero =
    let p = came Replays size model tree call ends zero in
    record { accepts = p.files; image = p.answer.out; written = p.answers.written; out_takes = p.out_takes }

pub replay_shows : (model tree : List ℕ) (size : ℕ)
    → Shows (replay_script model tree size) (λ call. ReplayKeeps model tree size call)
replay_shows model tree size =
    record {
      proper = proper Replays size model tree;
      keeps = λ call ends. record {
        writes_only = image_written model tree size call ends;
        writes_all = all_done Replays size model tree call ends;
      };
    }
