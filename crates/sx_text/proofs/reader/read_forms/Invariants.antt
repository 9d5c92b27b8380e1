use Rattle.std.proofs.Common.{length, ◌-◌, ◌≡◌, ◌≤◌, drop, reverse}
use Rattle.sx_text.specs.Forms.{rest_of, fault}
use Rattle.sx_text.proofs.Plugged.{plugged}
use Rattle.sx_text.proofs.reader.read_forms.Given as goal

abbrev pub invariant-loop-at : goal.invariant-loop-at
invariant-loop-at l = record {
  within : l.at ≤ length l.bytes;
  faults : fault 0 (length l.frames.items) l.at (drop l.at l.bytes) ≡ fault 0 0 0 l.bytes;
  means : plugged (reverse l.frames.items) l.forms (rest_of 0 l.at (drop l.at l.bytes)) ≡ rest_of 0 0 l.bytes;
}

abbrev pub decreases-loop-at : goal.decreases-loop-at
decreases-loop-at l = length l.bytes - l.at
