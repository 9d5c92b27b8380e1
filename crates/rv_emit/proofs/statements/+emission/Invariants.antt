use Rattle.std.proofs.Common.{◌≡◌, ◌+◌, ◌≤◌, true, drop, length}
use Rattle.bed_syntax.specs.declared.weights.TheConstants as weights
use Rattle.flat_lang.specs.Count.{code_weight}
use Rattle.rv_emit.specs.Code.{block_code}
use Rattle.rv_emit.specs.Emission.{Puts, offset_of}
use Rattle.rv_emit.specs.Fit.{all_fit}
use Rattle.rv_emit.specs.Whole.{place}
use Rattle.rv_emit.proofs.statements.+emission.Given as goal

-- the statements from number i on are there
abbrev pub invariant-block-loop-i : goal.invariant-block-loop-i
invariant-block-loop-i l =
    record {
      words : Puts l.fn.code.items l.code.items
          (block_code (place l.plan) (offset_of l.offsets) (drop l.i l.cs) (length l.fn.code.items));
      counted : length l.code.items ≤ length l.fn.code.items + code_weight weights.Weights.LARGE (drop l.i l.cs);
      fit : all_fit (drop l.i l.cs) ≡ true;
      within : l.i ≤ length l.cs;
      started : l.start ≡ length l.fn.code.items;
    }

abbrev pub decreases-block-loop-i : goal.decreases-block-loop-i
decreases-block-loop-i l = l.i
