use Rattle.std.proofs.Common.{◌≡◌, ◌≢◌, ℕ, IfSome, IfNone, Some, None, Option, sym, ◌∙◌, ap}
use Rattle.rv_code.proofs.laws.Same.{same}
use Rattle.rv_code.specs.Word.{word_of}
use Rattle.rv_code.specs.declared.instruction.Instr.{Instr}
use Rattle.rv_code.proofs.decoding.decode.Goals as goal

only_one : (w : ℕ) (o : Option Instr) → IfSome o (λ i. w ≡ word_of i) → IfNone o ((i : Instr) → w ≢ word_of i) → (i : Instr)
    → w ≡ word_of i → o ≡ Some i
only_one w (Some j) found none i e = ap (λ x. Some x) (same j i (sym found ∙ e))
only_one w None found none i e = absurd (none i e)

pub returns-clause-only : goal.returns-clause-only
returns-clause-only c = only_one c.args.w c.find.result c.find.ensures.found c.find.ensures.none
