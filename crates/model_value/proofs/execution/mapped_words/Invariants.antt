use Rattle.std.proofs.Common.{◌≡◌, ◌++◌, map, drop}
use Rattle.model_syntax.specs.Value as spec
use Rattle.model_value.proofs.execution.mapped_words.Given as goal

abbrev pub invariant-loop-word : goal.invariant-loop-word
invariant-loop-word l = l.mapped ++ map (spec.element_of l.x l.e l.env) (drop l.word-index l.words)
    ≡ map (spec.element_of l.x l.e l.env) l.words
