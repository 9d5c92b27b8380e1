use Rattle.std.proofs.Common.{◌-◌, map, slice_set, ap, ◌∙◌}
use Rattle.rv_code.specs.Word.{word_of}
use Rattle.rv_emit.specs.Code as spec
use Rattle.rv_emit.proofs.Emitting.{map-slice_set}
use Rattle.rv_emit.proofs.statements.turn_back.Goals as goal

pub returns-clause-words : goal.returns-clause-words
returns-clause-words c =
    map-slice_set c.args.code.now.items c.args.last c.jump_back.result
    ∙ ap (λ w. slice_set (map word_of c.args.code.now.items) c.args.last w)
    (c.jump_back.ensures ∙ ap (λ n. word_of (spec.jump_back (n - c.args.last - 1))) (c.len.ensures ∙ c.args.code.now.ok.0))
