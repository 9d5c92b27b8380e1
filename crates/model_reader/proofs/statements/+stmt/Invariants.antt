use Rattle.std.proofs.Common.{◌≡◌, suc, map, drop, ◌++◌, Ok}
use Rattle.model_reader.specs.Parts.{each, ◌>>=◌}
use Rattle.model_reader.specs.Statements.{stmt}
use Rattle.model_reader.specs.Reading.{reading}
use Rattle.model_reader.specs.Sizes.{size, sizes}
use Rattle.model_reader.proofs.statements.+stmt.Given as goal

abbrev pub invariant-each_stmt-loop-form : goal.invariant-each_stmt-loop-form
invariant-each_stmt-loop-form l =
    (each stmt (map reading (drop l.form-index l.forms)) >>= λ more. Ok (l.stmts ++ more)) ≡ each stmt (map reading l.forms)

abbrev pub decreases-read_stmt : goal.decreases-read_stmt
decreases-read_stmt l = size l.form.now

abbrev pub decreases-read_block : goal.decreases-read_block
decreases-read_block l = size l.form.now

abbrev pub decreases-each_stmt : goal.decreases-each_stmt
decreases-each_stmt l = suc (sizes l.forms.now)

abbrev pub decreases-block_at : goal.decreases-block_at
decreases-block_at l = suc (sizes l.args.now)

abbrev pub decreases-if_of : goal.decreases-if_of
decreases-if_of l = suc (suc (sizes l.args.now))

abbrev pub decreases-for_of : goal.decreases-for_of
decreases-for_of l = suc (suc (sizes l.args.now))
