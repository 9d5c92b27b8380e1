use Rattle.std.proofs.Common.{◌≡◌, ◌≤◌, refl, arith, map, length}
use Rattle.bed_syntax.specs.declared.weights.TheConstants as weights
use Rattle.rv_code.specs.Word.{word_of}
use Rattle.pipeline.specs.Serves.{Serves}
use Rattle.pipeline.proofs.Served.{serves}
use Rattle.pipeline.proofs.Answered.{if_ok}
use Rattle.pipeline.proofs.passes.machine_code.Goals as goal

pub returns-clause-serves : goal.returns-clause-serves
returns-clause-serves c =
    if_ok c.emit.result _ (λ e. Serves c.args.m.now.inner c.args.c.now (map word_of e.code) e.tables e.stack)
    (λ e runs. serves c.args.m.now.inner c.args.c.now c.in_ok-flat.flat (map word_of e.code) e.tables e.stack
    c.requires.computes c.requires.measured.args (rw c.as_slice.ensures at c.in_ok-flat.ensures.keeps)
    c.in_ok-flat.ensures.arguments runs)
    c.emit.ensures.runs

pub returns-clause-counted : goal.returns-clause-counted
returns-clause-counted c =
    let same = c.in_ok-flat.ensures.weight weights.Weights.LARGE refl in
    let entry : weights.Weights.LARGE.entry ≡ 48 = refl in
    if_ok c.emit.result _ (λ e. length e.code ≤ c.args.c.now.weight)
    (λ e counted. omega (arith, counted, same, entry, c.requires.measured.weight))
    c.emit.ensures.counted
