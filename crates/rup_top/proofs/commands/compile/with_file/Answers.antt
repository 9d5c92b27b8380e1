use Rattle.std.proofs.Common.{rules, ◌≡◌, Ok}
use Rattle.lemma_files.specs.Reading.{read_lemmas}
use Rattle.derive_search.proofs.laws.Files.{lemmas_have_steps, more_have_steps}
use Rattle.rup_top.proofs.commands.compile.with_file.Goals as goal

pub returns-clause-steps : goal.returns-clause-steps
returns-clause-steps c =
    let x = c.args in
    let read : read_lemmas x.word x.bytes.now ≡ Ok c.in_ok-more.more = search rules in
    rw (c.in_ok-all.ensures) (more_have_steps x.done c.in_ok-more.more c.requires.steps
    (lemmas_have_steps x.word x.bytes.now c.in_ok-more.more read))
