use Rattle.std.proofs.Common.{rules, ◌≡◌, sym, [], Ok}
use Rattle.rup_base.specs.Answers.{Answers}
use Rattle.derive_search.specs.Derive.{derived}
use Rattle.equations.specs.Equations.{turn}
use Rattle.rup_top.specs.Inputs.{typed_model}
use Rattle.rup_top.specs.commands.Compile.{lemmas_of}
use Rattle.rup_top.proofs.commands.compile.searched.Goals as goal

pub returns-clause-found : goal.returns-clause-found
returns-clause-found c =
    let x = c.args in
    let model : typed_model x.model.now ≡ Ok c.in_ok-typed.typed.inner = search rules in
    let lemmas : lemmas_of [] 2 x.files.now ≡ Ok c.in_ok-lemmas.lemmas = search rules in
    let same : c.as_slice.result.now ≡ c.in_ok-lemmas.lemmas = search rules in
    let found = c.found.ensures.found in
    rw (model, lemmas) (rw (same) at found)
