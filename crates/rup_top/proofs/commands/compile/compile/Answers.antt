use Rattle.std.proofs.Common.{[], map, string_bytes, Global}
use Rattle.std.proofs.lemmas.Result.{err_from_is_err_and}
use Rattle.rup_top.specs.commands.Compile.{lemmas_script}
use Rattle.rup_top.proofs.Steps.{fetch_breaks, gives_with, then_next}
use Rattle.rup_top.proofs.commands.compile.compile.Goals as goal

pub returns-in_err-bytes-clause-follows : goal.returns-in_err-bytes-clause-follows
returns-in_err-bytes-clause-follows g c =
    let p = err_from_is_err_and c.from_residual.result c.from_residual.ensures.1 in
    rw (p.1, p.2) (fetch_breaks _ _ _ (λ bytes. lemmas_script bytes [] 2 (map (string_bytes {Z = Global}) c.args.words.now)) _
    c.in_err-bytes.field-0.0 c.in_err-bytes.ensures.err)

pub returns-clause-follows : goal.returns-clause-follows
returns-clause-follows g c =
    let follows = c.with_lemmas.ensures.follows in
    gives_with _ _ c.with_lemmas.result
    (λ a is. then_next _ _ _ (λ bytes. lemmas_script bytes [] 2 (map (string_bytes {Z = Global}) c.args.words.now)) _ _ _ _ _ _ _
    _ a c.in_ok-bytes.bytes c.as_slice.result.now c.as_slice.ensures c.fetch_word.ensures.held c.in_ok-bytes.ensures.ok is)
    (rw (c.new-lemma_files.ensures) at follows)
