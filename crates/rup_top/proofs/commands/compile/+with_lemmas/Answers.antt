use Rattle.std.proofs.Common.{rules, ◌≡◌, refl, ◌+◌, [], ◌∷◌, ◌++◌, map, string_bytes, Global}
use Rattle.std.proofs.lemmas.Result.{err_from_is_err_and}
use Rattle.rup_top.specs.commands.Compile.{lemmas_script}
use Rattle.rup_top.proofs.Steps.{fetch_breaks, gives_with, then_next}
use Rattle.rup_top.proofs.commands.compile.+with_lemmas.Goals as goal

pub with_next-returns-in_err-bytes-clause-follows : goal.with_next-returns-in_err-bytes-clause-follows
with_next-returns-in_err-bytes-clause-follows g t c =
    let x = c.args in
    let p = err_from_is_err_and c.from_residual.result c.from_residual.ensures.1 in
    rw (p.1, p.2)
    (fetch_breaks _ _ _ (λ bytes. lemmas_script x.model.now (x.done.now ++ bytes ∷ []) (x.place + 1)
    (map (string_bytes {Z = Global}) x.rest.now)) _ c.in_err-bytes.field-0.0 c.in_err-bytes.ensures.err)

pub with_next-returns-clause-follows : goal.with_next-returns-clause-follows
with_next-returns-clause-follows g t c =
    let x = c.args in
    let follows = c.with_lemmas.ensures.follows in
    let all : c.push.new.self ≡ x.done.now ++ c.in_ok-bytes.bytes ∷ [] = search rules in
    gives_with _ _ c.with_lemmas.result
    (λ a is. then_next _ _ _ (λ bytes. lemmas_script x.model.now (x.done.now ++ bytes ∷ []) (x.place + 1)
    (map (string_bytes {Z = Global}) x.rest.now)) _ _ _ _ _ _ _ _ a
    c.in_ok-bytes.bytes c.in_ok-bytes.bytes refl c.fetch_word.ensures.held c.in_ok-bytes.ensures.ok is)
    (rw (all) at follows)
