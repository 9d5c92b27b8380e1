use Rattle.std.proofs.Common.{refl, inl}
use Rattle.std.proofs.lemmas.Result.{err_from_is_err_and}
use Rattle.image_layout.specs.Reading.{read}
use Rattle.rup_top.specs.Frame.{comes_to, exactly}
use Rattle.rup_top.specs.commands.Show.{show_answer}
use Rattle.rup_top.proofs.Steps.{fetch_breaks, gives_with, then_next}
use Rattle.rup_top.proofs.commands.show.show.Goals as goal

pub returns-in_err-bytes-clause-follows : goal.returns-in_err-bytes-clause-follows
returns-in_err-bytes-clause-follows g c =
    let p = err_from_is_err_and c.from_residual.result c.from_residual.ensures.1 in
    rw (p.1, p.2) (fetch_breaks _ _ _ (λ bytes. comes_to (λ a. exactly (show_answer (read bytes)) a)) _ c.in_err-bytes.field-0.0
    c.in_err-bytes.ensures.err)

pub returns-clause-follows : goal.returns-clause-follows
returns-clause-follows g c =
    gives_with _ _ c.show_bytes.result
    (λ a is. then_next _ _ _ (λ bytes. comes_to (λ b. exactly (show_answer (read bytes)) b)) _ _ _ _ _ _ _ _ a c.in_ok-bytes.bytes
    c.as_slice.result.now c.as_slice.ensures c.fetch_word.ensures.held c.in_ok-bytes.ensures.ok
    (inl (record { comes = is; still = record { same_count = refl; same_last = refl } })))
    c.show_bytes.ensures
