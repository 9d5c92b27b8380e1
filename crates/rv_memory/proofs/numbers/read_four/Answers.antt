use Rattle.std.proofs.Common.{◌-◌, ◌<◌, ◌∙◌, sym, ap, arith}
use Rattle.std.specs.Vec.{vec_len}
use Rattle.rv_memory.specs.Numbers.{number_in}
use Rattle.rv_memory.proofs.Found.{found_low, found_high, number_none, number_found}
use Rattle.rv_memory.proofs.numbers.read_four.Goals as goal

pub returns-in_err-i : goal.returns-in_err-i
returns-in_err-i c =
    c.from_residual.ensures ∙ sym (number_none 3 c.args.at c.args.pages.now (sym c.find.ensures ∙ c.in_err-i.was))

pub overflow_sub-k : goal.overflow_sub-k
overflow_sub-k c =
    rw c.index-pages-i.is (found_low c.args.at c.args.pages.now c.in_ok-i.i c.index-pages-i.result
    (sym c.find.ensures ∙ c.in_ok-i.was))

pub overflow_sub-len : goal.overflow_sub-len
overflow_sub-len c =
    let high = found_high c.args.at c.args.pages.now c.in_ok-i.i c.index-pages-i.result (sym c.find.ensures ∙ c.in_ok-i.was) in
    let there : c.args.at - c.index-pages-i.result.start < vec_len c.index-pages-i.result.bytes = rw c.index-pages-i.is high in
    omega (arith, there, c.len.ensures)

pub returns : goal.returns
returns c =
    let room = c.if-len-k-lt4.false in
    c.four_in.ensures ∙ ap (λ bytes. number_in bytes 4 (c.args.at - c.index-pages-i.result.start)) c.deref.ensures.value
    ∙ sym (number_found 4 c.args.at c.args.pages.now c.in_ok-i.i c.index-pages-i.result c.requires.apart
    (sym c.find.ensures ∙ c.in_ok-i.was) c.index-pages-i.is
    (omega (arith, room, c.len.ensures, c.index-pages-i.result.bytes.ok.0)))
