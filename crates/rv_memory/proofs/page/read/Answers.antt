use Rattle.std.proofs.Common.{◌∙◌, sym}
use Rattle.rv_memory.proofs.Found.{found_low, found_high, read_none, read_at}
use Rattle.rv_memory.proofs.page.read.Goals as goal

pub returns-in_err-i : goal.returns-in_err-i
returns-in_err-i c = c.from_residual.ensures ∙ sym (read_none c.args.at c.args.pages.now (sym c.find.ensures ∙ c.in_err-i.was))

pub overflow_sub-at : goal.overflow_sub-at
overflow_sub-at c =
    rw c.index-pages-i.is (found_low c.args.at c.args.pages.now c.in_ok-i.i c.index-pages-i.result
    (sym c.find.ensures ∙ c.in_ok-i.was))

pub index-requires : goal.index-requires
index-requires c =
    rw c.index-pages-i.is (found_high c.args.at c.args.pages.now c.in_ok-i.i c.index-pages-i.result
    (sym c.find.ensures ∙ c.in_ok-i.was))

pub returns : goal.returns
returns c =
    sym (read_at c.args.at c.args.pages.now c.in_ok-i.i c.index-pages-i.result c.index.result.now
    (sym c.find.ensures ∙ c.in_ok-i.was) c.index-pages-i.is c.index.ensures)
