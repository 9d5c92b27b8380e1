use Rattle.std.proofs.Common.{◌∙◌, sym, ap}
use Rattle.rv_memory.specs.Contents.{holds}
use Rattle.rv_memory.proofs.Found.{found_there}
use Rattle.rv_memory.proofs.page.is_at.Goals as goal

pub returns-then-place-pages : goal.returns-then-place-pages
returns-then-place-pages c = λ here.
    found_there c.args.at c.args.pages.now c.args.place c.index-pages-place.result c.requires c.if-place-pages.true
    (ap (holds c.args.at) (sym c.index-pages-place.is) ∙ sym c.holds.ensures ∙ here)
