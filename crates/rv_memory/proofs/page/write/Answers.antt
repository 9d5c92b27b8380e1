use Rattle.std.proofs.Common.{◌∙◌, sym, refl, arith, length-set}
use Rattle.rv_memory.proofs.Found.{found_low, found_high, read_none, write_at, found_some, apart_set}
use Rattle.rv_memory.proofs.page.write.Goals as goal

pub returns-in_default-clause-found : goal.returns-in_default-clause-found
returns-in_default-clause-found c = let e = read_none c.args.at c.args.pages.now (sym c.find.ensures ∙ c.in_default.is) in
    grind (arith, e)

pub overflow_sub-k : goal.overflow_sub-k
overflow_sub-k c = found_low c.args.at c.args.pages.now c.in-Some.i c.index-pages-i.result (sym c.find.ensures ∙ c.in-Some.is)

pub index_mut-requires : goal.index_mut-requires
index_mut-requires c = found_high c.args.at c.args.pages.now c.in-Some.i c.index-pages-i.result
    (sym c.find.ensures ∙ c.in-Some.is)

pub returns-clause-found : goal.returns-clause-found
returns-clause-found c =
    (λ _. found_some c.args.at c.args.pages.now c.in-Some.i c.index-pages-i.result (sym c.find.ensures ∙ c.in-Some.is), λ _. refl)

pub returns-clause-value : goal.returns-clause-value
returns-clause-value c = write_at c.args.at c.args.byte c.args.pages.now c.in-Some.i c.index-pages-i.result
    (sym c.find.ensures ∙ c.in-Some.is)

pub returns-clause-apart : goal.returns-clause-apart
returns-clause-apart c =
    apart_set c.args.at c.args.pages.now c.in-Some.i c.index-pages-i.result _ (sym c.find.ensures ∙ c.in-Some.is) refl
    (length-set _ _ _) c.requires
