use Rattle.std.proofs.Common.{◌≡◌, ◌∙◌, ap}
use Rattle.std.proofs.lemmas.Result.{err_from_is_err_and}
use Rattle.image_layout.specs.Spelling.{symbol_count}
use Rattle.image_layout.proofs.Listed.{counted, has_params, has_requires, has_rets, has_bound, counts_wrong, params_wrong}
use Rattle.image_layout.proofs.Listed.{requires_wrong, rets_wrong, bound_wrong, lists_right}
use Rattle.image_layout.proofs.reading.lists.read_lists.Goals as goal

pub returns-in_err-counts-clause-answer : goal.returns-in_err-counts-clause-answer
returns-in_err-counts-clause-answer c =
    let p = err_from_is_err_and c.from_residual.result c.from_residual.ensures.1 in
    rw (p.1, p.2) (counts_wrong c.args.bytes.now c.in_err-counts.field-0.0 _ c.in_err-counts.ensures.answer)

pub returns-in_err-params-clause-answer : goal.returns-in_err-params-clause-answer
returns-in_err-params-clause-answer c =
    let are = counted c.args.bytes.now c.in_ok-counts.counts c.in_ok-counts.ensures.answer in
    let p = err_from_is_err_and c.from_residual-in_err-params.result c.from_residual-in_err-params.ensures.1 in
    rw (p.1, p.2) (params_wrong c.args.bytes.now c.in_ok-counts.counts c.in_err-params.field-0.0 _ are
    c.in_err-params.ensures.answer)

pub returns-in_err-requires_-clause-answer : goal.returns-in_err-requires_-clause-answer
returns-in_err-requires_-clause-answer c =
    let are = counted c.args.bytes.now c.in_ok-counts.counts c.in_ok-counts.ensures.answer in
    let ps = has_params c.args.bytes.now c.in_ok-counts.counts.params c.in_ok-params.params c.in_ok-params.after_params are.params
    c.in_ok-params.ensures.answer in
    let symbols : c.symbol_count-symbols.result ≡ symbol_count c.in_ok-params.params = c.symbol_count-symbols.ensures.count
    ∙ ap symbol_count c.as_slice.ensures in
    let p = err_from_is_err_and c.from_residual-in_err-requires_.result c.from_residual-in_err-requires_.ensures.1 in
    rw (p.1, p.2) (requires_wrong c.args.bytes.now c.in_ok-counts.counts c.in_ok-params.params c.symbol_count-symbols.result
    c.in_ok-params.after_params c.in_err-requires_.field-0.0 _ are ps symbols c.in_err-requires_.ensures.answer)

pub returns-in_err-rets-clause-answer : goal.returns-in_err-rets-clause-answer
returns-in_err-rets-clause-answer c =
    let are = counted c.args.bytes.now c.in_ok-counts.counts c.in_ok-counts.ensures.answer in
    let ps = has_params c.args.bytes.now c.in_ok-counts.counts.params c.in_ok-params.params c.in_ok-params.after_params are.params
    c.in_ok-params.ensures.answer in
    let symbols : c.symbol_count-symbols.result ≡ symbol_count c.in_ok-params.params = c.symbol_count-symbols.ensures.count
    ∙ ap symbol_count c.as_slice.ensures in
    let fs = has_requires c.args.bytes.now c.symbol_count-symbols.result c.in_ok-counts.counts.requires_
    c.in_ok-params.after_params c.in_ok-requires_.requires_ c.in_ok-requires_.after_requires
    (symbols ∙ ap symbol_count ps.list) are.requires_ ps.place c.in_ok-requires_.ensures.answer in
    let p = err_from_is_err_and c.from_residual-in_err-rets.result c.from_residual-in_err-rets.ensures.1 in
    rw (p.1, p.2) (rets_wrong c.args.bytes.now c.in_ok-counts.counts c.in_ok-params.params c.as_slice-2.result.now
    c.in_ok-requires_.requires_ c.in_ok-params.after_params c.in_ok-requires_.after_requires c.in_err-rets.field-0.0 _ are ps
    fs c.as_slice-2.ensures c.in_err-rets.ensures.answer)

pub returns-in_err-bound-clause-answer : goal.returns-in_err-bound-clause-answer
returns-in_err-bound-clause-answer c =
    let are = counted c.args.bytes.now c.in_ok-counts.counts c.in_ok-counts.ensures.answer in
    let ps = has_params c.args.bytes.now c.in_ok-counts.counts.params c.in_ok-params.params c.in_ok-params.after_params are.params
    c.in_ok-params.ensures.answer in
    let symbols : c.symbol_count-symbols.result ≡ symbol_count c.in_ok-params.params = c.symbol_count-symbols.ensures.count
    ∙ ap symbol_count c.as_slice.ensures in
    let fs = has_requires c.args.bytes.now c.symbol_count-symbols.result c.in_ok-counts.counts.requires_
    c.in_ok-params.after_params c.in_ok-requires_.requires_ c.in_ok-requires_.after_requires
    (symbols ∙ ap symbol_count ps.list) are.requires_ ps.place c.in_ok-requires_.ensures.answer in
    let rs = has_rets c.args.bytes.now c.as_slice-2.result.now c.in_ok-counts.counts.rets c.in_ok-requires_.after_requires
    c.in_ok-rets.rets c.in_ok-rets.after_rets (c.as_slice-2.ensures ∙ ps.list) are.rets fs.place c.in_ok-rets.ensures.answer
    in
    let p = err_from_is_err_and c.from_residual-in_err-bound.result c.from_residual-in_err-bound.ensures.1 in
    rw (p.1, p.2) (bound_wrong c.args.bytes.now c.in_ok-counts.counts c.in_ok-params.params c.in_ok-requires_.requires_
    c.in_ok-rets.rets c.symbol_count-symbols.result c.in_ok-params.after_params c.in_ok-requires_.after_requires
    c.in_ok-rets.after_rets c.in_err-bound.field-0.0 _ are ps fs rs symbols c.in_err-bound.ensures.answer)

pub returns-clause-answer : goal.returns-clause-answer
returns-clause-answer c =
    let are = counted c.args.bytes.now c.in_ok-counts.counts c.in_ok-counts.ensures.answer in
    let ps = has_params c.args.bytes.now c.in_ok-counts.counts.params c.in_ok-params.params c.in_ok-params.after_params are.params
    c.in_ok-params.ensures.answer in
    let symbols : c.symbol_count-symbols.result ≡ symbol_count c.in_ok-params.params = c.symbol_count-symbols.ensures.count
    ∙ ap symbol_count c.as_slice.ensures in
    let fs = has_requires c.args.bytes.now c.symbol_count-symbols.result c.in_ok-counts.counts.requires_
    c.in_ok-params.after_params c.in_ok-requires_.requires_ c.in_ok-requires_.after_requires
    (symbols ∙ ap symbol_count ps.list) are.requires_ ps.place c.in_ok-requires_.ensures.answer in
    let rs = has_rets c.args.bytes.now c.as_slice-2.result.now c.in_ok-counts.counts.rets c.in_ok-requires_.after_requires
    c.in_ok-rets.rets c.in_ok-rets.after_rets (c.as_slice-2.ensures ∙ ps.list) are.rets fs.place c.in_ok-rets.ensures.answer
    in
    let ts = has_bound c.args.bytes.now c.symbol_count-symbols.result c.in_ok-counts.counts.bound c.in_ok-rets.after_rets
    c.in_ok-bound.bound c.in_ok-bound.header (symbols ∙ ap symbol_count ps.list) are.bound rs.place
    c.in_ok-bound.ensures.answer in
    lists_right c.args.bytes.now c.in_ok-counts.counts c.in_ok-params.params c.in_ok-requires_.requires_ c.in_ok-rets.rets
    c.in_ok-bound.bound c.in_ok-params.after_params c.in_ok-requires_.after_requires c.in_ok-rets.after_rets
    c.in_ok-bound.header are ps fs rs ts
