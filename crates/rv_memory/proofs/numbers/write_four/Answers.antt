use Rattle.std.proofs.Common.{◌+◌, ◌-◌, ◌≤◌, ◌∙◌, length, is_some, get_or, sym, ap, arith}
use Rattle.rv_memory.specs.Numbers.{with_number_in}
use Rattle.rv_memory.proofs.Found.{found_low, found_high, number_none, itself, number_found, number_in_some, with_number_found}
use Rattle.rv_memory.proofs.Found.{apart_written}
use Rattle.rv_memory.proofs.numbers.write_four.Goals as goal

pub returns-in_default-clause-found : goal.returns-in_default-clause-found
returns-in_default-clause-found c =
    sym (ap is_some (number_none 3 c.args.at c.args.pages.now (sym c.find.ensures ∙ c.in_default.is)))

pub overflow_sub-k : goal.overflow_sub-k
overflow_sub-k c = found_low c.args.at c.args.pages.now c.in-Some.i c.index-pages-i.result (sym c.find.ensures ∙ c.in-Some.is)

pub overflow_sub-len : goal.overflow_sub-len
overflow_sub-len c =
    let high = found_high c.args.at c.args.pages.now c.in-Some.i c.index-pages-i.result (sym c.find.ensures ∙ c.in-Some.is) in
    omega (arith, high, c.len.ensures)

pub returns-clause-found : goal.returns-clause-found
returns-clause-found c =
    let rs = c.args.pages.now in
    let i = c.in-Some.i in
    let e = sym c.find.ensures ∙ c.in-Some.is in
    let r = get_or rs i c.index-pages-i.result in
    let room : c.args.at - r.start + 4 ≤ length r.bytes.items =
    omega (arith, c.if-len-k-lt4.false, c.len.ensures, r.bytes.ok.0) in
    sym (ap is_some (number_found 4 c.args.at rs i r c.requires.apart e (itself c.args.at rs i c.index-pages-i.result e) room)
    ∙ number_in_some 4 r.bytes.items (c.args.at - r.start) room)

pub returns-clause-value : goal.returns-clause-value
returns-clause-value c =
    let rs = c.args.pages.now in
    let i = c.in-Some.i in
    let e = sym c.find.ensures ∙ c.in-Some.is in
    let r = get_or rs i c.index-pages-i.result in
    let room : c.args.at - r.start + 4 ≤ length r.bytes.items =
    omega (arith, c.if-len-k-lt4.false, c.len.ensures, r.bytes.ok.0) in
    with_number_found 4 c.args.at c.args.value rs i r c.index-pages-i-2.result c.put_four.new.bytes c.requires.apart e
    (itself c.args.at rs i c.index-pages-i.result e) room
    (c.put_four.ensures ∙ ap (λ bytes. with_number_in bytes 4 (c.args.at - r.start) c.args.value) c.deref_mut.ensures.value)

pub returns-clause-apart : goal.returns-clause-apart
returns-clause-apart c =
    let rs = c.args.pages.now in
    let i = c.in-Some.i in
    let e = sym c.find.ensures ∙ c.in-Some.is in
    let k = c.args.at - (get_or rs i c.index-pages-i.result).start in
    apart_written 4 c.args.at c.args.value k rs i c.index-pages-i-2.result c.put_four.new.bytes e
    (c.put_four.ensures ∙ ap (λ bytes. with_number_in bytes 4 k c.args.value) c.deref_mut.ensures.value) c.requires.apart
