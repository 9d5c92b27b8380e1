use Rattle.std.proofs.Common.{sym, ◌∙◌, ap, ◌+◌, ◌*◌, ◌<◌, get_or, suc, drop, drop-cons, arith}
use Rattle.std.specs.Char.{digit_value}
use Rattle.rup_base.specs.Number.{numeral_after}
use Rattle.rup_base.proofs.laws.Numerals.{numeral_more, numeral_above}
use Rattle.rup_base.proofs.number.numeral.Goals as goal

pub returns-then-longer : goal.returns-then-longer
returns-then-longer c =
    let ds = c.args.digits.now in
    let i = c.loop-digit.digit-index in
    let n = c.loop-digit.number in
    let radix = c.args.radix in
    let large : 4294967295 < n * radix + digit_value (get_or ds i 0) = omega arith in
    let digit : digit_value (get_or ds i 0) < radix = omega arith in
    sym (sym c.loop-digit.invariant.means ∙ ap (numeral_after radix n) (drop-cons ds i 0 c.loop-digit-test.true)
    ∙ numeral_more radix n (get_or ds i 0) (drop (suc i) ds) digit
    ∙ numeral_above radix (n * radix + digit_value (get_or ds i 0)) (drop (suc i) ds) c.requires large)
