use Rattle.std.proofs.Common.{◌≡◌, ◌+ℤ◌, pos, slice_index_or, SFits, arith, rules}
use Rattle.std.specs.Int.{w64, w128}
use Rattle.std.proofs.lemmas.Bool.{ltb-false}
use Rattle.std.proofs.lemmas.Int.{to_z-of_z}
use Rattle.side_certs.proofs.laws.Terms.{equal_symbols}
use Rattle.side_certs.proofs.form.first.Goals as goal

pub returns-then-t-u-2 : goal.returns-then-t-u-2
returns-then-t-u-2 c =
    let t_fits : SFits w64 (slice_index_or c.args.left.now 0 (0, pos 0)).1 = search rules in
    let u_fits : SFits w64 (slice_index_or c.args.right.now 0 (0, pos 0)).1 = search rules in
    let sum_fits : SFits w128 c.total.result = search rules in
    let t_is = to_z-of_z w64 (slice_index_or c.args.left.now 0 (0, pos 0)).1 t_fits in
    let u_is = to_z-of_z w64 (slice_index_or c.args.right.now 0 (0, pos 0)).1 u_fits in
    let sum : c.total.result ≡ (slice_index_or c.args.left.now 0 (0, pos 0)).1 +ℤ
    (slice_index_or c.args.right.now 0 (0, pos 0)).1 = rw (t_is, u_is) at c.total.ensures in
    rw (to_z-of_z w128 c.total.result sum_fits)
    (equal_symbols c.args.left.now c.args.right.now c.total.result (omega (arith, ltb-false)) (omega (arith, ltb-false))
    c.if-t-u-2.true sum)
