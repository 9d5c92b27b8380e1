use Rattle.std.proofs.Common.{◌≡◌, Some, get_or, rules}
use Rattle.run_setup.specs.Digits as spec
use Rattle.run_setup.proofs.Hex.{byte_more}
use Rattle.run_setup.proofs.digits.hex_bytes.Goals as goal

pub pairs-preserved : goal.pairs-preserved
pairs-preserved c =
    let made : spec.pair (get_or c.pairs.left.now 0 0) (get_or c.pairs.left.now 1 0) ≡ Some c.in-Some.byte = search rules in
    byte_more c.pairs.bytes c.push.new.self c.pairs.left.now c.args.digits.now c.in-Some.byte 0 0 c.in-len2-up.len_at_least made
    c.in_ok-push-in-Some.ensures.appended c.pairs.invariant
