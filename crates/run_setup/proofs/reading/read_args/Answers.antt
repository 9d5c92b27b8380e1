use Rattle.std.proofs.Common.{◌≡◌, length, map, drop, string_bytes, arith}
use Rattle.run_setup.proofs.Given.{texts_from, count_from, all_from_each, cause_among}
use Rattle.run_setup.proofs.reading.read_args.Goals as goal

pub returns-clause-reads : goal.returns-clause-reads
returns-clause-reads g c =
    let count : length (drop c.args.first (map string_bytes c.args.words.now))
    ≡ length c.args.kinds.now = omega (arith, count_from string_bytes c.args.words.now c.args.first, c.if-given-kinds.false)
    in
    all_from_each _ c.args.first c.args.kinds.now _ c.read_each.result count
    (rw (texts_from string_bytes c.args.words.now c.args.first) at c.read_each.ensures.reads)

pub returns-clause-cause : goal.returns-clause-cause
returns-clause-cause g c =
    cause_among _ c.args.first _ _ c.args.kinds.now _ _ (map string_bytes c.args.words.now) c.read_each.result
    (rw (texts_from string_bytes c.args.words.now c.args.first) at c.read_each.ensures.reads)
    (rw (texts_from string_bytes c.args.words.now c.args.first) at c.read_each.ensures.cause)
