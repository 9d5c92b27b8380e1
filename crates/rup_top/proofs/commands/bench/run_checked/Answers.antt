use Rattle.std.proofs.Common.{◌∙◌, ap, arith}
use Rattle.image_layout.specs.Reading.{read}
use Rattle.image_layout.proofs.laws.Layouts.{is_read}
use Rattle.rup_top.proofs.shown.Bench.{read_called, read_bound, read_benches}
use Rattle.rup_top.proofs.commands.bench.run_checked.Goals as goal

pub image_of-requires : goal.image_of-requires
image_of-requires c =
    let written = c.in_ok-bytes.ensures.written in
    (written.image, ap read c.as_slice.ensures ∙ is_read c.in_ok-bytes.bytes written.image written.layout)

pub run_on-requires-clause-judged : goal.run_on-requires-clause-judged
run_on-requires-clause-judged c =
    read_called c.args.seed c.args.count c.args.checked.now c.args.typed.now.inner c.in_ok-bytes.bytes c.as_slice.result.now
    c.in_ok-image.image c.in_ok-args.args (omega (arith, c.ranges.seed))
    c.requires.model c.in_ok-bytes.ensures.written c.as_slice.ensures c.in_ok-image.ensures.read c.in_ok-args.ensures

pub run_on-requires-clause-bound : goal.run_on-requires-clause-bound
run_on-requires-clause-bound c =
    read_bound c.args.seed c.args.count c.args.checked.now c.args.typed.now.inner c.in_ok-bytes.bytes c.as_slice.result.now
    c.in_ok-image.image c.in_ok-args.args c.requires.model
    c.in_ok-bytes.ensures.written c.as_slice.ensures c.in_ok-image.ensures.read c.in_ok-args.ensures

pub returns : goal.returns
returns c =
    read_benches c.args.seed c.args.count c.args.checked.now c.args.typed.now.inner c.in_ok-bytes.bytes c.as_slice.result.now
    c.in_ok-image.image c.in_ok-args.args c.run_on.result
    (omega (arith, c.ranges.seed)) c.requires.model c.in_ok-bytes.ensures.written c.as_slice.ensures c.in_ok-image.ensures.read
    c.in_ok-args.ensures c.run_on.ensures
