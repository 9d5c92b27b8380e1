use Rattle.std.proofs.Common.{◌≡◌, take, ap, ◌∙◌, arith}
use Rattle.std.proofs.lemmas.Grind.{common_steps}
use Rattle.run_setup.specs.Loading.{aligned, end_of}
use Rattle.run_setup.proofs.laws.Places.{total_before, total_parts, few_before, aligned_near, array_is_at}
use Rattle.run_setup.proofs.results.array_in_place.Goals as goal

pub end_of-requires : goal.end_of-requires
end_of-requires c =
    omega (
      arith,
      few_before c.args.args.now c.args.p,
      total_before c.args.args.now c.args.p,
      c.requires.few,
      c.requires.small,
      c.requires.near,
    )

pub aligned-place-requires : goal.aligned-place-requires
aligned-place-requires c =
    omega (
      arith,
      c.end_of.ensures.near,
      few_before c.args.args.now c.args.p,
      total_before c.args.args.now c.args.p,
      c.requires.few,
      c.requires.small,
      c.requires.near,
    )

pub read_array-requires : goal.read_array-requires
read_array-requires c =
    let parts = total_parts c.args.args.now c.args.p c.index-args-p.result c.requires.inside c.index-args-p.is in
    omega (
      arith,
      parts.1,
      c.aligned-place.ensures,
      (aligned_near c.end_of.result).1,
      c.end_of.ensures.near,
      few_before
          c.args.args.now c.args.p,
      c.requires.few,
      c.requires.small,
      c.requires.near,
    )

pub returns : goal.returns
returns c =
    let parts = total_parts c.args.args.now c.args.p c.index-args-p.result c.requires.inside c.index-args-p.is in
    let end : c.end_of.result ≡ end_of c.args.image_end (take c.args.p c.args.args.now) = grind (arith, common_steps) in
    array_is_at c.args.mem.now (end_of c.args.image_end (take c.args.p c.args.args.now)) c.aligned-place.result c.args.args.now
    c.args.p c.index-args-p.result c.read_array.result parts.0 (c.aligned-place.ensures ∙ ap aligned end) c.read_array.ensures
