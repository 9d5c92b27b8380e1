use Rattle.std.proofs.Common.{◌≡◌, ◌+◌, ◌≤◌, ◌^◌, ◌∷◌, ◌++◌, length, ap, arith}
use Rattle.rv_memory.specs.Contents.{parts}
use Rattle.rv_memory.proofs.Cut.{recut_itself, recut_then, recut_two, pushed}
use Rattle.rv_memory.proofs.cutting.cut.Goals as goal

pub loop-at-preserved : goal.loop-at-preserved
loop-at-preserved c =
    let at = c.loop-at.at in
    let first = c.split_at.result.0.now in
    let others = c.split_at.result.1.now in
    let before = parts c.loop-at.pages.items in
    let whole : c.loop-at.left.now ≡ first ++ others = c.split_at.ensures.by_index.0 in
    let room : at + length first + length others ≤ 2 ^ 32 =
    omega (arith, c.loop-at.invariant.0, c.split_at.ensures.front_len, c.split_at.ensures.back_len) in (
      room,
      λ rest.
          recut_then _ _ _ (c.loop-at.invariant.1 rest)
          (recut_then _ _ _ (recut_itself _ _ (ap (λ bs. before ++ (at, bs) ∷ rest) whole))
          (recut_then _ _ _ (recut_two before rest at first others)
          (recut_itself _ _ (pushed before (parts c.add.new.pages.items) ((at + length first, others) ∷ rest) (at, first)
          c.in_ok-add.ensures)))),
    )
