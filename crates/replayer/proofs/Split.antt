-- Sums over a list of which the first is taken.
use Rattle.std.proofs.Common.{◌≡◌, sym, ◌∙◌, ap, ℕ, ◌+◌, ◌-◌, ◌≤◌, List, length, take, drop, map, sum, slice_index_or}
use Rattle.std.proofs.lemmas.List.Sums.{sum_by-cons}
use Rattle.side_certs.proofs.laws.Combinations.{split_first}
use Rattle.deriv_tree.specs.Measure.{stmt_size, stmt_size_step, block_size, block_size_step}
use Rattle.deriv_tree.specs.declared.tree.Block.{Block, out-Block, roll-out-Block, fold-roll-Block}

pub sum_first : {X : Type 0} (f : X → ℕ) (xs : List X) (x : X) → 1 ≤ length xs → x ≡ slice_index_or xs 0 x
    → sum (map f xs) ≡ f x + sum (map f (take (length xs - 1) (drop 1 xs)))
sum_first f xs x long is = ap (λ l. sum (map f l)) (split_first xs x long is)
    ∙ sum_by-cons (λ n. n) (f x) (map f (take (length xs - 1) (drop 1 xs)))

pub block_sum : (b : Block) → block_size b ≡ sum (map stmt_size (out-Block b).nodes)
block_sum b = ap block_size (sym (roll-out-Block b)) ∙ fold-roll-Block ℕ ℕ block_size_step stmt_size_step (out-Block b)
