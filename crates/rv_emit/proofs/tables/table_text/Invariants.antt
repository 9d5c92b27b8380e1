use Rattle.std.proofs.Common.{◌≡◌, ◌++◌, drop, length}
use Rattle.rv_emit.specs.Tables.{text_of, offsets_from}
use Rattle.rv_emit.proofs.tables.table_text.Given as goal

abbrev pub invariant-loop-table : goal.invariant-loop-table
invariant-loop-table l =
    (l.text ++ text_of (drop l.table-index l.tables) ≡ text_of l.tables)
    × (l.offsets ++ offsets_from (length l.text) (drop l.table-index l.tables) ≡ offsets_from 0 l.tables)
