use Rattle.std.proofs.Common.{◌≡◌, drop}
use Rattle.derive_search.specs.Lemmas as spec
use Rattle.derive_search.proofs.lemmas.rewriting.Given as goal

-- the lemmas that are left give what all of them do
abbrev pub invariant-loop-lemma : goal.invariant-loop-lemma
invariant-loop-lemma g l =
    spec.rewriting (g.B.Book.turn l.book) l.room l.e (drop l.lemma-index l.lemmas)
    ≡ spec.rewriting (g.B.Book.turn l.book) l.room l.e l.lemmas
