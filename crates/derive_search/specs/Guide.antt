-- What the search goes by at every goal: the homes of names, the lemmas
-- in the order in which they are tried, and what the steps of
-- a book of equations make of expressions.
use Rattle.std.specs.Prelude.{List}
use Rattle.equations.specs.Book.{Turn}
use Rattle.lemma_files.specs.declared.terms.Lemma.{Lemma}
use Rattle.derive_search.specs.declared.guide.Guide as code
use Rattle.derive_search.specs.Locals as locals
use Rattle.derive_search.specs.Locals.{Homes}

pub record Guide : Type 0 where
  pub homes : Homes
  pub lemmas : List Lemma
  pub turn : Turn

-- what a call is given, where a book of this type has these equations
abbrev pub guided : {Book : Type 0} → (Book → Turn) → code.Guide Book → Guide
guided turn g = record { homes = locals.given g.homes; lemmas = g.lemmas.now; turn = turn g.book.now }
