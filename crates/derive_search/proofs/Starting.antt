-- The search of a model, from what its code starts with.
use Rattle.std.proofs.Common.{◌≡◌, ℕ, List, Result, Ok, Err, IfOk}
use Rattle.rup_base.specs.Answers.{Answers}
use Rattle.rup_base.specs.declared.fail.Fail.{Fail}
use Rattle.model_syntax.specs.Names.{Name, first_names}
use Rattle.model_syntax.specs.declared.program.Model.{Model}
use Rattle.sym_heap.specs.declared.parts.Held.{Held}
use Rattle.sym_heap.specs.Context.{Context}
use Rattle.sym_heap.specs.Start.{start, next_local}
use Rattle.equations.specs.Book.{Turn}
use Rattle.lemma_files.specs.declared.terms.Lemma.{Lemma}
use Rattle.deriv_tree.specs.declared.tree.Derivation.{Derivation}
use Rattle.derive_search.specs.Derive.{searched, derived_within, derived}
use Rattle.derive_search.specs.Instance.{IsInstance}
use Rattle.derive_search.proofs.laws.Found.{derivations_are_instances}

pub derived_from : (deep : ℕ) (lemmas : List Lemma) (turn : Turn) (m n : Model) (c : Context) (params : List Held)
    (names : List Name) (args : ℕ) (result : Result Derivation Fail)
    → n ≡ m → c ≡ start m → params ≡ (start m).scalars → names ≡ first_names m → args ≡ next_local (start m)
    → Answers result (searched (record
    { homes = record { params = params; names = names; args = args }; lemmas = lemmas; turn = turn }) deep n
    (record { ctx = c; entered = 0; stmts = 0 }))
    → Answers result (derived_within deep lemmas turn m)
derived_from deep lemmas turn m n c params names args result same context_is params_are names_are args_are is =
    rw (same, context_is, params_are, names_are, args_are) at is

pub instance_from : (lemmas : List Lemma) (turn : Turn) (m : Model) (result : Result Derivation Fail)
    → Answers result (derived lemmas turn m) → IfOk result (λ d. IsInstance lemmas turn m d)
instance_from lemmas turn m (Ok d) is = derivations_are_instances lemmas turn m d is
instance_from lemmas turn m (Err f) is = tt
