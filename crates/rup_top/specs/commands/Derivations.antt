-- What the commands that take a model and a derivation have in common: the order in which both files are judged.
use Rattle.std.specs.Prelude.{◌≡◌, ℕ, ◌≤◌, List, length, Ok, Err, ◌⊎◌}
use Rattle.rup_base.specs.declared.refusal.Refusal.{Refusal}
use Rattle.rup_io.specs.Files.{Holds}
use Rattle.equations.specs.Equations.{turn}
use Rattle.model_syntax.specs.declared.program.Model.{Model}
use Rattle.deriv_tree.specs.declared.tree.Derivation.{Derivation}
use Rattle.deriv_file.specs.File.{File, FileFault}
use Rattle.replayer.specs.Replayed.{replayed}
use Rattle.replayer.specs.declared.checked.Checked.{Checked}
use Rattle.rup_top.specs.declared.answer.Answer.{Answer}
use Rattle.rup_top.specs.Answer.{refused}
use Rattle.rup_top.specs.Frame.{Told, Script, asks, comes_to}
use Rattle.rup_top.specs.Inputs.{model_limit, tree_limit, typed_model}

-- The bytes are a model's that is read and well typed, and a derivation's that is accepted for it: every node is an
-- instance of its rule, and the limits of slots, of the bound and of the size hold.
pub record Accepts (size : ℕ) (model tree : List ℕ) (m : Model) (checked : Checked) : Type 0 where
  pub model_is : typed_model model ≡ Ok m
  pub d : Derivation
  pub file : File tree d
  pub is_accepted : replayed turn m d size ≡ Ok checked

-- the bytes are a model's, but no derivation's
pub record NoDerivation (model tree : List ℕ) (refusal : Refusal) : Type 0 where
  pub m : Model
  pub model_is : typed_model model ≡ Ok m
  pub fault : FileFault tree refusal

-- the derivation is not accepted, and this is the first cause
pub record NotAccepted (size : ℕ) (model tree : List ℕ) (refusal : Refusal) : Type 0 where
  pub m : Model
  pub model_is : typed_model model ≡ Ok m
  pub d : Derivation
  pub file : File tree d
  pub first : replayed turn m d size ≡ Err refusal

-- the model is refused first, then the derivation's file, then the derivation
abbrev pub Refuses : ℕ → List ℕ → List ℕ → Refusal → Type 0
Refuses size model tree refusal = (typed_model model ≡ Err refusal)
    ⊎ (NoDerivation model tree refusal ⊎ NotAccepted size model tree refusal)

-- the answer to what was accepted, and else the refusal
abbrev pub Answering : Type 1
Answering = Model → Checked → Answer → Type 0

pub record Done (P : Answering) (size : ℕ) (model tree : List ℕ) (a : Answer) : Type 0 where
  pub m : Model
  pub checked : Checked
  pub accepts : Accepts size model tree m checked
  pub status_is : a.status ≡ 0
  pub answers : P m checked a

abbrev pub Judged : Answering → ℕ → List ℕ → List ℕ → Answer → Type 0
Judged P size model tree a = Done P size model tree a
    ⊎ ((refusal : Refusal) × Refuses size model tree refusal × (a ≡ refused refusal))

-- both files are fetched before either is judged
abbrev pub script : Answering → ℕ → List ℕ → List ℕ → Script
script P size model tree = asks 1 model model_limit (λ m. asks 2 tree tree_limit (λ t. comes_to (λ a. Judged P size m t a)))

-- the files of the words are a model and a derivation that is accepted for it, within their limits
pub record AcceptsFiles (size : ℕ) (held : Told) (model tree : List ℕ) : Type 0 where
  pub model_bytes : List ℕ
  pub model_held : Holds held model model_bytes
  pub model_fits : length model_bytes ≤ model_limit
  pub tree_bytes : List ℕ
  pub tree_held : Holds held tree tree_bytes
  pub tree_fits : length tree_bytes ≤ tree_limit
  pub m : Model
  pub checked : Checked
  pub accepts : Accepts size model_bytes tree_bytes m checked
