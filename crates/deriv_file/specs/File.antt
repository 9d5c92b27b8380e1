-- A derivation's file: its header, and the first fault of a file that is none.
use Rattle.std.specs.Prelude.{◌≡◌, ℕ, ◌<◌, ◌^◌, Bool, true, false, ◌==◌, nat_le, List, length, Option, Some, None}
use Rattle.std.specs.Prelude.{option_and_then, codes, IsUtf8, Result, Ok, Err, if◌then◌else◌}
use Rattle.serde_json.specs.Data.{Data, Items, Members}
use Rattle.serde_json.specs.Read.{read}
use Rattle.serde_json.specs.Events.{items_len, members_len}
use Rattle.serde_json.specs.Find.{get, as_str, as_array, as_object}
use Rattle.rup_base.specs.Answers.{and_then}
use Rattle.rup_base.specs.Name.{name_of}
use Rattle.rup_base.specs.declared.fail.Fail.{Fail}
use Rattle.rup_base.specs.declared.fail.Fail.TheVariants.{Refused, NoMemory}
use Rattle.rup_base.specs.declared.refusal.Refusal.{Refusal}
use Rattle.rup_base.specs.declared.refusal.Refusal.TheVariants.{NotJson, NotDerivation, OverNodes}
use Rattle.deriv_tree.specs.declared.tree.Derivation.{Derivation}
use Rattle.deriv_tree.specs.declared.tree.Block.{out-Block}
use Rattle.deriv_tree.specs.declared.listed.Listed.{Listed}
use Rattle.deriv_tree.specs.Preorder.{preorder}
use Rattle.deriv_tree.specs.Shape.{most_nodes}
use Rattle.deriv_file.specs.Numbers.{number_in}
use Rattle.deriv_file.specs.NodeList.{nodes_of, all_nodes}
use Rattle.deriv_file.specs.Forest.{body_of}
use Rattle.deriv_file.specs.Limits.{Within}

-- what a test finds, or else a fault of the header
abbrev pub or_header : {A : Type 0} → Option A → (A → Result Derivation Refusal) → Result Derivation Refusal
or_header (Some x) next = next x
or_header None next = Err (NotDerivation None)

abbrev pub derivation_of_nodes : ℕ → List ℕ → Items → Result Derivation Refusal
derivation_of_nodes block model nodes =
    if nat_le (items_len nodes) most_nodes
    then and_then (nodes_of block nodes) (λ ns. Ok (record { model = model; body = body_of block ns }))
    else Err (OverNodes (items_len nodes))

-- the number of nodes of the outer block
abbrev pub block_of : Data → Option ℕ
block_of d = number_in 0 most_nodes d

-- the one version
abbrev pub version_of : Data → Option ℕ
version_of d = number_in 1 1 d

abbrev pub model_of : Data → Option (List ℕ)
model_of d = option_and_then name_of (as_str d)

abbrev pub derivation_of_parts : Data → Data → Data → Data → Result Derivation Refusal
derivation_of_parts block version model nodes =
    or_header (block_of block) (λ count. or_header (version_of version)
    (λ _. or_header (model_of model) (λ name. or_header (as_array nodes)
    (λ items. derivation_of_nodes count name items))))

abbrev pub are_four : Option Members → Bool
are_four None = false
are_four (Some members) = members_len members == 4

abbrev pub has_four_members : Data → Bool
has_four_members d = are_four (as_object d)

-- exactly these members: there are four, and each of the four is there
abbrev pub derivation_of : Data → Result Derivation Refusal
derivation_of d =
    if has_four_members d
    then or_header (get (codes "block") d)
    (λ block. or_header (get (codes "deriv") d) (λ version. or_header (get (codes "model") d) (λ model.
    or_header (get (codes "nodes") d) (λ nodes. derivation_of_parts block version model nodes))))
    else Err (NotDerivation None)

-- the bytes have a JSON value, as serde_json reads it
pub record HasValue (bytes : List ℕ) (d : Data) : Type 0 where
  pub text : IsUtf8 bytes
  pub reads : read bytes ≡ Some d

abbrev pub HasNoValue : List ℕ → Type 0
HasNoValue bytes = (d : Data) → HasValue bytes d → ⊥

-- the value of the bytes, if they have one
abbrev pub IsValueOf : List ℕ → Option Data → Type 0
IsValueOf bytes None = HasNoValue bytes
IsValueOf bytes (Some d) = HasValue bytes d

abbrev pub answer_of : Option Data → Result Derivation Refusal
answer_of None = Err NotJson
answer_of (Some d) = derivation_of d

-- the answer that bytes have: a derivation, or their first fault
pub record Reading (bytes : List ℕ) (answer : Result Derivation Refusal) : Type 0 where
  pub json : Option Data
  pub is_value : IsValueOf bytes json
  pub answer_is : answer_of json ≡ answer

-- the first fault of bytes that are no file
abbrev pub FileFault : List ℕ → Refusal → Type 0
FileFault bytes r = Reading bytes (Err r)

-- unless memory ran out, the result is the answer that the bytes have
abbrev pub Reads : List ℕ → Result Derivation Fail → Type 0
Reads bytes (Ok d) = Reading bytes (Ok d)
Reads bytes (Err (Refused r)) = FileFault bytes r
Reads bytes (Err NoMemory) = Unit {0}

-- a test of the member of this name
abbrev pub member : {A : Type 0} → List ℕ → (Data → Option A) → Data → Option A
member name test d = option_and_then test (get name d)

-- the nodes that stand in an array
abbrev pub listed_nodes : Data → Option (List Listed)
listed_nodes d = option_and_then all_nodes (as_array d)

-- The bytes are a file of the derivation: their value has exactly the four members, which are the number of nodes of the
-- outer block, the version 1, the model's name and the preorder list of the derivation, and this is within the limits.
pub record File (bytes : List ℕ) (d : Derivation) : Type 0 where
  pub json : Data
  pub value : HasValue bytes json
  pub members : has_four_members json ≡ true
  pub block : member (codes "block") block_of json ≡ Some (length (out-Block d.body).nodes)
  pub version : member (codes "deriv") version_of json ≡ Some 1
  pub model : member (codes "model") model_of json ≡ Some d.model
  pub nodes : member (codes "nodes") listed_nodes json ≡ Some (preorder d)
  pub within : Within d

-- unless memory ran out, the result is this derivation
abbrev pub Gives : Derivation → Result Derivation Fail → Type 0
Gives d (Ok e) = e ≡ d
Gives d (Err (Refused r)) = ⊥
Gives d (Err NoMemory) = Unit {0}

-- the number of nodes fits 32 bits, as in each file of at most 2^24 bytes
abbrev pub IsCountable : Data → Type 0
IsCountable nodes = (items : Items) → as_array nodes ≡ Some items → items_len items < 2 ^ 32

abbrev pub HasCountableNodes : Data → Type 0
HasCountableNodes json = (nodes : Data) → get (codes "nodes") json ≡ Some nodes → IsCountable nodes
