-- The line that a refusal prints: `refused`, its number, its name and its fields, with single spaces.
use Rattle.std.specs.Prelude.{ℕ, List, [], ◌∷◌, ◌++◌, Option, Some, None, codes}
use Rattle.std.specs.List.{flat_map}
use Rattle.std.specs.Fmt.{decimal}
use Rattle.rup_base.specs.declared.refusal.TextWhy.{TextWhy}
use Rattle.rup_base.specs.declared.refusal.TextWhy.TheVariants as texts
use Rattle.rup_base.specs.declared.refusal.Limit.{Limit}
use Rattle.rup_base.specs.declared.refusal.Limit.TheVariants as limits
use Rattle.rup_base.specs.declared.refusal.TypePlace.{TypePlace}
use Rattle.rup_base.specs.declared.refusal.TypePlace.TheVariants as places
use Rattle.rup_base.specs.declared.refusal.TypeWhy.{TypeWhy}
use Rattle.rup_base.specs.declared.refusal.TypeWhy.TheVariants as whys
use Rattle.rup_base.specs.declared.refusal.ArgFault.{ArgFault}
use Rattle.rup_base.specs.declared.refusal.ArgFault.TheVariants as faults
use Rattle.rup_base.specs.declared.refusal.Goal.{Goal}
use Rattle.rup_base.specs.declared.refusal.Goal.TheVariants as goals
use Rattle.rup_base.specs.declared.refusal.Refusal.{Refusal}
use Rattle.rup_base.specs.declared.refusal.Refusal.TheVariants.{NotText, NotModel, OverLimit, IllTyped, BadArguments, NotJson}
use Rattle.rup_base.specs.declared.refusal.Refusal.TheVariants.{NotDerivation, NodeCount, NoInstance, BadCertificate, OverSlots}
use Rattle.rup_base.specs.declared.refusal.Refusal.TheVariants.{OverBound, NotLemma, Stuck, OverNodes, NotImage, ArraysTooLarge}
use Rattle.rup_base.specs.declared.refusal.Refusal.TheVariants.{OverSize, TooLong}

-- ---- Enumerations print as words.

abbrev pub text_why : TextWhy → List ℕ
text_why texts.Byte = codes "byte"
text_why texts.Extra = codes "extra"
text_why texts.Deep = codes "deep"
text_why texts.Unclosed = codes "unclosed"

abbrev pub limit : Limit → List ℕ
limit limits.Statements = codes "statements"
limit limits.Depth = codes "depth"
limit limits.Blocks = codes "blocks"
limit limits.Tables = codes "tables"

abbrev pub type_why : TypeWhy → List ℕ
type_why whys.Repeated = codes "repeated"
type_why whys.Registers = codes "registers"
type_why whys.Unknown = codes "unknown"
type_why whys.NotScalar = codes "notscalar"
type_why whys.NotArray = codes "notarray"
type_why whys.WrongType = codes "wrongtype"
type_why whys.NameTaken = codes "nametaken"
type_why whys.Uncarried = codes "uncarried"
type_why whys.WideForm = codes "wideform"
type_why whys.Results = codes "results"
type_why whys.Owner = codes "owner"

abbrev pub place : TypePlace → List (List ℕ)
place places.Params = codes "params" ∷ []
place (places.Require k) = codes "require" ∷ decimal k ∷ []
place (places.Statement k) = codes "statement" ∷ decimal k ∷ []
place (places.Return k) = codes "return" ∷ decimal k ∷ []

abbrev pub fault : ArgFault → List (List ℕ)
fault faults.Count = codes "count" ∷ []
fault (faults.Param k) = codes "param" ∷ decimal k ∷ []
fault (faults.Require k) = codes "require" ∷ decimal k ∷ []

abbrev pub goal : Goal → List ℕ
goal (goals.Expr spelling) = spelling
goal goals.Stmt = codes "statement"
goal goals.End = codes "end"

abbrev pub entry : Option ℕ → List ℕ
entry None = codes "header"
entry (Some node) = decimal node

-- ---- The words of the line.

abbrev pub number : Refusal → ℕ
number (NotText word at why) = 1
number (NotModel at) = 2
number (OverLimit which count) = 3
number (IllTyped place why) = 4
number (BadArguments which) = 5
number NotJson = 6
number (NotDerivation _) = 7
number (NodeCount listed needed) = 8
number (NoInstance node cond) = 9
number (BadCertificate node cert) = 10
number (OverSlots count) = 11
number (OverBound node degree coefficient) = 12
number (NotLemma word at) = 13
number (Stuck stmt goal) = 14
number (OverNodes count) = 15
number (NotImage at) = 16
number (ArraysTooLarge bytes) = 17
number (OverSize bytes) = 18
number (TooLong word limit) = 19

abbrev pub name : Refusal → List ℕ
name (NotText word at why) = codes "NotText"
name (NotModel at) = codes "NotModel"
name (OverLimit which count) = codes "OverLimit"
name (IllTyped place why) = codes "IllTyped"
name (BadArguments which) = codes "BadArguments"
name NotJson = codes "NotJson"
name (NotDerivation _) = codes "NotDerivation"
name (NodeCount listed needed) = codes "NodeCount"
name (NoInstance node cond) = codes "NoInstance"
name (BadCertificate node cert) = codes "BadCertificate"
name (OverSlots count) = codes "OverSlots"
name (OverBound node degree coefficient) = codes "OverBound"
name (NotLemma word at) = codes "NotLemma"
name (Stuck stmt goal) = codes "Stuck"
name (OverNodes count) = codes "OverNodes"
name (NotImage at) = codes "NotImage"
name (ArraysTooLarge bytes) = codes "ArraysTooLarge"
name (OverSize bytes) = codes "OverSize"
name (TooLong word limit) = codes "TooLong"

-- the fields, in their order
abbrev pub fields : Refusal → List (List ℕ)
fields (NotText word at why) = decimal word ∷ decimal at ∷ text_why why ∷ []
fields (NotModel at) = decimal at ∷ []
fields (OverLimit which count) = limit which ∷ decimal count ∷ []
fields (IllTyped p why) = place p ++ type_why why ∷ []
fields (BadArguments which) = fault which
fields NotJson = []
fields (NotDerivation at) = entry at ∷ []
fields (NodeCount listed needed) = decimal listed ∷ decimal needed ∷ []
fields (NoInstance node cond) = decimal node ∷ decimal cond ∷ []
fields (BadCertificate node cert) = decimal node ∷ decimal cert ∷ []
fields (OverSlots count) = decimal count ∷ []
fields (OverBound node degree coefficient) = decimal node ∷ decimal degree ∷ decimal coefficient ∷ []
fields (NotLemma word at) = decimal word ∷ decimal at ∷ []
fields (Stuck stmt g) = decimal stmt ∷ goal g ∷ []
fields (OverNodes count) = decimal count ∷ []
fields (NotImage at) = decimal at ∷ []
fields (ArraysTooLarge bytes) = decimal bytes ∷ []
fields (OverSize bytes) = decimal bytes ∷ []
fields (TooLong word limit) = decimal word ∷ decimal limit ∷ []

-- a word of the line behind its space, which is 32
abbrev pub spaced : List ℕ → List ℕ
spaced word = 32 ∷ word

abbrev pub numbered : ℕ → List ℕ
numbered n = spaced (decimal n)

-- the words with single spaces, and a line feed, which is 10
abbrev pub line_of : Refusal → List ℕ
line_of r = codes "refused" ++ flat_map spaced (decimal (number r) ∷ name r ∷ fields r) ++ 10 ∷ []
