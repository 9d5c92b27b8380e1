-- The layout of an image in bytes, version 1, and the limits within which an image has one. An image is what a
-- device loads and calls.
use Rattle.std.specs.Prelude.{◌≡◌, ◌≢◌, ℕ, zero, suc, ◌+◌, ◌-◌, ◌%◌, ◌^◌, ◌<◌, ◌≤◌, Bool, true, false, List, [], ◌∷◌, ◌++◌}
use Rattle.std.specs.Prelude.{length, replicate, Option, Some, None, ℤ, pos, nat_abs, sum_by, slice_get, ⊤}
use Rattle.std.specs.List.{flat_map, AllByRecursion}
use Rattle.std.specs.Int.{w32, w64, to_le_bytes, cast_unsigned, next_multiple_of}
use Rattle.rup_base.specs.declared.arg.Kind.{Kind}
use Rattle.rup_base.specs.declared.arg.Kind.TheVariants.{Word, Byte, Bytes, Words}
use Rattle.side_certs.specs.LinearForm.{LinearForm, greatest_number}
use Rattle.cost_poly.specs.declared.term.Term.{Term}
use Rattle.cost_poly.specs.Polynomial.{BoundFrom}
use Rattle.image_layout.specs.declared.image.Image.{Image}

-- the argument registers of a parameter: an array whose length is named takes a second one for its length
abbrev pub registers_of : Kind → ℕ
registers_of Word = 1
registers_of Byte = 1
registers_of (Bytes None) = 2
registers_of (Bytes (Some n)) = 1
registers_of (Words None) = 2
registers_of (Words (Some n)) = 1

-- the entry symbols of a parameter stand for words, bytes and named lengths; pointers have none
abbrev pub symbols_of : Kind → ℕ
symbols_of Word = 1
symbols_of Byte = 1
symbols_of (Bytes None) = 1
symbols_of (Bytes (Some n)) = 0
symbols_of (Words None) = 1
symbols_of (Words (Some n)) = 0

abbrev pub is_array : Kind → Bool
is_array Word = false
is_array Byte = false
is_array (Bytes n) = true
is_array (Words n) = true

-- The spelling. Numbers are little endian, of four bytes where not said otherwise.

abbrev pub number : ℕ → List ℕ
number n = to_le_bytes w32 n

-- eight bytes
abbrev pub wide : ℕ → List ℕ
wide n = to_le_bytes w64 n

-- eight bytes in two's complement
abbrev pub long : ℤ → List ℕ
long z = wide (cast_unsigned w64 z)

abbrev pub parameter : Kind → List ℕ
parameter Word = number 0 ++ number 0
parameter Byte = number 1 ++ number 0
parameter (Bytes None) = number 2 ++ number 0
parameter (Words None) = number 3 ++ number 0
parameter (Bytes (Some n)) = number 4 ++ number n
parameter (Words (Some n)) = number 5 ++ number n

abbrev pub form_term : ℕ × ℤ → List ℕ
form_term t = number t.0 ++ long t.1

abbrev pub requirement : LinearForm → List ℕ
requirement f = long f.constant ++ (number (length f.terms) ++ flat_map form_term f.terms)

abbrev pub symbol : Option ℕ → List ℕ
symbol None = number 0xffff_ffff
symbol (Some s) = number s

abbrev pub bound_term : Term → List ℕ
bound_term t = symbol t.first ++ (symbol t.second ++ wide t.coefficient)

abbrev pub lists : Image → List ℕ
lists i = flat_map parameter i.params
    ++ (flat_map requirement i.requires_ ++ (flat_map symbol i.rets ++ flat_map bound_term i.bound))

-- the header is the fixed fields of 48 bytes and the lists; the code begins at the next multiple of 16
abbrev pub header_length : Image → ℕ
header_length i = 48 + length (lists i)

abbrev pub code_offset : Image → ℕ
code_offset i = next_multiple_of (header_length i) 16

abbrev pub image_length : Image → ℕ
image_length i = code_offset i + length i.code + length i.tables

-- the numbers behind the first four bytes, in the order of their offsets
abbrev pub fixed_numbers : Image → List ℕ
fixed_numbers i =
    i.version ∷ image_length i ∷ code_offset i ∷ length i.code ∷ length i.tables ∷ i.entry ∷ i.stack
    ∷ length i.params ∷ length i.requires_ ∷ length i.rets ∷ length i.bound ∷ []

-- the bytes 52 55 50 31, and the numbers
abbrev pub fixed_fields : Image → List ℕ
fixed_fields i = (0x52 ∷ 0x55 ∷ 0x50 ∷ 0x31 ∷ []) ++ flat_map number (fixed_numbers i)

abbrev pub spelling : Image → List ℕ
spelling i = fixed_fields i ++ (lists i ++ (replicate (code_offset i - header_length i) 0 ++ (i.code ++ i.tables)))

-- The limits.

-- the fixed length of an array is a number of four bytes
abbrev pub IsParameter : Kind → Type 0
IsParameter Word = ⊤
IsParameter Byte = ⊤
IsParameter (Bytes None) = ⊤
IsParameter (Bytes (Some n)) = n < 2 ^ 32
IsParameter (Words None) = ⊤
IsParameter (Words (Some n)) = n < 2 ^ 32

abbrev pub symbol_count : List Kind → ℕ
symbol_count kinds = sum_by symbols_of kinds

-- the symbols rise and are below a count; no coefficient is 0
abbrev pub TermsFrom : ℕ → ℕ → List (ℕ × ℤ) → Type 0
TermsFrom least count [] = ⊤
TermsFrom least count (t ∷ ts) =
    (least ≤ t.0) × (t.0 < count) × (t.1 ≢ pos 0) × (nat_abs t.1 ≤ greatest_number) × TermsFrom (t.0 + 1) count ts

pub record IsRequirement (count : ℕ) (f : LinearForm) : Type 0 where
  pub constant_fits : nat_abs f.constant ≤ greatest_number
  pub terms_fit : TermsFrom 0 count f.terms

-- at most so many scalars are left; an array is that of an array parameter, and none comes twice
abbrev pub ResultsFit : List Kind → ℕ → List ℕ → List (Option ℕ) → Type 0
ResultsFit kinds scalars seen [] = ⊤
ResultsFit kinds zero seen (None ∷ rets) = ⊥
ResultsFit kinds (suc scalars) seen (None ∷ rets) = ResultsFit kinds scalars seen rets
ResultsFit kinds scalars seen (Some p ∷ rets) =
    ((kind : Kind) × (slice_get kinds p ≡ Some kind) × (is_array kind ≡ true)) × AllByRecursion (λ q. q ≢ p) seen
    × ResultsFit kinds scalars (p ∷ seen) rets

pub record IsWithinLimits (i : Image) : Type 0 where
  pub version_is : i.version ≡ 1
  pub code_whole : length i.code % 4 ≡ 0
  pub code_some : 4 ≤ length i.code
  pub code_most : length i.code ≤ 1_000_000
  pub tables_most : length i.tables ≤ 131_072
  pub entry_whole : i.entry % 4 ≡ 0
  pub entry_from : code_offset i ≤ i.entry
  pub entry_below : i.entry < code_offset i + length i.code
  pub stack_whole : i.stack % 16 ≡ 0
  pub stack_most : i.stack ≤ 4_096
  pub params_fit : AllByRecursion IsParameter i.params
  pub registers_most : sum_by registers_of i.params ≤ 8
  pub requires_most : length i.requires_ ≤ 4_096
  pub requires_fit : AllByRecursion (IsRequirement (symbol_count i.params)) i.requires_
  pub rets_fit : ResultsFit i.params 2 [] i.rets
  pub bound_fits : BoundFrom 0 (symbol_count i.params) i.bound

-- these bytes are the image
pub record Layout (i : Image) (bytes : List ℕ) : Type 0 where
  pub within : IsWithinLimits i
  pub bytes_are : bytes ≡ spelling i
