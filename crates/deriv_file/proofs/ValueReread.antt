-- The text of a value whose integers fit 64 bits is read as that value.
use Rattle.std.proofs.Common.{◌≡◌, ℕ, suc, ◌<◌, ◌≤◌, ◌^◌, Bool, true, false, ℤ, pos, negsuc, List, [], ◌∷◌, ◌++◌, map, Some}
use Rattle.std.proofs.Common.{option_map, option_and_then, IsUtf8, decimal, refl, sym, ◌∙◌, ap, append-nil, arith}
use Rattle.std.specs.Prelude.{⊤}
use Rattle.std.specs.Fmt.{signed_decimal}
use Rattle.std.proofs.lemmas.Str.{IsUtf8-append, IsUtf8-from_ascii}
use Rattle.std.proofs.lemmas.Fmt.{IsAscii-decimal, IsAscii-signed}
use lib.Signed.{mag}
use Rattle.json.specs.Lex.{tokens}
use Rattle.json.specs.Json as json
use Rattle.json.specs.Print.{print}
use Rattle.json.specs.Tree as tree
use Rattle.json.proofs.Printed.Decimals.{IsNumber-decimal, IsNumber-signed_decimal}
use Rattle.json.proofs.Printed.Tokens.{tokens-print}
use Rattle.json.proofs.Printed.Trees.{ArePrintable-json_tokens, value-json_tokens}
use Rattle.json.proofs.Printed.Utf8.{IsUtf8-are_ascii, IsUtf8-quoted}
use Rattle.serde_json.specs.Data.{Data, string, number, array, Items}
use Rattle.serde_json.specs.Read.{read, of_json, of_items}
use Rattle.serde_json.specs.View.{items_of}
use Rattle.serde_json.specs.Written.{outline, items_outline, compact_text, items_text, comma_if}
use Rattle.serde_json.proofs.Numbers.{number_of-decimal, number_of-negative}
use Rattle.serde_json.proofs.Texts.{print-outline}
use Rattle.deriv_file.specs.FileText.{whole, integer}
use Rattle.deriv_file.proofs.LineFeed.{tokens_before_line_feed}

-- the value has a text of UTF-8 that is read as the value, and nests at most so deep
pub record Reread (levels : ℕ) (d : Data) : Type 0 where
  pub reads : of_json (outline d) ≡ Some d
  pub numbers : tree.HasNumbers (outline d)
  pub low : tree.depth (outline d) ≤ levels
  pub utf8 : IsUtf8 (compact_text d)

pub whole_reread : (n : ℕ) → n < 2 ^ 64 → Reread 0 (whole n)
whole_reread n h = record {
  reads = ap (option_map number) (number_of-decimal n h);
  numbers = IsNumber-decimal n h;
  low = omega arith;
  utf8 = IsUtf8-from_ascii (decimal n) (IsAscii-decimal n h);
}

pub integer_reread : (z : ℤ) → mag z < 2 ^ 63 → Reread 0 (integer z)
integer_reread (pos n) h = whole_reread n (omega (arith, h))
integer_reread (negsuc n) h = record {
  reads = ap (option_map number) (number_of-negative n (omega (arith, h)));
  numbers = IsNumber-signed_decimal (negsuc n) h;
  low = omega arith;
  utf8 = IsUtf8-from_ascii (signed_decimal (negsuc n)) (IsAscii-signed (negsuc n) h);
}

pub string_reread : (s : List ℕ) → IsUtf8 s → Reread 0 (string s)
string_reread s h = record { reads = refl; numbers = tt; low = omega arith; utf8 = IsUtf8-quoted s h }

pub deeper : (m n : ℕ) (d : Data) → m ≤ n → Reread m d → Reread n d
deeper m n d h r = record { reads = r.reads; numbers = r.numbers; low = omega (arith, h, r.low); utf8 = r.utf8 }

abbrev pub AllReread : ℕ → List Data → Type 0
AllReread levels [] = ⊤
AllReread levels (d ∷ ds) = Reread levels d × AllReread levels ds

-- the same of the items of an array
record ItemsReread (levels : ℕ) (ds : Items) : Type 0 where
  reads : of_items (items_outline ds) ≡ Some ds
  numbers : tree.ItemsHaveNumbers (items_outline ds)
  low : tree.items_depth (items_outline ds) ≤ levels
  utf8 : (later : Bool) → IsUtf8 (items_text later ds)

pub comma_utf8 : (later : Bool) → IsUtf8 (comma_if later)
comma_utf8 true = IsUtf8-are_ascii (44 ∷ []) refl
comma_utf8 false = IsUtf8-are_ascii [] refl

items_reread : (levels : ℕ) (ds : List Data) → AllReread levels ds → ItemsReread levels (items_of ds)
items_reread levels [] h = record
    { reads = refl; numbers = tt; low = omega arith; utf8 = λ later. IsUtf8-are_ascii (93 ∷ []) refl }
items_reread levels (d ∷ ds) h =
    let rest = items_reread levels ds h.1 in
    let first : Reread levels d = h.0 in
    record {
      reads = rw (first.reads, rest.reads);
      numbers = (first.numbers, rest.numbers);
      low = omega (arith, first.low, rest.low);
      utf8 = λ later. IsUtf8-append (comma_if later) (compact_text d ++ items_text true (items_of ds)) (comma_utf8 later)
          (IsUtf8-append (compact_text d) (items_text true (items_of ds)) first.utf8 (rest.utf8 true));
    }

pub array_reread : (levels : ℕ) (ds : List Data) → AllReread levels ds → Reread (suc levels) (array (items_of ds))
array_reread levels ds h =
    let items = items_reread levels ds h in
    record {
      reads = ap (option_map array) items.reads;
      numbers = items.numbers;
      low = omega (arith, items.low);
      utf8 = IsUtf8-append (91 ∷ []) (items_text false (items_of ds)) (IsUtf8-are_ascii (91 ∷ []) refl) (items.utf8 false);
    }

pub all_reread : {T : Type 0} (levels : ℕ) (f : T → Data) → ((x : T) → Reread levels (f x)) → (xs : List T)
    → AllReread levels (map f xs)
all_reread levels f back [] = tt
all_reread levels f back (x ∷ xs) = (back x, all_reread levels f back xs)

-- the text, with a line feed behind it
pub text_reread : (levels : ℕ) (d : Data) → levels ≤ 127 → Reread levels d → read (compact_text d ++ 10 ∷ []) ≡ Some d
text_reread levels d h r =
    let printable = ArePrintable-json_tokens (outline d) r.numbers in
    let same : tokens (compact_text d ++ 10 ∷ []) ≡ tree.json_tokens (outline d) ++ [] =
    ap (λ (text : List ℕ). tokens (text ++ 10 ∷ [])) (sym (print-outline d))
    ∙ tokens_before_line_feed (tree.json_tokens (outline d)) printable
    ∙ ap tokens (append-nil (print (tree.json_tokens (outline d))))
    ∙ tokens-print (tree.json_tokens (outline d)) printable
    ∙ sym (append-nil (tree.json_tokens (outline d))) in
    ap (λ ts. option_and_then of_json (option_and_then (λ p. json.if_last p.0 p.1) (json.value 127 ts))) same
    ∙ ap (λ o. option_and_then of_json (option_and_then (λ p. json.if_last p.0 p.1) o))
    (value-json_tokens (outline d) 127 [] (omega (arith, r.low, h)))
    ∙ r.reads
