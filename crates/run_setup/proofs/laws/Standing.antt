-- The code of an image that stands in the memory, and how long an image is.
use Rattle.std.proofs.Common.{◌≡◌, ℕ, suc, ◌+◌, ◌-◌, List, [], ◌∷◌, ◌++◌, length, replicate, slice_get, refl, ap, ◌∙◌, arith}
use Rattle.std.proofs.Common.{zero-add, length-append}
use Rattle.std.proofs.lemmas.List.{length-replicate}
use Rattle.rv_memory.specs.Ranges.{Bytes, Stands}
use Rattle.image_layout.specs.declared.image.Image.{Image}
use Rattle.image_layout.specs.Spelling.{lists, fixed_fields, header_length, code_offset, spelling}

slice_get-append_right : (xs ys : List ℕ) (k : ℕ) → slice_get (xs ++ ys) (length xs + k) ≡ slice_get ys k
slice_get-append_right [] ys k = ap (slice_get ys) (zero-add k)
slice_get-append_right (x ∷ xs) ys k =
    let next : length (x ∷ xs) + k ≡ suc (length xs + k) = omega arith in
    rw next (slice_get-append_right xs ys k)

stands_back : (mem : Bytes) (start : ℕ) (xs ys : List ℕ) → Stands mem start (xs ++ ys) → Stands mem (start + length xs) ys
stands_back mem start xs ys stands k b found =
    let there = stands (length xs + k) b (slice_get-append_right xs ys k ∙ found) in
    let place : start + (length xs + k) ≡ start + length xs + k = omega arith in
    rw (← place) there

-- the code stands at its offset, with the tables behind it
pub code_stands : (mem : Bytes) (base : ℕ) (i : Image) → Stands mem base (spelling i)
    → Stands mem (base + code_offset i) (i.code ++ i.tables)
code_stands mem base i stands =
    let fill = replicate (code_offset i - header_length i) 0 in
    let fixed : length (fixed_fields i) ≡ 48 = refl in
    let behind_fixed = stands_back mem base (fixed_fields i) (lists i ++ (fill ++ (i.code ++ i.tables))) stands in
    let behind_lists = stands_back mem (base + length (fixed_fields i)) (lists i) (fill ++ (i.code ++ i.tables)) behind_fixed in
    let behind_fill = stands_back mem (base + length (fixed_fields i) + length (lists i)) fill (i.code ++ i.tables) behind_lists
    in
    let place : base + length (fixed_fields i) + length (lists i) + length fill
    ≡ base + code_offset i = omega (arith, fixed, length-replicate {A = ℕ} (code_offset i - header_length i) 0) in
    rw (← place) behind_fill

-- the image ends behind them
pub image_ends : (i : Image) → length (spelling i) ≡ code_offset i + length (i.code ++ i.tables)
image_ends i =
    let fill = replicate (code_offset i - header_length i) 0 in
    let fixed : length (fixed_fields i) ≡ 48 = refl in
    let filled : length fill ≡ code_offset i - header_length i = length-replicate {A = ℕ} (code_offset i - header_length i) 0 in
    let one : length (spelling i) ≡ length (fixed_fields i) + length (lists i ++ (fill ++ (i.code ++ i.tables))) =
    length-append (fixed_fields i) (lists i ++ (fill ++ (i.code ++ i.tables))) in
    let two : length (lists i ++ (fill ++ (i.code ++ i.tables))) ≡ length (lists i) + length (fill ++ (i.code ++ i.tables)) =
    length-append (lists i) (fill ++ (i.code ++ i.tables)) in
    let three : length (fill ++ (i.code ++ i.tables)) ≡ length fill + length (i.code ++ i.tables) =
    length-append fill (i.code ++ i.tables) in
    omega (arith, fixed, filled, one, two, three)
