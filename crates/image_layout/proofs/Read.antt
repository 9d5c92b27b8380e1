-- The parts of an image are judged one after another.
use Rattle.std.proofs.Common.{◌≡◌, ℕ, List, ◌++◌, Option, Some, None, Result, Ok, Err, sym, ap, ◌∙◌}
use Rattle.std.specs.Int.{next_multiple_of}
use Rattle.rup_base.specs.Answers.{Answers}
use Rattle.rup_base.specs.declared.fail.Fail.{Fail}
use Rattle.rup_base.specs.declared.refusal.Refusal.{Refusal}
use Rattle.image_layout.specs.declared.image.Image.{Image}
use Rattle.image_layout.specs.declared.reading.lists.Lists.{Lists}
use Rattle.image_layout.specs.Reading.{Field, first_wrong, verdict, judged, start_fields, offset_fields, middle_fields}
use Rattle.image_layout.specs.Reading.{list_fields, lists_of, rest_fields, header_end, offset_asked, rest_of, fields, image_of}
use Rattle.image_layout.proofs.Entries.{done, verdict_ok, verdict_err, wrong_first, wrong_second, wrong-none, wrong-some, between}

pub header_is : (bytes : List ℕ) (l : Lists) → l ≡ lists_of bytes → l.header ≡ header_end bytes
unfolding lists_of
header_is bytes l e = ap (λ (x : Lists). x.header) e

-- From the offset of the code on, where the lists are right.

pub offset_wrong : (bytes : List ℕ) (offset : ℕ) (f : Fail) (v : Image) → offset ≡ next_multiple_of (header_end bytes) 16
    → Answers {T = Unit {0}} (Err f) (judged (offset_fields bytes (Some offset)) tt)
    → Answers {T = Image} (Err f) (judged (rest_of bytes) v)
unfolding rest_of
offset_wrong bytes offset f v e h =
    wrong_first (offset_fields bytes (Some (next_multiple_of (header_end bytes) 16)))
    (middle_fields bytes ++ rest_fields bytes (header_end bytes)) f done v (rw e at h)

offset_right : (bytes : List ℕ) (offset : ℕ) → offset ≡ next_multiple_of (header_end bytes) 16
    → judged (offset_fields bytes (Some offset)) done ≡ Ok done
    → first_wrong (offset_fields bytes (Some (next_multiple_of (header_end bytes) 16))) ≡ None
offset_right bytes offset e h = let p = verdict_ok (first_wrong (offset_fields bytes (Some offset))) done done h in rw e at p.0

pub middle_wrong : (bytes : List ℕ) (offset : ℕ) (f : Fail) (v : Image) → offset ≡ next_multiple_of (header_end bytes) 16
    → judged (offset_fields bytes (Some offset)) done ≡ Ok done
    → Answers {T = Unit {0}} (Err f) (judged (middle_fields bytes) tt) → Answers {T = Image} (Err f) (judged (rest_of bytes) v)
unfolding rest_of
middle_wrong bytes offset f v e right h =
    wrong_second (offset_fields bytes (Some (next_multiple_of (header_end bytes) 16)))
    (middle_fields bytes ++ rest_fields bytes (header_end bytes)) f done v (offset_right bytes offset e right)
    (wrong_first (middle_fields bytes) (rest_fields bytes (header_end bytes)) f done done h)

pub tail_wrong : (bytes : List ℕ) (offset header : ℕ) (f : Fail) (v : Image) → offset ≡ next_multiple_of (header_end bytes) 16
    → header ≡ header_end bytes → judged (offset_fields bytes (Some offset)) done ≡ Ok done
    → judged (middle_fields bytes) done ≡ Ok done → Answers {T = Unit {0}} (Err f) (judged (rest_fields bytes header) tt)
    → Answers {T = Image} (Err f) (judged (rest_of bytes) v)
unfolding rest_of
tail_wrong bytes offset header f v e header_now right middle h =
    let p = verdict_ok (first_wrong (middle_fields bytes)) done done middle in
    wrong_second (offset_fields bytes (Some (next_multiple_of (header_end bytes) 16)))
    (middle_fields bytes ++ rest_fields bytes (header_end bytes)) f done v (offset_right bytes offset e right)
    (wrong_second (middle_fields bytes) (rest_fields bytes (header_end bytes)) f done done p.0 (rw header_now at h))

pub all_right : (bytes : List ℕ) (offset header : ℕ) (v : Image) → offset ≡ next_multiple_of (header_end bytes) 16
    → header ≡ header_end bytes → judged (offset_fields bytes (Some offset)) done ≡ Ok done
    → judged (middle_fields bytes) done ≡ Ok done → judged (rest_fields bytes header) done ≡ Ok done
    → judged (rest_of bytes) v ≡ Ok v
unfolding rest_of
all_right bytes offset header v e header_now right middle tail =
    let p = verdict_ok (first_wrong (middle_fields bytes)) done done middle in
    let q = verdict_ok (first_wrong (rest_fields bytes header)) done done tail in
    let last : first_wrong (rest_fields bytes (header_end bytes)) ≡ None = rw header_now at q.0 in
    ap (λ (o : Option ℕ). verdict o v)
    (wrong-none (offset_fields bytes (Some (next_multiple_of (header_end bytes) 16)))
    (middle_fields bytes ++ rest_fields bytes (header_end bytes)) (offset_right bytes offset e right)
    ∙ wrong-none (middle_fields bytes) (rest_fields bytes (header_end bytes)) p.0 ∙ last)

-- The whole.

abbrev behind_start : List ℕ → Option ℕ → List Field
behind_start bytes asked = offset_fields bytes asked
    ++ (middle_fields bytes ++ (list_fields bytes ++ rest_fields bytes (header_end bytes)))

pub start_wrong : (bytes : List ℕ) (f : Fail) (v : Image) → Answers {T = Unit {0}} (Err f) (judged (start_fields bytes) tt)
    → Answers {T = Image} (Err f) (judged (fields bytes) v)
unfolding fields
start_wrong bytes f v h = wrong_first (start_fields bytes)
    (behind_start bytes (offset_asked bytes (first_wrong (list_fields bytes)))) f done v h

-- where the lists are right, the fields behind the start are those that are left
pub right_lists : (bytes : List ℕ) (l : Lists) → judged (start_fields bytes) done ≡ Ok done
    → judged (list_fields bytes) (lists_of bytes) ≡ Ok l → first_wrong (fields bytes) ≡ first_wrong (rest_of bytes)
unfolding fields rest_of
right_lists bytes l start lists =
    let s = verdict_ok (first_wrong (start_fields bytes)) done done start in
    let p = verdict_ok (first_wrong (list_fields bytes)) (lists_of bytes) l lists in
    let right : first_wrong (list_fields bytes) ≡ None = p.0 in
    rw right (wrong-none (start_fields bytes) (behind_start bytes (Some (next_multiple_of (header_end bytes) 16))) s.0
    ∙ behind (offset_fields bytes (Some (next_multiple_of (header_end bytes) 16))) (middle_fields bytes) right)
  where
    behind : (xs ys : List Field) → first_wrong (list_fields bytes) ≡ None
        → first_wrong (xs ++ (ys ++ (list_fields bytes ++ rest_fields bytes (header_end bytes))))
        ≡ first_wrong (xs ++ (ys ++ rest_fields bytes (header_end bytes)))
    behind xs ys right = between xs (ys ++ (list_fields bytes ++ rest_fields bytes (header_end bytes)))
        (ys ++ rest_fields bytes (header_end bytes))
        (between ys (list_fields bytes ++ rest_fields bytes (header_end bytes)) (rest_fields bytes (header_end bytes))
        (wrong-none (list_fields bytes) (rest_fields bytes (header_end bytes)) right))

pub wrong_middle : (bytes : List ℕ) (r : Refusal) (f : Fail) (v : Image) → judged (start_fields bytes) done ≡ Ok done
    → judged (list_fields bytes) (lists_of bytes) ≡ Err r
    → Answers {T = Unit {0}} (Err f) (judged (middle_fields bytes) tt) → Answers {T = Image} (Err f) (judged (fields bytes) v)
unfolding fields
wrong_middle bytes r f v start lists h =
    let s = verdict_ok (first_wrong (start_fields bytes)) done done start in
    let p = verdict_err (first_wrong (list_fields bytes)) (lists_of bytes) r lists in
    let wrong : first_wrong (list_fields bytes) ≡ Some p.0 = p.1 in
    rw wrong (wrong_second (start_fields bytes)
    (middle_fields bytes ++ (list_fields bytes ++ rest_fields bytes (header_end bytes))) f done v s.0
    (wrong_first (middle_fields bytes) (list_fields bytes ++ rest_fields bytes (header_end bytes)) f done done h))

pub wrong_lists : (bytes : List ℕ) (r : Refusal) (v : Image) → judged (start_fields bytes) done ≡ Ok done
    → judged (list_fields bytes) (lists_of bytes) ≡ Err r
    → judged (middle_fields bytes) done ≡ Ok done → judged (fields bytes) v ≡ Err r
unfolding fields
wrong_lists bytes r v start lists middle =
    let s = verdict_ok (first_wrong (start_fields bytes)) done done start in
    let m = verdict_ok (first_wrong (middle_fields bytes)) done done middle in
    let p = verdict_err (first_wrong (list_fields bytes)) (lists_of bytes) r lists in
    let wrong : first_wrong (list_fields bytes) ≡ Some p.0 = p.1 in
    let all : first_wrong (start_fields bytes
    ++ (middle_fields bytes ++ (list_fields bytes ++ rest_fields bytes (header_end bytes)))) ≡ Some p.0 =
    wrong-none (start_fields bytes) (middle_fields bytes ++ (list_fields bytes ++ rest_fields bytes (header_end bytes))) s.0
    ∙ wrong-none (middle_fields bytes) (list_fields bytes ++ rest_fields bytes (header_end bytes)) m.0
    ∙ wrong-some (list_fields bytes) (rest_fields bytes (header_end bytes)) p.0 wrong in
    rw wrong (ap (λ (o : Option ℕ). verdict o v) all ∙ ap Err (sym p.2))

pub image_right : (bytes : List ℕ) (offset header : ℕ) (i : Image) → offset ≡ next_multiple_of (header_end bytes) 16
    → header ≡ header_end bytes → judged (offset_fields bytes (Some offset)) done ≡ Ok done
    → judged (middle_fields bytes) done ≡ Ok done → judged (rest_fields bytes header) done ≡ Ok done → i ≡ image_of bytes
    → judged (rest_of bytes) (image_of bytes) ≡ Ok i
image_right bytes offset header i e header_now right middle tail is =
    all_right bytes offset header (image_of bytes) e header_now right middle tail ∙ ap Ok (sym is)

-- what is said of the fields that are left is said of all
pub with_right_lists : (bytes : List ℕ) (l : Lists) (r : Result Image Fail) → judged (start_fields bytes) done ≡ Ok done
    → judged (list_fields bytes) (lists_of bytes) ≡ Ok l
    → Answers r (judged (rest_of bytes) (image_of bytes)) → Answers r (judged (fields bytes) (image_of bytes))
with_right_lists bytes l r start lists h = rw (right_lists bytes l start lists) h
