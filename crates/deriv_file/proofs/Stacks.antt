-- Stacks of trees, whose last element comes first.
use Rattle.std.proofs.Common.{◌≡◌, ℕ, zero, suc, ◌+◌, ◌-◌, ◌<◌, ◌≤◌, List, [], ◌∷◌, ◌++◌, length, reverse, take, drop, sym, ◌∙◌}
use Rattle.std.proofs.Common.{ap, append_assoc, length-append, arith, refl}
use Rattle.std.proofs.lemmas.List.{reverse-append, append-nil}
use Rattle.deriv_tree.specs.declared.listed.Listed.{Listed}
use Rattle.deriv_file.specs.Forest.{Trees, grow, grown}

pub last_first : {A : Type 0} (old new : List A) (x : A) → old ≡ new ++ x ∷ [] → reverse old ≡ x ∷ reverse new
last_first old new x h = ap reverse h ∙ reverse-append new (x ∷ [])

length_snoc : {A : Type 0} (xs : List A) (x : A) → length (xs ++ x ∷ []) ≡ length xs + 1
length_snoc xs x = length-append xs (x ∷ [])

-- one more tree is taken
pub taken_more : {A : Type 0} (count : ℕ) (taken more old new : List A) (x : A) (whole : List A)
    → length taken < count → old ≡ new ++ x ∷ [] → more ≡ taken ++ x ∷ []
    → taken ++ take (count - length taken) (reverse old) ≡ whole
    → more ++ take (count - length more) (reverse new) ≡ whole
taken_more count taken more old new x whole few popped pushed was =
    let top : reverse old ≡ x ∷ reverse new = last_first old new x popped in
    let size : length more ≡ length taken + 1 = ap length pushed ∙ length_snoc taken x in
    let room : count - length taken ≡ suc (count - length more) = omega (arith, size, few) in
    let step : taken ++ take (count - length taken) (reverse old) ≡ taken ++ (x ∷ take (count - length more) (reverse new)) =
    rw (top, room) in
    ap (λ xs. xs ++ take (count - length more) (reverse new)) pushed
    ∙ append_assoc taken (x ∷ []) (take (count - length more) (reverse new)) ∙ sym step ∙ was

pub left_more : {A : Type 0} (count : ℕ) (taken more old new : List A) (x : A) (whole : List A)
    → length taken < count → old ≡ new ++ x ∷ [] → more ≡ taken ++ x ∷ []
    → drop (count - length taken) (reverse old) ≡ whole
    → drop (count - length more) (reverse new) ≡ whole
left_more count taken more old new x whole few popped pushed was =
    let top : reverse old ≡ x ∷ reverse new = last_first old new x popped in
    let size : length more ≡ length taken + 1 = ap length pushed ∙ length_snoc taken x in
    let room : count - length taken ≡ suc (count - length more) = omega (arith, size, few) in
    let step : drop (count - length taken) (reverse old) ≡ drop (count - length more) (reverse new) = rw (top, room) in
    sym step ∙ was

-- nothing more is to be taken
pub taken_all : {A : Type 0} (count : ℕ) (taken old whole : List A) → count ≤ length taken
    → taken ++ take (count - length taken) (reverse old) ≡ whole → taken ≡ whole
taken_all count taken old whole enough was =
    let none : count - length taken ≡ 0 = omega (arith, enough) in
    let same : taken ++ take (count - length taken) (reverse old) ≡ taken = rw none (append-nil taken) in
    sym same ∙ was

pub left_all : {A : Type 0} (count : ℕ) (taken old whole : List A) → count ≤ length taken
    → drop (count - length taken) (reverse old) ≡ whole → reverse old ≡ whole
left_all count taken old whole enough was =
    let none : count - length taken ≡ 0 = omega (arith, enough) in
    let same : drop (count - length taken) (reverse old) ≡ reverse old = rw none in
    sym same ∙ was

take_nil : {A : Type 0} (n : ℕ) → take {A = A} n [] ≡ []
take_nil zero = refl
take_nil (suc n) = refl

drop_nil : {A : Type 0} (n : ℕ) → drop {A = A} n [] ≡ []
drop_nil zero = refl
drop_nil (suc n) = refl

-- nothing more is there
pub taken_out : {A : Type 0} (n : ℕ) (taken old whole : List A) → old ≡ [] → taken ++ take n (reverse old) ≡ whole → taken ≡ whole
taken_out {A = A} n taken old whole empty was =
    let same : taken ++ take n (reverse old) ≡ taken = rw empty (rw (take_nil {A = A} n) (append-nil taken)) in
    sym same ∙ was

pub left_out : {A : Type 0} (n : ℕ) (old new whole : List A) → old ≡ [] → new ≡ [] → drop n (reverse old) ≡ whole
    → reverse new ≡ whole
left_out {A = A} n old new whole empty still was =
    let same : drop n (reverse old) ≡ [] = rw empty (drop_nil {A = A} n) in
    let now : reverse new ≡ [] = rw still in
    now ∙ sym same ∙ was

-- the last node of a list comes before what is in front of it
pub grown_snoc : (ns : List Listed) (n : Listed) (t : Trees) → grown (ns ++ n ∷ []) t ≡ grown ns (grow n t)
grown_snoc [] n t = refl
grown_snoc (m ∷ ns) n t = ap (grow m) (grown_snoc ns n t)
