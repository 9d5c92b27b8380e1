-- What is printed is read back.
use Rattle.std.proofs.Common.{◌≡◌, refl, sym, ◌∙◌, ap, subst, ℕ, suc, ◌+◌, ◌≤◌, nat_eq, true, false, List, [], ◌∷◌, ◌++◌, map}
use Rattle.std.proofs.Common.{append_assoc, append-nil, length, length-append, arith, Result, Ok, None}
use Rattle.std.proofs.lemmas.Grind.{common_steps}
use Rattle.rup_base.specs.Spelling.{behind_spaces}
use Rattle.rup_base.specs.declared.arg.Place.{Place}
use Rattle.rup_base.specs.Gather.{greatest, all_true}
use Rattle.rup_base.specs.declared.refusal.Refusal.{Refusal}
use Rattle.sx_text.specs.declared.tree.Sx.{Sx, Sx-F, ind-Sx, map-Sx, roll-Sx}
use Rattle.sx_text.specs.declared.tree.Sx.TheVariants.{Atom, Kids, rolls-Atom, rolls-Kids}
use Rattle.sx_text.specs.declared.tree.Sx.TheOpen as x
use Rattle.sx_text.specs.Bytes.{word_length}
use Rattle.sx_text.specs.Forms.{Rest, rest_of, fault, read, place, opened, closed, deepest}
use Rattle.sx_text.specs.Spelling.{text, levels, is_spelled, bare, spaced, IsReadBack}
use Rattle.sx_text.proofs.laws.Atoms.{and_parts, rest_of-atom, fault-atom}
use Rattle.sx_text.proofs.laws.Layers.{text-Atom, text-Kids, levels-Kids, is_spelled-Atom, is_spelled-Kids, bare-Atom, bare-Kids}

-- two rests with the same forms but for places
abbrev Same : Rest → Rest → Type 0
Same r s = (map bare r.0 ≡ map bare s.0) × (r.1 ≡ s.1)

-- forms before a rest
abbrev before : List Sx → Rest → Rest
before forms rest = (forms ++ rest.0, rest.1)

abbrev IsRead : Sx → Type 0
IsRead s = (at : ℕ) (more : List ℕ) → is_spelled s ≡ true → word_length more ≡ 0
    → Same (rest_of 0 at (text s ++ more)) (before (s ∷ []) (rest_of 0 (at + length (text s)) more))

abbrev IsFaultless : Sx → Type 0
IsFaultless s = (level at : ℕ) (more : List ℕ) → is_spelled s ≡ true → level + levels s ≤ deepest → word_length more ≡ 0
    → fault 0 level at (text s ++ more) ≡ fault 0 level (at + length (text s)) more

-- a form that is read back and has no fault
abbrev Holds : Sx → Type 0
Holds s = IsRead s × IsFaultless s

abbrev Proved : Type 0
Proved = (s : Sx) × Holds s

abbrev forms_of : List Proved → List Sx
forms_of = map (λ (k : Proved). k.0)

-- behind a form in a list stands no byte that goes on an atom
ends_behind : (ts : List (List ℕ)) (more : List ℕ) → word_length more ≡ 0 → word_length (behind_spaces ts ++ more) ≡ 0
ends_behind [] more h = h
ends_behind (t ∷ ts) more h = refl

read-Atom : (p : Place) (t : List ℕ) → IsRead (Atom p t)
read-Atom p [] at more h ends = absurd (let e = sym (is_spelled-Atom p []) ∙ h in cc)
read-Atom p (b ∷ bs) at more h ends =
    let spelled = sym (is_spelled-Atom p (b ∷ bs)) ∙ h in
    let rest : Rest = rest_of 0 (at + length (b ∷ bs)) more in
    rw text-Atom (rw (rest_of-atom b bs more at spelled ends)
    (ap (λ (s : Sx). s ∷ map bare rest.0) (bare-Atom _ (b ∷ bs) ∙ sym (bare-Atom p (b ∷ bs))), refl))

faultless-Atom : (p : Place) (t : List ℕ) → IsFaultless (Atom p t)
faultless-Atom p [] level at more h l ends = absurd (let e = sym (is_spelled-Atom p []) ∙ h in cc)
faultless-Atom p (b ∷ bs) level at more h l ends =
    rw text-Atom (fault-atom b bs more at (sym (is_spelled-Atom p (b ∷ bs)) ∙ h) ends level)

-- the forms of a list, each behind a space
behind_read : (ks : List Proved) (at : ℕ) (more : List ℕ) → all_true (map is_spelled (forms_of ks)) ≡ true → word_length more ≡ 0
    → Same (rest_of 0 at (behind_spaces (map text (forms_of ks)) ++ more))
    (before (forms_of ks) (rest_of 0 (at + length (behind_spaces (map text (forms_of ks)))) more))
unfolding rest_of
behind_read [] at more h ends = let e : at + 0 ≡ at = omega arith in rw e (refl, refl)
behind_read (k ∷ ks) at more h ends =
    let p = and_parts (is_spelled k.0) (all_true (map is_spelled (forms_of ks))) h in
    let t : List ℕ = text k.0 in
    let us : List ℕ = behind_spaces (map text (forms_of ks)) in
    let one = k.1.0 (at + 1) (us ++ more) p.0 (ends_behind (map text (forms_of ks)) more ends) in
    let others = behind_read ks (at + 1 + length t) more p.1 ends in
    let moved : at + suc (length (t ++ us)) ≡ at + 1 + length t + length us = omega (arith, length-append t us) in
    rw (moved, append_assoc t us more)
    (one.0 ∙ ap (λ (l : List Sx). bare k.0 ∷ l) others.0, one.1 ∙ others.1)

-- the forms of a list, with a space between each two
spaced_read : (ks : List Proved) (at : ℕ) (more : List ℕ) → all_true (map is_spelled (forms_of ks)) ≡ true → word_length more ≡ 0
    → Same (rest_of 0 at (spaced (map text (forms_of ks)) ++ more))
    (before (forms_of ks) (rest_of 0 (at + length (spaced (map text (forms_of ks)))) more))
spaced_read [] at more h ends = let e : at + 0 ≡ at = omega arith in rw e (refl, refl)
spaced_read (k ∷ ks) at more h ends =
    let p = and_parts (is_spelled k.0) (all_true (map is_spelled (forms_of ks))) h in
    let t : List ℕ = text k.0 in
    let us : List ℕ = behind_spaces (map text (forms_of ks)) in
    let one = k.1.0 at (us ++ more) p.0 (ends_behind (map text (forms_of ks)) more ends) in
    let others = behind_read ks (at + length t) more p.1 ends in
    let moved : at + length (t ++ us) ≡ at + length t + length us = omega (arith, length-append t us) in
    rw (moved, append_assoc t us more)
    (one.0 ∙ ap (λ (l : List Sx). bare k.0 ∷ l) others.0, one.1 ∙ others.1)

rest_of-closed : (at : ℕ) (more : List ℕ) → rest_of 0 at (41 ∷ more) ≡ closed at (rest_of 0 (at + 1) more)
unfolding rest_of
rest_of-closed at more = refl

rest_of-opened : (at : ℕ) (more : List ℕ) → rest_of 0 at (40 ∷ more) ≡ opened at (rest_of 0 (at + 1) more)
unfolding rest_of
rest_of-opened at more = refl

-- a `(` before a rest that begins with the forms of its list
opened_same : (p : Place) (forms : List Sx) (at end : ℕ) (inner outer : Rest)
    → map bare inner.0 ≡ map bare forms → inner.1 ≡ (end, outer.0) ∷ outer.1
    → Same (opened at inner) (before (Kids p forms ∷ []) outer)
opened_same p forms at end (kids, closes) outer b e =
    subst (λ (cs : List (ℕ × List Sx)). Same (opened at (kids, cs)) (before (Kids p forms ∷ []) outer)) (sym e)
    (ap (λ (s : Sx). s ∷ map bare outer.0) (bare-Kids _ kids ∙ ap (Kids (place 0 0)) b ∙ sym (bare-Kids p forms)), refl)

read-Kids : (p : Place) (ks : List Proved) → IsRead (Kids p (forms_of ks))
read-Kids p ks at more h ends =
    let spelled = sym (is_spelled-Kids p (forms_of ks)) ∙ h in
    let inside : List ℕ = spaced (map text (forms_of ks)) in
    let end : ℕ = at + 1 + length inside in
    let outer : Rest = rest_of 0 (end + 1) more in
    let inner : Rest = rest_of 0 (at + 1) (inside ++ 41 ∷ more) in
    let read = spaced_read ks (at + 1) (41 ∷ more) spelled refl in
    let closes = rest_of-closed end more in
    let same = opened_same p (forms_of ks) at (end + 1) inner outer
    (read.0 ∙ ap (λ (r : Rest). map bare (forms_of ks ++ r.0)) closes ∙ ap (map bare) (append-nil (forms_of ks)))
    (read.1 ∙ ap (λ (r : Rest). r.1) closes) in
    let moved : at + length (40 ∷ inside ++ 41 ∷ []) ≡ end + 1 = omega (arith, length-append inside (41 ∷ [])) in
    rw text-Kids (rw moved (
      ap (λ (r : Rest). map bare r.0)
          (rest_of-opened at _ ∙ ap (λ (l : List ℕ). opened at (rest_of 0 (at + 1) l)) (append_assoc inside (41 ∷ []) more))
          ∙ same.0,
      ap (λ (r : Rest). r.1) (rest_of-opened at _
          ∙ ap (λ (l : List ℕ). opened at (rest_of 0 (at + 1) l)) (append_assoc inside (41 ∷ []) more)) ∙ same.1,
    ))

fault-space : (level at : ℕ) (more : List ℕ) → fault 0 level at (32 ∷ more) ≡ fault 0 level (at + 1) more
unfolding fault
fault-space level at more = refl

fault-closed : (level at : ℕ) (more : List ℕ) → fault 0 (suc level) at (41 ∷ more) ≡ fault 0 level (at + 1) more
unfolding fault
fault-closed level at more = refl

fault-opened : (level at : ℕ) (more : List ℕ) → nat_eq level deepest ≡ false
    → fault 0 level at (40 ∷ more) ≡ fault 0 (level + 1) (at + 1) more
unfolding fault
fault-opened level at more h = rw (h, fault) refl

behind_faultless : (ks : List Proved) (level at : ℕ) (more : List ℕ) → all_true (map is_spelled (forms_of ks)) ≡ true
    → level + greatest (map levels (forms_of ks)) ≤ deepest → word_length more ≡ 0
    → fault 0 level at (behind_spaces (map text (forms_of ks)) ++ more)
    ≡ fault 0 level (at + length (behind_spaces (map text (forms_of ks)))) more
behind_faultless [] level at more h l ends = let e : at + 0 ≡ at = omega arith in rw e refl
behind_faultless (k ∷ ks) level at more h l ends =
    let p = and_parts (is_spelled k.0) (all_true (map is_spelled (forms_of ks))) h in
    let t : List ℕ = text k.0 in
    let us : List ℕ = behind_spaces (map text (forms_of ks)) in
    let first : level + levels k.0 ≤ deepest = omega arith in
    let others : level + greatest (map levels (forms_of ks)) ≤ deepest = omega arith in
    let moved : at + suc (length (t ++ us)) ≡ at + 1 + length t + length us = omega (arith, length-append t us) in
    rw moved
    (fault-space level at _ ∙ ap (fault 0 level (at + 1)) (append_assoc t us more)
    ∙ k.1.1 level (at + 1) (us ++ more) p.0 first (ends_behind (map text (forms_of ks)) more ends)
    ∙ behind_faultless ks level (at + 1 + length t) more p.1 others ends)

spaced_faultless : (ks : List Proved) (level at : ℕ) (more : List ℕ) → all_true (map is_spelled (forms_of ks)) ≡ true
    → level + greatest (map levels (forms_of ks)) ≤ deepest → word_length more ≡ 0
    → fault 0 level at (spaced (map text (forms_of ks)) ++ more)
    ≡ fault 0 level (at + length (spaced (map text (forms_of ks)))) more
spaced_faultless [] level at more h l ends = let e : at + 0 ≡ at = omega arith in rw e refl
spaced_faultless (k ∷ ks) level at more h l ends =
    let p = and_parts (is_spelled k.0) (all_true (map is_spelled (forms_of ks))) h in
    let t : List ℕ = text k.0 in
    let us : List ℕ = behind_spaces (map text (forms_of ks)) in
    let first : level + levels k.0 ≤ deepest = omega arith in
    let others : level + greatest (map levels (forms_of ks)) ≤ deepest = omega arith in
    let moved : at + length (t ++ us) ≡ at + length t + length us = omega (arith, length-append t us) in
    rw moved
    (ap (fault 0 level at) (append_assoc t us more)
    ∙ k.1.1 level at (us ++ more) p.0 first (ends_behind (map text (forms_of ks)) more ends)
    ∙ behind_faultless ks level (at + length t) more p.1 others ends)

faultless-Kids : (p : Place) (ks : List Proved) → IsFaultless (Kids p (forms_of ks))
faultless-Kids p ks level at more h l ends =
    let spelled = sym (is_spelled-Kids p (forms_of ks)) ∙ h in
    let inside : List ℕ = spaced (map text (forms_of ks)) in
    let depth : level + (1 + greatest (map levels (forms_of ks))) ≤ deepest = omega (arith, levels-Kids p (forms_of ks)) in
    let shallow : nat_eq level deepest ≡ false = grind (arith, common_steps) in
    let deeper : level + 1 ≡ suc level = omega arith in
    let kids : suc level + greatest (map levels (forms_of ks)) ≤ deepest = omega arith in
    let moved : at + length (40 ∷ inside ++ 41 ∷ []) ≡ at + 1 + length inside + 1 = omega (arith, length-append inside (41 ∷ []))
    in
    rw text-Kids (rw moved
    (fault-opened level at _ shallow
    ∙ ap (λ (n : ℕ). fault 0 n (at + 1) ((inside ++ 41 ∷ []) ++ more)) deeper
    ∙ ap (fault 0 (suc level) (at + 1)) (append_assoc inside (41 ∷ []) more)
    ∙ spaced_faultless ks (suc level) (at + 1) (41 ∷ more) spelled kids refl
    ∙ fault-closed level (at + 1 + length inside) more))

layer : (y : Sx-F Proved) → Holds (roll-Sx (map-Sx Proved Sx (λ k. k.0) y))
layer (x.Atom p t) = subst Holds (sym (rolls-Atom p t)) (read-Atom p t, faultless-Atom p t)
layer (x.Kids p ks) = subst Holds (sym (rolls-Kids p (forms_of ks))) (read-Kids p ks, faultless-Kids p ks)

holds : (s : Sx) → Holds s
holds = ind-Sx Holds (λ z y is. subst (λ w. Holds (roll-Sx w)) is (layer y))

-- at the end of the text, behind a line feed
fault-end : (at : ℕ) → fault 0 0 at (10 ∷ []) ≡ None
unfolding fault
fault-end at = refl

rest_of-end : (at : ℕ) → rest_of 0 at (10 ∷ []) ≡ ([], [])
unfolding rest_of
rest_of-end at = refl

one_of : (forms : List Sx) (s : Sx) → map bare forms ≡ bare s ∷ [] → (t : Sx) × (forms ≡ t ∷ []) × (bare t ≡ bare s)
one_of [] s h = absurd cc
one_of (t ∷ []) s h = (t, refl, cc)
one_of (t ∷ u ∷ ts) s h = absurd cc

abbrev answer_of : List Sx → Result (List Sx) Refusal
answer_of forms = Ok forms

read_as : (word : ℕ) (bytes : List ℕ) (s : Sx) → fault 0 0 0 bytes ≡ None
    → (t : Sx) × ((rest_of 0 0 bytes).0 ≡ t ∷ []) × (bare t ≡ bare s)
    → (t : Sx) × (read word bytes ≡ Ok (t ∷ [])) × (bare t ≡ bare s)
read_as word bytes s none (t, is, same) = (t, rw none (ap (λ (forms : List Sx). answer_of forms) is), same)

pub printed_is_read : (word : ℕ) (s : Sx) → is_spelled s ≡ true → levels s ≤ deepest → IsReadBack word s
printed_is_read word s h l =
    let within : 0 + levels s ≤ deepest = omega arith in
    let end : ℕ = 0 + length (text s) in
    let none = (holds s).1 0 0 (10 ∷ []) h within refl ∙ fault-end end in
    let read = ((holds s).0 0 (10 ∷ []) h refl).0 ∙ ap (λ (r : Rest). map bare (s ∷ r.0)) (rest_of-end end) in
    read_as word (text s ++ 10 ∷ []) s none (one_of _ s read)
