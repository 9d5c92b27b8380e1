-- One turn of the reader at each class of byte: what is read and what is left mean the whole text, as before.
use Rattle.std.proofs.Common.{◌≡◌, refl, sym, ◌∙◌, ap, subst, ℕ, ◌+◌, ◌<◌, ◌≤◌, length, List, [], ◌∷◌, ◌++◌, append-nil, drop}
use Rattle.std.proofs.Common.{take, reverse, get_or, arith, Some, None, Result, Ok, Err, length-drop, length-take}
use Rattle.std.proofs.lemmas.List.{reverse-append}
use Rattle.rup_base.specs.Answers.{Answers}
use Rattle.rup_base.specs.declared.fail.Fail.{Fail}
use Rattle.rup_base.specs.declared.fail.Fail.TheVariants.{Refused}
use Rattle.rup_base.specs.declared.refusal.Refusal.{Refusal}
use Rattle.rup_base.specs.declared.refusal.Refusal.TheVariants.{NotText}
use Rattle.rup_base.specs.declared.refusal.TextWhy.{TextWhy}
use Rattle.sx_text.specs.declared.byte_class.Class.TheVariants.{Open, Close, Word}
use Rattle.sx_text.specs.declared.reader.Frame.{Frame}
use Rattle.sx_text.specs.declared.tree.Sx.{Sx}
use Rattle.sx_text.specs.declared.tree.Sx.TheVariants.{Atom, Kids}
use Rattle.sx_text.specs.Bytes.{class, word_length}
use Rattle.sx_text.specs.Forms.{Rest, rest_of, fault, read, place}
use Rattle.sx_text.proofs.Classes.{rest_of-Open, rest_of-Close, rest_of-Word, rest_of-end, fault-None}
use Rattle.sx_text.proofs.Plugged.{plugged, plugged-more}

pub answers_refused : {T : Type 0} (fail : Fail) (refusal : Refusal) (answer : Result T Refusal)
    → fail ≡ Refused refusal → answer ≡ Err refusal → Answers (Err fail) answer
answers_refused fail refusal answer e h = subst (λ (f : Fail). Answers (Err f) answer) (sym e) h

pub read-fault : (word at : ℕ) (why : TextWhy) (bytes : List ℕ) → fault 0 0 0 bytes ≡ Some (at, why)
    → read word bytes ≡ Err (NotText word at why)
read-fault word at why bytes e = rw e refl

-- the whole answer where a byte, or the end, is at fault
pub refuses : (fail : Fail) (word level at : ℕ) (why : TextWhy) (bytes : List ℕ)
    → fail ≡ Refused (NotText word at why)
    → fault 0 level at (drop at bytes) ≡ fault 0 0 0 bytes → fault 0 level at (drop at bytes) ≡ Some (at, why)
    → Answers {T = List Sx} (Err fail) (read word bytes)
refuses fail word level at why bytes e kept found =
    answers_refused fail (NotText word at why) (read word bytes) e (read-fault word at why bytes (sym kept ∙ found))

pub finishes : (word at : ℕ) (bytes : List ℕ) (frames : List Frame) (forms : List Sx) → length bytes ≤ at → frames ≡ []
    → fault 0 (length frames) at (drop at bytes) ≡ fault 0 0 0 bytes
    → plugged (reverse frames) forms (rest_of 0 at (drop at bytes)) ≡ rest_of 0 0 bytes
    → read word bytes ≡ Ok forms
finishes word at bytes frames forms h e faults means =
    let none : fault 0 0 0 bytes ≡ None =
    sym (subst (λ (fs : List Frame). fault 0 (length fs) at (drop at bytes) ≡ fault 0 0 0 bytes) e faults) ∙ fault-None bytes at h
    in
    let all : rest_of 0 0 bytes ≡ (forms ++ [], []) =
    sym (subst (λ (fs : List Frame). plugged (reverse fs) forms (rest_of 0 at (drop at bytes)) ≡ rest_of 0 0 bytes) e means)
    ∙ ap (plugged [] forms) (rest_of-end bytes at h) in
    rw (none, all) (ap (λ (ks : List Sx). let r : Result (List Sx) Refusal = Ok ks in r) (append-nil forms))

module _ (bytes : List ℕ) (at : ℕ) (h : at < length bytes) where
  pub opens : (old new : List Frame) (forms none : List Sx) → class (get_or bytes at 0) ≡ Open
      → new ≡ old ++ record { start = at; before = forms } ∷ [] → none ≡ []
      → plugged (reverse old) forms (rest_of 0 at (drop at bytes)) ≡ rest_of 0 0 bytes
      → plugged (reverse new) none (rest_of 0 (at + 1) (drop (at + 1) bytes)) ≡ rest_of 0 0 bytes
  opens old new forms none e n m means =
      let f : Frame = record { start = at; before = forms } in
      rw (n, m, reverse-append old (f ∷ []))
      (ap (plugged (reverse old) forms) (sym (rest_of-Open bytes at h e)) ∙ means)

  pub closes : (old new : List Frame) (f : Frame) (forms more : List Sx) → class (get_or bytes at 0) ≡ Close
      → old ≡ new ++ f ∷ [] → more ≡ f.before ++ Kids (place f.start (at + 1)) forms ∷ []
      → plugged (reverse old) forms (rest_of 0 at (drop at bytes)) ≡ rest_of 0 0 bytes
      → plugged (reverse new) more (rest_of 0 (at + 1) (drop (at + 1) bytes)) ≡ rest_of 0 0 bytes
  closes old new f forms more e n m means =
      let rest : Rest = rest_of 0 (at + 1) (drop (at + 1) bytes) in
      let turned : reverse old ≡ f ∷ reverse new = ap reverse n ∙ reverse-append new (f ∷ []) in
      rw m
      (plugged-more (reverse new) f.before (Kids (place f.start (at + 1)) forms) rest
      ∙ ap (λ (ks : List Sx). plugged (reverse new) f.before (Kids (place f.start (at + 1)) ks ∷ rest.0, rest.1))
      (sym (append-nil forms))
      ∙ ap (plugged (f ∷ reverse new) forms) (sym (rest_of-Close bytes at h e))
      ∙ subst (λ (fs : List Frame). plugged fs forms (rest_of 0 at (drop at bytes)) ≡ rest_of 0 0 bytes) turned means)

  pub words : (n : ℕ) (frames : List Frame) (forms more : List Sx) (text : List ℕ) → class (get_or bytes at 0) ≡ Word
      → n ≡ word_length (drop (at + 1) bytes) → at + 1 + n ≤ length bytes
      → text ≡ take (n + 1) (drop at bytes) → more ≡ forms ++ Atom (place at (at + 1 + n)) text ∷ []
      → plugged frames forms (rest_of 0 at (drop at bytes)) ≡ rest_of 0 0 bytes
      → plugged frames more (rest_of 0 (at + 1 + n) (drop (at + 1 + n) bytes)) ≡ rest_of 0 0 bytes
  words n frames forms more text e w within t m means =
      let rest : Rest = rest_of 0 (at + 1 + n) (drop (at + 1 + n) bytes) in
      let long : length (take (n + 1) (drop at bytes))
      ≡ n + 1 = length-take (n + 1) (drop at bytes) ∙ (omega (arith, length-drop at bytes)) in
      let ends : at + 1 + n ≡ at + length (take (n + 1) (drop at bytes)) = omega (arith, long) in
      rw m
      (plugged-more frames forms (Atom (place at (at + 1 + n)) text) rest
      ∙ ap (λ (t : List ℕ). plugged frames forms (Atom (place at (at + 1 + n)) t ∷ rest.0, rest.1)) t
      ∙ ap (λ (end : ℕ). plugged frames forms (Atom (place at end) (take (n + 1) (drop at bytes)) ∷ rest.0, rest.1)) ends
      ∙ ap (plugged frames forms) (sym (rest_of-Word bytes at h n w e)) ∙ means)
