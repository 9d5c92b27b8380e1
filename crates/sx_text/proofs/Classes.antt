-- What each class of byte does to the rest of a text and to its first fault.
use Rattle.std.proofs.Common.{◌≡◌, refl, ◌∙◌, ap, ℕ, suc, ◌+◌, ◌<◌, ◌≤◌, nat_eq, true, false, length, List, [], ◌∷◌, drop}
use Rattle.std.proofs.Common.{drop-cons, drop-drop, take, get_or, add-one, arith, Some, None, length-drop}
use Rattle.std.proofs.Math.ListN.{drop_of_length-le}
use Rattle.rup_base.specs.declared.refusal.TextWhy.TheVariants as why
use Rattle.sx_text.specs.declared.byte_class.Class.TheVariants.{Space, Note, Open, Close, Word, Bad}
use Rattle.sx_text.specs.Bytes.{class, word_length, line_length}
use Rattle.sx_text.specs.Forms.{rest_of, fault, opened, closed, worded, deepest}
use Rattle.sx_text.proofs.Jumps.{rest_of-skipped, fault-skipped}

-- a text's byte at an offset, and the text behind it
pub front : (bytes : List ℕ) (at : ℕ) → at < length bytes → drop at bytes ≡ get_or bytes at 0 ∷ drop (at + 1) bytes
front bytes at h = rw (add-one, drop-cons bytes at 0) refl

pub rest_of-jumped : (n at : ℕ) (bytes : List ℕ) → rest_of n at (drop at bytes) ≡ rest_of 0 (at + n) (drop (at + n) bytes)
rest_of-jumped n at bytes = rest_of-skipped n at (drop at bytes) ∙ ap (rest_of 0 (at + n)) (drop-drop n at bytes)

pub fault-jumped : (n level at : ℕ) (bytes : List ℕ) → at + n ≤ length bytes
    → fault n level at (drop at bytes) ≡ fault 0 level (at + n) (drop (at + n) bytes)
fault-jumped n level at bytes h =
    let fits : n ≤ length (drop at bytes) = omega (arith, length-drop at bytes) in
    fault-skipped n level at (drop at bytes) fits ∙ ap (fault 0 level (at + n)) (drop-drop n at bytes)

taken : (n b : ℕ) (bs : List ℕ) → take (n + 1) (b ∷ bs) ≡ b ∷ take n bs
taken n b bs = rw add-one refl

module _ (bytes : List ℕ) (at : ℕ) (h : at < length bytes) where
  pub rest_of-Space : class (get_or bytes at 0) ≡ Space → rest_of 0 at (drop at bytes) ≡ rest_of 0 (at + 1) (drop (at + 1) bytes)
  unfolding rest_of
  rest_of-Space e = rw (front bytes at h) (rw (e, rest_of) refl)

  pub fault-Space : (level : ℕ) → class (get_or bytes at 0) ≡ Space
      → fault 0 level at (drop at bytes) ≡ fault 0 level (at + 1) (drop (at + 1) bytes)
  unfolding fault
  fault-Space level e = rw (front bytes at h) (rw (e, fault) refl)

  pub rest_of-Note : (n : ℕ) → n ≡ line_length (drop (at + 1) bytes) → class (get_or bytes at 0) ≡ Note
      → rest_of 0 at (drop at bytes) ≡ rest_of 0 (at + 1 + n) (drop (at + 1 + n) bytes)
  unfolding rest_of
  rest_of-Note n m e = rw (front bytes at h) (rw (e, rest_of) (rw (← m) (rest_of-jumped n (at + 1) bytes)))

  pub fault-Note : (n level : ℕ) → n ≡ line_length (drop (at + 1) bytes) → at + 1 + n ≤ length bytes
      → class (get_or bytes at 0) ≡ Note
      → fault 0 level at (drop at bytes) ≡ fault 0 level (at + 1 + n) (drop (at + 1 + n) bytes)
  unfolding fault
  fault-Note n level m w e = rw (front bytes at h) (rw (e, fault) (rw (← m) (fault-jumped n level (at + 1) bytes w)))

  pub rest_of-Open : class (get_or bytes at 0) ≡ Open
      → rest_of 0 at (drop at bytes) ≡ opened at (rest_of 0 (at + 1) (drop (at + 1) bytes))
  unfolding rest_of
  rest_of-Open e = rw (front bytes at h) (rw (e, rest_of) refl)

  pub fault-Open : (level : ℕ) → nat_eq level deepest ≡ false → class (get_or bytes at 0) ≡ Open
      → fault 0 level at (drop at bytes) ≡ fault 0 (level + 1) (at + 1) (drop (at + 1) bytes)
  unfolding fault
  fault-Open level d e = rw (front bytes at h) (rw (e, fault) (rw (d, fault) refl))

  pub fault-Deep : (level : ℕ) → nat_eq level deepest ≡ true → class (get_or bytes at 0) ≡ Open
      → fault 0 level at (drop at bytes) ≡ Some (at, why.Deep)
  unfolding fault
  fault-Deep level d e = rw (front bytes at h) (rw (e, fault) (rw (d, fault) refl))

  pub rest_of-Close : class (get_or bytes at 0) ≡ Close
      → rest_of 0 at (drop at bytes) ≡ closed at (rest_of 0 (at + 1) (drop (at + 1) bytes))
  unfolding rest_of
  rest_of-Close e = rw (front bytes at h) (rw (e, rest_of) refl)

  pub fault-Close : (level : ℕ) → class (get_or bytes at 0) ≡ Close
      → fault 0 (suc level) at (drop at bytes) ≡ fault 0 level (at + 1) (drop (at + 1) bytes)
  unfolding fault
  fault-Close level e = rw (front bytes at h) (rw (e, fault) refl)

  pub fault-Extra : class (get_or bytes at 0) ≡ Close → fault 0 0 at (drop at bytes) ≡ Some (at, why.Extra)
  unfolding fault
  fault-Extra e = rw (front bytes at h) (rw (e, fault) refl)

  pub rest_of-Word : (n : ℕ) → n ≡ word_length (drop (at + 1) bytes) → class (get_or bytes at 0) ≡ Word
      → rest_of 0 at (drop at bytes) ≡ worded at (take (n + 1) (drop at bytes)) (rest_of 0 (at + 1 + n) (drop (at + 1 + n) bytes))
  unfolding rest_of
  rest_of-Word n m e =
      rw (front bytes at h) (rw (e, rest_of) (rw (← m, taken n _ _, rest_of-jumped n (at + 1) bytes) refl))

  pub fault-Word : (n level : ℕ) → n ≡ word_length (drop (at + 1) bytes) → at + 1 + n ≤ length bytes
      → class (get_or bytes at 0) ≡ Word
      → fault 0 level at (drop at bytes) ≡ fault 0 level (at + 1 + n) (drop (at + 1 + n) bytes)
  unfolding fault
  fault-Word n level m w e = rw (front bytes at h) (rw (e, fault) (rw (← m) (fault-jumped n level (at + 1) bytes w)))

  pub fault-Bad : (level : ℕ) → class (get_or bytes at 0) ≡ Bad → fault 0 level at (drop at bytes) ≡ Some (at, why.Byte)
  unfolding fault
  fault-Bad level e = rw (front bytes at h) (rw (e, fault) refl)

-- at the end of the text
pub fault-Unclosed : (bytes : List ℕ) (level at : ℕ) → length bytes ≤ at → fault 0 (suc level) at (drop at bytes)
    ≡ Some (at, why.Unclosed)
unfolding fault
fault-Unclosed bytes level at h = rw (drop_of_length-le bytes h) refl

pub fault-None : (bytes : List ℕ) (at : ℕ) → length bytes ≤ at → fault 0 0 at (drop at bytes) ≡ None
unfolding fault
fault-None bytes at h = rw (drop_of_length-le bytes h) refl

pub rest_of-end : (bytes : List ℕ) (at : ℕ) → length bytes ≤ at → rest_of 0 at (drop at bytes) ≡ ([], [])
unfolding rest_of
rest_of-end bytes at h = rw (drop_of_length-le bytes h) refl
