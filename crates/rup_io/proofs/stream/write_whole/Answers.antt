use Rattle.std.proofs.Common.{◌≡◌, ℕ, ◌+◌, ◌-◌, ◌≤◌, List, ◌++◌, Option, length, take, drop, subst, sym, ap, ◌∙◌, arith}
use Rattle.std.proofs.Common.{length-drop}
use Rattle.std.proofs.Math.Seq.{take-add}
use Rattle.std.proofs.lemmas.List.{drop-drop, take_rest}
use Rattle.std.proofs.KnownBytes.{Appends-trans}
use Rattle.std.specs.Io.KnownBytes.{Appends}
use Rattle.rup_io.proofs.stream.write_whole.Goals as goal

-- the piece of what is left past its first count bytes
abbrev piece_after : List ℕ → ℕ → List ℕ
piece_after left count = take (length left - count) (drop count left)

-- where that piece begins
start_after : (bytes left : List ℕ) (count : ℕ) → left ≡ drop (length bytes - length left) bytes → count ≤ length left
    → length bytes - length (drop count left) ≡ length bytes - length left + count
start_after bytes left count rest bound =
    let shorter : length left ≡ length bytes - (length bytes - length left) =
    ap length rest ∙ length-drop (length bytes - length left) bytes in
    omega (arith, length-drop count left)

rest_after : (bytes left : List ℕ) (count : ℕ) → left ≡ drop (length bytes - length left) bytes → count ≤ length left
    → piece_after left count ≡ drop (length bytes - length (piece_after left count)) bytes
rest_after bytes left count rest bound =
    let dropped : drop count left ≡ drop (length bytes - length (drop count left)) bytes =
    ap (drop count) rest ∙ drop-drop count (length bytes - length left) bytes
    ∙ ap (λ n. drop n bytes) (sym (start_after bytes left count rest bound)) in
    rw (take_rest left count) dropped

-- what was taken before, and then the first count bytes of what was left
taken_after : (bytes left : List ℕ) (count : ℕ) → left ≡ drop (length bytes - length left) bytes → count ≤ length left
    → take (length bytes - length left) bytes ++ take count left ≡ take (length bytes - length (piece_after left count)) bytes
taken_after bytes left count rest bound =
    let taken : take (length bytes - length left) bytes ++ take count left
    ≡ take (length bytes - length (drop count left)) bytes =
    ap (λ piece. take (length bytes - length left) bytes ++ take count piece) rest
    ∙ sym (take-add (length bytes - length left) count bytes)
    ∙ ap (λ n. take n bytes) (sym (start_after bytes left count rest bound)) in
    rw (take_rest left count) taken

appends_after : (first middle last : Option (List ℕ)) (bytes left : List ℕ) (count : ℕ)
    → left ≡ drop (length bytes - length left) bytes → count ≤ length left
    → Appends first middle (take (length bytes - length left) bytes) → Appends middle last (take count left)
    → Appends first last (take (length bytes - length (piece_after left count)) bytes)
appends_after first middle last bytes left count rest bound before now =
    subst (Appends first last) (taken_after bytes left count rest bound) (Appends-trans first middle last _ _ before now)

pub loop-left-preserved : goal.loop-left-preserved
loop-left-preserved g c = record {
  rest = rest_after _ _ _ c.loop-left.invariant.rest c.in-Ok.ensures.bound;
  appended = appends_after _ _ _ _ _ _ c.loop-left.invariant.rest c.in-Ok.ensures.bound c.loop-left.invariant.appended
      c.in-Ok.ensures.bytes;
}
