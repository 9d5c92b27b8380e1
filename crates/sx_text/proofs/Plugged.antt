-- What a rest means to lists that are not closed yet: the innermost first, each with what stands before it.
use Rattle.std.proofs.Common.{◌≡◌, ap, List, [], ◌∷◌, ◌++◌, append_assoc}
use Rattle.sx_text.specs.declared.tree.Sx.{Sx}
use Rattle.sx_text.specs.declared.reader.Frame.{Frame}
use Rattle.sx_text.specs.Forms.{Rest, opened}

-- the rest from the outermost `(` on, where the innermost open list has these forms so far
abbrev pub plugged : List Frame → List Sx → Rest → Rest
plugged [] forms rest = (forms ++ rest.0, rest.1)
plugged (f ∷ fs) forms rest = plugged fs f.before (opened f.start (forms ++ rest.0, rest.1))

-- a form more in the list, and one fewer in the rest
pub plugged-more : (frames : List Frame) (forms : List Sx) (x : Sx) (rest : Rest)
    → plugged frames (forms ++ x ∷ []) rest ≡ plugged frames forms (x ∷ rest.0, rest.1)
plugged-more [] forms x rest = ap (λ (ks : List Sx). let r : Rest = (ks, rest.1) in r) (append_assoc forms (x ∷ []) rest.0)
plugged-more (f ∷ fs) forms x rest =
    ap (λ (ks : List Sx). plugged fs f.before (opened f.start (ks, rest.1))) (append_assoc forms (x ∷ []) rest.0)
