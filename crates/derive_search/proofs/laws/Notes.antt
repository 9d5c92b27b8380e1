-- A note that is found is read back from its arguments, its certificate is the one that its form gets, and there is room for it.
-- And each form is read back from its arguments as it is, if its symbols are numbers of 32 bits, as those of a context are.
use Rattle.std.proofs.Common.{◌≡◌, refl, ap, subst, ℕ, ◌+◌, nat_le, Bool, true, false, not, ◌&&◌, if◌then◌else◌, ℤ, pos}
use Rattle.std.proofs.Common.{List, [], ◌∷◌, Option, Some, None, option_map, option_and_then}
use Rattle.std.specs.List.{list_all}
use Rattle.std.specs.Ordering.{int_eq}
use Rattle.model_syntax.specs.declared.stmt.Le.{Le}
use Rattle.side_certs.specs.LinearForm.{LinearForm, rises_from, within}
use Rattle.side_certs.proofs.laws.Terms.{and_parts}
use Rattle.side_certs.specs.declared.certificate.Cert.{Cert}
use Rattle.sym_heap.specs.Context.{Context, has_room}
use Rattle.sym_heap.specs.Sides.{form_in, difference}
use Rattle.stmt_rules.specs.Words.{most_symbol, pairs, form_with, flat}
use Rattle.derive_search.specs.declared.notes.Noted.{Noted}
use Rattle.derive_search.specs.Rows.{certificate}
use Rattle.derive_search.specs.Trips.{terms_as_args, as_args}
use Rattle.derive_search.specs.Notes.{may_note, with_form, of_form, note_of}

-- Arguments.

-- the symbol is a number of 32 bits
abbrev pub is_numbered : ℕ × ℤ → Bool
is_numbered t = nat_le t.0 most_symbol

terms_read_back : (least : ℕ) (ts : List (ℕ × ℤ)) → rises_from least ts ≡ true → list_all is_numbered ts ≡ true
    → pairs least (terms_as_args ts) ≡ Some ts
terms_read_back least [] rises numbered = refl
terms_read_back least (t ∷ ts) rises numbered =
    let one = and_parts (nat_le least t.0 && not (int_eq t.1 (pos 0))) (rises_from (t.0 + 1) ts) rises in
    let two = and_parts (nat_le least t.0) (not (int_eq t.1 (pos 0))) one.0 in
    let all = and_parts (is_numbered t) (list_all is_numbered ts) numbered in
    rw (two.0, two.1, all.0, terms_read_back (t.0 + 1) ts one.1 all.1) refl

pub args_read_back : (f : LinearForm) → rises_from 0 f.terms ≡ true → list_all is_numbered f.terms ≡ true
    → flat (as_args f) ≡ within f
args_read_back f rises numbered = ap (form_with f.constant) (terms_read_back 0 f.terms rises numbered)

-- Notes.

pub record NoteHolds (c : Context) (n : Noted) : Type 0 where
  pub read : flat n.args ≡ Some n.form
  pub shown : certificate c n.form ≡ Some n.cert
  pub room : has_room c ≡ true

module _ (c : Context) where
  abbrev Holds : Option Noted → Type 0
  Holds None = Unit {0}
  Holds (Some n) = NoteHolds c n

  with_form_holds : (args : List ℤ) → Holds (with_form c args (flat args))
  with_form_holds args = by (flat args) refl
    where
      by_cert : (f : LinearForm) → flat args ≡ Some f → has_room c ≡ true → (o : Option Cert) → certificate c f ≡ o
          → Holds (option_map (λ k. record { args = args; form = f; cert = k }) o)
      by_cert f read room None is = tt
      by_cert f read room (Some k) is = record { read = read; shown = is; room = room }

      by_room : (f : LinearForm) → flat args ≡ Some f → (b : Bool) → has_room c ≡ b
          → Holds (if b then option_map (λ k. record { args = args; form = f; cert = k }) (certificate c f) else None)
      by_room f read true room = by_cert f read room (certificate c f) refl
      by_room f read false room = tt

      by : (o : Option LinearForm) → flat args ≡ o → Holds (with_form c args o)
      by None read = tt
      by (Some f) read = by_room f read (has_room c) refl

  of_holds : (o : Option LinearForm) → Holds (option_and_then (of_form c) o)
  of_holds None = tt
  of_holds (Some f) = with_form_holds (as_args f)

  if_holds : (b : Bool) (o : Option Noted) → Holds o → Holds (if b then o else None)
  if_holds true o is = is
  if_holds false o is = tt

  pub note_holds : (fact : Le) (n : Noted) → note_of c fact ≡ Some n → NoteHolds c n
  note_holds fact n is =
      let form : Option LinearForm = within (difference (form_in c.scalars) fact) in
      let found : Holds (Some n) =
      subst Holds is (if_holds (may_note c fact) (option_and_then (of_form c) form) (of_holds form)) in found
