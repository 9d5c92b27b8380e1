-- What a look-up in a list of pages finds.
use Rattle.std.proofs.Common.{◌≡◌, ℕ, zero, suc, ◌+◌, ◌-◌, ◌<◌, ◌≤◌, true, List, [], ◌∷◌, length, Some, None, IsSome, is_some}
use Rattle.std.proofs.Common.{get_or, set, refl, sym, ap, ◌∙◌, subst, Option, ⊎_elim, arith}
use Rattle.std.proofs.lemmas.Grind.{common_steps}
use Rattle.std.proofs.lemmas.List.{length-map, get_or-map, map-set, get_or_default, with_items_is}
use Rattle.std.proofs.lemmas.List.Quantifiers.{position-Some}
use Rattle.std.proofs.lemmas.Option.{slice_get-get_or}
use Rattle.std.proofs.lemmas.List.Sums.{fails_before_first}
use Rattle.std.proofs.lemmas.Bool.{cases_lt}
use Rattle.std.specs.List.{slice_get, position, position_or_len}
use Rattle.std.specs.Vec.{with_item, with_items, vec_len}
use Rattle.std.specs.FinMap.{get, insert}
use Rattle.rv_memory.specs.declared.page.Page.{Page}
use Rattle.rv_memory.specs.Bytes.{bytes_of, AreDisjoint}
use Rattle.rv_memory.specs.Contents.{holds, parts, contents}
use Rattle.rv_memory.specs.Numbers.{number_at, with_number, number_in, with_number_in}
use Rattle.rv_memory.proofs.Lookup.{Part, no_part, in_part, byte_at, byte_is, put_byte, FoundAt, read_found, write_found, alone}
use Rattle.rv_memory.proofs.Lookup.{disjoint_set}
use Rattle.rv_memory.proofs.Several.{Held, number_at_part, with_number_part, length-with_number_in}
use Rattle.rv_memory.proofs.Stored.{both_are}

abbrev part : Page → Part
part r = (r.start, r.bytes.items)

part_at : (rs : List Page) (i : ℕ) (d : Page) → i < length rs → get_or (parts rs) i no_part ≡ part (get_or rs i d)
part_at rs i d inside = get_or-map part rs i d no_part inside

found_at : (a : ℕ) (rs : List Page) (i : ℕ) (d : Page) → position (holds a) rs ≡ Some i → FoundAt a (parts rs) i
found_at a rs i d e =
    let found = position-Some (holds a) rs i d e in
    record {
      inside = omega (arith, length-map rs part, found.0);
      here = ap (in_part a) (part_at rs i d found.0) ∙ found.1;
      before = λ k less. ap (in_part a) (part_at rs k d (omega (arith, found.0))) ∙ found.2 k less;
    }

-- the page that is found holds the address
pub found_low : (a : ℕ) (rs : List Page) (i : ℕ) (d : Page) → position (holds a) rs ≡ Some i → (get_or rs i d).start ≤ a
found_low a rs i d e = let here = (position-Some (holds a) rs i d e).1 in grind (arith, common_steps)

pub found_high : (a : ℕ) (rs : List Page) (i : ℕ) (d : Page) → position (holds a) rs ≡ Some i
    → a - (get_or rs i d).start < vec_len (get_or rs i d).bytes
found_high a rs i d e = let here = (position-Some (holds a) rs i d e).1 in grind (arith, common_steps)

-- where no page holds the address there is no byte
byte_none : (a : ℕ) (rs : List Page) → position (holds a) rs ≡ None → byte_at a (parts rs) ≡ None
byte_none a [] e = refl
byte_none a (r ∷ rs) e = grind (arith, common_steps, byte_none a rs)

pub read_none : (a : ℕ) (rs : List Page) → position (holds a) rs ≡ None → get (contents rs) a ≡ None
read_none a rs e = byte_is a (parts rs) ∙ byte_none a rs e

pub number_none : (size a : ℕ) (rs : List Page) → position (holds a) rs ≡ None → number_at (contents rs) (suc size) a ≡ None
unfolding number_at
number_none size a rs e = rw (read_none a rs e) refl

-- the same for the page that an index reads
pub read_at : (a : ℕ) (rs : List Page) (i : ℕ) (r : Page) (b : ℕ) → position (holds a) rs ≡ Some i → r ≡ get_or rs i r
    → b ≡ get_or r.bytes.items (a - r.start) b → get (contents rs) a ≡ Some b
read_at a rs i r b e is byte =
    let high : a - r.start < vec_len r.bytes = rw is (found_high a rs i r e) in
    let there : slice_get r.bytes.items (a - r.start) ≡ Some (get_or r.bytes.items (a - r.start) b) =
    slice_get-get_or r.bytes.items (a - r.start) b (omega (arith, r.bytes.ok.0)) in
    let whole : get_or (parts rs) i no_part ≡ part r = part_at rs i r ((position-Some (holds a) rs i r e).0) ∙ ap part (sym is) in
    read_found a (parts rs) i (found_at a rs i r e) ∙ ap (λ p. slice_get p.1 (a - p.0)) whole ∙ there
    ∙ ap (λ x. Some x) (sym byte)

pub found_some : (a : ℕ) (rs : List Page) (i : ℕ) (d : Page) → position (holds a) rs ≡ Some i → IsSome (get (contents rs) a)
found_some a rs i d e =
    let r = get_or rs i d in
    let high : a - r.start < vec_len r.bytes = found_high a rs i d e in
    ap is_some (read_found a (parts rs) i (found_at a rs i d e)
    ∙ ap (λ p. slice_get p.1 (a - p.0)) (part_at rs i d ((position-Some (holds a) rs i d e).0))
    ∙ slice_get-get_or r.bytes.items (a - r.start) 0 (omega (arith, r.bytes.ok.0)))

-- a byte is put into the page that is found
abbrev with_byte : Page → ℕ → ℕ → Page
with_byte r a b = record r { bytes = with_item r.bytes (a - r.start) b }

pub write_at : (a b : ℕ) (rs : List Page) (i : ℕ) (d : Page) → position (holds a) rs ≡ Some i
    → contents (set rs i (with_byte (get_or rs i d) a b)) ≡ insert (contents rs) a b
write_at a b rs i d e =
    let r = get_or rs i d in
    ap bytes_of (map-set part rs i (with_byte r a b))
    ∙ ap (λ p. bytes_of (set (parts rs) i (put_byte p a b))) (sym (part_at rs i d ((position-Some (holds a) rs i d e).0)))
    ∙ write_found a b (parts rs) i (found_at a rs i d e)

held_at : (a : ℕ) (rs : List Page) (i : ℕ) (d : Page) → AreDisjoint (parts rs) → position (holds a) rs ≡ Some i
    → Held (parts rs) i (part (get_or rs i d))
held_at a rs i d apart e =
    let inside : i < length rs = (position-Some (holds a) rs i d e).0 in
    let within : i < length (parts rs) = omega (arith, length-map rs part, inside) in
    let is = part_at rs i d inside in
    record {
      inside = within;
      is = is;
      alone = λ k q less here. alone (parts rs) i within apart k q less (ap (in_part q) is ∙ here);
    }

pub itself : (a : ℕ) (rs : List Page) (i : ℕ) (d : Page) → position (holds a) rs ≡ Some i
    → get_or rs i d ≡ get_or rs i (get_or rs i d)
itself a rs i d e = get_or_default rs i d (get_or rs i d) ((position-Some (holds a) rs i d e).0)

-- a number of several bytes of the page that is found
pub number_found : (size a : ℕ) (rs : List Page) (i : ℕ) (r : Page) → AreDisjoint (parts rs) → position (holds a) rs ≡ Some i
    → r ≡ get_or rs i r → a - r.start + size ≤ length r.bytes.items
    → number_at (contents rs) size a ≡ number_in r.bytes.items size (a - r.start)
number_found size a rs i r apart e is room =
    let low : r.start ≤ a = rw is (found_low a rs i r e) in
    let place : a ≡ r.start + (a - r.start) = omega (arith, low) in
    let held : Held (parts rs) i (part r) = rw is (held_at a rs i r apart e) in
    ap (number_at (contents rs) size) place ∙ number_at_part size (parts rs) i (part r) (a - r.start) held room

pub number_in_some : (size : ℕ) (bytes : List ℕ) (k : ℕ) → k + size ≤ length bytes → is_some (number_in bytes size k) ≡ true
unfolding number_in
number_in_some zero bytes k room = refl
number_in_some (suc size) bytes k room =
    both_are (slice_get bytes k) (number_in bytes size (k + 1)) (ap is_some (slice_get-get_or bytes k 0 (omega arith)))
    (number_in_some size bytes (k + 1) (omega arith))

-- the page with other bytes
abbrev with_bytes : Page → List ℕ → Page
with_bytes r bytes = record r { bytes = with_items r.bytes bytes }

written : (size k v : ℕ) (r : Page) (bytes : List ℕ) → bytes ≡ with_number_in r.bytes.items size k v
    → (with_bytes r bytes).bytes.items ≡ with_number_in r.bytes.items size k v
written size k v r bytes is =
    with_items_is r.bytes bytes (ap length is ∙ length-with_number_in size r.bytes.items k v ∙ sym r.bytes.ok.0) ∙ is

pub with_number_found : (size a v : ℕ) (rs : List Page) (i : ℕ) (r d : Page) (bytes : List ℕ) → AreDisjoint (parts rs)
    → position (holds a) rs ≡ Some i → r ≡ get_or rs i r → a - r.start + size ≤ length r.bytes.items
    → bytes ≡ with_number_in (get_or rs i d).bytes.items size (a - r.start) v
    → contents (set rs i (with_bytes (get_or rs i d) bytes)) ≡ with_number (contents rs) size a v
with_number_found size a v rs i r d bytes apart e is room writes =
    let low : r.start ≤ a = rw is (found_low a rs i r e) in
    let place : r.start + (a - r.start) ≡ a = omega (arith, low) in
    let held : Held (parts rs) i (part r) = rw is (held_at a rs i r apart e) in
    let same : get_or rs i d ≡ r = get_or_default rs i d r ((position-Some (holds a) rs i r e).0) ∙ sym is in
    ap bytes_of (map-set part rs i (with_bytes (get_or rs i d) bytes))
    ∙ ap (λ x. bytes_of (set (parts rs) i ((get_or rs i d).start, x))) (written size (a - r.start) v (get_or rs i d) bytes writes)
    ∙ ap (λ q. bytes_of (set (parts rs) i (q.start, with_number_in q.bytes.items size (a - r.start) v))) same
    ∙ with_number_part size (parts rs) i (part r) (a - r.start) v held room
    ∙ ap (λ x. with_number (contents rs) size x v) place

-- pages stay apart where one gets other bytes, as many as before
pub apart_set : (a : ℕ) (rs : List Page) (i : ℕ) (d s : Page) → position (holds a) rs ≡ Some i → s.start ≡ (get_or rs i d).start
    → length s.bytes.items ≡ length (get_or rs i d).bytes.items → AreDisjoint (parts rs) → AreDisjoint (parts (set rs i s))
apart_set a rs i d s e start size apart =
    let inside : i < length rs = (position-Some (holds a) rs i d e).0 in
    let is = part_at rs i d inside in
    subst AreDisjoint (sym (map-set part rs i s))
    (disjoint_set (parts rs) i (part s) (omega (arith, length-map rs part, inside)) (start ∙ sym (ap (λ p. p.0) is))
    (size ∙ sym (ap (λ p. length p.1) is)) apart)

pub apart_written : (size a v k : ℕ) (rs : List Page) (i : ℕ) (d : Page) (bytes : List ℕ) → position (holds a) rs ≡ Some i
    → bytes ≡ with_number_in (get_or rs i d).bytes.items size k v → AreDisjoint (parts rs)
    → AreDisjoint (parts (set rs i (with_bytes (get_or rs i d) bytes)))
apart_written size a v k rs i d bytes e writes apart =
    let r = get_or rs i d in
    apart_set a rs i d (with_bytes r bytes) e refl
    (ap length (written size k v r bytes writes) ∙ length-with_number_in size r.bytes.items k v) apart

-- where pages are disjoint, the page at a place that holds the address is the first that does
pub found_there : (a : ℕ) (rs : List Page) (i : ℕ) (d : Page) → AreDisjoint (parts rs) → i < length rs
    → holds a (get_or rs i d) ≡ true → position (holds a) rs ≡ Some i
found_there a rs i d apart inside here = by_found (position (holds a) rs) refl
  where
    at_place : in_part a (get_or (parts rs) i no_part) ≡ true
    at_place = ap (in_part a) (part_at rs i d inside) ∙ here

    same : (j : ℕ) → position (holds a) rs ≡ Some j → Some j ≡ Some i
    same j e =
        let found = position-Some (holds a) rs j d e in
        let at_j : in_part a (get_or (parts rs) j no_part) ≡ true = ap (in_part a) (part_at rs j d found.0) ∙ found.1 in
        let within : i < length (parts rs) = omega (arith, length-map rs part, inside) in
        ⊎_elim (λ less. absurd (cc (alone (parts rs) i within apart j a less at_place)))
        (λ from. ⊎_elim (λ less. absurd (cc (found.2 i less))) (λ upto. ap (λ n. Some n) (omega arith)) (cases_lt i j))
        (cases_lt j i)

    by_found : (o : Option ℕ) → position (holds a) rs ≡ o → o ≡ Some i
    by_found None e =
        let past : i < position_or_len (holds a) rs = grind (arith, common_steps) in
        absurd (cc (fails_before_first (holds a) rs i d past))
    by_found (Some j) e = same j e
