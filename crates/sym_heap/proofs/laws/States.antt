-- Which other states and contexts fit where one does: other locals, more symbols, and a scalar bound.
use Rattle.std.proofs.Common.{◌≡◌, ◌≢◌, refl, sym, ◌∙◌, ap, subst, arith, ℕ, zero, suc, ◌<◌, ◌≤◌, inl, inr, Bool, true, false}
use Rattle.std.proofs.Common.{not, ◌&&◌, ◌||◌, List, [], ◌∷◌, length, take, Option, Some, None, ℤ, pos, ◌≤ℤ◌, slice_get, nat_eq}
use Rattle.std.proofs.Common.{nat_lt, if◌then◌else◌}
use Rattle.std.specs.List.{list_all}
use Rattle.std.proofs.lemmas.Bool.{ltb-true}
use Rattle.std.proofs.lemmas.Bool.Decides.{nat_tests}
use Rattle.std.proofs.lemmas.Option.{slice_get_within}
use Rattle.rup_base.specs.declared.arg.Arg.{Arg}
use Rattle.rup_base.specs.declared.arg.Arg.TheVariants as arg
use Rattle.rv_memory.specs.Ranges.{Bytes}
use Rattle.side_certs.specs.LinearForm.{LinearForm, value_at}
use Rattle.side_certs.proofs.laws.Coefficients.{Below}
use Rattle.side_certs.proofs.laws.Values.{value_same}
use Rattle.model_syntax.specs.Environment.{Env, value_of, put}
use Rattle.model_syntax.specs.Names.{Name, same}
use Rattle.model_syntax.proofs.laws.Bindings.{same_is, value_here, value_else}
use Rattle.sym_heap.specs.declared.parts.Held.{Held}
use Rattle.sym_heap.specs.declared.parts.Clause.{Clause}
use Rattle.sym_heap.specs.Context.{Context, scalar, own, has, is_free, leaves_free, top_of, with_scalar, back_to}
use Rattle.sym_heap.specs.Fits.{Call, Locals, Known, IsConsistent, ScalarFits, ClauseFits, FitsBy, ArgsHeld, Agree}
use Rattle.sym_heap.specs.Settle.{IsKnown, FitsRest, LocalsKept, none, with_tops, or_nothing}
use Rattle.sym_heap.proofs.laws.Lookups.{scalar_stands, clause_stands, scalar_bound, name_of_scalar, differ_back}
use Rattle.sym_heap.proofs.Named.{PutAt, put_at, put_once}

-- Forms and numbers.

pub known_below : (n : ℕ) (ts : List (ℕ × ℤ)) → ((i : ℕ) (t : ℕ × ℤ) → slice_get ts i ≡ Some t → t.0 < n) → Below n ts
known_below n [] all = tt
known_below n (t ∷ ts) all = (all 0 t refl, known_below n ts (λ i u at. all (suc i) u at))

-- a form has one value for all numbers that agree where it has symbols
pub known_same : (n : ℕ) (f : LinearForm) (v w : ℕ → ℕ) → Known n f → Agree n v w → value_at w f ≡ value_at v f
known_same n f v w known agree = value_same v w n agree f (known_below n f.terms known)

pub known_more : (n m : ℕ) (f : LinearForm) → n ≤ m → Known n f → Known m f
known_more n m f more known i t at = let less = known i t at in omega (arith, less, more)

pub agree_on : (n m : ℕ) (u v w : ℕ → ℕ) → n ≤ m → Agree n u v → Agree m v w → Agree n u w
agree_on n m u v w more a b s less = b s (omega (arith, less, more)) ∙ a s less

-- Fitting, and fitting but for some scalars.

pub known_of : (c : Context) → IsConsistent c → IsKnown c
known_of c s = record {
  entries_known = s.entries_known;
  scalars_known = s.scalars_known;
  lengths_known = s.lengths_known;
  facts_known = s.facts_known;
  scalars_once = λ i j h k at_i at_j differ. (s.scalars_apart i j h k at_i at_j differ).0;
  clauses_apart = s.clauses_apart;
  pointers_reserved = s.pointers_reserved;
  lengths_reserved = s.lengths_reserved;
}

pub consistent_of : (c : Context) → IsKnown c
    → ((i j : ℕ) (h k : Held) → slice_get c.scalars i ≡ Some h → slice_get c.scalars j ≡ Some k → i ≢ j → h.local ≢ k.local)
    → IsConsistent c
consistent_of c s apart = record {
  entries_known = s.entries_known;
  scalars_known = s.scalars_known;
  lengths_known = s.lengths_known;
  facts_known = s.facts_known;
  scalars_apart = λ i j h k at_i at_j differ. (s.scalars_once i j h k at_i at_j differ, apart i j h k at_i at_j differ);
  clauses_apart = s.clauses_apart;
  pointers_reserved = s.pointers_reserved;
  lengths_reserved = s.lengths_reserved;
}

pub rest_of_fits : (spared : Name → Bool) (call : Call) (v : ℕ → ℕ) (c : Context) (env : Env) (mem : Bytes) (locals : Locals)
    → FitsBy call v c env mem locals → FitsRest spared call v c env mem locals
rest_of_fits spared call v c env mem locals fits = record {
  known = known_of c fits.consistent;
  entry_count = fits.entry_count;
  entries = fits.entries;
  holds = fits.holds;
  scalars = λ x h at free. fits.scalars x h at;
  clauses = fits.clauses;
  ranges = fits.ranges;
}

pub fits_of_rest : (call : Call) (v : ℕ → ℕ) (c : Context) (env : Env) (mem : Bytes) (locals : Locals) → IsConsistent c
    → FitsRest none call v c env mem locals → FitsBy call v c env mem locals
fits_of_rest call v c env mem locals consistent fits = record {
  consistent = consistent;
  entry_count = fits.entry_count;
  entries = fits.entries;
  holds = fits.holds;
  scalars = λ x h at. fits.scalars x h at refl;
  clauses = fits.clauses;
  ranges = fits.ranges;
}

-- Other locals.

pub scalar_moved : (v : ℕ → ℕ) (h : Held) (found : Option Arg) (before after : Locals) → after h.local ≡ before h.local
    → ScalarFits v h found before → ScalarFits v h found after
scalar_moved v h found before after same_local f =
    record { number = f.number; value = f.value; kind = f.kind; form = f.form; local = same_local ∙ f.local }

pub clause_moved : (call : Call) (v : ℕ → ℕ) (k : Clause) (found : Option Arg) (mem : Bytes) (before after : Locals)
    → after k.pointer ≡ before k.pointer
    → ((l : ℕ) → k.length_local ≡ Some l → after l ≡ before l) → ClauseFits call v k found mem before
    → ClauseFits call v k found mem after
clause_moved call v k found mem before after pointer lengths f = record {
  array = f.array;
  form = f.form;
  length_local = λ l is. lengths l is ∙ f.length_local l is;
  parameter = f.parameter;
  pointer = pointer ∙ f.pointer;
  stands = f.stands;
  few = f.few;
  aligned = f.aligned;
  ends = f.ends;
}

pub rest_locals : (spared : Name → Bool) (call : Call) (v : ℕ → ℕ) (c : Context) (env : Env) (mem : Bytes) (before after : Locals)
    → LocalsKept spared c before after
    → FitsRest spared call v c env mem before → FitsRest spared call v c env mem after
rest_locals spared call v c env mem before after kept fits = record {
  known = fits.known;
  entry_count = fits.entry_count;
  entries = fits.entries;
  holds = fits.holds;
  scalars = λ x h at free. (let p = scalar_stands c x h at in
      scalar_moved v h (value_of env x) before after (kept.scalars p.place h p.at (ap spared p.named ∙ free))
      (fits.scalars x h at free));
  clauses = λ a k at. (let p = clause_stands c a k at in
      clause_moved call v k (value_of env a) mem before after (kept.pointers p.place k p.at)
      (λ l is. kept.lengths p.place k l p.at is) (fits.clauses a k at));
  ranges = fits.ranges;
}

pub fits_locals : (call : Call) (v : ℕ → ℕ) (c : Context) (env : Env) (mem : Bytes) (before after : Locals)
    → LocalsKept none c before after
    → FitsBy call v c env mem before → FitsBy call v c env mem after
fits_locals call v c env mem before after kept fits =
    fits_of_rest call v c env mem after fits.consistent
    (rest_locals none call v c env mem before after kept (rest_of_fits none call v c env mem before fits))

-- a local that is free for a name: it is not reserved, and no other scalar has it
both_parts : (a b : Bool) → (a && b) ≡ true → (a ≡ true) × (b ≡ true)
both_parts true b e = (refl, e)
both_parts false b e = absurd (let bad : false ≡ true = e in cc)

not_true : (b : Bool) → not b ≡ true → b ≡ false
not_true true e = absurd (let bad : false ≡ true = e in cc)
not_true false e = refl

all_at : {A : Type 0} (test : A → Bool) (xs : List A) (i : ℕ) (x : A) → list_all test xs ≡ true → slice_get xs i ≡ Some x
    → test x ≡ true
all_at test [] i x all at = absurd (let bad : None ≡ Some x = at in cc)
all_at {A} test (y ∷ ys) zero x all at = let is : y ≡ x = cc in
    subst (λ (z : A). test z ≡ true) is (both_parts (test y) (list_all test ys) all).0
all_at test (y ∷ ys) (suc i) x all at = all_at test ys i x (both_parts (test y) (list_all test ys) all).1 at

pub free_reserved : (c : Context) (l : ℕ) (x : Option Name) → is_free c l x ≡ true → has l c.reserved ≡ false
free_reserved c l x free = not_true (has l c.reserved)
    (both_parts (not (has l c.reserved)) (list_all (leaves_free l x) c.scalars) free).0

pub free_scalars : (c : Context) (l : ℕ) (x : Option Name) → is_free c l x ≡ true → (i : ℕ) (h : Held)
    → slice_get c.scalars i ≡ Some h → leaves_free l x h ≡ true
free_scalars c l x free i h at =
    all_at (leaves_free l x) c.scalars i h (both_parts (not (has l c.reserved)) (list_all (leaves_free l x) c.scalars) free).1 at

pub leaves_none : (l : ℕ) (h : Held) → leaves_free l None h ≡ true → h.local ≢ l
leaves_none l h free is = let test : nat_eq h.local l ≡ false = not_true (nat_eq h.local l) free in
    grind (arith, nat_tests, test, is)

pub leaves_other : (l : ℕ) (x : Name) (h : Held) → leaves_free l (Some x) h ≡ true → same h.name x ≡ false → h.local ≢ l
leaves_other l x h free other is =
    let test : nat_eq h.local l ≡ true = grind (arith, nat_tests, is) in
    absurd (let bad : false ≡ true = sym (rw (test, other) refl) ∙ free in cc)

reserved_other : (l p : ℕ) (ls : List ℕ) → has l ls ≡ false → has p ls ≡ true → p ≢ l
reserved_other l p ls not_in is_in same_one =
    absurd (let bad : true ≡ false = sym is_in ∙ ap (λ m. has m ls) same_one ∙ not_in in cc)

-- only this local was set
abbrev pub SetAt : ℕ → Locals → Locals → Type 0
SetAt l before after = (j : ℕ) → j ≢ l → after j ≡ before j

-- a local that is free for a name may be set: all that the context says of other names is as before
pub locals_set : (c : Context) (l : ℕ) (x : Name) (before after : Locals) → IsConsistent c → is_free c l (Some x) ≡ true
    → SetAt l before after → LocalsKept (same x) c before after
locals_set c l x before after s free set = record {
  scalars = λ i h at apart. set h.local (leaves_other l x h (free_scalars c l (Some x) free i h at) (differ_back x h.name apart));
  pointers = λ i k at. set k.pointer
      (reserved_other l k.pointer c.reserved (free_reserved c l (Some x) free) (s.pointers_reserved i k at));
  lengths = λ i k m at is. set m
      (reserved_other l m c.reserved (free_reserved c l (Some x) free) (s.lengths_reserved i k m at is));
}

-- a local that no scalar has and that is not reserved may be set: all that the context says is as before
pub set_kept : (spared : Name → Bool) (c : Context) (l : ℕ) (before after : Locals) → IsConsistent c → is_free c l None ≡ true
    → SetAt l before after → LocalsKept spared c before after
set_kept spared c l before after s free set = record {
  scalars = λ i h at unspared. set h.local (leaves_none l h (free_scalars c l None free i h at));
  pointers = λ i k at. set k.pointer
      (reserved_other l k.pointer c.reserved (free_reserved c l None free) (s.pointers_reserved i k at));
  lengths = λ i k m at is. set m (reserved_other l m c.reserved (free_reserved c l None free) (s.lengths_reserved i k m at is));
}

-- and the state fits as before
pub moved_locals : (call : Call) (v : ℕ → ℕ) (c : Context) (env : Env) (mem : Bytes) (l : ℕ) (before after : Locals)
    → is_free c l None ≡ true → SetAt l before after
    → FitsBy call v c env mem before → FitsBy call v c env mem after
moved_locals call v c env mem l before after free set fits =
    fits_locals call v c env mem before after (set_kept none c l before after fits.consistent free set) fits

-- More symbols.

pub taken_length : (xs ys : List ℕ) → take (length xs) ys ≡ xs → length xs ≤ length ys
taken_length [] ys is = omega arith
taken_length (x ∷ xs) [] is = absurd (let bad : [] ≡ x ∷ xs = is in cc)
taken_length (x ∷ xs) (y ∷ ys) is =
    let whole : y ∷ take (length xs) ys ≡ x ∷ xs = is in
    let rest : take (length xs) ys ≡ xs = cc in
    let less = taken_length xs ys rest in
    omega (arith, less)

taken_at : (xs ys : List ℕ) → take (length xs) ys ≡ xs → (s t : ℕ) → s < length xs → slice_get ys s ≡ Some t
    → slice_get xs s ≡ Some t
taken_at [] ys is s t less at = absurd (omega (arith, less))
taken_at (x ∷ xs) [] is s t less at = absurd (let bad : None ≡ Some t = at in cc)
taken_at (x ∷ xs) (y ∷ ys) is s t less at = by s less at (λ m few there. taken_at xs ys rest m t few there) where
  whole : y ∷ take (length xs) ys ≡ x ∷ xs
  whole = is

  rest : take (length xs) ys ≡ xs
  rest = let w = whole in cc

  first : y ≡ x
  first = let w = whole in cc

  by : (m : ℕ) → m < length (x ∷ xs) → slice_get (y ∷ ys) m ≡ Some t
      → ((n : ℕ) → n < length xs → slice_get ys n ≡ Some t → slice_get xs n ≡ Some t) → slice_get (x ∷ xs) m ≡ Some t
  by zero few there more = ap Some (sym first) ∙ there
  by (suc n) few there more = more n (omega (arith, few)) there

-- the first symbols are those of before
abbrev pub MoreTops : Context → List ℕ → Type 0
MoreTops c tops = take (length c.tops) tops ≡ c.tops

pub wider_known : (c : Context) (tops : List ℕ) → MoreTops c tops → IsKnown c → IsKnown (with_tops tops c)
wider_known c tops more s =
    let least : length c.tops ≤ length tops = taken_length c.tops tops more in
    let few = s.entries_known in
    record {
      entries_known = omega (arith, least, few);
      scalars_known = λ i h at. known_more (length c.tops) (length tops) h.form least (s.scalars_known i h at);
      lengths_known = λ i k at. known_more (length c.tops) (length tops) k.length least (s.lengths_known i k at);
      facts_known = λ i f at. known_more (length c.tops) (length tops) f least (s.facts_known i f at);
      scalars_once = s.scalars_once;
      clauses_apart = s.clauses_apart;
      pointers_reserved = s.pointers_reserved;
      lengths_reserved = s.lengths_reserved;
    }

pub wider_consistent : (c : Context) (tops : List ℕ) → MoreTops c tops → IsConsistent c → IsConsistent (with_tops tops c)
wider_consistent c tops more s =
    consistent_of (with_tops tops c) (wider_known c tops more (known_of c s))
    (λ i j h k at_i at_j differ. (s.scalars_apart i j h k at_i at_j differ).1)

-- where the first symbols keep their numbers, and none passes its top, all is as it was
pub wider_rest : (spared : Name → Bool) (call : Call) (v w : ℕ → ℕ) (c : Context) (tops : List ℕ) (env : Env) (mem : Bytes)
    (locals : Locals) → MoreTops c tops → Agree (length c.tops) v w
    → ((s top : ℕ) → slice_get tops s ≡ Some top → w s ≤ top) → FitsRest spared call v c env mem locals
    → FitsRest spared call w (with_tops tops c) env mem locals
wider_rest spared call v w c tops env mem locals more agree below fits = record {
  known = wider_known c tops more known;
  entry_count = fits.entry_count;
  entries = λ s n at. (let less = slice_get_within call.entries s n at in let count = fits.entry_count in
      let few = known.entries_known in
      agree s (omega (arith, less, count, few)) ∙ fits.entries s n at);
  holds = (
    λ i f at. subst (λ (z : ℤ). pos 0 ≤ℤ z) (sym (known_same (length c.tops) f v w (known.facts_known i f at) agree))
        (fits.holds.0 i f at),
    below,
  );
  scalars = λ x h at free. (let f = fits.scalars x h at free in let p = scalar_stands c x h at in record {
    number = f.number;
    value = f.value;
    kind = f.kind;
    form = known_same (length c.tops) h.form v w (known.scalars_known p.place h p.at) agree ∙ f.form;
    local = f.local;
  });
  clauses = λ a k at. (let f = fits.clauses a k at in let p = clause_stands c a k at in record {
    array = f.array;
    form = known_same (length c.tops) k.length v w (known.lengths_known p.place k p.at) agree ∙ f.form;
    length_local = f.length_local;
    parameter = f.parameter;
    pointer = f.pointer;
    stands = f.stands;
    few = f.few;
    aligned = f.aligned;
    ends = f.ends;
  });
  ranges = fits.ranges;
} where
  known : IsKnown c
  known = fits.known

pub wider_fits : (call : Call) (v w : ℕ → ℕ) (c : Context) (tops : List ℕ) (env : Env) (mem : Bytes) (locals : Locals)
    → MoreTops c tops → Agree (length c.tops) v w
    → ((s top : ℕ) → slice_get tops s ≡ Some top → w s ≤ top) → FitsBy call v c env mem locals
    → FitsBy call w (with_tops tops c) env mem locals
wider_fits call v w c tops env mem locals more agree below fits =
    fits_of_rest call w (with_tops tops c) env mem locals (wider_consistent c tops more fits.consistent)
    (wider_rest none call v w c tops env mem locals more agree below (rest_of_fits none call v c env mem locals fits))

pub nothing_agrees : (n : ℕ) (v : ℕ → ℕ) → Agree n v (or_nothing n v)
nothing_agrees n v s less = let test : nat_lt s n ≡ true = grind (arith, nat_tests, less) in rw test refl

-- further symbols with the number 0 pass no top
pub nothing_below : (c : Context) (tops : List ℕ) (v : ℕ → ℕ) → MoreTops c tops
    → ((s top : ℕ) → slice_get c.tops s ≡ Some top → v s ≤ top)
    → (s top : ℕ) → slice_get tops s ≡ Some top → or_nothing (length c.tops) v s ≤ top
nothing_below c tops v more below s top at = by (nat_lt s (length c.tops)) refl where
  by : (b : Bool) → nat_lt s (length c.tops) ≡ b → or_nothing (length c.tops) v s ≤ top
  by true e = rw e (below s top (taken_at c.tops tops more s top (ltb-true _ _ e) at))
  by false e = rw e (omega arith)

-- the symbols of a block that has ended, or did not run, have the number 0
pub fits_after_block : (call : Call) (v : ℕ → ℕ) (c end_ : Context) (env : Env) (mem : Bytes) (locals : Locals)
    → MoreTops c end_.tops → end_.entries ≡ c.entries
    → FitsBy call v c env mem locals → FitsBy call (or_nothing (length c.tops) v) (back_to c end_) env mem locals
fits_after_block call v c end_ env mem locals more entries fits =
    subst (λ (n : ℕ). FitsBy call (or_nothing (length c.tops) v) (record c { tops = end_.tops; entries = n }) env mem locals)
    (sym entries)
    (wider_fits call v (or_nothing (length c.tops) v) c end_.tops env mem locals more (nothing_agrees (length c.tops) v)
    (nothing_below c end_.tops v more fits.holds.1) fits)

-- A scalar.

pub bound_known : (c : Context) (h : Held) → Known (length c.tops) h.form → IsKnown c → IsKnown (with_scalar h c)
bound_known c h known s = record {
  entries_known = s.entries_known;
  scalars_known = λ i k at. by i k (put_at name_of_scalar h c.scalars s.scalars_once i k at);
  lengths_known = s.lengths_known;
  facts_known = s.facts_known;
  scalars_once = put_once name_of_scalar h c.scalars s.scalars_once;
  clauses_apart = s.clauses_apart;
  pointers_reserved = s.pointers_reserved;
  lengths_reserved = s.lengths_reserved;
} where
  by : (i : ℕ) (k : Held) → PutAt name_of_scalar h c.scalars i k → Known (length c.tops) k.form
  by i k (inl new) = subst (λ (z : Held). Known (length c.tops) z.form) (sym new.1) known
  by i k (inr before) = s.scalars_known i k before.0

pub bound_consistent : (c : Context) (h : Held) → Known (length c.tops) h.form → is_free c h.local (Some h.name) ≡ true
    → IsConsistent c → IsConsistent (with_scalar h c)
bound_consistent c h known free s =
    consistent_of (with_scalar h c) (bound_known c h known (known_of c s)) (λ i j x y at_i at_j differ.
    apart i j x y differ (put_at name_of_scalar h c.scalars once i x at_i) (put_at name_of_scalar h c.scalars once j y at_j))
  where
    once : (i j : ℕ) (x y : Held) → slice_get c.scalars i ≡ Some x → slice_get c.scalars j ≡ Some y → i ≢ j
        → same x.name y.name ≡ false
    once i j x y at_i at_j differ = (s.scalars_apart i j x y at_i at_j differ).0

    other : (i : ℕ) (k : Held) → slice_get c.scalars i ≡ Some k → same h.name k.name ≡ false → k.local ≢ h.local
    other i k at far = leaves_other h.local h.name k (free_scalars c h.local (Some h.name) free i k at)
        (differ_back h.name k.name far)

    apart : (i j : ℕ) (x y : Held) → i ≢ j → PutAt name_of_scalar h c.scalars i x → PutAt name_of_scalar h c.scalars j y
        → x.local ≢ y.local
    apart i j x y differ (inl a) (inl b) is = differ (a.0 ∙ sym b.0)
    apart i j x y differ (inl a) (inr b) is = other j y b.0 b.1 (sym is ∙ ap (λ (z : Held). z.local) a.1)
    apart i j x y differ (inr a) (inl b) is = other i x a.0 a.1 (is ∙ ap (λ (z : Held). z.local) b.1)
    apart i j x y differ (inr a) (inr b) is = (s.scalars_apart i j x y a.0 b.0 differ).1 is

-- the value of a name has changed at most
abbrev pub OthersAre : Name → Env → Env → Type 0
OthersAre x env after = (y : Name) → same x y ≡ false → value_of after y ≡ value_of env y

pub put_others : (x : Name) (v : Arg) (env : Env) → OthersAre x env (put x v env)
put_others x v env y apart = value_else x y v env apart

-- where a scalar is bound whose local has its form's number, and the others are as they were, one fewer is spared
pub rest_bound : (spared left : Name → Bool) (call : Call) (v : ℕ → ℕ) (c : Context) (h : Held) (env after_env : Env)
    (mem : Bytes) (before after : Locals)
    → FitsRest spared call v c env mem before → Known (length c.tops) h.form → ScalarFits v h (value_of after_env h.name) after
    → ((x : Name) → same h.name x ≡ false → left x ≡ false → spared x ≡ false) → OthersAre h.name env after_env
    → ((a : Name) (k : Clause) → own c a ≡ Some k → value_of after_env a ≡ value_of env a)
    → LocalsKept (λ x. spared x || same h.name x) c before after
    → FitsRest left call v (with_scalar h c) after_env mem after
rest_bound spared left call v c h env after_env mem before after fits known new fewer others arrays kept = record {
  known = bound_known c h known fits.known;
  entry_count = fits.entry_count;
  entries = fits.entries;
  holds = fits.holds;
  scalars = λ x k at free. by x k free (same h.name x) refl (sym (scalar_bound c h x) ∙ at);
  clauses = λ a k at. (let p = clause_stands c a k at in
      subst (λ (o : Option Arg). ClauseFits call v k o mem after) (sym (arrays a k at))
      (clause_moved call v k (value_of env a) mem before after (kept.pointers p.place k p.at)
      (λ l is. kept.lengths p.place k l p.at is) (fits.clauses a k at)));
  ranges = fits.ranges;
} where
  neither : (p q : Bool) → p ≡ false → q ≡ false → (p || q) ≡ false
  neither p q a b = rw (a, b) refl

  by : (x : Name) (k : Held) → left x ≡ false → (b : Bool) → same h.name x ≡ b → (if same h.name x then Some h else scalar c x)
      ≡ Some k → ScalarFits v k (value_of after_env x) after
  by x k free true e at =
      let both : Some h ≡ Some k = rw e at at in
      let one : h ≡ k = cc in
      subst (λ (y : Name). ScalarFits v k (value_of after_env y) after) (same_is h.name x e)
      (subst (λ (z : Held). ScalarFits v z (value_of after_env h.name) after) one new)
  by x k free false e at =
      let found : scalar c x ≡ Some k = rw e at at in
      let p = scalar_stands c x k found in
      let unspared : spared x ≡ false = fewer x e free in
      let alone : (spared k.name || same h.name k.name)
      ≡ false = neither (spared k.name) (same h.name k.name) (ap spared p.named ∙ unspared) (ap (same h.name) p.named ∙ e)
      in
      subst (λ (o : Option Arg). ScalarFits v k o after) (sym (others x e))
      (scalar_moved v k (value_of env x) before after (kept.scalars p.place k p.at alone) (fits.scalars x k found unspared))

-- a scalar is bound to a number that its form and its local have: `let`, and the names that loops bind
pub bind_fits : (call : Call) (v : ℕ → ℕ) (c : Context) (h : Held) (n : ℕ) (env : Env) (mem : Bytes) (before after : Locals)
    → FitsBy call v c env mem before → Known (length c.tops) h.form → is_free c h.local (Some h.name) ≡ true → own c h.name ≡ None
    → n ≤ top_of h.kind → value_at v h.form ≡ pos n → after h.local ≡ Some n → LocalsKept (same h.name) c before after
    → FitsBy call v (with_scalar h c) (put h.name (arg.Word n) env) mem after
bind_fits call v c h n env mem before after fits known free no_array small form local kept =
    fits_of_rest call v (with_scalar h c) (put h.name (arg.Word n) env) mem after
    (bound_consistent c h known free fits.consistent)
    (rest_bound none none call v c h env (put h.name (arg.Word n) env) mem before after
    (rest_of_fits none call v c env mem before fits) known
    (record { number = n; value = value_here h.name (arg.Word n) env; kind = small; form = form; local = local })
    (λ x apart free_x. refl) (put_others h.name (arg.Word n) env)
    (λ a k at. value_else h.name a (arg.Word n) env (far a k at (same h.name a) refl)) kept)
  where
    far : (a : Name) (k : Clause) → own c a ≡ Some k → (b : Bool) → same h.name a ≡ b → same h.name a ≡ false
    far a k at true e = absurd (let bad : None ≡ Some k = sym no_array ∙ ap (own c) (same_is h.name a e) ∙ at in cc)
    far a k at false e = e

pub bind_held : (args : List Arg) (c : Context) (h : Held) (n : Arg) (env : Env) → own c h.name ≡ None → ArgsHeld args c env
    → ArgsHeld args (with_scalar h c) (put h.name n env)
bind_held args c h n env no_array all a k at never = value_else h.name a n env (far (same h.name a) refl) ∙ all a k at never where
  far : (b : Bool) → same h.name a ≡ b → same h.name a ≡ false
  far true e = absurd (let bad : None ≡ Some k = sym no_array ∙ ap (own c) (same_is h.name a e) ∙ at in cc)
  far false e = e
