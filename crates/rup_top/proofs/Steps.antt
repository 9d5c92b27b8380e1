-- How the answers of steps become those of a script.
use Rattle.std.proofs.Common.{◌≡◌, ℕ, zero, suc, ◌+◌, ◌-◌, List, [], ◌∷◌, drop, Option, Some, Result, Ok, Err, IfOk, inl, inr}
use Rattle.std.proofs.Common.{refl, sym, ap, ◌∙◌, arith, subst, slice_get}
use Rattle.std.proofs.lemmas.Option.{slice_get_past}
use Rattle.rup_base.specs.declared.arg.Arg.{Arg}
use Rattle.rup_base.specs.declared.arg.Kind.{Kind}
use Rattle.rup_base.specs.declared.no_memory.NoMemory.{NoMemory}
use Rattle.rup_io.specs.Count.{Rose}
use Rattle.rup_io.specs.Files.{Holds}
use Rattle.run_setup.specs.declared.reading.ArgsFail.{ArgsFail}
use Rattle.run_setup.specs.declared.reading.ArgsFail.TheVariants as fails
use Rattle.run_setup.specs.Reading.{ReadsAll, HasCause, ComesTo}
use Rattle.rup_top.specs.declared.answer.Answer.{Answer}
use Rattle.rup_top.specs.declared.answer.Stop.{Stop}
use Rattle.rup_top.specs.declared.answer.Stop.TheVariants as stops
use Rattle.rup_top.specs.Answer.{refused, read_fault}
use Rattle.rup_top.specs.Frame.{Told, Read, IsStill, Script, asks, takes, Comes, Reaches, Answers}
use Rattle.rup_top.specs.Steps.{Fetched, Stops, Gives, Breaks, Tells, fetch_alone, arguments_alone}
use Rattle.rup_top.specs.Stops.{stop_of_args}

pub stops_with : (P Q : Answer → Type 0) (stop : Stop) → ((a : Answer) → P a → Q a) → Stops stop P → Stops stop Q
stops_with P Q (stops.Refused r) f p = f (refused r) p
stops_with P Q (stops.ReadFault place) f p = f (read_fault place) p
stops_with P Q stops.NoMemory f p = p

pub gives_with : (P Q : Answer → Type 0) (result : Result Answer Stop) → ((a : Answer) → P a → Q a) → Gives result P
    → Gives result Q
gives_with P Q (Ok a) f p = f a p
gives_with P Q (Err stop) f p = stops_with P Q stop f p

-- the answer of a command that ended has what was shown of its end
pub tells_so : (P : Answer → Type 0) (ended : Result Answer Stop) (result : Result Answer NoMemory) → Gives ended P
    → IfOk result (λ a. Tells ended a) → IfOk result P
tells_so P ended (Err e) gives is = is
tells_so P (Ok given) (Ok a) gives is = subst P (sym is) gives
tells_so P (Err (stops.Refused r)) (Ok a) gives is = subst P (sym is) gives
tells_so P (Err (stops.ReadFault place)) (Ok a) gives is = subst P (sym is) gives
tells_so P (Err stops.NoMemory) (Ok a) gives is = absurd is

-- ---- Fetches.

-- an answer of the fetch alone is one of each script that begins with it
pub fetch_answers : (place : ℕ) (name : List ℕ) (limit : ℕ) (next : List ℕ → Script) (files : Read) (a : Answer)
    → Answers (fetch_alone place name limit) files a → Answers (asks place name limit next) files a
fetch_answers place name limit next files a (inl came) = inl (record { comes = by_bytes came.comes; still = came.still })
  where
    by_bytes : Comes files.held (fetch_alone place name limit) a → Comes files.held (asks place name limit next) a
    by_bytes (bytes, holds, inl (fits, none)) = absurd none
    by_bytes (bytes, holds, inr long) = (bytes, holds, inr long)
fetch_answers place name limit next files a (inr (faulted, is)) =
    inr (
      record {
        place = faulted.place;
        word = faulted.word;
        reached = by_place faulted.reached;
        rose = faulted.rose;
        named = faulted.named;
      },
      is,
    )
  where
    by_place : Reaches files.held (fetch_alone place name limit) faulted.place faulted.word
        → Reaches files.held (asks place name limit next) faulted.place faulted.word
    by_place (inl same) = inl same
    by_place (inr (bytes, holds, fits, none)) = absurd none

pub fetch_breaks : (place : ℕ) (name : List ℕ) (limit : ℕ) (next : List ℕ → Script) (files : Read) (stop : Stop)
    → Breaks (fetch_alone place name limit) files stop → Breaks (asks place name limit next) files stop
fetch_breaks place name limit next files stop breaks =
    stops_with _ _ stop (λ a answers. fetch_answers place name limit next files a answers) breaks

-- a fetch that failed is an answer of it
pub fault_answers : (place : ℕ) (name : List ℕ) (limit : ℕ) (files : Read) (a : Answer)
    → Rose files.before files.now → files.last_now ≡ Some name → a ≡ read_fault place
    → Answers (fetch_alone place name limit) files a
fault_answers place name limit files a rose named is =
    inr (record { place = place; word = name; reached = inl (refl, refl); rose = rose; named = named }, is)

-- after a fetch, the rest of the script answers
after_fetch : (place : ℕ) (name : List ℕ) (limit : ℕ) (next : List ℕ → Script) (files : Read) (a : Answer) (bytes : List ℕ)
    (was : Read) → Fetched name limit bytes was → was.held ≡ files.held
    → Answers (next bytes) files a → Answers (asks place name limit next) files a
after_fetch place name limit next files a bytes was fetched same (inl came) =
    let P : Told → Type 0 = λ h. Holds h name bytes in
    inl (record { comes = (bytes, subst P same fetched.holds, inl (fetched.fits, came.comes)); still = came.still })
after_fetch place name limit next files a bytes was fetched same (inr (faulted, is)) =
    let P : Told → Type 0 = λ h. Holds h name bytes in
    inr (
      record {
        place = faulted.place;
        word = faulted.word;
        reached = inr (bytes, subst P same fetched.holds, fetched.fits, faulted.reached);
        rose = faulted.rose;
        named = faulted.named;
      },
      is,
    )

-- what the files were before a step that left them still may stand for what they are behind it
pub since : (script : Script) (held held_now : Told) (before middle now : ℕ) (last last_middle last_now : Option (List ℕ))
    (a : Answer) → held_now ≡ held
    → IsStill (record { held = held; before = before; now = middle; last = last; last_now = last_middle })
    → Answers script (record { held = held_now; before = middle; now = now; last = last_middle; last_now = last_now }) a
    → Answers script (record { held = held; before = before; now = now; last = last; last_now = last_now }) a
since script held held_now before middle now last last_middle last_now a same still answers =
    let P : Told → Type 0 = λ h. Answers script
    (record { held = h; before = middle; now = now; last = last_middle; last_now = last_now }) a in
    let Q : ℕ → Type 0 = λ n. Answers script
    (record { held = held; before = n; now = now; last = last_middle; last_now = last_now }) a in
    let R : Option (List ℕ) → Type 0 =
    λ l. Answers script (record { held = held; before = before; now = now; last = l; last_now = last_now }) a in
    subst R still.same_last (subst Q still.same_count (subst P same answers))

-- the rest of a script behind a fetch, seen as a slice of the same bytes
pub then_next : (place : ℕ) (name : List ℕ) (limit : ℕ) (next : List ℕ → Script) (held held_now : Told) (before middle now : ℕ)
    (last last_middle last_now : Option (List ℕ)) (a : Answer) (bytes seen : List ℕ)
    → seen ≡ bytes → held_now ≡ held
    → Fetched name limit bytes (record { held = held; before = before; now = middle; last = last; last_now = last_middle })
    → Answers (next seen) (record { held = held_now; before = middle; now = now; last = last_middle; last_now = last_now }) a
    → Answers (asks place name limit next) (record { held = held; before = before; now = now; last = last; last_now = last_now })
    a
then_next place name limit next held held_now before middle now last last_middle last_now a bytes seen shown same fetched
    answers =
    let P : List ℕ → Type 0 = λ b.
    Answers (next b) (record { held = held_now; before = middle; now = now; last = last_middle; last_now = last_now }) a in
    after_fetch place name limit next _ a bytes _ fetched refl
    (since (next bytes) held held_now before middle now last last_middle last_now a same fetched.still
    (subst P shown answers))

-- ---- Arguments.

-- arguments that are not read end each script that takes them
pub arguments_answer : (first : ℕ) (kinds : List Kind) (texts : List (List ℕ)) (verdict : List Arg → Answer → Type 0)
    (files : Read) (a : Answer) → Answers (arguments_alone first kinds texts) files a
    → Answers (takes first kinds texts verdict) files a
arguments_answer first kinds texts verdict files a (inl came) = inl (record { comes = by_args came.comes; still = came.still })
  where
    by_args : Comes files.held (arguments_alone first kinds texts) a → Comes files.held (takes first kinds texts verdict) a
    by_args (inl (args, reads, none)) = absurd none
    by_args (inr refuses) = inr refuses
arguments_answer first kinds texts verdict files a (inr (faulted, is)) =
    inr (
      record {
        place = faulted.place;
        word = faulted.word;
        reached = faulted.reached;
        rose = faulted.rose;
        named = faulted.named;
      },
      is,
    )

pub arguments_break : (first : ℕ) (kinds wanted : List Kind) (texts : List (List ℕ)) (verdict : List Arg → Answer → Type 0)
    (files : Read) (stop : Stop) → kinds ≡ wanted
    → Breaks (arguments_alone first kinds texts) files stop → Breaks (takes first wanted texts verdict) files stop
arguments_break first kinds wanted texts verdict files stop same breaks =
    let P : List Kind → Type 0 = λ ks. Breaks (takes first ks texts verdict) files stop in
    subst P same (stops_with _ _ stop (λ a answers. arguments_answer first kinds texts verdict files a answers) breaks)

behind : (first : ℕ) (words : List (List ℕ)) (k : ℕ) → slice_get words (first + k) ≡ slice_get (drop first words) k
behind zero words k = let same : 0 + k ≡ k = omega arith in ap (slice_get words) same
behind (suc first) [] k = slice_get_past [] (suc first + k) (omega arith) ∙ sym (slice_get_past [] k (omega arith))
behind (suc first) (x ∷ words) k = let more : suc first + k ≡ suc (first + k) = omega arith in
    ap (slice_get (x ∷ words)) more ∙ behind first words k

pub args_stop : (first : ℕ) (held : Told) (kinds : List Kind) (words : List (List ℕ)) (before now : ℕ)
    (last last_now : Option (List ℕ)) (fail : ArgsFail)
    → ReadsAll held first kinds (drop first words) (Err fail)
    → HasCause {A = List Arg} before now last last_now (slice_get words) (Err fail)
    → Breaks (arguments_alone first kinds (drop first words))
    (record { held = held; before = before; now = now; last = last; last_now = last_now }) (stop_of_args fail)
args_stop first held kinds words before now last last_now (fails.Refused r) reads cause =
    inl (record { comes = inr (r, reads, refl); still = record { same_count = cause.0; same_last = cause.1 } })
args_stop first held kinds words before now last last_now (fails.ReadFault at) reads cause =
    let k : ℕ = reads.1.0 in
    let came : ComesTo held first kinds (drop first words) k (Err (fails.ReadFault at)) = reads.1.1 in
    let place : at ≡ first + k = came.here.0 in
    let back : at - first ≡ k = omega (arith, place) in
    let named : last_now ≡ Some came.text = cause.2 ∙ ap (slice_get words) place ∙ behind first words k ∙ came.text_is in
    inr (
      record {
        place = at;
        word = came.text;
        reached = (reads, ap (slice_get (drop first words)) back ∙ came.text_is);
        rose = cause.1;
        named = named;
      },
      refl,
    )
args_stop first held kinds words before now last last_now fails.NoMemory reads cause = tt
