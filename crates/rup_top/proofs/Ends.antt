-- What follows of how a call ends, for its status and for both sinks, whatever the command.
use Rattle.std.proofs.Common.{◌≡◌, ◌≢◌, ℕ, ◌≤◌, List, [], ◌∷◌, ◌++◌, Option, Some, None, ◌⊎◌, inl, inr, refl, sym, subst, ap, ◌∙◌}
use Rattle.std.proofs.Common.{arith}
use Rattle.std.specs.Io.KnownBytes.{Appends, Keeps}
use Rattle.rup_base.specs.declared.arg.Arg.{Arg}
use Rattle.rup_base.specs.declared.refusal.Refusal.{Refusal}
use Rattle.rup_base.specs.declared.refusal.Refusal.TheVariants.{Stuck, TooLong}
use Rattle.rup_io.specs.Count.{Rose}
use Rattle.rup_top.specs.declared.answer.Answer.{Answer}
use Rattle.rup_top.specs.Answer.{status_of, refused, read_fault}
use Rattle.rup_top.specs.Frame.{Told, Call, IsUndisturbed, Script, comes_to, asks, takes, Comes, Came, Faulted, Answers, Whole}
use Rattle.rup_top.specs.Frame.{Delivers, OutOfMemory, Ends, Writes}

-- ---- The answers of scripts.

-- what each answer has: no status of a fault or of want of memory, and bytes for `out` with status 0 alone
pub record IsPlain (a : Answer) : Type 0 where
  pub status_is : (a.status ≤ 2) ⊎ ((6 ≤ a.status) × (a.status ≤ 7))
  pub silent : a.status ≢ 0 → a.out ≡ []

-- what each answer of a command has: it is plain, and not usage
pub record IsProper (a : Answer) : Type 0 where
  pub plain : IsPlain a
  pub no_usage : a.status ≢ 2

pub proper_done : (a : Answer) → a.status ≡ 0 → IsProper a
proper_done a zero = record {
  plain = record { status_is = inl (omega (arith, zero)); silent = λ other. absurd (other zero) };
  no_usage = λ e. omega (arith, zero, e);
}

pub proper_silent : (a : Answer) → a.out ≡ [] → (a.status ≡ 1) ⊎ ((6 ≤ a.status) × (a.status ≤ 7)) → IsProper a
proper_silent a silent (inl one) =
    record {
      plain = record { status_is = inl (omega (arith, one)); silent = λ other. silent };
      no_usage = λ e. omega (arith, one, e);
    }
proper_silent a silent (inr late) =
    record { plain = record { status_is = inr late; silent = λ other. silent }; no_usage = λ e. omega (arith, late.0, e) }

pub refusal_status : (r : Refusal) → (status_of r ≡ 1) ⊎ (status_of r ≡ 6)
refusal_status (Stuck stmt goal) = inr refl
refusal_status r = inl refl

pub proper_refused : (r : Refusal) → IsProper (refused r)
proper_refused r = proper_silent (refused r) refl
    (elim (refusal_status r) [ inl one ↦ inl one | inr six ↦ inr (omega (arith, six), omega (arith, six)) ])

pub refused_not_zero : (r : Refusal) (a : Answer) → a ≡ refused r → a.status ≡ 0 → ⊥
refused_not_zero r a is zero =
    let status : status_of r ≡ 0 = sym (ap (λ x. x.status) is) ∙ zero in
    elim (refusal_status r) [ inl one ↦ omega (arith, one, status) | inr six ↦ omega (arith, six, status) ]

-- Every answer that a script may come to has a property, where each refusal and each verdict's answers have it.
abbrev pub Leads : (Answer → Type 0) → Script → Type 0
Leads P (comes_to verdict) = (a : Answer) → verdict a → P a
Leads P (asks place name limit next) = (bytes : List ℕ) → Leads P (next bytes)
Leads P (takes first kinds texts verdict) = (args : List Arg) (a : Answer) → verdict args a → P a

pub leads : (P : Answer → Type 0) (held : Told) (s : Script) → ((r : Refusal) → P (refused r)) → Leads P s → (a : Answer)
    → Comes held s a → P a
leads P held (comes_to verdict) refusals all a comes = all a comes
leads P held (asks place name limit next) refusals all a (bytes, holds, inl (fits, comes)) =
    leads P held (next bytes) refusals (all bytes) a comes
leads P held (asks place name limit next) refusals all a (bytes, holds, inr (long, is)) =
    subst P (sym is) (refusals (TooLong place limit))
leads P held (takes first kinds texts verdict) refusals all a (inl (args, taken, allows)) = all args a allows
leads P held (takes first kinds texts verdict) refusals all a (inr (refusal, taken, is)) = subst P (sym is) (refusals refusal)

-- What each command must show: all its answers are its own, and its promise follows from how a call ends.
pub record Shows (script : Script) (Promise : Call → Type 0) : Type 0 where
  pub proper : (held : Told) (a : Answer) → Comes held script a → IsProper a
  pub keeps : (call : Call) → Ends script call → Promise call

-- ---- How a call ends, by what was delivered.

-- the outcome was delivered whole
pub record Done (script : Script) (call : Call) : Type 0 where
  pub answer : Answer
  pub came : Came script call.files answer
  pub whole : Whole answer call.out call.notes call.status

-- a read fault's line was delivered
pub record Failed (script : Script) (call : Call) : Type 0 where
  pub faulted : Faulted script call.files
  pub whole : Whole (read_fault faulted.place) call.out call.notes call.status

-- a write failed
pub record Cut (call : Call) : Type 0 where
  pub status_is : call.status ≡ 4
  pub rose : Rose call.out.before call.out.now ⊎ Rose call.notes.before call.notes.now

abbrev pub Ending : Script → Call → Type 0
Ending script call = OutOfMemory call ⊎ (Done script call ⊎ (Failed script call ⊎ Cut call))

pub ending : (script : Script) (call : Call) → Ends script call → Ending script call
ending script call (inl lack) = inl lack
ending script call (inr ended) = by_delivery ended.answer ended.answers ended.delivers
  where
    by_delivery : (a : Answer) → Answers script call.files a → Delivers a call.out call.notes call.status → Ending script call
    by_delivery a (inl came) (inl whole) = inr (inl (record { answer = a; came = came; whole = whole }))
    by_delivery a (inr (faulted, is)) (inl whole) =
        let P : Answer → Type 0 = λ x. Whole x call.out call.notes call.status in
        inr (inr (inl (record { faulted = faulted; whole = subst P is whole })))
    by_delivery a answers (inr (inl cut)) = inr (inr (inr (record { status_is = cut.status_is; rose = inl cut.rose })))
    by_delivery a answers (inr (inr cut)) = inr (inr (inr (record { status_is = cut.status_is; rose = inr cut.rose })))

-- ---- Sinks.

pub append_nothing : (xs : List ℕ) → xs ++ [] ≡ xs
append_nothing [] = refl
append_nothing (x ∷ xs) = ap (λ ys. x ∷ ys) (append_nothing xs)

keeps_nothing : (old new : Option (List ℕ)) (bytes : List ℕ) → bytes ≡ [] → Appends old new bytes → Keeps old new
keeps_nothing None new bytes e h = tt
keeps_nothing (Some xs) None bytes e h = h
keeps_nothing (Some xs) (Some ys) bytes e h = h ∙ (ap (λ bs. xs ++ bs) e ∙ append_nothing xs)

same_keeps : (old new : Option (List ℕ)) → new ≡ old → Keeps old new
same_keeps None new e = tt
same_keeps (Some xs) None e = let bad : ◌≡◌ {A = ℕ} 0 1 = cc in absurd (omega (arith, bad))
same_keeps (Some xs) (Some ys) e = cc

-- ---- Statuses, where each answer is plain.

plain_status : (a : Answer) (k : ℕ) → IsPlain a → a.status ≡ k → 3 ≤ k → k ≤ 5 → ⊥
plain_status a k plain is least most =
    elim plain.status_is [ inl low ↦ omega (arith, low, is, least) | inr high ↦ omega (arith, high.0, is, most) ]

module _ (script : Script) (call : Call) (plain : (a : Answer) → Comes call.files.held script a → IsPlain a) where
  -- every status is from 0 to 7
  pub at_most : Ending script call → call.status ≤ 7
  at_most (inl lack) = omega (arith, lack.status_is)
  at_most (inr (inl done)) =
      elim (plain done.answer done.came.comes).status_is
      [ inl low ↦ omega (arith, low, done.whole.status_is) | inr high ↦ omega (arith, high.1, done.whole.status_is) ]
  at_most (inr (inr (inl failed))) = omega (arith, failed.whole.status_is)
  at_most (inr (inr (inr cut))) = omega (arith, cut.status_is)

  -- status 3 comes only where a fetch failed
  pub three : Ending script call → call.status ≡ 3 → Faulted script call.files
  three (inl lack) is = absurd (omega (arith, lack.status_is, is))
  three (inr (inl done)) is = absurd
      (plain_status done.answer 3 (plain done.answer done.came.comes) (sym done.whole.status_is ∙ is) (omega arith) (omega arith))
  three (inr (inr (inl failed))) is = failed.faulted
  three (inr (inr (inr cut))) is = absurd (omega (arith, cut.status_is, is))

  -- status 4 comes only where a write failed
  pub four : Ending script call → call.status ≡ 4 → Rose call.out.before call.out.now ⊎ Rose call.notes.before call.notes.now
  four (inl lack) is = absurd (omega (arith, lack.status_is, is))
  four (inr (inl done)) is = absurd
      (plain_status done.answer 4 (plain done.answer done.came.comes) (sym done.whole.status_is ∙ is) (omega arith) (omega arith))
  four (inr (inr (inl failed))) is = absurd (omega (arith, failed.whole.status_is, is))
  four (inr (inr (inr cut))) is = cut.rose

  -- status 5 leaves both sinks as they were
  pub five : Ending script call → call.status ≡ 5
      → (call.out.taken_now ≡ call.out.taken) × (call.notes.taken_now ≡ call.notes.taken)
  five (inl lack) is = (lack.out_same, lack.notes_same)
  five (inr (inl done)) is = absurd
      (plain_status done.answer 5 (plain done.answer done.came.comes) (sym done.whole.status_is ∙ is) (omega arith) (omega arith))
  five (inr (inr (inl failed))) is = absurd (omega (arith, failed.whole.status_is, is))
  five (inr (inr (inr cut))) is = absurd (omega (arith, cut.status_is, is))

  -- a status other than 0 and 4 leaves `out` as it was
  pub unchanged : Ending script call → call.status ≢ 0 → call.status ≢ 4 → Keeps call.out.taken call.out.taken_now
  unchanged (inl lack) zero four = same_keeps call.out.taken call.out.taken_now lack.out_same
  unchanged (inr (inl done)) zero four =
      keeps_nothing call.out.taken call.out.taken_now done.answer.out
      ((plain done.answer done.came.comes).silent (λ e. zero (done.whole.status_is ∙ e))) done.whole.out_takes
  unchanged (inr (inr (inl failed))) zero four = keeps_nothing call.out.taken call.out.taken_now [] refl failed.whole.out_takes
  unchanged (inr (inr (inr cut))) zero four = absurd (four cut.status_is)

-- a status that no outcome has is that of want of memory, of a read fault or of a write fault
pub no_status : (script : Script) (call : Call) (k : ℕ) → k ≤ 2 → ((a : Answer) → Comes call.files.held script a → a.status ≢ k)
    → Ending script call → call.status ≢ k
no_status script call k low none (inl lack) is = omega (arith, lack.status_is, is, low)
no_status script call k low none (inr (inl done)) is = none done.answer done.came.comes (sym done.whole.status_is ∙ is)
no_status script call k low none (inr (inr (inl failed))) is = omega (arith, failed.whole.status_is, is, low)
no_status script call k low none (inr (inr (inr cut))) is = omega (arith, cut.status_is, is, low)

-- ---- Calls that nothing disturbs.

-- files that are told, and no count that rose: the outcome was delivered, or memory ran out
pub undisturbed : (script : Script) (call : Call) → IsUndisturbed call → Ending script call → Done script call ⊎ (call.status ≡ 5)
undisturbed script call quiet (inl lack) = inr lack.status_is
undisturbed script call quiet (inr (inl done)) = inl done
undisturbed script call quiet (inr (inr (inl failed))) = absurd (quiet.files_same failed.faulted.rose)
undisturbed script call quiet (inr (inr (inr cut))) =
    absurd (elim cut.rose [ inl out ↦ quiet.out_same out | inr notes ↦ quiet.notes_same notes ])

-- an answer of status 0 with these bytes for `out`
pub record Gives (bytes : List ℕ) (a : Answer) : Type 0 where
  pub status_is : a.status ≡ 0
  pub out_is : a.out ≡ bytes

-- a call whose outcome is such an answer writes its bytes, or memory runs out
pub written : (script : Script) (bytes : List ℕ) (call : Call) (held : List (List ℕ × List ℕ)) → call.files.held ≡ Some held
    → IsUndisturbed call → Ends script call
    → ((a : Answer) → Comes (Some held) script a → Gives bytes a) → Writes bytes call
written script bytes call held told quiet ends comes_so = by_end (undisturbed script call quiet (ending script call ends))
  where
    by_end : Done script call ⊎ (call.status ≡ 5) → Writes bytes call
    by_end (inr five) = inr five
    by_end (inl done) =
        let P : Told → Type 0 = λ h. Comes h script done.answer in
        let gives = comes_so done.answer (subst P told done.came.comes) in
        let Q : List ℕ → Type 0 = λ b. Appends call.out.taken call.out.taken_now b in
        inl (done.whole.status_is ∙ gives.status_is, subst Q gives.out_is done.whole.out_takes)
