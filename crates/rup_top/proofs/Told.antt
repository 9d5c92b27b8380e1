-- Where files and sinks are told, a call ends in one of four ways.
use Rattle.std.proofs.Common.{◌≡◌, ℕ, zero, suc, List, [], ◌++◌, take, Option, Some, None, inl, inr, refl, sym, ap, ◌∙◌, arith}
use Rattle.std.specs.Io.KnownBytes.{Appends, Keeps}
use Rattle.rup_top.proofs.Ends.{append_nothing}
use Rattle.rup_top.specs.declared.answer.Answer.{Answer}
use Rattle.rup_top.specs.Frame.{Call, Script, Answers, Whole, CutOut, CutNotes, Delivers, Ends, FourWays, IsTold}

-- a told sink that takes bytes, a prefix of them, or none
appended : (old new : Option (List ℕ)) (o bytes : List ℕ) → old ≡ Some o → Appends old new bytes → new ≡ Some (o ++ bytes)
appended None new o bytes e h = let bad : ◌≡◌ {A = ℕ} 0 1 = cc in absurd (omega (arith, bad))
appended (Some xs) None o bytes e h = absurd h
appended (Some xs) (Some ys) o bytes e h = cc

kept : (old new : Option (List ℕ)) (o : List ℕ) → old ≡ Some o → Keeps old new → new ≡ Some o
kept None new o e h = let bad : ◌≡◌ {A = ℕ} 0 1 = cc in absurd (omega (arith, bad))
kept (Some xs) None o e h = absurd h
kept (Some xs) (Some ys) o e h = cc

take_nothing : (k : ℕ) → take {A = ℕ} k [] ≡ []
take_nothing zero = refl
take_nothing (suc k) = refl

module _ (script : Script) (call : Call) (o n : List ℕ) (out_told : call.out.taken ≡ Some o)
    (notes_told : call.notes.taken ≡ Some n) where
  whole_way : (a : Answer) → Answers script call.files a → Whole a call.out call.notes call.status → FourWays script call o n
  whole_way a (inl came) whole = inl (record {
    answer = a;
    came = came;
    status_is = whole.status_is;
    out_is = appended call.out.taken call.out.taken_now o a.out out_told whole.out_takes;
    notes_are = appended call.notes.taken call.notes.taken_now n a.note notes_told whole.notes_take;
  })
  whole_way a (inr (fault, is)) whole =
      let out_now : call.out.taken_now
      ≡ Some (o ++ a.out) = appended call.out.taken call.out.taken_now o a.out out_told whole.out_takes in
      let notes_now : call.notes.taken_now
      ≡ Some (n ++ a.note) = appended call.notes.taken call.notes.taken_now n a.note notes_told whole.notes_take in
      inr (inl (record {
        status_is = whole.status_is ∙ ap (λ x. x.status) is;
        faulted = fault;
        out_is = out_now ∙ ap (λ x. Some (o ++ x.out)) is ∙ ap Some (append_nothing o);
        notes_are = notes_now ∙ ap (λ x. Some (n ++ x.note)) is;
      }))

  out_way : (a : Answer) → Answers script call.files a → CutOut a call.out call.notes call.status → FourWays script call o n
  out_way a (inl came) cut = inr (inr (inl (
    cut.status_is,
    inl (record {
      rose = cut.rose;
      answer = a;
      came = came;
      taken = cut.out_takes.0;
      out_is = appended call.out.taken call.out.taken_now o _ out_told cut.out_takes.1;
      notes_are = kept call.notes.taken call.notes.taken_now n notes_told cut.notes_keep;
    }),
  )))
  out_way a (inr (fault, is)) cut = inr (inr (inl (
    cut.status_is,
    inr (inr (record {
      rose = inl cut.rose;
      faulted = fault;
      taken = 0;
      out_is = appended call.out.taken call.out.taken_now o _ out_told cut.out_takes.1
          ∙ ap (λ x. Some (o ++ take cut.out_takes.0 x.out)) is
          ∙ ap (λ bytes. Some (o ++ bytes)) (take_nothing cut.out_takes.0) ∙ ap Some (append_nothing o);
      notes_are = kept call.notes.taken call.notes.taken_now n notes_told cut.notes_keep ∙ ap Some (sym (append_nothing n));
    })),
  )))

  notes_way : (a : Answer) → Answers script call.files a → CutNotes a call.out call.notes call.status → FourWays script call o n
  notes_way a (inl came) cut = inr (inr (inl (
    cut.status_is,
    inr (inl (record {
      rose = cut.rose;
      answer = a;
      came = came;
      taken = cut.notes_take.0;
      out_is = appended call.out.taken call.out.taken_now o a.out out_told cut.out_takes;
      notes_are = appended call.notes.taken call.notes.taken_now n _ notes_told cut.notes_take.1;
    })),
  )))
  notes_way a (inr (fault, is)) cut = inr (inr (inl (
    cut.status_is,
    inr (inr (record {
      rose = inr cut.rose;
      faulted = fault;
      taken = cut.notes_take.0;
      out_is = appended call.out.taken call.out.taken_now o a.out out_told cut.out_takes ∙ ap (λ x. Some (o ++ x.out)) is
          ∙ ap Some (append_nothing o);
      notes_are = appended call.notes.taken call.notes.taken_now n _ notes_told cut.notes_take.1
          ∙ ap (λ x. Some (n ++ take cut.notes_take.0 x.note)) is;
    })),
  )))

  by_delivery : (a : Answer) → Answers script call.files a → Delivers a call.out call.notes call.status → FourWays script call o n
  by_delivery a answers (inl whole) = whole_way a answers whole
  by_delivery a answers (inr (inl cut)) = out_way a answers cut
  by_delivery a answers (inr (inr cut)) = notes_way a answers cut

  four_ways : Ends script call → FourWays script call o n
  four_ways (inl lack) = inr (inr (inr (record {
    status_is = lack.status_is;
    out_is = lack.out_same ∙ out_told;
    notes_are = lack.notes_same ∙ notes_told;
  })))
  four_ways (inr ended) = by_delivery ended.answer ended.answers ended.delivers

pub told : (script : Script) (call : Call) → Ends script call → IsTold script call
told script call ends held o n files_told out_told notes_told = four_ways script call o n out_told notes_told ends
