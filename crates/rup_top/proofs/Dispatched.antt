-- The clauses of the top call, from how a call ends and from what each command shows.
use Rattle.std.proofs.Common.{◌≡◌, ◌≢◌, ℕ, ◌⊎◌, inl, inr, refl, sym, subst, ap, ◌∙◌, arith}
use Rattle.rup_io.specs.Count.{Rose}
use Rattle.rup_top.specs.declared.answer.Answer.{Answer}
use Rattle.rup_top.specs.Answer.{usage_answer}
use Rattle.rup_top.specs.Dispatch.{script_of, Promise, Compiled, WritesOnly, WritesAll}
use Rattle.rup_top.specs.Frame.{Told, Call, Comes, Ends}
use Rattle.rup_top.specs.Words.{Command, usage, compile, replay, code, run, eval, show, bench}
use Rattle.rup_top.proofs.Ends.{IsPlain, Shows, Ending, ending, no_status}
use Rattle.rup_top.proofs.shown.Compile.{compile_shows}
use Rattle.rup_top.proofs.shown.Replay.{replay_shows}
use Rattle.rup_top.proofs.shown.Code.{code_shows}
use Rattle.rup_top.proofs.shown.Run.{run_shows}
use Rattle.rup_top.proofs.shown.Eval.{eval_shows}
use Rattle.rup_top.proofs.shown.Show.{show_shows}
use Rattle.rup_top.proofs.shown.Bench.{bench_shows}

-- what each command shows
shows : (c : Command) → (c ≡ usage → ⊥) → Shows (script_of c) (λ call. Promise c call)
shows usage asks = absurd (asks refl)
shows (compile model lemmas) asks = compile_shows model lemmas
shows (replay model tree size) asks = replay_shows model tree size
shows (code model tree) asks = code_shows model tree
shows (run image texts) asks = run_shows image texts
shows (eval model texts) asks = eval_shows model texts
shows (show image) asks = show_shows image
shows (bench seed count) asks = bench_shows seed count

-- ---- Usage, or a command.

abbrev is_asking : Command → ℕ
is_asking usage = 0
is_asking c = 1

not_usage : (c : Command) → is_asking c ≡ 1 → c ≡ usage → ⊥
not_usage c asks is = let same : is_asking c ≡ is_asking usage = ap is_asking is in omega (arith, asks, same)

usage_or : (c : Command) → (c ≡ usage) ⊎ (c ≡ usage → ⊥)
usage_or usage = inl refl
usage_or c = inr (not_usage c refl)

plain_usage : (a : Answer) → a ≡ usage_answer → IsPlain a
plain_usage a is = subst IsPlain (sym is) (record { status_is = inl (omega arith); silent = λ other. refl })

pub plain : (c : Command) (held : Told) (a : Answer) → Comes held (script_of c) a → IsPlain a
plain c held a comes = by_usage (usage_or c)
  where
    by_usage : (c ≡ usage) ⊎ (c ≡ usage → ⊥) → IsPlain a
    by_usage (inl is) = let P : Command → Type 0 = λ x. Comes held (script_of x) a in plain_usage a (subst P is comes)
    by_usage (inr asks) = ((shows c asks).proper held a comes).plain

-- status 2 is usage
pub two : (c : Command) (call : Call) → Ends (script_of c) call → call.status ≡ 2 → c ≡ usage
two c call ends is = by_usage (usage_or c)
  where
    by_usage : (c ≡ usage) ⊎ (c ≡ usage → ⊥) → c ≡ usage
    by_usage (inl usage_is) = usage_is
    by_usage (inr asks) =
        absurd (no_status (script_of c) call 2 (omega arith) (λ a comes. ((shows c asks).proper call.files.held a comes).no_usage)
        (ending (script_of c) call ends) is)

-- usage: status 2, or a write failed, or memory ran out
usage_ends : (call : Call) → Ending (script_of usage) call
    → (call.status ≡ 2) ⊎ (((call.status ≡ 4) × (Rose call.out.before call.out.now ⊎ Rose call.notes.before call.notes.now))
    ⊎ (call.status ≡ 5))
usage_ends call (inl lack) = inr (inr lack.status_is)
usage_ends call (inr (inl done)) = inl (done.whole.status_is ∙ ap (λ (x : Answer). x.status) done.came.comes)
usage_ends call (inr (inr (inl failed))) = absurd failed.faulted.reached
usage_ends call (inr (inr (inr cut))) = inr (inl (cut.status_is, cut.rose))

pub on_usage : (c : Command) (call : Call) → Ends (script_of c) call → c ≡ usage
    → (call.status ≡ 2) ⊎ (((call.status ≡ 4) × (Rose call.out.before call.out.now ⊎ Rose call.notes.before call.notes.now))
    ⊎ (call.status ≡ 5))
on_usage c call ends is = let P : Command
    → Type 0 = λ x. Ends (script_of x) call in usage_ends call (ending (script_of usage) call (subst P is ends))

-- ---- Promises.

usage_keeps : (call : Call) → Ends (script_of usage) call → call.status ≢ 0
usage_keeps call ends =
    no_status (script_of usage) call 0 (omega arith)
    (λ a is zero. let second : a.status ≡ 2 = ap (λ (x : Answer). x.status) is in omega (arith, second, zero))
    (ending (script_of usage) call ends)

pub keeps : (c : Command) (call : Call) → Ends (script_of c) call → Promise c call
keeps c call ends = by_usage (usage_or c)
  where
    by_usage : (c ≡ usage) ⊎ (c ≡ usage → ⊥) → Promise c call
    by_usage (inl is) =
        let P : Command → Type 0 = λ x. Ends (script_of x) call in
        let Q : Command → Type 0 = λ x. Promise x call in
        subst Q (sym is) (usage_keeps call (subst P is ends))
    by_usage (inr asks) = (shows c asks).keeps call ends

pub writes_only : (c : Command) (call : Call) → Promise c call → WritesOnly c call
writes_only usage call kept = kept
writes_only (replay model tree size) call kept = kept.writes_only
writes_only c call kept = tt

pub writes_all : (c : Command) (call : Call) → Promise c call → WritesAll c call
writes_all (replay model tree size) call kept = kept.writes_all
writes_all c call kept = tt

pub compiled : (c : Command) (call : Call) → Promise c call → Compiled c call
compiled (compile model lemmas) call kept = kept.writes_only
compiled c call kept = tt
