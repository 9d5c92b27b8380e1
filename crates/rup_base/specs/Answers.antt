-- The words in which each exact contract speaks: unless memory ran out, the result is this.
use Rattle.std.specs.Prelude.{◌≡◌, Result, Ok, Err}
use Rattle.rup_base.specs.declared.fail.Fail.{Fail}
use Rattle.rup_base.specs.declared.fail.Fail.TheVariants.{Refused, NoMemory}
use Rattle.rup_base.specs.declared.refusal.Refusal.{Refusal}

-- Unless memory ran out, the result is the answer.
abbrev pub Answers : {T : Type 0} → Result T Fail → Result T Refusal → Type 0
Answers (Ok value) answer = answer ≡ Ok value
Answers (Err (Refused refusal)) answer = answer ≡ Err refusal
Answers (Err NoMemory) answer = Unit {0}

-- Unless memory ran out, the result and the state after it are the answer; a refusal leaves no state to speak of.
abbrev pub AnswersWith : {T S : Type 0} → Result T Fail → S → Result (T × S) Refusal → Type 0
AnswersWith (Ok value) after answer = answer ≡ Ok (value, after)
AnswersWith (Err (Refused refusal)) after answer = answer ≡ Err refusal
AnswersWith (Err NoMemory) after answer = Unit {0}

-- the answer to two questions in turn: a refusal of the first is the answer, and else the second has its value
abbrev pub and_then : {A B : Type 0} → Result A Refusal → (A → Result B Refusal) → Result B Refusal
and_then (Ok value) next = next value
and_then (Err refusal) next = Err refusal

-- the same over a state, which the second finds as the first left it
abbrev pub and_then_with : {A B S : Type 0} → Result (A × S) Refusal → (A → S → Result (B × S) Refusal) → Result (B × S) Refusal
and_then_with (Ok both) next = next both.0 both.1
and_then_with (Err refusal) next = Err refusal
