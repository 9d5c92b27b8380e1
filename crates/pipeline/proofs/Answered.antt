-- What follows for an answer that is there.
use Rattle.std.proofs.Common.{Result, Ok, Err, IfOk}

pub if_ok : {A E : Type 0} (r : Result A E) (P Q : A → Type 0) → ((a : A) → P a → Q a) → IfOk r P → IfOk r Q
if_ok (Ok a) P Q gives has = gives a has
if_ok (Err e) P Q gives has = tt
