-- Results that are Ok.
use Rattle.std.proofs.Common.{Result}
use Rattle.std.specs.Result.{IfOk}
use Rattle.std.specs.declared.result.Result.TheVariants.{Ok, Err}

-- what is so of a value that is Ok, where more is known of it
pub ok_more : {T E : Type 0} (r : Result T E) (P Q : T → Type 0) → ((value : T) → P value → Q value) → IfOk r P → IfOk r Q
ok_more (Ok value) P Q more is = more value is
ok_more (Err e) P Q more is = tt
