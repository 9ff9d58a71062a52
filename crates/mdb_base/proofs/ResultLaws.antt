-- What holds where a call fails, and where it doesn't.
use Rattle.std.specs.declared.result.Result.{Result}
use Rattle.std.specs.declared.result.Result.TheVariants.{Ok, Err}
use Rattle.std.specs.Prelude.{OnErr}
use Rattle.std.proofs.Common.{Result, Ok, Err, OnErr, IfOk, IfErr}

pub map_on_err : {A E : Type 0} (P Q : Type 0) (r : Result A E) → OnErr r P → (P → Q) → OnErr r Q
map_on_err P Q (Ok a) p f = tt
map_on_err P Q (Err e) p f = f p

pub map_ok : {A E : Type 0} (P Q : A → Type 0) (r : Result A E) → IfOk r P → ((a : A) → P a → Q a) → IfOk r Q
map_ok P Q (Ok a) p f = f a p
map_ok P Q (Err e) p f = tt

pub map_err : {A E : Type 0} (P Q : E → Type 0) (r : Result A E) → IfErr r P → ((e : E) → P e → Q e) → IfErr r Q
map_err P Q (Ok a) p f = tt
map_err P Q (Err e) p f = f e p

-- a fact that holds anyway holds of an error
pub on_err_anyway : {T E P : Type 0} (r : Result T E) → P → OnErr r P
on_err_anyway (Ok x) p = tt
on_err_anyway (Err e) p = p
