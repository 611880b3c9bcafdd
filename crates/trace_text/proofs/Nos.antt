-- What an option gives, as a result.
use Rattle.std.proofs.Common.{◌≡◌, refl, subst, Option, Some, None, Ok, Err}
use Rattle.std.specs.Option.{ok_or, IsNone, IfSome}
use Rattle.std.specs.Result.{IfOk}

-- an error comes of no value
pub was_none : {T E : Type 0} (o : Option T) (given found : E) → ok_or o given ≡ Err found → IsNone o
was_none None given found e = refl
was_none (Some x) given found e = cc

-- what holds of the value holds of the result's
pub some_ok : {T E : Type 0} (o : Option T) (given : E) (P Q : T → Type 0) → ((x : T) → P x → Q x) → IfSome o P → IfOk (ok_or o given) Q
some_ok None given P Q then is = tt
some_ok (Some x) given P Q then is = then x is

-- the value is the result's
pub given : {T E : Type 0} (o : Option T) (no_value : E) (x : T) (P : T → Type 0) → ok_or o no_value ≡ Ok x → IfSome o P → P x
given None no_value x P e is = cc
given (Some y) no_value x P e is = let same : y ≡ x = cc in subst P same is
