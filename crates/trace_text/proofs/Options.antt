-- What is said of an option, for each of its two forms.
use Rattle.std.proofs.Common.{◌≢◌, refl, Option, Some, None}
use Rattle.std.specs.Option.{MatchOption, IfSome, IsNone, IsSome}

pub for_some : {T : Type 0} (o : Option T) (P : Type 0) (Q : T → Type 0) → MatchOption o P Q → IfSome o Q
for_some None P Q is = tt
for_some (Some x) P Q is = is

pub for_none : {T : Type 0} (o : Option T) (P : Type 0) (Q : T → Type 0) → MatchOption o P Q → IsNone o → P
for_none None P Q is none = is
for_none (Some x) P Q is none = cc

pub not_both : {T : Type 0} (o : Option T) → IsNone o → IsSome o → ⊥
not_both None none some = cc
not_both (Some x) none some = cc

pub none_left : {T : Type 0} (o : Option T) → ((x : T) → o ≢ Some x) → IsNone o
none_left None other = refl
none_left (Some x) other = absurd (other x refl)
