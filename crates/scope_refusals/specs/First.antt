-- The first of some refusals: that at the first place, and at one place the one with the lowest number.
use Rattle.std.specs.Prelude.{List, [], ◌∷◌, Option, None, Some}
use Rattle.std.specs.declared.cmp.Ordering.{Ordering}
use Rattle.std.specs.declared.cmp.Ordering.TheVariants.{Less}
use Rattle.std.specs.Ordering.{nat_cmp, on, then_cmp}
use Rattle.scope_refusals.specs.declared.refusal.Refusal.{Refusal}
use Rattle.scope_refusals.specs.Kinds.{kind_number}

-- by line, then by column, then by number
unfoldable pub refusal_cmp : Refusal → Refusal → Ordering
refusal_cmp = then_cmp (on (λ r. r.at.line) nat_cmp) (then_cmp (on (λ r. r.at.column) nat_cmp) (on (λ r. kind_number r.kind) nat_cmp))

abbrev pub chosen : Ordering → Refusal → Refusal → Refusal
chosen Less other best = other
chosen _ other best = best

abbrev pub sooner : Option Refusal → Refusal → Refusal
sooner None other = other
sooner (Some best) other = chosen (refusal_cmp other best) other best

-- the first of some further ones and the best so far
abbrev pub first_from : Option Refusal → List Refusal → Option Refusal
first_from best [] = best
first_from best (other ∷ others) = first_from (Some (sooner best other)) others

abbrev pub first_of : List Refusal → Option Refusal
first_of refusals = first_from None refusals
