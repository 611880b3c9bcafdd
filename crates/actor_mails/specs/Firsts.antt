-- Which actor is the first with mail, and a bound before which nobody has any.
use Rattle.std.specs.Prelude.{◌≡◌, false, [], if◌then◌else◌, Option, None, Some}
use Rattle.std.specs.Ordering.{is_gt, is_lt}
use Rattle.std.specs.declared.cmp.Ordering.TheVariants.{Less}
use Rattle.std.specs.declared.ops.Bound.{Bound}
use Rattle.std.specs.declared.ops.Bound.TheVariants.{Included, Unbounded}
use Rattle.value_core.specs.Name.{after_cmp}
use Rattle.value_core.specs.Named.{Name, Rises}
use Rattle.actor_mails.specs.Mails.{held, mail_at, Boxes, Mail}

-- messages wait for the actor, which is the first in after-order of those for which messages wait
pub record IsFirstWithMail (mail : Mail) (next : Name) : Type 0 where
  pub there : ¬ (mail_at mail next ≡ [])
  pub first : (other : Name) → ¬ (mail_at mail other ≡ []) → is_gt (after_cmp next other) ≡ false

-- an actor comes before the bound in after-order; no actor does where there is none
abbrev pub IsBefore : Option Name → Name → Type 0
IsBefore None actor = ⊥
IsBefore (Some start) actor = after_cmp actor start ≡ Less

-- the names of the boxes rise, and no message waits for an actor that comes before the bound
pub record IsBounded (start : Option Name) (boxes : Boxes) : Type 0 where
  pub rises : Rises boxes
  pub none : (actor : Name) → IsBefore start actor → mail_at (held boxes) actor ≡ []

-- the bound where that actor may have mail: none where the actor comes before it
abbrev pub bound_with : Name → Option Name → Option Name
bound_with to None = None
bound_with to (Some start) = if is_lt (after_cmp to start) then None else Some start

-- from where on an actor may have mail
abbrev pub start_bound : Option Name → Bound Name
start_bound None = Unbounded
start_bound (Some start) = Included start
