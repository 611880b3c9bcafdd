-- What a turn comes to that runs ahead.
use Rattle.std.proofs.Common.{◌≡◌, ◌∙◌, ◌⊎◌, Bool, inl, inr, List, refl, sym, ap, subst}
use Rattle.std.specs.Option.{IsSome}
use Rattle.std.specs.Prelude.{Err, None, Ok, Option, Result, Some}
use Rattle.std.specs.declared.alloc.AllocError.{AllocError}
use Rattle.ahead_steps.specs.Leads.{Came, CameOr, IsLead}
use Rattle.shared_world.specs.Ahead.{Ahead}
use Rattle.shared_world.specs.declared.given.Given.{Given}
use Rattle.shared_world.specs.rows.Leading.{IsChanged, WaitsDefinite, is_definite, mark_ahead}
use Rattle.shared_world.specs.rows.Pieces.{ClaimsEnd, IsMarkedUnit}
use Rattle.shared_world.specs.Shared.{Shared}
use Rattle.unit_table.specs.Board.{unit_at}
use Rattle.unit_table.specs.declared.unit.Unit.{Unit}
use Rattle.value_core.proofs.NamedLaws.{named-with_named}
use Rattle.value_core.specs.Named.{Name, Named, named, same_name, with_named}
use Rattle.world_steps.proofs.Settling.{row-for}

pub some-same : {X : Type 0} (x y : X) → Some x ≡ Some y → x ≡ y
some-same x y e = cc

-- the turn that is found under the name is one
pub came-so : (old new : Shared) (name : Name) (Row : Unit → Ahead → Given → Shared → Type 0) (found : Given) (x : Unit) (h : Ahead) → unit_at old.board name ≡ Some x → named name old.aheads ≡ Some h → Row x h found new
    → ClaimsEnd (λ q. same_name q name) old new → Came old name Row new found
came-so old new name Row found x h there leads row claims = record {
  row = λ y so k leads_so. subst (λ b. Row y b found new) (some-same h k (sym leads ∙ leads_so)) (subst (λ a. Row a h found new) (some-same x y (sym there ∙ so)) row);
  claims = claims;
}

-- what follows from one row for another
pub came-weaker : (old new : Shared) (name : Name) (R S : Unit → Ahead → Given → Shared → Type 0) → ((x : Unit) (h : Ahead) (found : Given) → unit_at old.board name ≡ Some x → named name old.aheads ≡ Some h → R x h found new → S x h found new)
    → (result : Result Given AllocError) → CameOr old name R new result → CameOr old name S new result
came-weaker old new name R S f (Ok found) came = record { row = λ x there h leads. f x h found there leads (came.row x there h leads); claims = came.claims }
came-weaker old new name R S f (Err e) same = same

-- what is put under a name is what changes
pub changed-by : {X : Type 0} (name : Name) (x : X) (old new : Named X) → new ≡ with_named old name x → IsChanged name (Some x) old new
changed-by name x old new put other = ap (named other) put ∙ named-with_named other name x old
