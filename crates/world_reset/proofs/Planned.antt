-- What is planned for the names that were passed.
use Rattle.std.proofs.Common.{◌≡◌, ◌∙◌, ◌≤◌, ◌<◌, Bool, true, false, cond, [], ◌∷◌, refl, sym, ap, subst, arith}
use Rattle.std.specs.declared.cmp.Ordering.{Ordering}
use Rattle.std.specs.declared.cmp.Ordering.TheVariants.{Equal, Greater, Less}
use Rattle.std.specs.Option.{option_and_then}
use Rattle.std.specs.Ordering.{is_gt}
use Rattle.std.specs.Prelude.{IsSome, None, Option, Some}
use Rattle.actor_mailbox.specs.declared.message.Message.{Message}
use Rattle.actor_mails.specs.Mails.{Boxes, KeepsRoom, room_at}
use Rattle.shared_world.specs.Seen.{one_or_none}
use Rattle.shared_world.specs.Shared.{Shared}
use Rattle.shared_world.specs.Stands.{Stands}
use Rattle.unit_table.specs.Board.{Board, ComesAfter, IsNextAfter, actor_at, piece_at}
use Rattle.unit_table.specs.declared.piece.Piece.{Piece}
use Rattle.unit_table.specs.Piece.{actor_in}
use Rattle.value_core.proofs.Names.{after_cmp-IsAntisymmetric}
use Rattle.value_core.proofs.NamedLaws.{named-with_named, same_name-equal, same_name-itself}
use Rattle.value_core.specs.Name.{after_cmp}
use Rattle.value_core.specs.Named.{Name, Named, named, same_name}
use Rattle.world_model.specs.StandsFor.{TakenStands}
use Rattle.world_reset.specs.declared.back.Back.{Back}
use Rattle.world_reset.specs.Plan.{ArePlanned, IsNextOr, IsPlanned, IsPlannedAlso, PlannedAt, PlannedUpTo}

-- what is planned for all names but those that come after that one
abbrev pub AreSoFar : Shared → Boxes → Option Name → Named Back → Type 0
AreSoFar s mails passed plan = (u : Name) → PlannedUpTo s mails passed u (named u plan)

-- at first nothing is
pub none-planned : (s : Shared) (mails : Boxes) → AreSoFar s mails None []
none-planned s mails u some = tt

-- where nothing stands, no message is taken
pub free-there : (s : Shared) → Stands s → (a : Name) → piece_at s.board a ≡ None → named a s.taken ≡ None
free-there s st a none = on (named a s.taken) refl
  where
    on : (found : Option Message) → named a s.taken ≡ found → found ≡ None
    on None is = refl
    on (Some m) is =
        let begun = subst (TakenStands st.world.actors st.world.units a) (st.seen.taken a ∙ ap one_or_none is) (st.is_world.stands.turns a) in
        let no : None ≡ Some begun.actor = sym (ap (option_and_then actor_in) none) ∙ sym (st.seen.actors a) ∙ begun.there in cc

-- one piece more
module _ (s : Shared) (mails more : Boxes) (passed : Option Name) (name : Name) (plan new : Named Back) (next : IsNextAfter s.board passed name) (room : KeepsRoom mails more) (also : IsPlannedAlso s more name plan new) where
  behind : (u : Name) → same_name u name ≡ false → (o : Ordering) → after_cmp name u ≡ o → is_gt o ≡ false → o ≡ Less
  behind u other Less e least = refl
  behind u other Equal e least = let bad : true ≡ false = sym (same_name-itself name) ∙ ap (λ n. same_name n name) (after_cmp-IsAntisymmetric name u e) ∙ other in cc
  behind u other Greater e least = cc

  kept : (u : Name) → same_name u name ≡ false → (b : Option Back) → PlannedUpTo s mails passed u b → PlannedUpTo s more (Some name) u b
  kept u other None is = λ some. behind u other (after_cmp name u) refl (next.first u (is some) some)
  kept u other (Some b) is = record { back = is.back; room = λ some. let had = is.room some in let keeps = room u in omega (arith, had, keeps) }

  pub also-planned : AreSoFar s mails passed plan → AreSoFar s more (Some name) new
  also-planned are u = subst (PlannedUpTo s more (Some name) u) (sym (ap (named u) also.put ∙ named-with_named u name also.back plan)) (on (same_name u name) refl)
    where
      on : (c : Bool) → same_name u name ≡ c → PlannedUpTo s more (Some name) u (cond c (Some also.back) (named u plan))
      on true e = subst (λ q. IsPlanned s more q also.back) (sym (same_name-equal u name e)) also.is
      on false e = kept u e (named u plan) (are u)

-- where nothing comes after, all is planned
pub all-planned : (s : Shared) → Stands s → (mails : Boxes) (passed : Option Name) (plan : Named Back) → IsNextOr s.board passed None → AreSoFar s mails passed plan → ArePlanned s mails plan
all-planned s st mails passed plan none are u = on (named u plan) (are u)
  where
    vacant : (IsSome (piece_at s.board u) → ComesAfter passed u) → (found : Option Piece) → piece_at s.board u ≡ found → piece_at s.board u ≡ None
    vacant after None is = is
    vacant after (Some p) is = none u (after (subst IsSome (sym is) refl))

    on : (b : Option Back) → PlannedUpTo s mails passed u b → PlannedAt s mails u b
    on None is = let empty = vacant is (piece_at s.board u) refl in record { none = empty; free = free-there s st u empty }
    on (Some b) is = is
