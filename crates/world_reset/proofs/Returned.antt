-- What pieces and mail are like once they are put back.
use Rattle.std.proofs.Common.{◌≡◌, ◌∙◌, ◌≤◌, ◌<◌, ℕ, Bool, true, false, cond, length, List, [], ◌∷◌, ◌++◌, refl, sym, ap, ap₂, subst, arith}
use Rattle.std.specs.Option.{option_and_then, option_map}
use Rattle.std.specs.Prelude.{IsSome, None, Option, Some, if◌then◌else◌, not}
use Rattle.actor_mailbox.specs.declared.message.Message.{Message}
use Rattle.actor_mailbox.specs.Messages.{passes, without}
use Rattle.actor_mails.specs.Mails.{Boxes, IsMailed, KeepsRoomBut, held, mail_at, room_at}
use Rattle.shared_world.specs.rows.Attempts.{IsWithout}
use Rattle.shared_world.specs.rows.Resetting.{PieceBack, mail_back}
use Rattle.shared_world.specs.Seen.{one_or_none}
use Rattle.shared_world.specs.Shared.{Shared}
use Rattle.unit_table.specs.Board.{Board, IsMarked, IsPutAt, IsUnlent, SameClaims, but_for, lent_to, piece_at}
use Rattle.unit_table.specs.declared.piece.Piece.{Piece}
use Rattle.value_core.proofs.NamedLaws.{same_name-equal, same_name-itself}
use Rattle.value_core.specs.declared.ticket.Ticket.{Ticket}
use Rattle.value_core.specs.Named.{Name, Named, named, same_name}
use Rattle.value_core.specs.Placed.{filled}
use Rattle.world_reset.specs.Back.{CanBe, IsBackFor, put_back}
use Rattle.world_reset.specs.declared.back.Back.{Back}
use Rattle.world_reset.specs.Plan.{ArePlanned, HasRoom, IsPlanned, PlannedAt}
use Rattle.world_reset.specs.Putting.{AreSettled, HasPutBack, NoneMoreOut, back_with, is_there}
use Rattle.world_steps.specs.declared.kept.Kept.{Kept}
use Rattle.world_steps.specs.Kept.{shared_of}

-- ---- the mail
-- where what waits is settled, the mail is what it was but for what was taken
pub mail-with : (s : Shared) (a : Name) → without (λ on. true) (mail_at s.mails a) ≡ mail_at s.mails a → back_with (named a s.taken) (mail_at s.mails a) ≡ mail_back s a
mail-with s a settled = on (named a s.taken)
  where
    first : (m : Message) (tentative : Bool) → (if not tentative then m ∷ mail_at s.mails a else mail_at s.mails a) ≡ cond (not tentative) (m ∷ without (λ on. true) (mail_at s.mails a)) (without (λ on. true) (mail_at s.mails a))
    first m true = sym settled
    first m false = ap (λ l. m ∷ l) (sym settled)

    on : (taken : Option Message) → back_with taken (mail_at s.mails a) ≡ without (λ on. true) (one_or_none taken ++ mail_at s.mails a)
    on None = sym settled
    on (Some m) = first m (passes (λ on. true) m.depends)

-- what is taken of any other name stays
pub taken-others : (name : Name) (old new : Named Message) → ((q : Name) → named q new ≡ cond (same_name q name) None (named q old)) → (other : Name) → (other ≡ name → ⊥) → named other new ≡ named other old
taken-others name old new shows other ne = shows other ∙ on (same_name other name) refl
  where
    on : (c : Bool) → same_name other name ≡ c → cond c None (named other old) ≡ named other old
    on true e = absurd (ne (same_name-equal other name e))
    on false e = refl

-- ---- the claims
pub marked-out : (name : Name) (old new : Board) → IsUnlent name old new → NoneMoreOut old new
marked-out name old new unlent t none = unlent.to t ∙ ap (but_for name) none

pub same-out : (old new : Board) → SameClaims old new → NoneMoreOut old new
same-out old new same t none = same.to t ∙ none

pub out-then : (first mid last : Board) → NoneMoreOut first mid → NoneMoreOut mid last → NoneMoreOut first last
out-then first mid last a b t none = b t (a t none)

-- ---- what is still to be put back
-- what stands under the name is as it was, and its back is planned
pub record IsStill (old now : Kept) (u : Name) (b : Back) : Type 0 where
  pub planned : IsPlanned (shared_of old) now.mails u b
  pub piece : piece_at now.units u ≡ piece_at old.units u
  pub mail : mail_at (held now.mails) u ≡ mail_at (held old.mails) u
  pub taken : named u (filled now.taken) ≡ named u (filled old.taken)

-- it is put back
pub record IsBackNow (old now : Kept) (u : Name) : Type 0 where
  pub piece : PieceBack (shared_of old) u (piece_at old.units u) (piece_at now.units u)
  pub mail : mail_at (held now.mails) u ≡ mail_back (shared_of old) u

abbrev pub LeftAt : Kept → Kept → Name → Option Back → Type 0
LeftAt old now u None = IsBackNow old now u
LeftAt old now u (Some b) = IsStill old now u b

-- of these names some are left
abbrev pub AreLeft : Kept → Named Back → Kept → Type 0
AreLeft old plan now = (u : Name) → LeftAt old now u (named u plan)

-- at first all are
pub all-left : (old : Kept) (plan : Named Back) → ArePlanned (shared_of old) old.mails plan → AreSettled (held old.mails) → AreLeft old plan old
all-left old plan planned settled u = on (named u plan) (planned u)
  where
    on : (b : Option Back) → PlannedAt (shared_of old) old.mails u b → LeftAt old old u b
    on None is = record {
      piece = subst (λ found. PieceBack (shared_of old) u found found) (sym is.none) refl;
      mail = ap (λ taken. back_with taken (mail_at (held old.mails) u)) (sym is.free) ∙ mail-with (shared_of old) u (settled u);
    }
    on (Some b) is = record { planned = is; piece = refl; mail = refl; taken = refl }

-- one name less is
module _ (old before after : Kept) (plan rest : Named Back) (name : Name) (b : Back) (there : named name plan ≡ Some b) (gone : IsWithout name plan rest) (settled : AreSettled (held old.mails)) (put : HasPutBack name b before after) where
  here : LeftAt old before name (Some b) → IsBackNow old after name
  here still = record {
    piece = subst (PieceBack (shared_of old) name (piece_at old.units name)) (sym (put.piece.here ∙ ap₂ (λ mail found. put_back b mail found) mail still.piece)) still.planned.back.puts;
    mail = put.mail.here ∙ mail;
  }
    where
      mail : back_with (named name (filled before.taken)) (mail_at (held before.mails) name) ≡ mail_back (shared_of old) name
      mail = ap₂ (λ taken ms. back_with taken ms) still.taken still.mail ∙ mail-with (shared_of old) name (settled name)

  others : (u : Name) → (u ≡ name → ⊥) → (o : Option Back) → LeftAt old before u o → LeftAt old after u o
  others u ne None is = record {
    piece = subst (PieceBack (shared_of old) u (piece_at old.units u)) (sym (put.piece.others u ne)) is.piece;
    mail = put.mail.others u ne ∙ is.mail;
  }
  others u ne (Some k) is = record {
    planned = record { back = is.planned.back; room = λ some. let had = is.planned.room some in let more = put.room u ne in omega (arith, had, more) };
    piece = put.piece.others u ne ∙ is.piece;
    mail = put.mail.others u ne ∙ is.mail;
    taken = put.taken u ne ∙ is.taken;
  }

  pub one-less : AreLeft old plan before → AreLeft old rest after
  one-less are u = on (same_name u name) refl
    where
      on : (c : Bool) → same_name u name ≡ c → LeftAt old after u (named u rest)
      on true e =
          let is : u ≡ name = same_name-equal u name e in
          let none : named u rest ≡ None = gone u ∙ ap (λ c. cond c None (named u plan)) e in
          subst (LeftAt old after u) (sym none) (subst (λ q. IsBackNow old after q) (sym is) (here (subst (LeftAt old before name) there (are name))))
      on false e =
          let ne : u ≡ name → ⊥ = λ same. let no : true ≡ false = sym (same_name-itself name) ∙ ap (λ n. same_name n name) (sym same) ∙ e in cc in
          subst (LeftAt old after u) (sym (gone u ∙ ap (λ c. cond c None (named u plan)) e)) (others u ne (named u plan) (are u))

-- ---- what a name that is still planned can be
pub can-put : (old now : Kept) (name : Name) (b : Back) → IsStill old now name b → CanBe b (piece_at now.units name)
can-put old now name b still = subst (CanBe b) (sym still.piece) still.planned.back.can_be

pub has-room : (old now : Kept) (name : Name) (b : Back) → IsStill old now name b → IsSome (named name (filled now.taken)) → 0 < room_at now.mails name
has-room old now name b still some = still.planned.room (subst IsSome still.taken some)

-- ---- once no name is left
pub no-more : (plan : Named Back) → (0 < length plan → ⊥) → plan ≡ []
no-more [] none = refl
no-more (e ∷ es) none = absurd (none (omega arith))

pub all-back : (old now : Kept) (plan : Named Back) → plan ≡ [] → AreLeft old plan now → (u : Name) → IsBackNow old now u
all-back old now plan none are u = subst (LeftAt old now u) (ap (named u) none) (are u)
