-- How the parts make the whole.
use Rattle.std.proofs.Common.{◌≡◌, ◌∙◌, ◌≤◌, ◌<◌, Bool, true, false, cond, le_refl, List, [], ◌∷◌, ◌++◌, refl, sym, ap, ap₂, subst, arith}
use Rattle.std.specs.Prelude.{None, Option, Some}
use Rattle.actor_mailbox.specs.declared.message.Message.{Message}
use Rattle.actor_mailbox.specs.Messages.{stays, without}
use Rattle.actor_mails.specs.Mails.{Boxes, KeepsRoom, Mail, mail_at, room_at}
use Rattle.shared_world.specs.rows.Attempts.{ArePrunedFor}
use Rattle.shared_world.specs.rows.Actors.{actor_with}
use Rattle.shared_world.specs.rows.Leading.{line_at}
use Rattle.shared_world.specs.rows.Resetting.{PieceBack, Resets, mail_back}
use Rattle.shared_world.specs.Seen.{one_or_none}
use Rattle.shared_world.specs.Shared.{Shared}
use Rattle.unit_table.specs.Board.{piece_at}
use Rattle.unit_table.specs.declared.piece.Piece.{Piece}
use Rattle.unit_table.specs.declared.piece.Piece.TheVariants as piece
use Rattle.value_core.specs.Named.{Name, Named, named}
use Rattle.world_model.proofs.lists.Lists.{Each, filter-all, filter-append}
use Rattle.world_reset.specs.Back.{put_back}
use Rattle.world_reset.specs.declared.back.Back.{Back}
use Rattle.world_reset.specs.Plan.{ArePlanned, PlannedAt}
use Rattle.world_steps.specs.Kept.{IsSameBut}

-- what stays of messages does so again
each-stays : (gone : Name → Bool) (ms : List Message) → Each (λ m. stays gone m ≡ true) (without gone ms)
each-stays gone [] = tt
each-stays gone (m ∷ ms) = on (stays gone m) refl (each-stays gone ms)
  where
    on : (c : Bool) → stays gone m ≡ c → Each (λ k. stays gone k ≡ true) (without gone ms) → Each (λ k. stays gone k ≡ true) (cond c (m ∷ without gone ms) (without gone ms))
    on true e rest = (e, rest)
    on false e rest = rest

pub without-twice : (gone : Name → Bool) (ms : List Message) → without gone (without gone ms) ≡ without gone ms
without-twice gone ms = filter-all (stays gone) (without gone ms) (each-stays gone ms)

-- where nothing has changed but room
pub same-but : (s new : Shared) → new ≡ s → IsSameBut s new
same-but s new same = subst (IsSameBut s) (sym same) (record { pieces = λ q. refl; claims = record { lent = λ q. refl; to = λ t. refl; later = λ slot. le_refl _ }; rest = refl })

-- the mail without what is not settled
module _ (s : Shared) (mails : Mail) (cleared : (a : Name) → mail_at mails a ≡ without (λ on. true) (mail_at s.mails a)) where
  abbrev mid : Shared
  mid = record s { mails = mails }

  pub are-settled : (a : Name) → without (λ on. true) (mail_at mails a) ≡ mail_at mails a
  are-settled a = ap (without (λ on. true)) (cleared a) ∙ without-twice (λ on. true) (mail_at s.mails a) ∙ sym (cleared a)

  mail-again : (a : Name) → mail_back mid a ≡ mail_back s a
  mail-again a =
      let first = one_or_none (named a s.taken) in
      filter-append (stays (λ on. true)) first (mail_at mails a)
      ∙ ap (λ l. without (λ on. true) first ++ l) (are-settled a ∙ cleared a)
      ∙ sym (filter-append (stays (λ on. true)) first (mail_at s.mails a))

  piece-again : (u : Name) (found now : Option Piece) → PieceBack mid u found now → PieceBack s u found now
  piece-again u None now is = is
  piece-again u (Some (piece.Unit x)) now is = is
  piece-again u (Some (piece.Task m)) now is = is
  piece-again u (Some (piece.Actor a)) now is = is ∙ ap (λ mail. Some (actor_with a.state mail)) (mail-again u)

  piece-planned : (u : Name) (b : Back) (found : Option Piece) → PieceBack s u found (put_back b (mail_back s u) found) → PieceBack mid u found (put_back b (mail_back mid u) found)
  piece-planned u b None is = ap (λ mail. put_back b mail None) (mail-again u) ∙ is
  piece-planned u b (Some (piece.Unit x)) is = subst (λ mail. PieceBack s u (Some (piece.Unit x)) (put_back b mail (Some (piece.Unit x)))) (sym (mail-again u)) is
  piece-planned u b (Some (piece.Task m)) is = ap (λ mail. put_back b mail (Some (piece.Task m))) (mail-again u) ∙ is
  piece-planned u b (Some (piece.Actor a)) is = subst (λ mail. put_back b mail (Some (piece.Actor a)) ≡ Some (actor_with a.state mail)) (sym (mail-again u)) is

  -- what was planned is still
  pub planned-on : (boxes more : Boxes) (plan : Named Back) → KeepsRoom boxes more → ArePlanned s boxes plan → ArePlanned mid more plan
  planned-on boxes more plan room are u = on (named u plan) (are u)
    where
      on : (b : Option Back) → PlannedAt s boxes u b → PlannedAt mid more u b
      on None is = record { none = is.none; free = is.free }
      on (Some b) is = record {
        back = record { can_be = is.back.can_be; puts = piece-planned u b (piece_at s.board u) is.back.puts };
        room = λ some. let had = is.room some in let keeps = room u in omega (arith, had, keeps);
      }

  -- all pieces are put back, and the rest is forgotten
  module _ (put new : Shared) (pieces : (u : Name) → PieceBack mid u (piece_at mid.board u) (piece_at put.board u)) (mail : (a : Name) → mail_at put.mails a ≡ mail_back mid a) (put_others : put ≡ record mid { board = put.board; mails = put.mails; taken = put.taken })
      (taken : new.taken ≡ []) (aheads : new.aheads ≡ []) (attempts : new.attempts ≡ []) (versions : ArePrunedFor new.attempts put.versions new.versions) (others : new ≡ record put { versions = new.versions; taken = new.taken; aheads = new.aheads; attempts = new.attempts }) where
    board : put.board ≡ new.board
    board = sym (ap (λ (k : Shared). k.board) others)

    pub whole : Resets s new
    whole = record {
      pieces = λ u. subst (λ b. PieceBack s u (piece_at s.board u) (piece_at b u)) board (piece-again u (piece_at s.board u) (piece_at put.board u) (pieces u));
      mails = λ a. ap (λ (k : Shared). mail_at k.mails a) others ∙ mail a ∙ mail-again a;
      taken = λ a. ap (named a) taken;
      aheads = λ u. ap (named u) aheads;
      attempts = λ u. ap (named u) attempts;
      versions = subst (λ vs. ArePrunedFor new.attempts vs new.versions) (ap (λ (k : Shared). k.versions) put_others) versions;
      others = others ∙ ap (λ (k : Shared). record k { versions = new.versions; taken = new.taken; aheads = new.aheads; attempts = new.attempts }) put_others
          ∙ ap₂ (λ b ms. record s { versions = new.versions; board = b; mails = ms; taken = new.taken; aheads = new.aheads; attempts = new.attempts }) board (sym (ap (λ (k : Shared). k.mails) others));
    }
