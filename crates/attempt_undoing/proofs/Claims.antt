-- Which claims end where an attempt is undone.
use Rattle.std.proofs.Common.{◌≡◌, ◌∙◌, ◌⊎◌, Bool, true, false, cond, inl, inr, List, [], ◌∷◌, ◌++◌, refl, sym, ap}
use Rattle.std.specs.Option.{option_map}
use Rattle.std.specs.Prelude.{None, Option, Some, ◌&&◌, is_some, not, if◌then◌else◌}
use Rattle.actor_mails.specs.Mails.{mail_at}
use Rattle.attempt_undoing.proofs.Undoes.{unit-last}
use Rattle.attempt_undoing.proofs.Unwinding.{IsUndoing, but-gone-was, left_by}
use Rattle.attempt_undoing.specs.Hanging.{Sent, IsAll}
use Rattle.attempt_undoing.specs.Sends.{IsEnded, marked_now}
use Rattle.attempt_undoing.specs.Undoing.{IsReadied}
use Rattle.shared_world.proofs.Live.{unit-piece}
use Rattle.shared_world.specs.Gave.{is_gone}
use Rattle.shared_world.specs.Marks.{AreMarkedBeside, UnitSays}
use Rattle.shared_world.specs.rows.Actors.{actor_mark, has_turn}
use Rattle.shared_world.specs.rows.Pieces.{but_gone}
use Rattle.shared_world.specs.rows.Undoing.{IdleEnd, actor_now}
use Rattle.shared_world.specs.Shared.{Shared, is_going}
use Rattle.shared_world.specs.Stands.{Stands}
use Rattle.task_fork_join.specs.Attempt.{Attempt}
use Rattle.unit_table.specs.Board.{LentAreReady, but_for, lent_to, mark_at, marks_ready, piece_at, unit_at}
use Rattle.unit_table.specs.declared.mark.Mark.{Mark}
use Rattle.unit_table.specs.declared.mark.Mark.TheVariants as mark
use Rattle.unit_table.specs.declared.mark.Work.TheVariants as work
use Rattle.unit_table.specs.declared.piece.Actor.{Actor}
use Rattle.unit_table.specs.declared.piece.Piece.{Piece}
use Rattle.unit_table.specs.declared.piece.Piece.TheVariants as piece
use Rattle.unit_table.specs.declared.unit.Unit.{Unit}
use Rattle.unit_table.specs.Piece.{mark_in, says_ready}
use Rattle.value_core.proofs.NamedLaws.{same_name-equal}
use Rattle.value_core.specs.declared.ticket.Ticket.{Ticket}
use Rattle.value_core.specs.Named.{Name, named, same_name}

gone-none : (a b : Option Piece) → (is_some a && not (is_some b)) ≡ true → b ≡ None
gone-none a None e = refl
gone-none None (Some p) e = cc
gone-none (Some q) (Some p) e = cc

rests : (turn : Bool) → says_ready (actor_mark turn []) ≡ false
rests true = refl
rests false = refl

-- the mark of an actor that has the one it has now is right
marked-there : (s now : Shared) (tried turns : List Name) (sends : List Sent) → IsUndoing s tried turns sends now → (a : Name) (x : Actor) → piece_at now.board a ≡ Some (piece.Actor x) → x.mark ≡ actor_mark (has_turn now.taken a x.state) (mail_at now.mails a)
marked-there s now tried turns sends way a x at = on (left_by s.attempts tried turns a (piece_at s.board a)) (sym (way.pieces a) ∙ at)
  where
    on : (found : Option Piece) → marked_now now a found ≡ Some (piece.Actor x) → x.mark ≡ actor_mark (has_turn now.taken a x.state) (mail_at now.mails a)
    on None e = cc
    on (Some (piece.Unit y)) e = cc
    on (Some (piece.Task m)) e = cc
    on (Some (piece.Actor y)) e = let same : actor_now now a y ≡ x = cc in ap (λ (k : Actor). k.mark) (sym same) ∙ ap (λ (k : Actor). actor_mark (has_turn now.taken a k.state) (mail_at now.mails a)) same

module _ (s : Shared) (st : Stands s) (on_going : s.end ≡ None) (u : Name) (marks : AreMarkedBeside s u) (x : Unit) (tree : Attempt) (at_u : unit_at s.board u ≡ Some x) (own : named u s.attempts ≡ Some tree) (turns : List Name) (sends : List Sent)
    (all : IsAll s u tree.root turns sends) (last : Shared) (way : IsUndoing s (turns ++ u ∷ []) turns sends last) (new : Shared) (readied : IsReadied u last.board new.board) (old_ready : LentAreReady s.board) (new_ready : LentAreReady new.board) where
  last-unit : piece_at last.board u ≡ Some (piece.Unit x)
  last-unit = unit-last s st on_going u x tree at_u own turns sends all last way

  -- no claim is on the unit that is marked anew
  unit-ready : (m : Mark) → x.mark ≡ m → UnitSays s u x m → says_ready m ≡ true → mark_at last.board u ≡ Some (mark.Ready work.Settle)
  unit-ready (mark.Ready work.Eval) is says e = let no : None ≡ Some tree = sym says ∙ own in cc
  unit-ready (mark.Ready work.Settle) is says e = ap (option_map mark_in) last-unit ∙ ap (λ m. Some m) is
  unit-ready (mark.Ready work.Begin) is says e = absurd says
  unit-ready (mark.Waiting on) is says e = cc
  unit-ready mark.Resting is says e = cc
  unit-ready (mark.Finished v) is says e = cc
  unit-ready mark.Dropped is says e = cc

  unit-free : (t : Ticket) → (mark_at last.board u ≡ Some (mark.Ready work.Settle) → ⊥) → lent_to last.board t ≡ Some u → ⊥
  unit-free t other lent = by (way.claims t)
    where
      by : (lent_to last.board t ≡ but_gone (is_gone s.board last.board) (lent_to s.board t)) ⊎ (IsEnded s last t) → ⊥
      by (inr ended) = let no : None ≡ Some u = sym ended.now ∙ lent in cc
      by (inl same) =
          let in_old = but-gone-was (is_gone s.board last.board) (lent_to s.board t) u (sym same ∙ lent) in
          other (unit-ready x.mark refl (marks.units u x at_u) (sym (ap marks_ready (unit-piece s.board u x at_u)) ∙ old_ready t u in_old))

  -- what was lent to none is not
  free-new : (t : Ticket) → lent_to last.board t ≡ None → lent_to new.board t ≡ None
  free-new t none = by readied
    where
      by : IsReadied u last.board new.board → lent_to new.board t ≡ None
      by (inl so) = ap (λ b. lent_to b t) so.0 ∙ none
      by (inr so) = so.1.to t ∙ ap (but_for u) none

  lent-new : (t : Ticket) (q : Name) → lent_to last.board t ≡ Some q → lent_to new.board t ≡ Some q
  lent-new t q lent = by readied
    where
      by : IsReadied u last.board new.board → lent_to new.board t ≡ Some q
      by (inl so) = ap (λ b. lent_to b t) so.0 ∙ lent
      by (inr so) = so.1.to t ∙ ap (but_for u) lent ∙ on (same_name q u) refl
        where
          on : (c : Bool) → same_name q u ≡ c → cond c None (Some q) ≡ Some q
          on true e = absurd (unit-free t so.2 (lent ∙ ap (λ n. Some n) (same_name-equal q u e)))
          on false e = refl

  -- another piece stays
  beside : (q : Name) (found : Option Piece) → piece_at last.board q ≡ found → (found ≡ Some (piece.Unit x) → ⊥) → piece_at new.board q ≡ found
  beside q found at apart = by readied
    where
      other : q ≡ u → ⊥
      other same = apart (sym at ∙ ap (piece_at last.board) same ∙ last-unit)

      by : IsReadied u last.board new.board → piece_at new.board q ≡ found
      by (inl so) = ap (λ b. piece_at b q) so.0 ∙ at
      by (inr so) = so.0.others q other ∙ at

  abbrev idle : Name → Bool
  idle n = not (marks_ready (piece_at new.board n))

  ends : (t : Ticket) (q : Name) → lent_to new.board t ≡ None → idle q ≡ true → lent_to new.board t ≡ cond (idle q) None (Some q)
  ends t q none is = none ∙ ap (λ c. cond c None (Some q)) (sym is)

  claim : (t : Ticket) → lent_to new.board t ≡ but_gone idle (lent_to s.board t)
  claim t = on (lent_to s.board t) refl (way.claims t)
    where
      gone-or : (q : Name) → lent_to last.board t ≡ cond (is_gone s.board last.board q) None (Some q) → (c : Bool) → is_gone s.board last.board q ≡ c → lent_to new.board t ≡ cond (idle q) None (Some q)
      gone-or q lent true e = ends t q (free-new t (lent ∙ ap (λ c. cond c None (Some q)) e)) (ap (λ p. not (marks_ready p)) (beside q None (gone-none (piece_at s.board q) (piece_at last.board q) e) (λ so. cc)))
      gone-or q lent false e =
          let now = lent-new t q (lent ∙ ap (λ c. cond c None (Some q)) e) in
          now ∙ ap (λ c. cond (not c) None (Some q)) (sym (new_ready t q now))

      on : (found : Option Name) → lent_to s.board t ≡ found → (lent_to last.board t ≡ but_gone (is_gone s.board last.board) (lent_to s.board t)) ⊎ (IsEnded s last t) → lent_to new.board t ≡ but_gone idle found
      on None e (inl same) = free-new t (same ∙ ap (but_gone (is_gone s.board last.board)) e)
      on None e (inr ended) = let no : None ≡ Some ended.name = sym e ∙ ended.was in cc
      on (Some q) e (inl same) = gone-or q (same ∙ ap (but_gone (is_gone s.board last.board)) e) (is_gone s.board last.board q) refl
      on (Some q) e (inr ended) =
          let both : Some ended.name ≡ Some q = sym ended.was ∙ e in
          let one : ended.name ≡ q = cc in
          let right = marked-there s last (turns ++ u ∷ []) turns sends way ended.name ended.actor ended.there in
          let at = beside ended.name (Some (piece.Actor ended.actor)) ended.there (λ so. cc) in
          let rest = ap (λ p. not (marks_ready p)) at ∙ ap (λ m. not (says_ready m)) (right ∙ ap (actor_mark (has_turn last.taken ended.name ended.actor.state)) ended.mail) ∙ ap not (rests (has_turn last.taken ended.name ended.actor.state)) in
          ends t q (free-new t ended.now) (ap idle (sym one) ∙ rest)

  pub idle-end : new.end ≡ s.end → IdleEnd s new
  idle-end end going t =
      ap (λ c. if c then lent_to new.board t else None) going ∙ claim t
      ∙ ap (λ c. but_gone (λ n. not (marks_ready (piece_at new.board n))) (if c then lent_to s.board t else None)) (sym (ap is_going (sym end) ∙ going))
