-- Actors that are due to take a message.
use Rattle.std.proofs.Common.{◌≡◌, ◌<◌, ℕ, zero, suc, false, true, List, [], ◌∷◌, refl, sym, ap, subst, not-suc-le-zero, arith}
use Rattle.std.specs.List.{slice_get}
use Rattle.std.specs.Option.{is_some, option_map}
use Rattle.std.proofs.lemmas.Option.{slice_get_within}
use Rattle.actor_mailbox.specs.declared.message.Message.{Message}
use Rattle.actor_mailbox.specs.Messages.{passes}
use Rattle.actor_mails.specs.Mails.{mail_at}
use Rattle.actor_turns.specs.declared.turns.Due.{Due}
use Rattle.actor_turns.specs.Turning.{due_by, CanBegin, IsAtFront, IsDueSo}
use Rattle.core_syntax.specs.declared.row.Row.{Row}
use Rattle.core_syntax.specs.WellFormed.{IsTurn, IsTurnAt}
use Rattle.core_syntax.specs.declared.node_id.NodeId.{NodeId}
use Rattle.std.specs.Prelude.{Err, IsSomeAnd, None, Ok, OnOk, Option, Result, Some, length}
use Rattle.shared_world.specs.Shared.{Shared}
use Rattle.unit_table.specs.Board.{piece_at}
use Rattle.unit_table.specs.declared.piece.Actor.{Actor}
use Rattle.unit_table.specs.declared.piece.Piece.TheVariants as piece
use Rattle.value_core.specs.Named.{Name}

-- where nothing is said there is none
pub none-is : {X : Type 0} (o : Option X) → is_some o ≡ false → o ≡ None
none-is None e = refl
none-is (Some x) e = cc

-- what is in range is there
pub there-is : {X : Type 0} (xs : List X) (k : ℕ) → k < length xs → (x : X) × (slice_get xs k ≡ Some x)
there-is [] k below = absurd (not-suc-le-zero below)
there-is (x ∷ xs) zero below = (x, refl)
there-is (x ∷ xs) (suc k) below = there-is xs k (omega (arith, below))

-- what is first is followed by the others
pub first-is : {X : Type 0} (xs : List X) (x : X) → slice_get xs 0 ≡ Some x → (rest : List X) × (xs ≡ x ∷ rest)
first-is [] x e = cc
first-is (y ∷ ys) x e = (ys, first e)
  where
    first : Some y ≡ Some x → y ∷ ys ≡ x ∷ ys
    first e = cc

-- what follows on Ok
pub on-ok : {E : Type 0} (r : Result (Unit {0}) E) {P Q : Type 0} → (P → Q) → OnOk r P → OnOk r Q
on-ok (Ok u) f p = f p
on-ok (Err e) f p = tt

-- the body of a turn is in the table
pub turn-below : (nodes : List Row) (id : NodeId) → IsTurnAt nodes id → id.index < length nodes
turn-below nodes id is = on (slice_get nodes id.index) refl
  where
    on : (found : Option Row) → slice_get nodes id.index ≡ found → id.index < length nodes
    on None none = absurd (subst (λ o. IsSomeAnd (option_map (λ (r : Row). r.node) o) IsTurn) none is)
    on (Some row) some = slice_get_within nodes id.index row some

-- an actor that can begin a turn on the message at its front begins it as that says
pub due-so : (s : Shared) (a : Name) (actor : Actor) (m : Message) (how : Due) → piece_at s.board a ≡ Some (piece.Actor actor) → slice_get (mail_at s.mails a) 0 ≡ Some m → CanBegin s a actor.state → how ≡ due_by m.depends → IsDueSo s a how
due-so s a actor m how there front can is = subst (IsDueSo s a) (sym is) (by m.depends refl)
  where
    mail : (rest : List Message) × (mail_at s.mails a ≡ m ∷ rest)
    mail = first-is (mail_at s.mails a) m front

    at : IsAtFront s a
    at = record { actor = actor; there = there; first = m; rest = mail.0; mail = mail.1; can = can }

    by : (o : Option Name) → m.depends ≡ o → IsDueSo s a (due_by o)
    by None e = record { front = at; definite = e }
    by (Some on) e = record { front = at; tentative = ap (passes (λ q. true)) e }
