-- An attempt as it is undone: what is left once some of what goes is gone.
use Rattle.std.proofs.Common.{◌≡◌, ◌∙◌, ◌⊎◌, Bool, true, false, cond, inl, inr, List, [], ◌∷◌, ◌++◌, refl, sym, ap, ap₂}
use Rattle.std.proofs.lemmas.List.Folds.{list_any-append}
use Rattle.std.specs.List.{list_any}
use Rattle.std.specs.Prelude.{None, Option, Some, ◌&&◌, ◌||◌, is_some, not}
use Rattle.actor_mailbox.specs.declared.message.Message.{Message}
use Rattle.actor_mailbox.specs.Messages.{passes, without}
use Rattle.actor_mails.specs.Mails.{mail_at}
use Rattle.attempt_undoing.proofs.Goes.{OnlyGoes, gone-twice, none-ends}
use Rattle.attempt_undoing.proofs.Lists.{or-left, or-one, or-right, sent-append}
use Rattle.attempt_undoing.proofs.SendsGone.{left-twice, marked-right, without-never, without-twice}
use Rattle.attempt_undoing.specs.Dropping.{GoneEnds, IsUnitGone, has_task, is_task_in, task_gone_where, unit_gone}
use Rattle.attempt_undoing.specs.Hanging.{Sent, is_sent}
use Rattle.attempt_undoing.specs.Sends.{ActorsMarked, IsEnded, SendsGone, marked_now}
use Rattle.shared_world.proofs.ActorPieces.{not-same}
use Rattle.shared_world.specs.Gave.{is_gone}
use Rattle.shared_world.specs.rows.Actors.{actor_mark, has_turn}
use Rattle.shared_world.specs.rows.Attempts.{IsWithout}
use Rattle.shared_world.specs.rows.Pieces.{but_gone}
use Rattle.shared_world.specs.rows.Undoing.{actor_now, message_left}
use Rattle.shared_world.specs.Shared.{Shared}
use Rattle.task_fork_join.specs.Attempt.{Attempt}
use Rattle.task_fork_join.specs.declared.task.Task.{Task}
use Rattle.unit_table.specs.Board.{Board, lent_to, piece_at}
use Rattle.unit_table.specs.declared.piece.Actor.{Actor}
use Rattle.unit_table.specs.declared.piece.Piece.{Piece}
use Rattle.unit_table.specs.declared.piece.Piece.TheVariants as piece
use Rattle.value_core.proofs.NamedLaws.{same_name-equal}
use Rattle.value_core.specs.declared.ticket.Ticket.{Ticket}
use Rattle.value_core.specs.Named.{Name, Named, is_among, named, same_name}

-- what stands under a name, unless it is one of these
abbrev pub IsBut : {X : Type 0} → List Name → Named X → Named X → Type 0
IsBut {X} names old new = (v : Name) → named v new ≡ cond (is_among v names) None (named v old)

-- what is left of what stood under a name once these turns are gone, and the tasks of these units' attempts
abbrev pub left_by : Named Attempt → List Name → List Name → Name → Option Piece → Option Piece
left_by attempts tried turns n None = None
left_by attempts tried turns n (Some (piece.Unit x)) = cond (is_among n turns) None (Some (piece.Unit x))
left_by attempts tried turns n (Some (piece.Task m)) = cond (is_task_in attempts n tried) None (Some (piece.Task m))
left_by attempts tried turns n (Some (piece.Actor x)) = Some (piece.Actor x)

-- the attempts of these units are gone, with their tasks, these turns are, and all of this that was sent; the marks of the actors are
-- right, and only claims end on what is gone or on an actor that is left without mail
pub record IsUndoing (s : Shared) (tried turns : List Name) (sends : List Sent) (now : Shared) : Type 0 where
  pub attempts : IsBut tried s.attempts now.attempts
  pub pieces : (n : Name) → piece_at now.board n ≡ marked_now now n (left_by s.attempts tried turns n (piece_at s.board n))
  pub mails : (a : Name) → mail_at now.mails a ≡ without (is_sent sends a) (mail_at s.mails a)
  pub taken : (a : Name) → named a now.taken ≡ message_left (is_sent sends a) (named a s.taken)
  pub claims : (t : Ticket) → (lent_to now.board t ≡ but_gone (is_gone s.board now.board) (lent_to s.board t)) ⊎ (IsEnded s now t)

-- ---- marks
marked-again : (now next : Shared) (n : Name) (found : Option Piece) → marked_now next n (marked_now now n found) ≡ marked_now next n found
marked-again now next n None = refl
marked-again now next n (Some (piece.Unit x)) = refl
marked-again now next n (Some (piece.Task m)) = refl
marked-again now next n (Some (piece.Actor x)) = refl

pub marked-like : (now next : Shared) → next.taken ≡ now.taken → next.mails ≡ now.mails → (n : Name) (found : Option Piece) → marked_now now n found ≡ marked_now next n found
marked-like now next taken mails n None = refl
marked-like now next taken mails n (Some (piece.Unit x)) = refl
marked-like now next taken mails n (Some (piece.Task m)) = refl
marked-like now next taken mails n (Some (piece.Actor x)) =
    ap₂ (λ messages mail. Some (piece.Actor (record x { mark = actor_mark (has_turn messages n x.state) (mail_at mail n) }))) (sym taken) (sym mails)

marked-some : (s : Shared) (n : Name) (found : Option Piece) → is_some (marked_now s n found) ≡ is_some found
marked-some s n None = refl
marked-some s n (Some (piece.Unit x)) = refl
marked-some s n (Some (piece.Task m)) = refl
marked-some s n (Some (piece.Actor x)) = refl

task-marked : (s : Shared) (n : Name) (c : Bool) (found : Option Piece) → task_gone_where c (marked_now s n found) ≡ marked_now s n (task_gone_where c found)
task-marked s n c None = refl
task-marked s n c (Some (piece.Unit x)) = refl
task-marked s n true (Some (piece.Task m)) = refl
task-marked s n false (Some (piece.Task m)) = refl
task-marked s n c (Some (piece.Actor x)) = refl

unit-marked : (s : Shared) (n : Name) (found : Option Piece) → unit_gone (marked_now s n found) ≡ marked_now s n (unit_gone found)
unit-marked s n None = refl
unit-marked s n (Some (piece.Unit x)) = refl
unit-marked s n (Some (piece.Task m)) = refl
unit-marked s n (Some (piece.Actor x)) = refl

-- ---- claims
pub but-gone-was : (test : Name → Bool) (found : Option Name) (q : Name) → but_gone test found ≡ Some q → found ≡ Some q
but-gone-was test None q e = cc
but-gone-was test (Some k) q e = on (test k) e
  where
    on : (c : Bool) → cond c None (Some k) ≡ Some q → Some k ≡ Some q
    on true e = cc
    on false e = e

gone-like : (a b c : Board) → ((n : Name) → is_some (piece_at c n) ≡ is_some (piece_at b n)) → (found : Option Name) → but_gone (is_gone a b) found ≡ but_gone (is_gone a c) found
gone-like a b c same None = refl
gone-like a b c same (Some q) = ap (λ k. cond (is_some (piece_at a q) && not k) None (Some q)) (sym (same q))

-- what is gone twice is gone
pub twice : (a b c : Board) → OnlyGoes a b → OnlyGoes b c → (found : Option Name) → but_gone (is_gone b c) (but_gone (is_gone a b) found) ≡ but_gone (is_gone a c) found
twice a b c ab bc None = refl
twice a b c ab bc (Some q) = by (is_gone a b q) refl
  where
    by : (k : Bool) → is_gone a b q ≡ k → but_gone (is_gone b c) (cond k None (Some q)) ≡ cond (is_gone a c q) None (Some q)
    by true e = gone-twice (piece_at a q) (piece_at b q) (piece_at c q) (ab q) (bc q) true (sym e) q
    by false e = gone-twice (piece_at a q) (piece_at b q) (piece_at c q) (ab q) (bc q) false (sym e) q

-- ---- tests
or-known : (b c : Bool) → (b ≡ true → c ≡ true) → (b || c) ≡ c
or-known true c known = sym (known refl)
or-known false c known = refl

-- a task of an attempt that is among these
pub task-in : (s : Shared) (v n : Name) (units : List Name) → is_among v units ≡ true → has_task n (named v s.attempts) ≡ true → is_task_in s.attempts n units ≡ true
task-in s v n [] is has = cc
task-in s v n (q ∷ qs) is has = by (or-one (same_name v q) (is_among v qs) is) (λ later. task-in s v n qs later has)
  where
    by : (same_name v q ≡ true) ⊎ (is_among v qs ≡ true) → (is_among v qs ≡ true → is_task_in s.attempts n qs ≡ true) → is_task_in s.attempts n (q ∷ qs) ≡ true
    by (inl same) rest = or-left (has_task n (named q s.attempts)) (is_task_in s.attempts n qs) (ap (λ p. has_task n (named p s.attempts)) (sym (same_name-equal v q same)) ∙ has)
    by (inr later) rest = or-right (has_task n (named q s.attempts)) (is_task_in s.attempts n qs) (rest later)

-- ---- at first nothing is gone
pub undoing-none : (s : Shared) → ActorsMarked s → IsUndoing s [] [] [] s
undoing-none s right = record {
  attempts = λ v. refl;
  pieces = λ n. marked-right s right n ∙ ap (marked_now s n) (all n (piece_at s.board n));
  mails = λ a. without-never (is_sent [] a) (λ on. refl) (mail_at s.mails a);
  taken = λ a. none a (named a s.taken);
  claims = λ t. inl (none-ends s.board (lent_to s.board t));
}
  where
    all : (n : Name) (found : Option Piece) → found ≡ left_by s.attempts [] [] n found
    all n None = refl
    all n (Some (piece.Unit x)) = refl
    all n (Some (piece.Task m)) = refl
    all n (Some (piece.Actor x)) = refl

    none : (a : Name) (found : Option Message) → found ≡ message_left (is_sent [] a) found
    none a None = refl
    none a (Some m) = by m.depends
      where
        by : (depends : Option Name) → Some m ≡ cond (passes (λ on. false) depends) None (Some m)
        by None = refl
        by (Some on) = refl

module _ (s : Shared) (tried turns : List Name) (sends : List Sent) (now : Shared) (way : IsUndoing s tried turns sends now) where
  -- nothing new stands
  pub undoing-only : OnlyGoes s.board now.board
  undoing-only n none = way.pieces n ∙ ap (λ p. marked_now now n (left_by s.attempts tried turns n p)) none

  -- ---- more that was sent is gone
  pub undoing-sends : (more : List Sent) (next : Shared) → SendsGone more now next → next.attempts ≡ now.attempts → IsUndoing s tried turns (sends ++ more) next
  undoing-sends more next gone attempts = record {
    attempts = λ v. ap (named v) attempts ∙ way.attempts v;
    pieces = λ n. gone.pieces n ∙ ap (marked_now next n) (way.pieces n) ∙ marked-again now next n (left_by s.attempts tried turns n (piece_at s.board n));
    mails = λ a. gone.mails a ∙ ap (without (is_sent more a)) (way.mails a) ∙ without-twice (is_sent sends a) (is_sent more a) (is_sent (sends ++ more) a) (λ on. sent-append sends more a on) (mail_at s.mails a);
    taken = λ a. gone.taken a ∙ ap (message_left (is_sent more a)) (way.taken a) ∙ left-twice (is_sent sends a) (is_sent more a) (is_sent (sends ++ more) a) (λ on. sent-append sends more a on) (named a s.taken);
    claims = λ t. claims t (way.claims t) (gone.claims t);
  }
    where
      some : (n : Name) → is_some (piece_at next.board n) ≡ is_some (piece_at now.board n)
      some n = ap is_some (gone.pieces n) ∙ marked-some next n (piece_at now.board n)

      claims : (t : Ticket) → (lent_to now.board t ≡ but_gone (is_gone s.board now.board) (lent_to s.board t)) ⊎ (IsEnded s now t) → (lent_to next.board t ≡ lent_to now.board t) ⊎ (IsEnded now next t)
          → (lent_to next.board t ≡ but_gone (is_gone s.board next.board) (lent_to s.board t)) ⊎ (IsEnded s next t)
      claims t (inl first) (inl same) = inl (same ∙ first ∙ gone-like s.board now.board next.board some (lent_to s.board t))
      claims t (inl first) (inr ends) = inr (record {
        name = ends.name;
        was = but-gone-was (is_gone s.board now.board) (lent_to s.board t) ends.name (sym first ∙ ends.was);
        now = ends.now;
        actor = ends.actor;
        there = ends.there;
        mail = ends.mail;
      })
      claims t (inr ends) (inl same) = inr (record {
        name = ends.name;
        was = ends.was;
        now = same ∙ ends.now;
        actor = actor_now next ends.name ends.actor;
        there = gone.pieces ends.name ∙ ap (marked_now next ends.name) ends.there;
        mail = gone.mails ends.name ∙ ap (without (is_sent more ends.name)) ends.mail;
      })
      claims t (inr ends) (inr again) = let no : None ≡ Some again.name = sym ends.now ∙ again.was in cc

  -- ---- more is gone of what stands, but no actor
  module _ (next : Shared) (taken : next.taken ≡ now.taken) (mails : next.mails ≡ now.mails) (goes : GoneEnds now.board next.board) (only : OnlyGoes now.board next.board)
      (actors : (n : Name) (x : Actor) → piece_at now.board n ≡ Some (piece.Actor x) → piece_at next.board n ≡ Some (piece.Actor x)) where
    claims-on : (t : Ticket) → (lent_to now.board t ≡ but_gone (is_gone s.board now.board) (lent_to s.board t)) ⊎ (IsEnded s now t) → (lent_to next.board t ≡ but_gone (is_gone s.board next.board) (lent_to s.board t)) ⊎ (IsEnded s next t)
    claims-on t (inl first) = inl (goes t ∙ ap (but_gone (is_gone now.board next.board)) first ∙ gone-on (lent_to s.board t))
      where
        gone-on : (found : Option Name) → but_gone (is_gone now.board next.board) (but_gone (is_gone s.board now.board) found) ≡ but_gone (is_gone s.board next.board) found
        gone-on found = twice s.board now.board next.board undoing-only only found
    claims-on t (inr ends) = inr (record {
      name = ends.name;
      was = ends.was;
      now = goes t ∙ ap (but_gone (is_gone now.board next.board)) ends.now;
      actor = ends.actor;
      there = actors ends.name ends.actor ends.there;
      mail = ap (λ all. mail_at all ends.name) mails ∙ ends.mail;
    })

  -- the attempt of one more unit is gone, with its tasks
  pub undoing-tasks : (v : Name) (next : Shared) → IsWithout v now.attempts next.attempts → ((n : Name) → piece_at next.board n ≡ task_gone_where (has_task n (named v now.attempts)) (piece_at now.board n))
      → GoneEnds now.board next.board → next.taken ≡ now.taken → next.mails ≡ now.mails → IsUndoing s (v ∷ tried) turns sends next
  undoing-tasks v next out pieces goes taken mails = record {
    attempts = λ q. out q ∙ ap (cond (same_name q v) None) (way.attempts q) ∙ both (same_name q v) (is_among q tried) (named q s.attempts);
    pieces = λ n. pieces n ∙ ap (task_gone_where (has_task n (named v now.attempts))) (way.pieces n) ∙ task-marked now n (has_task n (named v now.attempts)) (left_by s.attempts tried turns n (piece_at s.board n))
        ∙ ap (marked_now now n) (left n (piece_at s.board n)) ∙ marked-like now next taken mails n (left_by s.attempts (v ∷ tried) turns n (piece_at s.board n));
    mails = λ a. ap (λ all. mail_at all a) mails ∙ way.mails a;
    taken = λ a. ap (named a) taken ∙ way.taken a;
    claims = λ t. claims-on next taken mails goes (λ n none. pieces n ∙ ap (task_gone_where (has_task n (named v now.attempts))) none)
        (λ n x at. pieces n ∙ ap (task_gone_where (has_task n (named v now.attempts))) at) t (way.claims t);
  }
    where
      both : (c d : Bool) (found : Option Attempt) → cond c None (cond d None found) ≡ cond (c || d) None found
      both true d found = refl
      both false d found = refl

      known : (n : Name) → is_among v tried ≡ true → has_task n (named v s.attempts) ≡ true → is_task_in s.attempts n tried ≡ true
      known n is has = task-in s v n tried is has

      left : (n : Name) (found : Option Piece) → task_gone_where (has_task n (named v now.attempts)) (left_by s.attempts tried turns n found) ≡ left_by s.attempts (v ∷ tried) turns n found
      left n None = refl
      left n (Some (piece.Unit x)) = on (is_among n turns)
        where
          on : (c : Bool) → task_gone_where (has_task n (named v now.attempts)) (cond c None (Some (piece.Unit x))) ≡ cond c None (Some (piece.Unit x))
          on true = refl
          on false = refl
      left n (Some (piece.Task m)) = ap (λ f. task_gone_where (has_task n f) (cond (is_task_in s.attempts n tried) None (Some (piece.Task m)))) (way.attempts v) ∙ by (is_among v tried) refl
        where
          plain : (b c : Bool) → task_gone_where b (cond c None (Some (piece.Task m))) ≡ cond (b || c) None (Some (piece.Task m))
          plain true true = refl
          plain true false = refl
          plain false true = refl
          plain false false = refl

          by : (c : Bool) → is_among v tried ≡ c → task_gone_where (has_task n (cond c None (named v s.attempts))) (cond (is_task_in s.attempts n tried) None (Some (piece.Task m))) ≡ cond (has_task n (named v s.attempts) || is_task_in s.attempts n tried) None (Some (piece.Task m))
          by true e = plain false (is_task_in s.attempts n tried) ∙ ap (λ c. cond c None (Some (piece.Task m))) (sym (or-known (has_task n (named v s.attempts)) (is_task_in s.attempts n tried) (known n e)))
          by false e = plain (has_task n (named v s.attempts)) (is_task_in s.attempts n tried)
      left n (Some (piece.Actor x)) = refl

  -- one more turn is gone
  pub undoing-unit : (v : Name) (next : Shared) → next.attempts ≡ now.attempts → IsUnitGone v now.board next.board → next.taken ≡ now.taken → next.mails ≡ now.mails → IsUndoing s tried (v ∷ turns) sends next
  undoing-unit v next attempts gone taken mails = record {
    attempts = λ q. ap (named q) attempts ∙ way.attempts q;
    pieces = λ n. at n (same_name n v) refl ∙ ap (marked_now now n) (left n (same_name n v) refl (piece_at s.board n)) ∙ marked-like now next taken mails n (left_by s.attempts tried (v ∷ turns) n (piece_at s.board n));
    mails = λ a. ap (λ all. mail_at all a) mails ∙ way.mails a;
    taken = λ a. ap (named a) taken ∙ way.taken a;
    claims = λ t. claims-on next taken mails gone.claims (λ n none. one n (same_name n v) refl ∙ ap (gone_if (same_name n v)) none ∙ nothing (same_name n v)) (λ n x is. one n (same_name n v) refl ∙ ap (gone_if (same_name n v)) is ∙ stays (same_name n v) x) t (way.claims t);
  }
    where
      gone_if : Bool → Option Piece → Option Piece
      gone_if c found = cond c (unit_gone found) found

      nothing : (c : Bool) → gone_if c None ≡ None
      nothing true = refl
      nothing false = refl

      stays : (c : Bool) (x : Actor) → gone_if c (Some (piece.Actor x)) ≡ Some (piece.Actor x)
      stays true x = refl
      stays false x = refl

      one : (n : Name) (c : Bool) → same_name n v ≡ c → piece_at next.board n ≡ gone_if c (piece_at now.board n)
      one n true e = let here : n ≡ v = same_name-equal n v e in ap (piece_at next.board) here ∙ gone.here ∙ ap (λ q. unit_gone (piece_at now.board q)) (sym here)
      one n false e = gone.others n (not-same n v e)

      at : (n : Name) (c : Bool) → same_name n v ≡ c → piece_at next.board n ≡ marked_now now n (gone_if c (left_by s.attempts tried turns n (piece_at s.board n)))
      at n true e = one n true e ∙ ap unit_gone (way.pieces n) ∙ unit-marked now n (left_by s.attempts tried turns n (piece_at s.board n))
      at n false e = one n false e ∙ way.pieces n

      left : (n : Name) (c : Bool) → same_name n v ≡ c → (found : Option Piece) → gone_if c (left_by s.attempts tried turns n found) ≡ left_by s.attempts tried (v ∷ turns) n found
      left n true e None = refl
      left n false e None = refl
      left n c e (Some (piece.Unit x)) = on c (is_among n turns) ∙ ap (λ k. cond (k || is_among n turns) None (Some (piece.Unit x))) (sym e)
        where
          on : (c d : Bool) → gone_if c (cond d None (Some (piece.Unit x))) ≡ cond (c || d) None (Some (piece.Unit x))
          on true true = refl
          on true false = refl
          on false d = refl
      left n c e (Some (piece.Task m)) = on c (is_task_in s.attempts n tried)
        where
          on : (c d : Bool) → gone_if c (cond d None (Some (piece.Task m))) ≡ cond d None (Some (piece.Task m))
          on true true = refl
          on true false = refl
          on false d = refl
      left n true e (Some (piece.Actor x)) = refl
      left n false e (Some (piece.Actor x)) = refl

-- ---- the order of those that have gone does not matter
pub any-turned : {X : Type 0} (p : X → Bool) (xs : List X) (x : X) → list_any p (xs ++ x ∷ []) ≡ list_any p (x ∷ xs)
any-turned p xs x = list_any-append p xs (x ∷ []) ∙ turned (list_any p xs) (p x)
  where
    turned : (a b : Bool) → (a || (b || false)) ≡ (b || a)
    turned true true = refl
    turned true false = refl
    turned false true = refl
    turned false false = refl
