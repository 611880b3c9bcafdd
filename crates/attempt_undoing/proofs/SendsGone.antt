-- What was sent goes, one after another.
use Rattle.std.proofs.Common.{◌≡◌, ◌∙◌, ◌⊎◌, ◌++◌, Bool, true, false, cond, inl, inr, List, [], ◌∷◌, refl, sym, ap, ap₂}
use Rattle.std.specs.Option.{option_and_then, option_map}
use Rattle.std.specs.Prelude.{MatchOption, None, Option, Some, ◌&&◌, ◌||◌, is_some, not}
use Rattle.actor_mailbox.specs.declared.message.Message.{Message}
use Rattle.actor_mailbox.specs.Messages.{passes, without}
use Rattle.actor_mails.specs.Mails.{IsMailed, Mail, mail_at}
use Rattle.attempt_undoing.proofs.Lists.{sent-append}
use Rattle.attempt_undoing.specs.Hanging.{Sent, depends_in, is_sent}
use Rattle.attempt_undoing.specs.Sends.{ActorsMarked, IsEnded, IsNewMark, IsRemarked, IsTakenLeft, SendsGone, mark_resting, marked_now}
use Rattle.serial_model.specs.declared.actor_state.ActorState.{ActorState}
use Rattle.shared_world.proofs.ActorPieces.{not-same}
use Rattle.shared_world.specs.rows.Actors.{actor_mark, has_turn}
use Rattle.shared_world.specs.rows.Undoing.{actor_now, message_left}
use Rattle.shared_world.specs.Shared.{Shared}
use Rattle.unit_table.specs.Board.{Board, IsMarked, LentAreReady, but_for, lent_to, mark_at, marks_ready, piece_at}
use Rattle.unit_table.specs.declared.mark.Mark.{Mark}
use Rattle.unit_table.specs.declared.piece.Actor.{Actor}
use Rattle.unit_table.specs.declared.piece.Piece.{Piece}
use Rattle.unit_table.specs.declared.piece.Piece.TheVariants as piece
use Rattle.unit_table.specs.Piece.{mark_in, marked, says_dropped, says_finished, says_ready, woken}
use Rattle.value_core.proofs.NamedLaws.{same_name-equal, same_name-itself}
use Rattle.value_core.specs.declared.ticket.Ticket.{Ticket}
use Rattle.value_core.specs.Named.{Name, named, same_name}

-- ---- messages that depend on one of two tests' names
or-none : (c : Bool) → (c || false) ≡ c
or-none true = refl
or-none false = refl

passes-both : (p q r : Name → Bool) → ((on : Name) → r on ≡ (p on || q on)) → (depends : Option Name) → passes r depends ≡ (passes p depends || passes q depends)
passes-both p q r both None = refl
passes-both p q r both (Some on) = both on

pub without-twice : (p q r : Name → Bool) → ((on : Name) → r on ≡ (p on || q on)) → (ms : List Message) → without q (without p ms) ≡ without r ms
without-twice p q r both [] = refl
without-twice p q r both (m ∷ ms) = on (passes p m.depends) (passes q m.depends) refl (without-twice p q r both ms) ∙ ap (λ c. cond (not c) (m ∷ without r ms) (without r ms)) (sym (passes-both p q r both m.depends))
  where
    on : (c d : Bool) → passes q m.depends ≡ d → without q (without p ms) ≡ without r ms → without q (cond (not c) (m ∷ without p ms) (without p ms)) ≡ cond (not (c || d)) (m ∷ without r ms) (without r ms)
    on true d e rest = rest
    on false true e rest = ap (λ k. cond (not k) (m ∷ without q (without p ms)) (without q (without p ms))) e ∙ rest
    on false false e rest = ap (λ k. cond (not k) (m ∷ without q (without p ms)) (without q (without p ms))) e ∙ ap (λ l. m ∷ l) rest

pub left-twice : (p q r : Name → Bool) → ((on : Name) → r on ≡ (p on || q on)) → (found : Option Message) → message_left q (message_left p found) ≡ message_left r found
left-twice p q r both None = refl
left-twice p q r both (Some m) = on (passes p m.depends) ∙ ap (λ c. cond c None (Some m)) (sym (passes-both p q r both m.depends))
  where
    on : (c : Bool) → message_left q (cond c None (Some m)) ≡ cond (c || passes q m.depends) None (Some m)
    on true = refl
    on false = refl

-- the same messages pass where the tests are alike
pub without-like : (p r : Name → Bool) → ((on : Name) → r on ≡ p on) → (ms : List Message) → without p ms ≡ without r ms
without-like p r like [] = refl
without-like p r like (m ∷ ms) = ap₂ (λ c l. cond (not c) (m ∷ l) l) (sym (alike m.depends)) (without-like p r like ms)
  where
    alike : (depends : Option Name) → passes r depends ≡ passes p depends
    alike None = refl
    alike (Some on) = like on

-- all are left where none passes
pub without-never : (r : Name → Bool) → ((on : Name) → r on ≡ false) → (ms : List Message) → ms ≡ without r ms
without-never r never [] = refl
without-never r never (m ∷ ms) = ap (λ l. m ∷ l) (without-never r never ms) ∙ ap (λ c. cond (not c) (m ∷ without r ms) (without r ms)) (sym (none m.depends))
  where
    none : (depends : Option Name) → passes r depends ≡ false
    none None = refl
    none (Some on) = never on

-- ---- one after another
-- of what was sent some is left: once that is gone too, all is
pub record SendsLeft (all left : List Sent) (old now : Shared) : Type 0 where
  pub mails : (a : Name) → without (is_sent left a) (mail_at now.mails a) ≡ without (is_sent all a) (mail_at old.mails a)
  pub taken : (a : Name) → message_left (is_sent left a) (named a now.taken) ≡ message_left (is_sent all a) (named a old.taken)
  pub pieces : (n : Name) → piece_at now.board n ≡ marked_now now n (piece_at old.board n)
  pub claims : (ticket : Ticket) → (lent_to now.board ticket ≡ lent_to old.board ticket) ⊎ (IsEnded old now ticket)

-- where the marks are right they are those that there are now
pub marked-right : (s : Shared) → ActorsMarked s → (n : Name) → piece_at s.board n ≡ marked_now s n (piece_at s.board n)
marked-right s right n = on (piece_at s.board n) refl
  where
    on : (found : Option Piece) → piece_at s.board n ≡ found → found ≡ marked_now s n found
    on None e = refl
    on (Some (piece.Unit x)) e = refl
    on (Some (piece.Task m)) e = refl
    on (Some (piece.Actor x)) e = ap (λ m. Some (piece.Actor (record x { mark = m }))) (right n x e)

-- and they are right where they are those
pub right-marked : (old now : Shared) → ((n : Name) → piece_at now.board n ≡ marked_now now n (piece_at old.board n)) → ActorsMarked now
right-marked old now pieces a x at = on (piece_at old.board a) (sym (pieces a) ∙ at)
  where
    on : (found : Option Piece) → marked_now now a found ≡ Some (piece.Actor x) → x.mark ≡ actor_mark (has_turn now.taken a x.state) (mail_at now.mails a)
    on None e = cc
    on (Some (piece.Unit y)) e = cc
    on (Some (piece.Task m)) e = cc
    on (Some (piece.Actor y)) e = let same : actor_now now a y ≡ x = cc in ap (λ (k : Actor). k.mark) (sym same) ∙ ap (λ (k : Actor). actor_mark (has_turn now.taken a k.state) (mail_at now.mails a)) same

pub all-sends : (all : List Sent) (s : Shared) → ActorsMarked s → SendsLeft all all s s
all-sends all s right = record { mails = λ a. refl; taken = λ a. refl; pieces = marked-right s right; claims = λ t. inl refl }

pub no-sends : (all : List Sent) (old now : Shared) → SendsLeft all [] old now → SendsGone all old now
no-sends all old now l = record {
  mails = λ a. without-never (is_sent [] a) (λ on. refl) (mail_at now.mails a) ∙ l.mails a;
  taken = λ a. none a (named a now.taken) ∙ l.taken a;
  pieces = l.pieces;
  claims = l.claims;
}
  where
    none : (a : Name) (found : Option Message) → found ≡ message_left (is_sent [] a) found
    none a None = refl
    none a (Some m) = by m.depends
      where
        by : (depends : Option Name) → Some m ≡ cond (passes (λ on. false) depends) None (Some m)
        by None = refl
        by (Some on) = refl

module _ (some rest : List Sent) (now next : Shared) (gone : SendsGone some now next) where
  both : (a on : Name) → is_sent (some ++ rest) a on ≡ (is_sent some a on || is_sent rest a on)
  both a on = sent-append some rest a on

  marked-twice : (n : Name) (found : Option Piece) → marked_now next n (marked_now now n found) ≡ marked_now next n found
  marked-twice n None = refl
  marked-twice n (Some (piece.Unit x)) = refl
  marked-twice n (Some (piece.Task m)) = refl
  marked-twice n (Some (piece.Actor x)) = refl

  pub some-sent : (all : List Sent) (old : Shared) → SendsLeft all (some ++ rest) old now → SendsLeft all rest old next
  some-sent all old l = record {
    mails = λ a. ap (without (is_sent rest a)) (gone.mails a) ∙ without-twice (is_sent some a) (is_sent rest a) (is_sent (some ++ rest) a) (both a) (mail_at now.mails a) ∙ l.mails a;
    taken = λ a. ap (message_left (is_sent rest a)) (gone.taken a) ∙ left-twice (is_sent some a) (is_sent rest a) (is_sent (some ++ rest) a) (both a) (named a now.taken) ∙ l.taken a;
    pieces = λ n. gone.pieces n ∙ ap (marked_now next n) (l.pieces n) ∙ marked-twice n (piece_at old.board n);
    claims = λ t. claims t (l.claims t) (gone.claims t);
  }
    where
      claims : (t : Ticket) → (lent_to now.board t ≡ lent_to old.board t) ⊎ (IsEnded old now t) → (lent_to next.board t ≡ lent_to now.board t) ⊎ (IsEnded now next t) → (lent_to next.board t ≡ lent_to old.board t) ⊎ (IsEnded old next t)
      claims t (inl first) (inl second) = inl (second ∙ first)
      claims t (inl first) (inr ends) = inr (record { name = ends.name; was = sym first ∙ ends.was; now = ends.now; actor = ends.actor; there = ends.there; mail = ends.mail })
      claims t (inr ends) (inl second) = inr (record {
        name = ends.name;
        was = ends.was;
        now = second ∙ ends.now;
        actor = actor_now next ends.name ends.actor;
        there = gone.pieces ends.name ∙ ap (marked_now next ends.name) ends.there;
        mail = gone.mails ends.name ∙ ap (without (is_sent some ends.name)) ends.mail;
      })
      claims t (inr ends) (inr again) = let no : None ≡ Some again.name = sym ends.now ∙ again.was in cc

-- nothing is gone where nothing was sent
pub none-sent : (s : Shared) → ActorsMarked s → SendsGone [] s s
none-sent s right = no-sends [] s s (all-sends [] s right)

-- ---- what the code does
-- the mark that is another one
pub new-mark-of : (s : Shared) (name : Name) (x : Actor) (rests : Bool) (result : Option Mark) → mark_resting rests ≡ actor_mark (has_turn s.taken name x.state) (mail_at s.mails name)
    → MatchOption result (x.mark ≡ mark_resting rests) (λ m. (m ≡ mark_resting rests) × (x.mark ≡ m → ⊥)) → IsNewMark s name (Some (piece.Actor x)) result
new-mark-of s name x rests None is so = so ∙ is
new-mark-of s name x rests (Some m) is so = (so.0 ∙ is, so.1)

plain-drop : (turn : Bool) (mail : List Message) → says_dropped (actor_mark turn mail) ≡ false
plain-drop true mail = refl
plain-drop false [] = refl
plain-drop false (m ∷ ms) = refl

plain-finish : (turn : Bool) (mail : List Message) → says_finished (actor_mark turn mail) ≡ false
plain-finish true mail = refl
plain-finish false [] = refl
plain-finish false (m ∷ ms) = refl

-- it is put
pub mark-put : (s : Shared) (name : Name) (m : Mark) (new : Board) (found : Option Piece) → piece_at s.board name ≡ found → IsNewMark s name found (Some m) → IsMarked name m s.board new
    → (n : Name) → piece_at new n ≡ cond (same_name n name) (marked_now s n (piece_at s.board n)) (piece_at s.board n)
mark-put s name m new None there is put n = absurd is
mark-put s name m new (Some (piece.Unit x)) there is put n = absurd is
mark-put s name m new (Some (piece.Task k)) there is put n = absurd is
mark-put s name m new (Some (piece.Actor x)) there is put n = on (same_name n name) refl
  where
    dropped : says_dropped m ≡ false
    dropped = ap says_dropped is.0 ∙ plain-drop (has_turn s.taken name x.state) (mail_at s.mails name)

    finished : says_finished m ≡ false
    finished = ap says_finished is.0 ∙ plain-finish (has_turn s.taken name x.state) (mail_at s.mails name)

    on : (c : Bool) → same_name n name ≡ c → piece_at new n ≡ cond c (marked_now s n (piece_at s.board n)) (piece_at s.board n)
    on true e =
        let at : n ≡ name = same_name-equal n name e in
        ap (piece_at new) at ∙ put.here ∙ ap (option_and_then (marked m)) there ∙ ap (λ c. cond c None (Some (piece.Actor (record x { mark = m })))) dropped
        ∙ ap (λ k. Some (piece.Actor (record x { mark = k }))) is.0 ∙ sym (ap (λ k. marked_now s k (piece_at s.board k)) at ∙ ap (marked_now s name) there)
    on false e = put.others n (not-same n name e) ∙ ap (λ c. cond c (option_map (woken name) (piece_at s.board n)) (piece_at s.board n)) finished

-- and it is another one
pub mark-other : (s : Shared) (name : Name) (m : Mark) (new : Board) (found : Option Piece) → piece_at s.board name ≡ found → IsNewMark s name found (Some m) → IsMarked name m s.board new → mark_at new name ≡ mark_at s.board name → ⊥
mark-other s name m new None there is put same = is
mark-other s name m new (Some (piece.Unit x)) there is put same = is
mark-other s name m new (Some (piece.Task k)) there is put same = is
mark-other s name m new (Some (piece.Actor x)) there is put same =
    let here : mark_at new name ≡ Some m = ap (option_map mark_in) (put.here ∙ ap (option_and_then (marked m)) there ∙ ap (λ c. cond c None (Some (piece.Actor (record x { mark = m })))) (ap says_dropped is.0 ∙ plain-drop (has_turn s.taken name x.state) (mail_at s.mails name))) in
    let both : Some x.mark ≡ Some m = sym (ap (option_map mark_in) there) ∙ sym same ∙ here in
    is.1 (let one : x.mark ≡ m = cc in one)

-- nothing is, where it has that mark
pub mark-kept : (s : Shared) (name : Name) (found : Option Piece) → piece_at s.board name ≡ found → IsNewMark s name found None → (n : Name) → piece_at s.board n ≡ cond (same_name n name) (marked_now s n (piece_at s.board n)) (piece_at s.board n)
mark-kept s name found there is n = on (same_name n name) refl
  where
    same : (found : Option Piece) → IsNewMark s name found None → found ≡ marked_now s name found
    same None is = refl
    same (Some (piece.Unit x)) is = refl
    same (Some (piece.Task m)) is = refl
    same (Some (piece.Actor x)) is = ap (λ m. Some (piece.Actor (record x { mark = m }))) is

    on : (c : Bool) → same_name n name ≡ c → piece_at s.board n ≡ cond c (marked_now s n (piece_at s.board n)) (piece_at s.board n)
    on false e = refl
    on true e =
        let at : n ≡ name = same_name-equal n name e in
        ap (piece_at s.board) at ∙ there ∙ same found is ∙ ap (marked_now s name) (sym there) ∙ ap (λ k. marked_now s k (piece_at s.board k)) (sym at)

-- what was sent to one receiver under one name goes
module _ (sent : Sent) (old new : Shared) (right : ActorsMarked old) (ready : LentAreReady old.board) (mailed : IsMailed sent.to (without (same_name sent.on) (mail_at old.mails sent.to)) old.mails new.mails)
    (taken : IsTakenLeft sent.to sent.on old.taken new.taken) (mid : Shared) (same_taken : mid.taken ≡ new.taken) (same_mails : mid.mails ≡ new.mails)
    (put : (n : Name) → piece_at new.board n ≡ cond (same_name n sent.to) (marked_now mid n (piece_at old.board n)) (piece_at old.board n)) (claims : IsRemarked sent.to old.board new.board) where
  test : (a : Name) (c : Bool) → same_name a sent.to ≡ c → (on : Name) → is_sent (sent ∷ []) a on ≡ (c && same_name sent.on on)
  test a c e on = ap (λ k. (k && same_name sent.on on) || false) e ∙ or-none (c && same_name sent.on on)

  mails-gone : (a : Name) (c : Bool) → same_name a sent.to ≡ c → mail_at new.mails a ≡ without (is_sent (sent ∷ []) a) (mail_at old.mails a)
  mails-gone a true e = let at : a ≡ sent.to = same_name-equal a sent.to e in
      ap (mail_at new.mails) at ∙ mailed.here ∙ ap (λ k. without (same_name sent.on) (mail_at old.mails k)) (sym at) ∙ without-like (same_name sent.on) (is_sent (sent ∷ []) a) (test a true e) (mail_at old.mails a)
  mails-gone a false e = mailed.others a (not-same a sent.to e) ∙ without-never (is_sent (sent ∷ []) a) (test a false e) (mail_at old.mails a)

  taken-gone : (a : Name) (c : Bool) → same_name a sent.to ≡ c → named a new.taken ≡ message_left (is_sent (sent ∷ []) a) (named a old.taken)
  taken-gone a c e = taken a ∙ ap (λ k. cond (k && depends_in sent.on (named sent.to old.taken)) None (named a old.taken)) e ∙ by c e
    where
      same : (found : Option Message) (d : Bool) → same_name a sent.to ≡ d → cond (d && depends_in sent.on found) None found ≡ message_left (is_sent (sent ∷ []) a) found
      same None true f = refl
      same None false f = refl
      same (Some m) d f = ap (λ k. cond k None (Some m)) (sym (alike m.depends d f))
        where
          alike : (depends : Option Name) (d : Bool) → same_name a sent.to ≡ d → passes (is_sent (sent ∷ []) a) depends ≡ (d && passes (same_name sent.on) depends)
          alike None true g = refl
          alike None false g = refl
          alike (Some on) d g = test a d g on

      by : (c : Bool) → same_name a sent.to ≡ c → cond (c && depends_in sent.on (named sent.to old.taken)) None (named a old.taken) ≡ message_left (is_sent (sent ∷ []) a) (named a old.taken)
      by true f = ap (λ k. cond (depends_in sent.on (named k old.taken)) None (named a old.taken)) (sym (same_name-equal a sent.to f)) ∙ same (named a old.taken) true f
      by false f = same (named a old.taken) false f

  -- the marks are those that there are now
  marked-mid : (n : Name) (found : Option Piece) → marked_now mid n found ≡ marked_now new n found
  marked-mid n None = refl
  marked-mid n (Some (piece.Unit x)) = refl
  marked-mid n (Some (piece.Task k)) = refl
  marked-mid n (Some (piece.Actor x)) = ap₂ (λ messages (mails : Mail). Some (piece.Actor (record x { mark = actor_mark (has_turn messages n x.state) (mail_at mails n) }))) same_taken same_mails

  -- another actor has the mark that it had
  marked-as : (n : Name) (found : Option Piece) → named n new.taken ≡ named n old.taken → mail_at new.mails n ≡ mail_at old.mails n → marked_now old n found ≡ marked_now new n found
  marked-as n None t m = refl
  marked-as n (Some (piece.Unit x)) t m = refl
  marked-as n (Some (piece.Task k)) t m = refl
  marked-as n (Some (piece.Actor x)) t m = ap₂ (λ (o : Option Message) mail. Some (piece.Actor (record x { mark = actor_mark (is_some o || x.state.busy) mail }))) (sym t) (sym m)

  pieces-gone : (n : Name) (c : Bool) → same_name n sent.to ≡ c → piece_at new.board n ≡ marked_now new n (piece_at old.board n)
  pieces-gone n true e = put n ∙ ap (λ c. cond c (marked_now mid n (piece_at old.board n)) (piece_at old.board n)) e ∙ marked-mid n (piece_at old.board n)
  pieces-gone n false e = put n ∙ ap (λ c. cond c (marked_now mid n (piece_at old.board n)) (piece_at old.board n)) e ∙ marked-right old right n
      ∙ marked-as n (piece_at old.board n) (taken n ∙ ap (λ c. cond (c && depends_in sent.on (named sent.to old.taken)) None (named n old.taken)) e) (mailed.others n (not-same n sent.to e))

  here : piece_at new.board sent.to ≡ marked_now new sent.to (piece_at old.board sent.to)
  here = pieces-gone sent.to true (same_name-itself sent.to)

  -- what is no longer taken was not taken
  turn-less : (state : ActorState) → has_turn old.taken sent.to state ≡ false → has_turn new.taken sent.to state ≡ false
  turn-less state none = by (named sent.to old.taken) refl state.busy refl
    where
      by : (found : Option Message) → named sent.to old.taken ≡ found → (busy : Bool) → state.busy ≡ busy → has_turn new.taken sent.to state ≡ false
      by (Some m) e busy f = let no : true ≡ false = sym (ap (λ (o : Option Message). is_some o || state.busy) e) ∙ none in cc
      by None e true f = let no : true ≡ false = sym (ap₂ (λ (o : Option Message) b. is_some o || b) e f) ∙ none in cc
      by None e false f = ap₂ (λ (o : Option Message) b. is_some o || b) (taken-gone sent.to true (same_name-itself sent.to) ∙ ap (message_left (is_sent (sent ∷ []) sent.to)) e) f

  -- a claim that ends was on an actor that is left without mail
  ended : (t : Ticket) (q : Name) → lent_to old.board t ≡ Some q → q ≡ sent.to → lent_to new.board t ≡ None → (mark_at new.board sent.to ≡ mark_at old.board sent.to → ⊥) → IsEnded old new t
  ended t q was at now other = on (piece_at old.board sent.to) refl
    where
      lent : marks_ready (piece_at old.board sent.to) ≡ true
      lent = ready t sent.to (was ∙ ap (λ n. Some n) at)

      left : (found : Option Piece) → piece_at old.board sent.to ≡ found → marked_now new sent.to found ≡ found → ⊥
      left found e same = other (ap (option_map mark_in) (here ∙ ap (marked_now new sent.to) e ∙ same ∙ sym e))

      on : (found : Option Piece) → piece_at old.board sent.to ≡ found → IsEnded old new t
      on None e = absurd (left None e refl)
      on (Some (piece.Unit x)) e = absurd (left (Some (piece.Unit x)) e refl)
      on (Some (piece.Task m)) e = absurd (left (Some (piece.Task m)) e refl)
      on (Some (piece.Actor x)) e = by (has_turn old.taken sent.to x.state) refl (mail_at old.mails sent.to) refl
        where
          was-ready : says_ready x.mark ≡ true
          was-ready = sym (ap marks_ready e) ∙ lent

          by : (turn : Bool) → has_turn old.taken sent.to x.state ≡ turn → (mail : List Message) → mail_at old.mails sent.to ≡ mail → IsEnded old new t
          by true f mail g = let no : false ≡ true = sym (ap says_ready (right sent.to x e ∙ ap₂ actor_mark f g)) ∙ was-ready in cc
          by false f [] g = let no : false ≡ true = sym (ap says_ready (right sent.to x e ∙ ap₂ actor_mark f g)) ∙ was-ready in cc
          by false f (m ∷ ms) g = last (mail_at new.mails sent.to) refl
            where
              last : (mail : List Message) → mail_at new.mails sent.to ≡ mail → IsEnded old new t
              last [] h = record { name = sent.to; was = was ∙ ap (λ n. Some n) at; now = now; actor = actor_now new sent.to x; there = here ∙ ap (marked_now new sent.to) e; mail = h }
              last (k ∷ ks) h = absurd (left (Some (piece.Actor x)) e (ap (λ j. Some (piece.Actor (record x { mark = j }))) (ap₂ actor_mark (turn-less x.state f) h ∙ sym (right sent.to x e ∙ ap₂ actor_mark f g))))

  claims-gone : (t : Ticket) → (lent_to new.board t ≡ lent_to old.board t) ⊎ (IsEnded old new t)
  claims-gone t = by claims
    where
      by : IsRemarked sent.to old.board new.board → (lent_to new.board t ≡ lent_to old.board t) ⊎ (IsEnded old new t)
      by (inl same) = inl (ap (λ b. lent_to b t) same)
      by (inr other) = on (lent_to old.board t) refl
        where
          on : (found : Option Name) → lent_to old.board t ≡ found → (lent_to new.board t ≡ lent_to old.board t) ⊎ (IsEnded old new t)
          on None e = inl (other.0.to t ∙ ap (but_for sent.to) e ∙ sym e)
          on (Some q) e = at (same_name q sent.to) refl
            where
              at : (c : Bool) → same_name q sent.to ≡ c → (lent_to new.board t ≡ lent_to old.board t) ⊎ (IsEnded old new t)
              at true f = inr (ended t q e (same_name-equal q sent.to f) (other.0.to t ∙ ap (but_for sent.to) e ∙ ap (λ c. cond c None (Some q)) f) other.1)
              at false f = inl (other.0.to t ∙ ap (but_for sent.to) e ∙ ap (λ c. cond c None (Some q)) f ∙ sym e)

  pub sent-gone : SendsGone (sent ∷ []) old new
  sent-gone = record {
    mails = λ a. mails-gone a (same_name a sent.to) refl;
    taken = λ a. taken-gone a (same_name a sent.to) refl;
    pieces = λ n. pieces-gone n (same_name n sent.to) refl;
    claims = claims-gone;
  }
