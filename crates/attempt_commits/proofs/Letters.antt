-- What is done to actors: messages that are settled, and actors that begin, one after the other.
use Rattle.std.proofs.Common.{◌≡◌, ◌∙◌, ◌⊎◌, ◌+◌, ◌<◌, ◌≤◌, ℕ, Bool, true, false, cond, inl, inr, length, arith, List, [], ◌∷◌, ◌++◌, refl, sym, ap, ap₂, subst}
use Rattle.std.specs.Option.{IsSome, option_and_then, option_map}
use Rattle.std.specs.Prelude.{IfSome, None, Option, Some, is_some, not}
use Rattle.actor_mailbox.specs.declared.message.Message.{Message}
use Rattle.actor_mails.specs.Mails.{Boxes, KeepsRoom, Mail, held, mail_at, room_at}
use Rattle.attempt_commits.specs.declared.deeds.Letter.{Letter}
use Rattle.attempt_commits.specs.Deeds.{AreVacant, CanHoldAll, IsVacant, begun, count_at, counted, turned_unit}
use Rattle.serial_model.specs.declared.actor_state.ActorState.{ActorState}
use Rattle.shared_world.proofs.Besides.{apart-of}
use Rattle.shared_world.proofs.Live.{unit-piece}
use Rattle.shared_world.specs.rows.Actors.{actor_with, mark_roused, roused, roused_unless}
use Rattle.shared_world.specs.rows.Attempts.{IsWithout}
use Rattle.unit_table.proofs.Wakes.{same_claims_more}
use Rattle.unit_table.specs.Board.{Board, HasPlace, IsPutAt, SameClaims, SamePieces, lent_at, piece_at, unit_at}
use Rattle.unit_table.specs.declared.mark.Mark.{Mark}
use Rattle.unit_table.specs.declared.mark.Mark.TheVariants as mark
use Rattle.unit_table.specs.declared.piece.Piece.{Piece}
use Rattle.unit_table.specs.declared.piece.Piece.TheVariants as piece
use Rattle.unit_table.specs.declared.unit.Becoming.{Becoming}
use Rattle.unit_table.specs.declared.unit.Unit.{Unit}
use Rattle.unit_table.specs.Piece.{unit_in}
use Rattle.value_core.proofs.NamedLaws.{named-here, named-with_named, same_name-equal, same_name-itself}
use Rattle.value_core.specs.Named.{Name, Named, named, same_name, with_named}
use Rattle.actor_mailbox.specs.Messages.{definite, depends_on, settle_one}
use Rattle.attempt_commits.specs.Settling as settling
use Rattle.attempt_commits.specs.Settling.{AreSettled, AreTurns, AreTurnsOf, HasTurn, IsMailSettled, IsSettled, IsTakenSettled, IsTurnAdded, IsTurnOf, StaysNone, is_with_turn, left_for_mail, letters_to, mail_after, piece_after, put_last, reached, roused_if, taken_after, turn_settles}
use Rattle.message_settling.specs.Settling.{IsBegunTurn, MarksSettled}
use Rattle.shared_world.specs.rows.Commits.{definite_if, hangs_on}
use Rattle.shared_world.specs.rows.Leading.{IsChanged, settles_now}
use Rattle.world_model.specs.Message.{settle_or_put}
use Rattle.world_model.specs.rows.Effects.{has_put}

-- ---- room for so many messages to each receiver
-- Of the counts these are left: there is room for each other one.
abbrev pub HoldsBut : Named ℕ → Named ℕ → Boxes → Type 0
HoldsBut all left boxes = (a : Name) → (named a left ≡ named a all) ⊎ (count_at all a ≤ room_at boxes a)

-- one more has room
pub room-made : (all left : Named ℕ) (to : Name) (n : ℕ) (old new : Boxes) → HoldsBut all ((to, n) ∷ left) old → n ≤ room_at new to → KeepsRoom old new → HoldsBut all left new
room-made all left to n old new holds room kept a = on (holds a)
  where
    more : (count : ℕ) → count ≤ room_at old a → count ≤ room_at new a
    more count fits = let grows : room_at old a ≤ room_at new a = kept a in omega arith

    by : (c : Bool) → same_name a to ≡ c → cond c (Some n) (named a left) ≡ named a all → (named a left ≡ named a all) ⊎ (count_at all a ≤ room_at new a)
    by true e is =
        let here : room_at new a ≡ room_at new to = ap (room_at new) (same_name-equal a to e) in
        let so : n ≡ count_at all a = ap counted is in
        inr (omega (arith, here, so, room))
    by false e is = inl is

    on : (named a ((to, n) ∷ left) ≡ named a all) ⊎ (count_at all a ≤ room_at old a) → (named a left ≡ named a all) ⊎ (count_at all a ≤ room_at new a)
    on (inl is) = by (same_name a to) refl is
    on (inr fits) = inr (more (count_at all a) fits)

-- none is left
pub room-for-all : (all : Named ℕ) (boxes : Boxes) → HoldsBut all [] boxes → (a : Name) → count_at all a ≤ room_at boxes a
room-for-all all boxes holds a = on (holds a)
  where
    on : (None ≡ named a all) ⊎ (count_at all a ≤ room_at boxes a) → count_at all a ≤ room_at boxes a
    on (inl is) = let none : count_at all a ≡ 0 = ap counted (sym is) in omega (arith, none)
    on (inr fits) = fits

-- ---- places for actors
-- Of the actors these are left: nothing stands under the name of each other one, and there is a place.
abbrev pub VacantBut : Named ActorState → Named ActorState → Board → Type 0
VacantBut all left b = (a : Name) → (named a left ≡ named a all) ⊎ IsVacant b a

pub vacant-made : (all left : Named ActorState) (name : Name) (actor : ActorState) (old new : Board) → VacantBut all ((name, actor) ∷ left) old → SamePieces old new → ((other : Name) → HasPlace old other → HasPlace new other) → IsVacant new name
    → VacantBut all left new
vacant-made all left name actor old new vacant same places here a = on (vacant a)
  where
    by : (c : Bool) → same_name a name ≡ c → cond c (Some actor) (named a left) ≡ named a all → (named a left ≡ named a all) ⊎ IsVacant new a
    by true e is = inr (subst (IsVacant new) (sym (same_name-equal a name e)) here)
    by false e is = inl is

    on : (named a ((name, actor) ∷ left) ≡ named a all) ⊎ IsVacant old a → (named a left ≡ named a all) ⊎ IsVacant new a
    on (inl is) = by (same_name a name) refl is
    on (inr still) = inr (record { none = same a ∙ still.none; place = places a still.place })

pub all-vacant : (all : Named ActorState) (b : Board) → VacantBut all [] b → AreVacant all b
all-vacant all b vacant a there = on (vacant a)
  where
    on : (None ≡ named a all) ⊎ IsVacant b a → IsVacant b a
    on (inl is) = let no : IsSome {T = ActorState} None = subst (λ (o : Option ActorState). IsSome o) (sym is) there in absurd (cc)
    on (inr is) = is

-- ---- what the actor of the unit becomes
pub unit-same : (b : Board) (u : Name) → IfSome (unit_at b u) (λ (x : Unit). IsPutAt u (Some (piece.Unit (turned_unit None x))) b b)
unit-same b u = on (unit_at b u) refl
  where
    on : (found : Option Unit) → unit_at b u ≡ found → IfSome found (λ (x : Unit). IsPutAt u (Some (piece.Unit (turned_unit None x))) b b)
    on None is = tt
    on (Some x) is = record { here = unit-piece b u x is; others = λ other ne. refl }

-- nothing stands where nothing stood
pub vacant-turned : (u : Name) (b new : Board) (next : Option Becoming) → IsSome (unit_at b u) → IfSome (unit_at b u) (λ (x : Unit). IsPutAt u (Some (piece.Unit (turned_unit next x))) b new) → StaysNone b new
vacant-turned u b new next there turned a none = on (unit_at b u) refl there turned
  where
    on : (found : Option Unit) → unit_at b u ≡ found → IsSome found → IfSome found (λ (x : Unit). IsPutAt u (Some (piece.Unit (turned_unit next x))) b new) → piece_at new a ≡ None
    on None is some put = absurd (cc)
    on (Some x) is some put = by (same_name a u) refl
      where
        by : (c : Bool) → same_name a u ≡ c → piece_at new a ≡ None
        by true e = let no : None ≡ Some x = sym (ap (option_and_then unit_in) (ap (piece_at b) (sym (same_name-equal a u e)) ∙ none)) ∙ is in cc
        by false e = put.others a (apart-of a u e) ∙ none

-- ---- messages that are settled
-- The messages that are left are still to be settled.
pub record AreComing (on : Name) (turns : Named Name) (all left : List Letter) (taken now : Named Message) (boxes after : Boxes) (old new : Board) : Type 0 where
  pub taken_so : (a : Name) → taken_after on (letters_to a left) (named a now) ≡ taken_after on (letters_to a all) (named a taken)
  pub mailed : (a : Name) → mail_after on (left_for_mail on (named a now) (letters_to a left)) (mail_at (held after) a) ≡ mail_after on (left_for_mail on (named a taken) (letters_to a all)) (mail_at (held boxes) a)
  pub pieces : (of : Name → Option Name) → AreTurnsOf on all taken turns of → AreTurnsOf on left now turns of
      × ((q : Name) → piece_after on of left now (held after) (is_some (lent_at old q)) q (piece_at new q) ≡ piece_after on of all taken (held boxes) (is_some (lent_at old q)) q (piece_at old q))
  pub none : StaysNone old new
  pub room : CanHoldAll left after
  pub claims : SameClaims old new
  pub places : (a : Name) → HasPlace old a → HasPlace new a

-- at first all are left
pub none-settled : (on : Name) (turns : Named Name) (all : List Letter) (taken : Named Message) (boxes : Boxes) (b : Board) → CanHoldAll all boxes → SameClaims b b → AreComing on turns all all taken taken boxes boxes b b
none-settled on turns all taken boxes b room same = record {
  taken_so = λ a. refl;
  mailed = λ a. refl;
  pieces = λ of are. (are, λ q. refl);
  none = λ q is. is;
  room = room;
  claims = same;
  places = λ a there. there;
}

-- at last none is
pub all-settled : (on : Name) (turns : Named Name) (all : List Letter) (taken now : Named Message) (boxes after : Boxes) (old new : Board) → AreComing on turns all [] taken now boxes after old new → AreSettled on turns all taken now (held boxes) (held after) old new
all-settled on turns all taken now boxes after old new are = record {
  taken_so = are.taken_so;
  mailed = are.mailed;
  pieces = λ of so q. sym (left-none (of q) q) ∙ (are.pieces of so).1 q;
  none = are.none;
}
  where
    left-none : (o : Option Name) (q : Name) → reached (is_some (named q now)) [] (definite_if (turn_settles on now [] o) (is_some (lent_at old q)) (piece_at new q)) ≡ piece_at new q
    left-none None q = refl
    left-none (Some a) q = refl

roused-twice : (found : Option Piece) → option_map roused (option_map roused found) ≡ option_map roused found
roused-twice None = refl
roused-twice (Some (piece.Unit x)) = refl
roused-twice (Some (piece.Task m)) = refl
roused-twice (Some (piece.Actor a)) = ap (λ m. Some (piece.Actor (record a { mark = m }))) (on a.state.busy a.mark)
  where
    on : (busy : Bool) (m : Mark) → mark_roused busy (mark_roused busy m) ≡ mark_roused busy m
    on true m = refl
    on false mark.Resting = refl
    on false (mark.Ready w) = refl
    on false (mark.Waiting w) = refl
    on false (mark.Finished v) = refl
    on false mark.Dropped = refl

reached-more : (begun : Bool) (m : Message) (ms : List Message) (found : Option Piece) → reached begun ms (roused_unless begun found) ≡ reached begun (m ∷ ms) found
reached-more begun m [] found = refl
reached-more true m (first ∷ rest) found = refl
reached-more false m (first ∷ rest) found = roused-twice found

-- a turn that is roused no more than an actor is definite
definite-roused : (so lent begun : Bool) (found : Option Piece) → definite_if so lent (roused_unless begun found) ≡ roused_unless begun (definite_if so lent found)
definite-roused false lent begun found = refl
definite-roused true lent true found = refl
definite-roused true lent false None = refl
definite-roused true lent false (Some (piece.Unit x)) = refl
definite-roused true lent false (Some (piece.Task m)) = refl
definite-roused true lent false (Some (piece.Actor a)) = refl

-- ---- what does not depend on the root
pub none-with : (on : Name) (taken : Option Message) → hangs_on on taken ≡ false → (ms : List Message) → is_with_turn on taken ms ≡ false
none-with on taken not [] = refl
none-with on taken not (m ∷ ms) = not

pub none-for-turn : (on : Name) (taken : Option Message) → hangs_on on taken ≡ false → (ms : List Message) → left_for_mail on taken ms ≡ ms
none-for-turn on taken not [] = refl
none-for-turn on taken not (m ∷ ms) = ap (λ c. cond c ms (m ∷ ms)) not

pub same-taken : (on : Name) (taken : Option Message) → hangs_on on taken ≡ false → option_map (settle_one (same_name on)) taken ≡ taken
same-taken on None not = refl
same-taken on (Some m) not = ap (λ c. Some (cond c (definite m) m)) not

pub after-same : (on : Name) (taken : Option Message) → hangs_on on taken ≡ false → (ms : List Message) → taken_after on ms taken ≡ taken
after-same on taken not [] = refl
after-same on taken not (m ∷ ms) = same-taken on taken not

-- a message is settled
module _ (on : Name) (turns : Named Name) (l : Letter) (all left : List Letter) (taken now then_taken : Named Message) (boxes mid after : Boxes) (old b new : Board) (are : AreComing on turns all (l ∷ left) taken now boxes mid old b)
    (claims : SameClaims b new) (places : (a : Name) → HasPlace b a → HasPlace new a) where
  -- the messages to an actor, with that one where it is the receiver
  abbrev with_it : Name → Bool → List Message
  with_it a c = cond c (l.message ∷ []) [] ++ letters_to a left

  abbrev lent : Name → Bool
  lent q = is_some (lent_at old q)

  -- the same is settled with a turn of another actor
  other-with : (a : Name) (c : Bool) → same_name a l.to ≡ c → c ≡ false → (t : Option Message) → is_with_turn on t (with_it a (same_name a l.to)) ≡ is_with_turn on t (letters_to a left)
  other-with a true e not t = cc
  other-with a false e not t = ap (λ c. is_with_turn on t (with_it a c)) e

  shorter : (a : Name) (c : Bool) (n : ℕ) → length (with_it a c) ≤ n → length (letters_to a left) ≤ n
  shorter a true n fits = let so : length (l.message ∷ letters_to a left) ≤ n = fits in omega (arith, so)
  shorter a false n fits = fits

  -- ---- with the turn that took a message which depends on the root
  module _ (hangs : hangs_on on (named l.to now) ≡ true) (same_boxes : after ≡ mid) (done : IsTakenSettled turns l.to now then_taken b new) where
    took : (m : Message) × (named l.to now ≡ Some m) × (depends_on (same_name on) m ≡ true)
    took = of (named l.to now) refl hangs
      where
        of : (o : Option Message) → named l.to now ≡ o → hangs_on on o ≡ true → (m : Message) × (named l.to now ≡ Some m) × (depends_on (same_name on) m ≡ true)
        of None e so = cc
        of (Some m) e so = (m, e, so)

    abbrev m : Message
    m = took.0

    changed : IsChanged l.to (Some (definite m)) now then_taken
    changed = done.message m took.1

    taken-here : (a : Name) → same_name a l.to ≡ true → named a then_taken ≡ Some (definite m)
    taken-here a e = changed a ∙ ap (λ c. cond c (Some (definite m)) (named a now)) e

    taken-other : (a : Name) → same_name a l.to ≡ false → named a then_taken ≡ named a now
    taken-other a e = changed a ∙ ap (λ c. cond c (Some (definite m)) (named a now)) e

    was-here : (a : Name) → same_name a l.to ≡ true → named a now ≡ Some m
    was-here a e = ap (λ n. named n now) (same_name-equal a l.to e) ∙ took.1

    hung : (a : Name) → same_name a l.to ≡ true → hangs_on on (named a now) ≡ true
    hung a e = ap (hangs_on on) (was-here a e) ∙ took.2

    taken-step : (a : Name) (c : Bool) → same_name a l.to ≡ c → taken_after on (letters_to a left) (named a then_taken) ≡ taken_after on (with_it a c) (named a now)
    taken-step a true e =
        ap (taken_after on (letters_to a left)) (taken-here a e) ∙ after-same on (Some (definite m)) refl (letters_to a left)
        ∙ sym (ap (option_map (settle_one (same_name on))) (was-here a e) ∙ ap (λ c. Some (cond c (definite m) m)) took.2)
    taken-step a false e = ap (taken_after on (letters_to a left)) (taken-other a e)

    left-step : (a : Name) (c : Bool) → same_name a l.to ≡ c → left_for_mail on (named a then_taken) (letters_to a left) ≡ left_for_mail on (named a now) (with_it a c)
    left-step a true e =
        ap (λ t. left_for_mail on t (letters_to a left)) (taken-here a e) ∙ none-for-turn on (Some (definite m)) refl (letters_to a left)
        ∙ sym (ap (λ c. cond c (letters_to a left) (l.message ∷ letters_to a left)) (hung a e))
    left-step a false e = ap (λ t. left_for_mail on t (letters_to a left)) (taken-other a e)

    still-begun : (a : Name) (c : Bool) → same_name a l.to ≡ c → is_some (named a then_taken) ≡ is_some (named a now)
    still-begun a true e = ap is_some (taken-here a e) ∙ sym (ap is_some (was-here a e))
    still-begun a false e = ap is_some (taken-other a e)

    none-here : (a : Name) → same_name a l.to ≡ true → is_with_turn on (named a then_taken) (letters_to a left) ≡ false
    none-here a e = ap (λ t. is_with_turn on t (letters_to a left)) (taken-here a e) ∙ none-with on (Some (definite m)) refl (letters_to a left)

    same-there : (a : Name) → same_name a l.to ≡ false → is_with_turn on (named a then_taken) (letters_to a left) ≡ is_with_turn on (named a now) (letters_to a (l ∷ left))
    same-there a e = ap (λ t. is_with_turn on t (letters_to a left)) (taken-other a e) ∙ sym (other-with a false e refl (named a now))

    with-here : (a : Name) → same_name a l.to ≡ true → is_with_turn on (named a now) (letters_to a (l ∷ left)) ≡ true
    with-here a e = ap (λ c. is_with_turn on (named a now) (with_it a c)) e ∙ hung a e

    module _ (of : Name → Option Name) (turned : AreTurnsOf on (l ∷ left) now turns of) where
      its : IsTurnOf turns of l.to
      its = turned l.to (with-here l.to (same_name-itself l.to))

      settled : MarksSettled its.turn b new
      settled = done.turn its.turn its.there

      definite-step : (q : Name) (c : Bool) → same_name q its.turn ≡ c → definite_if (turn_settles on then_taken left (of q)) (lent q) (piece_at new q) ≡ definite_if (turn_settles on now (l ∷ left) (of q)) (lent q) (piece_at b q)
      definite-step q true e =
          let same : q ≡ its.turn = same_name-equal q its.turn e in
          let own : of q ≡ Some l.to = ap of same ∙ its.own in
          ap (λ o. definite_if (turn_settles on then_taken left o) (lent q) (piece_at new q)) own
          ∙ ap (λ c. definite_if c (lent q) (piece_at new q)) (none-here l.to (same_name-itself l.to))
          ∙ ap (piece_at new) same ∙ settled.here
          ∙ ap₂ (λ k f. option_map (settles_now (is_some k)) f) (are.claims.lent its.turn ∙ ap (lent_at old) (sym same)) (ap (piece_at b) (sym same))
          ∙ sym (ap (λ c. definite_if c (lent q) (piece_at b q)) (with-here l.to (same_name-itself l.to)))
          ∙ sym (ap (λ o. definite_if (turn_settles on now (l ∷ left) o) (lent q) (piece_at b q)) own)
      definite-step q false e = ap₂ (λ c f. definite_if c (lent q) f) (other (of q) refl) (settled.others q (apart-of q its.turn e))
        where
          other : (o : Option Name) → of q ≡ o → turn_settles on then_taken left o ≡ turn_settles on now (l ∷ left) o
          other None is = refl
          other (Some a) is = by (same_name a l.to) refl
            where
              by : (c : Bool) → same_name a l.to ≡ c → is_with_turn on (named a then_taken) (letters_to a left) ≡ is_with_turn on (named a now) (letters_to a (l ∷ left))
              by true f = let no : true ≡ false = sym (same_name-itself its.turn) ∙ ap (λ n. same_name n its.turn) (sym (its.only q (is ∙ ap Some (same_name-equal a l.to f)))) ∙ e in cc
              by false f = same-there a f

      turns-step : AreTurnsOf on left then_taken turns of
      turns-step a is = by (same_name a l.to) refl
        where
          by : (c : Bool) → same_name a l.to ≡ c → IsTurnOf turns of a
          by true e = let no : true ≡ false = sym is ∙ none-here a e in cc
          by false e = turned a (sym (same-there a e) ∙ is)

      piece-step : (q : Name) → piece_after on of left then_taken (held after) (lent q) q (piece_at new q) ≡ piece_after on of (l ∷ left) now (held mid) (lent q) q (piece_at b q)
      piece-step q =
          ap₂ (λ begun ms. reached begun (put_last on ms (mail_at (held after) q)) (definite_if (turn_settles on then_taken left (of q)) (lent q) (piece_at new q))) (still-begun q (same_name q l.to) refl) (left-step q (same_name q l.to) refl)
          ∙ ap₂ (λ (k : Boxes) f. reached (is_some (named q now)) (put_last on (left_for_mail on (named q now) (letters_to q (l ∷ left))) (mail_at (held k) q)) f) same_boxes (definite-step q (same_name q its.turn) refl)

    pub with-turn-settled : AreComing on turns all left taken then_taken boxes after old new
    with-turn-settled = record {
      taken_so = λ a. taken-step a (same_name a l.to) refl ∙ are.taken_so a;
      mailed = λ a. ap₂ (λ ms (k : Boxes). mail_after on ms (mail_at (held k) a)) (left-step a (same_name a l.to) refl) same_boxes ∙ are.mailed a;
      pieces = λ of so. let was = are.pieces of so in (turns-step of was.0, λ q. piece-step of was.0 q ∙ was.1 q);
      none = λ q is. done.none q (are.none q is);
      room = λ a. shorter a (same_name a l.to) (room_at after a) (subst (λ (k : Boxes). length (letters_to a (l ∷ left)) ≤ room_at k a) (sym same_boxes) (are.room a));
      claims = same_claims_more old b new are.claims claims;
      places = λ a there. places a (are.places a there);
    }

  -- ---- in the mail
  module _ (apart : hangs_on on (named l.to now) ≡ false) (same_taken : then_taken ≡ now) (done : IsMailSettled on l (is_some (named l.to now)) mid after b new) where
    not-here : (a : Name) → same_name a l.to ≡ true → hangs_on on (named a now) ≡ false
    not-here a e = ap (λ n. hangs_on on (named n now)) (same_name-equal a l.to e) ∙ apart

    taken-mail : (a : Name) (c : Bool) → same_name a l.to ≡ c → taken_after on (letters_to a left) (named a now) ≡ taken_after on (with_it a c) (named a now)
    taken-mail a true e = after-same on (named a now) (not-here a e) (letters_to a left) ∙ sym (same-taken on (named a now) (not-here a e))
    taken-mail a false e = refl

    -- the mail of the receiver
    abbrev mail_then : List Message
    mail_then = settle_or_put (same_name on) l.message (mail_at (held mid) l.to)

    mail-here : (a : Name) → same_name a l.to ≡ true → mail_at (held after) a ≡ settle_or_put (same_name on) l.message (mail_at (held mid) a)
    mail-here a e =
        let same : a ≡ l.to = same_name-equal a l.to e in
        ap (mail_at (held after)) same ∙ done.mailed.here ∙ ap (λ n. settle_or_put (same_name on) l.message (mail_at (held mid) n)) (sym same)

    mailed-mail : (a : Name) (c : Bool) → same_name a l.to ≡ c → mail_after on (left_for_mail on (named a now) (letters_to a left)) (mail_at (held after) a) ≡ mail_after on (left_for_mail on (named a now) (with_it a c)) (mail_at (held mid) a)
    mailed-mail a true e =
        ap₂ (λ ms k. mail_after on ms k) (none-for-turn on (named a now) (not-here a e) (letters_to a left)) (mail-here a e)
        ∙ sym (ap (λ ms. mail_after on ms (mail_at (held mid) a)) (none-for-turn on (named a now) (not-here a e) (l.message ∷ letters_to a left)))
    mailed-mail a false e = ap (mail_after on (left_for_mail on (named a now) (letters_to a left))) (done.mailed.others a (apart-of a l.to e))

    same-with : (a : Name) (c : Bool) → same_name a l.to ≡ c → is_with_turn on (named a now) (letters_to a left) ≡ is_with_turn on (named a now) (with_it a c)
    same-with a true e = none-with on (named a now) (not-here a e) (letters_to a left) ∙ sym (not-here a e)
    same-with a false e = refl

    same-turns : (o : Option Name) → turn_settles on now left o ≡ turn_settles on now (l ∷ left) o
    same-turns None = refl
    same-turns (Some a) = same-with a (same_name a l.to) refl

    roused-step : (begun so k : Bool) (has : Bool) (ms : List Message) (found : Option Piece) → reached begun ms (definite_if so k (roused_if (not has) begun found)) ≡ reached begun (cond has ms (l.message ∷ ms)) (definite_if so k found)
    roused-step begun so k true ms found = refl
    roused-step begun so k false ms found = ap (reached begun ms) (definite-roused so k begun found) ∙ reached-more begun l.message ms (definite_if so k found)

    module _ (of : Name → Option Name) where
      abbrev so_of : Name → Bool
      so_of q = turn_settles on now (l ∷ left) (of q)

      piece-mail : (q : Name) (c : Bool) → same_name q l.to ≡ c → reached (is_some (named q now)) (put_last on (left_for_mail on (named q now) (letters_to q left)) (mail_at (held after) q)) (definite_if (so_of q) (lent q) (piece_at new q))
          ≡ reached (is_some (named q now)) (put_last on (left_for_mail on (named q now) (with_it q c)) (mail_at (held mid) q)) (definite_if (so_of q) (lent q) (piece_at b q))
      piece-mail q true e =
          let same : q ≡ l.to = same_name-equal q l.to e in
          let here : piece_at new q ≡ roused_if (not (has_put on (mail_at (held mid) q))) (is_some (named q now)) (piece_at b q) =
          ap (piece_at new) same ∙ done.pieces.here ∙ ap (λ n. roused_if (not (has_put on (mail_at (held mid) n))) (is_some (named n now)) (piece_at b n)) (sym same) in
          ap₂ (λ ms k. reached (is_some (named q now)) (put_last on ms k) (definite_if (so_of q) (lent q) (piece_at new q))) (none-for-turn on (named q now) (not-here q e) (letters_to q left)) (mail-here q e)
          ∙ ap (λ f. reached (is_some (named q now)) (put_last on (letters_to q left) (settle_or_put (same_name on) l.message (mail_at (held mid) q))) (definite_if (so_of q) (lent q) f)) here
          ∙ roused-step (is_some (named q now)) (so_of q) (lent q) (has_put on (mail_at (held mid) q)) (put_last on (letters_to q left) (settle_or_put (same_name on) l.message (mail_at (held mid) q))) (piece_at b q)
          ∙ sym (ap (λ ms. reached (is_some (named q now)) (put_last on ms (mail_at (held mid) q)) (definite_if (so_of q) (lent q) (piece_at b q))) (none-for-turn on (named q now) (not-here q e) (l.message ∷ letters_to q left)))
      piece-mail q false e =
          ap₂ (λ k f. reached (is_some (named q now)) (put_last on (left_for_mail on (named q now) (letters_to q left)) k) (definite_if (so_of q) (lent q) f)) (done.mailed.others q (apart-of q l.to e)) (done.pieces.others q (apart-of q l.to e))

    room-step : (a : Name) (c : Bool) → same_name a l.to ≡ c → length (with_it a c) ≤ room_at mid a → length (letters_to a left) ≤ room_at after a
    room-step a true e fits =
        let was : room_at mid a ≡ room_at mid l.to = ap (room_at mid) (same_name-equal a l.to e) in
        let is : room_at after a ≡ room_at after l.to = ap (room_at after) (same_name-equal a l.to e) in
        let less : room_at mid l.to ≤ room_at after l.to + 1 = done.less in
        omega (arith, was, is, less, fits)
    room-step a false e fits = let kept : room_at mid a ≤ room_at after a = done.kept a (apart-of a l.to e) in omega (arith, kept, fits)

    none-mail : (q : Name) (c : Bool) → same_name q l.to ≡ c → piece_at b q ≡ None → piece_at new q ≡ None
    none-mail q true e is =
        let same : q ≡ l.to = same_name-equal q l.to e in
        ap (piece_at new) same ∙ done.pieces.here ∙ ap (roused_if (not (has_put on (mail_at (held mid) l.to))) (is_some (named l.to now))) (ap (piece_at b) (sym same) ∙ is)
        ∙ nothing (not (has_put on (mail_at (held mid) l.to))) (is_some (named l.to now))
      where
        nothing : (so begun : Bool) → roused_if so begun None ≡ None
        nothing false begun = refl
        nothing true true = refl
        nothing true false = refl
    none-mail q false e is = done.pieces.others q (apart-of q l.to e) ∙ is

    at-now : AreComing on turns all left taken now boxes after old new
    at-now = record {
      taken_so = λ a. taken-mail a (same_name a l.to) refl ∙ are.taken_so a;
      mailed = λ a. mailed-mail a (same_name a l.to) refl ∙ are.mailed a;
      pieces = λ of so.
          let was = are.pieces of so in (
            (λ a is. was.0 a (sym (same-with a (same_name a l.to) refl) ∙ is)),
            λ q. ap (λ c. reached (is_some (named q now)) (put_last on (left_for_mail on (named q now) (letters_to q left)) (mail_at (held after) q)) (definite_if c (lent q) (piece_at new q))) (same-turns (of q))
                ∙ piece-mail of q (same_name q l.to) refl ∙ was.1 q,
          );
      none = λ q is. none-mail q (same_name q l.to) refl (are.none q is);
      room = λ a. room-step a (same_name a l.to) refl (are.room a);
      claims = same_claims_more old b new are.claims claims;
      places = λ a there. places a (are.places a there);
    }

    pub in-mail-settled : AreComing on turns all left taken then_taken boxes after old new
    in-mail-settled = subst (λ (t : Named Message). AreComing on turns all left taken t boxes after old new) (sym same_taken) at-now

  pub letter-settled : IsSettled on turns l now then_taken mid after b new → AreComing on turns all left taken then_taken boxes after old new
  letter-settled (settling.with_turn hangs same done) = with-turn-settled hangs same done
  letter-settled (settling.in_mail not same done) = in-mail-settled not same done

-- there is room for the first
pub first-fits : (l : Letter) (left : List Letter) (boxes : Boxes) → CanHoldAll (l ∷ left) boxes → 0 < room_at boxes l.to
first-fits l left boxes room =
    let fits : length (cond true (l.message ∷ []) [] ++ letters_to l.to left) ≤ room_at boxes l.to = subst (λ c. length (cond c (l.message ∷ []) [] ++ letters_to l.to left) ≤ room_at boxes l.to) (same_name-itself l.to) (room l.to) in
    omega (arith, fits)

-- ---- the turns of receivers
-- Of the counts these are left: each other receiver that took a message which depends on the root has its turn.
abbrev pub TurnsBut : Name → Named ℕ → Named ℕ → Named Message → Board → Named Name → Type 0
TurnsBut on all left taken b turns = (a : Name) → (named a left ≡ named a all) ⊎ (hangs_on on (named a taken) ≡ true → IsSome (named a all) → HasTurn b turns a)

pub turn-made : (on : Name) (all left : Named ℕ) (to : Name) (n : ℕ) (taken : Named Message) (b : Board) (old new : Named Name) → TurnsBut on all ((to, n) ∷ left) taken b old → IsTurnAdded on to taken b old new → TurnsBut on all left taken b new
turn-made on all left to n taken b old new turns added a = from (turns a)
  where
    by : (c : Bool) → same_name a to ≡ c → cond c (Some n) (named a left) ≡ named a all → (named a left ≡ named a all) ⊎ (hangs_on on (named a taken) ≡ true → IsSome (named a all) → HasTurn b new a)
    by true e is = inr (λ hangs some. subst (HasTurn b new) (sym (same_name-equal a to e)) (added.here (ap (λ k. hangs_on on (named k taken)) (sym (same_name-equal a to e)) ∙ hangs)))
    by false e is = inl is

    from : (named a ((to, n) ∷ left) ≡ named a all) ⊎ (hangs_on on (named a taken) ≡ true → IsSome (named a all) → HasTurn b old a) → (named a left ≡ named a all) ⊎ (hangs_on on (named a taken) ≡ true → IsSome (named a all) → HasTurn b new a)
    from (inl is) = by (same_name a to) refl is
    from (inr has) = inr (λ hangs some. added.others a (has hangs some))

pub turns-made : (on : Name) (all : Named ℕ) (taken : Named Message) (b : Board) (turns : Named Name) → TurnsBut on all [] taken b turns → AreTurns on all taken b turns
turns-made on all taken b turns but a hangs some = by (but a)
  where
    by : (None ≡ named a all) ⊎ (hangs_on on (named a taken) ≡ true → IsSome (named a all) → HasTurn b turns a) → HasTurn b turns a
    by (inl is) = let no : IsSome {T = ℕ} None = subst (λ (o : Option ℕ). IsSome o) (sym is) some in absurd (cc)
    by (inr has) = has hangs some

-- a receiver that took no such message has none
pub turn-none : (on to : Name) (taken : Named Message) (b : Board) (turns : Named Name) → hangs_on on (named to taken) ≡ false → IsTurnAdded on to taken b turns turns
turn-none on to taken b turns not = record { here = λ is. let no : true ≡ false = sym is ∙ not in cc; others = λ a has. has }

-- its turn is put among them
pub turn-put : (on to : Name) (turn : Name) (taken : Named Message) (b : Board) (old new : Named Name) → IsBegunTurn b to turn → new ≡ with_named old to turn → IsTurnAdded on to taken b old new
turn-put on to turn taken b old new begun put = record {
  here = λ is. record { turn = turn; there = ap (named to) put ∙ named-here to turn old; begun = begun };
  others = λ a has. by a has (same_name a to) refl;
}
  where
    at : (a : Name) (c : Bool) → same_name a to ≡ c → named a new ≡ cond c (Some turn) (named a old)
    at a c e = ap (named a) put ∙ named-with_named a to turn old ∙ ap (λ k. cond k (Some turn) (named a old)) e

    by : (a : Name) → HasTurn b old a → (c : Bool) → same_name a to ≡ c → HasTurn b new a
    by a has true e = record { turn = turn; there = at a true e; begun = subst (λ n. IsBegunTurn b n turn) (sym (same_name-equal a to e)) begun }
    by a has false e = record { turn = has.turn; there = at a false e ∙ has.there; begun = has.begun }

-- ---- actors that begin
-- The actors that are left are still to begin.
pub record AreBeginning (all left : Named ActorState) (mails : Mail) (old new : Board) : Type 0 where
  pub pieces : (a : Name) → begun (named a left) (mail_at mails a) (piece_at new a) ≡ begun (named a all) (mail_at mails a) (piece_at old a)
  pub vacant : AreVacant left new
  pub claims : SameClaims old new

module _ (name : Name) (actor : ActorState) (all left rest : Named ActorState) (mails : Mail) (old b new : Board) (are : AreBeginning all left mails old b) (there : named name left ≡ Some actor) (without : IsWithout name left rest)
    (put : IsPutAt name (Some (actor_with actor (mail_at mails name))) b new) (claims : SameClaims b new) (places : (other : Name) → HasPlace b other → HasPlace new other) where
  begun-step : (a : Name) (c : Bool) → same_name a name ≡ c → begun (cond c None (named a left)) (mail_at mails a) (piece_at new a) ≡ begun (named a left) (mail_at mails a) (piece_at b a)
  begun-step a true e =
      let is : a ≡ name = same_name-equal a name e in
      ap (piece_at new) is ∙ put.here ∙ ap (λ n. Some (actor_with actor (mail_at mails n))) (sym is) ∙ ap (λ o. begun o (mail_at mails a) (piece_at b a)) (sym (ap (λ n. named n left) is ∙ there))
  begun-step a false e = ap (begun (named a left) (mail_at mails a)) (put.others a (apart-of a name e))

  vacant-step : (a : Name) (c : Bool) → same_name a name ≡ c → IsSome (cond c None (named a left)) → IsVacant new a
  vacant-step a true e some = absurd (cc)
  vacant-step a false e some = let was : IsVacant b a = are.vacant a some in record { none = put.others a (apart-of a name e) ∙ was.none; place = places a was.place }

  pub actor-begun : AreBeginning all rest mails old new
  actor-begun = record {
    pieces = λ a. ap (λ o. begun o (mail_at mails a) (piece_at new a)) (without a) ∙ begun-step a (same_name a name) refl ∙ are.pieces a;
    vacant = λ a some. vacant-step a (same_name a name) refl (subst (λ (o : Option ActorState). IsSome o) (without a) some);
    claims = same_claims_more old b new are.claims claims;
  }
