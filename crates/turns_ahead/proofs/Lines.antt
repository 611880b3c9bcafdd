-- What a turn holds: its begin, where that is held, and then its requests.
use Rattle.std.proofs.Common.{◌≡◌, ◌∙◌, ◌++◌, ◌∷◌, [], ℕ, Bool, List, ap, ap₂, arith, cond, length, refl, subst, suc, sym, true}
use Rattle.std.specs.List.{slice_get}
use Rattle.std.specs.Prelude.{◌+◌, Err, IfOk, None, Ok, Option, Result, Some, drop, false}
use Rattle.std.specs.declared.alloc.AllocError.{AllocError}
use Rattle.serial_model.specs.declared.answer.Answer.{Answer}
use Rattle.serial_model.specs.declared.request.Request.{Request}
use Rattle.serial_model.specs.declared.request.Request.TheVariants as request
use Rattle.serial_model.specs.Sends.{request_sends, sends_to}
use Rattle.shared_world.specs.rows.Leading as rows
use Rattle.shared_world.specs.rows.Leading.{left_after}
use Rattle.tentative_turn.specs.declared.held_effect.HeldEffect.{HeldEffect}
use Rattle.tentative_turn.specs.declared.held_effect.HeldEffect.TheVariants as held
use Rattle.tentative_turn.specs.declared.ahead.Ahead.{Ahead as Foretold}
use Rattle.tentative_turn.specs.declared.ahead.Ahead.TheVariants as foretold
use Rattle.tentative_turn.specs.Sending.{held_receivers, is_send_to, receiver, request_receivers, sent_to}
use Rattle.tentative_turn.specs.Turn.{Turn, answered_ahead, things_made, with_asked, IsLookUp, IsMustWait, RunsAhead}
use Rattle.turns_ahead.specs.Leading.{Leading, ahead_of, asked, becomes_or, begins, hands_back, AreAsked, HasGone, HasSettled, IsLeftBy, IsLeftNext, IsLine}
use Rattle.turns_ahead.specs.declared.turn_ahead.Left.{Left}
use Rattle.value_core.specs.declared.value.Value.{Value}
use Rattle.value_core.specs.Named.{Name, same_name}

none-begins : (effects : List HeldEffect) → AreAsked effects → begins effects ≡ None
none-begins [] is = refl
none-begins (held.Take entry ∷ effects) is = absurd is
none-begins (held.Asked r answer ∷ effects) is = refl

asked-line : (effects : List HeldEffect) → AreAsked effects → IsLine effects
asked-line [] is = tt
asked-line (held.Take entry ∷ effects) is = absurd is
asked-line (held.Asked r answer ∷ effects) is = is

asked-more : (effects : List HeldEffect) (r : Request) (answer : Answer) → AreAsked effects → AreAsked (effects ++ held.Asked r answer ∷ [])
asked-more [] r answer is = tt
asked-more (held.Take entry ∷ effects) r answer is = absurd is
asked-more (held.Asked q other ∷ effects) r answer is = asked-more effects r answer is

-- one request more is held
pub line-more : (effects : List HeldEffect) (r : Request) (answer : Answer) → IsLine effects → IsLine (effects ++ held.Asked r answer ∷ [])
line-more [] r answer is = tt
line-more (held.Take entry ∷ effects) r answer is = asked-more effects r answer is
line-more (held.Asked q other ∷ effects) r answer is = asked-more effects r answer is

pub asked-last : (effects : List HeldEffect) (r : Request) (answer : Answer) → asked (effects ++ held.Asked r answer ∷ []) ≡ asked effects ++ r ∷ []
asked-last [] r answer = refl
asked-last (held.Take entry ∷ effects) r answer = asked-last effects r answer
asked-last (held.Asked q other ∷ effects) r answer = ap (λ rs. q ∷ rs) (asked-last effects r answer)

pub begins-last : (effects : List HeldEffect) (r : Request) (answer : Answer) → begins (effects ++ held.Asked r answer ∷ []) ≡ begins effects
begins-last [] r answer = refl
begins-last (held.Take entry ∷ effects) r answer = refl
begins-last (held.Asked q other ∷ effects) r answer = refl

-- what a request leaves
pub gone-line : (old new : Turn) (r : Request) (o : Option Answer) (given : Foretold) → RunsAhead old r o new given → IsLine old.effects → IsLine new.effects
gone-line old new r None given is line = subst (λ (t : Turn). IsLine t.effects) (sym is.1) line
gone-line old new r (Some answer) given is line = subst (λ (t : Turn). IsLine t.effects) (sym is.1) (line-more old.effects r answer line)

pub gone-so : (old : Leading) (turn : Turn) (r : Request) (o : Option Answer) (waits : Bool) (given : Foretold) → answered_ahead old.turn r ≡ o → RunsAhead old.turn r o turn given → waits ≡ hands_back given → (IsMustWait given → IsLookUp r)
    → HasGone old r (record old { turn = turn; waits = waits }) given
gone-so old turn r None waits (foretold.Answered a) foreseen is says look = let no : foretold.Answered a ≡ foretold.MustWait r = is.0 in cc
gone-so old turn r None waits (foretold.MustWait back) foreseen is says look =
    let same : foretold.MustWait back ≡ foretold.MustWait r = is.0 in
    (look tt, cc, ap₂ (λ t w. record old { turn = t; waits = w }) is.1 says)
gone-so old turn r (Some answer) waits (foretold.MustWait back) foreseen is says look = let no : foretold.MustWait back ≡ foretold.Answered answer = is.0 in cc
gone-so old turn r (Some answer) waits (foretold.Answered a) foreseen is says look =
    let same : foretold.Answered a ≡ foretold.Answered answer = is.0 in
    let answer_is : answer ≡ a = cc in
    let after : turn ≡ with_asked old.turn r a = is.1 ∙ ap (with_asked old.turn r) answer_is in (
      foreseen ∙ ap Some answer_is,
      ap₂ (λ t w. record old { turn = t; waits = w }) after says,
      ap₂ (λ (t : Turn) w. ahead_of (record old { turn = t; waits = w })) after says
          ∙ ap₂ (λ b rs. record (ahead_of old) { takes = b; held = rs; waits = false }) (begins-last old.turn.effects r a) (asked-last old.turn.effects r a),
    )

-- the first that is held, and the rest
pub first-held : (effects : List HeldEffect) (effect : HeldEffect) → slice_get effects 0 ≡ Some effect → effects ≡ effect ∷ drop 1 effects
first-held [] effect is = cc
first-held (e ∷ effects) effect is = let same : Some e ≡ Some effect = is in let e_is : e ≡ effect = cc in ap (λ x. x ∷ effects) e_is

pub left-next : (l : Leading) (r : Request) (answer : Answer) (result : Result Left AllocError) → slice_get l.turn.effects 0 ≡ Some (held.Asked r answer) → IfOk result (IsLeftBy l.answers l.made r) → IfOk result (IsLeftNext l)
left-next l r answer (Err e) at by = tt
left-next l r answer (Ok left) at by = record { r = r; answer = answer; rest = drop 1 l.turn.effects; first = first-held l.turn.effects (held.Asked r answer) at; by = by }

-- how many things a request makes is said in the same way of what is held and of the history
made-so : (r : Request) → things_made r ≡ rows.things_made r
made-so (request.Print text) = refl
made-so (request.NewRef content) = refl
made-so (request.Deref ref) = refl
made-so (request.RefSet ref content) = refl
made-so (request.Fork body values) = refl
made-so (request.Join future) = refl
made-so (request.Dosync body values) = refl
made-so (request.Spawn behaviour state) = refl
made-so (request.Send actor args) = refl
made-so (request.Become behaviour state) = refl
made-so request.SelfActor = refl

plus-one : (n : ℕ) → n + 1 ≡ suc n
plus-one n = omega arith

-- the first request is settled
pub settled-so : (l : Leading) (left : Left) (r : Request) (answer : Answer) → IsLine l.turn.effects → IsLeftNext l left → slice_get l.turn.effects 0 ≡ Some (held.Asked r answer)
    → HasSettled l r (record l { turn = record l.turn { effects = drop 1 l.turn.effects }; answers = left.answers; made = left.made; becomes = becomes_or left.becomes l.becomes })
settled-so l left r answer line is at = record {
  turn = refl;
  rest = rest;
  first = ap asked whole;
  left = ap₂ (λ a m. record { answers = a; made = m; becomes = becomes_or left.becomes l.becomes; takes = begins (drop 1 effects); held = rest; waits = l.waits }) (by.answers_are ∙ plus-one l.answers) (by.made_is ∙ ap (λ n. l.made + n) (made-so r))
      ∙ ap₂ (λ b t. record (left_after (ahead_of l) r rest) { becomes = b; takes = t }) (by.becomes l.becomes) (none-begins (drop 1 effects) (subst IsLine whole line));
}
  where
    effects : List HeldEffect
    effects = l.turn.effects

    rest : List Request
    rest = asked (drop 1 effects)

    whole : effects ≡ held.Asked r answer ∷ drop 1 effects
    whole = first-held effects (held.Asked r answer) at

    by : IsLeftBy l.answers l.made r left
    by = let both : held.Asked is.r is.answer ∷ is.rest ≡ held.Asked r answer ∷ drop 1 effects = sym is.first ∙ whole in let same : is.r ≡ r = cc in subst (λ q. IsLeftBy l.answers l.made q left) same is.by

-- how many of the requests send something to an actor
pub sent-asked : (to : Name) (effects : List HeldEffect) → length (sent_to to effects) ≡ length (sends_to to (asked effects))
sent-asked to [] = refl
sent-asked to (held.Take entry ∷ effects) = sent-asked to effects
sent-asked to (held.Asked r answer ∷ effects) = on r (sent-asked to effects)
  where
    sends : (b : Bool) (args : List Value) → length (sent_to to effects) ≡ length (sends_to to (asked effects))
        → length (cond b (held.Asked r answer ∷ sent_to to effects) (sent_to to effects)) ≡ length (cond b (args ∷ []) [] ++ sends_to to (asked effects))
    sends true args rest = ap suc rest
    sends false args rest = rest

    on : (q : Request) → length (sent_to to effects) ≡ length (sends_to to (asked effects))
        → length (cond (is_send_to to q) (held.Asked r answer ∷ sent_to to effects) (sent_to to effects)) ≡ length (request_sends to q ++ sends_to to (asked effects))
    on (request.Print text) rest = rest
    on (request.NewRef content) rest = rest
    on (request.Deref ref) rest = rest
    on (request.RefSet ref content) rest = rest
    on (request.Fork body values) rest = rest
    on (request.Join future) rest = rest
    on (request.Dosync body values) rest = rest
    on (request.Spawn behaviour state) rest = rest
    on (request.Send actor args) rest = sends (same_name to actor) args rest
    on (request.Become behaviour state) rest = rest
    on request.SelfActor rest = rest

-- the receivers of what is held are those of the requests
pub receivers-asked : (effects : List HeldEffect) → held_receivers effects ≡ request_receivers (asked effects)
receivers-asked [] = refl
receivers-asked (held.Take entry ∷ effects) = receivers-asked effects
receivers-asked (held.Asked r answer ∷ effects) = ap (λ rest. receiver r ++ rest) (receivers-asked effects)
