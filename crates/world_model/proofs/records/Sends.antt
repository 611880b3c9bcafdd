-- What holds of the unsettled sends of a unit, and of whoever depends on a name.
use Rattle.std.proofs.Common.{◌≡◌, ◌∙◌, Bool, true, false, cond, List, [], ◌∷◌, map, refl, sym, ap, subst}
use Rattle.std.specs.Prelude.{Option, None, Some}
use Rattle.value_core.proofs.NamedLaws.{same_name-itself, same_name-equal}
use Rattle.value_core.specs.Named.{Name, same_name}
use Rattle.value_core.specs.declared.value.Value.{Value}
use Rattle.serial_model.proofs.runs.Made.{IsMade}
use Rattle.serial_model.specs.State.{Setup, State}
use Rattle.serial_model.specs.Step.{queue_of}
use Rattle.actor_mailbox.specs.declared.message.Message.{Message}
use Rattle.actor_mailbox.specs.Messages.{is_from, from, passes}
use Rattle.serial_model.specs.Sends.{sends_to, effects_to}
use Rattle.world_model.specs.Message.{settled, tentative, is_tentative}
use Rattle.world_model.specs.StandsFor.{StandsFor}
use Rattle.world_model.specs.World.{LiveUnit, Attempt, World, line, sends, held_sends, attempt_sends}
use Rattle.world_model.proofs.lists.Lists.{Each, each-left, each-append, each-map}
use Rattle.world_model.proofs.lists.Queues.{AreTentative}
use Rattle.world_model.proofs.records.Names.{no-unit-of-root}

pub sends-each : (w : World) (u a : Name) (P : Message → Type 0) → ((x : LiveUnit) (args : List Value) → w.units u ≡ Some x → P (tentative u u args))
    → ((at : Attempt) (args : List Value) → w.attempts u ≡ Some at → P (tentative u at.root args)) → Each P (sends w u a)
sends-each w u a P own of = each-append P (held_sends u a (w.units u)) (attempt_sends u a (w.attempts u)) (on (w.units u) refl) (by (w.attempts u) refl)
  where
    on : (live : Option LiveUnit) → w.units u ≡ live → Each P (held_sends u a live)
    on None is = tt
    on (Some x) is = each-map P (tentative u u) (sends_to a x.held) (λ args. own x args is)

    by : (found : Option Attempt) → w.attempts u ≡ found → Each P (attempt_sends u a found)
    by None is = tt
    by (Some at) is = each-map P (tentative u at.root) (effects_to a at.effects) (λ args. of at args is)

pub sends-tentative : (w : World) (u a : Name) → AreTentative (sends w u a)
sends-tentative w u a = sends-each w u a (λ m. is_tentative m ≡ true) (λ x args is. refl) (λ at args is. refl)

-- what holds of each sender's messages holds of all
pub each-sender : (P : Name → Message → Type 0) (ms : List Message) → ((v : Name) → Each (P v) (from v ms)) → Each (λ m. P m.sender m) ms
each-sender P [] all = tt
each-sender P (m ∷ ms) all = (first, each-sender P ms (λ v. rest v (is_from v m) (all v)))
  where
    first : P m.sender m
    first = (subst (Each (P m.sender)) (ap (λ b. cond b (m ∷ from m.sender ms) (from m.sender ms)) (same_name-itself m.sender)) (all m.sender)).0

    rest : (v : Name) (b : Bool) → Each (P v) (cond b (m ∷ from v ms) (from v ms)) → Each (P v) (from v ms)
    rest v true each = each.1
    rest v false each = each

each-settled : (P : Message → Type 0) (v : Name) (queue : List (List Value)) → ((args : List Value) → P (settled v args)) → Each P (map (settled v) queue)
each-settled P v queue all = each-map P (settled v) queue all

module _ (setup : Setup) (w : World) (s : State) (st : StandsFor setup w s) (made : IsMade s) where
  -- what holds of settled messages and of unsettled sends holds of all messages of a line
  pub line-each : (a : Name) (P : Name → Message → Type 0) → ((v : Name) (args : List Value) → P v (settled v args)) → ((v : Name) → Each (P v) (sends w v a))
      → Each (λ m. P m.sender m) (line w a)
  line-each a P all some = each-sender P (line w a) (λ v.
      let at = st.queues a v in
      subst (Each (P v)) (sym at.stands) (each-append (P v) (map (settled v) (queue_of s.queues a v)) at.put (each-settled (P v) v (queue_of s.queues a v) (all v))
      (each-left (P v) at.put at.kept (subst (Each (P v)) at.whole (some v)))))

  -- a unit's name is that of no attempt: who depends on it is its own message
  pub own-sends : (a u : Name) (x : LiveUnit) → w.units u ≡ Some x → Each (λ m. same_name u m.sender ≡ false → passes (same_name u) m.depends ≡ false) (line w a)
  own-sends a u x there = line-each a (λ v m. same_name u v ≡ false → passes (same_name u) m.depends ≡ false) (λ v args not. refl)
      (λ v. sends-each w v a (λ m. same_name u v ≡ false → passes (same_name u) m.depends ≡ false) (λ x args is not. not) (λ at args is not. apart v at is))
    where
      apart : (v : Name) (at : Attempt) → w.attempts v ≡ Some at → same_name u at.root ≡ false
      apart v at is = on (same_name u at.root) refl
        where
          none : w.units at.root ≡ None
          none = no-unit-of-root setup w s st made v at is

          on : (b : Bool) → same_name u at.root ≡ b → b ≡ false
          on false e = refl
          on true e = let same : u ≡ at.root = same_name-equal u at.root e in let no : Some x ≡ None = sym there ∙ ap w.units same ∙ none in cc
