-- Aborted: what hangs on an attempt, by whatever ways, is gone.
use Rattle.std.proofs.Common.{◌≡◌, ◌∙◌, Bool, true, false, cond, List, [], ◌∷◌, refl, sym, ap, subst}
use Rattle.std.specs.Prelude.{Option, None, Some, not}
use Rattle.value_core.specs.Named.{Name, made_by}
use Rattle.serial_model.proofs.runs.Made.{IsMade}
use Rattle.serial_model.specs.State.{Setup, State}
use Rattle.serial_model.specs.declared.actor_state.ActorState.{ActorState}
use Rattle.world_model.specs.Dependence.{DependsOn, itself, turn, attempt}
use Rattle.world_model.specs.IsWorld.{Ranks}
use Rattle.actor_mailbox.specs.declared.message.Message.{Message}
use Rattle.actor_mailbox.specs.Messages.{passes, without}
use Rattle.world_model.specs.StandsFor.{HasBegun, TakenStands, StandsFor}
use Rattle.world_model.specs.World.{LiveUnit, Attempt, World, line}
use Rattle.world_model.specs.rows.Undone.{Aborts, unless_gone, undone}
use Rattle.world_model.proofs.lists.Lists.{Each, each-to, each-append}
use Rattle.world_model.proofs.records.Names.{maker, no-unit-of-root}
use Rattle.world_model.proofs.records.Ranks.{unit-stays}
use Rattle.world_model.proofs.rows.Undone.{IsGone, undone-stands}

same_tests : (a b : Bool) → (a ≡ true → b ≡ true) → (b ≡ true → a ≡ true) → a ≡ b
same_tests true b to back = sym (to refl)
same_tests false true to back = back refl
same_tests false false to back = refl

is_false : (b : Bool) → (b ≡ true → ⊥) → b ≡ false
is_false true so = absurd (so refl)
is_false false so = refl

module _ (setup : Setup) (w : World) (s : State) (u : Name) (root : Attempt) (gone : Name → Bool) (st : StandsFor setup w s) (made : IsMade s) (row : Aborts w u root gone) where
  -- the turn on a message that is taken
  turn_of : (a : Name) (actor : ActorState) (m : Message) → w.actors a ≡ Some actor → w.taken a ≡ m ∷ [] → (x : LiveUnit) × (w.units (made_by a actor.turns) ≡ Some x) × (x.takes ≡ Some a)
  turn_of a actor m there took =
      let t : HasBegun w.actors w.units a = subst (TakenStands w.actors w.units a) took (st.turns a) in
      let both : Some t.actor ≡ Some actor = sym t.there ∙ there in
      let same : t.actor ≡ actor = cc in
      (t.turn, ap (λ (o : ActorState). w.units (made_by a o.turns)) (sym same) ∙ t.begun, t.takes)

  -- a unit that is gone is a turn on a message that is
  pub whose : (n : Name) (x : LiveUnit) → w.units n ≡ Some x → DependsOn w root.root n
      → (a : Name) × (actor : ActorState) × (m : Message) × (w.actors a ≡ Some actor) × (w.taken a ≡ m ∷ []) × (n ≡ made_by a actor.turns) × (passes gone m.depends ≡ true)
  whose n x there (itself is) = let no : Some x ≡ None = sym there ∙ ap w.units is ∙ no-unit-of-root setup w s st made u root row.attempt in cc
  whose n x there (turn a actor m on found took depends is hangs) = (a, actor, m, found, took, is, ap (passes gone) depends ∙ row.all on hangs)
  whose n x there (attempt v at found is hangs) = let no : Some x ≡ None = sym there ∙ ap w.units is ∙ no-unit-of-root setup w s st made v at found in cc

  pub is-gone : IsGone w gone
  is-gone = record {
    turns = λ a actor m there took. same_tests (passes gone m.depends) (gone (made_by a actor.turns)) (to a actor m there took m.depends refl) (back a actor m there took);
    units = λ v x there takes. is_false (gone v) (λ is. settled v x there takes (whose v x there (row.only v is)));
    attempts = λ v at there is. row.all at.root (attempt v at there refl (row.only v is));
  }
    where
      to : (a : Name) (actor : ActorState) (m : Message) → w.actors a ≡ Some actor → w.taken a ≡ m ∷ [] → (depends : Option Name) → m.depends ≡ depends → passes gone depends ≡ true → gone (made_by a actor.turns) ≡ true
      to a actor m there took None e is = cc
      to a actor m there took (Some on) e is = row.all (made_by a actor.turns) (turn a actor m on there took e refl (row.only on is))

      back : (a : Name) (actor : ActorState) (m : Message) → w.actors a ≡ Some actor → w.taken a ≡ m ∷ [] → gone (made_by a actor.turns) ≡ true → passes gone m.depends ≡ true
      back a actor m there took is =
          let t = turn_of a actor m there took in
          let o = whose (made_by a actor.turns) t.0 t.1 (row.only (made_by a actor.turns) is) in
          let same : a ≡ o.0 = maker a o.0 actor.turns o.1.turns o.5 in
          let both : m ∷ [] ≡ o.2 ∷ [] = sym took ∙ ap w.taken same ∙ o.4 in
          let one : m ≡ o.2 = cc in
          ap (λ (n : Message). passes gone n.depends) one ∙ o.6

      settled : (v : Name) (x : LiveUnit) → w.units v ≡ Some x → x.takes ≡ None
          → (a : Name) × (actor : ActorState) × (m : Message) × (w.actors a ≡ Some actor) × (w.taken a ≡ m ∷ []) × (v ≡ made_by a actor.turns) × (passes gone m.depends ≡ true) → ⊥
      settled v x there takes o =
          let t = turn_of o.0 o.1 o.2 o.3 o.4 in
          let both : Some x ≡ Some t.0 = sym there ∙ ap w.units o.5 ∙ t.1 in
          let same : x ≡ t.0 = cc in
          let no : None ≡ Some o.0 = sym takes ∙ ap (λ (y : LiveUnit). y.takes) same ∙ t.2 in cc

  -- the world stands for what it stood for
  pub aborts : StandsFor setup (undone w gone) s
  aborts = undone-stands setup w s gone st is-gone

-- and no message of it depends on what is gone
pub none-depends : (gone : Name → Bool) (ms : List Message) → Each (λ m. passes gone m.depends ≡ false) (without gone ms)
none-depends gone [] = tt
none-depends gone (m ∷ ms) = on (passes gone m.depends) refl (none-depends gone ms)
  where
    on : (p : Bool) → passes gone m.depends ≡ p → Each (λ m. passes gone m.depends ≡ false) (without gone ms) → Each (λ m. passes gone m.depends ≡ false) (cond (not p) (m ∷ without gone ms) (without gone ms))
    on true e rest = rest
    on false e rest = (e, rest)

-- what is left: the unit stands at its transaction as before, without the attempt, and what does not hang on it stays
pub record IsClean (w : World) (u : Name) (at : Attempt) (w2 : World) : Type 0 where
  pub unit : w2.units u ≡ w.units u
  pub attempt : w2.attempts u ≡ None
  pub units : (v : Name) → ¬ (DependsOn w at.root v) → w2.units v ≡ w.units v
  pub attempts : (v : Name) (other : Attempt) → w.attempts v ≡ Some other → ¬ (DependsOn w at.root other.root) → w2.attempts v ≡ Some other
  pub messages : (a : Name) → Each (λ m. (on : Name) → m.depends ≡ Some on → ¬ (DependsOn w at.root on)) (line w2 a)

pub clean : (w : World) (u : Name) (at : Attempt) (gone : Name → Bool) → Ranks w.actors w.taken w.attempts → Aborts w u at gone → IsClean w u at (undone w gone)
clean w u at gone r row = record {
  unit = ap (λ c. cond c None (w.units u)) (is_false (gone u) (λ is. unit-stays w r u at row.attempt (row.only u is)));
  attempt = ap (unless_gone gone) row.attempt ∙ ap (λ c. cond c None (Some at)) (row.all at.root (itself refl));
  units = λ v not. ap (λ c. cond c None (w.units v)) (is_false (gone v) (λ is. not (row.only v is)));
  attempts = λ v other there not. ap (unless_gone gone) there ∙ ap (λ c. cond c None (Some other)) (is_false (gone other.root) (λ is. not (row.only other.root is)));
  messages = λ a. each-to (λ m. passes gone m.depends ≡ false) (λ m. (on : Name) → m.depends ≡ Some on → ¬ (DependsOn w at.root on)) (line (undone w gone) a) (λ m none on is hangs. apart m on is none (row.all on hangs))
      (each-append (λ m. passes gone m.depends ≡ false) (without gone (w.taken a)) (without gone (w.mails a)) (none-depends gone (w.taken a)) (none-depends gone (w.mails a)));
}
  where
    apart : (m : Message) (on : Name) → m.depends ≡ Some on → passes gone m.depends ≡ false → gone on ≡ true → ⊥
    apart m on is none held = let no : true ≡ false = sym held ∙ sym (ap (passes gone) is) ∙ none in cc
