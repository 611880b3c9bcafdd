-- What effects do to actors, one after the other.
use Rattle.std.proofs.Common.{◌≡◌, ◌∙◌, ◌+◌, ℕ, Bool, true, false, cond, length, append-nil, append_assoc, arith, List, [], ◌∷◌, ◌++◌, refl, sym, ap}
use Rattle.std.proofs.lemmas.List.{length-append}
use Rattle.std.specs.Option.{option_map, option_or}
use Rattle.std.specs.Prelude.{Err, None, Ok, OnOk, Option, Result, Some, map}
use Rattle.actor_mailbox.specs.declared.message.Message.{Message}
use Rattle.attempt_commits.specs.declared.deeds.Deeds.{Deeds}
use Rattle.attempt_commits.specs.declared.deeds.Letter.{Letter}
use Rattle.attempt_commits.specs.Deeds.{AreCounted, AreDeeds, AreDeedsBut, IsWithDeed, begun, count_at, counted, letter_of, turned}
use Rattle.attempt_commits.specs.Settling.{letters_to, reached}
use Rattle.serial_model.specs.declared.actor_state.ActorState.{ActorState}
use Rattle.serial_model.specs.declared.effect.Effect.{Effect}
use Rattle.serial_model.specs.declared.effect.What.TheVariants as what
use Rattle.serial_model.specs.Sends.{effects_to, what_sends}
use Rattle.serial_model.specs.Step.{idle}
use Rattle.shared_world.specs.rows.Actors.{acted}
use Rattle.shared_world.specs.Shared.{becoming_of}
use Rattle.unit_table.specs.declared.piece.Piece.{Piece}
use Rattle.unit_table.specs.declared.unit.Becoming.{Becoming}
use Rattle.value_core.proofs.NamedLaws.{named-with_named, same_name-equal}
use Rattle.value_core.specs.declared.value.Value.{Value}
use Rattle.value_core.specs.Named.{Name, Named, named, same_name, with_named}
use Rattle.world_model.proofs.lists.Lists.{flat_map-append, map-append}
use Rattle.world_model.specs.Message.{settled, tentative}
use Rattle.world_model.specs.rows.Commits.{effects_actors, effects_unit}

-- at first all effects are left
pub none-done : (u : Name) (effects : List Effect) (d : Deeds) → d.letters.items ≡ [] → d.counts.entries ≡ [] → d.actors.entries ≡ [] → d.becomes ≡ None → AreDeedsBut u effects effects d
none-done u effects d no_letters no_counts no_actors not_said = record {
  letters = λ a. ap (λ ls. letters_to a ls ++ map (settled u) (effects_to a effects)) no_letters;
  counts = λ a. ap (λ counts. count_at counts a) no_counts ∙ sym (ap (λ ls. length (letters_to a ls)) no_letters);
  actors = λ a. ap (λ (actors : Named ActorState). effects_actors effects (λ q. named q actors) a) no_actors;
  becomes = λ x. ap (λ (b : Option Becoming). effects_unit effects (turned b x)) not_said;
}

-- the first of those that are left is done
pub one-done : (u : Name) (effects left : List Effect) (e : Effect) (old new : Deeds) → AreDeedsBut u effects (e ∷ left) old → IsWithDeed u e.what old new → AreDeedsBut u effects left new
one-done u effects left e old new are is = record {
  letters = λ a.
      let sent = what_sends a e.what in
      let more = effects_to a left in
      ap (λ ls. ls ++ map (settled u) more) (is.letters a) ∙ append_assoc (letters_to a old.letters.items) (map (settled u) sent) (map (settled u) more)
      ∙ ap (λ ls. letters_to a old.letters.items ++ ls) (sym (map-append (settled u) sent more)) ∙ are.letters a;
  counts = is.counts are.counts;
  actors = λ a. ap (λ (f : Name → Option ActorState). effects_actors left f a) (λ i q. is.actors q i) ∙ are.actors a;
  becomes = λ x. ap (effects_unit left) (is.becomes x) ∙ are.becomes x;
}

-- ---- what one effect does
-- what it prints is nothing to actors
pub bytes-done : (u : Name) (text : List ℕ) (d : Deeds) → IsWithDeed u (what.Bytes text) d d
bytes-done u text d = record {
  letters = λ a. sym (append-nil (letters_to a d.letters.items));
  counts = λ are. are;
  actors = λ a. refl;
  becomes = λ x. refl;
}

-- a message is put behind the others, and counted
pub send-done : (u to : Name) (args : List Value) (old new : Deeds) → new.letters.items ≡ old.letters.items ++ letter_of u to args ∷ [] → new.counts.entries ≡ with_named old.counts.entries to (count_at old.counts.entries to + 1)
    → new.actors.entries ≡ old.actors.entries → new.becomes ≡ old.becomes → IsWithDeed u (what.Send to args) old new
send-done u to args old new put counts actors becomes = record {
  letters = letters;
  counts = λ are a. ap (λ c. count_at c a) counts ∙ ap counted (named-with_named a to (count_at old.counts.entries to + 1) old.counts.entries) ∙ on are a (same_name a to) refl;
  actors = λ a. ap (λ (m : Named ActorState). named a m) actors;
  becomes = λ x. ap (λ (b : Option Becoming). turned b x) becomes;
}
  where
    one : (a : Name) (c : Bool) → cond c (settled u args ∷ []) [] ++ [] ≡ map (settled u) (cond c (args ∷ []) [])
    one a true = refl
    one a false = refl

    letters : (a : Name) → letters_to a new.letters.items ≡ letters_to a old.letters.items ++ map (settled u) (what_sends a (what.Send to args))
    letters a =
        ap (letters_to a) put ∙ flat_map-append (λ (l : Letter). cond (same_name a l.to) (l.message ∷ []) []) old.letters.items (letter_of u to args ∷ [])
        ∙ ap (λ ls. letters_to a old.letters.items ++ ls) (one a (same_name a to))

    how-many : (a : Name) → length (letters_to a new.letters.items) ≡ length (letters_to a old.letters.items) + length (map (settled u) (cond (same_name a to) (args ∷ []) []))
    how-many a = ap length (letters a) ∙ length-append (letters_to a old.letters.items) (map (settled u) (cond (same_name a to) (args ∷ []) []))

    on : AreCounted old → (a : Name) (c : Bool) → same_name a to ≡ c → counted (cond (same_name a to) (Some (count_at old.counts.entries to + 1)) (named a old.counts.entries)) ≡ length (letters_to a new.letters.items)
    on are a true e =
        let was : count_at old.counts.entries to ≡ length (letters_to a old.letters.items) = ap (count_at old.counts.entries) (sym (same_name-equal a to e)) ∙ are a in
        let now : length (letters_to a new.letters.items) ≡ length (letters_to a old.letters.items) + 1 = how-many a ∙ ap (λ c. length (letters_to a old.letters.items) + length (map (settled u) (cond c (args ∷ []) []))) e in
        ap (λ c. counted (cond c (Some (count_at old.counts.entries to + 1)) (named a old.counts.entries))) e ∙ ap (λ n. n + 1) was ∙ sym now
    on are a false e =
        let now : length (letters_to a new.letters.items) ≡ length (letters_to a old.letters.items) + 0 = how-many a ∙ ap (λ c. length (letters_to a old.letters.items) + length (map (settled u) (cond c (args ∷ []) []))) e in
        let was : count_at old.counts.entries a ≡ length (letters_to a old.letters.items) = are a in
        ap (λ c. counted (cond c (Some (count_at old.counts.entries to + 1)) (named a old.counts.entries))) e ∙ omega (arith, was, now)

-- an actor is added
pub spawn-done : (u name : Name) (behaviour : ℕ) (state : List Value) (old new : Deeds) → new.letters.items ≡ old.letters.items → new.counts.entries ≡ old.counts.entries
    → new.actors.entries ≡ with_named old.actors.entries name (idle behaviour state) → new.becomes ≡ old.becomes → IsWithDeed u (what.Spawn name behaviour state) old new
spawn-done u name behaviour state old new letters counts actors becomes = record {
  letters = λ a. ap (letters_to a) letters ∙ sym (append-nil (letters_to a old.letters.items));
  counts = λ are a. ap (λ c. count_at c a) counts ∙ are a ∙ sym (ap (λ ls. length (letters_to a ls)) letters);
  actors = λ a. ap (λ (m : Named ActorState). named a m) actors ∙ named-with_named a name (idle behaviour state) old.actors.entries;
  becomes = λ x. ap (λ (b : Option Becoming). turned b x) becomes;
}

-- it is said what the actor becomes
pub become-done : (u : Name) (behaviour : ℕ) (state : List Value) (old new : Deeds) → new.letters.items ≡ old.letters.items → new.counts.entries ≡ old.counts.entries → new.actors.entries ≡ old.actors.entries
    → new.becomes ≡ Some (record { behaviour = behaviour; state = state }) → IsWithDeed u (what.Become behaviour state) old new
become-done u behaviour state old new letters counts actors becomes = record {
  letters = λ a. ap (letters_to a) letters ∙ sym (append-nil (letters_to a old.letters.items));
  counts = λ are a. ap (λ c. count_at c a) counts ∙ are a ∙ sym (ap (λ ls. length (letters_to a ls)) letters);
  actors = λ a. ap (λ (m : Named ActorState). named a m) actors;
  becomes = λ x. ap (λ (b : Option Becoming). turned b x) becomes;
}

-- ---- what they come to in all
pub letters-are : (u : Name) (effects : List Effect) (d : Deeds) → AreDeeds u effects d → (a : Name) → letters_to a d.letters.items ≡ map (settled u) (effects_to a effects)
letters-are u effects d are a = sym (append-nil (letters_to a d.letters.items)) ∙ are.letters a

-- what stands under a name then
pub acted-so : (u on : Name) (taken : Bool) (made : Option ActorState) (rest : List (List Value)) (mail : List Message) (found : Option Piece) → begun made mail (reached taken (map (settled u) rest) found) ≡ acted taken made (map (tentative u on) rest) mail found
acted-so u on taken (Some state) rest mail found = refl
acted-so u on taken None [] mail found = refl
acted-so u on taken None (args ∷ rest) mail found = refl

-- what the actor becomes, as the meaning has it
pub becoming-or : (next before : Option Becoming) → option_map becoming_of (option_or next before) ≡ option_or (option_map becoming_of next) (option_map becoming_of before)
becoming-or None before = refl
becoming-or (Some next) before = refl

-- what follows from what two clauses say of a success
pub on-both : {X E : Type 0} (r : Result X E) {A B C : Type 0} → (A → B → C) → OnOk r A → OnOk r B → OnOk r C
on-both (Ok x) f a b = f a b
on-both (Err e) f a b = tt

pub on-ok : {X E : Type 0} (r : Result X E) {A B : Type 0} → (A → B) → OnOk r A → OnOk r B
on-ok (Ok x) f a = f a
on-ok (Err e) f a = tt

pub on-any : {X E : Type 0} (r : Result X E) {A : Type 0} → A → OnOk r A
on-any (Ok x) a = a
on-any (Err e) a = tt
