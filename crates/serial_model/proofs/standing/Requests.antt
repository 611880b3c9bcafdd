-- What the requests of a task of a tree do to it.
use Rattle.std.proofs.Common.{◌≡◌, ◌∙◌, ℕ, zero, suc, ◌+◌, ◌<◌, Bool, true, false, cond, List, [], ◌∷◌, ◌++◌, length, length-append, refl, sym, ap, subst, Option, Some, None, arith}
use Rattle.std.specs.Prelude.{◌||◌}
use Rattle.value_core.specs.Place.{Spot}
use Rattle.value_core.specs.declared.code.Code.{Code}
use Rattle.value_core.specs.declared.value.Value.{Value as Datum}
use Rattle.value_core.specs.declared.value.Value.TheVariants as value
use Rattle.core_syntax.specs.declared.node_id.NodeId.{NodeId}
use Rattle.serial_model.specs.declared.answer.Answer.{Answer}
use Rattle.serial_model.specs.declared.answer.Answer.TheVariants as answer
use Rattle.serial_model.specs.declared.halt.Halt.{Halt}
use Rattle.serial_model.specs.declared.halt.Halt.TheVariants as halt
use Rattle.serial_model.specs.declared.request.Request.{Request}
use Rattle.serial_model.specs.declared.request.Request.TheVariants as request
use Rattle.serial_model.specs.Eval.{next}
use Rattle.serial_model.specs.Log.{Log, new_log, merged, with_made}
use Rattle.value_core.specs.Named.{Name, Named, named, made_by, is_among, over, same_name}
use Rattle.serial_model.specs.Task.{Around, Call, Here, Known, And, Moved, On, End, Outcome, Value, Fault, Spent, Blocked, Result, after_join, asks, closes, follows, gets, looks_up, goes, joins, joins_child, joins_found, read_in, result_of, task, turns, unjoined, with_known}
use Rattle.serial_model.specs.Standing.{Stage, Going, Closing, Ended, TreeTask, Turning, Joining, IsAt, Matches, here_of, result, call_below}
use Rattle.serial_model.proofs.standing.KnownTasks.{matched, unmatched, matches_both, matches_one}
use Rattle.serial_model.proofs.standing.Turns.{turns_on, turns_end, turns_fault, turns_spent, turns_value, joins_on, joins_end, joins_last, task_is_turns}

abbrev pub task_at : ℕ → Named Datum → List Name → Log → Stage → TreeTask
task_at levels view knows log stage = record { levels = levels; view = view; knows = knows; log = log; stage = stage }

-- a name is known that one of both knows
abbrev pub AreBoth : List Name → List Name → List Name → Type 0
AreBoth one other both = (g : Name) → is_among g both ≡ (is_among g one || is_among g other)

longer : (answers : List Answer) (given : Answer) → length (answers ++ given ∷ []) ≡ length answers + 1
longer answers given = let added = length-append answers (given ∷ []) in omega arith

abbrev no_result : Option Result
no_result = None

-- an outcome that a joining task takes over
abbrev pub IsBad : Outcome → Type 0
IsBad (Value v) = ⊥
IsBad _ = Unit {0}

module _ (around : Around) (results : Name → Result) (name : Name) (levels : ℕ) (view : Named Datum) (knows : List Name) (log : Log) where
  abbrev call : Call
  call = call_below around levels

  module _ (body : NodeId) (values : List Datum) (answers : List Answer) (is : IsAt around results name (task_at levels view knows log (Going body values answers))) where
    abbrev does : Halt
    does = next around.program body values true answers around.fuel

    -- it goes on, and knows perhaps more
    pub moved_to : (asked : Request) (at : Spot) (more : List Name) (after : Log) (given : Answer) → does ≡ halt.Ask asked at → (known' : Known) → Matches results more known'
        → asks around levels call view (here_of answers log is.known) asked ≡ On (here_of (answers ++ given ∷ []) after known')
        → IsAt around results name (task_at levels view more after (Going body values (answers ++ given ∷ [])))
    moved_to asked at more after given asking known' matches does_so = record {
      known = known';
      matches = matches;
      comes = turns_on around levels call body values view (here_of answers log is.known) (results name) is.comes asked at (here_of (answers ++ given ∷ []) after known') asking (longer answers given) does_so;
    }

    pub moved : (asked : Request) (at : Spot) (more : List Name) (after : Log) (given : Answer) → does ≡ halt.Ask asked at
        → ((known : Known) → Matches results knows known → (known' : Known) × (Matches results more known')
        × (asks around levels call view (here_of answers log known) asked ≡ On (here_of (answers ++ given ∷ []) after known')))
        → IsAt around results name (task_at levels view more after (Going body values (answers ++ given ∷ [])))
    moved asked at more after given asking does_so = let to = does_so is.known is.matches in moved_to asked at more after given asking to.0 to.1 to.2

    -- it is answered, and knows what it knew
    pub replied : (asked : Request) (at : Spot) (after : Log) (given : Answer) → does ≡ halt.Ask asked at
        → ((known : Known) → asks around levels call view (here_of answers log known) asked ≡ On (here_of (answers ++ given ∷ []) after known))
        → IsAt around results name (task_at levels view knows after (Going body values (answers ++ given ∷ [])))
    replied asked at after given asking does_so = moved asked at knows after given asking (λ known matches. (known, matches, does_so known))

    pub ends : (asked : Request) (at : Spot) (outcome : Outcome) → does ≡ halt.Ask asked at
        → ((known : Known) → Matches results knows known → asks around levels call view (here_of answers log known) asked ≡ End outcome (here_of answers log known))
        → IsAt around results name (task_at levels view knows log (Ended outcome))
    ends asked at outcome asking does_so = record {
      known = is.known;
      matches = is.matches;
      comes = turns_end around levels call body values view (here_of answers log is.known) (results name) is.comes asked at outcome asking (does_so is.known is.matches);
    }

    pub faults : (code : Code) (at : Spot) → does ≡ halt.Fault code at → IsAt around results name (task_at levels view knows log (Ended (Fault code at)))
    faults code at so = record { known = is.known; matches = is.matches; comes = turns_fault around levels call body values view (here_of answers log is.known) (results name) is.comes code at so }

    pub spent : does ≡ halt.Spent → IsAt around results name (task_at levels view knows log (Ended Spent))
    spent so = record { known = is.known; matches = is.matches; comes = turns_spent around levels call body values view (here_of answers log is.known) (results name) is.comes so }

    pub valued : (v : Datum) → does ≡ halt.Value v → IsAt around results name (task_at levels view knows log (Closing v 0))
    valued v so = record { known = is.known; matches = is.matches; comes = turns_value around levels call body values view (here_of answers log is.known) (results name) is.comes v so }

    -- ---- a ref
    pub reads : (ref : Name) (at : Spot) (v : Datum) → does ≡ halt.Ask (request.Deref ref) at → read_in around view log ref ≡ Some v
        → IsAt around results name (task_at levels view knows log (Going body values (answers ++ answer.Value v ∷ [])))
    reads ref at v asking found = replied (request.Deref ref) at log (answer.Value v) asking (λ known. ap (looks_up (here_of answers log known)) found)

    -- ---- a plain task
    pub plain : (future : Name) (at : Spot) (v : Datum) → does ≡ halt.Ask (request.Join future) at → is_among future knows ≡ false → around.finished future ≡ Some v
        → IsAt around results name (task_at levels view knows log (Going body values (answers ++ answer.Value v ∷ [])))
    plain future at v asking unknown done = moved (request.Join future) at knows log (answer.Value v) asking (λ known matches. (
      known,
      matches,
      ap (joins_found around (here_of answers log known) future) (unmatched results knows known future matches unknown) ∙ ap (looks_up (here_of answers log known)) done,
    ))

    -- ---- a known task that ended
    module _ (future : Name) (at : Spot) (asking : does ≡ halt.Ask (request.Join future) at) (there : is_among future knows ≡ true)
        (child_levels : ℕ) (child_view : Named Datum) (child_knows : List Name) (child_log : Log) where
      -- it is joined for the first time
      pub joined_first : (v : Datum) (both : List Name) → IsAt around results future (task_at child_levels child_view child_knows child_log (Ended (Value v))) → is_among future log.joined ≡ false → AreBoth knows child_knows both
          → IsAt around results name (task_at levels view both (merged log child_log) (Going body values (answers ++ answer.Value v ∷ [])))
      joined_first v both child apart all = moved (request.Join future) at both (merged log child_log) (answer.Value v) asking (λ known matches.
          let here = here_of answers log known in
          let done = result (Value v) child_log child.known in (
            with_known known child.known,
            matches_both results knows child_knows both known child.known all matches child.matches,
            ap (joins_found around here future) (matched results knows known future matches there ∙ ap Some (sym child.comes))
                ∙ ap (λ b. let after = (cond b here (record here { log = merged log child_log; known = with_known known child.known })) in gets after after.log v) apart,
          ))

      -- it is joined again
      pub joined_again : (v : Datum) → IsAt around results future (task_at child_levels child_view child_knows child_log (Ended (Value v))) → is_among future log.joined ≡ true
          → IsAt around results name (task_at levels view knows log (Going body values (answers ++ answer.Value v ∷ [])))
      joined_again v child among = moved (request.Join future) at knows log (answer.Value v) asking (λ known matches.
          let here = here_of answers log known in (
            known,
            matches,
            ap (joins_found around here future) (matched results knows known future matches there ∙ ap Some (sym child.comes))
                ∙ ap (λ b. let after = (cond b here (record here { log = merged log child_log; known = with_known known child.known })) in gets after after.log v) among,
          ))

      -- its other end is the joining task's own
      pub joined_badly : (outcome : Outcome) → IsBad outcome → IsAt around results future (task_at child_levels child_view child_knows child_log (Ended outcome))
          → IsAt around results name (task_at levels view knows log (Ended outcome))
      joined_badly outcome bad child = ends (request.Join future) at outcome asking (λ known matches.
          ap (joins_found around (here_of answers log known) future) (matched results knows known future matches there ∙ ap Some (sym child.comes))
          ∙ on outcome bad (here_of answers log known) child.known)
        where
          on : (o : Outcome) → IsBad o → (here : Here) (known : Known) → joins here future (result o child_log known) o (λ after v. gets after after.log v) ≡ End o here
          on (Value v) never here known = absurd never
          on (Fault code at) is here known = refl
          on Spent is here known = refl
          on Blocked is here known = refl

  -- ---- the end
  module _ (v : Datum) (k : ℕ) (is : IsAt around results name (task_at levels view knows log (Closing v k))) where
    abbrev child : Name
    child = made_by log.name k

    -- all children are joined
    pub closed : k ≡ log.made → IsAt around results name (task_at levels view knows log (Ended (Value v)))
    closed all = record { known = is.known; matches = is.matches; comes = joins_last v k log is.known (results name) is.comes all }

    module _ (more : k < log.made) where
      passed : (b : Bool) (found : Option Result) → is_among child log.joined ≡ b → result_of child is.known ≡ found → cond b None found ≡ no_result
          → IsAt around results name (task_at levels view knows log (Closing v (k + 1)))
      passed b found among known none = record {
        known = is.known;
        matches = is.matches;
        comes = joins_on v k log log is.known is.known (results name) is.comes more refl (λ answers.
            ap (joins_child (here_of answers log is.known) child) (ap (λ c. cond c None (result_of child is.known)) among ∙ ap (cond b None) known ∙ none));
      }

      -- what it made with that number is no task that it knows
      pub closes_unknown : is_among child knows ≡ false → IsAt around results name (task_at levels view knows log (Closing v (k + 1)))
      closes_unknown unknown = passed (is_among child log.joined) None refl (unmatched results knows is.known child is.matches unknown) (on (is_among child log.joined))
        where
          on : (b : Bool) → cond b no_result no_result ≡ no_result
          on true = refl
          on false = refl

      -- it has joined it
      pub closes_joined : is_among child log.joined ≡ true → IsAt around results name (task_at levels view knows log (Closing v (k + 1)))
      closes_joined among = passed true (result_of child is.known) among refl refl

      module _ (there : is_among child knows ≡ true) (apart : is_among child log.joined ≡ false) (child_levels : ℕ) (child_view : Named Datum) (child_knows : List Name) (child_log : Log) where
        unjoined_is : (answers : List Answer) (outcome : Outcome) (at : IsAt around results child (task_at child_levels child_view child_knows child_log (Ended outcome)))
            → unjoined (here_of answers log is.known) child ≡ Some (result outcome child_log at.known)
        unjoined_is answers outcome at = ap (λ b. cond b None (result_of child is.known)) apart ∙ matched results knows is.known child is.matches there ∙ ap Some (sym at.comes)

        -- it is joined
        pub closes_child : (w : Datum) (both : List Name) → IsAt around results child (task_at child_levels child_view child_knows child_log (Ended (Value w))) → AreBoth knows child_knows both
            → IsAt around results name (task_at levels view both (merged log child_log) (Closing v (k + 1)))
        closes_child w both at all = record {
          known = with_known is.known at.known;
          matches = matches_both results knows child_knows both is.known at.known all is.matches at.matches;
          comes = joins_on v k log (merged log child_log) is.known (with_known is.known at.known) (results name) is.comes more refl (λ answers.
              ap (joins_child (here_of answers log is.known) child) (unjoined_is answers (Value w) at)
              ∙ ap (λ b. On (cond b (here_of answers log is.known) (here_of answers (merged log child_log) (with_known is.known at.known)))) apart);
        }

        pub closes_badly : (outcome : Outcome) → IsBad outcome → IsAt around results child (task_at child_levels child_view child_knows child_log (Ended outcome))
            → IsAt around results name (task_at levels view knows log (Ended outcome))
        closes_badly outcome bad at = record {
          known = is.known;
          matches = is.matches;
          comes = joins_end v k log is.known (results name) outcome is.comes more (λ answers.
              ap (joins_child (here_of answers log is.known) child) (unjoined_is answers outcome at) ∙ on outcome bad (here_of answers log is.known) at.known);
        }
          where
            on : (o : Outcome) → IsBad o → (here : Here) (known : Known) → joins here child (result o child_log known) o (λ after w. On after) ≡ End o here
            on (Value w) never here known = absurd never
            on (Fault code at) is here known = refl
            on Spent is here known = refl
            on Blocked is here known = refl
