-- The replies to joins and reads.
use Rattle.std.proofs.Common.{◌≡◌, ◌∙◌, ℕ, zero, suc, ◌-◌, ◌≤◌, length, take, get_or, arith, Bool, true, false, List, [], ◌∷◌, ◌++◌, refl, sym, ap, subst, Option, Some, None}
use Rattle.std.specs.Prelude.{if◌then◌else◌}
use Rattle.std.specs.Option.{option_or}
use Rattle.std.proofs.lemmas.Grind.{fold-append}
use Rattle.value_core.specs.declared.value.Value.{Value as Datum}
use Rattle.serial_model.specs.declared.answer.Answer.{Answer}
use Rattle.serial_model.specs.declared.answer.Answer.TheVariants as answer
use Rattle.serial_model.specs.Log.{Log, merged}
use Rattle.value_core.specs.Named.{Name, Named, named, over, is_among, Rises}
use Rattle.serial_model.specs.Task as meaning
use Rattle.serial_model.specs.Task.{Around, Here, Known, Outcome, Result, result_of, with_known, after_join, joins_found, looks_up}
use Rattle.serial_units.specs.declared.task.Done.{Done}
use Rattle.serial_units.specs.declared.task.Task.{Task}
use Rattle.serial_units.specs.declared.task.TaskEnd.{TaskEnd}
use Rattle.serial_units.specs.declared.task.TaskEnd.TheVariants as end
use Rattle.serial_units.specs.declared.tasks.Met.TheVariants as met
use Rattle.serial_units.specs.declared.tasks.Reply.TheVariants as reply
use Rattle.serial_model.specs.Standing.{here_of}
use Rattle.serial_units.specs.Tasks.{view_of, IsMet, IsMetAs, IsReply}
use Rattle.value_core.proofs.NamedLaws.{named-upon}

-- a join leaves the answers
after_join-answers : (here : Here) (future : Name) (child : Result) → (after_join here future child).answers ≡ here.answers
after_join-answers here future child = on (is_among future here.log.joined)
  where
    on : (b : Bool) → (if b then here else record here { log = merged here.log child.log; known = with_known here.known child.known }).answers ≡ here.answers
    on true = refl
    on false = refl

module _ (results : Named Done) (below : List Task) (task : Task) (around : Around) (answers : List Answer) (log : Log) (known : Known) (future : Name) where
  -- the value of a known task
  pub value_replied : (v : Datum) → IsMet results below task (here_of answers log known) future (met.Value v) (result_of future known)
      → IsReply results below task answers (reply.Answer (answer.Value v)) (joins_found around (here_of answers log known) future (result_of future known))
  value_replied v is = on (result_of future known) is
    where
      ends : (child : Result) (outcome : Outcome) → IsMetAs results below task (here_of answers log known) future (met.Value v) child outcome
          → IsReply results below task answers (reply.Answer (answer.Value v)) (meaning.joins (here_of answers log known) future child outcome (λ after v. meaning.gets after after.log v))
      ends child (meaning.Value w) is =
          (record { log = is.1.log; knows = is.1.knows }, ap (λ before. before ++ answer.Value w ∷ []) (after_join-answers (here_of answers log known) future child) ∙ ap (λ u. answers ++ answer.Value u ∷ []) (sym is.0))
      ends child (meaning.Fault code at) is = absurd is
      ends child meaning.Spent is = absurd is
      ends child meaning.Blocked is = absurd is

      on : (o : Option Result) → IsMet results below task (here_of answers log known) future (met.Value v) o
          → IsReply results below task answers (reply.Answer (answer.Value v)) (joins_found around (here_of answers log known) future o)
      on None is = cc
      on (Some child) is = ends child child.outcome is

  -- another end of a known task
  pub end_replied : (e : TaskEnd) → IsMet results below task (here_of answers log known) future (met.Ended e) (result_of future known)
      → IsReply results below task answers (reply.Ended e) (joins_found around (here_of answers log known) future (result_of future known))
  end_replied e is = on (result_of future known) is
    where
      ends : (child : Result) (outcome : Outcome) → IsMetAs results below task (here_of answers log known) future (met.Ended e) child outcome
          → IsReply results below task answers (reply.Ended e) (meaning.joins (here_of answers log known) future child outcome (λ after v. meaning.gets after after.log v))
      ends child (meaning.Value w) is = absurd is
      ends child (meaning.Fault code at) is = record { outcome_is = is.0; log_is = is.1.log; knows = is.1.knows }
      ends child meaning.Spent is = record { outcome_is = is.0; log_is = is.1.log; knows = is.1.knows }
      ends child meaning.Blocked is = record { outcome_is = is.0; log_is = is.1.log; knows = is.1.knows }

      on : (o : Option Result) → IsMet results below task (here_of answers log known) future (met.Ended e) o
          → IsReply results below task answers (reply.Ended e) (joins_found around (here_of answers log known) future o)
      on None is = cc
      on (Some child) is = ends child child.outcome is

  -- the value of a plain unit
  pub plain_replied : (v : Datum) → around.finished future ≡ Some v → IsMet results below task (here_of answers log known) future met.Unknown (result_of future known)
      → IsReply results below task answers (reply.Answer (answer.Value v)) (joins_found around (here_of answers log known) future (result_of future known))
  plain_replied v there is = on (result_of future known) is
    where
      ends : (child : Result) (outcome : Outcome) → IsMetAs results below task (here_of answers log known) future met.Unknown child outcome → ⊥
      ends child (meaning.Value w) is = is
      ends child (meaning.Fault code at) is = is
      ends child meaning.Spent is = is
      ends child meaning.Blocked is = is

      on : (o : Option Result) → IsMet results below task (here_of answers log known) future met.Unknown o
          → IsReply results below task answers (reply.Answer (answer.Value v)) (joins_found around (here_of answers log known) future o)
      on None is = subst (λ f. IsReply results below task answers (reply.Answer (answer.Value v)) (looks_up (here_of answers log known) f)) (sym there) (record { log = is.1.log; knows = is.1.knows }, refl)
      on (Some child) is = absurd (ends child child.outcome is)

  -- nothing is there
  pub nothing_replied : around.finished future ≡ None → IsMet results below task (here_of answers log known) future met.Unknown (result_of future known)
      → IsReply results below task answers (reply.Ended end.Blocked) (joins_found around (here_of answers log known) future (result_of future known))
  nothing_replied missing is = on (result_of future known) is
    where
      ends : (child : Result) (outcome : Outcome) → IsMetAs results below task (here_of answers log known) future met.Unknown child outcome → ⊥
      ends child (meaning.Value w) is = is
      ends child (meaning.Fault code at) is = is
      ends child meaning.Spent is = is
      ends child meaning.Blocked is = is

      on : (o : Option Result) → IsMet results below task (here_of answers log known) future met.Unknown o
          → IsReply results below task answers (reply.Ended end.Blocked) (joins_found around (here_of answers log known) future o)
      on None is = subst (λ f. IsReply results below task answers (reply.Ended end.Blocked) (looks_up (here_of answers log known) f)) (sym missing) (record { outcome_is = refl; log_is = is.1.log; knows = is.1.knows })
      on (Some child) is = absurd (ends child child.outcome is)

-- ---- the view
-- the view of a task above these and one more
pub view_more : (tasks : List Task) (task : Task) → view_of (tasks ++ task ∷ []) ≡ over task.log.writes (view_of tasks)
view_more tasks task = fold-append _ [] tasks (task ∷ [])

-- what the view has is the last one's, or that of those before it
pub viewed_last : (tasks rest : List Task) (last : Task) (name : Name) → tasks ≡ rest ++ last ∷ [] → Rises last.log.writes
    → named name (view_of tasks) ≡ option_or (named name last.log.writes) (named name (view_of rest))
viewed_last tasks rest last name is rises = ap (λ ts. named name (view_of ts)) is ∙ ap (named name) (view_more rest last) ∙ named-upon name last.log.writes (view_of rest) rises

-- a list is its first items and its last one
last_at : (n : ℕ) (tasks : List Task) (last : Task) → length tasks ≡ suc n → last ≡ get_or tasks n last → tasks ≡ take n tasks ++ last ∷ []
last_at zero [] last many is = absurd (omega arith)
last_at zero (task ∷ []) last many is = ap (λ t. t ∷ []) (sym is)
last_at zero (task ∷ next ∷ more) last many is = absurd (omega arith)
last_at (suc n) [] last many is = absurd (omega arith)
last_at (suc n) (task ∷ more) last many is = ap (λ ts. task ∷ ts) (last_at n more last (omega arith) is)

pub last_split : (tasks : List Task) (last : Task) → 1 ≤ length tasks → last ≡ get_or tasks (length tasks - 1) last → tasks ≡ take (length tasks - 1) tasks ++ last ∷ []
last_split tasks last some is = last_at (length tasks - 1) tasks last (omega arith) is
