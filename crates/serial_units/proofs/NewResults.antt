-- Results are added only for what a task makes, so what it has yet to make has none.
use Rattle.std.proofs.Common.{Bool, true, false, ◌≡◌, ◌∙◌, ℕ, ◌<◌, List, [], ◌∷◌, ◌++◌, append_assoc, sym, ap, subst, None, arith}
use Rattle.serial_model.specs.Log.{Log, new_log, with_made}
use Rattle.value_core.specs.Named.{Name, Named, named, with_named, is_among, made_by}
use Rattle.value_core.proofs.NamedLaws.{named-other}
use Rattle.serial_model.proofs.Early.{not-below-itself}
use Rattle.std.proofs.lemmas.List.{append-nil}
use Rattle.serial_units.specs.declared.task.Done.{Done}
use Rattle.serial_units.specs.declared.task.Task.{Task}
use Rattle.serial_units.specs.declared.task.TaskEnd.{TaskEnd}
use Rattle.serial_units.specs.declared.task.TaskEnd.TheVariants as end
use Rattle.serial_units.specs.declared.tasks.Met.{Met}
use Rattle.serial_units.specs.Tasks.{AddsBelow, AddsMade, IsFree, IsJoined, IsJoinedAs, IsMerged, IsUnmade, KeepsMade}

-- what a task makes is known by its number
same_number : (name : Name) (k j : ℕ) (a b : List ℕ) → name ++ k ∷ a ≡ name ++ j ∷ b → k ≡ j
same_number [] k j a b same = cc
same_number (x ∷ name) k j a b same = let rest : name ++ k ∷ a ≡ name ++ j ∷ b = cc in same_number name k j a b rest

-- one step after the other
pub keeps_both : (before between after : Log) → KeepsMade before between → KeepsMade between after → KeepsMade before after
keeps_both before between after one two = record { name = two.name ∙ one.name; made = two.made ∙ one.made }

pub adds_both : (old mid new : Named Done) (before between after : Log) → AddsMade old before mid between → AddsMade mid between new after → AddsMade old before new after
adds_both old mid new before between after one two = record {
  name = two.name ∙ one.name;
  more = omega (arith, one.more, two.more);
  added = λ g apart.
      two.added g (λ k rest low high same. apart k rest (omega (arith, one.more, low)) high (same ∙ ap (λ name. name ++ k ∷ rest) one.name))
      ∙ one.added g (λ k rest low high. apart k rest low (omega (arith, two.more, high)));
}

-- what the task has yet to make has no result after it, either
pub still_unmade : (old new : Named Done) (before after : Log) → IsUnmade old before → AddsMade old before new after → IsUnmade new after
still_unmade old new before after unmade adds k rest far =
    subst (λ name. named (name ++ k ∷ rest) new ≡ None) (sym adds.name)
    (adds.added (before.name ++ k ∷ rest) (λ j more low high same. let number = same_number before.name k j rest more same in absurd (omega (arith, far, high, number)))
    ∙ unmade k rest (omega (arith, adds.more, far)))

-- nor has the next thing that it makes, and nothing below that
pub next_free : (results : Named Done) (log : Log) (future : Name) → IsUnmade results log → future ≡ made_by log.name log.made → IsFree results future
next_free results log future unmade is rest =
    ap (λ name. named (name ++ rest) results) is ∙ ap (λ name. named name results) (append_assoc log.name (log.made ∷ []) rest) ∙ unmade log.made rest (omega arith)

-- a child adds results below its name alone
pub adds_below : (old started ran new : Named Done) (log after : Log) (name : Name) → started ≡ old → new ≡ ran → log ≡ new_log name → AddsMade started log ran after → AddsBelow name old new
adds_below old started ran new log after name same_old same_new is adds =
    λ g apart. ap (named g) same_new ∙ adds.added g (λ k rest low high same. apart k rest (same ∙ ap (λ (l : Log). l.name ++ k ∷ rest) is)) ∙ ap (named g) same_old

-- so after its child a name is free of a result
pub still_free : (old new : Named Done) (name : Name) → IsFree old name → AddsBelow name old new → named name new ≡ None
still_free old new name free adds =
    adds name (λ k rest. not-below-itself name k rest) ∙ subst (λ n. named n old ≡ None) (append-nil name) (free [])

-- a fork adds results for the next thing that the task makes, and below that
pub fork_adds : (old mid new : Named Done) (before after : Log) (future : Name) (done : Done) → future ≡ made_by before.name before.made → AddsBelow future old mid → new ≡ with_named mid future done
    → after ≡ with_made before → AddsMade old before new after
fork_adds old mid new before after future done is below kept made = record {
  name = ap (λ (l : Log). l.name) made;
  more = let count = ap (λ (l : Log). l.made) made in omega arith;
  added = λ g apart.
      let high : before.made < after.made = (let count = ap (λ (l : Log). l.made) made in omega arith) in
      ap (named g) kept ∙ named-other g future done mid (λ same. apart before.made [] (omega arith) high (same ∙ is))
      ∙ below g (λ k rest same. apart before.made (k ∷ rest) (omega arith) high (same ∙ ap (λ name. name ++ k ∷ rest) is ∙ append_assoc before.name (before.made ∷ []) (k ∷ rest)));
}

-- a task that is joined keeps its name, and what it has made
pub joined_keeps : (old new : Task) (future : Name) (done : Done) (found : Met) → IsJoined old new future done found → KeepsMade old.log new.log
joined_keeps old new future done found joined = on done.end joined
  where
    same : new ≡ old → KeepsMade old.log new.log
    same is = record { name = ap (λ (t : Task). t.log.name) is; made = ap (λ (t : Task). t.log.made) is }

    taken : (b : Bool) → IsMerged b old new done → KeepsMade old.log new.log
    taken true is = same is
    taken false is = record { name = ap (λ (l : Log). l.name) is.0; made = ap (λ (l : Log). l.made) is.0 }

    on : (e : TaskEnd) → IsJoinedAs e old new future done found → KeepsMade old.log new.log
    on (end.Value v) is = taken (is_among future old.log.joined) is.1
    on (end.Fault code at) is = same is.1
    on end.Spent is = same is.1
    on end.Blocked is = same is.1
