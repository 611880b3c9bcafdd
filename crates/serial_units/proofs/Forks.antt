-- A task forks a child.
use Rattle.std.proofs.Common.{◌≡◌, ◌∙◌, ℕ, suc, Bool, true, false, List, [], ◌∷◌, ◌++◌, refl, sym, ap, subst, Option, Some, None}
use Rattle.std.specs.Prelude.{◌||◌, is_some, T, if◌then◌else◌}
use Rattle.std.specs.List.{list_any}
use Rattle.std.specs.BTreeMap.{is_at}
use Rattle.std.specs.BTreeSet.{BTreeSet}
use Rattle.value_core.specs.Name.{after_cmp}
use Rattle.std.proofs.lemmas.List.Folds.{list_any-append}
use Rattle.value_core.specs.declared.value.Value.{Value as Datum}
use Rattle.serial_model.specs.declared.answer.Answer.{Answer}
use Rattle.value_core.specs.NameOrder.{same_name_equiv}
use Rattle.value_core.specs.declared.value.Value.TheVariants as value
use Rattle.core_syntax.specs.declared.node_id.NodeId.{NodeId}
use Rattle.serial_model.specs.declared.answer.Answer.TheVariants as answer
use Rattle.serial_model.specs.Log.{with_made}
use Rattle.value_core.specs.Named.{Name, Named, named, with_named, same_name, over, made_by}
use Rattle.serial_model.specs.Task as meaning
use Rattle.serial_model.specs.Task.{Around, Known, And, Result, result_of}
use Rattle.value_core.proofs.NamedLaws.{named-here, named-other}
use Rattle.serial_units.specs.declared.task.Done.{Done}
use Rattle.serial_units.specs.declared.task.Task.{Task}
use Rattle.serial_units.specs.declared.tasks.Reply.TheVariants as reply
use Rattle.value_core.specs.NameSet.{has_name}
use Rattle.serial_units.specs.Tasks.{knows, knows_below, with_top, Knows, IsReply, IsResult, Extends, view_of}
use Rattle.serial_model.specs.Standing.{call_below, here_of}
use Rattle.serial_units.proofs.KnownResults.{kept_longer, kept_wider}
use Rattle.serial_units.proofs.Replies.{view_more}

-- what is new leaves what was there
pub new_extends : (old new : Named Done) (name : Name) (done : Done) → new ≡ with_named old name done → named name old ≡ None → Extends old new
new_extends old new name done is free future kept there =
    ap (named future) is ∙ named-other future name done old (λ same. absurd (subst T (ap is_some (sym (subst (λ n. named n old ≡ Some kept) same there) ∙ free)) tt)) ∙ there

pub new_there : (old new : Named Done) (name : Name) (done : Done) → new ≡ with_named old name done → named name new ≡ Some done
new_there old new name done is = ap (named name) is ∙ named-here name done old

pub extends_both : (old mid new : Named Done) → Extends old mid → Extends mid new → Extends old new
extends_both old mid new first second future done there = second future done (first future done there)

-- what is known above the running task is what it knows itself
pub known_above : (below : List Task) (top : Task) (g : Name) → knows_below (with_top below top) g ≡ (has_name top.known g || knows_below below g)
known_above below top g = list_any-append (λ task. has_name task.known g) below (top ∷ []) ∙ turned (knows_below below g) (has_name top.known g)
  where
    turned : (a b : Bool) → (a || (b || false)) ≡ (b || a)
    turned true true = refl
    turned true false = refl
    turned false true = refl
    turned false false = refl

-- a child begins with what its parent knows
pub begins_knowing : (results : Named Done) (below : List Task) (top : Task) (own : BTreeSet Name) (known : Known) → own.keys ≡ [] → Knows results below top.known known → Knows results (with_top below top) own known
begins_knowing results below top own known empty knows = record {
  same = λ g. knows.same g ∙ sym (known_above below top g) ∙ ap (λ keys. list_any (is_at (after_cmp g)) keys || knows_below (with_top below top) g) (sym empty);
  kept = knows.kept;
}

-- the parent knows the child's result, which is kept
pub knows_child : (old mid new : Named Done) (below : List Task) (top after : Task) (future : Name) (done : Done) (known : Known) (child : Result) → Knows old below top.known known
    → Extends old mid → Extends mid new → named future new ≡ Some done → IsResult mid (with_top below top) done.task done.end child
    → ((g : Name) → has_name after.known g ≡ (has_name top.known g || same_name g future)) → ((a b : Name) → same_name a b ≡ same_name b a)
    → Knows new below after.known (And future child.outcome child.log child.known known)
knows_child old mid new below top after future done known child knew first second there is learned turn = record {
  same = λ g. found_first g ∙ ap (λ b. b || knows_below below g) (sym (learned g));
  kept = (
    record {
      done = done;
      there = there;
      outcome_is = is.outcome_is;
      log_is = is.log_is;
      learned = λ g has. is.knows.same g ∙ ap (λ b. b || knows_below (with_top below top) g) has;
      near = λ g has. near g (sym (is.knows.same g) ∙ has);
    },
    kept_longer mid new (knows child.known) child.known second is.knows.kept,
    kept_wider new (knows known) all known (λ g has. later g has) (kept_longer old new (knows known) known (extends_both old mid new first second) knew.kept),
  );
}
  where
    all : Name → Bool
    all = knows (And future child.outcome child.log child.known known)

    picked : (b : Bool) (r : Result) (o : Option Result) (p : Bool) → is_some o ≡ p → is_some (if b then Some r else o) ≡ (b || p)
    picked true r o p is = refl
    picked false r o p is = is

    regroup : (a b c : Bool) → (a || (b || c)) ≡ ((b || a) || c)
    regroup true true c = refl
    regroup true false c = refl
    regroup false true c = refl
    regroup false false c = refl

    found_first : (g : Name) → all g ≡ ((has_name top.known g || same_name g future) || knows_below below g)
    found_first g = picked (same_name future g) child (result_of g known) _ (knew.same g) ∙ ap (λ b. b || (has_name top.known g || knows_below below g)) (turn future g)
        ∙ regroup (same_name g future) (has_name top.known g) (knows_below below g)

    later : (g : Name) → knows known g ≡ true → all g ≡ true
    later g has = picked (same_name future g) child (result_of g known) (knows known g) refl ∙ ap (λ b. same_name future g || b) has ∙ truly (same_name future g)
      where
        truly : (b : Bool) → (b || true) ≡ true
        truly true = refl
        truly false = refl

    near : (g : Name) → (has_name done.task.known g || knows_below (with_top below top) g) ≡ true → (has_name done.task.known g || all g) ≡ true
    near g has = on (has_name done.task.known g) (knows_below (with_top below top) g) has (λ is. later g (knew.same g ∙ sym (known_above below top g) ∙ is))
      where
        on : (a b : Bool) → (a || b) ≡ true → (b ≡ true → all g ≡ true) → (a || all g) ≡ true
        on true b is to = refl
        on false b is to = to is

-- the parent is answered with the child's future
pub forked : (around : Around) (levels : ℕ) (old mid new : Named Done) (below : List Task) (top after : Task) (future : Name) (done : Done) (answers : List Answer) (known : Known)
    (body : NodeId) (values : List Datum) (given : Answer) → Knows old below top.known known → Extends old mid → Extends mid new → named future new ≡ Some done
    → IsResult mid (with_top below top) done.task done.end (meaning.task around levels future body values (view_of (with_top below top)) known)
    → ((g : Name) → has_name after.known g ≡ (has_name top.known g || same_name g future)) → after.log ≡ with_made top.log
    → given ≡ answer.Value (value.Future future) → future ≡ made_by top.log.name top.log.made
    → IsReply new below after answers (reply.Answer given) (meaning.forks (suc levels) (call_below around (suc levels)) (view_of below) (here_of answers top.log known) body values)
forked around levels old mid new below top after future done answers known body values given knew first second there is learned log answered name =
    subst (λ made. IsReply new below after answers (reply.Answer given)
    (meaning.with_child (here_of answers top.log known) made (meaning.task around levels made body values (over top.log.writes (view_of below)) known))) name
    (subst (λ view. IsReply new below after answers (reply.Answer given)
    (meaning.with_child (here_of answers top.log known) future (meaning.task around levels future body values view known))) (view_more below top) (
      record {
        log = log;
        knows = knows_child old mid new below top after future done known (meaning.task around levels future body values (view_of (with_top below top)) known) knew first second there is learned turned;
      },
      ap (λ a. answers ++ a ∷ []) (sym answered),
    ))
  where
    turned : (a b : Name) → same_name a b ≡ same_name b a
    turned a b = same_name_equiv.symm a b
