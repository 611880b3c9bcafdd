-- The attempt of a unit is undone as a whole.
use Rattle.std.proofs.Common.{◌≡◌, ◌∙◌, true, [], ◌∷◌, ◌++◌, sym, ap, subst}
use Rattle.std.specs.Prelude.{IfSome, None, Some}
use Rattle.attempt_undoing.proofs.Chain.{IsWay, all-found, first-way, going-way}
use Rattle.attempt_undoing.proofs.Claims.{idle-end}
use Rattle.attempt_undoing.proofs.Undoes.{undone-so}
use Rattle.attempt_undoing.specs.declared.undoing.Undone.{Undone}
use Rattle.attempt_undoing.specs.Hanging.{IsAll}
use Rattle.attempt_undoing.specs.Sends.{ActorsMarked}
use Rattle.attempt_undoing.specs.Turns.{NoneHangs, StandingLeft}
use Rattle.attempt_undoing.specs.Undoing.{HasUndone, IsTaken, UndoneFrom, UndoneTaken}
use Rattle.shared_world.specs.Marks.{AreMarkedBeside}
use Rattle.shared_world.specs.rows.Attempts.{ArePrunedFor}
use Rattle.shared_world.specs.rows.Undoing.{IdleEnd, Undoes}
use Rattle.shared_world.specs.Shared.{Shared, is_going}
use Rattle.shared_world.specs.Stands.{Stands}
use Rattle.task_fork_join.specs.Attempt.{Attempt}
use Rattle.unit_table.specs.Board.{LentAreReady, unit_at}
use Rattle.unit_table.specs.declared.unit.Unit.{Unit}
use Rattle.value_core.specs.Named.{Name}

module _ (s : Shared) (st : Stands s) (on_going : s.end ≡ None) (u : Name) (marks : AreMarkedBeside s u) (tree : Attempt) (taken : Shared) (is : IsTaken s u tree taken) (new : Shared) (undone : UndoneTaken u tree taken new) where
  going : is_going s.end ≡ true
  going = ap is_going on_going

  right : ActorsMarked s
  right a x at = marks.actors a x at

  same-aheads : taken.aheads ≡ s.aheads
  same-aheads = ap (λ (k : Shared). k.aheads) is.taken_is

  way : IsWay s st going u tree is.there undone.hanging.turns undone.last
  way = going-way s st going u tree is.there taken.aheads same-aheads undone.mid (first-way s st going u tree is.there right taken is undone.mid undone.tree_gone) undone.hanging.turns undone.last undone.hanging.going

  all : IsAll s u tree.root undone.hanging.turns way.sends
  all = all-found s st going u tree is.there undone.hanging.turns undone.last way (subst (λ aheads. NoneHangs aheads undone.last.taken undone.last.board) same-aheads undone.hanging.none)

  mid-is : undone.mid ≡ record s { board = undone.mid.board; mails = undone.tree_gone.mid.mails; taken = undone.tree_gone.mid.taken; aheads = []; attempts = taken.attempts }
  mid-is = undone.tree_gone.new_is ∙ ap (λ (k : Shared). record k { board = undone.mid.board }) (undone.tree_gone.mid_is
      ∙ ap (λ (k : Shared). record k { board = undone.tree_gone.mid.board; mails = undone.tree_gone.mid.mails; taken = undone.tree_gone.mid.taken; aheads = [] }) is.taken_is)

  whole-last : undone.last ≡ record s { board = undone.last.board; mails = undone.last.mails; taken = undone.last.taken; aheads = []; attempts = undone.last.attempts }
  whole-last = undone.last_is ∙ ap (λ (k : Shared). record k { board = undone.last.board; attempts = undone.last.attempts; mails = undone.last.mails; taken = undone.last.taken }) mid-is

  last-is : undone.last ≡ record s { board = undone.last.board; mails = undone.last.mails; taken = undone.last.taken; aheads = undone.last.aheads; attempts = undone.last.attempts }
  last-is = whole-last ∙ sym (ap (λ (k : Shared). record s { board = k.board; mails = k.mails; taken = k.taken; aheads = k.aheads; attempts = k.attempts }) whole-last)

  standing : StandingLeft undone.last.board s.aheads new.aheads
  standing = subst (λ aheads. StandingLeft undone.last.board aheads new.aheads) same-aheads undone.aheads

  pruned : ArePrunedFor new.attempts s.versions new.versions
  pruned = subst (λ versions. ArePrunedFor new.attempts versions new.versions) (ap (λ (k : Shared). k.versions) last-is) undone.versions

  pub has-undone : HasUndone s u new
  has-undone x t at_u own =
      let both : Some tree ≡ Some t = sym is.there ∙ own in
      let same : tree ≡ t = cc in
      subst (λ (k : Attempt). Undoes s u x k new) same
      (undone-so s st on_going u x tree at_u is.there undone.hanging.turns way.sends all undone.last way.undoing marks new last-is undone.readied standing undone.new_is pruned)

  pub claims-end : (x : Unit) → unit_at s.board u ≡ Some x → LentAreReady s.board → LentAreReady new.board → IdleEnd s new
  claims-end x at_u old_ready new_ready =
      idle-end s st on_going u marks x tree at_u is.there undone.hanging.turns way.sends all undone.last way.undoing new undone.readied old_ready new_ready
      (ap (λ (k : Shared). k.end) undone.new_is ∙ ap (λ (k : Shared). k.end) last-is)

  -- and as it is said where the unit is not asked for
  pub undone-from : (x : Unit) → unit_at s.board u ≡ Some x → LentAreReady s.board → LentAreReady new.board → (found : Undone) → found.unit ≡ u → found.reads.items ≡ tree.reads → UndoneFrom s u new found
  undone-from x at_u old_ready new_ready found unit reads = record {
    undone = has-undone;
    claims = claims-end x at_u old_ready new_ready;
    unit = unit;
    reads = subst (λ f. IfSome f (λ t. found.reads.items ≡ t.reads)) (sym is.there) reads;
  }
